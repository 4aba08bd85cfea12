use Rattle.std.proofs.Common.{arith}
use Rattle.jsx_lex.proofs.Digits.{digits_utf8}
use Rattle.jsx_lex.proofs.reference.character_of.Goals as goal

pub returns-in_default : goal.returns-in_default
returns-in_default c = absurd (c.in_default.ensures.cases.0 (digits_utf8 c.args.radix c.args.digits.now (omega arith) c.requires.digits))
