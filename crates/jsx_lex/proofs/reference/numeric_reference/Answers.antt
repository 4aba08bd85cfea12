use Rattle.std.specs.Char.{is_digit}
use Rattle.jsx_lex.proofs.Scanning.{list_all-run}
use Rattle.jsx_lex.proofs.Digits.{AllDigits-from_run}
use Rattle.jsx_lex.proofs.reference.numeric_reference.Goals as goal

pub character_of-requires-clause-digits : goal.character_of-requires-clause-digits
character_of-requires-clause-digits c = AllDigits-from_run c.args.radix c.split_at.result.0.now (rw (c.split_at.ensures.front, c.digits_len-size.ensures.size) (list_all-run (λ b. is_digit b c.args.radix) c.args.rest.now))
