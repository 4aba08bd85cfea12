use Rattle.std.proofs.Common.{◌-◌, length}
use Rattle.jsx_lex.proofs.StringDecoding.{Decodes}
use Rattle.jsx_lex.proofs.meaning.decode_string.Given as goal

abbrev pub invariant-parts : goal.invariant-parts
invariant-parts l = Decodes l.fn.word l.word l.quote l.at l.out.items

abbrev pub decreases-parts : goal.decreases-parts
decreases-parts l = length l.word - l.at
