use Rattle.std.proofs.Common.{◌≡◌, drop, map}
use Rattle.jsx_lex.specs.SignTable.{first_sign}
use Rattle.jsx_lex.specs.SignRows.{row_of}
use Rattle.jsx_lex.proofs.sign.first_sign.Given as goal

abbrev pub invariant-loop-sign : goal.invariant-loop-sign
invariant-loop-sign l = first_sign (map row_of l.signs) l.rest ≡ first_sign (map row_of (drop l.sign-index l.signs)) l.rest
