use Rattle.std.specs.Char.{is_ascii_digit}
use Rattle.jsx_lex.proofs.Scanning.{list_all-run, AllDigits-from_test}
use Rattle.jsx_lex.proofs.number.digits_len.Goals as goal

pub is_numeral-requires : goal.is_numeral-requires
is_numeral-requires c = AllDigits-from_test c.split_at.result.0.now (rw (c.split_at.ensures.front, c.run_len-length.ensures.len) (list_all-run is_ascii_digit c.args.rest.now))
