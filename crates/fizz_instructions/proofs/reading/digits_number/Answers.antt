use Rattle.std.proofs.Common.{◌∙◌, sym, ap, subst}
use Rattle.std.specs.Result.{result_ok}
use Rattle.std.specs.Str.{IsUtf8}
use Rattle.fizz_instructions.proofs.HexadecimalLemmas.{numeral_utf8, reads_numeral}
use Rattle.fizz_instructions.proofs.reading.digits_number.Goals as goal

pub returns-in_default : goal.returns-in_default
returns-in_default c = λ n small e. absurd (c.in_default.ensures.cases.0 (subst IsUtf8 (sym e) (numeral_utf8 n)))

pub returns : goal.returns
returns c = λ n small e. c.ok.ensures.value ∙ ap result_ok (reads_numeral n c.in-Ok.text.now c.from_str_radix.result small (c.in-Ok.ensures.cases.0 ∙ e) c.from_str_radix.ensures.value)
