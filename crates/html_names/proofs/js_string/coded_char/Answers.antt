use Rattle.std.proofs.Common.{◌/◌, ◌%◌, ◌<◌, get_or, ap, sym, ◌∙◌, arith}
use Rattle.std.proofs.lemmas.Slice.Eq.{bytes_eq-Decides}
use Rattle.html_names.specs.JsStrings.{four_digits}
use Rattle.html_names.proofs.JsStringsCharLemmas.{code_from_digits, coded_small}
use Rattle.html_names.proofs.JsStringsLemmas.{apart_bools}
use Rattle.html_names.proofs.js_string.coded_char.Goals as goal

pub returns-else-eq : goal.returns-else-eq
returns-else-eq c = λ d coded e.
    let small : d < 65536 = coded_small d coded.1 in
    let code = code_from_digits d _ _ _ _ small
    (c.digit_of.ensures.value (d / 16 / 16 / 16) (omega arith) (ap (λ xs. get_or xs 0 0) e))
    (c.digit_of-2.ensures.value (d / 16 / 16 % 16) (omega arith) (ap (λ xs. get_or xs 1 0) e))
    (c.digit_of-3.ensures.value (d / 16 % 16) (omega arith) (ap (λ xs. get_or xs 2 0) e))
    (c.digit_of-4.ensures.value (d % 16) (omega arith) (ap (λ xs. get_or xs 3 0) e)) in
    apart_bools c.eq.result (c.eq.ensures ∙ (bytes_eq-Decides _ _).1 (c.hex_digits.ensures ∙ (ap four_digits code ∙ sym e))) c.if-eq.false
