use Rattle.html_names.proofs.JsStringsLemmas.{one_string, string_utf8}
use Rattle.html_names.proofs.JsStringsMarkLemmas.{string_no_mark}
use Rattle.html_names.proofs.js_string.laws_of_js_strings.Goals as goal

pub returns : goal.returns
returns c = record { one = one_string; utf8 = string_utf8; no_mark = string_no_mark }
