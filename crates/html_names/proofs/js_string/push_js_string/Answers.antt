use Rattle.std.proofs.Common.{◌∙◌, sym, subst}
use Rattle.std.specs.Str.{IsUtf8}
use Rattle.std.proofs.lemmas.Str.{IsUtf8-append}
use Rattle.html_names.proofs.JsStringsLemmas.{string_utf8, when_ok}
use Rattle.html_names.proofs.js_string.push_js_string.Goals as goal

pub returns-clause-utf8 : goal.returns-clause-utf8
returns-clause-utf8 c = λ u.
    let appended = when_ok c.push_quoted.result _ c.push_quoted.ensures.appended (sym c.is_err.ensures.value ∙ c.if-is_err.false) in
    subst IsUtf8 (sym appended) (IsUtf8-append _ _ u (string_utf8 c.args.text.now c.requires))
