use Rattle.std.proofs.Common.{◌∙◌, sym, subst}
use Rattle.std.specs.Str.{IsUtf8}
use Rattle.std.proofs.lemmas.Str.{IsUtf8-append}
use Rattle.html_names.proofs.JsStringsLemmas.{when_ok}
use Rattle.html_names.proofs.Utf8Lemmas.{escaped_utf8}
use Rattle.html_names.proofs.escape.push_escaped.Goals as goal

pub returns-clause-utf8 : goal.returns-clause-utf8
returns-clause-utf8 c = λ text out.
    let appended = when_ok c.append_escaped.result _ c.append_escaped.ensures.appended (sym c.is_err.ensures.value ∙ c.if-is_err.false) in
    subst IsUtf8 (sym appended) (IsUtf8-append _ _ out (escaped_utf8 c.args.text.now text))
