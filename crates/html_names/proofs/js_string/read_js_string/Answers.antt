use Rattle.std.proofs.Common.{◌≡◌, ◌∷◌, ◌++◌, ℕ, List, sym, subst}
use Rattle.std.specs.List.{flat_map}
use Rattle.std.specs.Str.{IsUtf8, chars}
use Rattle.std.proofs.lemmas.Str.{IsUtf8-append, IsUtf8-encode, IsUtf8-nil}
use Rattle.html_names.specs.JsStrings.{char_spelling}
use Rattle.html_names.proofs.JsStringsLemmas.{quote_first, not_first, first_string, shorter_rest, read_more, whole_string, no_string}
use Rattle.html_names.proofs.js_string.read_js_string.Goals as goal

pub loop-c-init : goal.loop-c-init
loop-c-init c = record {
  utf8 = subst IsUtf8 (sym c.new-text.ensures.items) IsUtf8-nil;
  spelled = first_string c.args.bytes.now c.in-Some.rest.now c.new-text.result.items (quote_first _ _ c.in-Some.ensures.cases.0 c.in-Some.ensures.cases.1) c.new-text.ensures.items;
}

pub loop-c-smaller : goal.loop-c-smaller
loop-c-smaller c = shorter_rest c.loop-c.rest.now c.in-Some-split_char.more.now c.in-Some-split_char.c c.in-Some-split_char.ensures

pub loop-c-preserved : goal.loop-c-preserved
loop-c-preserved c =
    let grown = c.in_ok-push_itself.ensures.pushed in
    record {
      utf8 = subst IsUtf8 (sym grown) (IsUtf8-append _ _ c.loop-c.invariant.utf8 (IsUtf8-encode c.in-Some-split_char.c c.push_itself.ensures.scalar));
      spelled = subst (λ (text : List ℕ). c.args.bytes.now ≡ 34 ∷ (flat_map char_spelling (chars text) ++ c.in-Some-split_char.more.now)) (sym grown)
          (read_more c.args.bytes.now c.loop-c.text.items c.loop-c.rest.now c.in-Some-split_char.more.now c.in-Some-split_char.c
          c.loop-c.invariant.utf8 c.push_itself.ensures.scalar c.loop-c.invariant.spelled c.in-Some-split_char.ensures);
    }

pub returns-in-Some-strip_prefix : goal.returns-in-Some-strip_prefix
returns-in-Some-strip_prefix c =
    whole_string c.args.bytes.now c.loop-c.text.items c.loop-c.rest.now c.in-Some-strip_prefix.more.now c.loop-c.invariant.utf8 c.loop-c.invariant.spelled
    (quote_first _ _ c.in-Some-strip_prefix.ensures.cases.0 c.in-Some-strip_prefix.ensures.cases.1)

pub returns-in-None : goal.returns-in-None
returns-in-None c =
    no_string c.args.bytes.now c.loop-c.text.items c.loop-c.rest.now c.loop-c.invariant.spelled c.in_default-split_char.ensures (not_first c.loop-c.rest.now 34 c.in-None.ensures.cases)
