use Rattle.std.proofs.Common.{◌≡◌, ◌++◌, ◌∷◌, [], sym, ap, ◌∙◌, append_assoc}
use Rattle.std.specs.List.{flat_map}
use Rattle.std.specs.Str.{chars}
use Rattle.std.specs.Str.Iter.{chars_rest}
use Rattle.std.proofs.lemmas.Iterator.{YieldsList-from_chars}
use Rattle.std.proofs.lemmas.Iterator.Consumers.{YieldsList-end}
use Rattle.std.proofs.lemmas.List.{map-id}
use Rattle.html_names.specs.JsStrings.{char_spelling}
use Rattle.html_names.proofs.js_string.push_quoted.Goals as goal

pub returns-clause-appended : goal.returns-clause-appended
returns-clause-appended c =
    let text = (rw c.unwrap-text.ensures at c.from_utf8.ensures.cases).0 in
    let start : chars_rest c.into_iter-c-iterator.result ≡ c.args.text.now = ap chars_rest c.into_iter-c-iterator.ensures.into_iter_gives ∙ (c.chars-c-items.ensures.rest ∙ text) in
    let ends = YieldsList-end (YieldsList-from_chars c.args.text.now c.requires start) c.loop-c.yielded _ c.loop-c.yielded_by _ _ c.in-None.is c.next.ensures.steps in
    let all : c.loop-c.yielded ≡ chars c.args.text.now = sym (map-id c.loop-c.yielded) ∙ ends.0 in
    c.in_ok-push-2.ensures.items ∙ (ap (λ xs. xs ++ 34 ∷ []) c.loop-c.invariant
    ∙ (append_assoc c.args.out.now.items (34 ∷ flat_map char_spelling c.loop-c.yielded) (34 ∷ [])
    ∙ ap (λ cs. c.args.out.now.items ++ (34 ∷ (flat_map char_spelling cs ++ 34 ∷ []))) all))
