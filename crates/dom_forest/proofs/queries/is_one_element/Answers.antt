use Rattle.std.proofs.Common.{◌≡◌, Bool, ℕ, Option, None, Some, true, false, not, is_some, length, [], refl, ap, sym, ◌∙◌}
use Rattle.std.specs.List.{prefix_len}
use Rattle.std.proofs.lemmas.Bool.{eq-eqb, eqb-true}
use Rattle.std.proofs.lemmas.List.Sums.{prefix_len-le-length}
use Rattle.dom_forest.specs.Chain.{entries_of, entry_in, rest_from}
use Rattle.dom_forest.specs.Flat.{forest_of}
use Rattle.dom_forest.specs.Runs.{below_at}
use Rattle.dom_forest.proofs.Chains.{rest_head}
use Rattle.dom_forest.proofs.Roots.{one_root, tells_root}
use Rattle.dom_forest.proofs.Steps.{all_passed, passed_all}
use Rattle.dom_forest.proofs.queries.is_one_element.Goals as goal

none_from : (o : Option ℕ) (b : Bool) → is_some o ≡ not b → b ≡ true → o ≡ None
none_from None b h t = refl
none_from (Some x) true h t = cc
none_from (Some x) false h t = cc

true_from : (o : Option ℕ) (b : Bool) → is_some o ≡ not b → o ≡ None → b ≡ true
true_from None true h t = refl
true_from None false h t = cc
true_from (Some x) b h t = cc

pub returns-then-is_element : goal.returns-then-is_element
returns-then-is_element c =
    let es = entries_of c.args.chain.now in
    let root = c.in-Some-slot_of.root.now in
    let found = c.in-Some-slot_of.ensures.found in
    let below = rest_from root.next es in
    let whole = c.requires.document.whole ∙ sym (rest_head [] es c.requires.links.once) ∙ ap (λ o. rest_from o es) (sym c.requires.links.head ∙ c.in-Some.is) ∙ found.from in
    let tell = tells_root (forest_of es) (entry_in c.in-Some.id root) below whole (c.is_element.ensures.0 c.if-is_element.true) in
    let count = prefix_len (below_at root.depth) below in
    let left = rest_from c.passed.result.1 es in
    let head = c.passed.ensures.head found.after in (
      λ none. tell.0 (eq-eqb count (length below) (all_passed count below left c.passed.result.1 head c.passed.ensures.rest (prefix_len-le-length (below_at root.depth) below)
          (none_from c.passed.result.1 c.is_none.result c.is_none.ensures none))),
      λ one. true_from c.passed.result.1 c.is_none.result c.is_none.ensures
          (passed_all count below left c.passed.result.1 head c.passed.ensures.rest (eqb-true count (length below) (tell.1 one))),
    )

pub returns-else-is_element : goal.returns-else-is_element
returns-else-is_element c =
    let es = entries_of c.args.chain.now in
    let root = c.in-Some-slot_of.root.now in
    let found = c.in-Some-slot_of.ensures.found in
    let below = rest_from root.next es in
    let whole = c.requires.document.whole ∙ sym (rest_head [] es c.requires.links.once) ∙ ap (λ o. rest_from o es) (sym c.requires.links.head ∙ c.in-Some.is) ∙ found.from in (
      λ is. absurd (let e : true ≡ false = sym is ∙ c.if-is_element.false in cc),
      λ one. c.is_element.ensures.1 (one_root (forest_of es) (entry_in c.in-Some.id root) below whole one),
    )
