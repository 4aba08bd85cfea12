-- `tree`: a page that is shown is not refused, and one is refused for one thing.
use Rattle.std.proofs.Common.{◌≡◌, ℕ, ◌<◌, ◌≤◌, List, [], ◌∷◌, Option, Some, None, refl, sym, ap, ◌∙◌, subst, arith}
use Rattle.std.specs.Prelude.{slice_get}
use Rattle.std.proofs.lemmas.Option.{slice_get_within}
use Rattle.jsx_value.specs.Positions.{Page}
use Rattle.jsx_value.specs.Spots.{fails}
use Rattle.jsx_value.specs.Weights.{most_weight, page_weight}
use Rattle.dom_forest.specs.declared.document.DocNode.{DocNode}
use Rattle.dom_forest.specs.Printing.{printed_nodes}
use Rattle.settled_tree.specs.Final.{final_document, settled_nodes, settled_tree}
use Rattle.settled_tree.specs.Forests.{forest_of}
use Rattle.settled_tree.specs.declared.forest.FNode.{FNode}
use Rattle.fizz_cli.specs.Trees.{IsShown, PrintsPage, RefusesTreePage}
use Rattle.fizz_cli.specs.Trees as tree
use Rattle.fizz_cli.specs.declared.refusal.FileFault.TheVariants.{Program}
use Rattle.fizz_cli.specs.declared.refusal.ProgramFault.TheVariants.{TooLarge}
use Rattle.fizz_cli.specs.declared.refusal.Refusal.{Refusal}
use Rattle.fizz_cli.specs.declared.refusal.Refusal.TheVariants.{CannotRead, File, ShellFailed}

abbrev no_digests : List (List ℕ)
no_digests = []

no_first : (digest : List ℕ) → slice_get no_digests 0 ≡ Some digest → ⊥
no_first digest e =
    let within : 0 < 0 = slice_get_within no_digests 0 digest e in
    omega (arith, within)

pub shown_sound : (app : List ℕ) (page : Page) (refusal : Refusal) → IsShown page → RefusesTreePage app page refusal → ⊥
shown_sound app page refusal s (tree.too_large h) = omega (arith, s.light, h.heavy)
shown_sound app page refusal s (tree.failed digest e light first) =
    no_first digest (subst (λ (ds : List (List ℕ)). slice_get ds 0 ≡ Some digest) s.sound first)

same_digest : (o : Option (List ℕ)) (d e : List ℕ) → o ≡ Some d → o ≡ Some e → d ≡ e
same_digest o d e p q = cc

pub one_page_refusal : (app : List ℕ) (page : Page) (a b : Refusal) → RefusesTreePage app page a → RefusesTreePage app page b → a ≡ b
one_page_refusal app page a b (tree.too_large p) (tree.too_large q) = p.says ∙ sym q.says
one_page_refusal app page a b (tree.too_large p) (tree.failed d q light first) = absurd (omega (arith, p.heavy, light))
one_page_refusal app page a b (tree.failed d p light first) (tree.too_large q) = absurd (omega (arith, q.heavy, light))
one_page_refusal app page a b (tree.failed d p light first) (tree.failed e q also other) =
    p ∙ (ap ShellFailed (same_digest _ d e first other) ∙ sym q)

-- A page that is refused was read.
pub was_read : (app name : List ℕ) (page : Page) → RefusesTreePage app page (CannotRead name) → ⊥
was_read app name page (tree.too_large h) = never h.says
  where
    never : CannotRead name ≡ File app (Program (TooLarge most_weight)) → ⊥
    never e = cc
was_read app name page (tree.failed digest e light first) = cc

no_first_of : (ds : List (List ℕ)) → None ≡ slice_get ds 0 → ds ≡ []
no_first_of [] e = refl
no_first_of (d ∷ ds) e = cc

-- the forest of a page
module _ (page : Page) (nodes : List FNode) (is : nodes ≡ forest_of page)
    (law : fails (settled_nodes (forest_of page)) ≡ fails (settled_tree page)) where
  forest_failures : fails (settled_nodes nodes) ≡ fails (settled_tree page)
  forest_failures = ap (λ (n : List FNode). fails (settled_nodes n)) is ∙ law

  pub first_failure : (failures : List (List ℕ)) → failures ≡ fails (settled_nodes nodes) → page_weight page ≤ most_weight
      → (app digest copy : List ℕ) → Some digest ≡ slice_get failures 0 → copy ≡ digest
      → RefusesTreePage app page (ShellFailed copy)
  first_failure failures are light app digest copy first same = tree.failed copy refl light
      (ap (λ (ds : List (List ℕ)). slice_get ds 0) (sym (are ∙ forest_failures)) ∙ (sym first ∙ ap Some (sym same)))

  pub shown_by : (failures : List (List ℕ)) → failures ≡ fails (settled_nodes nodes) → page_weight page ≤ most_weight
      → None ≡ slice_get failures 0 → IsShown page
  shown_by failures are light none = record {
    light = light;
    sound = sym (are ∙ forest_failures) ∙ no_first_of failures none;
  }

  pub forest_sound : IsShown page → fails (settled_nodes nodes) ≡ []
  forest_sound shown = forest_failures ∙ shown.sound

  pub prints_page : IsShown page → final_document (settled_nodes (forest_of page)) ≡ final_document (settled_tree page)
      → (doc : List DocNode) (out : List ℕ) → doc ≡ final_document (settled_nodes nodes) → out ≡ printed_nodes doc
      → PrintsPage page out
  prints_page shown same doc out d o = record {
    shown = shown;
    prints = o ∙ ap printed_nodes (d ∙ (ap (λ (n : List FNode). final_document (settled_nodes n)) is ∙ same));
  }
