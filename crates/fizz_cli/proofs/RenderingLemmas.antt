-- `render`: a page that stands still is printed, and any other may come late.
use Rattle.std.proofs.Common.{◌≡◌, ℕ, Bool, true, false, List, sym, ◌∙◌, ap, subst}
use Rattle.dom_forest.specs.declared.document.DocNode.{DocNode}
use Rattle.dom_forest.specs.Printing.{printed_nodes}
use Rattle.document_machine.specs.Documents.{most_open}
use Rattle.page_laws.specs.PrintedDocuments.{IsDocument, IsPrintable}
use Rattle.settled_tree.specs.Final.{final_document, settled_nodes, settled_tree}
use Rattle.settled_tree.specs.Forests.{forest_of, spots_in}
use Rattle.settled_tree.specs.declared.forest.FNode.{FNode}
use Rattle.settled_tree.specs.declared.forest.Forest.{Forest}
use Rattle.fizz_cli.specs.Rendering.{MayComeLate, PrintsStillPage}
use Rattle.fizz_cli.specs.StillPages.{is_still}
use Rattle.fizz_cli.specs.Trees.{IsExpanded, settled_page}
use Rattle.fizz_cli.specs.declared.steps.sources.Sources.{Sources}
use Rattle.fizz_cli.proofs.StillLemmas.{OwnIds, still_prints}

-- the forest of a page
module _ (sources : Sources) (prefix : List ℕ) (forest : Forest) (expanded : IsExpanded (settled_page sources prefix) forest)
    (most : ℕ) (most_is : most ≡ most_open) where
  tested_whole : (value : Bool) → is_still prefix (spots_in forest.nodes) most ≡ value
      → is_still prefix (spots_in (forest_of (settled_page sources prefix))) most_open ≡ value
  tested_whole value test =
      subst (λ (ns : List FNode). is_still prefix (spots_in ns) most_open ≡ value) expanded.nodes_are
      (subst (λ (n : ℕ). is_still prefix (spots_in forest.nodes) n ≡ value) most_is test)

  pub may_come_late : is_still prefix (spots_in forest.nodes) most ≡ false → MayComeLate (settled_page sources prefix)
  may_come_late test = tested_whole false test

  pub prints_still : OwnIds → ((prefix : List ℕ) (nodes : List DocNode) → IsPrintable prefix nodes → IsDocument prefix (printed_nodes nodes) nodes)
      → final_document (settled_nodes (forest_of (settled_page sources prefix))) ≡ final_document (settled_tree (settled_page sources prefix))
      → is_still prefix (spots_in forest.nodes) most ≡ true → (doc : List DocNode) (out : List ℕ)
      → doc ≡ final_document (settled_nodes forest.nodes) → out ≡ printed_nodes doc → PrintsStillPage (settled_page sources prefix) out
  prints_still ids law same h doc out d o =
      let still : is_still prefix (spots_in (forest_of (settled_page sources prefix))) most_open ≡ true = tested_whole true h in
      let printable : IsPrintable prefix (final_document (settled_tree (settled_page sources prefix))) =
      subst (IsPrintable prefix) same (still_prints ids prefix (spots_in (forest_of (settled_page sources prefix))) still) in
      let prints : out ≡ printed_nodes (final_document (settled_tree (settled_page sources prefix))) =
      o ∙ ap printed_nodes (d ∙ (ap (λ (ns : List FNode). final_document (settled_nodes ns)) expanded.nodes_are ∙ same)) in
      record {
        still = record { light = expanded.light; still = still };
        prints = prints;
        leaves = subst (λ (bs : List ℕ). IsDocument prefix bs (final_document (settled_tree (settled_page sources prefix)))) (sym prints)
            (law prefix (final_document (settled_tree (settled_page sources prefix))) printable);
      }

pub tested : (prefix : List ℕ) (nodes slice : List FNode) (most : ℕ) (test value : Bool) → slice ≡ nodes → test ≡ is_still prefix (spots_in slice) most → test ≡ value
    → is_still prefix (spots_in nodes) most ≡ value
tested prefix nodes slice most test value same is has =
    ap (λ (ns : List FNode). is_still prefix (spots_in ns) most) (sym same) ∙ (sym is ∙ has)
