-- The parts of a view are seen as the view, make its settled document, and have its boundaries.
use Rattle.std.proofs.Common.{◌≡◌, ◌+◌, ◌-◌, ◌^◌, Bool, List, [], ◌∷◌, ◌++◌, min, refl, sym, ap, ◌∙◌, arith, append_assoc, append-nil}
use Rattle.dom_forest.specs.Documents as document
use Rattle.dom_forest.specs.Documents.{NodeLevels, nodes_in}
use Rattle.dom_forest.specs.declared.document.DocNode.{DocNode}
use Rattle.dom_forest.specs.declared.document.DocNode.TheVariants as doc
use Rattle.document_machine.specs.declared.status.BoundaryStatus.{BoundaryStatus}
use Rattle.document_machine.specs.declared.view.ViewPart.{ViewPart}
use Rattle.document_machine.specs.declared.view.ViewPart.TheVariants.{EndOfElement, EndOfBoundary}
use Rattle.document_machine.specs.declared.view.Counts.{Counts}
use Rattle.document_machine.specs.Settled.{any_kind, counts_of, is_failed, is_pending, nodes_of, number_of}
use Rattle.document_machine.specs.Settling.{counts_with, doc_parts, number_in}
use Rattle.document_machine.specs.Shown.{levels_after, levels_of_parts, view_of_parts, view_parts}
use Rattle.document_machine.specs.Views.{View, end, text, element, boundary, Levels, joined_views, with_first}

joined_views-end : (v : View) → joined_views v end ≡ v
joined_views-end end = refl
joined_views-end (text t l) = ap (text t) (joined_views-end l)
joined_views-end (element n attrs k l) = ap (element n attrs k) (joined_views-end l)
joined_views-end (boundary s d k l) = ap (boundary s d k) (joined_views-end l)

levels_of_parts-view : (v : View) (more : List ViewPart) → levels_of_parts (view_parts v more) ≡ with_first (joined_views v) (levels_of_parts more)
levels_of_parts-view end more = refl
levels_of_parts-view (text t l) more = ap (with_first (text t)) (levels_of_parts-view l more)
levels_of_parts-view (element n attrs k l) more =
    let after : Levels = levels_of_parts (view_parts l more) in
    ap (λ (x : Levels). with_first (element n attrs x.first) (levels_after x.rest)) (levels_of_parts-view k (EndOfElement ∷ view_parts l more))
    ∙ ap (λ v. with_first (element n attrs v) after) (joined_views-end k) ∙ ap (with_first (element n attrs k)) (levels_of_parts-view l more)
levels_of_parts-view (boundary s d k l) more =
    let after : Levels = levels_of_parts (view_parts l more) in
    ap (λ (x : Levels). with_first (boundary s d x.first) (levels_after x.rest)) (levels_of_parts-view k (EndOfBoundary ∷ view_parts l more))
    ∙ ap (λ v. with_first (boundary s d v) after) (joined_views-end k) ∙ ap (with_first (boundary s d k)) (levels_of_parts-view l more)

pub view_of_parts-view_parts : (v : View) → view_of_parts (view_parts v []) ≡ v
view_of_parts-view_parts v = ap (λ (x : Levels). x.first) (levels_of_parts-view v []) ∙ joined_views-end v

-- What is made of the parts of a view is seen as it, and is its parts.
pub whole_parts : (v : View) (parts : List ViewPart) → parts ≡ view_parts v [] → parts ≡ view_parts (view_of_parts parts) []
whole_parts v parts is = is ∙ ap (λ w. view_parts w []) (sym (view_of_parts-view_parts v) ∙ ap view_of_parts (sym is))

pub parts_seen : (v : View) (parts : List ViewPart) → parts ≡ view_parts v [] → view_of_parts parts ≡ v
parts_seen v parts is = ap view_of_parts is ∙ view_of_parts-view_parts v

-- The settled document

abbrev with_nodes : List DocNode → NodeLevels → NodeLevels
with_nodes nodes levels = record levels { first = nodes ++ levels.first }

levels_of-doc_parts : (v : View) (more : List ViewPart) → document.levels_of (doc_parts (view_parts v more)) ≡ with_nodes (nodes_of v) (document.levels_of (doc_parts more))
levels_of-doc_parts end more = refl
levels_of-doc_parts (text t l) more = ap (document.with_node (doc.Text t)) (levels_of-doc_parts l more)
levels_of-doc_parts (element n attrs k l) more =
    let after : NodeLevels = document.levels_of (doc_parts (view_parts l more)) in
    ap (λ (x : NodeLevels). document.with_node (doc.Element n attrs x.first) (document.levels_after x.rest)) (levels_of-doc_parts k (EndOfElement ∷ view_parts l more))
    ∙ ap (λ ns. document.with_node (doc.Element n attrs ns) after) (append-nil (nodes_of k)) ∙ ap (document.with_node (doc.Element n attrs (nodes_of k))) (levels_of-doc_parts l more)
levels_of-doc_parts (boundary s d k l) more =
    levels_of-doc_parts k (EndOfBoundary ∷ view_parts l more) ∙ ap (with_nodes (nodes_of k)) (levels_of-doc_parts l more)
    ∙ ap (λ ns. record { first = ns; rest = (document.levels_of (doc_parts more)).rest }) (sym (append_assoc (nodes_of k) (nodes_of l) (document.levels_of (doc_parts more)).first))

pub nodes_in-doc_parts : (v : View) (parts : List ViewPart) → parts ≡ view_parts v [] → nodes_in (doc_parts parts) ≡ nodes_of v
nodes_in-doc_parts v parts is =
    ap (λ ps. nodes_in (doc_parts ps)) is
    ∙ ap (λ (x : NodeLevels). document.all_levels x.first x.rest) (levels_of-doc_parts v []) ∙ append-nil (nodes_of v)

-- The counts

number_in-view : (of_kind : BoundaryStatus → Bool) (v : View) (more : List ViewPart) → number_in of_kind (view_parts v more) ≡ number_of of_kind v + number_in of_kind more
number_in-view of_kind end more = omega arith
number_in-view of_kind (text t l) more = number_in-view of_kind l more
number_in-view of_kind (element n attrs k l) more = omega (arith, number_in-view of_kind k (EndOfElement ∷ view_parts l more), number_in-view of_kind l more)
number_in-view of_kind (boundary s d k l) more = omega (arith, number_in-view of_kind k (EndOfBoundary ∷ view_parts l more), number_in-view of_kind l more)

abbrev no_counts : Counts
no_counts = record { boundaries = 0; failed = 0; pending = 0 }

counted_is : (of_kind : BoundaryStatus → Bool) (v : View) (parts : List ViewPart) → parts ≡ view_parts v [] → min (0 + number_in of_kind parts) (2 ^ 64 - 1) ≡ min (number_of of_kind v) (2 ^ 64 - 1)
counted_is of_kind v parts is =
    let number : 0 + number_in of_kind parts ≡ number_of of_kind v = omega (arith, ap (number_in of_kind) is, number_in-view of_kind v []) in
    ap (λ n. min n (2 ^ 64 - 1)) number

pub counts_with-parts : (v : View) (parts : List ViewPart) → parts ≡ view_parts v [] → counts_with parts no_counts ≡ counts_of v
counts_with-parts v parts is =
    ap (λ n. record { boundaries = n; failed = (counts_with parts no_counts).failed; pending = (counts_with parts no_counts).pending }) (counted_is any_kind v parts is)
    ∙ ap (λ n. record { boundaries = (counts_of v).boundaries; failed = n; pending = (counts_with parts no_counts).pending }) (counted_is is_failed v parts is)
    ∙ ap (λ n. record { boundaries = (counts_of v).boundaries; failed = (counts_of v).failed; pending = n }) (counted_is is_pending v parts is)
