-- Documents without boundaries, and documents under other ids.
use Rattle.std.proofs.Common.{◌≡◌, ℕ, ◌+◌, Bool, true, false, if◌then◌else◌, ◌==◌, List, [], ◌∷◌, Some, None, refl, ap, ◌∙◌, arith}
use Rattle.dom_forest.specs.Edits.{numbered_from}
use Rattle.dom_forest.specs.Forest.{Forest, empty, tree, count}
use Rattle.dom_forest.specs.declared.document.DocNode.{DocNode}
use Rattle.dom_forest.specs.declared.document.DocNode.TheVariants as doc
use Rattle.dom_forest.specs.declared.node.Mark.{Mark}
use Rattle.dom_forest.specs.declared.node.Mark.TheVariants.{Complete, Pending, Client, End, Space}
use Rattle.dom_forest.specs.declared.node.NewNode.TheVariants.{Element, Text, Comment}
use Rattle.document_machine.specs.declared.status.BoundaryStatus.TheVariants as kind
use Rattle.document_machine.specs.Plain.{IsPlain, plain_nodes, plain_view}
use Rattle.document_machine.specs.Settled.{is_pending, nodes_of, number_of, settled_of}
use Rattle.document_machine.specs.Views.{View, text, element, Levels, digest_after, is_left_out, levels_of, levels_at_mark, levels_at_boundary, siblings_of, view_of, with_first}

digest_after-numbered_from : (first : ℕ) (forest : Forest) → digest_after (numbered_from first forest) ≡ digest_after forest
digest_after-numbered_from first empty = refl
digest_after-numbered_from first (tree i (Element name attributes) kids later) = refl
digest_after-numbered_from first (tree i (Text t) kids later) = refl
digest_after-numbered_from first (tree i (Comment mark) kids later) = refl

levels_at_mark-numbered_from : (mark : Mark) (first : ℕ) (later : Forest) (one other : Levels) → one ≡ other → levels_at_mark mark (numbered_from first later) one ≡ levels_at_mark mark later other
levels_at_mark-numbered_from Complete first later one other same = ap (levels_at_mark Complete later) same
levels_at_mark-numbered_from Pending first later one other same = ap (levels_at_mark Pending later) same
levels_at_mark-numbered_from Client first later one other same =
    ap (λ digest. levels_at_boundary kind.Client digest one.first one.rest) (digest_after-numbered_from first later) ∙ ap (levels_at_mark Client later) same
levels_at_mark-numbered_from End first later one other same = ap (levels_at_mark End later) same
levels_at_mark-numbered_from Space first later one other same = same

levels_of-numbered_from : (prefix : List ℕ) (at_top : Bool) (first : ℕ) (forest : Forest) → levels_of prefix at_top (numbered_from first forest) ≡ levels_of prefix at_top forest
levels_of-numbered_from prefix at_top first empty = refl
levels_of-numbered_from prefix at_top first (tree i (Element name attributes) kids later) =
    let out = is_left_out prefix at_top name attributes in
    let after = first + 1 + count kids in
    ap (λ (l : Levels). if out then l else with_first (element name attributes (siblings_of (levels_of prefix false (numbered_from (first + 1) kids)))) l)
    (levels_of-numbered_from prefix at_top after later)
    ∙ ap (λ (l : Levels). if out then levels_of prefix at_top later else with_first (element name attributes (siblings_of l)) (levels_of prefix at_top later))
    (levels_of-numbered_from prefix false (first + 1) kids)
levels_of-numbered_from prefix at_top first (tree i (Text t) kids later) = ap (with_first (text t)) (levels_of-numbered_from prefix at_top (first + 1 + count kids) later)
levels_of-numbered_from prefix at_top first (tree i (Comment mark) kids later) =
    levels_at_mark-numbered_from mark (first + 1 + count kids) later (levels_of prefix at_top (numbered_from (first + 1 + count kids) later)) (levels_of prefix at_top later)
    (levels_of-numbered_from prefix at_top (first + 1 + count kids) later)

-- A view says nothing of ids.
pub view_of-numbered_from : (prefix : List ℕ) (first : ℕ) (forest : Forest) → view_of prefix (numbered_from first forest) ≡ view_of prefix forest
view_of-numbered_from prefix first forest = ap siblings_of (levels_of-numbered_from prefix true first forest)

levels_of-plain : (prefix : List ℕ) (at_top : Bool) (forest : Forest) → IsPlain prefix at_top forest → levels_of prefix at_top forest ≡ record { first = plain_view forest; rest = [] }
levels_of-plain prefix at_top empty plain = refl
levels_of-plain prefix at_top (tree i (Element name attributes) kids later) plain =
    ap (λ (out : Bool). if out then levels_of prefix at_top later else with_first (element name attributes (siblings_of (levels_of prefix false kids))) (levels_of prefix at_top later)) plain.0
    ∙ ap (λ (l : Levels). with_first (element name attributes (siblings_of l)) (levels_of prefix at_top later)) (levels_of-plain prefix false kids plain.1)
    ∙ ap (with_first (element name attributes (plain_view kids))) (levels_of-plain prefix at_top later plain.2)
levels_of-plain prefix at_top (tree i (Text t) kids later) plain = ap (with_first (text t)) (levels_of-plain prefix at_top later plain)
levels_of-plain prefix at_top (tree i (Comment Complete) kids later) plain = absurd plain
levels_of-plain prefix at_top (tree i (Comment Pending) kids later) plain = absurd plain
levels_of-plain prefix at_top (tree i (Comment Client) kids later) plain = absurd plain
levels_of-plain prefix at_top (tree i (Comment End) kids later) plain = absurd plain
levels_of-plain prefix at_top (tree i (Comment Space) kids later) plain = levels_of-plain prefix at_top later plain

-- A plain document is its own view.
pub view_of-plain : (prefix : List ℕ) (forest : Forest) → IsPlain prefix true forest → view_of prefix forest ≡ plain_view forest
view_of-plain prefix forest plain = ap siblings_of (levels_of-plain prefix true forest plain)

none_pending : (forest : Forest) → number_of is_pending (plain_view forest) ≡ 0
none_pending empty = refl
none_pending (tree i (Element name attributes) kids later) = omega (arith, none_pending kids, none_pending later)
none_pending (tree i (Text t) kids later) = none_pending later
none_pending (tree i (Comment mark) kids later) = none_pending later

nodes_of-plain : (forest : Forest) → nodes_of (plain_view forest) ≡ plain_nodes forest
nodes_of-plain empty = refl
nodes_of-plain (tree i (Element name attributes) kids later) =
    ap (λ (ns : List DocNode). doc.Element name attributes ns ∷ nodes_of (plain_view later)) (nodes_of-plain kids)
    ∙ ap (λ (ns : List DocNode). doc.Element name attributes (plain_nodes kids) ∷ ns) (nodes_of-plain later)
nodes_of-plain (tree i (Text t) kids later) = ap (λ (ns : List DocNode). doc.Text t ∷ ns) (nodes_of-plain later)
nodes_of-plain (tree i (Comment mark) kids later) = nodes_of-plain later

settled_of-nodes : (view : View) (nodes : List DocNode) → number_of is_pending view ≡ 0 → nodes_of view ≡ nodes → settled_of view ≡ Some nodes
settled_of-nodes view nodes none same =
    ap (λ n. if n == 0 then Some (nodes_of view) else None) none ∙ ap Some same

-- And its own settled document.
pub settled_of-plain : (prefix : List ℕ) (forest : Forest) → IsPlain prefix true forest → settled_of (view_of prefix forest) ≡ Some (plain_nodes forest)
settled_of-plain prefix forest plain =
    ap settled_of (view_of-plain prefix forest plain) ∙ settled_of-nodes (plain_view forest) (plain_nodes forest) (none_pending forest) (nodes_of-plain forest)
