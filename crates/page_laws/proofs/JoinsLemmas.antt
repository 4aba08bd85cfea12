-- Joins of forests: what is appended twice, and the bytes of what is joined.
use Rattle.std.proofs.Common.{◌≡◌, ℕ, ◌+◌, ◌==◌, eqb, Bool, true, false, if◌then◌else◌, List, ◌++◌, Option, Some, None, refl, sym, ap, ◌∙◌, arith, append_assoc}
use Rattle.html_names.specs.Escape.{escape_of}
use Rattle.html_names.specs.Comments.{comment_spelling}
use Rattle.dom_forest.specs.Forest.{Forest, empty, tree, count, joined_forests}
use Rattle.dom_forest.specs.Edits.{numbered_from, with_last}
use Rattle.dom_forest.specs.declared.node.NodeId.{NodeId}
use Rattle.dom_forest.specs.declared.node.NewNode.{NewNode}
use Rattle.dom_forest.specs.declared.node.NewNode.TheVariants.{Element, Text, Comment}
use Rattle.std.proofs.lemmas.Bool.{cond-true, cond-false, eq-eqb}
use Rattle.document_machine.specs.Printing.{element_bytes, page_bytes, said_of, with_forest}
use Rattle.document_machine.specs.Running.{PageState, innermost}

pub joined-assoc : (a b c : Forest) → joined_forests (joined_forests a b) c ≡ joined_forests a (joined_forests b c)
joined-assoc empty b c = refl
joined-assoc (tree i x k l) b c = ap (tree i x k) (joined-assoc l b c)

grouped : (first p q all : List ℕ) → all ≡ p ++ q → first ++ all ≡ (first ++ p) ++ q
grouped first p q all e = ap (λ x. first ++ x) e ∙ sym (append_assoc first p q)

pub page_bytes-joined : (a b : Forest) → page_bytes (joined_forests a b) ≡ page_bytes a ++ page_bytes b
page_bytes-joined empty b = refl
page_bytes-joined (tree i (Element name attributes) k l) b =
    grouped (element_bytes name attributes (page_bytes k)) (page_bytes l) (page_bytes b) (page_bytes (joined_forests l b)) (page_bytes-joined l b)
page_bytes-joined (tree i (Text t) k l) b = grouped (escape_of t) (page_bytes l) (page_bytes b) (page_bytes (joined_forests l b)) (page_bytes-joined l b)
page_bytes-joined (tree i (Comment m) k l) b =
    grouped (comment_spelling (said_of m)) (page_bytes l) (page_bytes b) (page_bytes (joined_forests l b)) (page_bytes-joined l b)

count-joined : (a b : Forest) → count (joined_forests a b) ≡ count a + count b
count-joined empty b = omega arith
count-joined (tree i x k l) b = omega (arith, count-joined l b)

renumbered-joined : (n : ℕ) (a b : Forest) → numbered_from n (joined_forests a b) ≡ joined_forests (numbered_from n a) (numbered_from (n + count a) b)
renumbered-joined n empty b = ap (λ m. numbered_from m b) (omega arith)
renumbered-joined n (tree i x k l) b =
    ap (tree n x (numbered_from (n + 1) k))
    (renumbered-joined (n + 1 + count k) l b ∙ ap (λ m. joined_forests (numbered_from (n + 1 + count k) l) (numbered_from m b)) (omega arith))

with_last-twice_tree : (p : NodeId) (x y : Forest) (i : ℕ) (content : NewNode) (kids later : Forest) (b : Bool) → (i == p.0) ≡ b
    → with_last (Some p) y (with_last (Some p) x kids) ≡ with_last (Some p) (joined_forests x y) kids
    → with_last (Some p) y (with_last (Some p) x later) ≡ with_last (Some p) (joined_forests x y) later
    → with_last (Some p) y (if b then tree p.0 content (joined_forests kids x) later else tree i content (with_last (Some p) x kids) (with_last (Some p) x later))
    ≡ (if b then tree p.0 content (joined_forests kids (joined_forests x y)) later else tree i content (with_last (Some p) (joined_forests x y) kids) (with_last (Some p) (joined_forests x y) later))
with_last-twice_tree p x y i content kids later true e hk hl =
    cond-true (eqb p.0 p.0) _ _ (eq-eqb p.0 p.0 refl) ∙ ap (λ k. tree p.0 content k later) (joined-assoc kids x y)
with_last-twice_tree p x y i content kids later false e hk hl =
    cond-false (eqb i p.0) _ _ e ∙ ap (λ k. tree i content k (with_last (Some p) y (with_last (Some p) x later))) hk
    ∙ ap (tree i content (with_last (Some p) (joined_forests x y) kids)) hl

with_last-twice : (parent : Option NodeId) (x y forest : Forest) → with_last parent y (with_last parent x forest) ≡ with_last parent (joined_forests x y) forest
with_last-twice None x y forest = joined-assoc forest x y
with_last-twice (Some p) x y empty = refl
with_last-twice (Some p) x y (tree i content kids later) =
    with_last-twice_tree p x y i content kids later (i == p.0) refl (with_last-twice (Some p) x y kids) (with_last-twice (Some p) x y later)

-- What is appended twice is appended joined.
pub with_forest-twice : (a b : Forest) (page : PageState) → with_forest b (with_forest a page) ≡ with_forest (joined_forests a b) page
with_forest-twice a b page =
    let parent = innermost page.opened in
    let forest : with_last parent (numbered_from (page.dom.next + count a) b) (with_last parent (numbered_from page.dom.next a) page.dom.forest) ≡ with_last parent (numbered_from page.dom.next (joined_forests a b)) page.dom.forest =
    with_last-twice parent (numbered_from page.dom.next a) (numbered_from (page.dom.next + count a) b) page.dom.forest
    ∙ ap (λ f. with_last parent f page.dom.forest) (sym (renumbered-joined page.dom.next a b)) in
    ap (λ f. record page { dom = record { forest = f; next = page.dom.next + count a + count b } }) forest
    ∙ ap (λ n. record page { dom = record { forest = with_last parent (numbered_from page.dom.next (joined_forests a b)) page.dom.forest; next = n } }) (omega (arith, count-joined a b))
