-- The shape of a forest, and what the contents of its nodes don't change.
use Rattle.std.proofs.Common.{◌≡◌, ◌≢◌, ℕ, ◌+◌, ◌≤◌, ◌==◌, eqb, Bool, true, false, if◌then◌else◌, Option, Some, None, refl, sym, ap, ◌∙◌, arith}
use Rattle.std.proofs.lemmas.Bool.{cond-false, eqb-true, ne_eqb}
use Rattle.dom_forest.specs.declared.node.Mark.TheVariants.{Space}
use Rattle.dom_forest.specs.declared.node.NewNode.{NewNode}
use Rattle.dom_forest.specs.declared.node.NewNode.TheVariants.{Comment}
use Rattle.dom_forest.specs.Forest.{Forest, empty, tree, times, or_else, from, first_content, content_of}
use Rattle.dom_forest.specs.Edits.{with_change}

-- How often an id stands among the siblings themselves.
abbrev pub tops : ℕ → Forest → ℕ
tops id empty = 0
tops id (tree i content kids later) = (if i == id then 1 else 0) + tops id later

pub tops_times : (id : ℕ) (forest : Forest) → tops id forest ≤ times id forest
tops_times id empty = omega arith
tops_times id (tree i content kids later) = omega (arith, tops_times id later)

abbrev shape : Forest → Forest
shape empty = empty
shape (tree i content kids later) = tree i (Comment Space) (shape kids) (shape later)

-- the forest with another content of a node
abbrev pub dressed : ℕ → (NewNode → NewNode) → Forest → Forest
dressed id dress forest = with_change id (λ content kids later. tree id (dress content) kids later) forest

shape_times : (j : ℕ) (forest : Forest) → times j (shape forest) ≡ times j forest
shape_times j empty = refl
shape_times j (tree i content kids later) = omega (arith, shape_times j kids, shape_times j later)

shape_tops : (j : ℕ) (forest : Forest) → tops j (shape forest) ≡ tops j forest
shape_tops j empty = refl
shape_tops j (tree i content kids later) = omega (arith, shape_tops j later)

shape_or_else : (a b : Forest) → shape (or_else a b) ≡ or_else (shape a) (shape b)
shape_or_else empty b = refl
shape_or_else (tree i content kids later) b = refl

shape_cond : (b : Bool) (x y : Forest) → shape (if b then x else y) ≡ (if b then shape x else shape y)
shape_cond true x y = refl
shape_cond false x y = refl

shape_from : (j : ℕ) (forest : Forest) → shape (from j forest) ≡ from j (shape forest)
shape_from j empty = refl
shape_from j (tree i content kids later) =
    shape_cond (i == j) (tree i content kids later) (or_else (from j kids) (from j later))
    ∙ ap (λ f. if i == j then shape (tree i content kids later) else f)
    (shape_or_else (from j kids) (from j later) ∙ ap (λ f. or_else f (shape (from j later))) (shape_from j kids) ∙ ap (or_else (from j (shape kids))) (shape_from j later))

shape_dressed_tree : (id i : ℕ) (dress : NewNode → NewNode) (content : NewNode) (kids later : Forest) (b : Bool) → (i == id) ≡ b
    → shape (dressed id dress kids) ≡ shape kids → shape (dressed id dress later) ≡ shape later
    → shape (if b then tree id (dress content) kids later else tree i content (dressed id dress kids) (dressed id dress later)) ≡ shape (tree i content kids later)
shape_dressed_tree id i dress content kids later true e k l = ap (λ n. tree n (Comment Space) (shape kids) (shape later)) (sym (eqb-true i id e))
shape_dressed_tree id i dress content kids later false e k l = ap (λ f. tree i (Comment Space) f (shape (dressed id dress later))) k ∙ ap (tree i (Comment Space) (shape kids)) l

shape_dressed : (id : ℕ) (dress : NewNode → NewNode) (forest : Forest) → shape (dressed id dress forest) ≡ shape forest
shape_dressed id dress empty = refl
shape_dressed id dress (tree i content kids later) =
    shape_dressed_tree id i dress content kids later (i == id) refl (shape_dressed id dress kids) (shape_dressed id dress later)

pub dressed_times : (j id : ℕ) (dress : NewNode → NewNode) (forest : Forest) → times j (dressed id dress forest) ≡ times j forest
dressed_times j id dress forest = sym (shape_times j (dressed id dress forest)) ∙ ap (times j) (shape_dressed id dress forest) ∙ shape_times j forest

-- who stands among the later siblings
pub dressed_tops : (j at id : ℕ) (dress : NewNode → NewNode) (forest : Forest) → tops j (from at (dressed id dress forest)) ≡ tops j (from at forest)
dressed_tops j at id dress forest =
    sym (shape_tops j (from at (dressed id dress forest))) ∙ ap (tops j) (shape_from at (dressed id dress forest)) ∙ ap (λ f. tops j (from at f)) (shape_dressed id dress forest)
    ∙ ap (tops j) (sym (shape_from at forest)) ∙ shape_tops j (from at forest)

abbrev content_or : Option NewNode → Option NewNode → Option NewNode
content_or None other = other
content_or (Some content) other = Some content

content_or_else : (a b : Forest) → first_content (or_else a b) ≡ content_or (first_content a) (first_content b)
content_or_else empty b = refl
content_or_else (tree i content kids later) b = refl

content_cond : (b : Bool) (x y : Forest) → first_content (if b then x else y) ≡ (if b then first_content x else first_content y)
content_cond true x y = refl
content_cond false x y = refl

content_tree : (j i : ℕ) (content : NewNode) (kids later : Forest)
    → content_of j (tree i content kids later) ≡ (if i == j then Some content else content_or (content_of j kids) (content_of j later))
content_tree j i content kids later =
    content_cond (i == j) _ _ ∙ ap (λ (o : Option NewNode). if i == j then Some content else o) (content_or_else (from j kids) (from j later))

content_dressed_tree : (j id i : ℕ) (dress : NewNode → NewNode) (content : NewNode) (kids later : Forest) (b : Bool) → (i == id) ≡ b → j ≢ id
    → content_of j (dressed id dress kids) ≡ content_of j kids → content_of j (dressed id dress later) ≡ content_of j later
    → content_of j (if b then tree id (dress content) kids later else tree i content (dressed id dress kids) (dressed id dress later)) ≡ content_of j (tree i content kids later)
content_dressed_tree j id i dress content kids later true e other k l =
    let same = eqb-true i id e in
    let past = ne_eqb id j (λ p. other (sym p)) in
    let past' : (i == j) ≡ false = ap (λ n. n == j) same ∙ past in
    ap first_content (cond-false (eqb id j) _ _ past) ∙ sym (ap first_content (cond-false (eqb i j) _ _ past'))
content_dressed_tree j id i dress content kids later false e other k l =
    content_tree j i content (dressed id dress kids) (dressed id dress later)
    ∙ ap (λ (o : Option NewNode). if i == j then Some content else content_or o (content_of j (dressed id dress later))) k
    ∙ ap (λ (o : Option NewNode). if i == j then Some content else content_or (content_of j kids) o) l
    ∙ sym (content_tree j i content kids later)

-- the content of another node
pub dressed_content : (j id : ℕ) (dress : NewNode → NewNode) (forest : Forest) → j ≢ id → content_of j (dressed id dress forest) ≡ content_of j forest
dressed_content j id dress empty other = refl
dressed_content j id dress (tree i content kids later) other =
    content_dressed_tree j id i dress content kids later (i == id) refl other (dressed_content j id dress kids other) (dressed_content j id dress later other)
