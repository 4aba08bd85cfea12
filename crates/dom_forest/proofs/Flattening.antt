-- Forests and their flat lists.
use Rattle.std.proofs.Common.{◌≡◌, ℕ, ◌+◌, ◌<◌, ◌==◌, eqb, ltb, nat_lt, if◌then◌else◌, List, [], ◌∷◌, ◌++◌, length, take, drop, refl, ap, ◌∙◌, arith, ◌≢◌, add-zero}
use Rattle.std.specs.List.{prefix_len}
use Rattle.std.proofs.lemmas.Bool.{cond-true, cond-false, eq-eqb, ne_eqb, lt-ltb, le-ltb}
use Rattle.std.proofs.lemmas.List.{drop_at, take_at}
use Rattle.dom_forest.specs.declared.node.NewNode.{NewNode}
use Rattle.dom_forest.specs.declared.entry.Entry.{Entry}
pub use Rattle.dom_forest.specs.Chain.{entry_times}
use Rattle.dom_forest.specs.Forest.{Forest, empty, tree, times, count, joined_forests}
use Rattle.dom_forest.specs.Runs.{below_at}
use Rattle.dom_forest.specs.Flat.{flat, standing, forest_of}

pub joined_forests-empty : (forest : Forest) → joined_forests forest empty ≡ forest
joined_forests-empty empty = refl
joined_forests-empty (tree i content kids later) = ap (tree i content kids) (joined_forests-empty later)

pub flat-append : (depth : ℕ) (forest : Forest) (more most : List Entry) → flat depth forest (more ++ most) ≡ flat depth forest more ++ most
flat-append depth empty more most = refl
flat-append depth (tree i content kids later) more most =
    ap (λ es. record { depth = depth; id = i; node = content } ∷ es)
    (ap (flat (depth + 1) kids) (flat-append depth later more most) ∙ flat-append (depth + 1) kids (flat depth later more) most)

pub flat-joined_forests : (depth : ℕ) (forest other : Forest) (more : List Entry) → flat depth (joined_forests forest other) more ≡ flat depth forest (flat depth other more)
flat-joined_forests depth empty other more = refl
flat-joined_forests depth (tree i content kids later) other more =
    ap (λ es. record { depth = depth; id = i; node = content } ∷ flat (depth + 1) kids es) (flat-joined_forests depth later other more)

pub length-flat : (depth : ℕ) (forest : Forest) (more : List Entry) → length (flat depth forest more) ≡ count forest + length more
length-flat depth empty more = omega arith
length-flat depth (tree i content kids later) more =
    omega (arith, length-flat (depth + 1) kids (flat depth later more), length-flat depth later more)

pub drop-flat : (depth : ℕ) (forest : Forest) (more : List Entry) → drop (count forest) (flat depth forest more) ≡ more
drop-flat depth forest more =
    ap (drop (count forest)) (flat-append depth forest [] more) ∙ drop_at (flat depth forest []) more (count forest) (length-flat depth forest [] ∙ add-zero (count forest))

pub take-flat : (depth : ℕ) (forest : Forest) (more : List Entry) → take (count forest) (flat depth forest more) ≡ flat depth forest []
take-flat depth forest more =
    ap (take (count forest)) (flat-append depth forest [] more) ∙ take_at (flat depth forest []) more (count forest) (length-flat depth forest [] ∙ add-zero (count forest))

-- Nothing that stands deeper begins the entries.
abbrev pub NoneDeeper : ℕ → List Entry → Type 0
NoneDeeper depth entries = (deep : ℕ) → depth < deep → standing entries deep ≡ empty

-- What stands at each depth where a forest at a depth begins the entries.
pub record Stands (depth : ℕ) (forest : Forest) (more : List Entry) : Type 0 where
  pub at : standing (flat depth forest more) depth ≡ joined_forests forest (standing more depth)
  pub above : (high : ℕ) → high < depth → standing (flat depth forest more) high ≡ standing more high
  pub below : NoneDeeper depth (flat depth forest more)

abbrev standing_first : ℕ → ℕ → NewNode → List Entry → ℕ → Forest
standing_first depth i content es d =
    if depth == d then tree i content (standing es (d + 1)) (standing es d) else
    if nat_lt depth d then empty else standing es d

first_same : (depth i : ℕ) (content : NewNode) (es : List Entry) → standing_first depth i content es depth ≡ tree i content (standing es (depth + 1)) (standing es depth)
first_same depth i content es = cond-true (eqb depth depth) _ _ (eq-eqb depth depth refl)

first_above : (depth i : ℕ) (content : NewNode) (es : List Entry) (high : ℕ) → high < depth → standing_first depth i content es high ≡ standing es high
first_above depth i content es high h =
    cond-false (eqb depth high) _ _ (ne_eqb depth high (omega arith)) ∙ cond-false (ltb depth high) _ _ (le-ltb depth high (omega arith))

first_below : (depth i : ℕ) (content : NewNode) (es : List Entry) (deep : ℕ) → depth < deep → standing_first depth i content es deep ≡ empty
first_below depth i content es deep h =
    cond-false (eqb depth deep) _ _ (ne_eqb depth deep (omega arith)) ∙ cond-true (ltb depth deep) _ _ (lt-ltb depth deep h)

pub standing-flat : (depth : ℕ) (forest : Forest) (more : List Entry) → NoneDeeper depth more → Stands depth forest more
standing-flat depth empty more none = record { at = refl; above = λ high h. refl; below = none }
standing-flat depth (tree i content kids later) more none =
    let after = standing-flat depth later more none in
    let inner = standing-flat (depth + 1) kids (flat depth later more) (λ deep h. after.below deep (omega arith)) in
    let es = flat (depth + 1) kids (flat depth later more) in
    record {
      at = first_same depth i content es ∙ ap (λ (k : Forest). tree i content k (standing es depth)) (inner.at ∙ ap (joined_forests kids) (after.below (depth + 1) (omega arith)) ∙ joined_forests-empty kids) ∙ ap (tree i content kids) (inner.above depth (omega arith) ∙ after.at);
      above = λ high h. first_above depth i content es high h ∙ inner.above high (omega arith) ∙ after.above high h;
      below = λ deep h. first_below depth i content es deep h;
    }

-- The forest of a flat list is the one that was written.
pub forest_of-flat : (forest : Forest) → forest_of (flat 0 forest []) ≡ forest
forest_of-flat forest = (standing-flat 0 forest [] (λ deep h. refl)).at ∙ joined_forests-empty forest

pub entry_times-flat : (id depth : ℕ) (forest : Forest) (more : List Entry) → entry_times id (flat depth forest more) ≡ times id forest + entry_times id more
entry_times-flat id depth empty more = omega arith
entry_times-flat id depth (tree i content kids later) more =
    omega (arith, entry_times-flat id (depth + 1) kids (flat depth later more), entry_times-flat id depth later more)

pub entry_times-append : (id : ℕ) (es fs : List Entry) → entry_times id (es ++ fs) ≡ entry_times id es + entry_times id fs
entry_times-append id [] fs = omega arith
entry_times-append id (e ∷ es) fs = omega (arith, entry_times-append id es fs)

-- The entries are past the children and the later siblings of a node at this depth.
abbrev pub EndsAbove : ℕ → List Entry → Type 0
EndsAbove depth [] = Unit {0}
EndsAbove depth (e ∷ es) = e.depth < depth

pub EndsAbove-deeper : (depth : ℕ) (es : List Entry) → EndsAbove depth es → EndsAbove (depth + 1) es
EndsAbove-deeper depth [] h = tt
EndsAbove-deeper depth (e ∷ es) h = omega arith

pub EndsAbove-later : (depth : ℕ) (later : Forest) (more : List Entry) → EndsAbove depth more → EndsAbove (depth + 1) (flat depth later more)
EndsAbove-later depth empty more h = EndsAbove-deeper depth more h
EndsAbove-later depth (tree i content kids later) more h = omega arith

pub prefix_len-flat : (top depth : ℕ) (forest : Forest) (more : List Entry) → top < depth → prefix_len (below_at top) (flat depth forest more) ≡ count forest + prefix_len (below_at top) more
prefix_len-flat top depth empty more h = omega arith
prefix_len-flat top depth (tree i content kids later) more h =
    cond-true (ltb top depth) _ _ (lt-ltb top depth h)
    ∙ omega (arith, prefix_len-flat top (depth + 1) kids (flat depth later more) (omega arith), prefix_len-flat top depth later more h)

pub prefix_len-above : (depth : ℕ) (es : List Entry) → EndsAbove (depth + 1) es → prefix_len (below_at depth) es ≡ 0
prefix_len-above depth [] h = refl
prefix_len-above depth (e ∷ es) h = cond-false (ltb depth e.depth) _ _ (le-ltb depth e.depth (omega arith))

pub counts_one : (a b : ℕ) → a ≡ b → ◌≡◌ {A = ℕ} (if a == b then 1 else 0) 1
counts_one a b h = cond-true (eqb a b) 1 0 (eq-eqb a b h)

pub counts_none : (a b : ℕ) → a ≢ b → ◌≡◌ {A = ℕ} (if a == b then 1 else 0) 0
counts_none a b h = cond-false (eqb a b) 1 0 (ne_eqb a b h)
