-- A node of a forest, and what stands around it and its later siblings.
use Rattle.std.proofs.Common.{◌≡◌, ◌≢◌, ℕ, zero, suc, ◌+◌, ◌==◌, eqb, Bool, true, false, if◌then◌else◌, ◌||◌, ◌⊎◌, inl, inr, List, [], ◌∷◌, refl, ap, ◌∙◌, subst, arith}
use Rattle.std.specs.List.{list_any}
use Rattle.std.proofs.lemmas.Bool.{cond-true, cond-false, eqb-true, eq-eqb, ne_eqb}
use Rattle.dom_forest.specs.declared.node.NewNode.{NewNode}
use Rattle.dom_forest.specs.Forest.{Forest, empty, tree, times, or_else, from}
use Rattle.dom_forest.specs.Edits.{with_change}
use Rattle.document_machine.specs.Paths.{IsPath}

abbrev pub Change : Type 0
Change = NewNode → Forest → Forest → Forest

-- What is known of an id that is not there.
pub record Absent (id : ℕ) (forest : Forest) : Type 0 where
  pub from_is : from id forest ≡ empty
  pub same : (change : NewNode → Forest → Forest → Forest) → with_change id change forest ≡ forest

absent_tree : (id i : ℕ) (content : NewNode) (kids later : Forest) (b : Bool) → (i == id) ≡ b
    → (if b then 1 else 0) + times id kids + times id later ≡ 0
    → (times id kids ≡ 0 → Absent id kids) → (times id later ≡ 0 → Absent id later) → Absent id (tree i content kids later)
absent_tree id i content kids later true e none inner after = absurd (omega arith)
absent_tree id i content kids later false e none inner after =
    let k = inner (omega arith) in
    let l = after (omega arith) in
    record {
      from_is = cond-false (eqb i id) _ _ e ∙ ap (λ f. or_else f (from id later)) k.from_is ∙ l.from_is;
      same = λ change. cond-false (eqb i id) _ _ e ∙ ap (λ f. tree i content f (with_change id change later)) (k.same change) ∙ ap (tree i content kids) (l.same change);
    }

pub absent : (id : ℕ) (forest : Forest) → times id forest ≡ 0 → Absent id forest
absent id empty none = record { from_is = refl; same = λ change. refl }
absent id (tree i content kids later) none = absent_tree id i content kids later (i == id) refl none (absent id kids) (absent id later)

or_else-empty : (forest : Forest) → or_else forest empty ≡ forest
or_else-empty empty = refl
or_else-empty (tree i content kids later) = refl

-- A path goes on in later siblings.
pub path_past : (o : ℕ) (os : List ℕ) (i : ℕ) (content : NewNode) (kids later : Forest) → IsPath (o ∷ os) later → IsPath (o ∷ os) (tree i content kids later)
path_past o os i content kids empty p = absurd p
path_past o os i content kids (tree j other below later) p = p

path_later : (id o : ℕ) (os : List ℕ) (i : ℕ) (content : NewNode) (kids later : Forest) → times id later ≡ 1 → IsPath (o ∷ os) (tree i content kids later) → IsPath (o ∷ os) later
path_later id o os i content kids empty there p = absurd (omega arith)
path_later id o os i content kids (tree j other below later) there p = p

pub neither : (a b : Bool) → (a || b) ≡ false → (a ≡ false) × (b ≡ false)
neither true b e = absurd (let t : true ≡ false = e in cc)
neither false b e = (refl, e)

-- A node, the forest `around` what stands from it on, and how often each id stands there, `outside`.
pub record Spot (id : ℕ) (forest : Forest) : Type 0 where
  pub around : Forest → Forest
  pub outside : ℕ → ℕ
  pub content : NewNode
  pub kids : Forest
  pub later : Forest
  pub is : forest ≡ around (tree id content kids later)
  pub edited : (change : NewNode → Forest → Forest → Forest) → with_change id change forest ≡ around (change content kids later)
  pub found : from id forest ≡ tree id content kids later
  pub counts : (j : ℕ) (f : Forest) → times j (around f) ≡ outside j + times j f
  pub passes : (j : ℕ) (change : NewNode → Forest → Forest → Forest) (f : Forest) → outside j ≡ 0 → with_change j change (around f) ≡ around (with_change j change f)
  pub reaches : (j : ℕ) (f : Forest) → outside j ≡ 0 → from j (around f) ≡ from j f
  pub keeps : (os : List ℕ) (test : ℕ → Bool) (f : Forest) → IsPath os forest → list_any test os ≡ false
      → ((o : ℕ) (rest : List ℕ) → test o ≡ false → IsPath (o ∷ rest) (tree id content kids later) → IsPath (o ∷ rest) f) → IsPath os (around f)

module _ (id i : ℕ) (content : NewNode) (kids later : Forest) where
  keeps_here : (os : List ℕ) (test : ℕ → Bool) (f : Forest) → i ≡ id → IsPath os (tree i content kids later) → list_any test os ≡ false
      → ((o : ℕ) (rest : List ℕ) → test o ≡ false → IsPath (o ∷ rest) (tree id content kids later) → IsPath (o ∷ rest) f) → IsPath os f
  keeps_here [] test f e p all h = tt
  keeps_here (o ∷ os) test f e p all h = h o os (neither (test o) (list_any test os) all).0 (subst (λ n. IsPath (o ∷ os) (tree n content kids later)) e p)

  spot_here : i ≡ id → Spot id (tree i content kids later)
  spot_here e = record {
    around = λ f. f;
    outside = λ j. 0;
    content = content;
    kids = kids;
    later = later;
    is = ap (λ n. tree n content kids later) e;
    edited = λ change. cond-true (eqb i id) _ _ (eq-eqb i id e);
    found = cond-true (eqb i id) _ _ (eq-eqb i id e) ∙ ap (λ n. tree n content kids later) e;
    counts = λ j f. omega arith;
    passes = λ j change f none. refl;
    reaches = λ j f none. refl;
    keeps = λ os test f p all h. keeps_here os test f e p all h;
  }

  -- the node is not among these siblings, but below the first
  module _ (k : Spot id kids) where
    abbrev below : Forest → Forest
    below f = tree i content (k.around f) later

    passes_below : (j : ℕ) (change : Change) (f : Forest) (b : Bool) → (i == j) ≡ b → (if b then 1 else 0) + k.outside j + times j later ≡ 0
        → with_change j change (below f) ≡ below (with_change j change f)
    passes_below j change f true e none = absurd (omega arith)
    passes_below j change f false e none =
        cond-false (eqb i j) _ _ e ∙ ap (λ x. tree i content x (with_change j change later)) (k.passes j change f (omega arith))
        ∙ ap (tree i content (k.around (with_change j change f))) ((absent j later (omega arith)).same change)

    reaches_below : (j : ℕ) (f : Forest) (b : Bool) → (i == j) ≡ b → (if b then 1 else 0) + k.outside j + times j later ≡ 0 → from j (below f) ≡ from j f
    reaches_below j f true e none = absurd (omega arith)
    reaches_below j f false e none =
        cond-false (eqb i j) _ _ e ∙ ap (λ x. or_else x (from j later)) (k.reaches j f (omega arith))
        ∙ ap (or_else (from j f)) ((absent j later (omega arith)).from_is) ∙ or_else-empty (from j f)

    keeps_below : (os : List ℕ) (test : ℕ → Bool) (f after : Forest) → IsPath os (tree i content kids after) → list_any test os ≡ false
        → ((o : ℕ) (rest : List ℕ) → test o ≡ false → IsPath (o ∷ rest) (tree id k.content k.kids k.later) → IsPath (o ∷ rest) f)
        → IsPath os (tree i content (k.around f) after)
    keeps_below [] test f after p all h = tt
    keeps_below (o ∷ os) test f empty p all h = (p.0, p.1, k.keeps os test f p.2 (neither (test o) (list_any test os) all).1 h)
    keeps_below (o ∷ os) test f (tree j other lower after) p all h = p

    spot_below : i ≢ id → times id later ≡ 0 → Spot id (tree i content kids later)
    spot_below e none =
        let gone = absent id later none in
        record {
          around = below;
          outside = λ j. (if i == j then 1 else 0) + k.outside j + times j later;
          content = k.content;
          kids = k.kids;
          later = k.later;
          is = ap (λ f. tree i content f later) k.is;
          edited = λ change. cond-false (eqb i id) _ _ (ne_eqb i id e) ∙ ap (λ f. tree i content f (with_change id change later)) (k.edited change) ∙ ap (tree i content (k.around (change k.content k.kids k.later))) (gone.same change);
          found = cond-false (eqb i id) _ _ (ne_eqb i id e) ∙ ap (λ f. or_else f (from id later)) k.found;
          counts = λ j f. omega (arith, k.counts j f);
          passes = λ j change f none. passes_below j change f (i == j) refl none;
          reaches = λ j f none. reaches_below j f (i == j) refl none;
          keeps = λ os test f p all h. keeps_below os test f later p all h;
        }

  -- the node is a later sibling of the first, or below one
  module _ (l : Spot id later) where
    abbrev past : Forest → Forest
    past f = tree i content kids (l.around f)

    passes_past : (j : ℕ) (change : Change) (f : Forest) (b : Bool) → (i == j) ≡ b → (if b then 1 else 0) + times j kids + l.outside j ≡ 0
        → with_change j change (past f) ≡ past (with_change j change f)
    passes_past j change f true e none = absurd (omega arith)
    passes_past j change f false e none =
        cond-false (eqb i j) _ _ e ∙ ap (tree i content (with_change j change kids)) (l.passes j change f (omega arith))
        ∙ ap (λ x. tree i content x (l.around (with_change j change f))) ((absent j kids (omega arith)).same change)

    reaches_past : (j : ℕ) (f : Forest) (b : Bool) → (i == j) ≡ b → (if b then 1 else 0) + times j kids + l.outside j ≡ 0 → from j (past f) ≡ from j f
    reaches_past j f true e none = absurd (omega arith)
    reaches_past j f false e none =
        cond-false (eqb i j) _ _ e ∙ ap (λ x. or_else x (from j (l.around f))) ((absent j kids (omega arith)).from_is) ∙ l.reaches j f (omega arith)

    keeps_past : (os : List ℕ) (test : ℕ → Bool) (f : Forest) → times id later ≡ 1 → IsPath os (tree i content kids later) → list_any test os ≡ false
        → ((o : ℕ) (rest : List ℕ) → test o ≡ false → IsPath (o ∷ rest) (tree id l.content l.kids l.later) → IsPath (o ∷ rest) f)
        → IsPath os (past f)
    keeps_past [] test f there p all h = tt
    keeps_past (o ∷ os) test f there p all h =
        path_past o os i content kids (l.around f) (l.keeps (o ∷ os) test f (path_later id o os i content kids later there p) all h)

    spot_past : i ≢ id → times id kids ≡ 0 → times id later ≡ 1 → Spot id (tree i content kids later)
    spot_past e none there =
        let gone = absent id kids none in
        record {
          around = past;
          outside = λ j. (if i == j then 1 else 0) + times j kids + l.outside j;
          content = l.content;
          kids = l.kids;
          later = l.later;
          is = ap (tree i content kids) l.is;
          edited = λ change. cond-false (eqb i id) _ _ (ne_eqb i id e) ∙ ap (tree i content (with_change id change kids)) (l.edited change) ∙ ap (λ f. tree i content f (l.around (change l.content l.kids l.later))) (gone.same change);
          found = cond-false (eqb i id) _ _ (ne_eqb i id e) ∙ ap (λ f. or_else f (from id later)) gone.from_is ∙ l.found;
          counts = λ j f. omega (arith, l.counts j f);
          passes = λ j change f none. passes_past j change f (i == j) refl none;
          reaches = λ j f none. reaches_past j f (i == j) refl none;
          keeps = λ os test f p all h. keeps_past os test f there p all h;
        }

split_one : (a b : ℕ) → a + b ≡ 1 → ((a ≡ 1) × (b ≡ 0)) ⊎ ((a ≡ 0) × (b ≡ 1))
split_one zero b h = inr (refl, omega arith)
split_one (suc a) b h = inl (omega arith, omega arith)

differs : (i id : ℕ) → (i == id) ≡ false → i ≢ id
differs i id e same = let t : (i == id) ≡ true = eq-eqb i id same in cc

spot_tree : (id i : ℕ) (content : NewNode) (kids later : Forest) (b : Bool) → (i == id) ≡ b
    → (if b then 1 else 0) + times id kids + times id later ≡ 1
    → (times id kids ≡ 1 → Spot id kids) → (times id later ≡ 1 → Spot id later)
    → Spot id (tree i content kids later)
spot_tree id i content kids later true e once inner after = spot_here id i content kids later (eqb-true i id e)
spot_tree id i content kids later false e once inner after =
    elim (split_one (times id kids) (times id later) (omega arith)) [
      | inl h ↦ spot_below id i content kids later (inner h.0) (differs i id e) h.1
      | inr h ↦ spot_past id i content kids later (after h.1) (differs i id e) h.0 h.1
    ]

pub spot : (id : ℕ) (forest : Forest) → times id forest ≡ 1 → Spot id forest
spot id empty once = absurd (omega arith)
spot id (tree i content kids later) once = spot_tree id i content kids later (i == id) refl once (spot id kids) (spot id later)
