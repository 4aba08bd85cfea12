-- A node of a forest, and where it stands in the flat list.
use Rattle.std.proofs.Common.{◌≡◌, ℕ, zero, suc, ◌+◌, ◌<◌, ◌≤◌, ◌==◌, eqb, ltb, Bool, true, false, if◌then◌else◌, ◌⊎◌, inl, inr, Option, Some, None, List, [], ◌∷◌, ◌++◌, length, refl, sym, ap, ◌∙◌, arith}
use Rattle.std.proofs.lemmas.Bool.{cond-true, cond-false, cases_lt, eqb-true, eq-eqb, ne_eqb, lt-ltb, le-ltb}
use Rattle.dom_forest.specs.declared.node.NewNode.{NewNode}
use Rattle.dom_forest.specs.declared.entry.Entry.{Entry}
use Rattle.dom_forest.specs.Forest.{Forest, empty, tree, times, or_else, from, or_id, parent_under, previous_after}
use Rattle.dom_forest.specs.Edits.{with_change}
use Rattle.dom_forest.specs.Flat.{flat}
use Rattle.dom_forest.specs.Runs.{id_after, parent_step, previous_step}
use Rattle.dom_forest.proofs.Flattening.{flat-append, length-flat, EndsAbove, EndsAbove-later}

abbrev Change : Type 0
Change = NewNode → Forest → Forest → Forest

-- What is known of an id that is not there.
pub record Absent (id : ℕ) (forest : Forest) : Type 0 where
  pub from_is : from id forest ≡ empty
  pub same : (change : NewNode → Forest → Forest → Forest) → with_change id change forest ≡ forest
  pub parent : (above : Option ℕ) → parent_under above id forest ≡ None
  pub previous : (before : Option ℕ) → previous_after before id forest ≡ None

absent_tree : (id i : ℕ) (content : NewNode) (kids later : Forest) (b : Bool) → (i == id) ≡ b
    → (if b then 1 else 0) + times id kids + times id later ≡ 0
    → (times id kids ≡ 0 → Absent id kids) → (times id later ≡ 0 → Absent id later) → Absent id (tree i content kids later)
absent_tree id i content kids later true e none inner after = absurd (omega arith)
absent_tree id i content kids later false e none inner after =
    let k = inner (omega arith) in
    let l = after (omega arith) in
    record {
      from_is = cond-false (eqb i id) _ _ e ∙ ap (λ f. or_else f (from id later)) k.from_is ∙ l.from_is;
      same = λ change. cond-false (eqb i id) _ _ e ∙ ap (λ f. tree i content f (with_change id change later)) (k.same change) ∙ ap (tree i content kids) (l.same change);
      parent = λ above. cond-false (eqb i id) _ _ e ∙ ap (λ p. or_id p (parent_under above id later)) (k.parent (Some i)) ∙ l.parent above;
      previous = λ before. cond-false (eqb i id) _ _ e ∙ ap (λ p. or_id p (previous_after (Some i) id later)) (k.previous None) ∙ l.previous (Some i);
    }

pub absent : (id : ℕ) (forest : Forest) → times id forest ≡ 0 → Absent id forest
absent id empty none = record { from_is = refl; same = λ change. refl; parent = λ above. refl; previous = λ before. refl }
absent id (tree i content kids later) none =
    absent_tree id i content kids later (i == id) refl none (absent id kids) (absent id later)

pub id_after-append : (step : Entry → Option ℕ → Option ℕ) (id : Option ℕ) (es fs : List Entry) → id_after step id (es ++ fs) ≡ id_after step (id_after step id es) fs
id_after-append step id [] fs = refl
id_after-append step id (e ∷ es) fs = id_after-append step (step e id) es fs

pub run_over : (step : Entry → Option ℕ → Option ℕ) (id : Option ℕ) (depth : ℕ) (forest : Forest) (more : List Entry)
    → id_after step id (flat depth forest more) ≡ id_after step (id_after step id (flat depth forest [])) more
run_over step id depth forest more = ap (id_after step id) (flat-append depth forest [] more) ∙ id_after-append step id (flat depth forest []) more

pub or_id-none : (id : Option ℕ) → or_id id None ≡ id
or_id-none None = refl
or_id-none (Some id) = refl

-- A run passes over what stands deeper.
passed_over : (step : Entry → Option ℕ → Option ℕ) (least : ℕ) → ((e : Entry) (id : Option ℕ) → least ≤ e.depth → step e id ≡ id)
    → (id : Option ℕ) (depth : ℕ) (forest : Forest) (more : List Entry) → least ≤ depth → id_after step id (flat depth forest more) ≡ id_after step id more
passed_over step least passes id depth empty more h = refl
passed_over step least passes id depth (tree i content kids later) more h =
    ap (λ x. id_after step x (flat (depth + 1) kids (flat depth later more))) (passes (record { depth = depth; id = i; node = content }) id h)
    ∙ passed_over step least passes id (depth + 1) kids (flat depth later more) (omega arith)
    ∙ passed_over step least passes id depth later more h

parent_passes : (depth : ℕ) (e : Entry) (id : Option ℕ) → depth ≤ e.depth → parent_step depth e id ≡ id
parent_passes depth e id h = cond-false (ltb e.depth depth) _ _ (le-ltb e.depth depth h)

previous_passes : (depth : ℕ) (e : Entry) (id : Option ℕ) → depth + 1 ≤ e.depth → previous_step depth e id ≡ id
previous_passes depth e id h =
    cond-false (eqb e.depth depth) _ _ (ne_eqb e.depth depth (λ same. omega arith)) ∙ cond-false (ltb e.depth depth) _ _ (le-ltb e.depth depth (omega arith))

-- What a run keeps is forgotten at the entries.
abbrev Forgets : (Entry → Option ℕ → Option ℕ) → List Entry → Type 0
Forgets step es = (x y : Option ℕ) → id_after step x es ≡ id_after step y es

parent_forgets : (depth : ℕ) (e : Entry) (x y : Option ℕ) → e.depth < depth → parent_step depth e x ≡ parent_step depth e y
parent_forgets depth e x y h = cond-true (ltb e.depth depth) _ _ (lt-ltb e.depth depth h) ∙ sym (cond-true (ltb e.depth depth) _ _ (lt-ltb e.depth depth h))

previous_forgets : (depth : ℕ) (e : Entry) (x : Option ℕ) → e.depth < depth → previous_step depth e x ≡ None
previous_forgets depth e x h =
    cond-false (eqb e.depth depth) _ _ (ne_eqb e.depth depth (omega arith)) ∙ cond-true (ltb e.depth depth) _ _ (lt-ltb e.depth depth h)

-- A node in the entries of a forest whose trees stand at `top`: what stands before it, its depth, and what follows what
-- stands below it and its later siblings.
pub record Focus (id top : ℕ) (forest : Forest) (more : List Entry) (above before : Option ℕ) : Type 0 where
  pub front : List Entry
  pub depth : ℕ
  pub content : NewNode
  pub kids : Forest
  pub later : Forest
  pub back : List Entry
  pub found : from id forest ≡ tree id content kids later
  pub whole : flat top forest more ≡ front ++ flat depth (tree id content kids later) back
  pub edited : (change : NewNode → Forest → Forest → Forest) → flat top (with_change id change forest) more ≡ front ++ flat depth (change content kids later) back
  pub ends : EndsAbove depth back
  pub high : top ≤ depth
  pub deep : depth ≤ top + length front
  pub parent : parent_under above id forest ≡ id_after (parent_step depth) above front
  pub previous : previous_after before id forest ≡ id_after (previous_step depth) before front
  pub parent_set : top < depth → (x y : Option ℕ) → id_after (parent_step depth) x front ≡ id_after (parent_step depth) y front
  pub previous_set : top < depth → (x y : Option ℕ) → id_after (previous_step depth) x front ≡ id_after (previous_step depth) y front

module _ (id top i : ℕ) (content : NewNode) (kids later : Forest) (more : List Entry) (above before : Option ℕ) where
  abbrev entry : Entry
  entry = record { depth = top; id = i; node = content }

  focus_here : (i == id) ≡ true → EndsAbove top more → Focus id top (tree i content kids later) more above before
  focus_here e ends =
      let p = eqb-true i id e in
      record {
        front = [];
        depth = top;
        content = content;
        kids = kids;
        later = later;
        back = more;
        found = cond-true (eqb i id) _ _ e ∙ ap (λ n. tree n content kids later) p;
        whole = ap (λ n. flat top (tree n content kids later) more) p;
        edited = λ change. ap (λ f. flat top f more) (cond-true (eqb i id) _ _ e);
        ends = ends;
        high = omega arith;
        deep = omega arith;
        parent = cond-true (eqb i id) _ _ e;
        previous = cond-true (eqb i id) _ _ e;
        parent_set = λ h. absurd (omega arith);
        previous_set = λ h. absurd (omega arith);
      }

  focus_below : (i == id) ≡ false → times id later ≡ 0 → Focus id (top + 1) kids (flat top later more) (Some i) None → Focus id top (tree i content kids later) more above before
  focus_below e none k =
      let gone = absent id later none in
      record {
        front = entry ∷ k.front;
        depth = k.depth;
        content = k.content;
        kids = k.kids;
        later = k.later;
        back = k.back;
        found = cond-false (eqb i id) _ _ e ∙ ap (λ f. or_else f (from id later)) k.found;
        whole = ap (λ es. entry ∷ es) k.whole;
        edited = λ change. ap (λ f. flat top f more) (cond-false (eqb i id) _ _ e ∙ ap (tree i content (with_change id change kids)) (gone.same change)) ∙ ap (λ es. entry ∷ es) (k.edited change);
        ends = k.ends;
        high = omega (arith, k.high);
        deep = omega (arith, k.deep);
        parent = cond-false (eqb i id) _ _ e ∙ ap (or_id (parent_under (Some i) id kids)) (gone.parent above) ∙ or_id-none (parent_under (Some i) id kids)
            ∙ k.parent ∙ ap (λ p. id_after (parent_step k.depth) p k.front) (sym (cond-true (ltb top k.depth) (Some i) above (lt-ltb top k.depth (omega (arith, k.high)))));
        previous = cond-false (eqb i id) _ _ e ∙ ap (or_id (previous_after None id kids)) (gone.previous (Some i)) ∙ or_id-none (previous_after None id kids)
            ∙ k.previous ∙ ap (λ p. id_after (previous_step k.depth) p k.front) (sym (previous_forgets k.depth entry before (omega (arith, k.high))));
        parent_set = λ h x y. ap (λ p. id_after (parent_step k.depth) p k.front) (parent_forgets k.depth entry x y h);
        previous_set = λ h x y. ap (λ p. id_after (previous_step k.depth) p k.front) (previous_forgets k.depth entry x h ∙ sym (previous_forgets k.depth entry y h));
      }

  parent_after : (depth : ℕ) (front : List Entry) → (top < depth) ⊎ (depth ≤ top) → top ≤ depth
      → (top < depth → (x y : Option ℕ) → id_after (parent_step depth) x front ≡ id_after (parent_step depth) y front)
      → id_after (parent_step depth) above front ≡ id_after (parent_step depth) (parent_step depth entry above) (flat (top + 1) kids front)
  parent_after depth front (inl h) high set = set h above _ ∙ sym (run_over (parent_step depth) _ (top + 1) kids front)
  parent_after depth front (inr h) high set =
      ap (λ p. id_after (parent_step depth) p front) (sym (parent_passes depth entry above h))
      ∙ sym (passed_over (parent_step depth) depth (parent_passes depth) _ (top + 1) kids front (omega arith))

  previous_sibling : (depth : ℕ) (front : List Entry) → (top < depth) ⊎ (depth ≤ top) → top ≤ depth
      → (top < depth → (x y : Option ℕ) → id_after (previous_step depth) x front ≡ id_after (previous_step depth) y front)
      → id_after (previous_step depth) (Some i) front ≡ id_after (previous_step depth) (previous_step depth entry before) (flat (top + 1) kids front)
  previous_sibling depth front (inl h) high set = set h (Some i) _ ∙ sym (run_over (previous_step depth) _ (top + 1) kids front)
  previous_sibling depth front (inr h) high set =
      ap (λ p. id_after (previous_step depth) p front) (sym (cond-true (eqb top depth) _ _ (eq-eqb top depth (omega arith))))
      ∙ sym (passed_over (previous_step depth) (depth + 1) (previous_passes depth) _ (top + 1) kids front (omega arith))

  focus_after : (i == id) ≡ false → times id kids ≡ 0 → Focus id top later more above (Some i) → Focus id top (tree i content kids later) more above before
  focus_after e none l =
      let gone = absent id kids none in
      record {
        front = entry ∷ flat (top + 1) kids l.front;
        depth = l.depth;
        content = l.content;
        kids = l.kids;
        later = l.later;
        back = l.back;
        found = cond-false (eqb i id) _ _ e ∙ ap (λ f. or_else f (from id later)) gone.from_is ∙ l.found;
        whole = ap (λ es. entry ∷ es) (ap (flat (top + 1) kids) l.whole ∙ flat-append (top + 1) kids l.front _);
        edited = λ change. ap (λ f. flat top f more) (cond-false (eqb i id) _ _ e ∙ ap (λ f. tree i content f (with_change id change later)) (gone.same change))
            ∙ ap (λ es. entry ∷ es) (ap (flat (top + 1) kids) (l.edited change) ∙ flat-append (top + 1) kids l.front _);
        ends = l.ends;
        high = l.high;
        deep = omega (arith, l.deep, length-flat (top + 1) kids l.front);
        parent = cond-false (eqb i id) _ _ e ∙ ap (λ p. or_id p (parent_under above id later)) (gone.parent (Some i))
            ∙ l.parent ∙ parent_after l.depth l.front (cases_lt top l.depth) l.high l.parent_set;
        previous = cond-false (eqb i id) _ _ e ∙ ap (λ p. or_id p (previous_after (Some i) id later)) (gone.previous None)
            ∙ l.previous ∙ previous_sibling l.depth l.front (cases_lt top l.depth) l.high l.previous_set;
        parent_set = λ h x y. run_over (parent_step l.depth) _ (top + 1) kids l.front ∙ l.parent_set h _ _ ∙ sym (run_over (parent_step l.depth) _ (top + 1) kids l.front);
        previous_set = λ h x y. run_over (previous_step l.depth) _ (top + 1) kids l.front ∙ l.previous_set h _ _ ∙ sym (run_over (previous_step l.depth) _ (top + 1) kids l.front);
      }

split_one : (a b : ℕ) → a + b ≡ 1 → ((a ≡ 1) × (b ≡ 0)) ⊎ ((a ≡ 0) × (b ≡ 1))
split_one zero b h = inr (refl, omega arith)
split_one (suc a) b h = inl (omega arith, omega arith)

focus_tree : (id top i : ℕ) (content : NewNode) (kids later : Forest) (more : List Entry) (above before : Option ℕ) (b : Bool) → (i == id) ≡ b
    → (if b then 1 else 0) + times id kids + times id later ≡ 1 → EndsAbove top more
    → (times id kids ≡ 1 → Focus id (top + 1) kids (flat top later more) (Some i) None)
    → (times id later ≡ 1 → Focus id top later more above (Some i))
    → Focus id top (tree i content kids later) more above before
focus_tree id top i content kids later more above before true e once ends inner after = focus_here id top i content kids later more above before e ends
focus_tree id top i content kids later more above before false e once ends inner after =
    elim (split_one (times id kids) (times id later) (omega arith)) [
      | inl h ↦ focus_below id top i content kids later more above before e h.1 (inner h.0)
      | inr h ↦ focus_after id top i content kids later more above before e h.0 (after h.1)
    ]

pub focus : (id top : ℕ) (forest : Forest) (more : List Entry) (above before : Option ℕ) → times id forest ≡ 1 → EndsAbove top more → Focus id top forest more above before
focus id top empty more above before once ends = absurd (omega arith)
focus id top (tree i content kids later) more above before once ends =
    focus_tree id top i content kids later more above before (i == id) refl once ends
    (λ h. focus id (top + 1) kids (flat top later more) (Some i) None h (EndsAbove-later top later more ends))
    (λ h. focus id top later more above (Some i) h ends)
