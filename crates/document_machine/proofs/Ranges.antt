-- Taking out siblings one by one, up to one that stays.
use Rattle.std.proofs.Common.{◌≡◌, ◌≢◌, ℕ, zero, suc, ◌+◌, ◌<◌, ◌==◌, eqb, false, if◌then◌else◌, Some, None, refl, sym, ap, ◌∙◌, subst, arith}
use Rattle.std.proofs.lemmas.Bool.{cond-true, cond-false, eq-eqb, ne_eqb}
use Rattle.dom_forest.specs.Forest.{Forest, empty, tree, times, from, first_id, first_later, later_of, next_of, IsThere}
use Rattle.dom_forest.specs.Edits.{DomState, IsNumbered, with_change, without_node}
use Rattle.document_machine.specs.Edits.{from_sibling, without_range}
use Rattle.document_machine.proofs.Spots.{Spot, spot}
use Rattle.document_machine.proofs.Shapes.{tops, tops_times}
use Rattle.document_machine.proofs.Finding.{nothing_is, there_among, stands_from}
use Rattle.document_machine.proofs.Numbering.{numbered_without}

-- the forest without the siblings from a node, itself included, up to the end
abbrev pub cut_from : ℕ → ℕ → Forest → Forest
cut_from node end forest = with_change node (λ content kids later. from_sibling end (tree node content kids later)) forest

-- Some of the siblings are gone, and the next to go is a node, or it is the end.
pub record IsCut (first end : ℕ) (old : DomState) (node : ℕ) (now : DomState) : Type 0 where
  pub numbered : IsNumbered now
  pub stands : 0 < tops end (from node now.forest)
  pub rest : cut_from node end now.forest ≡ (without_range first end old).forest
  pub next : now.next ≡ old.next

-- how many siblings there are
abbrev pub width : Forest → ℕ
width empty = 0
width (tree i content kids later) = 1 + width later

itself : (i : ℕ) → (if i == i then 1 else 0) ≡ suc zero
itself i = cond-true (eqb i i) _ _ (eq-eqb i i refl)

-- The spot of a node with siblings.
pub spot_among : (j id : ℕ) (dom : DomState) → IsNumbered dom → 0 < tops j (from id dom.forest) → Spot id dom.forest
spot_among j id dom d h = spot id dom.forest (let there : 0 < times id dom.forest = there_among j id dom.forest h in omega (arith, d.once id))

-- A node is none of its later siblings.
past_itself : (j id : ℕ) (dom : DomState) → IsNumbered dom → (s : Spot id dom.forest) → 0 < tops j s.later → (id == j) ≡ false
past_itself j id dom d s h =
    ne_eqb id j (λ same. let counted = ap (times id) s.is in
    absurd (omega (arith, counted, s.counts id (tree id s.content s.kids s.later), itself id, d.once id, tops_times j s.later, ap (λ n. times n s.later) same)))

pub cut_start : (first end : ℕ) (old : DomState) → IsNumbered old → IsThere end (from_sibling end (later_of first old.forest)) → IsCut first end old first old
cut_start first end old d h =
    let stands = stands_from end (later_of first old.forest) h in
    let among : 0 < tops end (from first old.forest) = later_among (from first old.forest) stands in
    let s = spot_among end first old d among in
    let after : 0 < tops end s.later = omega (arith, ap (λ f. tops end (first_later f)) s.found) in
    record {
      numbered = d;
      stands = among;
      rest = ap (λ b. with_change first (λ content kids later. if b then tree first content kids later else from_sibling end later) old.forest) (past_itself end first old d s after);
      next = refl;
    } where
      later_among : (forest : Forest) → 0 < tops end (first_later forest) → 0 < tops end forest
      later_among empty h = h
      later_among (tree i content kids later) h = omega arith

first_there : (n : ℕ) (forest : Forest) → first_id forest ≡ Some n → 0 < times n forest
first_there n empty e = absurd (nothing_is n e)
first_there n (tree i content kids later) e =
    let same : i ≡ n = cc in let one : (if i == n then 1 else 0) ≡ suc zero = cond-true (eqb i n) _ _ (eq-eqb i n same) in omega arith

first_from : (n : ℕ) (forest : Forest) → first_id forest ≡ Some n → from n forest ≡ forest
first_from n empty e = refl
first_from n (tree i content kids later) e = let same : i ≡ n = cc in cond-true (eqb i n) _ _ (eq-eqb i n same)

first_cut : (n end : ℕ) (forest : Forest) → first_id forest ≡ Some n → cut_from n end forest ≡ from_sibling end forest
first_cut n end empty e = refl
first_cut n end (tree i content kids later) e =
    let same : i ≡ n = cc in cond-true (eqb i n) _ _ (eq-eqb i n same) ∙ ap (λ k. from_sibling end (tree k content kids later)) (sym same)

module _ (first end node : ℕ) (old now : DomState) (x : IsCut first end old node now) where
  abbrev here : Spot node now.forest
  here = spot_among end node now x.numbered x.stands

  later_is : later_of node now.forest ≡ here.later
  later_is = ap first_later here.found

  among : 0 < (if node == end then 1 else 0) + tops end here.later
  among = omega (arith, x.stands, ap (tops end) here.found)

  pub cut_none : node ≢ end → next_of node now.forest ≡ None → ⊥
  cut_none other none =
      let past : (if node == end then 1 else 0) ≡ zero = cond-false (eqb node end) _ _ (ne_eqb node end other) in
      last here.later (sym (ap first_id later_is) ∙ none) (omega (arith, among)) where
        last : (forest : Forest) → first_id forest ≡ None → 0 < tops end forest → ⊥
        last empty e h = omega arith
        last (tree i content kids later) e h = nothing_is i (sym e)

  module _ (n : ℕ) (other : node ≢ end) (is : next_of node now.forest ≡ Some n) where
    later_first : first_id here.later ≡ Some n
    later_first = sym (ap first_id later_is) ∙ is

    outside_none : here.outside n ≡ 0
    outside_none = omega (
      arith,
      ap (times n) here.is,
      here.counts n (tree node here.content here.kids here.later),
      first_there n here.later later_first,
      x.numbered.once n,
    )

    gone_from : from n (without_node node now).forest ≡ here.later
    gone_from =
        ap (from n) (here.edited (λ content kids later. later)) ∙ here.reaches n here.later outside_none ∙ first_from n here.later later_first

    pub cut_step : IsCut first end old n (without_node node now)
    cut_step =
        let past : (if node == end then 1 else 0) ≡ zero = cond-false (eqb node end) _ _ (ne_eqb node end other) in
        record {
          numbered = numbered_without node now x.numbered;
          stands = omega (arith, among, ap (tops end) gone_from);
          rest =
              ap (cut_from n end) (here.edited (λ content kids later. later))
              ∙ here.passes n (λ content kids later. from_sibling end (tree n content kids later)) here.later outside_none
              ∙ ap here.around (first_cut n end here.later later_first)
              ∙ sym (here.edited (λ content kids later. from_sibling end (tree node content kids later))
              ∙ ap here.around (cond-false (eqb node end) _ _ (ne_eqb node end other)))
              ∙ x.rest;
          next = x.next;
        }

    pub cut_smaller : width (from n (without_node node now).forest) < width (from node now.forest)
    cut_smaller = omega (arith, ap width gone_from, ap width here.found)

  pub cut_end : node ≡ end → now ≡ without_range first end old
  cut_end same =
      let whole : cut_from node end now.forest ≡ now.forest =
      here.edited (λ content kids later. from_sibling end (tree node content kids later))
      ∙ ap here.around (cond-true (eqb node end) _ _ (eq-eqb node end same)) ∙ sym here.is in
      let forest_is : now.forest ≡ (without_range first end old).forest = sym whole ∙ x.rest in
      let next_is : now.next ≡ old.next = x.next in
      ap (λ f. let d : DomState = record { forest = f; next = now.next } in d) forest_is
      ∙ ap (λ n. let d : DomState = record { forest = (without_range first end old).forest; next = n } in d) next_is

  pub cut_there : node ≡ end → IsThere end now.forest
  cut_there same = subst (λ n. IsThere n now.forest) same (there_among end node now.forest x.stands)
