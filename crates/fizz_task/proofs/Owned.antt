-- The tasks of an owner are let go one after another.
use Rattle.std.proofs.Common.{◌≡◌, ℕ, zero, suc, ◌≤◌, ◌<◌, true, false, not, cond, eqb, Option, Some, None, List, [], ◌∷◌, length, get_or, slice_set, inl, inr, refl, sym, ap, ◌∙◌, subst, arith}
use Rattle.std.proofs.lemmas.Bool.{both_ways, cases_Bool, cases_eq, cond-false, cond-true, eq-eqb, eqb-true, false≢true, ne_eqb}
use Rattle.std.proofs.lemmas.List.{ext_get_or, get_or-set_other, get_or-set_same, length-set}
use Rattle.id_lists.specs.Lists.{Lists, first_of, list_at, next_of, times as times_in}
use Rattle.id_lists.specs.Calls.{list_without, without}
use Rattle.id_lists.proofs.Counts.{list_map, next_after, times_at}
use Rattle.id_lists.proofs.Chains.{IsSplit, first_stands, split_at_id}
use Rattle.fizz_task.specs.declared.state.State.{State}
use Rattle.fizz_task.specs.declared.state.State.TheVariants.{Gone, Runnable, Claimed, Waiting}
use Rattle.fizz_task.specs.Board.{Board, IsBoard, is_runnable, one, state_at, times}
use Rattle.fizz_task.specs.Calls.{dropped, is_owned, let_go, owner_at, same_owner, without_owned}
use Rattle.fizz_task.specs.Indexed.{DiffersAt, IsDropping, IsIndexed, is_gone, moved, owner_list, owner_place, owner_places, rest}
use Rattle.fizz_task.proofs.Lists.{inside_at}
use Rattle.fizz_task.proofs.Dropping.{at_dropped, filter_twice, length-dropped}
use Rattle.fizz_task.proofs.Guides.{length-moved}
use Rattle.fizz_task.proofs.Settling.{filter_all}
use Rattle.fizz_task.proofs.Views.{board_same}
use Rattle.fizz_task.proofs.Walks.{back_goes, back_stays, behind, rest_all, rest_goes, rest_is, rest_stays}

same_is : (a b : Option ℕ) → same_owner a b ≡ true → b ≡ a
same_is None None same = refl
same_is None (Some n) same = absurd (false≢true same)
same_is (Some n) None same = absurd (false≢true same)
same_is (Some n) (Some m) same = ap Some (sym (eqb-true n m same))

module _ {W : Type 0} where
  placed : (count : ℕ) (owner : Option ℕ) (s : State W) → is_gone s ≡ false → owner_place count owner s ≡ Some (owner_list count owner)
  placed count owner Gone there = absurd (false≢true (sym there))
  placed count owner (Runnable payload) there = refl
  placed count owner (Claimed claim) there = refl
  placed count owner (Waiting resource payload) there = refl

  gone_is_gone : (s : State W) → is_gone s ≡ true → s ≡ Gone
  gone_is_gone Gone gone = refl
  gone_is_gone (Runnable payload) gone = absurd (false≢true gone)
  gone_is_gone (Claimed claim) gone = absurd (false≢true gone)
  gone_is_gone (Waiting resource payload) gone = absurd (false≢true gone)

  runs_there : (s : State W) → 0 < one (is_runnable s) → is_gone s ≡ false
  runs_there Gone runs = absurd (omega (arith, runs))
  runs_there (Runnable payload) runs = refl
  runs_there (Claimed claim) runs = refl
  runs_there (Waiting resource payload) runs = refl

  there_inside : (states : List (State W)) (k : ℕ) → is_gone (state_at states k) ≡ false → k < length states
  there_inside states k there = inside_at states k (λ s. is_gone s ≡ false) (λ e. false≢true (sym e)) there

  -- one that is let go would have been let go with all of its owner
  without_let_go : (owner : Option ℕ) (owners : List (Option ℕ)) (states : List (State W)) (k : ℕ) → length owners ≡ length states → k < length states
      → is_owned owner owners k ≡ true → without_owned owner owners (slice_set states k Gone) ≡ without_owned owner owners states
  without_let_go owner [] [] k same inside own = absurd (omega arith)
  without_let_go owner [] (state ∷ states) k same inside own = absurd (omega arith)
  without_let_go owner (first ∷ owners) [] k same inside own = absurd (omega arith)
  without_let_go owner (first ∷ owners) (state ∷ states) zero same inside own =
      ap (λ (s : State W). s ∷ without_owned owner owners states)
      (cond-true (same_owner owner first) Gone Gone own ∙ sym (cond-true (same_owner owner first) Gone state own))
  without_let_go owner (first ∷ owners) (state ∷ states) (suc k) same inside own =
      ap (λ (rest : List (State W)). cond (same_owner owner first) Gone state ∷ rest)
      (without_let_go owner owners states k (omega arith) (omega arith) own)

  dropped_let_go : (owner : Option ℕ) (board : Board W) (k : ℕ) → length board.owners ≡ length board.states → k < length board.states
      → is_owned owner board.owners k ≡ true → dropped owner (let_go k board) ≡ dropped owner board
  dropped_let_go owner board k same inside own = board_same _ _ _ _ _ _ board.claims board.spare refl (without_let_go owner board.owners board.states k same inside own)
      (sym (filter_twice (λ n. not (is_owned owner board.owners n)) (λ n. not (eqb k n)) (λ n. not (is_owned owner board.owners n)) board.queue each))
    where
      each : (n : ℕ) → not (is_owned owner board.owners n) ≡ cond (not (eqb k n)) (not (is_owned owner board.owners n)) false
      each n = elim (cases_eq k n) [
        | inl is ↦ ap not (ap (is_owned owner board.owners) (sym is) ∙ own)
            ∙ sym (cond-false (not (eqb k n)) (not (is_owned owner board.owners n)) false (ap not (eq-eqb k n is)))
        | inr other ↦ sym (cond-true (not (eqb k n)) (not (is_owned owner board.owners n)) false (ap not (ne_eqb k n other)))
      ]

  -- where all of an owner are gone, none is to be let go
  dropped_none : (owner : Option ℕ) (board : Board W) → IsBoard board
      → ((k : ℕ) → is_owned owner board.owners k ≡ true → is_gone (state_at board.states k) ≡ false → ⊥) → dropped owner board ≡ board
  dropped_none owner board good none = board_same _ _ _ _ _ _ board.claims board.spare refl
      (ext_get_or Gone (without_owned owner board.owners board.states) board.states (length-dropped owner board.owners board.states) each)
      (filter_all (λ n. not (is_owned owner board.owners n)) board.queue kept)
    where
      each : (k : ℕ) → k < length (without_owned owner board.owners board.states)
          → get_or (without_owned owner board.owners board.states) k Gone ≡ get_or board.states k Gone
      each k below = at_dropped owner board.owners board.states k good.owned ∙ elim (cases_Bool (is_owned owner board.owners k)) [
        | inl own ↦ cond-true (is_owned owner board.owners k) Gone (state_at board.states k) own
            ∙ sym (gone_is_gone (state_at board.states k) (elim (cases_Bool (is_gone (state_at board.states k))) [
              | inl gone ↦ gone
              | inr there ↦ absurd (none k own there)
            ]))
        | inr other ↦ cond-false (is_owned owner board.owners k) Gone (state_at board.states k) other
      ]

      kept : (n : ℕ) → 0 < times n board.queue → not (is_owned owner board.owners n) ≡ true
      kept n stands = elim (cases_Bool (is_owned owner board.owners n)) [
        | inl own ↦ absurd (none n own (runs_there (state_at board.states n) (omega (arith, stands, good.queued n))))
        | inr other ↦ ap not other
      ]

  pub dropped_empty : (owner : Option ℕ) (board : Board W) → IsBoard board → length board.states ≡ 0 → dropped owner board ≡ board
  dropped_empty owner board good none = dropped_none owner board good (λ k own there. omega (arith, none, there_inside board.states k there))

  pub dropping_first : (owner : Option ℕ) (list : ℕ) (board : Board W) (o n : Lists) → IsIndexed board o n → IsBoard board
      → list ≡ owner_list (length o.lists) owner → IsDropping owner list board board o n (first_of (list_at o.lists list))
  dropping_first owner list board o n indexed good own = record {
    indexed = indexed;
    board = good;
    own = own;
    stands = λ k is. first_stands (list_at o.lists list) k is;
    left = λ k owned there. subst (λ (l : List ℕ). 0 < times_in k l) (sym (rest_all (list_at o.lists list)))
        (indexed.owners k list (there_inside board.states k there)
        (placed (length o.lists) (owner_at board.owners k) (state_at board.states k) there
        ∙ ap (λ (w : Option ℕ). Some (owner_list (length o.lists) w)) (same_is owner (owner_at board.owners k) owned) ∙ ap Some (sym own)));
    same = refl;
  }

  pub dropping_done : (owner : Option ℕ) (list : ℕ) (start now : Board W) (o n : Lists) → IsDropping owner list start now o n None
      → now ≡ dropped owner start
  dropping_done owner list start now o n d =
      sym (dropped_none owner now d.board (λ k own there. omega (arith, d.left k own there))) ∙ d.same

  module _ (owner : Option ℕ) (list : ℕ) (start now : Board W) (o n : Lists) (k : ℕ) (d : IsDropping owner list start now o n (Some k)) where
    here : 0 < times_in k (list_at o.lists list)
    here = d.stands k refl

    once : (m : ℕ) → times_in m (list_at o.lists list) ≤ 1
    once m = omega (arith, times_at m o.lists list, d.indexed.owner_ids.lists.once m)

    split : IsSplit k (list_at o.lists list)
    split = split_at_id k (list_at o.lists list) here

    next_is : next_of k o.lists ≡ first_of split.back
    next_is = next_after list k o.lists split.front split.back (d.indexed.owner_ids.lists.once k) split.is

    pub dropping_inside : k < length now.states
    dropping_inside = omega (arith, d.indexed.owner_ids.lists.made k (omega (arith, here, times_at k o.lists list)), d.indexed.owner_ids.ids)

    pub dropping_kept : (next : Option ℕ) → next ≡ next_of k o.lists → is_owned owner now.owners k ≡ false
        → IsDropping owner list start now o n next × (length (rest next (list_at o.lists list)) < length (rest (Some k) (list_at o.lists list)))
    dropping_kept next is other = subst
        (λ (m : Option ℕ). IsDropping owner list start now o n m × (length (rest m (list_at o.lists list)) < length (rest (Some k) (list_at o.lists list))))
        (sym (is ∙ next_is)) (
          record {
            indexed = d.indexed;
            board = d.board;
            own = d.own;
            stands = λ m first. back_stays k (list_at o.lists list) once split m (first_stands split.back m first);
            left = λ m own there. subst (λ (l : List ℕ). 0 < times_in m l) (sym (rest_stays k (list_at o.lists list) once split))
                (behind k (list_at o.lists list) once split m
                (λ e. both_ways (is_owned owner now.owners m) (ap (is_owned owner now.owners) e ∙ other) own) (d.left m own there));
            same = d.same;
          },
          omega (arith, ap length (rest_stays k (list_at o.lists list) once split), ap length (rest_is k (list_at o.lists list) once split)),
        )

    pub dropping_gone : (new : Board W) (o' n' : Lists) (next : Option ℕ) → next ≡ next_of k o.lists → is_owned owner now.owners k ≡ true
        → new ≡ let_go k now → IsBoard new → IsIndexed new o' n'
        → o' ≡ record o { lists = moved (owner_places new (length o.lists) k) k o.lists }
        → IsDropping owner list start new o' n' next × (length (rest next (list_at o'.lists list)) < length (rest (Some k) (list_at o.lists list)))
    dropping_gone new o' n' next is own gone good indexed moves = subst
        (λ (m : Option ℕ). IsDropping owner list start new o' n' m × (length (rest m (list_at o'.lists list)) < length (rest (Some k) (list_at o.lists list))))
        (sym (is ∙ next_is)) (
          record {
            indexed = indexed;
            board = good;
            own = d.own ∙ ap (λ c. owner_list c owner) (sym same_count);
            stands = λ m first. subst (λ (l : List ℕ). 0 < times_in m l) (sym new_list)
                (back_goes k (list_at o.lists list) once split m (first_stands split.back m first));
            left = λ m owned there. subst (λ (l : List ℕ). 0 < times_in m l) (sym new_rest)
                (behind k (list_at o.lists list) once split m (other m there)
                (d.left m (ap (λ (os : List (Option ℕ)). is_owned owner os m) (sym same_owners) ∙ owned)
                (sym (ap is_gone (same_state m (other m there))) ∙ there)));
            same = ap (dropped owner) gone ∙ dropped_let_go owner now k d.board.owned dropping_inside own ∙ d.same;
          },
          omega (arith, ap length new_rest, ap length (rest_is k (list_at o.lists list) once split)),
        )
      where
        same_owners : new.owners ≡ now.owners
        same_owners = ap (λ (b : Board W). b.owners) gone

        same_state : (m : ℕ) → (m ≡ k → ⊥) → state_at new.states m ≡ state_at now.states m
        same_state m apart = ap (λ (b : Board W). state_at b.states m) gone ∙ get_or-set_other now.states k m Gone Gone apart

        is_now_gone : state_at new.states k ≡ Gone
        is_now_gone = ap (λ (b : Board W). state_at b.states k) gone ∙ get_or-set_same now.states k Gone Gone dropping_inside

        other : (m : ℕ) → is_gone (state_at new.states m) ≡ false → m ≡ k → ⊥
        other m there e = both_ways (is_gone (state_at new.states m)) there (ap (λ j. is_gone (state_at new.states j)) e ∙ ap is_gone is_now_gone)

        lists_are : o'.lists ≡ without k o.lists
        lists_are = ap (λ (a : Lists). a.lists) moves
            ∙ ap (λ (s : State W). moved (owner_place (length o.lists) (owner_at new.owners k) s) k o.lists) is_now_gone

        same_count : length o'.lists ≡ length o.lists
        same_count = ap length lists_are ∙ length-moved None k o.lists

        new_list : list_at o'.lists list ≡ list_without k (list_at o.lists list)
        new_list = ap (λ (ls : List (List ℕ)). list_at ls list) lists_are ∙ list_map k o.lists list

        new_rest : rest (first_of split.back) (list_at o'.lists list) ≡ split.back
        new_rest = ap (rest (first_of split.back)) new_list ∙ rest_goes k (list_at o.lists list) once split

  pub let_go_differs : (k : ℕ) (old new : Board W) → new ≡ let_go k old → DiffersAt k old new
  let_go_differs k old new is = subst (DiffersAt k old) (sym is) (record {
    owners = refl;
    spare = refl;
    made = length-set old.states k Gone;
    states = λ j other. get_or-set_other old.states k j Gone Gone other;
  })
