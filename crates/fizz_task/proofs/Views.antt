-- The runnable tasks of the queue that is kept, when one is added or changes its state.
use Rattle.std.proofs.Common.{◌≡◌, ℕ, ◌+◌, ◌≤◌, ◌<◌, true, false, cond, Option, List, [], ◌∷◌, ◌++◌, length, slice_set, refl, sym, ap, ◌∙◌, subst, arith}
use Rattle.std.proofs.lemmas.Bool.{both_ways, cond-false, cond-true}
use Rattle.std.proofs.lemmas.List.Elements.{filter-append}
use Rattle.std.proofs.lemmas.List.{get_or_append_left, get_or_push, get_or-set_other, get_or-set_same}
use Rattle.fizz_task.specs.declared.state.State.{State}
use Rattle.fizz_task.specs.declared.state.State.TheVariants.{Gone, Runnable, Claimed, Waiting}
use Rattle.fizz_task.specs.Board.{Board, IsBoard, is_runnable, one, state_at, times}
use Rattle.fizz_task.specs.Stored.{DropsGone, IsFirst, IsKept, IsQueue, least_times, most_times, runnable_in}
use Rattle.fizz_task.specs.Answers.{Claims}
use Rattle.fizz_task.proofs.Keeping.{IsKind, runnable_kind}
use Rattle.fizz_task.proofs.Lists.{filter_same, one_other, one_same, times-filter}

abbrev pub boarded : {W : Type 0} → List (Option ℕ) → List (State W) → List ℕ → ℕ → ℕ → Board W
boarded owners states queue claims spare = record { owners = owners; states = states; queue = queue; claims = claims; spare = spare }

module _ {W : Type 0} where
  pub view_set : (states : List (State W)) (queue : List ℕ) (k : ℕ) (s : State W) → times k queue ≡ 0
      → runnable_in (slice_set states k s) queue ≡ runnable_in states queue
  view_set states queue k s absent = filter_same _ _ queue
      (λ n stands. ap is_runnable (get_or-set_other states k n s Gone (λ e. omega (arith, ap (λ i. times i queue) e, absent))))

  pub view_push : (states : List (State W)) (queue : List ℕ) (s : State W) → IsQueue states queue
      → runnable_in (states ++ s ∷ []) queue ≡ runnable_in states queue
  view_push states queue s q = filter_same _ _ queue
      (λ n stands. ap is_runnable (get_or_append_left states (s ∷ []) Gone n (q.made n stands)))

  pub view_last : (states : List (State W)) (queue : List ℕ) (k : ℕ) → is_runnable (state_at states k) ≡ true
      → runnable_in states (queue ++ k ∷ []) ≡ runnable_in states queue ++ k ∷ []
  view_last states queue k runs =
      filter-append (λ n. is_runnable (state_at states n)) queue (k ∷ [])
      ∙ ap (λ last. runnable_in states queue ++ last) (cond-true (is_runnable (state_at states k)) (k ∷ []) [] runs)

  pub view_spawned : (states : List (State W)) (queue : List ℕ) (payload : W) → IsQueue states queue
      → runnable_in (states ++ Runnable payload ∷ []) (queue ++ length states ∷ []) ≡ runnable_in states queue ++ length states ∷ []
  view_spawned states queue payload q =
      view_last (states ++ Runnable payload ∷ []) queue (length states) (ap is_runnable (get_or_push states (Runnable payload) Gone (length states) refl))
      ∙ ap (λ front. front ++ length states ∷ []) (view_push states queue (Runnable payload) q)

  pub view_returned : (states : List (State W)) (queue : List ℕ) (k : ℕ) (payload : W) → k < length states → times k queue ≡ 0
      → runnable_in (slice_set states k (Runnable payload)) (queue ++ k ∷ []) ≡ runnable_in states queue ++ k ∷ []
  view_returned states queue k payload inside absent =
      view_last (slice_set states k (Runnable payload)) queue k (ap is_runnable (get_or-set_same states k (Runnable payload) Gone inside))
      ∙ ap (λ front. front ++ k ∷ []) (view_set states queue k (Runnable payload) absent)

  -- the queue that is seen has exactly the runnable tasks, each once
  pub seen_queued : (states : List (State W)) (queue : List ℕ) → IsQueue states queue → (task : ℕ)
      → times task (runnable_in states queue) ≡ one (is_runnable (state_at states task))
  seen_queued states queue q task =
      times-filter (λ n. is_runnable (state_at states n)) task queue ∙ by_state (state_at states task) refl
    where
      by_state : (s : State W) → state_at states task ≡ s → cond (is_runnable (state_at states task)) (times task queue) 0 ≡ one (is_runnable (state_at states task))
      by_state Gone is = rw is refl
      by_state (Claimed claim) is = rw is refl
      by_state (Waiting resource payload) is = rw is refl
      by_state (Runnable payload) is = rw is (omega (arith, subst (λ s. least_times s ≤ times task queue) is (q.least task), subst (λ s. times task queue ≤ most_times s) is (q.most task)))

  pub board_kept : (owners : List (Option ℕ)) (states : List (State W)) (queue : List ℕ) (claims spare : ℕ)
      → IsKept owners states queue claims spare
      → IsBoard (record { owners = owners; states = states; queue = runnable_in states queue; claims = claims; spare = spare })
  board_kept owners states queue claims spare kept = record {
    owned = kept.owned;
    few = kept.few;
    queued = seen_queued states queue kept.queued;
    numbered = kept.numbered;
    counted = kept.counted;
  }

  pub drops_more : (states : List (State W)) (old queue rest : List ℕ) (task : ℕ) → DropsGone states old queue → queue ≡ task ∷ rest
      → is_runnable (state_at states task) ≡ false → DropsGone states old rest
  drops_more states old queue rest task drops is gone = record {
    same = drops.same ∙ ap (runnable_in states) is ∙ cond-false (is_runnable (state_at states task)) _ _ gone;
    fewer = λ j. omega (arith, drops.fewer j, ap (times j) is);
    others = λ j runs. omega (arith, drops.others j runs, ap (times j) is, one_other j task (λ e. both_ways (is_runnable (state_at states task)) gone (ap (λ i. is_runnable (state_at states i)) (sym e) ∙ runs)));
    shorter = omega (arith, drops.shorter, ap length is);
  }

  pub first_inside : (states : List (State W)) (old queue rest : List ℕ) (task : ℕ) → IsQueue states old → DropsGone states old queue
      → queue ≡ task ∷ rest → task < length states
  first_inside states old queue rest task q drops is = q.made task (omega (arith, drops.fewer task, ap (times task) is, one_same task))

  pub board_same : (owners owners' : List (Option ℕ)) (states states' : List (State W)) (queue queue' : List ℕ) (claims spare : ℕ)
      → owners' ≡ owners → states' ≡ states → queue' ≡ queue
      → boarded owners' states' queue' claims spare ≡ boarded owners states queue claims spare
  board_same owners owners' states states' queue queue' claims spare os ss qs = rw (os, ss, qs) refl

  pub none_kept : (owners : List (Option ℕ)) (states : List (State W)) (queue new : List ℕ) (claims spare : ℕ)
      → IsKept owners states queue claims spare → runnable_in states queue ≡ [] → new ≡ [] → IsKept owners states new claims spare
  none_kept owners states queue new claims spare kept none empty = record {
    owned = kept.owned;
    few = kept.few;
    queued = record {
      least = λ j. by_state j (state_at states j) refl (seen_queued states queue kept.queued j);
      most = λ j. omega (arith, ap (times j) empty);
      made = λ j stands. absurd (omega (arith, ap (times j) empty));
    };
    numbered = kept.numbered;
    counted = kept.counted;
    room = omega (arith, kept.room, ap length empty);
  }
    where
      by_state : (j : ℕ) (s : State W) → state_at states j ≡ s → times j (runnable_in states queue) ≡ one (is_runnable (state_at states j))
          → least_times (state_at states j) ≤ times j new
      by_state j Gone is seen = rw is (omega arith)
      by_state j (Claimed claim) is seen = rw is (omega arith)
      by_state j (Waiting resource payload) is seen = rw is (omega arith)
      by_state j (Runnable payload) is seen = absurd (omega (arith, seen, ap (times j) none, ap (λ s. one (is_runnable s)) is))

  pub claims_from : (owners : List (Option ℕ)) (states : List (State W)) (queue new : List ℕ) (claims spare task : ℕ) (payload : W) (state : State W)
      → IsQueue states queue → IsFirst states queue new task → state_at states task ≡ Runnable payload → state ≡ Claimed claims
      → Claims (boarded owners states (runnable_in states queue) claims spare)
      (boarded owners (slice_set states task state) (runnable_in (slice_set states task state) new) (claims + 1) spare)
      (record { task = task; claim = claims; payload = payload })
  claims_from owners states queue new claims spare task payload state q first held is =
      let kind : IsKind (state_at states task) 1 0 0 1 = runnable_kind (state_at states task) first.runnable in
      let absent : times task new ≡ 0 = omega (arith, first.fewer task, one_same task, q.most task, kind.at_most) in
      record {
        first = first.first ∙ ap (λ (rest : List ℕ). task ∷ rest) (sym (view_set states new task state absent));
        payload = held;
        number = refl;
        changed = ap (λ (s : State W). boarded owners (slice_set states task s) (runnable_in (slice_set states task state) new) (claims + 1) spare) is;
      }
