-- What is kept of tasks stays in order when one of them is let go, or becomes runnable.
use Rattle.std.proofs.Common.{◌≡◌, ℕ, ◌+◌, ◌-◌, ◌^◌, ◌≤◌, ◌<◌, Bool, true, false, not, cond, eqb, Option, None, List, [], ◌∷◌, ◌++◌, length, filter, slice_set, inl, inr, refl, sym, ap, ◌∙◌, subst, arith}
use Rattle.std.specs.Str.{bytes_eq}
use Rattle.std.proofs.lemmas.Bool.{cases_eq, cond-true, eq-eqb, false≢true, ne_eqb}
use Rattle.std.proofs.lemmas.List.{get_or-set_other, get_or-set_same, length-append}
use Rattle.fizz_task.specs.declared.state.State.{State}
use Rattle.fizz_task.specs.declared.state.State.TheVariants.{Gone, Runnable, Claimed, Waiting}
use Rattle.fizz_task.specs.Board.{claim_of, is_claimed, is_runnable, is_waiting, one, state_at, times, waits_for}
use Rattle.fizz_task.specs.Calls.{woken}
use Rattle.fizz_task.specs.Stored.{HasCounts, IsQueue, least_times, most_times, runnable_in}
use Rattle.fizz_task.proofs.Keeping.{IsKind, Sound, counts_set, gone_is, kept_set, numbered_set, queue_set, room_set}
use Rattle.fizz_task.proofs.Lists.{count-at, counts_fit, inside_at, one_other, one_same, times-push}
use Rattle.fizz_task.proofs.Dropping.{few_most, filter_twice}
use Rattle.fizz_task.proofs.Views.{view_last, view_set}

module _ {W : Type 0} where
  any_kind : (s : State W) → IsKind s (one (is_runnable s)) (one (is_claimed s)) (one (is_waiting s)) (most_times s)
  any_kind s = record { one_runnable = refl; one_claimed = refl; one_waiting = refl; at_most = refl }

  pub fits_gone : (states : List (State W)) (k r c w : ℕ) → HasCounts states r c w → k < length states
      → (one (is_runnable (state_at states k)) ≤ r) × (one (is_claimed (state_at states k)) ≤ c) × (one (is_waiting (state_at states k)) ≤ w)
  fits_gone states k r c w h inside = (
    omega (arith, h.are_runnable, count-at is_runnable states k inside),
    omega (arith, h.are_claimed, count-at is_claimed states k inside),
    omega (arith, h.are_waiting, count-at is_waiting states k inside),
  )

  pub sound_gone : (owners : List (Option ℕ)) (states : List (State W)) (queue : List ℕ) (claims spare r c w a b q k r0 c0 w0 : ℕ)
      → Sound owners states queue claims spare r c w a b q → k < length states
      → r0 ≡ one (is_runnable (state_at states k)) → c0 ≡ one (is_claimed (state_at states k)) → w0 ≡ one (is_waiting (state_at states k))
      → Sound owners (slice_set states k Gone) queue claims spare (r - r0) (c - c0) (w - w0) a b q
  sound_gone owners states queue claims spare r c w a b q k r0 c0 w0 s inside er ec ew =
      let fits : (one (is_runnable (state_at states k)) ≤ r) × (one (is_claimed (state_at states k)) ≤ c) × (one (is_waiting (state_at states k)) ≤ w) =
      fits_gone states k r c w s.counts inside in
      record {
        kept = kept_set owners states queue queue claims claims spare k Gone _ _ _ _ 0 0 0 1 s.kept inside (any_kind (state_at states k)) gone_is
            (queue_set states queue queue k Gone s.kept.queued inside (λ j other. s.kept.queued.least j) (λ j other. omega arith) (omega arith)
            (omega (arith, s.kept.queued.most k, few_most (state_at states k))))
            (numbered_set states claims k Gone s.kept.numbered inside refl) s.kept.counted (omega arith);
        counts = counts_set states k Gone r c w (r - r0) (c - c0) (w - w0) _ _ _ _ 0 0 0 1 s.counts inside (any_kind (state_at states k)) gone_is
            (omega (arith, er, fits.0)) (omega (arith, ec, fits.1)) (omega (arith, ew, fits.2));
        room = room_set states k Gone spare a b q s.room;
      }

  pub view_gone : (states : List (State W)) (queue : List ℕ) (k : ℕ) → k < length states
      → runnable_in (slice_set states k Gone) queue ≡ filter (λ n. not (eqb k n)) (runnable_in states queue)
  view_gone states queue k inside = filter_twice _ (λ n. is_runnable (state_at states n)) _ queue each
    where
      same : (b : Bool) → false ≡ cond b false false
      same true = refl
      same false = refl

      other_test : (b : Bool) → b ≡ cond b true false
      other_test true = refl
      other_test false = refl

      each : (n : ℕ) → is_runnable (state_at (slice_set states k Gone) n) ≡ cond (is_runnable (state_at states n)) (not (eqb k n)) false
      each n = elim (cases_eq n k) [
        | inl is ↦ ap is_runnable (ap (state_at (slice_set states k Gone)) is ∙ get_or-set_same states k Gone Gone inside)
            ∙ same (is_runnable (state_at states n))
            ∙ ap (λ (b : Bool). cond (is_runnable (state_at states n)) (not b) false) (sym (eq-eqb k n (sym is)))
        | inr other ↦ ap is_runnable (get_or-set_other states k n Gone Gone other)
            ∙ other_test (is_runnable (state_at states n))
            ∙ ap (λ (b : Bool). cond (is_runnable (state_at states n)) (not b) false) (sym (ne_eqb k n (λ e. other (sym e))))
      ]

  -- one that waits, and what it is once it is woken
  pub record IsWoken (before after : State W) : Type 0 where
    pub was : IsKind before 0 0 1 0
    pub is : IsKind after 1 0 0 1
    pub unclaimed : claim_of after ≡ None
    pub runs : is_runnable after ≡ true

  pub woken_is : (name : List ℕ) (s : State W) → waits_for name s ≡ true → IsWoken s (woken name s)
  woken_is name Gone waits = absurd (false≢true waits)
  woken_is name (Runnable payload) waits = absurd (false≢true waits)
  woken_is name (Claimed claim) waits = absurd (false≢true waits)
  woken_is name (Waiting resource payload) waits = subst (IsWoken (Waiting resource payload))
      (sym (cond-true (bytes_eq name resource) (Runnable payload) (Waiting resource payload) waits))
      (record {
        was = record { one_runnable = refl; one_claimed = refl; one_waiting = refl; at_most = refl };
        is = record { one_runnable = refl; one_claimed = refl; one_waiting = refl; at_most = refl };
        unclaimed = refl;
        runs = refl;
      })

  pub waits_inside : (name : List ℕ) (states : List (State W)) (k : ℕ) → waits_for name (state_at states k) ≡ true → k < length states
  waits_inside name states k waits = inside_at states k (λ s. waits_for name s ≡ true) false≢true waits

  pub waits_absent : (states : List (State W)) (queue : List ℕ) (k : ℕ) (after : State W) → IsQueue states queue → IsWoken (state_at states k) after
      → times k queue ≡ 0
  waits_absent states queue k after q w = omega (arith, q.most k, w.was.at_most)

  pub some_waits : (states : List (State W)) (k r c w : ℕ) (after : State W) → HasCounts states r c w → k < length states
      → IsWoken (state_at states k) after → 1 ≤ w
  some_waits states k r c w after h inside is = omega (arith, h.are_waiting, is.was.one_waiting, count-at is_waiting states k inside)

  -- there is room for one that waits among the runnable ones
  pub fits_woken : (owners : List (Option ℕ)) (states : List (State W)) (queue : List ℕ) (claims spare r c w a b q : ℕ)
      → Sound owners states queue claims spare r c w a b q → 1 ≤ w → (length queue < q) × (r + 1 < 2 ^ 32)
  fits_woken owners states queue claims spare r c w a b q s some = (
    omega (arith, s.kept.room, s.counts.are_waiting, s.room.for_queue, some),
    omega (arith, s.kept.few, s.counts.are_runnable, s.counts.are_waiting, counts_fit states, some),
  )

  pub sound_woken : (owners : List (Option ℕ)) (states : List (State W)) (queue : List ℕ) (claims spare r c w a b q k : ℕ) (after : State W)
      → Sound owners states queue claims spare r c w a b q → k < length states → IsWoken (state_at states k) after
      → Sound owners (slice_set states k after) (queue ++ k ∷ []) claims spare (r + 1) c (w - 1) a b q
  sound_woken owners states queue claims spare r c w a b q k after s inside is =
      let absent : times k queue ≡ 0 = waits_absent states queue k after s.kept.queued is in
      let some : 1 ≤ w = some_waits states k r c w after s.counts inside is in
      record {
        kept = kept_set owners states queue (queue ++ k ∷ []) claims claims spare k after 0 0 1 0 1 0 0 1 s.kept inside is.was is.is
            (queue_set states queue (queue ++ k ∷ []) k after s.kept.queued inside
            (λ j other. omega (arith, times-push j k queue, s.kept.queued.least j))
            (λ j other. omega (arith, times-push j k queue, one_other j k other))
            (omega (arith, times-push k k queue, one_same k, few_least after)) (omega (arith, times-push k k queue, one_same k, absent, is.is.at_most)))
            (numbered_set states claims k after s.kept.numbered inside is.unclaimed) s.kept.counted
            (omega (arith, length-append queue (k ∷ [])));
        counts = counts_set states k after r c w (r + 1) c (w - 1) 0 0 1 0 1 0 0 1 s.counts inside is.was is.is
            (omega arith) (omega arith) (omega (arith, some));
        room = room_set states k after spare a b q s.room;
      }
    where
      few_least : (st : State W) → least_times st ≤ 1
      few_least Gone = omega arith
      few_least (Runnable payload) = omega arith
      few_least (Claimed claim) = omega arith
      few_least (Waiting resource payload) = omega arith

  pub view_woken : (states : List (State W)) (queue : List ℕ) (k : ℕ) (after : State W) → IsQueue states queue → k < length states
      → IsWoken (state_at states k) after
      → runnable_in (slice_set states k after) (queue ++ k ∷ []) ≡ runnable_in states queue ++ k ∷ []
  view_woken states queue k after q inside is =
      view_last (slice_set states k after) queue k (ap is_runnable (get_or-set_same states k after Gone inside) ∙ is.runs)
      ∙ ap (λ front. front ++ k ∷ []) (view_set states queue k after (waits_absent states queue k after q is))
