-- What is kept of tasks stays in order when one is added or changes its state.
use Rattle.std.proofs.Common.{◌≡◌, ℕ, ◌+◌, ◌-◌, ◌^◌, ◌≤◌, ◌<◌, Bool, true, false, not, eqb, Option, Some, None, List, [], ◌∷◌, ◌++◌, length, slice_set, inl, inr, refl, sym, ap, ◌∙◌, subst, arith}
use Rattle.std.proofs.lemmas.Bool.{cases_eq, eqb-true, false≢true, not-false}
use Rattle.std.specs.Option.{option_eq}
use Rattle.std.proofs.lemmas.List.{length-append, length-set}
use Rattle.fizz_task.specs.declared.state.State.{State}
use Rattle.fizz_task.specs.declared.state.State.TheVariants.{Gone, Runnable, Claimed, Waiting}
use Rattle.fizz_task.specs.Board.{AreNumbered, claim_of, count_of, is_claimed, is_runnable, is_waiting, one, state_at, times}
use Rattle.fizz_task.specs.Stored.{HasCounts, HasRoom, IsFirst, IsKept, IsQueue, least_times, most_times}
use Rattle.fizz_task.proofs.Lists.{at_push, at_set, count-at, count-push, count-set, counts_fit, inside_at, one_other, one_same, times-push}

nothing_claims : (claim : ℕ) → None ≡ Some claim → ⊥
nothing_claims claim h = cc

same_claim : (n m : ℕ) → Some n ≡ Some m → n ≡ m
same_claim n m h = cc

-- what a test for inequality says that fails
pub same_option : (found : Option ℕ) (n : ℕ) (b : Bool) → b ≡ not (option_eq eqb found (Some n)) → b ≡ false → found ≡ Some n
same_option None n b is fails = absurd (false≢true (sym fails ∙ is))
same_option (Some m) n b is fails = ap Some (eqb-true m n (not-false (eqb m n) (sym is ∙ fails)))

pub room_same : (n spare a b q q' : ℕ) → HasRoom n spare a b q → q' ≡ q → HasRoom n spare a b q'
room_same n spare a b q q' room same = record {
  for_owners = room.for_owners;
  for_states = room.for_states;
  for_queue = omega (arith, room.for_queue, same);
}

module _ {W : Type 0} where
  -- of which kind a state is, in numbers
  pub record IsKind (state : State W) (runnable claimed waiting most : ℕ) : Type 0 where
    pub one_runnable : one (is_runnable state) ≡ runnable
    pub one_claimed : one (is_claimed state) ≡ claimed
    pub one_waiting : one (is_waiting state) ≡ waiting
    pub at_most : most_times state ≡ most

  pub claimed_kind : (state : State W) (claim : ℕ) → claim_of state ≡ Some claim → IsKind state 0 1 0 0
  claimed_kind Gone claim h = absurd (nothing_claims claim h)
  claimed_kind (Runnable payload) claim h = absurd (nothing_claims claim h)
  claimed_kind (Claimed number) claim h = record { one_runnable = refl; one_claimed = refl; one_waiting = refl; at_most = refl }
  claimed_kind (Waiting resource payload) claim h = absurd (nothing_claims claim h)

  pub runnable_kind : (state : State W) → is_runnable state ≡ true → IsKind state 1 0 0 1
  runnable_kind Gone h = absurd (false≢true h)
  runnable_kind (Runnable payload) h = record { one_runnable = refl; one_claimed = refl; one_waiting = refl; at_most = refl }
  runnable_kind (Claimed number) h = absurd (false≢true h)
  runnable_kind (Waiting resource payload) h = absurd (false≢true h)

  pub claimed_inside : (states : List (State W)) (k claim : ℕ) → claim_of (state_at states k) ≡ Some claim → k < length states
  claimed_inside states k claim h = inside_at states k (λ s. claim_of s ≡ Some claim) (λ e. nothing_claims claim e) h

  pub runnable_inside : (states : List (State W)) (k : ℕ) → is_runnable (state_at states k) ≡ true → k < length states
  runnable_inside states k h = inside_at states k (λ s. is_runnable s ≡ true) false≢true h

  -- one that isn't there yet stands in no queue
  pub new_absent : (states : List (State W)) (queue : List ℕ) → IsQueue states queue → times (length states) queue ≡ 0
  new_absent states queue q = elim (cases_eq (times (length states) queue) 0) [
    | inl none ↦ none
    | inr some ↦ absurd (omega (arith, q.made (length states) (omega (arith, some))))
  ]

  pub queue_push : (states : List (State W)) (queue new : List ℕ) (s : State W) → IsQueue states queue
      → ((j : ℕ) → (j ≡ length states → ⊥) → times j new ≡ times j queue)
      → least_times s ≤ times (length states) new → times (length states) new ≤ most_times s
      → IsQueue (states ++ s ∷ []) new
  queue_push states queue new s q same least most = record {
    least = λ j. at_push (λ st. least_times st ≤ times j new) states s j
        (λ e. subst (λ i. least_times s ≤ times i new) (sym e) least) (λ other. omega (arith, same j other, q.least j));
    most = λ j. at_push (λ st. times j new ≤ most_times st) states s j
        (λ e. subst (λ i. times i new ≤ most_times s) (sym e) most) (λ other. omega (arith, same j other, q.most j));
    made = λ j stands. elim (cases_eq j (length states)) [
      | inl e ↦ omega (arith, length-append states (s ∷ []))
      | inr other ↦ omega (arith, length-append states (s ∷ []), q.made j (omega (arith, same j other)))
    ];
  }

  pub queue_set : (states : List (State W)) (queue new : List ℕ) (k : ℕ) (s : State W) → IsQueue states queue → k < length states
      → ((j : ℕ) → (j ≡ k → ⊥) → least_times (state_at states j) ≤ times j new)
      → ((j : ℕ) → (j ≡ k → ⊥) → times j new ≤ times j queue)
      → least_times s ≤ times k new → times k new ≤ most_times s
      → IsQueue (slice_set states k s) new
  queue_set states queue new k s q inside kept fewer least most = record {
    least = λ j. at_set (λ st. least_times st ≤ times j new) states k s j inside
        (λ e. subst (λ i. least_times s ≤ times i new) (sym e) least) (λ other. kept j other);
    most = λ j. at_set (λ st. times j new ≤ most_times st) states k s j inside
        (λ e. subst (λ i. times i new ≤ most_times s) (sym e) most) (λ other. omega (arith, fewer j other, q.most j));
    made = λ j stands. elim (cases_eq j k) [
      | inl e ↦ omega (arith, length-set states k s)
      | inr other ↦ omega (arith, length-set states k s, q.made j (omega (arith, fewer j other)))
    ];
  }

  pub numbered_push : (states : List (State W)) (claims : ℕ) (s : State W) → AreNumbered states claims
      → claim_of s ≡ None → AreNumbered (states ++ s ∷ []) claims
  numbered_push states claims s n unclaimed = record {
    below = λ j claim. at_push (λ st. claim_of st ≡ Some claim → claim < claims) states s j
        (λ e h. absurd (nothing_claims claim (sym unclaimed ∙ h))) (λ other. n.below j claim);
    apart = λ i j claim. at_push (λ st. claim_of st ≡ Some claim → claim_of (state_at (states ++ s ∷ []) j) ≡ Some claim → i ≡ j) states s i
        (λ e h. absurd (nothing_claims claim (sym unclaimed ∙ h)))
        (λ other. at_push (λ st. claim_of (state_at states i) ≡ Some claim → claim_of st ≡ Some claim → i ≡ j) states s j
        (λ e h h'. absurd (nothing_claims claim (sym unclaimed ∙ h'))) (λ other'. n.apart i j claim));
  }

  pub numbered_set : (states : List (State W)) (claims : ℕ) (k : ℕ) (s : State W) → AreNumbered states claims → k < length states
      → claim_of s ≡ None → AreNumbered (slice_set states k s) claims
  numbered_set states claims k s n inside unclaimed = record {
    below = λ j claim. at_set (λ st. claim_of st ≡ Some claim → claim < claims) states k s j inside
        (λ e h. absurd (nothing_claims claim (sym unclaimed ∙ h))) (λ other. n.below j claim);
    apart = λ i j claim. at_set (λ st. claim_of st ≡ Some claim → claim_of (state_at (slice_set states k s) j) ≡ Some claim → i ≡ j) states k s i inside
        (λ e h. absurd (nothing_claims claim (sym unclaimed ∙ h)))
        (λ other. at_set (λ st. claim_of (state_at states i) ≡ Some claim → claim_of st ≡ Some claim → i ≡ j) states k s j inside
        (λ e h h'. absurd (nothing_claims claim (sym unclaimed ∙ h'))) (λ other'. n.apart i j claim));
  }

  pub numbered_claim : (states : List (State W)) (claims k : ℕ) → AreNumbered states claims → k < length states
      → AreNumbered (slice_set states k (Claimed claims)) (claims + 1)
  numbered_claim states claims k n inside = record {
    below = λ j claim. at_set (λ st. claim_of st ≡ Some claim → claim < claims + 1) states k (Claimed claims) j inside
        (λ e h. omega (arith, same_claim claims claim h)) (λ other h. omega (arith, n.below j claim h));
    apart = λ i j claim. at_set (λ st. claim_of st ≡ Some claim → claim_of (state_at (slice_set states k (Claimed claims)) j) ≡ Some claim → i ≡ j) states k (Claimed claims) i inside
        (λ e h. at_set (λ st. claim_of st ≡ Some claim → i ≡ j) states k (Claimed claims) j inside
        (λ e' h'. e ∙ sym e') (λ other h'. absurd (omega (arith, same_claim claims claim h, n.below j claim h'))))
        (λ other h. at_set (λ st. claim_of st ≡ Some claim → i ≡ j) states k (Claimed claims) j inside
        (λ e' h'. absurd (omega (arith, same_claim claims claim h', n.below i claim h))) (λ other' h'. n.apart i j claim h h'));
  }

  pub counts_push : (states : List (State W)) (s : State W) (r c w r' c' w' r1 c1 w1 m1 : ℕ) → HasCounts states r c w
      → IsKind s r1 c1 w1 m1 → r' ≡ r + r1 → c' ≡ c + c1 → w' ≡ w + w1 → HasCounts (states ++ s ∷ []) r' c' w'
  counts_push states s r c w r' c' w' r1 c1 w1 m1 h kind er ec ew = record {
    are_runnable = omega (arith, h.are_runnable, count-push is_runnable states s, kind.one_runnable, er);
    are_claimed = omega (arith, h.are_claimed, count-push is_claimed states s, kind.one_claimed, ec);
    are_waiting = omega (arith, h.are_waiting, count-push is_waiting states s, kind.one_waiting, ew);
  }

  pub counts_set : (states : List (State W)) (k : ℕ) (s : State W) (r c w r' c' w' r0 c0 w0 m0 r1 c1 w1 m1 : ℕ) → HasCounts states r c w
      → k < length states → IsKind (state_at states k) r0 c0 w0 m0 → IsKind s r1 c1 w1 m1
      → r' + r0 ≡ r + r1 → c' + c0 ≡ c + c1 → w' + w0 ≡ w + w1 → HasCounts (slice_set states k s) r' c' w'
  counts_set states k s r c w r' c' w' r0 c0 w0 m0 r1 c1 w1 m1 h inside was is er ec ew = record {
    are_runnable = omega (arith, h.are_runnable, count-set is_runnable states k s inside, was.one_runnable, is.one_runnable, er);
    are_claimed = omega (arith, h.are_claimed, count-set is_claimed states k s inside, was.one_claimed, is.one_claimed, ec);
    are_waiting = omega (arith, h.are_waiting, count-set is_waiting states k s inside, was.one_waiting, is.one_waiting, ew);
  }

  -- of a claimed task there is at least one
  pub one_claimed : (states : List (State W)) (k claim r c w : ℕ) → HasCounts states r c w
      → claim_of (state_at states k) ≡ Some claim → 1 ≤ c
  one_claimed states k claim r c w h claims =
      let kind : IsKind (state_at states k) 0 1 0 0 = claimed_kind (state_at states k) claim claims in
      omega (arith, h.are_claimed, kind.one_claimed, count-at is_claimed states k (claimed_inside states k claim claims))

  pub kept_set : (owners : List (Option ℕ)) (states : List (State W)) (queue new : List ℕ) (claims claims' spare k : ℕ) (s : State W)
      (r0 c0 w0 m0 r1 c1 w1 m1 : ℕ) → IsKept owners states queue claims spare → k < length states
      → IsKind (state_at states k) r0 c0 w0 m0 → IsKind s r1 c1 w1 m1
      → IsQueue (slice_set states k s) new → AreNumbered (slice_set states k s) claims' → claims' < 2 ^ 64
      → length new + c1 + w1 ≤ length queue + c0 + w0
      → IsKept owners (slice_set states k s) new claims' spare
  kept_set owners states queue new claims claims' spare k s r0 c0 w0 m0 r1 c1 w1 m1 kept inside was is q n counted fits = record {
    owned = omega (arith, kept.owned, length-set states k s);
    few = omega (arith, kept.few, length-set states k s);
    queued = q;
    numbered = n;
    counted = counted;
    room = omega (
      arith,
      kept.room,
      length-set states k s,
      fits,
      count-set is_claimed states k s inside,
      was.one_claimed,
      is.one_claimed,
      count-set is_waiting states k s inside,
      was.one_waiting,
      is.one_waiting,
    );
  }

  pub runnable_is : (payload : W) → IsKind (Runnable payload) 1 0 0 1
  runnable_is payload = record { one_runnable = refl; one_claimed = refl; one_waiting = refl; at_most = refl }

  pub claimed_is : (claim : ℕ) → IsKind (Claimed claim) 0 1 0 0
  claimed_is claim = record { one_runnable = refl; one_claimed = refl; one_waiting = refl; at_most = refl }

  pub waiting_is : (resource : List ℕ) (payload : W) → IsKind (Waiting resource payload) 0 0 1 0
  waiting_is resource payload = record { one_runnable = refl; one_claimed = refl; one_waiting = refl; at_most = refl }

  pub gone_is : IsKind Gone 0 0 0 1
  gone_is = record { one_runnable = refl; one_claimed = refl; one_waiting = refl; at_most = refl }

  -- a claimed task in no queue
  pub claimed_absent : (states : List (State W)) (queue : List ℕ) (k claim : ℕ) → IsQueue states queue
      → claim_of (state_at states k) ≡ Some claim → times k queue ≡ 0
  claimed_absent states queue k claim q claims =
      let kind : IsKind (state_at states k) 0 1 0 0 = claimed_kind (state_at states k) claim claims in
      omega (arith, q.most k, kind.at_most)

  pub kept_returned : (owners : List (Option ℕ)) (states : List (State W)) (queue : List ℕ) (claims spare k claim : ℕ) (payload : W)
      → IsKept owners states queue claims spare → claim_of (state_at states k) ≡ Some claim
      → IsKept owners (slice_set states k (Runnable payload)) (queue ++ k ∷ []) claims spare
  kept_returned owners states queue claims spare k claim payload kept claims_it =
      let inside : k < length states = claimed_inside states k claim claims_it in
      let absent : times k queue ≡ 0 = claimed_absent states queue k claim kept.queued claims_it in
      kept_set owners states queue (queue ++ k ∷ []) claims claims spare k (Runnable payload) 0 1 0 0 1 0 0 1 kept inside
      (claimed_kind (state_at states k) claim claims_it) (runnable_is payload)
      (queue_set states queue (queue ++ k ∷ []) k (Runnable payload) kept.queued inside
      (λ j other. omega (arith, times-push j k queue, kept.queued.least j))
      (λ j other. omega (arith, times-push j k queue, one_other j k other))
      (omega (arith, times-push k k queue, one_same k)) (omega (arith, times-push k k queue, one_same k, absent)))
      (numbered_set states claims k (Runnable payload) kept.numbered inside refl) kept.counted
      (omega (arith, length-append queue (k ∷ [])))

  pub kept_put_off : (owners : List (Option ℕ)) (states : List (State W)) (queue : List ℕ) (claims spare k claim : ℕ) (resource : List ℕ) (payload : W)
      → IsKept owners states queue claims spare → claim_of (state_at states k) ≡ Some claim
      → IsKept owners (slice_set states k (Waiting resource payload)) queue claims spare
  kept_put_off owners states queue claims spare k claim resource payload kept claims_it =
      let inside : k < length states = claimed_inside states k claim claims_it in
      let absent : times k queue ≡ 0 = claimed_absent states queue k claim kept.queued claims_it in
      kept_set owners states queue queue claims claims spare k (Waiting resource payload) 0 1 0 0 0 0 1 0 kept inside
      (claimed_kind (state_at states k) claim claims_it) (waiting_is resource payload)
      (queue_set states queue queue k (Waiting resource payload) kept.queued inside
      (λ j other. kept.queued.least j) (λ j other. omega arith) (omega arith) (omega (arith, absent)))
      (numbered_set states claims k (Waiting resource payload) kept.numbered inside refl) kept.counted (omega arith)

  pub kept_ended : (owners : List (Option ℕ)) (states : List (State W)) (queue : List ℕ) (claims spare k claim : ℕ)
      → IsKept owners states queue claims spare → claim_of (state_at states k) ≡ Some claim
      → IsKept owners (slice_set states k Gone) queue claims spare
  kept_ended owners states queue claims spare k claim kept claims_it =
      let inside : k < length states = claimed_inside states k claim claims_it in
      let absent : times k queue ≡ 0 = claimed_absent states queue k claim kept.queued claims_it in
      kept_set owners states queue queue claims claims spare k Gone 0 1 0 0 0 0 0 1 kept inside
      (claimed_kind (state_at states k) claim claims_it) gone_is
      (queue_set states queue queue k Gone kept.queued inside
      (λ j other. kept.queued.least j) (λ j other. omega arith) (omega arith) (omega (arith, absent)))
      (numbered_set states claims k Gone kept.numbered inside refl) kept.counted (omega arith)

  pub kept_claimed : (owners : List (Option ℕ)) (states : List (State W)) (queue new : List ℕ) (claims spare k : ℕ)
      → IsKept owners states queue claims spare → IsFirst states queue new k → claims + 1 < 2 ^ 64
      → IsKept owners (slice_set states k (Claimed claims)) new (claims + 1) spare
  kept_claimed owners states queue new claims spare k kept first counted =
      let inside : k < length states = runnable_inside states k first.runnable in
      let kind : IsKind (state_at states k) 1 0 0 1 = runnable_kind (state_at states k) first.runnable in
      kept_set owners states queue new claims (claims + 1) spare k (Claimed claims) 1 0 0 1 0 1 0 0 kept inside kind (claimed_is claims)
      (queue_set states queue new k (Claimed claims) kept.queued inside
      (λ j other. left_over states queue new k j kept.queued first other)
      (λ j other. omega (arith, first.fewer j)) (omega arith)
      (omega (arith, first.fewer k, one_same k, kept.queued.most k, kind.at_most)))
      (numbered_claim states claims k kept.numbered inside) counted
      (omega (arith, first.shorter))
    where
      left_over : (states : List (State W)) (queue new : List ℕ) (k j : ℕ) → IsQueue states queue → IsFirst states queue new k
          → (j ≡ k → ⊥) → least_times (state_at states j) ≤ times j new
      left_over states queue new k j q first other = by_state (state_at states j) refl
        where
          by_state : (s : State W) → state_at states j ≡ s → least_times s ≤ times j new
          by_state Gone is = omega arith
          by_state (Claimed claim) is = omega arith
          by_state (Waiting resource payload) is = omega arith
          by_state (Runnable payload) is =
              omega (arith, first.others j (ap is_runnable is), one_other j k other, subst (λ s. least_times s ≤ times j queue) is (q.least j))

  pub kept_spawned : (owners : List (Option ℕ)) (states : List (State W)) (queue : List ℕ) (claims spare : ℕ) (owner : Option ℕ) (payload : W)
      → IsKept owners states queue claims spare → 0 < spare
      → IsKept (owners ++ owner ∷ []) (states ++ Runnable payload ∷ []) (queue ++ length states ∷ []) claims (spare - 1)
  kept_spawned owners states queue claims spare owner payload kept some =
      let absent : times (length states) queue ≡ 0 = new_absent states queue kept.queued in
      record {
        owned = omega (arith, kept.owned, length-append owners (owner ∷ []), length-append states (Runnable payload ∷ []));
        few = omega (arith, kept.few, length-append states (Runnable payload ∷ []));
        queued = queue_push states queue (queue ++ length states ∷ []) (Runnable payload) kept.queued
            (λ j other. omega (arith, times-push j (length states) queue, one_other j (length states) other))
            (omega (arith, times-push (length states) (length states) queue, one_same (length states)))
            (omega (arith, times-push (length states) (length states) queue, one_same (length states), absent));
        numbered = numbered_push states claims (Runnable payload) kept.numbered refl;
        counted = kept.counted;
        room = omega (
          arith,
          kept.room,
          length-append states (Runnable payload ∷ []),
          length-append queue (length states ∷ []),
          count-push is_claimed states (Runnable payload),
          count-push is_waiting states (Runnable payload),
        );
      }

  pub kept_waiting : (owners : List (Option ℕ)) (states : List (State W)) (queue : List ℕ) (claims spare : ℕ) (owner : Option ℕ)
      (resource : List ℕ) (payload : W) → IsKept owners states queue claims spare → 0 < spare
      → IsKept (owners ++ owner ∷ []) (states ++ Waiting resource payload ∷ []) queue claims (spare - 1)
  kept_waiting owners states queue claims spare owner resource payload kept some =
      let absent : times (length states) queue ≡ 0 = new_absent states queue kept.queued in
      record {
        owned = omega (arith, kept.owned, length-append owners (owner ∷ []), length-append states (Waiting resource payload ∷ []));
        few = omega (arith, kept.few, length-append states (Waiting resource payload ∷ []));
        queued = queue_push states queue queue (Waiting resource payload) kept.queued (λ j other. refl) (omega arith) (omega (arith, absent));
        numbered = numbered_push states claims (Waiting resource payload) kept.numbered refl;
        counted = kept.counted;
        room = omega (
          arith,
          kept.room,
          length-append states (Waiting resource payload ∷ []),
          count-push is_claimed states (Waiting resource payload),
          count-push is_waiting states (Waiting resource payload),
        );
      }

  claim_counted : (states : List (State W)) (task claim : ℕ) → claim_of (state_at states task) ≡ Some claim → 1 ≤ count_of is_claimed states
  claim_counted states task claim claims =
      let kind : IsKind (state_at states task) 0 1 0 0 = claimed_kind (state_at states task) claim claims in
      omega (arith, kind.one_claimed, count-at is_claimed states task (claimed_inside states task claim claims))

  pub kept_renumbered : (owners : List (Option ℕ)) (states : List (State W)) (queue : List ℕ) (claims spare : ℕ)
      → IsKept owners states queue claims spare → count_of is_claimed states ≡ 0 → IsKept owners states queue 0 spare
  kept_renumbered owners states queue claims spare kept none = record {
    owned = kept.owned;
    few = kept.few;
    queued = kept.queued;
    numbered = record {
      below = λ task claim h. absurd (omega (arith, none, claim_counted states task claim h));
      apart = λ task other claim h h'. absurd (omega (arith, none, claim_counted states task claim h));
    };
    counted = omega arith;
    room = kept.room;
  }

  pub room_set : (states : List (State W)) (k : ℕ) (s : State W) (spare a b q : ℕ) → HasRoom (length states) spare a b q
      → HasRoom (length (slice_set states k s)) spare a b q
  room_set states k s spare a b q room = subst (λ n. HasRoom n spare a b q) (sym (length-set states k s)) room

  pub room_push : (states : List (State W)) (s : State W) (spare a b q : ℕ) → HasRoom (length states) spare a b q → 0 < spare
      → HasRoom (length (states ++ s ∷ [])) (spare - 1) a b q
  room_push states s spare a b q room some = record {
    for_owners = omega (arith, room.for_owners, length-append states (s ∷ []));
    for_states = omega (arith, room.for_states, length-append states (s ∷ []));
    for_queue = omega (arith, room.for_queue, length-append states (s ∷ []));
  }

  -- one claimed task fewer leaves room for one of another kind
  pub fits_one : (owners : List (Option ℕ)) (states : List (State W)) (queue : List ℕ) (claims spare r c w : ℕ)
      → IsKept owners states queue claims spare → HasCounts states r c w → 1 ≤ c → (r + 1 < 2 ^ 32) × (w + 1 < 2 ^ 32)
  fits_one owners states queue claims spare r c w kept h some = (
    omega (arith, kept.few, h.are_runnable, h.are_claimed, counts_fit states, some),
    omega (arith, kept.few, h.are_waiting, h.are_claimed, counts_fit states, some),
  )

  pub queue_fits : (owners : List (Option ℕ)) (states : List (State W)) (queue : List ℕ) (claims spare r c w a b q : ℕ)
      → IsKept owners states queue claims spare → HasCounts states r c w → HasRoom (length states) spare a b q → 1 ≤ c → length queue < q
  queue_fits owners states queue claims spare r c w a b q kept h room some =
      omega (arith, kept.room, h.are_claimed, room.for_queue, some)

  pub kept_same : (owners : List (Option ℕ)) (states : List (State W)) (queue queue' : List ℕ) (claims spare : ℕ)
      → IsKept owners states queue claims spare → queue' ≡ queue → IsKept owners states queue' claims spare
  kept_same owners states queue queue' claims spare kept same =
      subst (λ (q : List ℕ). IsKept owners states q claims spare) (sym same) kept

  -- all that is kept, of lists that are equal to those of a lemma
  pub record Sound (owners : List (Option ℕ)) (states : List (State W)) (queue : List ℕ) (claims spare r c w a b q : ℕ) : Type 0 where
    pub kept : IsKept owners states queue claims spare
    pub counts : HasCounts states r c w
    pub room : HasRoom (length states) spare a b q

  pub sound_same : (owners owners' : List (Option ℕ)) (states states' : List (State W)) (queue queue' : List ℕ) (claims spare r c w a b q a' b' q' : ℕ)
      → Sound owners states queue claims spare r c w a b q → owners' ≡ owners → states' ≡ states → queue' ≡ queue → a' ≡ a → b' ≡ b → q' ≡ q
      → IsKept owners' states' queue' claims spare × HasCounts states' r c w × HasRoom (length states') spare a' b' q'
  sound_same owners owners' states states' queue queue' claims spare r c w a b q a' b' q' sound os ss qs ea eb eq =
      rw (os, ss, qs, ea, eb, eq) (sound.kept, sound.counts, sound.room)

  pub sound_spawned : (owners : List (Option ℕ)) (states : List (State W)) (queue : List ℕ) (claims spare r c w a b q : ℕ) (owner : Option ℕ) (payload : W)
      → Sound owners states queue claims spare r c w a b q → 0 < spare
      → Sound (owners ++ owner ∷ []) (states ++ Runnable payload ∷ []) (queue ++ length states ∷ []) claims (spare - 1) (r + 1) c w a b q
  sound_spawned owners states queue claims spare r c w a b q owner payload s some = record {
    kept = kept_spawned owners states queue claims spare owner payload s.kept some;
    counts = counts_push states (Runnable payload) r c w (r + 1) c w 1 0 0 1 s.counts (runnable_is payload) refl (omega arith) (omega arith);
    room = room_push states (Runnable payload) spare a b q s.room some;
  }

  pub sound_waiting : (owners : List (Option ℕ)) (states : List (State W)) (queue : List ℕ) (claims spare r c w a b q : ℕ) (owner : Option ℕ)
      (resource : List ℕ) (payload : W) → Sound owners states queue claims spare r c w a b q → 0 < spare
      → Sound (owners ++ owner ∷ []) (states ++ Waiting resource payload ∷ []) queue claims (spare - 1) r c (w + 1) a b q
  sound_waiting owners states queue claims spare r c w a b q owner resource payload s some = record {
    kept = kept_waiting owners states queue claims spare owner resource payload s.kept some;
    counts = counts_push states (Waiting resource payload) r c w r c (w + 1) 0 0 1 0 s.counts (waiting_is resource payload) (omega arith) (omega arith) refl;
    room = room_push states (Waiting resource payload) spare a b q s.room some;
  }

  pub one_runnable : (states : List (State W)) (k r c w : ℕ) → HasCounts states r c w → is_runnable (state_at states k) ≡ true → 1 ≤ r
  one_runnable states k r c w h runs =
      let kind : IsKind (state_at states k) 1 0 0 1 = runnable_kind (state_at states k) runs in
      omega (arith, h.are_runnable, kind.one_runnable, count-at is_runnable states k (runnable_inside states k runs))

  pub sound_claimed : (owners : List (Option ℕ)) (states : List (State W)) (queue new : List ℕ) (claims spare r c w a b q k : ℕ)
      → Sound owners states queue claims spare r c w a b q → IsFirst states queue new k → claims + 1 < 2 ^ 64 → 1 ≤ r
      → Sound owners (slice_set states k (Claimed claims)) new (claims + 1) spare (r - 1) (c + 1) w a b q
  sound_claimed owners states queue new claims spare r c w a b q k s first counted some = record {
    kept = kept_claimed owners states queue new claims spare k s.kept first counted;
    counts = counts_set states k (Claimed claims) r c w (r - 1) (c + 1) w 1 0 0 1 0 1 0 0 s.counts (runnable_inside states k first.runnable)
        (runnable_kind (state_at states k) first.runnable) (claimed_is claims) (omega (arith, some)) (omega arith) (omega arith);
    room = room_set states k (Claimed claims) spare a b q s.room;
  }
