-- How calls are gone through, for any fact of a state.
use Rattle.std.proofs.Common.{◌≡◌, ℕ, zero, suc, ◌+◌, ◌<◌, Bool, true, false, ◌&&◌, is_some, List, [], ◌∷◌, length, Option, Some, None, inl, inr, refl, sym, subst}
use Rattle.std.proofs.lemmas.Bool.{cases_lt}
use Rattle.std.proofs.lemmas.Option.{slice_get_past}
use Rattle.settle_script.specs.declared.value.Entry.{Entry}
use Rattle.settle_script.specs.declared.outcome.Outcome.{Outcome}
use Rattle.settle_script.specs.Settlements.{known}
use Rattle.fizz_boundary.specs.Bounds.{bound_at, tasks_left}
use Rattle.fizz_boundary.specs.declared.boundary.Bound.{Bound}
use Rattle.fizz_piece.specs.declared.plan.Plan.{Plan}
use Rattle.fizz_piece.specs.declared.work.Work.{Work}
use Rattle.fizz_task.specs.Board.{claim_of, state_at}
use Rattle.request_state.specs.declared.job.Claim.{Claim}
use Rattle.request_state.specs.Claiming.{claim_at, given_back, given_back_to, is_claim, is_kept_as, keeps}
use Rattle.request_state.specs.Closing.{Closes, FailEach, FailsIf, is_working, unsettled}
use Rattle.request_state.specs.Committing.{put_off_to, with_blocked, with_waiting}
use Rattle.request_state.specs.Core.{Core}
use Rattle.request_state.specs.Failing.{FailsBoundary, FailsOwner, all_dropped, marked_failed, with_dropped, with_shell_failed}
use Rattle.request_state.specs.Flushing.{AppendsFlush, FlushesState, FlushesUnless}

not_false : false ≡ true → ⊥
not_false is = cc

left : (a b : Bool) → (a && b) ≡ true → a ≡ true
left true b is = refl
left false b is = absurd (not_false is)

right : (a b : Bool) → (a && b) ≡ true → b ≡ true
right true b is = is
right false b is = absurd (not_false is)

is_the_claim : (claim : ℕ) (found : Option ℕ) → is_claim claim found ≡ true → (n : ℕ) × (found ≡ Some n)
is_the_claim claim None is = absurd (not_false is)
is_the_claim claim (Some n) is = (n, refl)

-- the task of a work that is kept is claimed
pub claimed_under : (core : Core) (work : Work) → keeps core work ≡ true
    → (n : ℕ) × (claim_of (state_at core.tasks.states work.task) ≡ Some n)
claimed_under core work kept = is_the_claim work.claim (claim_of (state_at core.tasks.states work.task)) (left _ _ kept)

is_the_kept : (work : Work) (found : Option Claim) → is_kept_as work found ≡ true → (claim : Claim) × (found ≡ Some claim)
is_the_kept work None is = absurd (not_false is)
is_the_kept work (Some claim) is = (claim, refl)

-- something is kept of it
pub kept_under : (core : Core) (work : Work) → keeps core work ≡ true
    → (claim : Claim) × (claim_at core.claims work.task ≡ Some claim)
kept_under core work kept =
    is_the_kept work (claim_at core.claims work.task)
    (right (is_claim work.claim (claim_of (state_at core.tasks.states work.task))) _ kept)

nothing_left : (found : Option Bound) → found ≡ None → is_some (tasks_left found) ≡ true → ⊥
nothing_left None is some = not_false some
nothing_left (Some bound) is some = cc

working_made : (bounds : List Bound) (boundary : ℕ) → is_working bounds boundary ≡ true → boundary < length bounds
working_made bounds boundary is = elim (cases_lt boundary (length bounds)) [
  | inl within ↦ within
  | inr past ↦ absurd (nothing_left (bound_at bounds boundary) (slice_get_past bounds boundary past) (left _ _ is))
]

module _ (Fact : Core → Type 0) where
  -- what is dropped, boundary by boundary
  pub all_dropped_keeps : ((boundary : ℕ) (core : Core) → Fact core → Fact (with_dropped boundary core))
      → (within : List ℕ) (core : Core) → Fact core → Fact (all_dropped within core)
  all_dropped_keeps drops [] core holds = holds
  all_dropped_keeps drops (boundary ∷ later) core holds =
      all_dropped_keeps drops later (with_dropped boundary core) (drops boundary core holds)

  pub failed_keeps : ((boundary : ℕ) (core : Core) → Fact core → Fact (with_dropped boundary core))
      → ((boundary : ℕ) (digest : List ℕ) (core : Core) → Fact core → Fact (marked_failed boundary digest core))
      → (boundary : ℕ) (digest : List ℕ) (old new : Core) → Fact old → FailsBoundary boundary digest old new → Fact new
  failed_keeps drops marks boundary digest old new holds fails =
      subst Fact (sym fails.failed)
      (marks boundary digest fails.between
      (subst Fact (sym fails.dropped.dropped) (all_dropped_keeps drops fails.dropped.within old holds)))

  pub owner_failed_keeps : ((digest : List ℕ) (core : Core) → Fact core → Fact (with_shell_failed digest core))
      → ((boundary : ℕ) (digest : List ℕ) (old new : Core) → Fact old → FailsBoundary boundary digest old new → Fact new)
      → (owner : Option ℕ) (digest : List ℕ) (old new : Core) → Fact old → FailsOwner owner digest old new → Fact new
  owner_failed_keeps shell fails None digest old new holds is = subst Fact (sym is) (shell digest old holds)
  owner_failed_keeps shell fails (Some boundary) digest old new holds is = fails boundary digest old new holds is

  -- a boundary that is at work was made; where it fails the fact is kept
  abbrev EachKeeps : Type 0
  EachKeeps = (boundary : ℕ) (digest : List ℕ) (old new : Core) → boundary < length old.boundaries.bounds → Fact old
      → FailsBoundary boundary digest old new → Fact new

  failed_if_keeps : (fails : Bool) (boundary failed : ℕ) (old new : Core) (Then : Core → ℕ → Type 0) → EachKeeps
      → is_working old.boundaries.bounds boundary ≡ fails
      → ((between : Core) (others : ℕ) → Fact between → Then between others → Fact new)
      → Fact old → FailsIf fails boundary old Then failed → Fact new
  failed_if_keeps true boundary failed old new Then each is on holds fails =
      on fails.between fails.others
      (each boundary unsettled old fails.between (working_made old.boundaries.bounds boundary is) holds fails.fails)
      fails.goes_on
  failed_if_keeps false boundary failed old new Then each is on holds fails = on old failed holds fails

  pub each_failed_keeps : EachKeeps → (count from failed : ℕ) (old new : Core) → Fact old
      → FailEach count from old new failed → Fact new
  each_failed_keeps each zero from failed old new holds fail = subst Fact fail.0 holds
  each_failed_keeps each (suc count) from failed old new holds fail =
      failed_if_keeps (is_working old.boundaries.bounds from) from failed old new
      (λ between others. FailEach count (from + 1) between new others) each refl
      (λ between others stand later. each_failed_keeps each count (from + 1) others between new stand later) holds fail

  pub closed_keeps : ((digest : List ℕ) (core : Core) → Fact core → Fact (with_shell_failed digest core)) → EachKeeps
      → (tasks failed : ℕ) (old new : Core) → Fact old → Closes tasks old new failed → Fact new
  closed_keeps shell each zero failed old new holds closes =
      each_failed_keeps each (length old.boundaries.bounds) 0 failed old new holds closes
  closed_keeps shell each (suc tasks) failed old new holds closes =
      subst Fact (sym closes.0) (shell unsettled old holds)

  flushed_unless_keeps : (plan : Plan) (budget tasks : ℕ) (failure : Option (List ℕ)) (old new : Core)
      → (Fact old → AppendsFlush plan budget old new → Fact new) → Fact old
      → FlushesUnless tasks failure plan budget old new → Fact new
  flushed_unless_keeps plan budget zero None old new appends holds flushes = appends holds flushes
  flushed_unless_keeps plan budget zero (Some digest) old new appends holds same = subst Fact (sym same) holds
  flushed_unless_keeps plan budget (suc tasks) failure old new appends holds same = subst Fact (sym same) holds

  pub flushed_keeps : (plan : Plan) (budget : ℕ) (old new : Core)
      → (Fact old → AppendsFlush plan budget old new → Fact new) → Fact old → FlushesState plan budget old new → Fact new
  flushed_keeps plan budget old new appends holds flushes =
      flushed_unless_keeps plan budget old.shell_tasks old.failure old new appends holds flushes

  -- a work that is kept comes back
  pub returned_keeps : (work : Work) (core : Core)
      → ((claim : Claim) → claim_at core.claims work.task ≡ Some claim → Fact (given_back_to work (Some claim) core))
      → keeps core work ≡ true → Fact (given_back work core)
  returned_keeps work core returns kept =
      let found : (claim : Claim) × (claim_at core.claims work.task ≡ Some claim) = kept_under core work kept in
      subst (λ (o : Option Claim). Fact (given_back_to work o core)) (sym found.1) (returns found.0 found.1)

  put_off_keeps : (work : Work) (resource : List ℕ) (core : Core)
      → ((claim : Claim) → claim_at core.claims work.task ≡ Some claim → Fact (put_off_to work resource (Some claim) core))
      → keeps core work ≡ true → Fact (with_waiting work resource core)
  put_off_keeps work resource core puts kept =
      let found : (claim : Claim) × (claim_at core.claims work.task ≡ Some claim) = kept_under core work kept in
      subst (λ (o : Option Claim). Fact (put_off_to work resource o core)) (sym found.1) (puts found.0 found.1)

  blocked_by : (outcomes : List (Entry Outcome)) (work : Work) (resource : List ℕ) (core : Core) (is_known : Bool)
      → is_some (known outcomes core.settled resource) ≡ is_known → Fact (given_back work core)
      → Fact (with_waiting work resource core) → Fact (with_blocked outcomes work resource core)
  blocked_by outcomes work resource core true is returns puts = rw is returns
  blocked_by outcomes work resource core false is returns puts = rw is puts

  -- a task that found that it waits
  pub blocked_keeps : (outcomes : List (Entry Outcome)) (work : Work) (resource : List ℕ) (core : Core)
      → ((claim : Claim) → claim_at core.claims work.task ≡ Some claim → Fact (given_back_to work (Some claim) core))
      → ((claim : Claim) → claim_at core.claims work.task ≡ Some claim → Fact (put_off_to work resource (Some claim) core))
      → keeps core work ≡ true → Fact (with_blocked outcomes work resource core)
  blocked_keeps outcomes work resource core returns puts kept =
      blocked_by outcomes work resource core _ refl (returned_keeps work core returns kept)
      (put_off_keeps work resource core puts kept)
