-- Claim numbers stay apart, and what is kept of claims goes on fitting the tasks.
use Rattle.std.proofs.Common.{◌≡◌, ℕ, zero, suc, ◌+◌, Bool, true, false, cond, if◌then◌else◌, List, [], ◌∷◌, ◌++◌, length, map, slice_set, Option, Some, None, refl, sym, ap, subst, ◌∙◌}
use Rattle.std.specs.Str.{bytes_eq}
use Rattle.settle_script.specs.declared.value.Entry.{Entry}
use Rattle.settle_script.specs.declared.outcome.Outcome.{Outcome}
use Rattle.fizz_piece.specs.declared.piece.Kid.{Kid}
use Rattle.fizz_piece.specs.declared.piece.Piece.{Piece}
use Rattle.fizz_piece.specs.declared.piece.Piece.TheVariants as piece
use Rattle.fizz_piece.specs.declared.plan.Plan.{Plan}
use Rattle.fizz_piece.specs.declared.work.Work.{Work}
use Rattle.fizz_task.proofs.Dropping.{at_dropped}
use Rattle.fizz_task.proofs.Keeping.{numbered_claim}
use Rattle.fizz_task.specs.declared.state.State.{State}
use Rattle.fizz_task.specs.declared.state.State.TheVariants.{Gone, Runnable, Claimed, Waiting}
use Rattle.fizz_task.specs.Board.{AreNumbered, Board, claim_of, state_at}
use Rattle.fizz_task.specs.Calls.{is_owned, owner_at, woken}
use Rattle.fizz_task.specs.Indexed.{is_gone}
use Rattle.fizz_boundary.specs.Bounds.{Bounds}
use Rattle.request_state.specs.declared.job.Claim.{Claim}
use Rattle.request_state.specs.declared.job.Job.{Job}
use Rattle.request_state.specs.declared.making.Made.{Made}
use Rattle.request_state.specs.declared.making.Made.TheVariants as m
use Rattle.request_state.specs.Claiming.{HandsOut, claim_at, given_back, given_back_to, job_again, keeps, kept_of, owner_of}
use Rattle.request_state.specs.Closing.{Closes}
use Rattle.request_state.specs.Committing.{CommitsPiece, TakesPieceIf, put_off_to, with_bytes}
use Rattle.request_state.specs.Core.{Core, free, new_core}
use Rattle.request_state.specs.Failing.{FailsBoundary, marked_failed, with_dropped, with_shell_failed}
use Rattle.request_state.specs.Flushing.{AppendsFlush, FlushesState}
use Rattle.request_state.specs.Making.{made_of, with_all_made, with_made}
use Rattle.request_state.specs.Reclaiming.{job_kept, with_reclaimed}
use Rattle.request_state.specs.Settling.{Settles, with_settled}
use Rattle.state_laws.specs.Claims.{ClaimsFit, IsKeptOf}
use Rattle.state_laws.specs.Tasks.{IsLeft, TasksFit}
use Rattle.state_laws.proofs.Calls.{blocked_keeps, claimed_under, closed_keeps, failed_keeps, flushed_keeps, owner_failed_keeps, returned_keeps}
use Rattle.state_laws.proofs.Points.{both_push, both_set, push_reads, set_reads}
use Rattle.state_laws.proofs.TasksLemmas.{AddsTask, CanMake, ChangesTask, added_fit, again_of, all_made_keeps, at_woken, begun, begun_can, begun_changes, bounded, bounded_can_new, bounded_fit, changed_fit, claimed_left, content_added, content_can, counted_same, dropped_fit, fallback_added, frame_same, handed, handed_changes, hole_added, is_handed, left_inside, marked_fit, new_state, none_left, place_inside, reclaimed_claims, reclaimed_reads, reclaimed_same, same_fit, settled_same, shell_failed_fit, twin_job, with_child, with_content}

nothing_claims : (n : ℕ) → ◌≡◌ {A = Option ℕ} None (Some n) → ⊥
nothing_claims n e = cc

-- Each claim was one before.
abbrev FewerClaims : List (State Job) → List (State Job) → Type 0
FewerClaims old new = (task n : ℕ) → claim_of (state_at new task) ≡ Some n → claim_of (state_at old task) ≡ Some n

numbered_fewer : (old new : List (State Job)) (claims : ℕ) → FewerClaims old new → AreNumbered old claims
    → AreNumbered new claims
numbered_fewer old new claims fewer numbered = record {
  below = λ task n is. numbered.below task n (fewer task n is);
  apart = λ task other n is same. numbered.apart task other n (fewer task n is) (fewer other n same);
}

-- the same tasks, claims and number of boundaries
pub frame_claims : (old new : Core) → new.tasks ≡ old.tasks → new.claims ≡ old.claims
    → length new.boundaries.bounds ≡ length old.boundaries.bounds → ClaimsFit old → ClaimsFit new
frame_claims old new tasks claims bounds fit = record {
  tasks = same_fit old new (frame_same old new tasks (ap (λ (l : List (Option Claim)). length l) claims) bounds) fit.tasks;
  numbered = subst (λ (b : Board Job). AreNumbered b.states b.claims) (sym tasks) fit.numbered;
  kept = λ task. subst (λ (b : Board Job). IsKeptOf (state_at b.states task) (claim_at new.claims task)) (sym tasks)
      (subst (λ (l : List (Option Claim)). IsKeptOf (state_at old.tasks.states task) (claim_at l task)) (sym claims)
      (fit.kept task));
}

-- At first.

first_kept : (task : ℕ) → IsKeptOf (state_at new_core.tasks.states task) (claim_at new_core.claims task)
first_kept zero = refl
first_kept (suc task) = tt

first_unclaimed : (task : ℕ) → claim_of (state_at new_core.tasks.states task) ≡ None
first_unclaimed zero = refl
first_unclaimed (suc task) = refl

first_owner : (task : ℕ) → owner_at new_core.tasks.owners task ≡ None
first_owner zero = refl
first_owner (suc task) = refl

pub new_tasks_fit : TasksFit new_core
new_tasks_fit = record {
  owned = refl;
  places = λ task left. refl;
  owners = λ task boundary left is. absurd (nothing_claims boundary (sym (first_owner task) ∙ is));
}

pub new_fits : ClaimsFit new_core
new_fits = record {
  tasks = new_tasks_fit;
  numbered = record {
    below = λ task n is. absurd (nothing_claims n (sym (first_unclaimed task) ∙ is));
    apart = λ task other n is same. absurd (nothing_claims n (sym (first_unclaimed task) ∙ is));
  };
  kept = first_kept;
}

-- but for the room that is kept for more
pub roomy_claims : (old roomy : Core) → free roomy ≡ free old → ClaimsFit old → ClaimsFit roomy
roomy_claims old roomy same fit = record {
  tasks = same_fit old roomy (record {
    owners = ap (λ (c : Core). c.tasks.owners) same;
    states = ap (λ (c : Core). length c.tasks.states) same;
    claims = ap (λ (c : Core). length c.claims) same;
    bounds = ap (λ (c : Core). length c.boundaries.bounds) same;
    left = λ task left. ap (λ (c : Core). is_gone (state_at c.tasks.states task)) (sym same) ∙ left;
  }) fit.tasks;
  numbered = subst (λ (c : Core). AreNumbered c.tasks.states c.tasks.claims) (sym same) fit.numbered;
  kept = λ task. subst (λ (c : Core). IsKeptOf (state_at c.tasks.states task) (claim_at c.claims task)) (sym same) (fit.kept task);
}

pub first_claims : (core : Core) → free core ≡ new_core → ClaimsFit core
first_claims core is = roomy_claims new_core core is new_fits

-- Settlements.

woken_claim_if : (wakes : Bool) (resource : List ℕ) (job : Job)
    → claim_of (if wakes then Runnable job else Waiting resource job) ≡ None
woken_claim_if true resource job = refl
woken_claim_if false resource job = refl

claim-woken : (name : List ℕ) (state : State Job) → claim_of (woken name state) ≡ claim_of state
claim-woken name Gone = refl
claim-woken name (Runnable job) = refl
claim-woken name (Claimed n) = refl
claim-woken name (Waiting resource job) = woken_claim_if (bytes_eq name resource) resource job

woken_kept_if : (wakes : Bool) (resource : List ℕ) (job : Job) (claim : Option Claim) → claim ≡ None
    → IsKeptOf (if wakes then Runnable job else Waiting resource job) claim
woken_kept_if true resource job claim is = is
woken_kept_if false resource job claim is = is

woken_kept : (name : List ℕ) (state : State Job) (claim : Option Claim) → IsKeptOf state claim
    → IsKeptOf (woken name state) claim
woken_kept name Gone claim kept = tt
woken_kept name (Runnable job) claim kept = kept
woken_kept name (Claimed n) claim kept = kept
woken_kept name (Waiting resource job) claim kept = woken_kept_if (bytes_eq name resource) resource job claim kept

pub settled_fit : (name : List ℕ) (core : Core) → ClaimsFit core → ClaimsFit (with_settled name core)
settled_fit name core fit = record {
  tasks = same_fit core (with_settled name core) (settled_same name core) fit.tasks;
  numbered = numbered_fewer core.tasks.states (map (woken name) core.tasks.states) core.tasks.claims
      (λ task n is. sym (ap claim_of (at_woken name core.tasks.states task)
      ∙ claim-woken name (state_at core.tasks.states task)) ∙ is) fit.numbered;
  kept = λ task. subst (λ (s : State Job). IsKeptOf s (claim_at core.claims task))
      (sym (at_woken name core.tasks.states task))
      (woken_kept name (state_at core.tasks.states task) (claim_at core.claims task) (fit.kept task));
}

pub settles_claims : (outcomes : List (Entry Outcome)) (old new : Core) → ClaimsFit old → Settles outcomes old new
    → ClaimsFit new
settles_claims outcomes old new fit settles = subst ClaimsFit (sym settles.settled) (settled_fit settles.name old fit)

-- One task changes.

kept_changed : (task : ℕ) (state : State Job) (claim : Option Claim) (old new : Core)
    → ChangesTask task state claim old new → IsKeptOf state claim → ClaimsFit old
    → (other : ℕ) → IsKeptOf (state_at new.tasks.states other) (claim_at new.claims other)
kept_changed task state claim old new change own fit other =
    subst (λ (l : List (State Job)). IsKeptOf (state_at l other) (claim_at new.claims other)) (sym change.states)
    (subst (λ (l : List (Option Claim)). IsKeptOf (state_at (slice_set old.tasks.states task state) other) (claim_at l other))
    (sym change.claims)
    (both_set IsKeptOf old.tasks.states old.claims task state Gone claim None other
    (left_inside old task change.left) (place_inside old task fit.tasks change.left) (λ same. own)
    (λ apart. fit.kept other)))

-- it isn't claimed any more
pub unclaimed_fit : (task : ℕ) (state : State Job) (claim : Option Claim) (old new : Core)
    → ChangesTask task state claim old new → new.tasks.claims ≡ old.tasks.claims → claim_of state ≡ None
    → IsKeptOf state claim → ClaimsFit old → ClaimsFit new
unclaimed_fit task state claim old new change number unclaimed own fit = record {
  tasks = changed_fit task state claim old new change fit.tasks;
  numbered = subst (AreNumbered new.tasks.states) (sym number)
      (numbered_fewer old.tasks.states new.tasks.states old.tasks.claims fewer fit.numbered);
  kept = kept_changed task state claim old new change own fit;
}
  where
    fewer : FewerClaims old.tasks.states new.tasks.states
    fewer other n is =
        set_reads (λ (s : State Job). claim_of s ≡ Some n → claim_of (state_at old.tasks.states other) ≡ Some n)
        old.tasks.states task state Gone other (left_inside old task change.left)
        (λ same own_is. absurd (nothing_claims n (sym unclaimed ∙ own_is))) (λ apart is_so. is_so)
        (subst (λ (l : List (State Job)). claim_of (state_at l other) ≡ Some n) change.states is)

pub claimed_claims : (old new : Core) (work : Work) → ClaimsFit old → HandsOut old new work → ClaimsFit new
claimed_claims old new work fit out =
    let next : Core = handed work.task new.tasks.queue out.job old in
    let change : ChangesTask work.task (Claimed old.tasks.claims) (Some (kept_of old out.job)) old next =
    handed_changes old new work out in
    subst ClaimsFit (sym (is_handed old new work out)) (record {
      tasks = changed_fit work.task (Claimed old.tasks.claims) (Some (kept_of old out.job)) old next change fit.tasks;
      numbered = numbered_claim old.tasks.states old.tasks.claims work.task fit.numbered
          (left_inside old work.task change.left);
      kept = kept_changed work.task (Claimed old.tasks.claims) (Some (kept_of old out.job)) old next change refl fit;
    })

pub work_left : (core : Core) (work : Work) → keeps core work ≡ true → IsLeft core work.task
work_left core work kept =
    let found : (n : ℕ) × (claim_of (state_at core.tasks.states work.task) ≡ Some n) = claimed_under core work kept in
    claimed_left (state_at core.tasks.states work.task) found.0 found.1

pub given_back_fit : (work : Work) (claim : Claim) (core : Core) → keeps core work ≡ true → ClaimsFit core
    → ClaimsFit (given_back_to work (Some claim) core)
given_back_fit work claim core kept fit =
    unclaimed_fit work.task (Runnable (job_again work claim)) None core (given_back_to work (Some claim) core)
    (record { owners = refl; states = refl; claims = refl; bounds = refl; left = work_left core work kept })
    refl refl refl fit

pub put_off_fit : (work : Work) (resource : List ℕ) (claim : Claim) (core : Core) → keeps core work ≡ true → ClaimsFit core
    → ClaimsFit (put_off_to work resource (Some claim) core)
put_off_fit work resource claim core kept fit =
    unclaimed_fit work.task (Waiting resource (job_again work claim)) None core (put_off_to work resource (Some claim) core)
    (record { owners = refl; states = refl; claims = refl; bounds = refl; left = work_left core work kept })
    refl refl refl fit

pub returned_claims : (work : Work) (old : Core) → ClaimsFit old → keeps old work ≡ true → ClaimsFit (given_back work old)
returned_claims work old fit kept =
    returned_keeps ClaimsFit work old (λ claim is. given_back_fit work claim old kept fit) kept

-- Failures.

gone_unclaimed : (goes : Bool) (state : State Job) (n : ℕ) → claim_of (cond goes Gone state) ≡ Some n → claim_of state ≡ Some n
gone_unclaimed true state n is = absurd (nothing_claims n is)
gone_unclaimed false state n is = is

gone_kept : (goes : Bool) (state : State Job) (claim : Option Claim) → IsKeptOf state claim
    → IsKeptOf (cond goes Gone state) claim
gone_kept true state claim kept = tt
gone_kept false state claim kept = kept

pub dropped_claims : (boundary : ℕ) (core : Core) → ClaimsFit core → ClaimsFit (with_dropped boundary core)
dropped_claims boundary core fit =
    let owners : List (Option ℕ) = core.tasks.owners in
    let states : List (State Job) = core.tasks.states in
    record {
      tasks = dropped_fit boundary core fit.tasks;
      numbered = numbered_fewer states (with_dropped boundary core).tasks.states core.tasks.claims
          (λ task n is. gone_unclaimed (is_owned (Some boundary) owners task) (state_at states task) n
          (sym (ap claim_of (at_dropped (Some boundary) owners states task fit.tasks.owned)) ∙ is)) fit.numbered;
      kept = λ task. subst (λ (s : State Job). IsKeptOf s (claim_at core.claims task))
          (sym (at_dropped (Some boundary) owners states task fit.tasks.owned))
          (gone_kept (is_owned (Some boundary) owners task) (state_at states task) (claim_at core.claims task) (fit.kept task));
    }

pub marked_claims : (boundary : ℕ) (digest : List ℕ) (core : Core) → ClaimsFit core → ClaimsFit (marked_failed boundary digest core)
marked_claims boundary digest core fit = record {
  tasks = marked_fit boundary digest core fit.tasks;
  numbered = fit.numbered;
  kept = fit.kept;
}

failed_claims : (boundary : ℕ) (digest : List ℕ) (old new : Core) → ClaimsFit old → FailsBoundary boundary digest old new
    → ClaimsFit new
failed_claims = failed_keeps ClaimsFit dropped_claims marked_claims

-- one that isn't left is no one's claim, and it doesn't matter what is kept of it
gone_claim : (state : State Job) → (is_gone state ≡ false → ⊥) → claim_of state ≡ None
gone_claim Gone gone = refl
gone_claim (Runnable job) gone = absurd (gone refl)
gone_claim (Claimed n) gone = absurd (gone refl)
gone_claim (Waiting resource job) gone = absurd (gone refl)

gone_kept_all : (state : State Job) (claim : Option Claim) → (is_gone state ≡ false → ⊥) → IsKeptOf state claim
gone_kept_all Gone claim gone = tt
gone_kept_all (Runnable job) claim gone = absurd (gone refl)
gone_kept_all (Claimed n) claim gone = absurd (gone refl)
gone_kept_all (Waiting resource job) claim gone = absurd (gone refl)

pub shell_claims : (digest : List ℕ) (core : Core) → ClaimsFit core → ClaimsFit (with_shell_failed digest core)
shell_claims digest core fit =
    let states : List (State Job) = (with_shell_failed digest core).tasks.states in
    record {
      tasks = shell_failed_fit digest core fit.tasks;
      numbered = record {
        below = λ task n is. absurd (nothing_claims n
            (sym (gone_claim (state_at states task) (none_left digest core task fit.tasks)) ∙ is));
        apart = λ task other n is same. absurd (nothing_claims n
            (sym (gone_claim (state_at states task) (none_left digest core task fit.tasks)) ∙ is));
      };
      kept = λ task. gone_kept_all (state_at states task) (claim_at [] task) (none_left digest core task fit.tasks);
    }

-- Pieces.

new_unclaimed : (waits : Option (List ℕ)) (job : Job) → claim_of (new_state waits job) ≡ None
new_unclaimed None job = refl
new_unclaimed (Some resource) job = refl

new_kept : (waits : Option (List ℕ)) (job : Job) → IsKeptOf (new_state waits job) None
new_kept None job = refl
new_kept (Some resource) job = refl

pub added_claims : (owner : Option ℕ) (state : State Job) (old new : Core) → AddsTask owner state old new
    → claim_of state ≡ None → IsKeptOf state None → CanMake owner old → ClaimsFit old → ClaimsFit new
added_claims owner state old new adds unclaimed own can fit = record {
  tasks = added_fit owner state old new adds can fit.tasks;
  numbered = subst (AreNumbered new.tasks.states) (sym adds.number)
      (numbered_fewer old.tasks.states new.tasks.states old.tasks.claims fewer fit.numbered);
  kept = λ task.
      subst (λ (l : List (State Job)). IsKeptOf (state_at l task) (claim_at new.claims task)) (sym adds.states)
      (subst (λ (l : List (Option Claim)). IsKeptOf (state_at (old.tasks.states ++ state ∷ []) task) (claim_at l task))
      (sym adds.claims)
      (both_push IsKeptOf old.tasks.states old.claims state Gone None None task can.even (λ same. own)
      (λ apart. fit.kept task)));
}
  where
    fewer : FewerClaims old.tasks.states new.tasks.states
    fewer task n is =
        push_reads (λ (s : State Job). claim_of s ≡ Some n → claim_of (state_at old.tasks.states task) ≡ Some n)
        old.tasks.states state Gone task
        (λ same own_is. absurd (nothing_claims n (sym unclaimed ∙ own_is))) (λ apart is_so. is_so)
        (subst (λ (l : List (State Job)). claim_of (state_at l task) ≡ Some n) adds.states is)

pub made_claims : (owner : Option ℕ) (parent : ℕ) (made : Made) (core : Core) → CanMake owner core → ClaimsFit core
    → ClaimsFit (with_made owner parent made core)
made_claims owner parent (m.Hole place lead position waits) core can fit =
    added_claims owner (new_state waits (twin_job (length core.segments.parts) position))
    (with_child owner parent place lead core) (with_made owner parent (m.Hole place lead position waits) core)
    (hole_added owner parent place lead position waits core)
    (new_unclaimed waits (twin_job (length core.segments.parts) position))
    (new_kept waits (twin_job (length core.segments.parts) position))
    (record { even = can.even; made = can.made })
    (frame_claims core (with_child owner parent place lead core) refl refl refl fit)
made_claims owner parent (m.Boundary place path content fallback) core can fit =
    added_claims owner (Runnable (twin_job (length core.segments.parts + 1) fallback))
    (with_content owner parent place path content core)
    (with_made owner parent (m.Boundary place path content fallback) core)
    (fallback_added owner parent place path content fallback core) refl refl
    (content_can owner parent place path content core can)
    (added_claims (Some (length core.boundaries.bounds)) (Runnable (twin_job (length core.segments.parts) content))
    (bounded owner parent place path core) (with_content owner parent place path content core)
    (content_added owner parent place path content core) refl refl (bounded_can_new owner parent place path core can)
    (record { tasks = bounded_fit owner parent place path core fit.tasks; numbered = fit.numbered; kept = fit.kept }))

pub begun_claims : (owner : Option ℕ) (segment : ℕ) (work : Work) (bytes : List ℕ) (kids : ℕ) (core : Core)
    → IsLeft core work.task → ClaimsFit core → ClaimsFit (begun owner segment work bytes kids core)
begun_claims owner segment work bytes kids core left fit =
    unclaimed_fit work.task Gone None core (begun owner segment work bytes kids core)
    (begun_changes owner segment work bytes kids core left)
    (ap (λ (b : Board Job). b.claims) (counted_same owner kids (length bytes) (with_bytes work segment bytes core)).tasks)
    refl tt fit

taken_claims : (outcomes : List (Entry Outcome)) (work : Work) (bytes : List ℕ) (kids : List Kid) (found : Option Claim)
    (old new : Core) → keeps old work ≡ true → ClaimsFit old → TakesPieceIf outcomes work bytes kids found old new
    → ClaimsFit new
taken_claims outcomes work bytes kids None old new kept fit takes = absurd takes
taken_claims outcomes work bytes kids (Some claim) old new kept fit takes =
    let roomy : Core = takes.roomy in
    let room : ClaimsFit roomy = roomy_claims old roomy takes.same fit in
    let left : IsLeft roomy work.task = ap (λ (c : Core). is_gone (state_at c.tasks.states work.task)) takes.same
    ∙ work_left old work kept in
    let owner : Option ℕ = owner_of old work in
    let own : owner ≡ owner_at roomy.tasks.owners work.task =
    ap (λ (c : Core). owner_at c.tasks.owners work.task) (sym takes.same) in
    let core : Core = begun owner claim.segment work bytes (length kids) roomy in
    let started : ClaimsFit core = begun_claims owner claim.segment work bytes (length kids) roomy left room in
    let made : List Made = map (made_of outcomes core.settled) kids in
    let all : ClaimsFit (with_all_made owner claim.segment made core) =
    all_made_keeps ClaimsFit owner claim.segment (made_claims owner claim.segment) made core
    (begun_can owner claim.segment work bytes (length kids) roomy room.tasks left own) started in
    subst ClaimsFit (sym takes.taken)
    (record {
      tasks = record { owned = all.tasks.owned; places = all.tasks.places; owners = all.tasks.owners };
      numbered = all.numbered;
      kept = all.kept;
    })

pub committed_claims : (outcomes : List (Entry Outcome)) (one : Piece) (old new : Core) → ClaimsFit old
    → CommitsPiece outcomes one old new → ClaimsFit new
committed_claims outcomes (piece.Done work bytes kids) old new fit commits =
    taken_claims outcomes work bytes.items kids (claim_at old.claims work.task) old new commits.kept fit commits.committed
committed_claims outcomes (piece.Blocked work resource) old new fit commits =
    subst ClaimsFit (sym commits.committed)
    (blocked_keeps ClaimsFit outcomes work resource old (λ claim is. given_back_fit work claim old commits.kept fit)
    (λ claim is. put_off_fit work resource claim old commits.kept fit) commits.kept)
committed_claims outcomes (piece.Failed work digest) old new fit commits =
    owner_failed_keeps ClaimsFit shell_claims failed_claims (owner_of old work) digest old new fit commits.committed

-- What is reclaimed.

not_false : false ≡ true → ⊥
not_false e = cc

unclaimed_again : (state : State Job) (claim : Option Claim) → IsKeptOf state claim
    → claim_of (again_of (job_kept claim) state) ≡ None
unclaimed_again Gone None kept = refl
unclaimed_again Gone (Some claim) kept = refl
unclaimed_again (Runnable job) None kept = refl
unclaimed_again (Runnable job) (Some claim) kept = refl
unclaimed_again (Claimed n) None kept = absurd (not_false kept)
unclaimed_again (Claimed n) (Some claim) kept = refl
unclaimed_again (Waiting resource job) None kept = refl
unclaimed_again (Waiting resource job) (Some claim) kept = refl

unclaimed_kept : (state : State Job) → claim_of state ≡ None → IsKeptOf state None
unclaimed_kept Gone is = tt
unclaimed_kept (Runnable job) is = refl
unclaimed_kept (Claimed n) is = absurd (nothing_claims n (sym is))
unclaimed_kept (Waiting resource job) is = refl

-- nothing is claimed any more
reclaimed_unclaimed : (core : Core) → ClaimsFit core → (task : ℕ)
    → claim_of (state_at (with_reclaimed core).tasks.states task) ≡ None
reclaimed_unclaimed core fit task =
    reclaimed_reads (λ s. claim_of s ≡ None) core task
    (unclaimed_again (state_at core.tasks.states task) (claim_at core.claims task) (fit.kept task))

pub reclaimed_claims_fit : (core : Core) → ClaimsFit core → ClaimsFit (with_reclaimed core)
reclaimed_claims_fit core fit = record {
  tasks = same_fit core (with_reclaimed core) (reclaimed_same core) fit.tasks;
  numbered = record {
    below = λ task n is. absurd (nothing_claims n (sym (reclaimed_unclaimed core fit task) ∙ is));
    apart = λ task other n is same. absurd (nothing_claims n (sym (reclaimed_unclaimed core fit task) ∙ is));
  };
  kept = λ task. subst (IsKeptOf (state_at (with_reclaimed core).tasks.states task)) (sym (reclaimed_claims core task))
      (unclaimed_kept (state_at (with_reclaimed core).tasks.states task) (reclaimed_unclaimed core fit task));
}

-- The end, and flushes.

pub closed_claims : (tasks failed : ℕ) (old new : Core) → ClaimsFit old → Closes tasks old new failed → ClaimsFit new
closed_claims =
    closed_keeps ClaimsFit shell_claims (λ boundary digest old new made. failed_claims boundary digest old new)

appended_claims : (plan : Plan) (budget : ℕ) (old new : Core) → ClaimsFit old → AppendsFlush plan budget old new → ClaimsFit new
appended_claims plan budget old new fit flush =
    frame_claims old new (ap (λ (c : Core). c.tasks) flush.changed) (ap (λ (c : Core). c.claims) flush.changed)
    (ap (λ (b : Bounds). length b.bounds) flush.flushed.boundaries) fit

pub flushed_claims : (plan : Plan) (budget : ℕ) (old new : Core) → ClaimsFit old → FlushesState plan budget old new
    → ClaimsFit new
flushed_claims plan budget old new fit flushes =
    flushed_keeps ClaimsFit plan budget old new (appended_claims plan budget old new) fit flushes
