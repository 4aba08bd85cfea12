-- The tables of tasks go on fitting each other.
use Rattle.std.proofs.Common.{◌≡◌, ℕ, zero, suc, ◌+◌, ◌<◌, ◌≤◌, ◌==◌, Bool, true, false, cond, if◌then◌else◌, List, [], ◌∷◌, ◌++◌, length, map, slice_index_or, slice_set, Option, Some, None, inl, inr, refl, sym, ap, subst, ◌∙◌, arith}
use Rattle.std.proofs.lemmas.Bool.{cases_eq, cond-false, cond-true, eq-eqb, eqb-true, ne_eqb}
use Rattle.std.proofs.lemmas.List.{length-map, length-set}
use Rattle.std.proofs.Math.ListN.{get_or-map}
use Rattle.std.specs.Str.{bytes_eq}
use Rattle.fizz_boundary.specs.declared.boundary.Bound.{Bound}
use Rattle.fizz_boundary.specs.declared.boundary.State.{State as BoundState}
use Rattle.fizz_boundary.specs.Bounds.{Bounds, bound_at}
use Rattle.fizz_boundary.specs.Calls.{changed_at, failed_with, more, one_done}
use Rattle.fizz_segment.specs.Calls.{added, child_of}
use Rattle.fizz_task.proofs.Dropping.{at_dropped, length-dropped}
use Rattle.fizz_task.specs.declared.state.State.{State}
use Rattle.fizz_task.specs.declared.state.State.TheVariants.{Gone, Runnable, Claimed, Waiting}
use Rattle.fizz_task.specs.Board.{Board, claim_of, count_of, is_claimed, state_at}
use Rattle.fizz_task.specs.Calls.{claimed, dropped, is_owned, owner_at, same_owner, woken}
use Rattle.fizz_task.specs.Indexed.{is_gone}
use Rattle.fizz_piece.specs.declared.work.Work.{Work}
use Rattle.request_state.specs.declared.job.Claim.{Claim}
use Rattle.request_state.specs.declared.job.Job.{Job}
use Rattle.request_state.specs.Claiming.{HandsOut, claim_at, kept_of}
use Rattle.request_state.specs.declared.making.Made.{Made}
use Rattle.request_state.specs.declared.making.Made.TheVariants as m
use Rattle.request_state.specs.declared.making.Twin.{Twin}
use Rattle.request_state.specs.Committing.{counted, with_bytes}
use Rattle.request_state.specs.Core.{Core}
use Rattle.request_state.specs.Failing.{each_dropped, marked_failed, with_dropped, with_shell_failed}
use Rattle.request_state.specs.Making.{with_all_made, with_bound, with_made, with_own_segment, with_task}
use Rattle.request_state.specs.Reclaiming.{again, all_again, job_kept, nothing_kept, renumbered_if, returned_if, with_reclaimed}
use Rattle.request_state.specs.Settling.{with_settled}
use Rattle.state_laws.specs.Tasks.{IsLeft, TasksFit}
use Rattle.state_laws.proofs.Points.{both_push, inside, length-push, set_reads}

-- The same tasks, of which no more are left.
pub record SameTasks (old new : Core) : Type 0 where
  pub owners : new.tasks.owners ≡ old.tasks.owners
  pub states : length new.tasks.states ≡ length old.tasks.states
  pub claims : length new.claims ≡ length old.claims
  pub bounds : length new.boundaries.bounds ≡ length old.boundaries.bounds
  pub left : (task : ℕ) → IsLeft new task → IsLeft old task

pub same_fit : (old new : Core) → SameTasks old new → TasksFit old → TasksFit new
same_fit old new same fit = record {
  owned = ap (λ (l : List (Option ℕ)). length l) same.owners ∙ fit.owned ∙ sym same.states;
  places = λ task left. same.claims ∙ fit.places task (same.left task left) ∙ sym same.states;
  owners = λ task boundary left owner. subst (λ n. boundary < n) (sym same.bounds)
      (fit.owners task boundary (same.left task left)
      (ap (λ (l : List (Option ℕ)). owner_at l task) (sym same.owners) ∙ owner));
}

-- One task, which is left, changes its state and what is kept of it.
pub record ChangesTask (task : ℕ) (state : State Job) (claim : Option Claim) (old new : Core) : Type 0 where
  pub owners : new.tasks.owners ≡ old.tasks.owners
  pub states : new.tasks.states ≡ slice_set old.tasks.states task state
  pub claims : new.claims ≡ slice_set old.claims task claim
  pub bounds : length new.boundaries.bounds ≡ length old.boundaries.bounds
  pub left : IsLeft old task

gone_false : true ≡ false → ⊥
gone_false e = cc

pub left_inside : (core : Core) (task : ℕ) → IsLeft core task → task < length core.tasks.states
left_inside core task left =
    inside (λ (s : State Job). is_gone s ≡ false) core.tasks.states Gone task gone_false left

-- a task that is left has a place for its claim
pub place_inside : (core : Core) (task : ℕ) → TasksFit core → IsLeft core task → task < length core.claims
place_inside core task fit left = omega (arith, left_inside core task left, fit.places task left)

pub claimed_left : (state : State Job) (n : ℕ) → claim_of state ≡ Some n → is_gone state ≡ false
claimed_left Gone n is = absurd (nothing n is)
  where
    nothing : (n : ℕ) → ◌≡◌ {A = Option ℕ} None (Some n) → ⊥
    nothing n e = cc
claimed_left (Runnable job) n is = refl
claimed_left (Claimed claim) n is = refl
claimed_left (Waiting resource job) n is = refl

pub changed_same : (task : ℕ) (state : State Job) (claim : Option Claim) (old new : Core)
    → ChangesTask task state claim old new → SameTasks old new
changed_same task state claim old new change = record {
  owners = change.owners;
  states = ap (λ (l : List (State Job)). length l) change.states ∙ length-set old.tasks.states task state;
  claims = ap (λ (l : List (Option Claim)). length l) change.claims ∙ length-set old.claims task claim;
  bounds = change.bounds;
  left = λ other left. set_reads (λ (s : State Job). is_gone s ≡ false → IsLeft old other) old.tasks.states task state Gone
      other (left_inside old task change.left)
      (λ same is. subst (λ k. IsLeft old k) (sym same) change.left) (λ apart is. is)
      (subst (λ (l : List (State Job)). is_gone (state_at l other) ≡ false) change.states left);
}

pub changed_fit : (task : ℕ) (state : State Job) (claim : Option Claim) (old new : Core)
    → ChangesTask task state claim old new → TasksFit old → TasksFit new
changed_fit task state claim old new change fit =
    same_fit old new (changed_same task state claim old new change) fit

-- Settlements.

woken_if : (wakes : Bool) (resource : List ℕ) (job : Job)
    → is_gone (if wakes then Runnable job else Waiting resource job) ≡ false
woken_if true resource job = refl
woken_if false resource job = refl

pub gone-woken : (name : List ℕ) (state : State Job) → is_gone (woken name state) ≡ is_gone state
gone-woken name Gone = refl
gone-woken name (Runnable job) = refl
gone-woken name (Claimed claim) = refl
gone-woken name (Waiting resource job) = woken_if (bytes_eq name resource) resource job

pub at_woken : (name : List ℕ) (states : List (State Job)) (task : ℕ)
    → state_at (map (woken name) states) task ≡ woken name (state_at states task)
at_woken name states task = get_or-map (woken name) states task Gone

pub settled_same : (name : List ℕ) (core : Core) → SameTasks core (with_settled name core)
settled_same name core = record {
  owners = refl;
  states = length-map core.tasks.states (woken name);
  claims = refl;
  bounds = refl;
  left = λ task left. sym (ap is_gone (at_woken name core.tasks.states task) ∙ gone-woken name (state_at core.tasks.states task))
      ∙ left;
}

-- Claims.

-- a state whose first task is handed out
abbrev pub handed : (task : ℕ) → List ℕ → Job → Core → Core
handed task queue job core = record core {
  tasks = claimed task queue core.tasks;
  claims = slice_set core.claims task (Some (kept_of core job));
}

pub is_handed : (old new : Core) (work : Work) (out : HandsOut old new work)
    → new ≡ handed work.task new.tasks.queue out.job old
is_handed old new work out =
    out.changed
    ∙ ap (λ (board : Board Job). record old { tasks = board; claims = slice_set old.claims work.task (Some (kept_of old out.job)) })
    out.claimed.changed

pub handed_changes : (old new : Core) (work : Work) (out : HandsOut old new work)
    → ChangesTask work.task (Claimed old.tasks.claims) (Some (kept_of old out.job)) old
    (handed work.task new.tasks.queue out.job old)
handed_changes old new work out = record {
  owners = refl;
  states = refl;
  claims = refl;
  bounds = refl;
  left = ap is_gone out.claimed.payload;
}

-- Drops.

pub gone_or : (goes : Bool) (state : State Job) → is_gone (cond goes Gone state) ≡ false
    → (goes ≡ false) × (is_gone state ≡ false)
gone_or true state is = absurd (gone_false is)
gone_or false state is = (refl, is)

-- of the tasks that an owner's drop leaves none is its own, and each was left before
pub dropped_left : (owner : Option ℕ) (board : Board Job) (task : ℕ) → length board.owners ≡ length board.states
    → is_gone (state_at (dropped owner board).states task) ≡ false
    → (is_owned owner board.owners task ≡ false) × (is_gone (state_at board.states task) ≡ false)
dropped_left owner board task owned left =
    gone_or (is_owned owner board.owners task) (state_at board.states task)
    (sym (ap is_gone (at_dropped owner board.owners board.states task owned)) ∙ left)

not_false : false ≡ true → ⊥
not_false e = cc

pub same_self : (owner : Option ℕ) → same_owner owner owner ≡ true
same_self None = refl
same_self (Some n) = eq-eqb n n refl

pub is_same : (a b : Option ℕ) → same_owner a b ≡ true → a ≡ b
is_same None None is = refl
is_same None (Some n) is = absurd (not_false is)
is_same (Some m) None is = absurd (not_false is)
is_same (Some m) (Some n) is = ap Some (eqb-true m n is)

-- a task that isn't owned by an owner has another one
pub owner_apart : (owner : Option ℕ) (owners : List (Option ℕ)) (task : ℕ) → is_owned owner owners task ≡ false
    → owner_at owners task ≡ owner → ⊥
owner_apart owner owners task is_not is =
    gone_false (sym (ap (same_owner owner) is ∙ same_self owner) ∙ is_not)

pub dropped_same : (boundary : ℕ) (core : Core) → TasksFit core → SameTasks core (with_dropped boundary core)
dropped_same boundary core fit = record {
  owners = refl;
  states = length-dropped (Some boundary) core.tasks.owners core.tasks.states;
  claims = refl;
  bounds = refl;
  left = λ task left. (dropped_left (Some boundary) core.tasks task fit.owned left).1;
}

pub dropped_fit : (boundary : ℕ) (core : Core) → TasksFit core → TasksFit (with_dropped boundary core)
dropped_fit boundary core fit = same_fit core (with_dropped boundary core) (dropped_same boundary core fit) fit

pub length-changed_at : (change : BoundState → BoundState) (boundary : ℕ) (bounds : List Bound)
    → length (changed_at change boundary bounds) ≡ length bounds
length-changed_at change boundary bounds = by_bound (bound_at bounds boundary) refl
  where
    by_bound : (found : Option Bound) → bound_at bounds boundary ≡ found → length (changed_at change boundary bounds) ≡ length bounds
    by_bound None is = rw is refl
    by_bound (Some bound) is = rw is (length-set bounds boundary (record bound { state = change bound.state }))

-- tasks and claims as before, and as many boundaries
pub frame_same : (old new : Core) → new.tasks ≡ old.tasks → length new.claims ≡ length old.claims
    → length new.boundaries.bounds ≡ length old.boundaries.bounds → SameTasks old new
frame_same old new tasks claims bounds = record {
  owners = ap (λ (board : Board Job). board.owners) tasks;
  states = ap (λ (board : Board Job). length board.states) tasks;
  claims = claims;
  bounds = bounds;
  left = λ task left. subst (λ (board : Board Job). is_gone (state_at board.states task) ≡ false) tasks left;
}

pub marked_fit : (boundary : ℕ) (digest : List ℕ) (core : Core) → TasksFit core → TasksFit (marked_failed boundary digest core)
marked_fit boundary digest core fit =
    same_fit core (marked_failed boundary digest core)
    (frame_same core (marked_failed boundary digest core) refl refl
    (length-changed_at (failed_with digest) boundary core.boundaries.bounds)) fit

owners-each_dropped : (count from : ℕ) (board : Board Job) → (each_dropped count from board).owners ≡ board.owners
owners-each_dropped zero from board = refl
owners-each_dropped (suc count) from board = owners-each_dropped count (from + 1) (dropped (Some from) board)

length-each_dropped : (count from : ℕ) (board : Board Job) → length (each_dropped count from board).states ≡ length board.states
length-each_dropped zero from board = refl
length-each_dropped (suc count) from board =
    length-each_dropped count (from + 1) (dropped (Some from) board)
    ∙ length-dropped (Some from) board.owners board.states

-- a task that is left was left before, and none of so many boundaries owns it
pub record LeftAfter (count from : ℕ) (board : Board Job) (task : ℕ) : Type 0 where
  pub left : is_gone (state_at board.states task) ≡ false
  pub others : (boundary : ℕ) → from ≤ boundary → boundary < from + count → owner_at board.owners task ≡ Some boundary → ⊥

each_dropped_left : (count from : ℕ) (board : Board Job) (task : ℕ) → length board.owners ≡ length board.states
    → is_gone (state_at (each_dropped count from board).states task) ≡ false → LeftAfter count from board task
each_dropped_left zero from board task owned left =
    record { left = left; others = λ boundary first last owner. omega (arith, first, last) }
each_dropped_left (suc count) from board task owned left =
    let later : LeftAfter count (from + 1) (dropped (Some from) board) task =
    each_dropped_left count (from + 1) (dropped (Some from) board) task
    (owned ∙ sym (length-dropped (Some from) board.owners board.states)) left in
    let now : (is_owned (Some from) board.owners task ≡ false) × (is_gone (state_at board.states task) ≡ false) =
    dropped_left (Some from) board task owned later.left in
    record {
      left = now.1;
      others = λ boundary first last owner. elim (cases_eq boundary from) [
        | inl same ↦ owner_apart (Some from) board.owners task now.0 (owner ∙ ap Some same)
        | inr other ↦ later.others boundary (omega (arith, first, other)) (omega (arith, last)) owner
      ];
    }

-- where the shell fails no task is left
pub none_left : (digest : List ℕ) (core : Core) (task : ℕ) → TasksFit core → IsLeft (with_shell_failed digest core) task → ⊥
none_left digest core task fit left =
    let owned : length core.tasks.owners ≡ length (dropped None core.tasks).states =
    fit.owned ∙ sym (length-dropped None core.tasks.owners core.tasks.states) in
    let after : LeftAfter (length core.boundaries.bounds) 0 (dropped None core.tasks) task =
    each_dropped_left (length core.boundaries.bounds) 0 (dropped None core.tasks) task owned left in
    let now : (is_owned None core.tasks.owners task ≡ false) × IsLeft core task =
    dropped_left None core.tasks task fit.owned after.left in
    by_owner (owner_at core.tasks.owners task) refl now.0 now.1 after
  where
    by_owner : (owner : Option ℕ) → owner_at core.tasks.owners task ≡ owner → is_owned None core.tasks.owners task ≡ false
        → IsLeft core task → LeftAfter (length core.boundaries.bounds) 0 (dropped None core.tasks) task → ⊥
    by_owner None is apart stays after = owner_apart None core.tasks.owners task apart is
    by_owner (Some boundary) is apart stays after =
        after.others boundary (omega arith) (omega (arith, fit.owners task boundary stays is)) is

pub shell_failed_fit : (digest : List ℕ) (core : Core) → TasksFit core → TasksFit (with_shell_failed digest core)
shell_failed_fit digest core fit = record {
  owned = ap (λ (l : List (Option ℕ)). length l) (owners-each_dropped (length core.boundaries.bounds) 0 (dropped None core.tasks))
      ∙ fit.owned ∙ sym (length-each_dropped (length core.boundaries.bounds) 0 (dropped None core.tasks)
      ∙ length-dropped None core.tasks.owners core.tasks.states);
  places = λ task left. absurd (none_left digest core task fit left);
  owners = λ task boundary left owner. absurd (none_left digest core task fit left);
}

-- What is made.

abbrev pub new_state : Option (List ℕ) → Job → State Job
new_state None job = Runnable job
new_state (Some resource) job = Waiting resource job

pub record AddsTask (owner : Option ℕ) (state : State Job) (old new : Core) : Type 0 where
  pub owners : new.tasks.owners ≡ old.tasks.owners ++ owner ∷ []
  pub states : new.tasks.states ≡ old.tasks.states ++ state ∷ []
  pub claims : new.claims ≡ old.claims ++ None ∷ []
  pub number : new.tasks.claims ≡ old.tasks.claims
  pub bounds : new.boundaries ≡ old.boundaries

abbrev pub twin_job : ℕ → Twin → Job
twin_job segment position = record { segment = segment; given = position.given; kept = position.kept }

pub task_added : (owner : Option ℕ) (segment : ℕ) (position : Twin) (waits : Option (List ℕ)) (core : Core)
    → AddsTask owner (new_state waits (twin_job segment position)) core (with_task owner segment position waits core)
task_added owner segment position None core =
    record { owners = refl; states = refl; claims = refl; number = refl; bounds = refl }
task_added owner segment position (Some resource) core =
    record { owners = refl; states = refl; claims = refl; number = refl; bounds = refl }

-- While tasks are made there is a place for the claim of each, and the owner was made.
pub record CanMake (owner : Option ℕ) (core : Core) : Type 0 where
  pub even : length core.claims ≡ length core.tasks.states
  pub made : (boundary : ℕ) → owner ≡ Some boundary → boundary < length core.boundaries.bounds

pub added_even : (owner : Option ℕ) (state : State Job) (old new : Core) → AddsTask owner state old new
    → length old.claims ≡ length old.tasks.states → length new.claims ≡ length new.tasks.states
added_even owner state old new adds even =
    ap (λ (l : List (Option Claim)). length l) adds.claims ∙ length-push old.claims None ∙ ap (λ n. n + 1) even
    ∙ sym (ap (λ (l : List (State Job)). length l) adds.states ∙ length-push old.tasks.states state)

pub added_fit : (owner : Option ℕ) (state : State Job) (old new : Core) → AddsTask owner state old new
    → CanMake owner old → TasksFit old → TasksFit new
added_fit owner state old new adds can fit = record {
  owned = ap (λ (l : List (Option ℕ)). length l) adds.owners ∙ length-push old.tasks.owners owner ∙ ap (λ n. n + 1) fit.owned
      ∙ sym (ap (λ (l : List (State Job)). length l) adds.states ∙ length-push old.tasks.states state);
  places = λ task left. added_even owner state old new adds can.even;
  owners = λ task boundary left is.
      subst (λ (b : Bounds). boundary < length b.bounds) (sym adds.bounds)
      (both_push (λ (s : State Job) (o : Option ℕ). is_gone s ≡ false → o ≡ Some boundary → boundary < length old.boundaries.bounds)
      old.tasks.states old.tasks.owners state Gone owner None task fit.owned (λ same now own. can.made boundary own)
      (λ other. fit.owners task boundary)
      (subst (λ (l : List (State Job)). is_gone (state_at l task) ≡ false) adds.states left)
      (ap (λ (l : List (Option ℕ)). owner_at l task) (sym adds.owners) ∙ is));
}

pub added_can : (maker owner : Option ℕ) (state : State Job) (old new : Core) → AddsTask owner state old new
    → CanMake maker old → CanMake maker new
added_can maker owner state old new adds can = record {
  even = added_even owner state old new adds can.even;
  made = λ boundary is. subst (λ (b : Bounds). boundary < length b.bounds) (sym adds.bounds) (can.made boundary is);
}

-- a boundary more, with its segments, and no task yet
abbrev pub bounded : Option ℕ → (parent «at» : ℕ) → List ℕ → Core → Core
bounded owner parent place path core =
    with_own_segment owner
    (with_own_segment (Some (length core.boundaries.bounds))
    (with_bound owner parent place path core))

some_is : (m n : ℕ) → ◌≡◌ {A = Option ℕ} (Some m) (Some n) → m ≡ n
some_is m n is = cc

pub more_bounds : (owner : Option ℕ) (parent place : ℕ) (path : List ℕ) (core : Core)
    → length (bounded owner parent place path core).boundaries.bounds ≡ length core.boundaries.bounds + 1
more_bounds owner parent place path core = length-push core.boundaries.bounds _

pub bounded_fit : (owner : Option ℕ) (parent place : ℕ) (path : List ℕ) (core : Core) → TasksFit core
    → TasksFit (bounded owner parent place path core)
bounded_fit owner parent place path core fit = record {
  owned = fit.owned;
  places = fit.places;
  owners = λ task boundary left is. omega (arith, fit.owners task boundary left is, more_bounds owner parent place path core);
}

pub bounded_can : (owner : Option ℕ) (parent place : ℕ) (path : List ℕ) (core : Core) → CanMake owner core
    → CanMake owner (bounded owner parent place path core)
bounded_can owner parent place path core can = record {
  even = can.even;
  made = λ boundary is. omega (arith, can.made boundary is, more_bounds owner parent place path core);
}

pub bounded_can_new : (owner : Option ℕ) (parent place : ℕ) (path : List ℕ) (core : Core) → CanMake owner core
    → CanMake (Some (length core.boundaries.bounds)) (bounded owner parent place path core)
bounded_can_new owner parent place path core can = record {
  even = can.even;
  made = λ boundary is.
      omega (arith, some_is (length core.boundaries.bounds) boundary is, more_bounds owner parent place path core);
}

-- a boundary more, and the task of its content
abbrev pub with_content : Option ℕ → (parent «at» : ℕ) → List ℕ → Twin → Core → Core
with_content owner parent place path content core =
    with_task (Some (length core.boundaries.bounds)) (length core.segments.parts) content None
    (bounded owner parent place path core)

pub content_added : (owner : Option ℕ) (parent place : ℕ) (path : List ℕ) (content : Twin) (core : Core)
    → AddsTask (Some (length core.boundaries.bounds)) (Runnable (twin_job (length core.segments.parts) content))
    (bounded owner parent place path core) (with_content owner parent place path content core)
content_added owner parent place path content core =
    task_added (Some (length core.boundaries.bounds)) (length core.segments.parts) content None
    (bounded owner parent place path core)

pub content_can : (owner : Option ℕ) (parent place : ℕ) (path : List ℕ) (content : Twin) (core : Core) → CanMake owner core
    → CanMake owner (with_content owner parent place path content core)
content_can owner parent place path content core can =
    added_can owner (Some (length core.boundaries.bounds)) _ (bounded owner parent place path core)
    (with_content owner parent place path content core) (content_added owner parent place path content core)
    (bounded_can owner parent place path core can)

pub fallback_added : (owner : Option ℕ) (parent place : ℕ) (path : List ℕ) (content fallback : Twin) (core : Core)
    → AddsTask owner (Runnable (twin_job (length core.segments.parts + 1) fallback))
    (with_content owner parent place path content core)
    (with_made owner parent (m.Boundary place path content fallback) core)
fallback_added owner parent place path content fallback core =
    task_added owner (length core.segments.parts + 1) fallback None (with_content owner parent place path content core)

-- a segment more of an owner, and no task yet
abbrev pub with_child : Option ℕ → (parent «at» : ℕ) → Bool → Core → Core
with_child owner parent place lead core =
    with_own_segment owner
    (record core { segments = added (child_of parent place) (record { lead = lead; embedded = true }) core.segments })

pub hole_added : (owner : Option ℕ) (parent place : ℕ) (lead : Bool) (position : Twin) (waits : Option (List ℕ)) (core : Core)
    → AddsTask owner (new_state waits (twin_job (length core.segments.parts) position))
    (with_child owner parent place lead core) (with_made owner parent (m.Hole place lead position waits) core)
hole_added owner parent place lead position waits core =
    task_added owner (length core.segments.parts) position waits (with_child owner parent place lead core)

pub made_can : (owner : Option ℕ) (parent : ℕ) (made : Made) (core : Core) → CanMake owner core
    → CanMake owner (with_made owner parent made core)
made_can owner parent (m.Hole place lead position waits) core can =
    added_can owner owner _ (with_child owner parent place lead core)
    (with_made owner parent (m.Hole place lead position waits) core)
    (hole_added owner parent place lead position waits core) (record { even = can.even; made = can.made })
made_can owner parent (m.Boundary place path content fallback) core can =
    added_can owner owner _ (with_content owner parent place path content core)
    (with_made owner parent (m.Boundary place path content fallback) core)
    (fallback_added owner parent place path content fallback core) (content_can owner parent place path content core can)

pub made_fit : (owner : Option ℕ) (parent : ℕ) (made : Made) (core : Core) → CanMake owner core → TasksFit core
    → TasksFit (with_made owner parent made core)
made_fit owner parent (m.Hole place lead position waits) core can fit =
    added_fit owner _ (with_child owner parent place lead core)
    (with_made owner parent (m.Hole place lead position waits) core)
    (hole_added owner parent place lead position waits core) (record { even = can.even; made = can.made })
    (record { owned = fit.owned; places = fit.places; owners = fit.owners })
made_fit owner parent (m.Boundary place path content fallback) core can fit =
    added_fit owner _ (with_content owner parent place path content core)
    (with_made owner parent (m.Boundary place path content fallback) core)
    (fallback_added owner parent place path content fallback core) (content_can owner parent place path content core can)
    (added_fit (Some (length core.boundaries.bounds)) _ (bounded owner parent place path core)
    (with_content owner parent place path content core) (content_added owner parent place path content core)
    (bounded_can_new owner parent place path core can) (bounded_fit owner parent place path core fit))

-- a fact of all that is made follows from that of each kid
pub all_made_keeps : (Fact : Core → Type 0) (owner : Option ℕ) (parent : ℕ)
    → ((made : Made) (core : Core) → CanMake owner core → Fact core → Fact (with_made owner parent made core))
    → (all : List Made) (core : Core) → CanMake owner core → Fact core → Fact (with_all_made owner parent all core)
all_made_keeps Fact owner parent each [] core can holds = holds
all_made_keeps Fact owner parent each (made ∷ later) core can holds =
    all_made_keeps Fact owner parent each later (with_made owner parent made core) (made_can owner parent made core can)
    (each made core can holds)

-- Pieces that are done.

-- a piece is done, but for its kids
abbrev pub begun : Option ℕ → ℕ → Work → List ℕ → ℕ → Core → Core
begun owner segment work bytes kids core = counted owner kids (length bytes) (with_bytes work segment bytes core)

pub bounds-counted : (owner : Option ℕ) (kids bytes : ℕ) (core : Core)
    → length (counted owner kids bytes core).boundaries.bounds ≡ length core.boundaries.bounds
bounds-counted None kids bytes core = refl
bounds-counted (Some boundary) kids bytes core =
    length-changed_at (one_done bytes) boundary (changed_at (more kids) boundary core.boundaries.bounds)
    ∙ length-changed_at (more kids) boundary core.boundaries.bounds

-- what counting leaves alone
pub record SameBut (old new : Core) : Type 0 where
  pub tasks : new.tasks ≡ old.tasks
  pub claims : new.claims ≡ old.claims
  pub segments : new.segments ≡ old.segments
  pub own : new.own ≡ old.own
  pub bounds : length new.boundaries.bounds ≡ length old.boundaries.bounds

pub counted_same : (owner : Option ℕ) (kids bytes : ℕ) (core : Core) → SameBut core (counted owner kids bytes core)
counted_same None kids bytes core = record { tasks = refl; claims = refl; segments = refl; own = refl; bounds = refl }
counted_same (Some boundary) kids bytes core = record {
  tasks = refl;
  claims = refl;
  segments = refl;
  own = refl;
  bounds = bounds-counted (Some boundary) kids bytes core;
}

pub begun_changes : (owner : Option ℕ) (segment : ℕ) (work : Work) (bytes : List ℕ) (kids : ℕ) (core : Core)
    → IsLeft core work.task → ChangesTask work.task Gone None core (begun owner segment work bytes kids core)
begun_changes owner segment work bytes kids core left =
    let counts : SameBut (with_bytes work segment bytes core) (begun owner segment work bytes kids core) =
    counted_same owner kids (length bytes) (with_bytes work segment bytes core) in
    record {
      owners = ap (λ (board : Board Job). board.owners) counts.tasks;
      states = ap (λ (board : Board Job). board.states) counts.tasks;
      claims = counts.claims;
      bounds = counts.bounds;
      left = left;
    }

pub begun_can : (owner : Option ℕ) (segment : ℕ) (work : Work) (bytes : List ℕ) (kids : ℕ) (core : Core) → TasksFit core
    → IsLeft core work.task → owner ≡ owner_at core.tasks.owners work.task
    → CanMake owner (begun owner segment work bytes kids core)
begun_can owner segment work bytes kids core fit left own =
    let same : SameTasks core (begun owner segment work bytes kids core) =
    changed_same work.task Gone None core (begun owner segment work bytes kids core)
    (begun_changes owner segment work bytes kids core left) in
    record {
      even = same.claims ∙ fit.places work.task left ∙ sym same.states;
      made = λ boundary is.
          subst (λ n. boundary < n) (sym same.bounds) (fit.owners work.task boundary left (sym own ∙ is));
    }

pub begun_fit : (owner : Option ℕ) (segment : ℕ) (work : Work) (bytes : List ℕ) (kids : ℕ) (core : Core) → TasksFit core
    → IsLeft core work.task → TasksFit (begun owner segment work bytes kids core)
begun_fit owner segment work bytes kids core fit left =
    changed_fit work.task Gone None core (begun owner segment work bytes kids core)
    (begun_changes owner segment work bytes kids core left) fit

-- What is reclaimed.

abbrev again_if : Option ℕ → Job → State Job → State Job
again_if None job state = state
again_if (Some claim) job state = Runnable job

abbrev pub again_of : Option Job → State Job → State Job
again_of None state = state
again_of (Some job) state = again_if (claim_of state) job state

-- the job of a task, where these are those of the tasks from one on
abbrev job_in : ℕ → List (Option Job) → ℕ → Option Job
job_in from [] task = None
job_in from (job ∷ later) task = if task == from then job else job_in (from + 1) later task

job_in-below : (from : ℕ) (jobs : List (Option Job)) (task : ℕ) → task < from → job_in from jobs task ≡ None
job_in-below from [] task below = refl
job_in-below from (job ∷ later) task below =
    cond-false (task == from) job (job_in (from + 1) later task) (ne_eqb task from (λ e. omega (arith, below, e)))
    ∙ job_in-below (from + 1) later task (omega (arith, below))

job_in-at : (from : ℕ) (jobs : List (Option Job)) (task place : ℕ) → task ≡ from + place
    → job_in from jobs task ≡ slice_index_or jobs place None
job_in-at from [] task place is = refl
job_in-at from (job ∷ later) task zero is =
    cond-true (task == from) job (job_in (from + 1) later task) (eq-eqb task from (omega (arith, is)))
job_in-at from (job ∷ later) task (suc place) is =
    cond-false (task == from) job (job_in (from + 1) later task) (ne_eqb task from (λ e. omega (arith, is, e)))
    ∙ job_in-at (from + 1) later task place (omega (arith, is))

nothing_claims : (n : ℕ) → ◌≡◌ {A = Option ℕ} None (Some n) → ⊥
nothing_claims n e = cc

returned_if_reads : (fact : State Job → Type 0) (number : Option ℕ) (task : ℕ) (job : Job) (board : Board Job) (other : ℕ)
    → claim_of (state_at board.states task) ≡ number
    → (other ≡ task → fact (again_of (Some job) (state_at board.states other)))
    → ((other ≡ task → ⊥) → fact (state_at board.states other))
    → fact (state_at (returned_if number task job board).states other)
returned_if_reads fact None task job board other is own others = elim (cases_eq other task) [
  | inl same ↦ subst (λ (o : Option ℕ). fact (again_if o job (state_at board.states other)))
      (ap (λ i. claim_of (state_at board.states i)) same ∙ is) (own same)
  | inr apart ↦ others apart
]
returned_if_reads fact (Some n) task job board other is own others =
    set_reads fact board.states task (Runnable job) Gone other
    (inside (λ (s : State Job). claim_of s ≡ Some n) board.states Gone task (λ e. nothing_claims n e) is)
    (λ same. subst (λ (o : Option ℕ). fact (again_if o job (state_at board.states other)))
    (ap (λ i. claim_of (state_at board.states i)) same ∙ is) (own same)) others

again_reads : (fact : State Job → Type 0) (task : ℕ) (job : Option Job) (board : Board Job) (other : ℕ)
    → (other ≡ task → fact (again_of job (state_at board.states other)))
    → ((other ≡ task → ⊥) → fact (state_at board.states other)) → fact (state_at (again task job board).states other)
again_reads fact task None board other own others = elim (cases_eq other task) [
  | inl same ↦ own same
  | inr apart ↦ others apart
]
again_reads fact task (Some job) board other own others =
    returned_if_reads fact (claim_of (state_at board.states task)) task job board other refl own others

all_again_reads : (fact : State Job → Type 0) (from : ℕ) (jobs : List (Option Job)) (board : Board Job) (task : ℕ)
    → fact (again_of (job_in from jobs task) (state_at board.states task))
    → fact (state_at (all_again from jobs board).states task)
all_again_reads fact from [] board task holds = holds
all_again_reads fact from (job ∷ later) board task holds =
    all_again_reads fact (from + 1) later (again from job board) task
    (again_reads (λ s. fact (again_of (job_in (from + 1) later task) s)) from job board task
    (λ same. subst (λ (o : Option Job). fact (again_of o (again_of job (state_at board.states task))))
    (sym (job_in-below (from + 1) later task (omega (arith, same))))
    (subst (λ (o : Option Job). fact (again_of o (state_at board.states task)))
    (cond-true (task == from) job (job_in (from + 1) later task) (eq-eqb task from same)) holds))
    (λ apart. subst (λ (o : Option Job). fact (again_of o (state_at board.states task)))
    (cond-false (task == from) job (job_in (from + 1) later task) (ne_eqb task from apart)) holds))

states-renumbered_if : (claimed : ℕ) (board : Board Job) → (renumbered_if claimed board).states ≡ board.states
states-renumbered_if zero board = refl
states-renumbered_if (suc claimed) board = refl

owners-renumbered_if : (claimed : ℕ) (board : Board Job) → (renumbered_if claimed board).owners ≡ board.owners
owners-renumbered_if zero board = refl
owners-renumbered_if (suc claimed) board = refl

owners-returned_if : (number : Option ℕ) (task : ℕ) (job : Job) (board : Board Job)
    → (returned_if number task job board).owners ≡ board.owners
owners-returned_if None task job board = refl
owners-returned_if (Some n) task job board = refl

owners-again : (task : ℕ) (job : Option Job) (board : Board Job) → (again task job board).owners ≡ board.owners
owners-again task None board = refl
owners-again task (Some job) board = owners-returned_if (claim_of (state_at board.states task)) task job board

owners-all_again : (from : ℕ) (jobs : List (Option Job)) (board : Board Job)
    → (all_again from jobs board).owners ≡ board.owners
owners-all_again from [] board = refl
owners-all_again from (job ∷ later) board =
    owners-all_again (from + 1) later (again from job board) ∙ owners-again from job board

length-returned_if : (number : Option ℕ) (task : ℕ) (job : Job) (board : Board Job)
    → length (returned_if number task job board).states ≡ length board.states
length-returned_if None task job board = refl
length-returned_if (Some n) task job board = length-set board.states task (Runnable job)

length-again : (task : ℕ) (job : Option Job) (board : Board Job) → length (again task job board).states ≡ length board.states
length-again task None board = refl
length-again task (Some job) board = length-returned_if (claim_of (state_at board.states task)) task job board

length-all_again : (from : ℕ) (jobs : List (Option Job)) (board : Board Job)
    → length (all_again from jobs board).states ≡ length board.states
length-all_again from [] board = refl
length-all_again from (job ∷ later) board =
    length-all_again (from + 1) later (again from job board) ∙ length-again from job board

-- what a task does after all was reclaimed
pub reclaimed_reads : (fact : State Job → Type 0) (core : Core) (task : ℕ)
    → fact (again_of (job_kept (claim_at core.claims task)) (state_at core.tasks.states task))
    → fact (state_at (with_reclaimed core).tasks.states task)
reclaimed_reads fact core task holds =
    let board : Board Job = all_again 0 (map job_kept core.claims) core.tasks in
    subst (λ (l : List (State Job)). fact (state_at l task))
    (sym (states-renumbered_if (count_of is_claimed board.states) board))
    (all_again_reads fact 0 (map job_kept core.claims) core.tasks task
    (subst (λ (o : Option Job). fact (again_of o (state_at core.tasks.states task)))
    (sym (job_in-at 0 (map job_kept core.claims) task task (omega arith) ∙ get_or-map job_kept core.claims task None)) holds))

-- nothing is kept of any task
pub reclaimed_claims : (core : Core) (task : ℕ) → claim_at (with_reclaimed core).claims task ≡ None
reclaimed_claims core task = get_or-map nothing_kept core.claims task None

gone-again_if : (number : Option ℕ) (job : Job) (state : State Job) → claim_of state ≡ number
    → is_gone (again_if number job state) ≡ is_gone state
gone-again_if None job state is = refl
gone-again_if (Some n) job state is = sym (claimed_left state n is)

pub gone-again_of : (job : Option Job) (state : State Job) → is_gone (again_of job state) ≡ is_gone state
gone-again_of None state = refl
gone-again_of (Some job) state = gone-again_if (claim_of state) job state refl

-- as many are left as before
pub reclaimed_gone : (core : Core) (task : ℕ)
    → is_gone (state_at (with_reclaimed core).tasks.states task) ≡ is_gone (state_at core.tasks.states task)
reclaimed_gone core task =
    reclaimed_reads (λ s. is_gone s ≡ is_gone (state_at core.tasks.states task)) core task
    (gone-again_of (job_kept (claim_at core.claims task)) (state_at core.tasks.states task))

pub reclaimed_same : (core : Core) → SameTasks core (with_reclaimed core)
reclaimed_same core =
    let board : Board Job = all_again 0 (map job_kept core.claims) core.tasks in
    record {
      owners = owners-renumbered_if (count_of is_claimed board.states) board
          ∙ owners-all_again 0 (map job_kept core.claims) core.tasks;
      states = ap (λ (l : List (State Job)). length l) (states-renumbered_if (count_of is_claimed board.states) board)
          ∙ length-all_again 0 (map job_kept core.claims) core.tasks;
      claims = length-map core.claims nothing_kept;
      bounds = refl;
      left = λ task left. sym (reclaimed_gone core task) ∙ left;
    }
