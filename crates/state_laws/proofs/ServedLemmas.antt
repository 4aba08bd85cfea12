-- Each open segment goes on having exactly one task.
use Rattle.std.proofs.Common.{◌≡◌, ℕ, zero, suc, ◌+◌, ◌<◌, ◌≤◌, ◌⊎◌, Bool, true, false, cond, if◌then◌else◌, List, [], ◌∷◌, ◌++◌, length, map, get_or, slice_set, Option, Some, None, IsSome, inl, inr, refl, sym, ap, subst, ◌∙◌, arith}
use Rattle.std.proofs.lemmas.Bool.{cases_eq, cases_lt, cases_Bool, cond-false}
use Rattle.std.proofs.lemmas.List.{get_or_past, get_or_push, get_or-set_other, length-set}
use Rattle.std.specs.Str.{bytes_eq}
use Rattle.settle_script.specs.declared.value.Entry.{Entry}
use Rattle.settle_script.specs.declared.outcome.Outcome.{Outcome}
use Rattle.fizz_piece.specs.declared.piece.Kid.{Kid}
use Rattle.fizz_piece.specs.declared.piece.Piece.{Piece}
use Rattle.fizz_piece.specs.declared.piece.Piece.TheVariants as piece
use Rattle.fizz_piece.specs.declared.plan.Plan.{Plan}
use Rattle.fizz_piece.specs.declared.work.Work.{Work}
use Rattle.fizz_boundary.specs.Bounds.{Bounds}
use Rattle.fizz_boundary.specs.Calls.{added as boundary_added, failed_with}
use Rattle.fizz_segment.specs.declared.segment.Mark.{Mark}
use Rattle.fizz_segment.specs.declared.segment.Part.{Part}
use Rattle.fizz_segment.specs.Calls.{added, child_of, forgotten, root_of, site_of, with_bytes as part_with_bytes}
use Rattle.fizz_segment.specs.Tree.{Tree, blank, mark_at, no_flags, part_at}
use Rattle.fizz_task.proofs.Dropping.{at_dropped}
use Rattle.fizz_task.specs.declared.state.State.{State}
use Rattle.fizz_task.specs.declared.state.State.TheVariants.{Gone, Runnable, Claimed, Waiting}
use Rattle.fizz_task.specs.Board.{Board, claim_of, state_at}
use Rattle.fizz_task.specs.Calls.{is_owned, owner_at, same_owner, woken}
use Rattle.fizz_task.specs.Indexed.{is_gone}
use Rattle.flush_queues.specs.Flushed.{tables_with}
use Rattle.id_lists.proofs.Counts.{one_other, one_same, times-append}
use Rattle.id_lists.specs.Calls.{with_list}
use Rattle.id_lists.specs.Lists.{Lists, list_at, one, times}
use Rattle.request_state.specs.declared.job.Claim.{Claim}
use Rattle.request_state.specs.declared.job.Job.{Job}
use Rattle.request_state.specs.declared.making.Made.{Made}
use Rattle.request_state.specs.declared.making.Made.TheVariants as m
use Rattle.request_state.specs.declared.making.Twin.{Twin}
use Rattle.request_state.specs.Claiming.{HandsOut, claim_at, given_back, given_back_to, job_again, keeps, kept_of, owner_of}
use Rattle.request_state.specs.Closing.{Closes}
use Rattle.request_state.specs.Committing.{CommitsPiece, TakesPieceIf, kept_segment, put_off_to, queued, with_bytes}
use Rattle.request_state.specs.Core.{Core, free, new_core}
use Rattle.request_state.specs.Failing.{FailsBoundary, all_forgotten, forgotten_unless_printed, marked_failed, with_dropped, with_shell_failed}
use Rattle.request_state.specs.Flushing.{AppendsFlush, FlushesState}
use Rattle.request_state.specs.Making.{made_of, owned as with_owned, with_all_made, with_made, with_own_segment, with_task}
use Rattle.request_state.specs.Reclaiming.{job_kept, with_reclaimed}
use Rattle.request_state.specs.Settling.{Settles, with_settled}
use Rattle.state_laws.specs.Claims.{ClaimsFit, IsKeptOf}
use Rattle.state_laws.specs.Segments.{IsOpen, SegmentsFit, SegmentsServed, Serves, is_open, served_by}
use Rattle.state_laws.specs.Tasks.{IsLeft, TasksFit}
use Rattle.state_laws.proofs.Calls.{blocked_keeps, claimed_under, closed_keeps, failed_keeps, flushed_keeps, owner_failed_keeps, returned_keeps}
use Rattle.state_laws.proofs.ClaimsLemmas.{added_claims, begun_claims, claimed_claims, dropped_claims, frame_claims, given_back_fit, new_fits, made_claims, put_off_fit, reclaimed_claims_fit, roomy_claims, settled_fit, shell_claims, work_left}
use Rattle.state_laws.proofs.FlushLemmas.{AreMarks, flushed_unprinted, set_unprinted}
use Rattle.state_laws.proofs.Points.{at_push, at_set, both_push, both_set, inside, length-push, push_reads, set_reads}
use Rattle.state_laws.proofs.TasksLemmas.{AddsTask, CanMake, ChangesTask, SameBut, added_can, again_of, all_made_keeps, at_woken, begun, begun_can, begun_changes, counted_same, handed, handed_changes, hole_added, is_handed, is_same, left_inside, length-changed_at, new_state, none_left, owner_apart, place_inside, reclaimed_claims, reclaimed_reads, reclaimed_same, same_self, twin_job, with_child}

no_segment : (n : ℕ) → ◌≡◌ {A = Option ℕ} None (Some n) → ⊥
no_segment n e = cc

same_segment : (m n : ℕ) → ◌≡◌ {A = Option ℕ} (Some m) (Some n) → m ≡ n
same_segment m n e = cc

not_true : false ≡ true → ⊥
not_true e = cc

-- Tasks serve the same segments, which are open as before; no open one is printed.
record ServesSame (old new : Core) : Type 0 where
  there : (task segment : ℕ) → Serves new task segment → Serves old task segment
  back : (task segment : ℕ) → Serves old task segment → Serves new task segment
  owners : new.tasks.owners ≡ old.tasks.owners
  parts : new.segments.parts ≡ old.segments.parts
  marked : length new.segments.marks ≡ length old.segments.marks
  unprinted : (segment : ℕ) → IsOpen old segment → (mark_at new.segments.marks segment).printed ≡ false
  ids : new.own.ids ≡ old.own.ids
  lists : new.own.lists ≡ old.own.lists
  bounds : length new.boundaries.bounds ≡ length old.boundaries.bounds

same_tables : (old new : Core) → ServesSame old new → SegmentsFit old → SegmentsFit new
same_tables old new same fit =
    let many : length new.segments.parts ≡ length old.segments.parts =
    ap (λ (l : List (Option Part)). length l) same.parts in
    record {
      marked = same.marked ∙ fit.marked ∙ sym many;
      ids = same.ids ∙ fit.ids ∙ sym many;
      lists = ap (λ (l : List (List ℕ)). length l) same.lists ∙ fit.lists ∙ sym same.bounds;
      made = λ boundary segment past. ap (λ (l : List (List ℕ)). times segment (list_at l boundary)) same.lists
          ∙ fit.made boundary segment (subst (λ n. n ≤ segment) many past);
      unprinted = λ segment opened. same.unprinted segment
          (subst (λ (l : List (Option Part)). is_open (part_at l segment) ≡ true) same.parts opened);
    }

same_served : (old new : Core) → ServesSame old new → ClaimsFit new → SegmentsServed old → SegmentsServed new
same_served old new same claims served = record {
  claims = claims;
  tables = same_tables old new same served.tables;
  has_task = λ segment opened.
      let found : (task : ℕ) × Serves old task segment = served.has_task segment
      (subst (λ (l : List (Option Part)). is_open (part_at l segment) ≡ true) same.parts opened) in
      (found.0, same.back found.0 segment found.1);
  opened = λ task segment serves. subst (λ (l : List (Option Part)). is_open (part_at l segment) ≡ true) (sym same.parts)
      (served.opened task segment (same.there task segment serves));
  alone = λ task other segment one_serves two_serves. served.alone task other segment
      (same.there task segment one_serves) (same.there other segment two_serves);
  owned = λ task segment boundary serves.
      ap (λ (l : List (List ℕ)). times segment (list_at l boundary)) same.lists
      ∙ served.owned task segment boundary (same.there task segment serves)
      ∙ ap (λ (l : List (Option ℕ)). one (same_owner (owner_at l task) (Some boundary))) (sym same.owners);
}

-- the same tasks, claims and segments
frame_served : (old new : Core) → new.tasks ≡ old.tasks → new.claims ≡ old.claims → new.segments ≡ old.segments
    → new.own ≡ old.own → length new.boundaries.bounds ≡ length old.boundaries.bounds → SegmentsServed old
    → SegmentsServed new
frame_served old new tasks claims segments own bounds served =
    same_served old new (record {
      there = λ task segment serves.
          subst (λ (b : Board Job). served_by (state_at b.states task) (claim_at old.claims task) ≡ Some segment) tasks
          (subst (λ (l : List (Option Claim)). served_by (state_at new.tasks.states task) (claim_at l task) ≡ Some segment)
          claims serves);
      back = λ task segment serves.
          subst (λ (b : Board Job). served_by (state_at b.states task) (claim_at new.claims task) ≡ Some segment) (sym tasks)
          (subst (λ (l : List (Option Claim)). served_by (state_at old.tasks.states task) (claim_at l task) ≡ Some segment)
          (sym claims) serves);
      owners = ap (λ (b : Board Job). b.owners) tasks;
      parts = ap (λ (t : Tree). t.parts) segments;
      marked = ap (λ (t : Tree). length t.marks) segments;
      unprinted = λ segment opened. ap (λ (t : Tree). (mark_at t.marks segment).printed) segments
          ∙ served.tables.unprinted segment opened;
      ids = ap (λ (l : Lists). l.ids) own;
      lists = ap (λ (l : Lists). l.lists) own;
      bounds = bounds;
    }) (frame_claims old new tasks claims bounds served.claims) served

-- At first.

first_serves : (task segment : ℕ) → Serves new_core task segment → (task ≡ 0) × (segment ≡ 0)
first_serves zero segment serves = (refl, sym (same_segment 0 segment serves))
first_serves (suc task) segment serves = absurd (no_segment segment serves)

first_open : (segment : ℕ) → IsOpen new_core segment → segment ≡ 0
first_open zero opened = refl
first_open (suc segment) opened = absurd (not_true opened)

first_owner : (task : ℕ) → owner_at new_core.tasks.owners task ≡ None
first_owner zero = refl
first_owner (suc task) = refl

first_unprinted : (segment : ℕ) → (mark_at new_core.segments.marks segment).printed ≡ false
first_unprinted zero = refl
first_unprinted (suc segment) = refl

new_served : SegmentsServed new_core
new_served = record {
  claims = new_fits;
  tables = record {
    marked = refl;
    ids = refl;
    lists = refl;
    made = λ boundary segment past. refl;
    unprinted = λ segment opened. first_unprinted segment;
  };
  has_task = λ segment opened. (0, ap Some (sym (first_open segment opened)));
  opened = λ task segment serves. subst (IsOpen new_core) (sym (first_serves task segment serves).1) refl;
  alone = λ task other segment serves too. (first_serves task segment serves).0 ∙ sym (first_serves other segment too).0;
  owned = λ task segment boundary serves. ap (λ (o : Option ℕ). one (same_owner o (Some boundary))) (sym (first_owner task));
}

roomy_served : (old roomy : Core) → free roomy ≡ free old → SegmentsServed old → SegmentsServed roomy
roomy_served old roomy same served =
    same_served old roomy (record {
      there = λ task segment serves.
          subst (λ (c : Core). served_by (state_at c.tasks.states task) (claim_at c.claims task) ≡ Some segment) same serves;
      back = λ task segment serves.
          subst (λ (c : Core). served_by (state_at c.tasks.states task) (claim_at c.claims task) ≡ Some segment) (sym same) serves;
      owners = ap (λ (c : Core). c.tasks.owners) same;
      parts = ap (λ (c : Core). c.segments.parts) same;
      marked = ap (λ (c : Core). length c.segments.marks) same;
      unprinted = λ segment opened. ap (λ (c : Core). (mark_at c.segments.marks segment).printed) same
          ∙ served.tables.unprinted segment opened;
      ids = ap (λ (c : Core). c.own.ids) same;
      lists = ap (λ (c : Core). c.own.lists) same;
      bounds = ap (λ (c : Core). length c.boundaries.bounds) same;
    }) (roomy_claims old roomy same served.claims) served

pub first_segments : (core : Core) → free core ≡ new_core → SegmentsServed core
first_segments core is = roomy_served new_core core is new_served

-- Settlements.

woken_serves_if : (wakes : Bool) (resource : List ℕ) (job : Job) (claim : Option Claim)
    → served_by (if wakes then Runnable job else Waiting resource job) claim ≡ Some job.segment
woken_serves_if true resource job claim = refl
woken_serves_if false resource job claim = refl

woken_serves : (name : List ℕ) (state : State Job) (claim : Option Claim)
    → served_by (woken name state) claim ≡ served_by state claim
woken_serves name Gone claim = refl
woken_serves name (Runnable job) claim = refl
woken_serves name (Claimed n) claim = refl
woken_serves name (Waiting resource job) claim = woken_serves_if (bytes_eq name resource) resource job claim

settled_serves : (name : List ℕ) (core : Core) (task : ℕ)
    → served_by (state_at (with_settled name core).tasks.states task) (claim_at core.claims task)
    ≡ served_by (state_at core.tasks.states task) (claim_at core.claims task)
settled_serves name core task =
    ap (λ (s : State Job). served_by s (claim_at core.claims task)) (at_woken name core.tasks.states task)
    ∙ woken_serves name (state_at core.tasks.states task) (claim_at core.claims task)

settled_served : (name : List ℕ) (core : Core) → SegmentsServed core → SegmentsServed (with_settled name core)
settled_served name core served =
    same_served core (with_settled name core) (record {
      there = λ task segment serves. sym (settled_serves name core task) ∙ serves;
      back = λ task segment serves. settled_serves name core task ∙ serves;
      owners = refl;
      parts = refl;
      marked = refl;
      unprinted = served.tables.unprinted;
      ids = refl;
      lists = refl;
      bounds = refl;
    }) (settled_fit name core served.claims) served

pub settles_segments : (outcomes : List (Entry Outcome)) (old new : Core) → SegmentsServed old
    → Settles outcomes old new → SegmentsServed new
settles_segments outcomes old new served settles =
    subst SegmentsServed (sym settles.settled) (settled_served settles.name old served)

-- One task changes, and serves the same segment.

task_serves : (task : ℕ) (state : State Job) (claim : Option Claim) (old new : Core)
    → ChangesTask task state claim old new → TasksFit old → (Fact : Option ℕ → Type 0) (other : ℕ)
    → (other ≡ task → Fact (served_by state claim))
    → ((other ≡ task → ⊥) → Fact (served_by (state_at old.tasks.states other) (claim_at old.claims other)))
    → Fact (served_by (state_at new.tasks.states other) (claim_at new.claims other))
task_serves task state claim old new change fit Fact other own others =
    subst (λ (l : List (State Job)). Fact (served_by (state_at l other) (claim_at new.claims other))) (sym change.states)
    (subst (λ (l : List (Option Claim)). Fact (served_by (state_at (slice_set old.tasks.states task state) other) (claim_at l other)))
    (sym change.claims)
    (both_set (λ s c. Fact (served_by s c)) old.tasks.states old.claims task state Gone claim None other
    (left_inside old task change.left) (place_inside old task fit change.left) own others))

-- segments and lists stay
record SegmentsStay (old new : Core) : Type 0 where
  segments : new.segments ≡ old.segments
  own : new.own ≡ old.own

kept_served : (task : ℕ) (state : State Job) (claim : Option Claim) (old new : Core)
    → ChangesTask task state claim old new → SegmentsStay old new
    → served_by state claim ≡ served_by (state_at old.tasks.states task) (claim_at old.claims task)
    → ClaimsFit new → SegmentsServed old → SegmentsServed new
kept_served task state claim old new change stay same claims served =
    let equal : (other : ℕ) → served_by (state_at new.tasks.states other) (claim_at new.claims other)
    ≡ served_by (state_at old.tasks.states other) (claim_at old.claims other) = λ other.
    task_serves task state claim old new change served.claims.tasks
    (λ o. o ≡ served_by (state_at old.tasks.states other) (claim_at old.claims other)) other
    (λ is. same ∙ ap (λ i. served_by (state_at old.tasks.states i) (claim_at old.claims i)) (sym is)) (λ apart. refl) in
    same_served old new (record {
      there = λ other segment serves. sym (equal other) ∙ serves;
      back = λ other segment serves. equal other ∙ serves;
      owners = change.owners;
      parts = ap (λ (t : Tree). t.parts) stay.segments;
      marked = ap (λ (t : Tree). length t.marks) stay.segments;
      unprinted = λ segment opened. ap (λ (t : Tree). (mark_at t.marks segment).printed) stay.segments
          ∙ served.tables.unprinted segment opened;
      ids = ap (λ (l : Lists). l.ids) stay.own;
      lists = ap (λ (l : Lists). l.lists) stay.own;
      bounds = change.bounds;
    }) claims served

pub claimed_segments : (old new : Core) (work : Work) → SegmentsServed old → HandsOut old new work → SegmentsServed new
claimed_segments old new work served out =
    let next : Core = handed work.task new.tasks.queue out.job old in
    let is : new ≡ next = is_handed old new work out in
    subst SegmentsServed (sym is)
    (kept_served work.task (Claimed old.tasks.claims) (Some (kept_of old out.job)) old next
    (handed_changes old new work out) (record { segments = refl; own = refl })
    (sym (ap (λ (s : State Job). served_by s (claim_at old.claims work.task)) out.claimed.payload))
    (subst ClaimsFit is (claimed_claims old new work served.claims out)) served)

claimed_serves : (state : State Job) (n : ℕ) (claim : Option Claim) → claim_of state ≡ Some n
    → served_by state claim ≡ kept_segment claim
claimed_serves Gone n claim is = absurd (no_segment n is)
claimed_serves (Runnable job) n claim is = absurd (no_segment n is)
claimed_serves (Claimed number) n claim is = refl
claimed_serves (Waiting resource job) n claim is = absurd (no_segment n is)

-- the task of a work that is kept serves the segment that is kept of it
pub work_serves : (core : Core) (work : Work) (claim : Claim) → keeps core work ≡ true
    → claim_at core.claims work.task ≡ Some claim → Serves core work.task claim.segment
work_serves core work claim kept is =
    let found : (n : ℕ) × (claim_of (state_at core.tasks.states work.task) ≡ Some n) = claimed_under core work kept in
    claimed_serves (state_at core.tasks.states work.task) found.0 (claim_at core.claims work.task) found.1
    ∙ ap kept_segment is

given_back_served : (work : Work) (core : Core) → keeps core work ≡ true → SegmentsServed core → (claim : Claim)
    → claim_at core.claims work.task ≡ Some claim → SegmentsServed (given_back_to work (Some claim) core)
given_back_served work core kept served claim is =
    kept_served work.task (Runnable (job_again work claim)) None core (given_back_to work (Some claim) core)
    (record { owners = refl; states = refl; claims = refl; bounds = refl; left = work_left core work kept })
    (record { segments = refl; own = refl }) (sym (work_serves core work claim kept is))
    (given_back_fit work claim core kept served.claims) served

put_off_served : (work : Work) (resource : List ℕ) (core : Core) → keeps core work ≡ true → SegmentsServed core
    → (claim : Claim) → claim_at core.claims work.task ≡ Some claim
    → SegmentsServed (put_off_to work resource (Some claim) core)
put_off_served work resource core kept served claim is =
    kept_served work.task (Waiting resource (job_again work claim)) None core (put_off_to work resource (Some claim) core)
    (record { owners = refl; states = refl; claims = refl; bounds = refl; left = work_left core work kept })
    (record { segments = refl; own = refl }) (sym (work_serves core work claim kept is))
    (put_off_fit work resource claim core kept served.claims) served

pub returned_segments : (work : Work) (old : Core) → SegmentsServed old → keeps old work ≡ true
    → SegmentsServed (given_back work old)
returned_segments work old served kept =
    returned_keeps SegmentsServed work old (given_back_served work old kept served) kept

-- What is reclaimed.

again_serves : (state : State Job) (claim : Option Claim) → IsKeptOf state claim
    → served_by (again_of (job_kept claim) state) None ≡ served_by state claim
again_serves Gone None kept = refl
again_serves Gone (Some claim) kept = refl
again_serves (Runnable job) None kept = refl
again_serves (Runnable job) (Some claim) kept = refl
again_serves (Claimed n) None kept = absurd (not_true kept)
again_serves (Claimed n) (Some claim) kept = refl
again_serves (Waiting resource job) None kept = refl
again_serves (Waiting resource job) (Some claim) kept = refl

reclaimed_serves : (core : Core) → ClaimsFit core → (task : ℕ)
    → served_by (state_at (with_reclaimed core).tasks.states task) (claim_at (with_reclaimed core).claims task)
    ≡ served_by (state_at core.tasks.states task) (claim_at core.claims task)
reclaimed_serves core fit task =
    ap (served_by (state_at (with_reclaimed core).tasks.states task)) (reclaimed_claims core task)
    ∙ reclaimed_reads (λ s. served_by s None ≡ served_by (state_at core.tasks.states task) (claim_at core.claims task)) core task
    (again_serves (state_at core.tasks.states task) (claim_at core.claims task) (fit.kept task))

pub reclaimed_segments : (core : Core) → SegmentsServed core → SegmentsServed (with_reclaimed core)
reclaimed_segments core served =
    same_served core (with_reclaimed core) (record {
      there = λ task segment serves. sym (reclaimed_serves core served.claims task) ∙ serves;
      back = λ task segment serves. reclaimed_serves core served.claims task ∙ serves;
      owners = (reclaimed_same core).owners;
      parts = refl;
      marked = refl;
      unprinted = served.tables.unprinted;
      ids = refl;
      lists = refl;
      bounds = refl;
    }) (reclaimed_claims_fit core served.claims) served

-- Failures.

-- the default is written
module _ {X : Type 0} where
  pub default_at : (xs : List X) (k : ℕ) (d : X) (j : ℕ) → j ≡ k → get_or (slice_set xs k d) j d ≡ d
  default_at xs k d j same = elim (cases_lt k (length xs)) [
    | inl within ↦ at_set xs k d d j within same
    | inr past ↦ get_or_past (slice_set xs k d) j d (omega (arith, past, same, length-set xs k d))
  ]

-- one segment is forgotten, or it is printed
abbrev pub forgotten_if : Bool → ℕ → Tree → Tree
forgotten_if b s tree = if b then tree else forgotten s tree

marks-forgotten_if : (b : Bool) (s : ℕ) (tree : Tree) → (forgotten_if b s tree).marks ≡ tree.marks
marks-forgotten_if true s tree = refl
marks-forgotten_if false s tree = refl

length-forgotten_if : (b : Bool) (s : ℕ) (tree : Tree) → length (forgotten_if b s tree).parts ≡ length tree.parts
length-forgotten_if true s tree = refl
length-forgotten_if false s tree = length-set tree.parts s None

other-forgotten_if : (b : Bool) (s other : ℕ) (tree : Tree) → (other ≡ s → ⊥)
    → part_at (forgotten_if b s tree).parts other ≡ part_at tree.parts other
other-forgotten_if true s other tree apart = refl
other-forgotten_if false s other tree apart = get_or-set_other tree.parts s other None None apart

-- what is open afterwards was open before, and isn't the one that is forgotten
open-forgotten_if : (b : Bool) (s other : ℕ) (tree : Tree) → (mark_at tree.marks s).printed ≡ b
    → is_open (part_at (forgotten_if b s tree).parts other) ≡ true
    → (is_open (part_at tree.parts other) ≡ true) × ((mark_at tree.marks other).printed ≡ false → other ≡ s → ⊥)
open-forgotten_if true s other tree is opened = (
  opened,
  λ unprinted same. not_true (sym unprinted ∙ ap (λ n. (mark_at tree.marks n).printed) same ∙ is),
)
open-forgotten_if false s other tree is opened = elim (cases_eq other s) [
  | inl same ↦ absurd (not_true (sym (ap is_open (default_at tree.parts s None other same)) ∙ opened))
  | inr apart ↦ (sym (ap is_open (get_or-set_other tree.parts s other None None apart)) ∙ opened, λ unprinted same. apart same)
]

marks-all_forgotten : (list : List ℕ) (tree : Tree) → (all_forgotten list tree).marks ≡ tree.marks
marks-all_forgotten [] tree = refl
marks-all_forgotten (s ∷ later) tree =
    marks-all_forgotten later (forgotten_unless_printed s tree)
    ∙ marks-forgotten_if (mark_at tree.marks s).printed s tree

pub length-all_forgotten : (list : List ℕ) (tree : Tree) → length (all_forgotten list tree).parts ≡ length tree.parts
length-all_forgotten [] tree = refl
length-all_forgotten (s ∷ later) tree =
    length-all_forgotten later (forgotten_unless_printed s tree)
    ∙ length-forgotten_if (mark_at tree.marks s).printed s tree

-- a segment that isn't listed stays
other-all_forgotten : (list : List ℕ) (tree : Tree) (other : ℕ) → times other list ≡ 0
    → part_at (all_forgotten list tree).parts other ≡ part_at tree.parts other
other-all_forgotten [] tree other absent = refl
other-all_forgotten (s ∷ later) tree other absent =
    other-all_forgotten later (forgotten_unless_printed s tree) other (omega arith)
    ∙ other-forgotten_if (mark_at tree.marks s).printed s other tree (λ same. omega (arith, absent, one_same other s same))

-- what is open afterwards was open before, and isn't listed unless it is printed
open-all_forgotten : (list : List ℕ) (tree : Tree) (other : ℕ) → is_open (part_at (all_forgotten list tree).parts other) ≡ true
    → (is_open (part_at tree.parts other) ≡ true) × ((mark_at tree.marks other).printed ≡ false → times other list ≡ 0)
open-all_forgotten [] tree other opened = (opened, λ unprinted. refl)
open-all_forgotten (s ∷ later) tree other opened =
    let next : Tree = forgotten_unless_printed s tree in
    let marks : next.marks ≡ tree.marks = marks-forgotten_if (mark_at tree.marks s).printed s tree in
    let after : (is_open (part_at next.parts other) ≡ true) × ((mark_at next.marks other).printed ≡ false → times other later ≡ 0) =
    open-all_forgotten later next other opened in
    let now : (is_open (part_at tree.parts other) ≡ true) × ((mark_at tree.marks other).printed ≡ false → other ≡ s → ⊥) =
    open-forgotten_if (mark_at tree.marks s).printed s other tree refl after.0 in (
      now.0,
      λ unprinted. omega (
        arith,
        one_other other s (now.1 unprinted),
        after.1 (ap (λ (l : List Mark). (mark_at l other).printed) marks ∙ unprinted),
      ),
    )

drop_serves : (goes : Bool) (state : State Job) (claim : Option Claim) (segment : ℕ)
    → served_by (cond goes Gone state) claim ≡ Some segment → (goes ≡ false) × (served_by state claim ≡ Some segment)
drop_serves true state claim segment serves = absurd (no_segment segment serves)
drop_serves false state claim segment serves = (refl, serves)

-- who isn't the owner
other_owner : (owner boundary : Option ℕ) → (owner ≡ boundary → ⊥) → same_owner owner boundary ≡ false
other_owner owner boundary apart = elim (cases_Bool (same_owner owner boundary)) [
  | inl same ↦ absurd (apart (is_same owner boundary same))
  | inr other ↦ other
]

module _ (boundary : ℕ) (core : Core) (served : SegmentsServed core) where
  abbrev goes : ℕ → Bool
  goes task = is_owned (Some boundary) core.tasks.owners task

  drop_there : (task segment : ℕ) → Serves (with_dropped boundary core) task segment
      → (goes task ≡ false) × Serves core task segment
  drop_there task segment serves =
      drop_serves (goes task) (state_at core.tasks.states task) (claim_at core.claims task) segment
      (sym (ap (λ (s : State Job). served_by s (claim_at core.claims task))
      (at_dropped (Some boundary) core.tasks.owners core.tasks.states task served.claims.tasks.owned)) ∙ serves)

  drop_back : (task segment : ℕ) → goes task ≡ false → Serves core task segment
      → Serves (with_dropped boundary core) task segment
  drop_back task segment stays serves =
      ap (λ (s : State Job). served_by s (claim_at core.claims task))
      (at_dropped (Some boundary) core.tasks.owners core.tasks.states task served.claims.tasks.owned
      ∙ cond-false (goes task) Gone (state_at core.tasks.states task) stays) ∙ serves

  -- what a task serves that stays isn't in the boundary's list
  drop_absent : (task segment : ℕ) → goes task ≡ false → Serves core task segment
      → times segment (list_at core.own.lists boundary) ≡ 0
  drop_absent task segment stays serves =
      served.owned task segment boundary serves
      ∙ ap one (other_owner (owner_at core.tasks.owners task) (Some boundary)
      (owner_apart (Some boundary) core.tasks.owners task stays))

  drop_stays : (task segment : ℕ) → Serves core task segment → times segment (list_at core.own.lists boundary) ≡ 0
      → goes task ≡ false
  drop_stays task segment serves absent = elim (cases_Bool (goes task)) [
    | inl gone ↦ absurd (omega (
      arith,
      absent,
      served.owned task segment boundary serves,
      ap one (ap (λ (o : Option ℕ). same_owner o (Some boundary))
          (sym (is_same (Some boundary) (owner_at core.tasks.owners task) gone)) ∙ same_self (Some boundary)),
    ))
    | inr stays ↦ stays
  ]

  drop_tables : SegmentsFit (with_dropped boundary core)
  drop_tables =
      let list : List ℕ = list_at core.own.lists boundary in
      let many : length (all_forgotten list core.segments).parts ≡ length core.segments.parts =
      length-all_forgotten list core.segments in
      let marks : (all_forgotten list core.segments).marks ≡ core.segments.marks = marks-all_forgotten list core.segments in
      record {
        marked = ap (λ (l : List Mark). length l) marks ∙ served.tables.marked ∙ sym many;
        ids = served.tables.ids ∙ sym many;
        lists = length-set core.own.lists boundary [] ∙ served.tables.lists;
        made = λ other segment past. elim (cases_eq other boundary) [
          | inl same ↦ ap (times segment) (default_at core.own.lists boundary [] other same)
          | inr apart ↦ ap (times segment) (get_or-set_other core.own.lists boundary other [] [] apart)
              ∙ served.tables.made other segment (subst (λ n. n ≤ segment) many past)
        ];
        unprinted = λ segment opened. ap (λ (l : List Mark). (mark_at l segment).printed) marks
            ∙ served.tables.unprinted segment (open-all_forgotten list core.segments segment opened).0;
      }

  dropped_served : SegmentsServed (with_dropped boundary core)
  dropped_served = record {
    claims = dropped_claims boundary core served.claims;
    tables = drop_tables;
    has_task = λ segment opened.
        let before : IsOpen core segment × ((mark_at core.segments.marks segment).printed ≡ false
        → times segment (list_at core.own.lists boundary) ≡ 0) =
        open-all_forgotten (list_at core.own.lists boundary) core.segments segment opened in
        let found : (task : ℕ) × Serves core task segment = served.has_task segment before.0 in (
          found.0,
          drop_back found.0 segment (drop_stays found.0 segment found.1
              (before.1 (served.tables.unprinted segment before.0))) found.1,
        );
    opened = λ task segment serves.
        let before : (goes task ≡ false) × Serves core task segment = drop_there task segment serves in
        ap is_open (other-all_forgotten (list_at core.own.lists boundary) core.segments segment
        (drop_absent task segment before.0 before.1)) ∙ served.opened task segment before.1;
    alone = λ task other segment serves too. served.alone task other segment (drop_there task segment serves).1
        (drop_there other segment too).1;
    owned = λ task segment other serves.
        let before : (goes task ≡ false) × Serves core task segment = drop_there task segment serves in
        elim (cases_eq other boundary) [
          | inl same ↦ ap (times segment) (default_at core.own.lists boundary [] other same)
              ∙ sym (ap one (other_owner (owner_at core.tasks.owners task) (Some other)
              (λ is. owner_apart (Some boundary) core.tasks.owners task before.0 (is ∙ ap Some same))))
          | inr apart ↦ ap (times segment) (get_or-set_other core.own.lists boundary other [] [] apart)
              ∙ served.owned task segment other before.1
        ];
  }

marked_served : (boundary : ℕ) (digest : List ℕ) (core : Core) → SegmentsServed core
    → SegmentsServed (marked_failed boundary digest core)
marked_served boundary digest core served =
    frame_served core (marked_failed boundary digest core) refl refl refl refl
    (length-changed_at (failed_with digest) boundary core.boundaries.bounds) served

failed_segments : (boundary : ℕ) (digest : List ℕ) (old new : Core) → SegmentsServed old
    → FailsBoundary boundary digest old new → SegmentsServed new
failed_segments = failed_keeps SegmentsServed dropped_served marked_served

served_left : (state : State Job) (claim : Option Claim) (segment : ℕ) → served_by state claim ≡ Some segment
    → is_gone state ≡ false
served_left Gone claim segment serves = absurd (no_segment segment serves)
served_left (Runnable job) claim segment serves = refl
served_left (Claimed n) claim segment serves = refl
served_left (Waiting resource job) claim segment serves = refl

shell_serves : (digest : List ℕ) (core : Core) → TasksFit core → (task segment : ℕ)
    → Serves (with_shell_failed digest core) task segment → ⊥
shell_serves digest core fit task segment serves =
    none_left digest core task fit
    (served_left (state_at (with_shell_failed digest core).tasks.states task)
    (claim_at (with_shell_failed digest core).claims task) segment serves)

shell_served : (digest : List ℕ) (core : Core) → SegmentsServed core → SegmentsServed (with_shell_failed digest core)
shell_served digest core served = record {
  claims = shell_claims digest core served.claims;
  tables = record {
    marked = refl;
    ids = refl;
    lists = refl;
    made = λ boundary segment past. refl;
    unprinted = λ segment opened. refl;
  };
  has_task = λ segment opened. absurd (not_true opened);
  opened = λ task segment serves. absurd (shell_serves digest core served.claims.tasks task segment serves);
  alone = λ task other segment serves too. absurd (shell_serves digest core served.claims.tasks task segment serves);
  owned = λ task segment boundary serves. absurd (shell_serves digest core served.claims.tasks task segment serves);
}

-- What is made.

length-owned : (owner : Option ℕ) (own : Lists) → length (with_owned owner own).lists ≡ length own.lists
length-owned None own = refl
length-owned (Some boundary) own = length-set own.lists boundary (list_at own.lists boundary ++ own.ids ∷ [])

ids-owned : (owner : Option ℕ) (own : Lists) → (with_owned owner own).ids ≡ own.ids + 1
ids-owned None own = refl
ids-owned (Some boundary) own = refl

-- the lists of all other segments stay
other-owned : (owner : Option ℕ) (own : Lists) (segment boundary : ℕ)
    → ((n : ℕ) → owner ≡ Some n → n < length own.lists) → (segment ≡ own.ids → ⊥)
    → times segment (list_at (with_owned owner own).lists boundary) ≡ times segment (list_at own.lists boundary)
other-owned None own segment boundary within apart = refl
other-owned (Some n) own segment boundary within apart =
    set_reads (λ (l : List ℕ). times segment l ≡ times segment (list_at own.lists boundary)) own.lists n
    (list_at own.lists n ++ own.ids ∷ []) [] boundary (within n refl)
    (λ same. subst (λ i. times segment (list_at own.lists n ++ own.ids ∷ []) ≡ times segment (list_at own.lists i)) (sym same)
    (omega (arith, times-append segment (list_at own.lists n) (own.ids ∷ []), one_other segment own.ids apart)))
    (λ other. refl)

-- the new one stands once in the list of its owner
new-owned : (owner : Option ℕ) (own : Lists) (boundary : ℕ)
    → ((n : ℕ) → owner ≡ Some n → n < length own.lists)
    → ((n : ℕ) → times own.ids (list_at own.lists n) ≡ 0)
    → times own.ids (list_at (with_owned owner own).lists boundary) ≡ one (same_owner owner (Some boundary))
new-owned None own boundary within absent = absent boundary
new-owned (Some n) own boundary within absent =
    set_reads (λ (l : List ℕ). times own.ids l ≡ one (same_owner (Some n) (Some boundary))) own.lists n
    (list_at own.lists n ++ own.ids ∷ []) [] boundary (within n refl)
    (λ same. omega (
      arith,
      times-append own.ids (list_at own.lists n) (own.ids ∷ []),
      one_same own.ids own.ids refl,
      absent n,
      ap one (ap (λ i. same_owner (Some n) (Some i)) same ∙ same_self (Some n)),
    ))
    (λ other. absent boundary ∙ sym (ap one (other_owner (Some n) (Some boundary)
    (λ is. other (sym (same_segment n boundary is))))))

-- An open segment more, with its task; both are this owner's.
record AddsSegment (owner : Option ℕ) (part : Part) (mark : Mark) (state : State Job) (old new : Core) : Type 0 where
  tasks : AddsTask owner state old new
  serves : served_by state None ≡ Some (length old.segments.parts)
  parts : new.segments.parts ≡ old.segments.parts ++ Some part ∷ []
  opened : is_open (Some part) ≡ true
  marks : new.segments.marks ≡ old.segments.marks ++ mark ∷ []
  unprinted : mark.printed ≡ false
  ids : new.own.ids ≡ old.own.ids + 1
  lists : new.own.lists ≡ (with_owned owner old.own).lists

module _ (owner : Option ℕ) (part : Part) (mark : Mark) (state : State Job) (old new : Core)
    (adds : AddsSegment owner part mark state old new) (can : CanMake owner old) (served : SegmentsServed old) where
  add_reads : (Fact : Option ℕ → Type 0) (task : ℕ) → (task ≡ length old.tasks.states → Fact (served_by state None))
      → ((task ≡ length old.tasks.states → ⊥) → Fact (served_by (state_at old.tasks.states task) (claim_at old.claims task)))
      → Fact (served_by (state_at new.tasks.states task) (claim_at new.claims task))
  add_reads Fact task own others =
      subst (λ (l : List (State Job)). Fact (served_by (state_at l task) (claim_at new.claims task))) (sym adds.tasks.states)
      (subst (λ (l : List (Option Claim)). Fact (served_by (state_at (old.tasks.states ++ state ∷ []) task) (claim_at l task)))
      (sym adds.tasks.claims)
      (both_push (λ s c. Fact (served_by s c)) old.tasks.states old.claims state Gone None None task can.even own others))

  -- a task that serves a segment is the new one, which serves the new one, or it did so before
  add_there : (task segment : ℕ) → Serves new task segment
      → ((task ≡ length old.tasks.states) × (segment ≡ length old.segments.parts))
      ⊎ ((task ≡ length old.tasks.states → ⊥) × Serves old task segment)
  add_there task segment =
      add_reads (λ o. o ≡ Some segment → ((task ≡ length old.tasks.states) × (segment ≡ length old.segments.parts))
      ⊎ ((task ≡ length old.tasks.states → ⊥) × Serves old task segment)) task
      (λ same is. inl (same, sym (same_segment (length old.segments.parts) segment (sym adds.serves ∙ is))))
      (λ apart is. inr (apart, is))

  old_task : (task segment : ℕ) → Serves old task segment → task ≡ length old.tasks.states → ⊥
  old_task task segment serves same =
      omega (
        arith,
        same,
        left_inside old task
            (served_left (state_at old.tasks.states task) (claim_at old.claims task) segment serves),
      )

  add_back : (task segment : ℕ) → Serves old task segment → Serves new task segment
  add_back task segment serves =
      add_reads (λ o. o ≡ Some segment) task (λ same. absurd (old_task task segment serves same)) (λ apart. serves)

  old_segment : (segment : ℕ) → IsOpen old segment → segment < length old.segments.parts
  old_segment segment opened = inside (λ p. is_open p ≡ true) old.segments.parts None segment not_true opened

  within : (n : ℕ) → owner ≡ Some n → n < length old.own.lists
  within n is = omega (arith, can.made n is, served.tables.lists)

  open_there : (segment : ℕ) → (segment ≡ length old.segments.parts → ⊥) → IsOpen new segment → IsOpen old segment
  open_there segment apart opened =
      sym (ap (λ (l : List (Option Part)). is_open (part_at l segment)) adds.parts
      ∙ ap is_open (at_push old.segments.parts (Some part) None segment apart)) ∙ opened

  open_back : (segment : ℕ) → IsOpen old segment → IsOpen new segment
  open_back segment opened =
      ap (λ (l : List (Option Part)). is_open (part_at l segment)) adds.parts
      ∙ ap is_open (at_push old.segments.parts (Some part) None segment
      (λ same. omega (arith, same, old_segment segment opened))) ∙ opened

  open_new : (segment : ℕ) → segment ≡ length old.segments.parts → IsOpen new segment
  open_new segment same =
      ap (λ (l : List (Option Part)). is_open (part_at l segment)) adds.parts
      ∙ ap is_open (get_or_push old.segments.parts (Some part) None segment (sym same)) ∙ adds.opened

  add_tables : SegmentsFit new
  add_tables =
      let many : length new.segments.parts ≡ length old.segments.parts + 1 =
      ap (λ (l : List (Option Part)). length l) adds.parts ∙ length-push old.segments.parts (Some part) in
      record {
        marked = ap (λ (l : List Mark). length l) adds.marks ∙ length-push old.segments.marks mark
            ∙ ap (λ n. n + 1) served.tables.marked ∙ sym many;
        ids = adds.ids ∙ ap (λ n. n + 1) served.tables.ids ∙ sym many;
        lists = ap (λ (l : List (List ℕ)). length l) adds.lists ∙ length-owned owner old.own ∙ served.tables.lists
            ∙ ap (λ (b : Bounds). length b.bounds) (sym adds.tasks.bounds);
        made = λ boundary segment past.
            ap (λ (l : List (List ℕ)). times segment (list_at l boundary)) adds.lists
            ∙ other-owned owner old.own segment boundary within (λ same. omega (arith, past, many, same, served.tables.ids))
            ∙ served.tables.made boundary segment (omega (arith, past, many));
        unprinted = λ segment opened.
            ap (λ (l : List Mark). (mark_at l segment).printed) adds.marks
            ∙ push_reads (λ (k : Mark). k.printed ≡ false) old.segments.marks mark blank segment (λ same. adds.unprinted)
            (λ apart. served.tables.unprinted segment
            (open_there segment (λ same. apart (same ∙ sym served.tables.marked)) opened));
      }

  new_absent : (boundary : ℕ) → times old.own.ids (list_at old.own.lists boundary) ≡ 0
  new_absent boundary = served.tables.made boundary old.own.ids (omega (arith, served.tables.ids))

  add_owned : (task segment boundary : ℕ) → Serves new task segment → times segment (list_at new.own.lists boundary)
      ≡ one (same_owner (owner_at new.tasks.owners task) (Some boundary))
  add_owned task segment boundary serves = elim (add_there task segment serves) [
    | inl p ↦ ap (λ (l : List (List ℕ)). times segment (list_at l boundary)) adds.lists
        ∙ ap (λ i. times i (list_at (with_owned owner old.own).lists boundary)) (p.1 ∙ sym served.tables.ids)
        ∙ new-owned owner old.own boundary within new_absent
        ∙ ap (λ (o : Option ℕ). one (same_owner o (Some boundary)))
        (sym (ap (λ (l : List (Option ℕ)). owner_at l task) adds.tasks.owners
        ∙ get_or_push old.tasks.owners owner None task (served.claims.tasks.owned ∙ sym p.0)))
    | inr p ↦ ap (λ (l : List (List ℕ)). times segment (list_at l boundary)) adds.lists
        ∙ other-owned owner old.own segment boundary within
        (λ same. omega (arith, same, served.tables.ids, old_segment segment (served.opened task segment p.1)))
        ∙ served.owned task segment boundary p.1
        ∙ ap (λ (o : Option ℕ). one (same_owner o (Some boundary)))
        (sym (ap (λ (l : List (Option ℕ)). owner_at l task) adds.tasks.owners
        ∙ at_push old.tasks.owners owner None task (λ same. p.0 (same ∙ served.claims.tasks.owned))))
  ]

  apart_segments : (task segment : ℕ) → Serves old task segment → segment ≡ length old.segments.parts → ⊥
  apart_segments task segment serves same =
      omega (arith, same, old_segment segment (served.opened task segment serves))

  add_alone : (task other segment : ℕ) → Serves new task segment → Serves new other segment → task ≡ other
  add_alone task other segment serves too = elim (add_there task segment serves) [
    | inl p ↦ elim (add_there other segment too) [
      | inl q ↦ p.0 ∙ sym q.0
      | inr q ↦ absurd (apart_segments other segment q.1 p.1)
    ]
    | inr p ↦ elim (add_there other segment too) [
      | inl q ↦ absurd (apart_segments task segment p.1 q.1)
      | inr q ↦ served.alone task other segment p.1 q.1
    ]
  ]

  add_has_task : (segment : ℕ) → IsOpen new segment → (task : ℕ) × Serves new task segment
  add_has_task segment opened = elim (cases_eq segment (length old.segments.parts)) [
    | inl same ↦ (
      length old.tasks.states,
      add_reads (λ o. o ≡ Some segment) (length old.tasks.states)
          (λ is. adds.serves ∙ ap Some (sym same)) (λ apart. absurd (apart refl)),
    )
    | inr apart ↦
        let found : (task : ℕ) × Serves old task segment = served.has_task segment (open_there segment apart opened) in
        (found.0, add_back found.0 segment found.1)
  ]

  added_served : ClaimsFit new → SegmentsServed new
  added_served claims = record {
    claims = claims;
    tables = add_tables;
    has_task = add_has_task;
    opened = λ task segment serves. elim (add_there task segment serves) [
      | inl p ↦ open_new segment p.1
      | inr p ↦ open_back segment (served.opened task segment p.1)
    ];
    alone = add_alone;
    owned = add_owned;
  }

-- a boundary more, with an empty list of segments
abbrev enlarged : Option ℕ → List ℕ → Core → Core
enlarged owner path core = record core {
  boundaries = boundary_added path owner (length core.segments.parts) (Some (length core.segments.parts + 1)) core.boundaries;
  own = with_list core.own;
}

list_at-more : (lists : List (List ℕ)) (boundary : ℕ) → list_at (lists ++ [] ∷ []) boundary ≡ list_at lists boundary
list_at-more lists boundary =
    push_reads (λ (l : List ℕ). l ≡ list_at lists boundary) lists [] [] boundary
    (λ same. sym (get_or_past lists boundary [] (omega (arith, same)))) (λ apart. refl)

enlarged_more : (owner : Option ℕ) (path : List ℕ) (core : Core)
    → length (enlarged owner path core).boundaries.bounds ≡ length core.boundaries.bounds + 1
enlarged_more owner path core = length-push core.boundaries.bounds _

enlarged_claims : (owner : Option ℕ) (path : List ℕ) (core : Core) → ClaimsFit core → ClaimsFit (enlarged owner path core)
enlarged_claims owner path core fit = record {
  tasks = record {
    owned = fit.tasks.owned;
    places = fit.tasks.places;
    owners = λ task boundary left is. omega (
      arith,
      fit.tasks.owners task boundary left is,
      enlarged_more owner path core,
    );
  };
  numbered = fit.numbered;
  kept = fit.kept;
}

enlarged_served : (owner : Option ℕ) (path : List ℕ) (core : Core) → SegmentsServed core
    → SegmentsServed (enlarged owner path core)
enlarged_served owner path core served = record {
  claims = enlarged_claims owner path core served.claims;
  tables = record {
    marked = served.tables.marked;
    ids = served.tables.ids;
    lists = length-push core.own.lists [] ∙ ap (λ n. n + 1) served.tables.lists ∙ sym (length-push core.boundaries.bounds _);
    made = λ boundary segment past. ap (times segment) (list_at-more core.own.lists boundary)
        ∙ served.tables.made boundary segment past;
    unprinted = served.tables.unprinted;
  };
  has_task = served.has_task;
  opened = served.opened;
  alone = served.alone;
  owned = λ task segment boundary serves. ap (times segment) (list_at-more core.own.lists boundary)
      ∙ served.owned task segment boundary serves;
}

-- a boundary more, with the segment and the task of its content
abbrev with_root : Option ℕ → List ℕ → Twin → Core → Core
with_root owner path content core =
    with_task (Some (length core.boundaries.bounds)) (length core.segments.parts) content None
    (with_own_segment (Some (length core.boundaries.bounds))
    (record (enlarged owner path core) {
      segments = added (root_of (Some (length core.boundaries.bounds))) no_flags core.segments;
    }))

root_added : (owner : Option ℕ) (path : List ℕ) (content : Twin) (core : Core)
    → AddsSegment (Some (length core.boundaries.bounds)) (root_of (Some (length core.boundaries.bounds))) blank
    (Runnable (twin_job (length core.segments.parts) content)) (enlarged owner path core) (with_root owner path content core)
root_added owner path content core = record {
  tasks = record { owners = refl; states = refl; claims = refl; number = refl; bounds = refl };
  serves = refl;
  parts = refl;
  opened = refl;
  marks = refl;
  unprinted = refl;
  ids = refl;
  lists = refl;
}

site_added : (owner : Option ℕ) (parent place : ℕ) (path : List ℕ) (content fallback : Twin) (core : Core)
    → AddsSegment owner (site_of parent place (length core.boundaries.bounds)) blank
    (Runnable (twin_job (length core.segments.parts + 1) fallback)) (with_root owner path content core)
    (with_made owner parent (m.Boundary place path content fallback) core)
site_added owner parent place path content fallback core = record {
  tasks = record { owners = refl; states = refl; claims = refl; number = refl; bounds = refl };
  serves = ap Some (sym (length-push core.segments.parts (Some (root_of (Some (length core.boundaries.bounds))))));
  parts = refl;
  opened = refl;
  marks = refl;
  unprinted = refl;
  ids = ids-owned owner (with_root owner path content core).own;
  lists = refl;
}

enlarged_can : (owner : Option ℕ) (path : List ℕ) (core : Core) → CanMake owner core → CanMake owner (enlarged owner path core)
enlarged_can owner path core can = record {
  even = can.even;
  made = λ boundary is. omega (arith, can.made boundary is, enlarged_more owner path core);
}

enlarged_can_new : (owner : Option ℕ) (path : List ℕ) (core : Core) → CanMake owner core
    → CanMake (Some (length core.boundaries.bounds)) (enlarged owner path core)
enlarged_can_new owner path core can = record {
  even = can.even;
  made = λ boundary is. omega (
    arith,
    same_segment (length core.boundaries.bounds) boundary is,
    enlarged_more owner path core,
  );
}

root_served : (owner : Option ℕ) (path : List ℕ) (content : Twin) (core : Core) → CanMake owner core → SegmentsServed core
    → SegmentsServed (with_root owner path content core)
root_served owner path content core can served =
    let n : ℕ = length core.boundaries.bounds in
    let state : State Job = Runnable (twin_job (length core.segments.parts) content) in
    let first : Core = enlarged owner path core in
    let next : Core = with_root owner path content core in
    let adds : AddsSegment (Some n) (root_of (Some n)) blank state first next = root_added owner path content core in
    let start : SegmentsServed first = enlarged_served owner path core served in
    let can_new : CanMake (Some n) first = enlarged_can_new owner path core can in
    added_served (Some n) (root_of (Some n)) blank state first next adds can_new start
    (added_claims (Some n) state first next adds.tasks refl refl can_new start.claims)

hole_new_serves : (segment : ℕ) (position : Twin) (waits : Option (List ℕ))
    → served_by (new_state waits (twin_job segment position)) None ≡ Some segment
hole_new_serves segment position None = refl
hole_new_serves segment position (Some resource) = refl

abbrev child_mark : Bool → Mark
child_mark lead = record { flags = record { lead = lead; embedded = true }; drawn = None; printed = false }

hole_adds : (owner : Option ℕ) (parent place : ℕ) (lead : Bool) (position : Twin) (waits : Option (List ℕ)) (core : Core)
    → AddsSegment owner (child_of parent place) (child_mark lead)
    (new_state waits (twin_job (length core.segments.parts) position)) core
    (with_made owner parent (m.Hole place lead position waits) core)
hole_adds owner parent place lead position waits core =
    let more : AddsTask owner (new_state waits (twin_job (length core.segments.parts) position))
    (with_child owner parent place lead core) (with_made owner parent (m.Hole place lead position waits) core) =
    hole_added owner parent place lead position waits core in
    record {
      tasks = record {
        owners = more.owners;
        states = more.states;
        claims = more.claims;
        number = more.number;
        bounds = more.bounds;
      };
      serves = hole_new_serves (length core.segments.parts) position waits;
      parts = refl;
      opened = refl;
      marks = refl;
      unprinted = refl;
      ids = ids-owned owner core.own;
      lists = refl;
    }

made_served : (owner : Option ℕ) (parent : ℕ) (made : Made) (core : Core) → CanMake owner core → SegmentsServed core
    → SegmentsServed (with_made owner parent made core)
made_served owner parent (m.Hole place lead position waits) core can served =
    let state : State Job = new_state waits (twin_job (length core.segments.parts) position) in
    let next : Core = with_made owner parent (m.Hole place lead position waits) core in
    added_served owner (child_of parent place) (child_mark lead) state core next
    (hole_adds owner parent place lead position waits core) can served
    (made_claims owner parent (m.Hole place lead position waits) core can served.claims)
made_served owner parent (m.Boundary place path content fallback) core can served =
    let next : Core = with_made owner parent (m.Boundary place path content fallback) core in
    let first : Core = with_root owner path content core in
    added_served owner (site_of parent place (length core.boundaries.bounds)) blank
    (Runnable (twin_job (length core.segments.parts + 1) fallback)) first next
    (site_added owner parent place path content fallback core)
    (added_can owner (Some (length core.boundaries.bounds)) (Runnable (twin_job (length core.segments.parts) content))
    (enlarged owner path core) first (root_added owner path content core).tasks (enlarged_can owner path core can))
    (root_served owner path content core can served)
    (made_claims owner parent (m.Boundary place path content fallback) core can served.claims)

-- Pieces.

closed_bytes : (bytes : List ℕ) (part : Option Part) → is_open (part_with_bytes bytes part) ≡ true → ⊥
closed_bytes bytes None opened = not_true opened
closed_bytes bytes (Some part) opened = not_true opened

module _ (owner : Option ℕ) (segment : ℕ) (work : Work) (bytes : List ℕ) (kids : ℕ) (core : Core)
    (left : IsLeft core work.task) (serves_it : Serves core work.task segment) (served : SegmentsServed core) where
  abbrev next_core : Core
  next_core = begun owner segment work bytes kids core

  counts : SameBut (with_bytes work segment bytes core) next_core
  counts = counted_same owner kids (length bytes) (with_bytes work segment bytes core)

  begun_there : (task other : ℕ) → Serves next_core task other → (task ≡ work.task → ⊥) × Serves core task other
  begun_there task other =
      task_serves work.task Gone None core next_core (begun_changes owner segment work bytes kids core left)
      served.claims.tasks (λ o. o ≡ Some other → (task ≡ work.task → ⊥) × Serves core task other) task
      (λ same is. absurd (no_segment other is)) (λ apart is. (apart, is))

  begun_back : (task other : ℕ) → (task ≡ work.task → ⊥) → Serves core task other → Serves next_core task other
  begun_back task other apart serves =
      task_serves work.task Gone None core next_core (begun_changes owner segment work bytes kids core left)
      served.claims.tasks (λ o. o ≡ Some other) task (λ same. absurd (apart same)) (λ is. serves)

  begun_parts : next_core.segments.parts
      ≡ slice_set core.segments.parts segment (part_with_bytes bytes (part_at core.segments.parts segment))
  begun_parts = ap (λ (t : Tree). t.parts) counts.segments

  segment_inside : segment < length core.segments.parts
  segment_inside = inside (λ p. is_open p ≡ true) core.segments.parts None segment not_true
      (served.opened work.task segment serves_it)

  begun_open : (other : ℕ) → IsOpen next_core other → (other ≡ segment → ⊥) × IsOpen core other
  begun_open other opened =
      set_reads (λ p. is_open p ≡ true → (other ≡ segment → ⊥) × IsOpen core other) core.segments.parts segment
      (part_with_bytes bytes (part_at core.segments.parts segment)) None other segment_inside
      (λ same is. absurd (closed_bytes bytes (part_at core.segments.parts segment) is)) (λ apart is. (apart, is))
      (subst (λ (l : List (Option Part)). is_open (part_at l other) ≡ true) begun_parts opened)

  begun_opened : (other : ℕ) → (other ≡ segment → ⊥) → IsOpen core other → IsOpen next_core other
  begun_opened other apart opened =
      subst (λ (l : List (Option Part)). is_open (part_at l other) ≡ true) (sym begun_parts)
      (set_reads (λ p. is_open p ≡ true) core.segments.parts segment
      (part_with_bytes bytes (part_at core.segments.parts segment)) None other segment_inside
      (λ same. absurd (apart same)) (λ is. opened))

  begun_tables : SegmentsFit next_core
  begun_tables =
      let many : length next_core.segments.parts ≡ length core.segments.parts =
      ap (λ (l : List (Option Part)). length l) begun_parts ∙ length-set core.segments.parts segment _ in
      record {
        marked = ap (λ (t : Tree). length t.marks) counts.segments ∙ length-set core.segments.marks segment _
            ∙ served.tables.marked ∙ sym many;
        ids = ap (λ (l : Lists). l.ids) counts.own ∙ served.tables.ids ∙ sym many;
        lists = ap (λ (l : Lists). length l.lists) counts.own ∙ served.tables.lists ∙ sym counts.bounds;
        made = λ boundary other past. ap (λ (l : Lists). times other (list_at l.lists boundary)) counts.own
            ∙ served.tables.made boundary other (subst (λ n. n ≤ other) many past);
        unprinted = λ other opened. ap (λ (t : Tree). (mark_at t.marks other).printed) counts.segments
            ∙ set_unprinted core.segments.parts core.segments.marks segment _ (served.tables.unprinted segment)
            served.tables.unprinted other (begun_open other opened).1;
      }

  begun_served : SegmentsServed next_core
  begun_served = record {
    claims = begun_claims owner segment work bytes kids core left served.claims;
    tables = begun_tables;
    has_task = λ other opened.
        let before : (other ≡ segment → ⊥) × IsOpen core other = begun_open other opened in
        let found : (task : ℕ) × Serves core task other = served.has_task other before.1 in (
          found.0,
          begun_back found.0 other (λ same. before.0
              (same_segment other segment (sym (subst (λ i. Serves core i other) same found.1) ∙ serves_it))) found.1,
        );
    opened = λ task other serves.
        let before : (task ≡ work.task → ⊥) × Serves core task other = begun_there task other serves in
        begun_opened other (λ same. before.0 (served.alone task work.task segment
        (subst (Serves core task) same before.1) serves_it)) (served.opened task other before.1);
    alone = λ task other one_segment serves too. served.alone task other one_segment (begun_there task one_segment serves).1
        (begun_there other one_segment too).1;
    owned = λ task other boundary serves.
        ap (λ (l : Lists). times other (list_at l.lists boundary)) counts.own
        ∙ served.owned task other boundary (begun_there task other serves).1
        ∙ ap (λ (b : Board Job). one (same_owner (owner_at b.owners task) (Some boundary))) (sym counts.tasks);
  }

taken_served : (outcomes : List (Entry Outcome)) (work : Work) (bytes : List ℕ) (kids : List Kid) (found : Option Claim)
    (old new : Core) → claim_at old.claims work.task ≡ found → keeps old work ≡ true → SegmentsServed old
    → TakesPieceIf outcomes work bytes kids found old new → SegmentsServed new
taken_served outcomes work bytes kids None old new is kept served takes = absurd takes
taken_served outcomes work bytes kids (Some claim) old new is kept served takes =
    let roomy : Core = takes.roomy in
    let room : SegmentsServed roomy = roomy_served old roomy takes.same served in
    let left : IsLeft roomy work.task = ap (λ (c : Core). is_gone (state_at c.tasks.states work.task)) takes.same
    ∙ work_left old work kept in
    let serves : Serves roomy work.task claim.segment =
    ap (λ (c : Core). served_by (state_at c.tasks.states work.task) (claim_at c.claims work.task)) takes.same
    ∙ work_serves old work claim kept is in
    let owner : Option ℕ = owner_of old work in
    let own : owner ≡ owner_at roomy.tasks.owners work.task =
    ap (λ (c : Core). owner_at c.tasks.owners work.task) (sym takes.same) in
    let core : Core = begun owner claim.segment work bytes (length kids) roomy in
    let started : SegmentsServed core =
    begun_served owner claim.segment work bytes (length kids) roomy left serves room in
    let made : List Made = map (made_of outcomes core.settled) kids in
    let all : SegmentsServed (with_all_made owner claim.segment made core) =
    all_made_keeps SegmentsServed owner claim.segment (made_served owner claim.segment) made core
    (begun_can owner claim.segment work bytes (length kids) roomy room.claims.tasks left own) started in
    subst SegmentsServed (sym takes.taken)
    (frame_served (with_all_made owner claim.segment made core)
    (queued owner claim.segment (with_all_made owner claim.segment made core)) refl refl refl refl refl all)

pub committed_segments : (outcomes : List (Entry Outcome)) (one : Piece) (old new : Core) → SegmentsServed old
    → CommitsPiece outcomes one old new → SegmentsServed new
committed_segments outcomes (piece.Done work bytes kids) old new served commits =
    taken_served outcomes work bytes.items kids (claim_at old.claims work.task) old new refl commits.kept served
    commits.committed
committed_segments outcomes (piece.Blocked work resource) old new served commits =
    subst SegmentsServed (sym commits.committed)
    (blocked_keeps SegmentsServed outcomes work resource old (given_back_served work old commits.kept served)
    (put_off_served work resource old commits.kept served) commits.kept)
committed_segments outcomes (piece.Failed work digest) old new served commits =
    owner_failed_keeps SegmentsServed shell_served failed_segments (owner_of old work) digest old new served
    commits.committed

-- The end, and flushes.

pub closed_segments : (tasks failed : ℕ) (old new : Core) → SegmentsServed old → Closes tasks old new failed
    → SegmentsServed new
closed_segments =
    closed_keeps SegmentsServed shell_served (λ boundary digest old new made. failed_segments boundary digest old new)

appended_segments : (plan : Plan) (budget : ℕ) (old new : Core) → SegmentsServed old → AppendsFlush plan budget old new
    → SegmentsServed new
appended_segments plan budget old new served flush =
    let tasks : new.tasks ≡ old.tasks = ap (λ (c : Core). c.tasks) flush.changed in
    let claims : new.claims ≡ old.claims = ap (λ (c : Core). c.claims) flush.changed in
    let bounds : length new.boundaries.bounds ≡ length old.boundaries.bounds =
    ap (λ (b : Bounds). length b.bounds) flush.flushed.boundaries in
    let marks : AreMarks old.segments.parts (length old.segments.marks) flush.flushed.end.segments =
    flushed_unprinted (tables_with plan.options.now.prefix plan.options.now.progressive old.segments old.boundaries)
    (length old.segments.marks) budget _ _ flush.flushed.flushes
    (record { unprinted = served.tables.unprinted; counted = refl }) in
    same_served old new (record {
      there = λ task segment serves.
          subst (λ (b : Board Job). served_by (state_at b.states task) (claim_at old.claims task) ≡ Some segment) tasks
          (subst (λ (l : List (Option Claim)). served_by (state_at new.tasks.states task) (claim_at l task) ≡ Some segment)
          claims serves);
      back = λ task segment serves.
          subst (λ (b : Board Job). served_by (state_at b.states task) (claim_at new.claims task) ≡ Some segment) (sym tasks)
          (subst (λ (l : List (Option Claim)). served_by (state_at old.tasks.states task) (claim_at l task) ≡ Some segment)
          (sym claims) serves);
      owners = ap (λ (b : Board Job). b.owners) tasks;
      parts = ap (λ (t : Tree). t.parts) flush.flushed.segments;
      marked = ap (λ (t : Tree). length t.marks) flush.flushed.segments
          ∙ marks.counted;
      unprinted = λ segment opened. ap (λ (t : Tree). (mark_at t.marks segment).printed) flush.flushed.segments
          ∙ marks.unprinted segment opened;
      ids = ap (λ (c : Core). c.own.ids) flush.changed;
      lists = ap (λ (c : Core). c.own.lists) flush.changed;
      bounds = bounds;
    }) (frame_claims old new tasks claims bounds served.claims) served

pub flushed_segments : (plan : Plan) (budget : ℕ) (old new : Core) → SegmentsServed old → FlushesState plan budget old new
    → SegmentsServed new
flushed_segments plan budget old new served flushes =
    flushed_keeps SegmentsServed plan budget old new (appended_segments plan budget old new) served flushes

-- What is left serves a segment.

kept_serves : (claim : Option Claim) → IsSome claim → (segment : ℕ) × (kept_segment claim ≡ Some segment)
kept_serves None is = absurd (not_true is)
kept_serves (Some claim) is = (claim.segment, refl)

left_serves : (state : State Job) (claim : Option Claim) → IsKeptOf state claim → is_gone state ≡ false
    → (segment : ℕ) × (served_by state claim ≡ Some segment)
left_serves Gone claim kept left = absurd (not_true (sym left))
left_serves (Runnable job) claim kept left = (job.segment, refl)
left_serves (Claimed n) claim kept left = kept_serves claim kept
left_serves (Waiting resource job) claim kept left = (job.segment, refl)

pub each_serves : (core : Core) (task : ℕ) → SegmentsServed core → IsLeft core task → (segment : ℕ) × Serves core task segment
each_serves core task served left =
    left_serves (state_at core.tasks.states task) (claim_at core.claims task) (served.claims.kept task) left
