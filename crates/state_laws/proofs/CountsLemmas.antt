-- Live boundaries and the shell go on counting their tasks.
use Rattle.std.proofs.Common.{◌≡◌, ℕ, zero, suc, ◌+◌, ◌-◌, ◌<◌, ◌≤◌, ◌==◌, Bool, true, false, cond, not, ◌&&◌, nat_lt, if◌then◌else◌, List, [], ◌∷◌, ◌++◌, length, map, slice_get, slice_set, Option, Some, None, inl, inr, refl, sym, ap, subst, ◌∙◌, arith}
use Rattle.std.proofs.lemmas.Bool.{cases_Bool, cases_eq, cond-false, cond-true, eq-eqb, ne_eqb}
use Rattle.std.proofs.lemmas.List.{length-map, length-set}
use Rattle.std.proofs.lemmas.Option.{slice_get_past, slice_get_within}
use Rattle.settle_script.specs.declared.value.Entry.{Entry}
use Rattle.settle_script.specs.declared.outcome.Outcome.{Outcome}
use Rattle.fizz_piece.specs.declared.piece.Kid.{Kid}
use Rattle.fizz_piece.specs.declared.piece.Piece.{Piece}
use Rattle.fizz_piece.specs.declared.piece.Piece.TheVariants as piece
use Rattle.fizz_piece.specs.declared.plan.Plan.{Plan}
use Rattle.fizz_piece.specs.declared.work.Work.{Work}
use Rattle.fizz_boundary.specs.Bounds.{Bounds, bound_at}
use Rattle.fizz_boundary.specs.Calls.{bytes_with, changed_at, failed_with, more, one_done}
use Rattle.fizz_boundary.specs.declared.boundary.Bound.{Bound}
use Rattle.fizz_boundary.specs.declared.boundary.State.{State as BoundState}
use Rattle.fizz_boundary.specs.declared.boundary.State.TheVariants.{Pending, Complete, Failed}
use Rattle.fizz_task.specs.declared.state.State.{State}
use Rattle.fizz_task.specs.declared.state.State.TheVariants.{Gone, Runnable, Claimed, Waiting}
use Rattle.fizz_task.specs.Board.{Board, one, state_at}
use Rattle.fizz_task.specs.Calls.{owner_at, same_owner, without_owned}
use Rattle.fizz_task.specs.Indexed.{is_gone}
use Rattle.id_lists.proofs.Counts.{one_same}
use Rattle.id_lists.specs.Lists.{one as one_time, times}
use Rattle.request_state.specs.declared.job.Claim.{Claim}
use Rattle.request_state.specs.declared.job.Job.{Job}
use Rattle.request_state.specs.declared.making.Made.{Made}
use Rattle.request_state.specs.declared.making.Made.TheVariants as m
use Rattle.request_state.specs.declared.making.Twin.{Twin}
use Rattle.request_state.specs.Claiming.{HandsOut, claim_at, given_back, given_back_to, job_again, keeps, kept_of, owner_of}
use Rattle.request_state.specs.Closing.{Closes, has_failed, has_failed_around, is_failed, is_failed_state}
use Rattle.request_state.specs.Committing.{CommitsPiece, TakesPieceIf, put_off_to, queued}
use Rattle.request_state.specs.Core.{Core, free, new_core}
use Rattle.request_state.specs.Failing.{FailsBoundary, FailsOwner, all_dropped, is_around, is_within, marked_failed, outer_of, with_dropped, with_shell_failed}
use Rattle.request_state.specs.Flushing.{AppendsFlush, FlushesState}
use Rattle.request_state.specs.Making.{made_of, with_all_made, with_made}
use Rattle.request_state.specs.Reclaiming.{with_reclaimed}
use Rattle.request_state.specs.Settling.{Settles, with_settled}
use Rattle.state_laws.specs.Counts.{BoundCounts, IsLive, StateCounts, TasksCounted, count_owned, tasks_of}
use Rattle.state_laws.specs.Tasks.{IsLeft, TasksFit}
use Rattle.state_laws.proofs.Calls.{all_dropped_keeps, blocked_keeps, closed_keeps, flushed_keeps, returned_keeps}
use Rattle.state_laws.proofs.ClaimsLemmas.{new_tasks_fit, work_left}
use Rattle.state_laws.proofs.Points.{length-push, set_reads}
use Rattle.state_laws.proofs.TasksLemmas.{AddsTask, CanMake, ChangesTask, added_fit, at_woken, begun, begun_can, begun_changes, begun_fit, bounded, bounded_can_new, bounded_fit, changed_fit, content_added, dropped_fit, fallback_added, frame_same, gone-woken, handed, handed_changes, hole_added, is_handed, is_same, left_inside, length-changed_at, made_can, made_fit, marked_fit, new_state, none_left, reclaimed_gone, reclaimed_same, same_fit, same_self, settled_same, shell_failed_fit, twin_job, with_child, with_content}

not_true : false ≡ true → ⊥
not_true e = cc

gone_false : true ≡ false → ⊥
gone_false e = cc

other_owner : (owner other : Option ℕ) → (owner ≡ other → ⊥) → same_owner owner other ≡ false
other_owner owner other apart = elim (cases_Bool (same_owner owner other)) [
  | inl same ↦ absurd (apart (is_same owner other same))
  | inr differs ↦ differs
]

some_apart : (m n : ℕ) → (m ≡ n → ⊥) → ◌≡◌ {A = Option ℕ} (Some m) (Some n) → ⊥
some_apart m n apart is = apart same
  where
    same : m ≡ n
    same = cc

some_is : (m n : ℕ) → ◌≡◌ {A = Option ℕ} (Some m) (Some n) → m ≡ n
some_is m n e = cc

none_some : (n : ℕ) → ◌≡◌ {A = Option ℕ} None (Some n) → ⊥
none_some n e = cc

-- Counts.

-- as many where as many are left
count-same : (owner : Option ℕ) (owners : List (Option ℕ)) (new old : List (State Job)) → length new ≡ length old
    → ((i : ℕ) → is_gone (state_at new i) ≡ is_gone (state_at old i)) → count_owned owner owners new ≡ count_owned owner owners old
count-same owner [] new old many same = refl
count-same owner (first ∷ owners) [] [] many same = refl
count-same owner (first ∷ owners) [] (state ∷ old) many same = absurd (omega arith)
count-same owner (first ∷ owners) (state ∷ new) [] many same = absurd (omega arith)
count-same owner (first ∷ owners) (now ∷ new) (was ∷ old) many same = omega (
  arith,
  ap (λ (b : Bool). one (same_owner owner first && not b)) (same 0),
  count-same owner owners new old (omega arith) (λ i. same (suc i)),
)

left_one : (b gone : Bool) → gone ≡ false → one (b && not gone) ≡ one b
left_one true gone is = ap (λ (g : Bool). one (not g)) is
left_one false gone is = refl

gone_none : (b : Bool) → one (b && not true) ≡ 0
gone_none true = refl
gone_none false = refl

-- one fewer where one goes
count-gone : (owner : Option ℕ) (owners : List (Option ℕ)) (states : List (State Job)) (task : ℕ)
    → length owners ≡ length states → is_gone (state_at states task) ≡ false
    → count_owned owner owners (slice_set states task Gone) + one (same_owner owner (owner_at owners task))
    ≡ count_owned owner owners states
count-gone owner [] [] task many left = absurd (gone_false left)
count-gone owner [] (state ∷ states) task many left = absurd (omega arith)
count-gone owner (first ∷ owners) [] task many left = absurd (gone_false left)
count-gone owner (first ∷ owners) (state ∷ states) zero many left =
    omega (arith, gone_none (same_owner owner first), left_one (same_owner owner first) (is_gone state) left)
count-gone owner (first ∷ owners) (state ∷ states) (suc task) many left =
    omega (arith, count-gone owner owners states task (omega arith) left)

-- one more where one is made
count-push : (owner : Option ℕ) (owners : List (Option ℕ)) (states : List (State Job)) (maker : Option ℕ) (state : State Job)
    → length owners ≡ length states → is_gone state ≡ false
    → count_owned owner (owners ++ maker ∷ []) (states ++ state ∷ []) ≡ count_owned owner owners states + one (same_owner owner maker)
count-push owner [] [] maker state many left = omega (arith, left_one (same_owner owner maker) (is_gone state) left)
count-push owner [] (first ∷ states) maker state many left = absurd (omega arith)
count-push owner (first ∷ owners) [] maker state many left = absurd (omega arith)
count-push owner (first ∷ owners) (now ∷ states) maker state many left =
    omega (arith, count-push owner owners states maker state (omega arith) left)

-- nothing is owned by who owns nothing
count-unowned : (owner : Option ℕ) (owners : List (Option ℕ)) (states : List (State Job)) → length owners ≡ length states
    → ((i : ℕ) → is_gone (state_at states i) ≡ false → owner_at owners i ≡ owner → ⊥) → count_owned owner owners states ≡ 0
count-unowned owner [] states many apart = refl
count-unowned owner (first ∷ owners) [] many apart = refl
count-unowned owner (first ∷ owners) (state ∷ states) many apart =
    omega (
      arith,
      here (same_owner owner first) (is_gone state) refl refl,
      count-unowned owner owners states (omega arith) (λ i. apart (suc i)),
    )
  where
    here : (same gone : Bool) → same_owner owner first ≡ same → is_gone state ≡ gone
        → one (same_owner owner first && not (is_gone state)) ≡ 0
    here false gone is_same_ is_gone_ = ap (λ (b : Bool). one (b && not (is_gone state))) is_same_
    here true true is_same_ is_gone_ = ap (λ (b : Bool). one (same_owner owner first && not b)) is_gone_
        ∙ gone_none (same_owner owner first)
    here true false is_same_ is_gone_ = absurd (apart 0 is_gone_ (sym (is_same owner first is_same_)))

-- a drop leaves the tasks of all others
count-dropped : (owner dropped : Option ℕ) (owners : List (Option ℕ)) (states : List (State Job))
    → same_owner owner dropped ≡ false → count_owned owner owners (without_owned dropped owners states) ≡ count_owned owner owners states
count-dropped owner dropped [] states apart = refl
count-dropped owner dropped (first ∷ owners) [] apart = refl
count-dropped owner dropped (first ∷ owners) (state ∷ states) apart =
    omega (arith, here (same_owner dropped first) refl, count-dropped owner dropped owners states apart)
  where
    here : (same : Bool) → same_owner dropped first ≡ same
        → one (same_owner owner first && not (is_gone (if same_owner dropped first then Gone else state)))
        ≡ one (same_owner owner first && not (is_gone state))
    here false is = ap (λ (b : Bool). one (same_owner owner first && not (is_gone (if b then Gone else state)))) is
    here true is =
        let not_owned : same_owner owner first ≡ false =
        ap (same_owner owner) (sym (is_same dropped first is)) ∙ apart in
        ap (λ (b : Bool). one (b && not (is_gone (if same_owner dropped first then Gone else state)))) not_owned
        ∙ sym (ap (λ (b : Bool). one (b && not (is_gone state))) not_owned)

-- Boundaries, as a list.

module _ {X : Type 0} where
  get_set : (fact : Option X → Type 0) (xs : List X) (k : ℕ) (x : X) (j : ℕ) → k < length xs → (j ≡ k → fact (Some x))
      → ((j ≡ k → ⊥) → fact (slice_get xs j)) → fact (slice_get (slice_set xs k x) j)
  get_set fact [] k x j within own others = absurd (omega arith)
  get_set fact (y ∷ ys) zero x zero within own others = own refl
  get_set fact (y ∷ ys) zero x (suc j) within own others = others (λ e. omega (arith, e))
  get_set fact (y ∷ ys) (suc k) x zero within own others = others (λ e. omega (arith, e))
  get_set fact (y ∷ ys) (suc k) x (suc j) within own others =
      get_set fact ys k x j (omega arith) (λ e. own (ap suc e)) (λ apart. others (λ e. apart (omega (arith, e))))

  pub get_push : (fact : Option X → Type 0) (xs : List X) (x : X) (j : ℕ) → (j ≡ length xs → fact (Some x))
      → ((j ≡ length xs → ⊥) → fact (slice_get xs j)) → fact (slice_get (xs ++ x ∷ []) j)
  get_push fact [] x zero own others = own refl
  get_push fact [] x (suc j) own others = others (λ e. omega (arith, e))
  get_push fact (y ∷ ys) x zero own others = others (λ e. omega (arith, e))
  get_push fact (y ∷ ys) x (suc j) own others =
      get_push fact ys x j (λ e. own (omega (arith, e))) (λ apart. others (λ e. apart (omega (arith, e))))

abbrev pub changed_bound : (BoundState → BoundState) → Option Bound → Option Bound
changed_bound change None = None
changed_bound change (Some bound) = Some (record bound { state = change bound.state })

some_bound : (bound : Bound) → ◌≡◌ {A = Option Bound} None (Some bound) → ⊥
some_bound bound e = cc

-- what stands at a boundary's number after its state was changed
pub changed_reads : (fact : Option Bound → Type 0) (change : BoundState → BoundState) (boundary : ℕ) (bounds : List Bound) (other : ℕ)
    → (other ≡ boundary → fact (changed_bound change (bound_at bounds boundary)))
    → ((other ≡ boundary → ⊥) → fact (bound_at bounds other)) → fact (bound_at (changed_at change boundary bounds) other)
changed_reads fact change boundary bounds other own others = by_bound (bound_at bounds boundary) refl
  where
    by_bound : (found : Option Bound) → bound_at bounds boundary ≡ found → fact (bound_at (changed_at change boundary bounds) other)
    by_bound None is = rw is (elim (cases_eq other boundary) [
      | inl same ↦ subst fact (sym (ap (bound_at bounds) same ∙ is)) (subst (λ b. fact (changed_bound change b)) is (own same))
      | inr apart ↦ others apart
    ])
    by_bound (Some bound) is = rw is (get_set fact bounds boundary (record bound { state = change bound.state }) other
        (slice_get_within bounds boundary bound is)
        (λ same. subst (λ b. fact (changed_bound change b)) is (own same)) others)

-- Whether a boundary has failed.

has_failed-none : (n : ℕ) (bounds : List Bound) → has_failed n bounds None ≡ false
has_failed-none zero bounds = refl
has_failed-none (suc n) bounds = refl

both_false : (b c : Bool) → (if b then true else c) ≡ false → (b ≡ false) × (c ≡ false)
both_false true c is = absurd (gone_false is)
both_false false c is = (refl, is)

-- What has failed before has failed, and what is around a boundary stays.
record FailsMore (old new : List Bound) : Type 0 where
  failed : (i : ℕ) → is_failed (bound_at old i) ≡ true → is_failed (bound_at new i) ≡ true
  outer : (i k : ℕ) → outer_of (bound_at old i) ≡ Some k → outer_of (bound_at new i) ≡ Some k

live_before : (n later : ℕ) (old new : List Bound) → FailsMore old new → n ≤ later → (inner : Option ℕ)
    → has_failed later new inner ≡ false → has_failed n old inner ≡ false
live_before zero later old new fails few inner live = refl
live_before (suc n) zero old new fails few inner live = absurd (omega arith)
live_before (suc n) (suc later) old new fails few None live = refl
live_before (suc n) (suc later) old new fails few (Some inner) live =
    let parts : (is_failed (bound_at new inner) ≡ false) × (has_failed later new (outer_of (bound_at new inner)) ≡ false) =
    both_false (is_failed (bound_at new inner)) (has_failed later new (outer_of (bound_at new inner))) live in
    let here : is_failed (bound_at old inner) ≡ false = elim (cases_Bool (is_failed (bound_at old inner))) [
      | inl failed ↦ absurd (not_true (sym parts.0 ∙ fails.failed inner failed))
      | inr stays ↦ stays
    ] in
    let around : has_failed n old (outer_of (bound_at old inner)) ≡ false =
    by_outer n later old new inner fails (live_before n later old new fails (omega arith)) (outer_of (bound_at old inner)) refl parts.1 in
    ap (λ (b : Bool). if b then true else has_failed n old (outer_of (bound_at old inner))) here ∙ around
  where
    by_outer : (n later : ℕ) (old new : List Bound) (inner : ℕ) → FailsMore old new
        → ((o : Option ℕ) → has_failed later new o ≡ false → has_failed n old o ≡ false)
        → (o : Option ℕ) → outer_of (bound_at old inner) ≡ o → has_failed later new (outer_of (bound_at new inner)) ≡ false
        → has_failed n old (outer_of (bound_at old inner)) ≡ false
    by_outer n later old new inner fails earlier None is live = ap (has_failed n old) is ∙ has_failed-none n old
    by_outer n later old new inner fails earlier (Some k) is live =
        ap (has_failed n old) is
        ∙ earlier (Some k) (ap (has_failed later new) (sym (fails.outer inner k is)) ∙ live)

failed_bound : (change : BoundState → BoundState) → ((s : BoundState) → is_failed_state s ≡ true → is_failed_state (change s) ≡ true)
    → (bound : Option Bound) → is_failed bound ≡ true → is_failed (changed_bound change bound) ≡ true
failed_bound change keeps_failed None is = absurd (not_true is)
failed_bound change keeps_failed (Some bound) is = keeps_failed bound.state is

outer-changed : (change : BoundState → BoundState) (bound : Option Bound) → outer_of (changed_bound change bound) ≡ outer_of bound
outer-changed change None = refl
outer-changed change (Some bound) = refl

changed_fails : (change : BoundState → BoundState) → ((s : BoundState) → is_failed_state s ≡ true → is_failed_state (change s) ≡ true)
    → (boundary : ℕ) (bounds : List Bound) → FailsMore bounds (changed_at change boundary bounds)
changed_fails change keeps_failed boundary bounds = record {
  failed = λ i was. changed_reads (λ b. is_failed b ≡ true) change boundary bounds i
      (λ same. failed_bound change keeps_failed (bound_at bounds boundary) (ap (λ j. is_failed (bound_at bounds j)) (sym same) ∙ was))
      (λ apart. was);
  outer = λ i k was. changed_reads (λ b. outer_of b ≡ Some k) change boundary bounds i
      (λ same. outer-changed change (bound_at bounds boundary) ∙ ap (λ j. outer_of (bound_at bounds j)) (sym same) ∙ was)
      (λ apart. was);
}

changed_live : (change : BoundState → BoundState) → ((s : BoundState) → is_failed_state s ≡ true → is_failed_state (change s) ≡ true)
    → (boundary : ℕ) (bounds : List Bound) (inner : ℕ) → has_failed_around (changed_at change boundary bounds) inner ≡ false
    → has_failed_around bounds inner ≡ false
changed_live change keeps_failed boundary bounds inner live =
    live_before (length bounds) (length (changed_at change boundary bounds)) bounds (changed_at change boundary bounds)
    (changed_fails change keeps_failed boundary bounds) (omega (arith, length-changed_at change boundary bounds)) (Some inner) live

more_failed : (count : ℕ) (s : BoundState) → is_failed_state s ≡ true → is_failed_state (more count s) ≡ true
more_failed count (Pending tasks bytes) is = absurd (not_true is)
more_failed count (Complete bytes) is = absurd (not_true is)
more_failed count (Failed digest) is = refl

done_failed : (bytes : ℕ) (s : BoundState) → is_failed_state s ≡ true → is_failed_state (one_done bytes s) ≡ true
done_failed bytes (Pending tasks size) is = absurd (not_true is)
done_failed bytes (Complete size) is = absurd (not_true is)
done_failed bytes (Failed digest) is = refl

-- Calls that leave counts alone.

record CountsSame (old new : Core) : Type 0 where
  owners : new.tasks.owners ≡ old.tasks.owners
  states : length new.tasks.states ≡ length old.tasks.states
  gone : (task : ℕ) → is_gone (state_at new.tasks.states task) ≡ is_gone (state_at old.tasks.states task)
  bounds : new.boundaries.bounds ≡ old.boundaries.bounds
  shell : new.shell_tasks ≡ old.shell_tasks

same-tasks_of : (old new : Core) → CountsSame old new → (owner : Option ℕ) → tasks_of new owner ≡ tasks_of old owner
same-tasks_of old new same owner =
    ap (λ (l : List (Option ℕ)). count_owned owner l new.tasks.states) same.owners
    ∙ count-same owner old.tasks.owners new.tasks.states old.tasks.states same.states same.gone

same_counted : (old new : Core) → CountsSame old new → TasksFit new → TasksCounted old → TasksCounted new
same_counted old new same fit counted = record {
  tasks = fit;
  counts = λ boundary live.
      subst (λ (l : List Bound). BoundCounts (tasks_of new (Some boundary)) (bound_at l boundary)) (sym same.bounds)
      (subst (λ n. BoundCounts n (bound_at old.boundaries.bounds boundary)) (sym (same-tasks_of old new same (Some boundary)))
      (counted.counts boundary (ap (λ (l : List Bound). has_failed_around l boundary) (sym same.bounds) ∙ live)));
  shell = same.shell ∙ counted.shell ∙ sym (same-tasks_of old new same None);
}

new_counted : TasksCounted new_core
new_counted = record { tasks = new_tasks_fit; counts = λ boundary live. tt; shell = refl }

pub roomy_counted : (old roomy : Core) → free roomy ≡ free old → TasksFit roomy → TasksCounted old → TasksCounted roomy
roomy_counted old roomy same fit counted =
    same_counted old roomy (record {
      owners = ap (λ (c : Core). c.tasks.owners) same;
      states = ap (λ (c : Core). length c.tasks.states) same;
      gone = λ task. ap (λ (c : Core). is_gone (state_at c.tasks.states task)) same;
      bounds = ap (λ (c : Core). c.boundaries.bounds) same;
      shell = ap (λ (c : Core). c.shell_tasks) same;
    }) fit counted

pub roomy_fit : (old roomy : Core) → free roomy ≡ free old → TasksFit old → TasksFit roomy
roomy_fit old roomy same fit = same_fit old roomy (record {
  owners = ap (λ (c : Core). c.tasks.owners) same;
  states = ap (λ (c : Core). length c.tasks.states) same;
  claims = ap (λ (c : Core). length c.claims) same;
  bounds = ap (λ (c : Core). length c.boundaries.bounds) same;
  left = λ task left. ap (λ (c : Core). is_gone (state_at c.tasks.states task)) (sym same) ∙ left;
}) fit

pub first_counts : (core : Core) → free core ≡ new_core → TasksCounted core
first_counts core is = roomy_counted new_core core is (roomy_fit new_core core is new_tasks_fit) new_counted

pub settles_counts : (outcomes : List (Entry Outcome)) (old new : Core) → TasksCounted old → Settles outcomes old new
    → TasksCounted new
settles_counts outcomes old new counted settles =
    subst TasksCounted (sym settles.settled)
    (same_counted old (with_settled settles.name old) (record {
      owners = refl;
      states = (settled_same settles.name old).states;
      gone = λ task. ap is_gone (at_woken settles.name old.tasks.states task)
          ∙ gone-woken settles.name (state_at old.tasks.states task);
      bounds = refl;
      shell = refl;
    }) (same_fit old (with_settled settles.name old) (settled_same settles.name old) counted.tasks) counted)

-- a task that is left changes, and is left
changed_counted : (task : ℕ) (state : State Job) (claim : Option Claim) (old new : Core)
    → ChangesTask task state claim old new → is_gone state ≡ false → new.boundaries.bounds ≡ old.boundaries.bounds
    → new.shell_tasks ≡ old.shell_tasks → TasksCounted old → TasksCounted new
changed_counted task state claim old new change stays bounds shell counted =
    same_counted old new (record {
      owners = change.owners;
      states = ap (λ (l : List (State Job)). length l) change.states ∙ length-set old.tasks.states task state;
      gone = λ other. ap (λ (l : List (State Job)). is_gone (state_at l other)) change.states
          ∙ set_reads (λ (s : State Job). is_gone s ≡ is_gone (state_at old.tasks.states other)) old.tasks.states task state Gone
          other (left_inside old task change.left)
          (λ same. stays ∙ sym (ap (λ i. is_gone (state_at old.tasks.states i)) same ∙ change.left)) (λ apart. refl);
      bounds = bounds;
      shell = shell;
    }) (changed_fit task state claim old new change counted.tasks) counted

pub claimed_counts : (old new : Core) (work : Work) → TasksCounted old → HandsOut old new work → TasksCounted new
claimed_counts old new work counted out =
    subst TasksCounted (sym (is_handed old new work out))
    (changed_counted work.task (Claimed old.tasks.claims) (Some (kept_of old out.job)) old
    (handed work.task new.tasks.queue out.job old) (handed_changes old new work out) refl refl refl counted)

given_back_counted : (work : Work) (core : Core) → keeps core work ≡ true → TasksCounted core → (claim : Claim)
    → claim_at core.claims work.task ≡ Some claim → TasksCounted (given_back_to work (Some claim) core)
given_back_counted work core kept counted claim is =
    changed_counted work.task (Runnable (job_again work claim)) None core (given_back_to work (Some claim) core)
    (record { owners = refl; states = refl; claims = refl; bounds = refl; left = work_left core work kept })
    refl refl refl counted

put_off_counted : (work : Work) (resource : List ℕ) (core : Core) → keeps core work ≡ true → TasksCounted core
    → (claim : Claim) → claim_at core.claims work.task ≡ Some claim
    → TasksCounted (put_off_to work resource (Some claim) core)
put_off_counted work resource core kept counted claim is =
    changed_counted work.task (Waiting resource (job_again work claim)) None core (put_off_to work resource (Some claim) core)
    (record { owners = refl; states = refl; claims = refl; bounds = refl; left = work_left core work kept })
    refl refl refl counted

pub returned_counts : (work : Work) (old : Core) → TasksCounted old → keeps old work ≡ true → TasksCounted (given_back work old)
returned_counts work old counted kept =
    returned_keeps TasksCounted work old (given_back_counted work old kept counted) kept

pub reclaimed_counts : (core : Core) → TasksCounted core → TasksCounted (with_reclaimed core)
reclaimed_counts core counted =
    same_counted core (with_reclaimed core) (record {
      owners = (reclaimed_same core).owners;
      states = (reclaimed_same core).states;
      gone = reclaimed_gone core;
      bounds = refl;
      shell = refl;
    }) (same_fit core (with_reclaimed core) (reclaimed_same core) counted.tasks) counted

appended_counts : (plan : Plan) (budget : ℕ) (old new : Core) → TasksCounted old → AppendsFlush plan budget old new
    → TasksCounted new
appended_counts plan budget old new counted flush =
    let tasks : new.tasks ≡ old.tasks = ap (λ (c : Core). c.tasks) flush.changed in
    let bounds : new.boundaries.bounds ≡ old.boundaries.bounds = ap (λ (b : Bounds). b.bounds) flush.flushed.boundaries in
    same_counted old new (record {
      owners = ap (λ (b : Board Job). b.owners) tasks;
      states = ap (λ (b : Board Job). length b.states) tasks;
      gone = λ task. ap (λ (b : Board Job). is_gone (state_at b.states task)) tasks;
      bounds = bounds;
      shell = ap (λ (c : Core). c.shell_tasks) flush.changed;
    }) (same_fit old new (frame_same old new tasks (ap (λ (c : Core). length c.claims) flush.changed)
    (ap (λ (l : List Bound). length l) bounds)) counted.tasks) counted

pub flushed_counts : (plan : Plan) (budget : ℕ) (old new : Core) → TasksCounted old → FlushesState plan budget old new
    → TasksCounted new
flushed_counts plan budget old new counted flushes =
    flushed_keeps TasksCounted plan budget old new (appended_counts plan budget old new) counted flushes

-- Failures.

get_inside : (bounds : List Bound) (k : ℕ) → k < length bounds → bound_at bounds k ≡ None → ⊥
get_inside [] k within is = omega arith
get_inside (bound ∷ bounds) zero within is = some_bound bound (sym is)
get_inside (bound ∷ bounds) (suc k) within is = get_inside bounds k (omega arith) is

failed_some : (digest : List ℕ) (found : Option Bound) → (found ≡ None → ⊥) → is_failed (changed_bound (failed_with digest) found) ≡ true
failed_some digest None there = absurd (there refl)
failed_some digest (Some bound) there = refl

failed_unit : (digest : List ℕ) (count : ℕ) (found : Option Bound) → BoundCounts count (changed_bound (failed_with digest) found)
failed_unit digest count None = tt
failed_unit digest count (Some bound) = tt

and_none : (b c : Bool) → c ≡ false → (b && c) ≡ false
and_none true c is = is
and_none false c is = refl

-- a boundary that goes on living isn't within one that fails
module _ (boundary : ℕ) (digest : List ℕ) (bounds : List Bound) (made : boundary < length bounds) where
  abbrev bounds_after : List Bound
  bounds_after = changed_at (failed_with digest) boundary bounds

  failed_there : is_failed (bound_at bounds_after boundary) ≡ true
  failed_there =
      changed_reads (λ b. is_failed b ≡ true) (failed_with digest) boundary bounds boundary
      (λ same. failed_some digest (bound_at bounds boundary) (get_inside bounds boundary made))
      (λ apart. absurd (apart refl))

  outer_there : (i : ℕ) → outer_of (bound_at bounds_after i) ≡ outer_of (bound_at bounds i)
  outer_there i =
      changed_reads (λ b. outer_of b ≡ outer_of (bound_at bounds i)) (failed_with digest) boundary bounds i
      (λ same. outer-changed (failed_with digest) (bound_at bounds boundary) ∙ ap (λ j. outer_of (bound_at bounds j)) (sym same))
      (λ apart. refl)

  live_apart : (n : ℕ) (inner : Option ℕ) → has_failed n bounds_after inner ≡ false → is_around n bounds boundary inner ≡ false
  live_apart zero inner live = refl
  live_apart (suc n) None live = refl
  live_apart (suc n) (Some i) live =
      let parts : (is_failed (bound_at bounds_after i) ≡ false) × (has_failed n bounds_after (outer_of (bound_at bounds_after i)) ≡ false) =
      both_false (is_failed (bound_at bounds_after i)) (has_failed n bounds_after (outer_of (bound_at bounds_after i))) live in
      elim (cases_eq i boundary) [
        | inl same ↦ absurd (not_true (sym parts.0 ∙ ap (λ j. is_failed (bound_at bounds_after j)) same ∙ failed_there))
        | inr apart ↦ cond-false (i == boundary) true (is_around n bounds boundary (outer_of (bound_at bounds i)))
            (ne_eqb i boundary apart)
            ∙ live_apart n (outer_of (bound_at bounds i)) (ap (has_failed n bounds_after) (sym (outer_there i)) ∙ parts.1)
      ]

  live_without : (inner : ℕ) → has_failed_around bounds_after inner ≡ false → is_within bounds boundary inner ≡ false
  live_without inner live =
      and_none (nat_lt inner (length bounds)) (is_around (length bounds) bounds boundary (Some inner))
      (live_apart (length bounds) (Some inner)
      (ap (λ n. has_failed n bounds_after (Some inner)) (sym (length-changed_at (failed_with digest) boundary bounds)) ∙ live))

boundaries-all_dropped : (within : List ℕ) (core : Core) → (all_dropped within core).boundaries ≡ core.boundaries
boundaries-all_dropped [] core = refl
boundaries-all_dropped (boundary ∷ later) core = boundaries-all_dropped later (with_dropped boundary core)

shell-all_dropped : (within : List ℕ) (core : Core) → (all_dropped within core).shell_tasks ≡ core.shell_tasks
shell-all_dropped [] core = refl
shell-all_dropped (boundary ∷ later) core = shell-all_dropped later (with_dropped boundary core)

-- who isn't among those that are dropped keeps all tasks
count-all_dropped : (within : List ℕ) (core : Core) (owner : Option ℕ)
    → ((b : ℕ) → 0 < times b within → same_owner owner (Some b) ≡ false) → tasks_of (all_dropped within core) owner ≡ tasks_of core owner
count-all_dropped [] core owner apart = refl
count-all_dropped (boundary ∷ later) core owner apart =
    count-all_dropped later (with_dropped boundary core) owner (λ b stands. apart b (omega arith))
    ∙ count-dropped owner (Some boundary) core.tasks.owners core.tasks.states
    (apart boundary (omega (arith, one_same boundary boundary refl)))

marked_counted : (boundary : ℕ) (digest : List ℕ) (core : Core) (within : List ℕ) → boundary < length core.boundaries.bounds
    → ((inner : ℕ) → times inner within ≡ one_time (is_within core.boundaries.bounds boundary inner)) → TasksCounted core
    → TasksCounted (marked_failed boundary digest (all_dropped within core))
marked_counted boundary digest core within made exactly counted =
    let mid : Core = all_dropped within core in
    let fit : TasksFit mid = all_dropped_keeps TasksFit dropped_fit within core counted.tasks in
    record {
      tasks = marked_fit boundary digest mid fit;
      counts = subst (λ (b : Bounds). (other : ℕ)
          → has_failed_around (changed_at (failed_with digest) boundary b.bounds) other ≡ false
          → BoundCounts (tasks_of mid (Some other)) (bound_at (changed_at (failed_with digest) boundary b.bounds) other))
          (sym (boundaries-all_dropped within core)) each;
      shell = shell-all_dropped within core ∙ counted.shell ∙ sym (count-all_dropped within core None (λ b stands. refl));
    }
  where
    each : (other : ℕ) → has_failed_around (changed_at (failed_with digest) boundary core.boundaries.bounds) other ≡ false
        → BoundCounts (tasks_of (all_dropped within core) (Some other))
        (bound_at (changed_at (failed_with digest) boundary core.boundaries.bounds) other)
    each other live =
        let absent : times other within ≡ 0 = exactly other
        ∙ ap one_time (live_without boundary digest core.boundaries.bounds made other live) in
        changed_reads (BoundCounts (tasks_of (all_dropped within core) (Some other))) (failed_with digest) boundary
        core.boundaries.bounds other
        (λ same. failed_unit digest (tasks_of (all_dropped within core) (Some other)) (bound_at core.boundaries.bounds boundary))
        (λ apart. subst (λ n. BoundCounts n (bound_at core.boundaries.bounds other))
        (sym (count-all_dropped within core (Some other)
        (λ b stands. other_owner (Some other) (Some b) (λ is. omega (
          arith,
          stands,
          absent,
          ap (λ i. times i within) (some_is other b is),
        )))))
        (counted.counts other (changed_live (failed_with digest) (λ s is. refl) boundary core.boundaries.bounds other live)))

pub failed_counted : (boundary : ℕ) (digest : List ℕ) (old new : Core) → boundary < length old.boundaries.bounds → TasksCounted old
    → FailsBoundary boundary digest old new → TasksCounted new
failed_counted boundary digest old new made counted fails =
    subst TasksCounted (sym (fails.failed ∙ ap (marked_failed boundary digest) fails.dropped.dropped))
    (marked_counted boundary digest old fails.dropped.within made fails.dropped.exactly.exactly counted)

pub shell_counted : (digest : List ℕ) (core : Core) → TasksCounted core → TasksCounted (with_shell_failed digest core)
shell_counted digest core counted =
    let new : Core = with_shell_failed digest core in
    let fit : TasksFit new = shell_failed_fit digest core counted.tasks in
    record {
      tasks = fit;
      counts = λ boundary live. tt;
      shell = sym (count-unowned None new.tasks.owners new.tasks.states fit.owned
          (λ task left is. none_left digest core task counted.tasks left));
    }

pub closed_counts : (tasks failed : ℕ) (old new : Core) → TasksCounted old → Closes tasks old new failed → TasksCounted new
closed_counts = closed_keeps TasksCounted shell_counted failed_counted

-- Pieces: while kids are made the owner counts those that are still to be made.

abbrev share : Option ℕ → Option ℕ → ℕ → ℕ
share other owner left = cond (same_owner other owner) left 0

record BeingCounted (owner : Option ℕ) (left : ℕ) (core : Core) : Type 0 where
  tasks : TasksFit core
  can : CanMake owner core
  counts : (boundary : ℕ) → IsLive core boundary
      → BoundCounts (tasks_of core (Some boundary) + share (Some boundary) owner left) (bound_at core.boundaries.bounds boundary)
  shell : core.shell_tasks ≡ tasks_of core None + share None owner left

share_step : (b : Bool) (n left : ℕ) → n + one b + cond b left 0 ≡ n + cond b (left + 1) 0
share_step true n left = omega arith
share_step false n left = omega arith

share_end : (b : Bool) (n : ℕ) → n + cond b 0 0 ≡ n
share_end true n = omega arith
share_end false n = omega arith

count-added : (owner maker : Option ℕ) (state : State Job) (old new : Core) → AddsTask maker state old new → is_gone state ≡ false
    → length old.tasks.owners ≡ length old.tasks.states → tasks_of new owner ≡ tasks_of old owner + one (same_owner owner maker)
count-added owner maker state old new adds left owned =
    ap (λ (l : List (Option ℕ)). count_owned owner l new.tasks.states) adds.owners
    ∙ ap (count_owned owner (old.tasks.owners ++ maker ∷ [])) adds.states
    ∙ count-push owner old.tasks.owners old.tasks.states maker state owned left

new_left : (waits : Option (List ℕ)) (job : Job) → is_gone (new_state waits job) ≡ false
new_left None job = refl
new_left (Some resource) job = refl

hole_counted : (owner : Option ℕ) (parent place : ℕ) (lead : Bool) (position : Twin) (waits : Option (List ℕ)) (left : ℕ) (core : Core)
    → BeingCounted owner (left + 1) core → BeingCounted owner left (with_made owner parent (m.Hole place lead position waits) core)
hole_counted owner parent place lead position waits left core mid =
    let new : Core = with_made owner parent (m.Hole place lead position waits) core in
    let job : Job = twin_job (length core.segments.parts) position in
    let equal : (o : Option ℕ) → tasks_of new o + share o owner left ≡ tasks_of core o + share o owner (left + 1) = λ o.
    ap (λ n. n + share o owner left) (count-added o owner (new_state waits job) (with_child owner parent place lead core) new
    (hole_added owner parent place lead position waits core) (new_left waits job) mid.tasks.owned)
    ∙ share_step (same_owner o owner) (tasks_of core o) left in
    record {
      tasks = made_fit owner parent (m.Hole place lead position waits) core mid.can mid.tasks;
      can = made_can owner parent (m.Hole place lead position waits) core mid.can;
      counts = λ boundary live. subst (λ n. BoundCounts n (bound_at core.boundaries.bounds boundary)) (sym (equal (Some boundary)))
          (mid.counts boundary live);
      shell = mid.shell ∙ sym (equal None);
    }

none_failed : (bounds : List Bound) (i : ℕ) → i ≡ length bounds → is_failed (bound_at bounds i) ≡ true → ⊥
none_failed bounds i same was =
    not_true (sym (ap is_failed (slice_get_past bounds i (omega (arith, same)))) ∙ was)

none_outer : (bounds : List Bound) (i k : ℕ) → i ≡ length bounds → outer_of (bound_at bounds i) ≡ Some k → ⊥
none_outer bounds i k same was =
    none_some k (sym (ap outer_of (slice_get_past bounds i (omega (arith, same)))) ∙ was)

pushed_fails : (bounds : List Bound) (bound : Bound) → FailsMore bounds (bounds ++ bound ∷ [])
pushed_fails bounds bound = record {
  failed = λ i was. get_push (λ b. is_failed b ≡ true) bounds bound i
      (λ same. absurd (none_failed bounds i same was)) (λ apart. was);
  outer = λ i k was. get_push (λ b. outer_of b ≡ Some k) bounds bound i
      (λ same. absurd (none_outer bounds i k same was)) (λ apart. was);
}

pushed_live : (bounds : List Bound) (bound : Bound) (inner : ℕ) → has_failed_around (bounds ++ bound ∷ []) inner ≡ false
    → has_failed_around bounds inner ≡ false
pushed_live bounds bound inner live =
    live_before (length bounds) (length (bounds ++ bound ∷ [])) bounds (bounds ++ bound ∷ []) (pushed_fails bounds bound)
    (omega (arith, length-push bounds bound)) (Some inner) live

-- the boundary that is made, which has one task
abbrev new_bound : Option ℕ → List ℕ → Core → Bound
new_bound owner path core = record {
  path = path;
  parent = owner;
  root = length core.segments.parts;
  site = Some (length core.segments.parts + 1);
  state = Pending 1 0;
}

content_fit : (owner : Option ℕ) (parent place : ℕ) (path : List ℕ) (content : Twin) (core : Core) → CanMake owner core
    → TasksFit core → TasksFit (with_content owner parent place path content core)
content_fit owner parent place path content core can fit =
    added_fit (Some (length core.boundaries.bounds)) _ (bounded owner parent place path core)
    (with_content owner parent place path content core) (content_added owner parent place path content core)
    (bounded_can_new owner parent place path core can) (bounded_fit owner parent place path core fit)

bound_counted : (owner : Option ℕ) (parent place : ℕ) (path : List ℕ) (content fallback : Twin) (left : ℕ) (core : Core)
    → BeingCounted owner (left + 1) core
    → BeingCounted owner left (with_made owner parent (m.Boundary place path content fallback) core)
bound_counted owner parent place path content fallback left core mid = record {
  tasks = made_fit owner parent (m.Boundary place path content fallback) core mid.can mid.tasks;
  can = made_can owner parent (m.Boundary place path content fallback) core mid.can;
  counts = λ boundary live.
      get_push (BoundCounts (tasks_of new (Some boundary) + share (Some boundary) owner left)) core.boundaries.bounds
      (new_bound owner path core) boundary
      (λ same. subst (λ i. StateCounts (tasks_of new (Some i) + share (Some i) owner left) (Pending 1 0)) (sym same)
      (sym count_new, omega (arith, count_new)))
      (λ apart. subst (λ n. BoundCounts n (bound_at core.boundaries.bounds boundary)) (sym (equal (Some boundary)
      (other_owner (Some boundary) (Some nb) (some_apart boundary nb apart))))
      (mid.counts boundary (pushed_live core.boundaries.bounds (new_bound owner path core) boundary live)));
  shell = mid.shell ∙ sym (equal None refl);
}
  where
    nb : ℕ
    nb = length core.boundaries.bounds

    new : Core
    new = with_made owner parent (m.Boundary place path content fallback) core

    both : (o : Option ℕ) → tasks_of new o ≡ tasks_of core o + one (same_owner o (Some nb)) + one (same_owner o owner)
    both o =
        count-added o owner (Runnable (twin_job (length core.segments.parts + 1) fallback))
        (with_content owner parent place path content core) new
        (fallback_added owner parent place path content fallback core) refl
        (content_fit owner parent place path content core mid.can mid.tasks).owned
        ∙ ap (λ n. n + one (same_owner o owner))
        (count-added o (Some nb) (Runnable (twin_job (length core.segments.parts) content))
        (bounded owner parent place path core) (with_content owner parent place path content core)
        (content_added owner parent place path content core) refl mid.tasks.owned)

    equal : (o : Option ℕ) → same_owner o (Some nb) ≡ false
        → tasks_of new o + share o owner left ≡ tasks_of core o + share o owner (left + 1)
    equal o apart = omega (arith, both o, ap one apart, share_step (same_owner o owner) (tasks_of core o) left)

    none_owned : tasks_of core (Some nb) ≡ 0
    none_owned = count-unowned (Some nb) core.tasks.owners core.tasks.states mid.tasks.owned
        (λ task left_it is. omega (arith, mid.tasks.owners task nb left_it is))

    not_owner : same_owner (Some nb) owner ≡ false
    not_owner = other_owner (Some nb) owner (λ is. omega (arith, mid.can.made nb (sym is)))

    count_new : tasks_of new (Some nb) + share (Some nb) owner left ≡ 1
    count_new = omega (
      arith,
      both (Some nb),
      none_owned,
      ap one (same_self (Some nb)),
      ap one not_owner,
      ap (λ (b : Bool). cond b left 0) not_owner,
    )

made_counted : (owner : Option ℕ) (parent : ℕ) (made : Made) (left : ℕ) (core : Core) → BeingCounted owner (left + 1) core
    → BeingCounted owner left (with_made owner parent made core)
made_counted owner parent (m.Hole place lead position waits) left core mid =
    hole_counted owner parent place lead position waits left core mid
made_counted owner parent (m.Boundary place path content fallback) left core mid =
    bound_counted owner parent place path content fallback left core mid

all_counted : (owner : Option ℕ) (parent : ℕ) (all : List Made) (core : Core) → BeingCounted owner (length all) core
    → TasksCounted (with_all_made owner parent all core)
all_counted owner parent [] core mid = record {
  tasks = mid.tasks;
  counts = λ boundary live. subst (λ n. BoundCounts n (bound_at core.boundaries.bounds boundary))
      (share_end (same_owner (Some boundary) owner) (tasks_of core (Some boundary))) (mid.counts boundary live);
  shell = mid.shell ∙ share_end (same_owner None owner) (tasks_of core None);
}
all_counted owner parent (made ∷ later) core mid =
    all_counted owner parent later (with_made owner parent made core)
    (made_counted owner parent made (length later) core
    (subst (λ n. BeingCounted owner n core) (one_more made later) mid))
  where
    one_more : (made : Made) (later : List Made) → length (made ∷ later) ≡ length later + 1
    one_more made later = omega arith

-- the task that is done is counted no more
done_state : (now before kids size : ℕ) (state : BoundState) → now + 1 ≡ before → StateCounts before state
    → StateCounts (now + kids) (one_done size (more kids state))
done_state now before kids size (Pending tasks bytes) one_less counts = elim (cases_eq (tasks + kids) 1) [
  | inl last ↦ subst (StateCounts (now + kids)) (sym (cond-true (tasks + kids == 1) (Complete (bytes_with bytes size))
      (Pending (tasks + kids - 1) (bytes_with bytes size)) (eq-eqb (tasks + kids) 1 last)))
      (omega (arith, last, one_less, counts.0))
  | inr others ↦ subst (StateCounts (now + kids)) (sym (cond-false (tasks + kids == 1) (Complete (bytes_with bytes size))
      (Pending (tasks + kids - 1) (bytes_with bytes size)) (ne_eqb (tasks + kids) 1 others)))
      (omega (arith, one_less, counts.0), omega (arith, others, one_less, counts.0))
]
done_state now before kids size (Complete bytes) one_less counts = absurd (omega (arith, one_less, counts))
done_state now before kids size (Failed digest) one_less counts = tt

done_bound : (now before kids size : ℕ) (bound : Option Bound) → now + 1 ≡ before → BoundCounts before bound
    → BoundCounts (now + kids) (changed_bound (one_done size) (changed_bound (more kids) bound))
done_bound now before kids size None one_less counts = tt
done_bound now before kids size (Some bound) one_less counts = done_state now before kids size bound.state one_less counts

count-begun : (owner : Option ℕ) (segment : ℕ) (work : Work) (bytes : List ℕ) (kids : ℕ) (core : Core) (other : Option ℕ)
    → TasksFit core → IsLeft core work.task → owner ≡ owner_at core.tasks.owners work.task
    → tasks_of (begun owner segment work bytes kids core) other + one (same_owner other owner) ≡ tasks_of core other
count-begun owner segment work bytes kids core other fit left own =
    let next : Core = begun owner segment work bytes kids core in
    let change : ChangesTask work.task Gone None core next = begun_changes owner segment work bytes kids core left in
    let states : tasks_of next other ≡ count_owned other core.tasks.owners (slice_set core.tasks.states work.task Gone) =
    ap (λ (l : List (Option ℕ)). count_owned other l next.tasks.states) change.owners
    ∙ ap (count_owned other core.tasks.owners) change.states in
    omega (
      arith,
      states,
      ap (λ (o : Option ℕ). one (same_owner other o)) own,
      count-gone other core.tasks.owners core.tasks.states work.task fit.owned left,
    )

begun_counted : (owner : Option ℕ) (segment : ℕ) (work : Work) (bytes : List ℕ) (kids : ℕ) (core : Core)
    → IsLeft core work.task → owner ≡ owner_at core.tasks.owners work.task → TasksCounted core
    → BeingCounted owner kids (begun owner segment work bytes kids core)
begun_counted None segment work bytes kids core left own counted =
    let next : Core = begun None segment work bytes kids core in
    let fewer : (o : Option ℕ) → tasks_of next o + one (same_owner o None) ≡ tasks_of core o = λ o.
    count-begun None segment work bytes kids core o counted.tasks left own in
    record {
      tasks = begun_fit None segment work bytes kids core counted.tasks left;
      can = begun_can None segment work bytes kids core counted.tasks left own;
      counts = λ boundary live. subst (λ n. BoundCounts n (bound_at core.boundaries.bounds boundary))
          (sym (fewer (Some boundary))) (counted.counts boundary live);
      shell = omega (arith, fewer None, counted.shell);
    }
begun_counted (Some b0) segment work bytes kids core left own counted = record {
  tasks = begun_fit (Some b0) segment work bytes kids core counted.tasks left;
  can = begun_can (Some b0) segment work bytes kids core counted.tasks left own;
  counts = λ boundary live.
      changed_reads (BoundCounts (tasks_of next (Some boundary) + share (Some boundary) (Some b0) kids)) (one_done (length bytes)) b0
      (changed_at (more kids) b0 core.boundaries.bounds) boundary
      (λ same. changed_reads (λ b. BoundCounts (tasks_of next (Some boundary) + share (Some boundary) (Some b0) kids)
      (changed_bound (one_done (length bytes)) b)) (more kids) b0 core.boundaries.bounds b0
      (λ here. at_owner boundary same (live_old boundary live)) (λ apart. absurd (apart refl)))
      (λ apart. changed_reads (BoundCounts (tasks_of next (Some boundary) + share (Some boundary) (Some b0) kids)) (more kids) b0
      core.boundaries.bounds boundary (λ same. absurd (apart same)) (λ also. at_other boundary apart (live_old boundary live)));
  shell = counted.shell ∙ sym (fewer None);
}
  where
    next : Core
    next = begun (Some b0) segment work bytes kids core

    fewer : (o : Option ℕ) → tasks_of next o + one (same_owner o (Some b0)) ≡ tasks_of core o
    fewer o = count-begun (Some b0) segment work bytes kids core o counted.tasks left own

    live_old : (boundary : ℕ) → IsLive next boundary → IsLive core boundary
    live_old boundary live =
        changed_live (more kids) (more_failed kids) b0 core.boundaries.bounds boundary
        (changed_live (one_done (length bytes)) (done_failed (length bytes)) b0 (changed_at (more kids) b0 core.boundaries.bounds)
        boundary live)

    at_owner : (boundary : ℕ) → boundary ≡ b0 → IsLive core boundary
        → BoundCounts (tasks_of next (Some boundary) + share (Some boundary) (Some b0) kids)
        (changed_bound (one_done (length bytes)) (changed_bound (more kids) (bound_at core.boundaries.bounds b0)))
    at_owner boundary same live =
        let own_it : same_owner (Some boundary) (Some b0) ≡ true = ap (λ i. same_owner (Some i) (Some b0)) same ∙ same_self (Some b0) in
        subst (λ n. BoundCounts n (changed_bound (one_done (length bytes)) (changed_bound (more kids) (bound_at core.boundaries.bounds b0))))
        (ap (λ (b : Bool). tasks_of next (Some boundary) + cond b kids 0) (sym own_it))
        (done_bound (tasks_of next (Some boundary)) (tasks_of core (Some boundary)) kids (length bytes)
        (bound_at core.boundaries.bounds b0) (omega (arith, fewer (Some boundary), ap one own_it))
        (subst (λ i. BoundCounts (tasks_of core (Some boundary)) (bound_at core.boundaries.bounds i)) same
        (counted.counts boundary live)))

    at_other : (boundary : ℕ) → (boundary ≡ b0 → ⊥) → IsLive core boundary
        → BoundCounts (tasks_of next (Some boundary) + share (Some boundary) (Some b0) kids) (bound_at core.boundaries.bounds boundary)
    at_other boundary apart live =
        let no_owner : same_owner (Some boundary) (Some b0) ≡ false =
        other_owner (Some boundary) (Some b0) (some_apart boundary b0 apart) in
        subst (λ n. BoundCounts n (bound_at core.boundaries.bounds boundary))
        (omega (arith, fewer (Some boundary), ap one no_owner, ap (λ (b : Bool). cond b kids 0) no_owner))
        (counted.counts boundary live)

queued_counted : (owner : Option ℕ) (segment : ℕ) (core : Core) → TasksCounted core → TasksCounted (queued owner segment core)
queued_counted owner segment core counted =
    same_counted core (queued owner segment core)
    (record { owners = refl; states = refl; gone = λ task. refl; bounds = refl; shell = refl })
    (record { owned = counted.tasks.owned; places = counted.tasks.places; owners = counted.tasks.owners }) counted

taken_counted : (outcomes : List (Entry Outcome)) (work : Work) (bytes : List ℕ) (kids : List Kid) (found : Option Claim)
    (old new : Core) → keeps old work ≡ true → TasksCounted old → TakesPieceIf outcomes work bytes kids found old new
    → TasksCounted new
taken_counted outcomes work bytes kids None old new kept counted takes = absurd takes
taken_counted outcomes work bytes kids (Some claim) old new kept counted takes =
    let roomy : Core = takes.roomy in
    let room : TasksCounted roomy =
    roomy_counted old roomy takes.same (roomy_fit old roomy takes.same counted.tasks) counted in
    let left : IsLeft roomy work.task = ap (λ (c : Core). is_gone (state_at c.tasks.states work.task)) takes.same
    ∙ work_left old work kept in
    let owner : Option ℕ = owner_of old work in
    let own : owner ≡ owner_at roomy.tasks.owners work.task =
    ap (λ (c : Core). owner_at c.tasks.owners work.task) (sym takes.same) in
    let core : Core = begun owner claim.segment work bytes (length kids) roomy in
    let made : List Made = map (made_of outcomes core.settled) kids in
    let started : BeingCounted owner (length made) core =
    subst (λ n. BeingCounted owner n core) (sym (length-map kids (made_of outcomes core.settled)))
    (begun_counted owner claim.segment work bytes (length kids) roomy left own room) in
    subst TasksCounted (sym takes.taken)
    (queued_counted owner claim.segment (with_all_made owner claim.segment made core)
    (all_counted owner claim.segment made core started))

owner_failed_counted : (owner : Option ℕ) (digest : List ℕ) (old new : Core)
    → ((boundary : ℕ) → owner ≡ Some boundary → boundary < length old.boundaries.bounds) → TasksCounted old
    → FailsOwner owner digest old new → TasksCounted new
owner_failed_counted None digest old new made counted is = subst TasksCounted (sym is) (shell_counted digest old counted)
owner_failed_counted (Some boundary) digest old new made counted fails =
    failed_counted boundary digest old new (made boundary refl) counted fails

pub committed_counts : (outcomes : List (Entry Outcome)) (one_piece : Piece) (old new : Core) → TasksCounted old
    → CommitsPiece outcomes one_piece old new → TasksCounted new
committed_counts outcomes (piece.Done work bytes kids) old new counted commits =
    taken_counted outcomes work bytes.items kids (claim_at old.claims work.task) old new commits.kept counted commits.committed
committed_counts outcomes (piece.Blocked work resource) old new counted commits =
    subst TasksCounted (sym commits.committed)
    (blocked_keeps TasksCounted outcomes work resource old (given_back_counted work old commits.kept counted)
    (put_off_counted work resource old commits.kept counted) commits.kept)
committed_counts outcomes (piece.Failed work digest) old new counted commits =
    owner_failed_counted (owner_of old work) digest old new
    (λ boundary is. counted.tasks.owners work.task boundary (work_left old work commits.kept) is) counted commits.committed
