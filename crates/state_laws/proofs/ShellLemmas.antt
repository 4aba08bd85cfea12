-- While the shell has a task nothing goes on being sent, and where it has failed nothing was.
use Rattle.std.proofs.Common.{◌≡◌, ℕ, zero, suc, ◌<◌, ◌≤◌, Bool, true, false, not, ◌&&◌, List, [], ◌∷◌, length, map, Option, Some, None, refl, sym, ap, subst, ◌∙◌, arith}
use Rattle.settle_script.specs.declared.value.Entry.{Entry}
use Rattle.settle_script.specs.declared.outcome.Outcome.{Outcome}
use Rattle.fizz_piece.specs.declared.piece.Kid.{Kid}
use Rattle.fizz_piece.specs.declared.piece.Piece.{Piece}
use Rattle.fizz_piece.specs.declared.piece.Piece.TheVariants as piece
use Rattle.fizz_piece.specs.declared.plan.Plan.{Plan}
use Rattle.fizz_piece.specs.declared.work.Work.{Work}
use Rattle.fizz_task.specs.declared.state.State.{State}
use Rattle.fizz_task.specs.declared.state.State.TheVariants.{Runnable, Claimed, Waiting}
use Rattle.fizz_task.specs.Board.{one, state_at}
use Rattle.fizz_task.specs.Calls.{owner_at, same_owner}
use Rattle.fizz_task.specs.Indexed.{is_gone}
use Rattle.request_state.specs.declared.job.Claim.{Claim}
use Rattle.request_state.specs.declared.job.Job.{Job}
use Rattle.request_state.specs.declared.making.Made.{Made}
use Rattle.request_state.specs.declared.making.Made.TheVariants as m
use Rattle.request_state.specs.Claiming.{HandsOut, claim_at, given_back, given_back_to, job_again, keeps, kept_of, owner_of}
use Rattle.request_state.specs.Closing.{Closes}
use Rattle.request_state.specs.Committing.{CommitsPiece, TakesPieceIf, counted, put_off_to, with_bytes}
use Rattle.request_state.specs.Core.{Core, free, new_core}
use Rattle.request_state.specs.Failing.{FailsBoundary, FailsOwner, marked_failed, with_dropped, with_shell_failed}
use Rattle.request_state.specs.Flushing.{AppendsFlush, FlushesState, FlushesUnless}
use Rattle.request_state.specs.Making.{made_of, with_all_made, with_made}
use Rattle.request_state.specs.Reclaiming.{with_reclaimed}
use Rattle.request_state.specs.Settling.{Settles, with_settled}
use Rattle.state_laws.specs.Counts.{TasksCounted, count_owned}
use Rattle.state_laws.specs.Shell.{HasSentNothing, ShellHolds}
use Rattle.state_laws.specs.Tasks.{IsLeft, TasksFit}
use Rattle.state_laws.proofs.Calls.{blocked_keeps, each_failed_keeps, failed_keeps, returned_keeps}
use Rattle.state_laws.proofs.ClaimsLemmas.{work_left}
use Rattle.state_laws.proofs.CountsLemmas.{claimed_counts, committed_counts, failed_counted, first_counts, flushed_counts, reclaimed_counts, returned_counts, settles_counts, shell_counted}
use Rattle.state_laws.proofs.TasksLemmas.{ChangesTask, changed_same, dropped_fit, dropped_same, handed, handed_changes, is_handed, marked_fit, none_left, reclaimed_same, same_self, settled_same}

nothing : (digest : List ℕ) → ◌≡◌ {A = Option (List ℕ)} None (Some digest) → ⊥
nothing digest e = cc

gone_false : true ≡ false → ⊥
gone_false e = cc

-- what isn't said of counts
record Still (core : Core) : Type 0 where
  working : 0 < core.shell_tasks → HasSentNothing core
  failed : (digest : List ℕ) → core.failure ≡ Some digest → HasSentNothing core × ((task : ℕ) → IsLeft core task → ⊥)

still_of : (core : Core) → ShellHolds core → Still core
still_of core holds = record { working = holds.working; failed = holds.failed }

-- nothing is sent, the shell has no more tasks, and no more are left
record StaysUnsent (old new : Core) : Type 0 where
  transcript : new.transcript ≡ old.transcript
  marks : new.marks ≡ old.marks
  failure : new.failure ≡ old.failure
  shell : 0 < new.shell_tasks → 0 < old.shell_tasks
  left : (task : ℕ) → IsLeft new task → IsLeft old task

sent_nothing : (old new : Core) → StaysUnsent old new → HasSentNothing old → HasSentNothing new
sent_nothing old new stays sent =
    record { transcript = stays.transcript ∙ sent.transcript; marks = stays.marks ∙ sent.marks }

still_stays : (old new : Core) → StaysUnsent old new → Still old → Still new
still_stays old new stays still = record {
  working = λ some. sent_nothing old new stays (still.working (stays.shell some));
  failed = λ digest is.
      let was : HasSentNothing old × ((task : ℕ) → IsLeft old task → ⊥) = still.failed digest (sym stays.failure ∙ is) in
      (sent_nothing old new stays was.0, λ task left. was.1 task (stays.left task left));
}

holds : (core : Core) → TasksCounted core → Still core → ShellHolds core
holds core counted still = record { counted = counted; working = still.working; failed = still.failed }

pub first_shell : (core : Core) → free core ≡ new_core → ShellHolds core
first_shell core is = record {
  counted = first_counts core is;
  working = λ some. record {
    transcript = ap (λ (c : Core). c.transcript) is;
    marks = ap (λ (c : Core). c.marks) is;
  };
  failed = λ digest failed. absurd (nothing digest (sym (ap (λ (c : Core). c.failure) is) ∙ failed));
}

pub settles_shell : (outcomes : List (Entry Outcome)) (old new : Core) → ShellHolds old → Settles outcomes old new → ShellHolds new
settles_shell outcomes old new shell settles =
    holds new (settles_counts outcomes old new shell.counted settles)
    (subst Still (sym settles.settled) (still_stays old (with_settled settles.name old) (record {
      transcript = refl;
      marks = refl;
      failure = refl;
      shell = λ some. some;
      left = (settled_same settles.name old).left;
    }) (still_of old shell)))

-- one task changes
changed_still : (task : ℕ) (state : State Job) (claim : Option Claim) (old new : Core) → ChangesTask task state claim old new
    → new.transcript ≡ old.transcript → new.marks ≡ old.marks → new.failure ≡ old.failure → new.shell_tasks ≡ old.shell_tasks
    → Still old → Still new
changed_still task state claim old new change transcript marks failure shell still =
    still_stays old new (record {
      transcript = transcript;
      marks = marks;
      failure = failure;
      shell = λ some. subst (λ n. 0 < n) shell some;
      left = (changed_same task state claim old new change).left;
    }) still

pub claimed_shell : (old new : Core) (work : Work) → ShellHolds old → HandsOut old new work → ShellHolds new
claimed_shell old new work shell out =
    holds new (claimed_counts old new work shell.counted out)
    (subst Still (sym (is_handed old new work out))
    (changed_still work.task (Claimed old.tasks.claims) (Some (kept_of old out.job)) old
    (handed work.task new.tasks.queue out.job old) (handed_changes old new work out) refl refl refl refl (still_of old shell)))

given_back_still : (work : Work) (core : Core) → keeps core work ≡ true → Still core → (claim : Claim)
    → Still (given_back_to work (Some claim) core)
given_back_still work core kept still claim =
    changed_still work.task (Runnable (job_again work claim)) None core (given_back_to work (Some claim) core)
    (record { owners = refl; states = refl; claims = refl; bounds = refl; left = work_left core work kept })
    refl refl refl refl still

put_off_still : (work : Work) (resource : List ℕ) (core : Core) → keeps core work ≡ true → Still core → (claim : Claim)
    → Still (put_off_to work resource (Some claim) core)
put_off_still work resource core kept still claim =
    changed_still work.task (Waiting resource (job_again work claim)) None core (put_off_to work resource (Some claim) core)
    (record { owners = refl; states = refl; claims = refl; bounds = refl; left = work_left core work kept })
    refl refl refl refl still

pub returned_shell : (work : Work) (old : Core) → ShellHolds old → keeps old work ≡ true → ShellHolds (given_back work old)
returned_shell work old shell kept =
    holds (given_back work old) (returned_counts work old shell.counted kept)
    (returned_keeps Still work old (λ claim is. given_back_still work old kept (still_of old shell) claim) kept)

pub reclaimed_shell : (old : Core) → ShellHolds old → ShellHolds (with_reclaimed old)
reclaimed_shell old shell =
    holds (with_reclaimed old) (reclaimed_counts old shell.counted)
    (still_stays old (with_reclaimed old) (record {
      transcript = refl;
      marks = refl;
      failure = refl;
      shell = λ some. some;
      left = (reclaimed_same old).left;
    }) (still_of old shell))

-- Failures.

abbrev Fits : Core → Type 0
Fits core = TasksFit core × Still core

dropped_still : (boundary : ℕ) (core : Core) → Fits core → Fits (with_dropped boundary core)
dropped_still boundary core fits = (
  dropped_fit boundary core fits.0,
  still_stays core (with_dropped boundary core) (record {
    transcript = refl;
    marks = refl;
    failure = refl;
    shell = λ some. some;
    left = (dropped_same boundary core fits.0).left;
  }) fits.1,
)

marked_still : (boundary : ℕ) (digest : List ℕ) (core : Core) → Fits core → Fits (marked_failed boundary digest core)
marked_still boundary digest core fits = (
  marked_fit boundary digest core fits.0,
  record {
    working = λ some. let was : HasSentNothing core = fits.1.working some in
        record { transcript = was.transcript; marks = was.marks };
    failed = λ digest is. let was : HasSentNothing core × ((task : ℕ) → IsLeft core task → ⊥) = fits.1.failed digest is in
        (record { transcript = was.0.transcript; marks = was.0.marks }, was.1);
  },
)

failed_shell : (boundary : ℕ) (digest : List ℕ) (old new : Core) → boundary < length old.boundaries.bounds → ShellHolds old
    → FailsBoundary boundary digest old new → ShellHolds new
failed_shell boundary digest old new made shell fails =
    holds new (failed_counted boundary digest old new made shell.counted fails)
    (failed_keeps Fits dropped_still marked_still boundary digest old new (shell.counted.tasks, still_of old shell) fails).1

-- the shell fails, which has a task
shell_failed : (digest : List ℕ) (core : Core) → 0 < core.shell_tasks → ShellHolds core → ShellHolds (with_shell_failed digest core)
shell_failed digest core some shell = record {
  counted = shell_counted digest core shell.counted;
  working = λ more. absurd (omega (arith, more));
  failed = λ other is. (
    record { transcript = (shell.working some).transcript; marks = (shell.working some).marks },
    λ task left. none_left digest core task shell.counted.tasks left,
  );
}

closed_by : (tasks failed : ℕ) (old new : Core) → old.shell_tasks ≡ tasks → ShellHolds old → Closes tasks old new failed
    → ShellHolds new
closed_by zero failed old new is shell closes =
    each_failed_keeps ShellHolds failed_shell (length old.boundaries.bounds) 0 failed old new shell closes
closed_by (suc tasks) failed old new is shell closes =
    subst ShellHolds (sym closes.0) (shell_failed _ old (omega (arith, is)) shell)

pub closed_shell : (failed : ℕ) (old new : Core) → ShellHolds old → Closes old.shell_tasks old new failed → ShellHolds new
closed_shell failed old new shell closes = closed_by old.shell_tasks failed old new refl shell closes

-- Flushes.

appended_still : (plan : Plan) (budget : ℕ) (old new : Core) → old.shell_tasks ≡ 0 → old.failure ≡ None
    → AppendsFlush plan budget old new → Still new
appended_still plan budget old new tasks failure flush = record {
  working = λ some. absurd (omega (arith, some, ap (λ (c : Core). c.shell_tasks) flush.changed, tasks));
  failed = λ digest is. absurd (nothing digest (sym (ap (λ (c : Core). c.failure) flush.changed ∙ failure) ∙ is));
}

flushed_still : (plan : Plan) (budget tasks : ℕ) (failure : Option (List ℕ)) (old new : Core) → old.shell_tasks ≡ tasks
    → old.failure ≡ failure → Still old → FlushesUnless tasks failure plan budget old new → Still new
flushed_still plan budget zero None old new tasks failure still flushes = appended_still plan budget old new tasks failure flushes
flushed_still plan budget zero (Some digest) old new tasks failure still same = subst Still (sym same) still
flushed_still plan budget (suc more) failure old new tasks failed still same = subst Still (sym same) still

pub flushed_shell : (plan : Plan) (budget : ℕ) (old new : Core) → ShellHolds old → FlushesState plan budget old new → ShellHolds new
flushed_shell plan budget old new shell flushes =
    holds new (flushed_counts plan budget old new shell.counted flushes)
    (flushed_still plan budget old.shell_tasks old.failure old new refl refl (still_of old shell) flushes)

-- Pieces.

-- an owner of a task that is left has one
count-at : (owner : Option ℕ) (owners : List (Option ℕ)) (states : List (State Job)) (task : ℕ) → length owners ≡ length states
    → is_gone (state_at states task) ≡ false → owner_at owners task ≡ owner → 1 ≤ count_owned owner owners states
count-at owner [] [] task many left is = absurd (gone_false left)
count-at owner [] (state ∷ states) task many left is = absurd (omega arith)
count-at owner (first ∷ owners) [] task many left is = absurd (gone_false left)
count-at owner (first ∷ owners) (state ∷ states) zero many left is =
    omega (
      arith,
      ap one (ap (λ (o : Option ℕ). same_owner owner o && not (is_gone state)) is
          ∙ ap (λ (b : Bool). b && not (is_gone state)) (same_self owner) ∙ ap not left),
    )
count-at owner (first ∷ owners) (state ∷ states) (suc task) many left is =
    omega (arith, count-at owner owners states task (omega arith) left is)

-- a task that is the shell's
shell_works : (core : Core) (task : ℕ) → TasksCounted core → IsLeft core task → owner_at core.tasks.owners task ≡ None
    → 0 < core.shell_tasks
shell_works core task counted left is =
    omega (arith, counted.shell, count-at None core.tasks.owners core.tasks.states task counted.tasks.owned left is)

-- nothing is sent, and the shell didn't fail
record SendsNone (old new : Core) : Type 0 where
  transcript : new.transcript ≡ old.transcript
  marks : new.marks ≡ old.marks
  failure : new.failure ≡ old.failure
  shell : new.shell_tasks ≡ old.shell_tasks

joined : (a b c : Core) → SendsNone a b → SendsNone b c → SendsNone a c
joined a b c first second = record {
  transcript = second.transcript ∙ first.transcript;
  marks = second.marks ∙ first.marks;
  failure = second.failure ∙ first.failure;
  shell = second.shell ∙ first.shell;
}

made_none : (owner : Option ℕ) (parent : ℕ) (made : Made) (core : Core) → SendsNone core (with_made owner parent made core)
made_none owner parent (m.Hole place lead position waits) core =
    record { transcript = refl; marks = refl; failure = refl; shell = refl }
made_none owner parent (m.Boundary place path content fallback) core =
    record { transcript = refl; marks = refl; failure = refl; shell = refl }

all_made_none : (owner : Option ℕ) (parent : ℕ) (all : List Made) (core : Core)
    → SendsNone core (with_all_made owner parent all core)
all_made_none owner parent [] core = record { transcript = refl; marks = refl; failure = refl; shell = refl }
all_made_none owner parent (made ∷ later) core =
    joined core (with_made owner parent made core) (with_all_made owner parent later (with_made owner parent made core))
    (made_none owner parent made core) (all_made_none owner parent later (with_made owner parent made core))

-- a piece is counted: the shell has no task afterwards unless it had one
record CountsNone (old new : Core) : Type 0 where
  transcript : new.transcript ≡ old.transcript
  marks : new.marks ≡ old.marks
  failure : new.failure ≡ old.failure

counted_none : (owner : Option ℕ) (tasks size : ℕ) (core : Core) → CountsNone core (counted owner tasks size core)
counted_none None tasks size core = record { transcript = refl; marks = refl; failure = refl }
counted_none (Some boundary) tasks size core = record { transcript = refl; marks = refl; failure = refl }

counted_shell : (owner : Option ℕ) (tasks size : ℕ) (core : Core) → (owner ≡ None → 0 < core.shell_tasks)
    → 0 < (counted owner tasks size core).shell_tasks → 0 < core.shell_tasks
counted_shell None tasks size core has some = has refl
counted_shell (Some boundary) tasks size core has some = some

taken_still : (outcomes : List (Entry Outcome)) (work : Work) (bytes : List ℕ) (kids : List Kid) (found : Option Claim)
    (old new : Core) → keeps old work ≡ true → ShellHolds old → TakesPieceIf outcomes work bytes kids found old new → Still new
taken_still outcomes work bytes kids None old new kept shell takes = absurd takes
taken_still outcomes work bytes kids (Some claim) old new kept shell takes =
    let roomy : Core = takes.roomy in
    let owner : Option ℕ = owner_of old work in
    let begun : Core = with_bytes work claim.segment bytes roomy in
    let core : Core = counted owner (length kids) (length bytes) begun in
    let made : List Made = map (made_of outcomes core.settled) kids in
    let end : Core = with_all_made owner claim.segment made core in
    let counts : CountsNone begun core = counted_none owner (length kids) (length bytes) begun in
    let rest : SendsNone core end = all_made_none owner claim.segment made core in
    let transcript : end.transcript ≡ old.transcript =
    rest.transcript ∙ counts.transcript ∙ ap (λ (c : Core). c.transcript) takes.same in
    let marks : end.marks ≡ old.marks = rest.marks ∙ counts.marks ∙ ap (λ (c : Core). c.marks) takes.same in
    let failure : end.failure ≡ old.failure = rest.failure ∙ counts.failure ∙ ap (λ (c : Core). c.failure) takes.same in
    let tasks : roomy.shell_tasks ≡ old.shell_tasks = ap (λ (c : Core). c.shell_tasks) takes.same in
    let left : IsLeft old work.task = work_left old work kept in
    let had : owner ≡ None → 0 < begun.shell_tasks =
    λ is. subst (λ n. 0 < n) (sym tasks) (shell_works old work.task shell.counted left is) in
    subst Still (sym takes.taken) (record {
      working = λ some.
          let was : HasSentNothing old = shell.working (subst (λ n. 0 < n) tasks
          (counted_shell owner (length kids) (length bytes) begun had (subst (λ n. 0 < n) rest.shell some))) in
          record { transcript = transcript ∙ was.transcript; marks = marks ∙ was.marks };
      failed = λ digest is. absurd ((shell.failed digest (sym failure ∙ is)).1 work.task left);
    })

owner_failed_shell : (owner : Option ℕ) (digest : List ℕ) (old new : Core)
    → (owner ≡ None → 0 < old.shell_tasks) → ((boundary : ℕ) → owner ≡ Some boundary → boundary < length old.boundaries.bounds)
    → ShellHolds old → FailsOwner owner digest old new → ShellHolds new
owner_failed_shell None digest old new works made shell is =
    subst ShellHolds (sym is) (shell_failed digest old (works refl) shell)
owner_failed_shell (Some boundary) digest old new works made shell fails =
    failed_shell boundary digest old new (made boundary refl) shell fails

pub committed_shell : (outcomes : List (Entry Outcome)) (one_piece : Piece) (old new : Core) → ShellHolds old
    → CommitsPiece outcomes one_piece old new → ShellHolds new
committed_shell outcomes (piece.Done work bytes kids) old new shell commits =
    holds new (committed_counts outcomes (piece.Done work bytes kids) old new shell.counted commits)
    (taken_still outcomes work bytes.items kids (claim_at old.claims work.task) old new commits.kept shell commits.committed)
committed_shell outcomes (piece.Blocked work resource) old new shell commits =
    holds new (committed_counts outcomes (piece.Blocked work resource) old new shell.counted commits)
    (subst Still (sym commits.committed)
    (blocked_keeps Still outcomes work resource old
    (λ claim is. given_back_still work old commits.kept (still_of old shell) claim)
    (λ claim is. put_off_still work resource old commits.kept (still_of old shell) claim) commits.kept))
committed_shell outcomes (piece.Failed work digest) old new shell commits =
    owner_failed_shell (owner_of old work) digest old new
    (shell_works old work.task shell.counted (work_left old work commits.kept))
    (λ boundary is. shell.counted.tasks.owners work.task boundary (work_left old work commits.kept) is) shell commits.committed
