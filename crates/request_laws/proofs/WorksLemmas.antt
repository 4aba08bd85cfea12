-- What tasks are to do goes on standing at its path.
use Rattle.std.proofs.Common.{◌≡◌, ℕ, zero, suc, ◌+◌, ◌<◌, ◌≤◌, ◌⊎◌, Bool, true, false, ◌&&◌, if◌then◌else◌, is_some, List, [], ◌∷◌, ◌++◌, length, map, slice_index_or, All, inl, inr, Option, Some, None, refl, sym, ap, subst, ◌∙◌, arith}
use Rattle.std.proofs.lemmas.Bool.{cases_lt, eqb-true}
use Rattle.std.proofs.lemmas.List.{get_or_past}
use Rattle.std.proofs.lemmas.List.Elements.{All-cons, All-head, All-map, All-nil, All-push, All-set, All-tail, All-weaker}
use Rattle.settle_script.specs.declared.value.Entry.{Entry}
use Rattle.settle_script.specs.declared.outcome.Outcome.{Outcome}
use Rattle.settle_script.specs.Settlements.{known, name_at}
use Rattle.fizz_piece.specs.declared.piece.Kid.{Kid}
use Rattle.fizz_piece.specs.declared.piece.Kid.TheVariants as kid
use Rattle.fizz_piece.specs.declared.piece.Piece.{Piece}
use Rattle.fizz_piece.specs.declared.piece.Piece.TheVariants as piece
use Rattle.fizz_piece.specs.declared.plan.Plan.{Plan}
use Rattle.fizz_piece.specs.declared.work.Work.{Work}
use Rattle.fizz_piece.specs.Pieces.{IsGoodWork, IsPieceOf, IsPlaced, page_under}
use Rattle.fizz_task.specs.declared.state.State.{State}
use Rattle.fizz_task.specs.declared.state.State.TheVariants.{Gone, Runnable, Claimed, Waiting}
use Rattle.fizz_task.specs.Board.{Board, claim_of, count_of, is_claimed, state_at}
use Rattle.fizz_task.specs.Calls.{dropped, same_owner, without_owned, woken}
use Rattle.request_state.specs.declared.job.Claim.{Claim}
use Rattle.request_state.specs.declared.job.Job.{Job}
use Rattle.request_state.specs.declared.job.Place.{Place}
use Rattle.request_state.specs.declared.making.Made.{Made}
use Rattle.request_state.specs.declared.making.Made.TheVariants as m
use Rattle.request_state.specs.declared.making.Twin.{Twin}
use Rattle.request_state.specs.Claiming.{HandsOut, claim_at, given_back, given_back_to, is_claim, is_kept_as, job_again, keeps, kept_of, place_in as place_of_work}
use Rattle.request_state.specs.Closing.{Closes, FailEach, FailsIf, is_working, unsettled}
use Rattle.request_state.specs.Committing.{CommitsPiece, TakesPieceIf, counted, put_off_to, queued, with_blocked, with_bytes}
use Rattle.request_state.specs.Core.{Core, free, new_core, root_job}
use Rattle.request_state.specs.Failing.{FailsBoundary, FailsOwner, all_dropped, each_dropped, with_dropped, with_shell_failed}
use Rattle.request_state.specs.Flushing.{FlushesState, FlushesUnless}
use Rattle.request_state.specs.Making.{made_of, with_all_made, with_made, with_task}
use Rattle.request_state.specs.Reclaiming.{again, all_again, job_kept, nothing_kept, renumbered_if, returned_if, with_reclaimed}
use Rattle.request_state.specs.Settling.{Settles, with_settled}
use Rattle.request_laws.specs.Works.{ClaimStands, IsKeptClaim, JobStands, Stands, TaskStands, WorksStand}

-- A place goes on standing where more is settled.
abbrev pub StandsLater : Plan → Type 0
StandsLater plan = (first after : ℕ) (place : Place) → first ≤ after → Stands plan first place → Stands plan after place

-- the same settlements, tasks and claims
pub carried : (plan : Plan) (old new : Core) → new.settled ≡ old.settled → new.tasks.states ≡ old.tasks.states
    → new.claims ≡ old.claims → WorksStand plan old → WorksStand plan new
carried plan old new settled states claims works = record {
  within = subst (λ n. n ≤ length plan.outcomes.now) (sym settled) works.within;
  tasks = subst (λ n. All (TaskStands plan n) new.tasks.states) (sym settled)
      (subst (λ (l : List (State Job)). All (TaskStands plan old.settled) l) (sym states) works.tasks);
  claims = subst (λ n. All (ClaimStands plan n) new.claims) (sym settled)
      (subst (λ (l : List (Option Claim)). All (ClaimStands plan old.settled) l) (sym claims) works.claims);
}

at_any : {X : Type 0} (P : X → Type 0) (xs : List X) (d : X) (i : ℕ) → P d → All P xs → P (slice_index_or xs i d)
at_any P xs d i default all = read (cases_lt i (length xs))
  where
    read : (i < length xs) ⊎ (length xs ≤ i) → P (slice_index_or xs i d)
    read (inl inside) = all i d inside
    read (inr past) = subst P (sym (get_or_past xs i d past)) default

-- At first.

pub first_works : (plan : Plan) (core : Core) → free core ≡ new_core → WorksStand plan core
first_works plan core is =
    carried plan new_core core (ap (λ (c : Core). c.settled) is) (ap (λ (c : Core). c.tasks.states) is)
    (ap (λ (c : Core). c.claims) is) (record {
      within = omega arith;
      tasks = All-cons (TaskStands plan 0) (Runnable (root_job 0)) [] (record { given = refl; kept = refl })
          (All-nil (TaskStands plan 0));
      claims = All-cons (ClaimStands plan 0) None [] tt (All-nil (ClaimStands plan 0));
    })

-- Settlements.

no_name : (name : List ℕ) → None ≡ Some name → ⊥
no_name name is = cc

named_within : (outcomes : List (Entry Outcome)) (n : ℕ) (name : List ℕ) → name_at outcomes n ≡ Some name → n < length outcomes
named_within [] zero name is = absurd (no_name name is)
named_within [] (suc n) name is = absurd (no_name name is)
named_within (outcome ∷ outcomes) zero name is = omega arith
named_within (outcome ∷ outcomes) (suc n) name is = omega (arith, named_within outcomes n name is)

job_later : (plan : Plan) → StandsLater plan → (first after : ℕ) (job : Job) → first ≤ after
    → JobStands plan first job → JobStands plan after job
job_later plan later first after job more stands = record {
  given = later first after job.given more stands.given;
  kept = later first after job.kept more stands.kept;
}

woken_waits : (plan : Plan) (n : ℕ) (wakes : Bool) (resource : List ℕ) (job : Job) → JobStands plan n job
    → TaskStands plan n (if wakes then Runnable job else Waiting resource job)
woken_waits plan n true resource job stands = stands
woken_waits plan n false resource job stands = stands

woken_later : (plan : Plan) → StandsLater plan → (first after : ℕ) (name : List ℕ) (state : State Job) → first ≤ after
    → TaskStands plan first state → TaskStands plan after (woken name state)
woken_later plan later first after name Gone more stands = tt
woken_later plan later first after name (Runnable job) more stands = job_later plan later first after job more stands
woken_later plan later first after name (Claimed claim) more stands = tt
woken_later plan later first after name (Waiting resource job) more stands =
    woken_waits plan after _ resource job (job_later plan later first after job more stands)

claim_later : (plan : Plan) → StandsLater plan → (first after : ℕ) (claim : Option Claim) → first ≤ after
    → ClaimStands plan first claim → ClaimStands plan after claim
claim_later plan later first after None more stands = tt
claim_later plan later first after (Some claim) more stands = record {
  within = omega (arith, more, stands.within);
  stands = later first after claim.place more stands.stands;
}

settled_works : (plan : Plan) → StandsLater plan → (old : Core) (name : List ℕ)
    → name_at plan.outcomes.now old.settled ≡ Some name → WorksStand plan old → WorksStand plan (with_settled name old)
settled_works plan later old name named works =
    let n : ℕ = old.settled in
    let more : n ≤ n + 1 = omega arith in
    record {
      within = omega (arith, named_within plan.outcomes.now n name named);
      tasks = All-map (TaskStands plan (n + 1)) (woken name) old.tasks.states
          (All-weaker (TaskStands plan n) (λ state. TaskStands plan (n + 1) (woken name state))
          (λ state stands. woken_later plan later n (n + 1) name state more stands) old.tasks.states works.tasks);
      claims = All-weaker (ClaimStands plan n) (ClaimStands plan (n + 1))
          (λ claim stands. claim_later plan later n (n + 1) claim more stands) old.claims works.claims;
    }

pub settles_works : (plan : Plan) → StandsLater plan → (old new : Core) → WorksStand plan old
    → Settles plan.outcomes.now old new → WorksStand plan new
settles_works plan later old new works settles =
    subst (WorksStand plan) (sym settles.settled) (settled_works plan later old settles.name settles.next works)

-- Claims.

job_stands : (plan : Plan) (core : Core) (task : ℕ) (job : Job) → WorksStand plan core
    → state_at core.tasks.states task ≡ Runnable job → JobStands plan core.settled job
job_stands plan core task job works is =
    subst (TaskStands plan core.settled) is
    (at_any (TaskStands plan core.settled) core.tasks.states Gone task tt works.tasks)

pub claimed_works : (plan : Plan) (old new : Core) (work : Work) → WorksStand plan old → HandsOut old new work
    → WorksStand plan new
claimed_works plan old new work works out =
    let stands : JobStands plan old.settled out.job = job_stands plan old work.task out.job works out.claimed.payload in
    subst (WorksStand plan) (sym out.changed) (record {
      within = works.within;
      tasks = subst (λ (board : Board Job). All (TaskStands plan old.settled) board.states) (sym out.claimed.changed)
          (All-set (TaskStands plan old.settled) old.tasks.states work.task (Claimed old.tasks.claims) tt works.tasks);
      claims = All-set (ClaimStands plan old.settled) old.claims work.task (Some (kept_of old out.job))
          (record { within = omega arith; stands = stands.kept }) works.claims;
    })

pub claimed_good : (plan : Plan) (old new : Core) (work : Work) → WorksStand plan old → HandsOut old new work
    → IsGoodWork plan work
claimed_good plan old new work works out =
    let stands : JobStands plan old.settled out.job = job_stands plan old work.task out.job works out.claimed.payload in
    subst (IsGoodWork plan) (sym out.given) (record { within = works.within; stands = stands.given })

-- Works that come back.

not_false : false ≡ true → ⊥
not_false is = cc

second : (a b c d : Bool) → (a && b && c && d) ≡ true → b ≡ true
second true true c d is = refl
second true false c d is = absurd (not_false is)
second false b c d is = absurd (not_false is)

right : (a b : Bool) → (a && b) ≡ true → b ≡ true
right true b is = is
right false b is = absurd (not_false is)

settled_within : (plan : Plan) (work : Work) (n : ℕ) (claim : Claim) → is_kept_as work (Some claim) ≡ true
    → IsKeptClaim plan n claim → work.settled ≤ n
settled_within plan work n claim kept stands =
    omega (arith, stands.within, eqb-true claim.settled work.settled (second _ _ _ _ kept))

again_stands : (plan : Plan) → StandsLater plan → (n : ℕ) (work : Work) (claim : Claim) → IsGoodWork plan work
    → is_kept_as work (Some claim) ≡ true → IsKeptClaim plan n claim → JobStands plan n (job_again work claim)
again_stands plan later n work claim good kept stands = record {
  given = later work.settled n (place_of_work work) (settled_within plan work n claim kept stands) good.stands;
  kept = stands.stands;
}

returned_to : (plan : Plan) → StandsLater plan → (old : Core) (work : Work) (claim : Option Claim) → WorksStand plan old
    → IsGoodWork plan work → is_kept_as work claim ≡ true → ClaimStands plan old.settled claim
    → WorksStand plan (given_back_to work claim old)
returned_to plan later old work None works good kept stands = works
returned_to plan later old work (Some claim) works good kept stands = record {
  within = works.within;
  tasks = All-set (TaskStands plan old.settled) old.tasks.states work.task (Runnable (job_again work claim))
      (again_stands plan later old.settled work claim good kept stands) works.tasks;
  claims = All-set (ClaimStands plan old.settled) old.claims work.task None tt works.claims;
}

waiting_to : (plan : Plan) → StandsLater plan → (old : Core) (work : Work) (resource : List ℕ) (claim : Option Claim)
    → WorksStand plan old → IsGoodWork plan work → is_kept_as work claim ≡ true → ClaimStands plan old.settled claim
    → WorksStand plan (put_off_to work resource claim old)
waiting_to plan later old work resource None works good kept stands = works
waiting_to plan later old work resource (Some claim) works good kept stands = record {
  within = works.within;
  tasks = All-set (TaskStands plan old.settled) old.tasks.states work.task (Waiting resource (job_again work claim))
      (again_stands plan later old.settled work claim good kept stands) works.tasks;
  claims = All-set (ClaimStands plan old.settled) old.claims work.task None tt works.claims;
}

kept_part : (core : Core) (work : Work) → keeps core work ≡ true → is_kept_as work (claim_at core.claims work.task) ≡ true
kept_part core work kept = right (is_claim work.claim (claim_of (state_at core.tasks.states work.task))) _ kept

claim_stands : (plan : Plan) (core : Core) (task : ℕ) → WorksStand plan core
    → ClaimStands plan core.settled (claim_at core.claims task)
claim_stands plan core task works = at_any (ClaimStands plan core.settled) core.claims None task tt works.claims

pub returned_works : (plan : Plan) → StandsLater plan → (old : Core) (work : Work) → WorksStand plan old
    → IsGoodWork plan work → keeps old work ≡ true → WorksStand plan (given_back work old)
returned_works plan later old work works good kept =
    returned_to plan later old work (claim_at old.claims work.task) works good (kept_part old work kept)
    (claim_stands plan old work.task works)

blocked_works : (plan : Plan) → StandsLater plan → (old : Core) (work : Work) (resource : List ℕ) (is_known : Bool)
    → is_some (known plan.outcomes.now old.settled resource) ≡ is_known → WorksStand plan old → IsGoodWork plan work
    → keeps old work ≡ true → WorksStand plan (with_blocked plan.outcomes.now work resource old)
blocked_works plan later old work resource true is works good kept = rw is (returned_works plan later old work works good kept)
blocked_works plan later old work resource false is works good kept =
    rw is
    (waiting_to plan later old work resource (claim_at old.claims work.task) works good (kept_part old work kept)
    (claim_stands plan old work.task works))

-- Failures.

gone_or : (plan : Plan) (n : ℕ) (goes : Bool) (state : State Job) → TaskStands plan n state
    → TaskStands plan n (if goes then Gone else state)
gone_or plan n true state stands = tt
gone_or plan n false state stands = stands

without_owned_stands : (plan : Plan) (n : ℕ) (owner : Option ℕ) (owners : List (Option ℕ)) (states : List (State Job))
    → All (TaskStands plan n) states → All (TaskStands plan n) (without_owned owner owners states)
without_owned_stands plan n owner [] states all = all
without_owned_stands plan n owner (first ∷ owners) [] all = All-nil (TaskStands plan n)
without_owned_stands plan n owner (first ∷ owners) (state ∷ states) all =
    All-cons (TaskStands plan n) (if same_owner owner first then Gone else state) (without_owned owner owners states)
    (gone_or plan n (same_owner owner first) state (All-head (TaskStands plan n) state states all))
    (without_owned_stands plan n owner owners states (All-tail (TaskStands plan n) state states all))

each_dropped_stands : (plan : Plan) (n count from : ℕ) (board : Board Job) → All (TaskStands plan n) board.states
    → All (TaskStands plan n) (each_dropped count from board).states
each_dropped_stands plan n zero from board all = all
each_dropped_stands plan n (suc count) from board all =
    each_dropped_stands plan n count (from + 1) (dropped (Some from) board)
    (without_owned_stands plan n (Some from) board.owners board.states all)

shell_failed_works : (plan : Plan) (old : Core) (digest : List ℕ) → WorksStand plan old
    → WorksStand plan (with_shell_failed digest old)
shell_failed_works plan old digest works = record {
  within = works.within;
  tasks = each_dropped_stands plan old.settled (length old.boundaries.bounds) 0 (dropped None old.tasks)
      (without_owned_stands plan old.settled None old.tasks.owners old.tasks.states works.tasks);
  claims = All-nil (ClaimStands plan old.settled);
}

all_dropped_works : (plan : Plan) (within : List ℕ) (old : Core) → WorksStand plan old
    → WorksStand plan (all_dropped within old)
all_dropped_works plan [] old works = works
all_dropped_works plan (boundary ∷ later) old works =
    all_dropped_works plan later (with_dropped boundary old) (record {
      within = works.within;
      tasks = without_owned_stands plan old.settled (Some boundary) old.tasks.owners old.tasks.states works.tasks;
      claims = works.claims;
    })

failed_works : (plan : Plan) (boundary : ℕ) (digest : List ℕ) (old new : Core) → WorksStand plan old
    → FailsBoundary boundary digest old new → WorksStand plan new
failed_works plan boundary digest old new works fails =
    let between : WorksStand plan fails.between =
    subst (WorksStand plan) (sym fails.dropped.dropped) (all_dropped_works plan fails.dropped.within old works) in
    subst (WorksStand plan) (sym fails.failed)
    (record { within = between.within; tasks = between.tasks; claims = between.claims })

owner_failed_works : (plan : Plan) (owner : Option ℕ) (digest : List ℕ) (old new : Core) → WorksStand plan old
    → FailsOwner owner digest old new → WorksStand plan new
owner_failed_works plan None digest old new works is =
    subst (WorksStand plan) (sym is) (shell_failed_works plan old digest works)
owner_failed_works plan (Some boundary) digest old new works fails = failed_works plan boundary digest old new works fails

-- What is made of the kids of a piece.

abbrev TwinStands : Plan → ℕ → Twin → Type 0
TwinStands plan n twin = Stands plan n twin.given × Stands plan n twin.kept

abbrev MadeStands : Plan → ℕ → Made → Type 0
MadeStands plan n (m.Hole place lead position waits) = TwinStands plan n position
MadeStands plan n (m.Boundary place path content fallback) = TwinStands plan n content × TwinStands plan n fallback

kid_stands : (plan : Plan) → StandsLater plan → (first after settled : ℕ) (one : Kid) → first ≤ after
    → IsPlaced (page_under plan first) one → MadeStands plan after (made_of plan.outcomes.now settled one)
kid_stands plan later first after settled (kid.Hole place path spot scope resource lead) more placed =
    let stands : Stands plan after (record { path = path; spot = spot; scope = scope }) =
    later first after (record { path = path; spot = spot; scope = scope }) more placed in
    (stands, stands)
kid_stands plan later first after settled (kid.Boundary place path content content_scope fallback fallback_scope) more placed =
    let inner : Stands plan after (record { path = path ++ 0 ∷ []; spot = content; scope = content_scope }) =
    later first after (record { path = path ++ 0 ∷ []; spot = content; scope = content_scope }) more placed.0 in
    let other : Stands plan after (record { path = path ++ 1 ∷ []; spot = fallback; scope = fallback_scope }) =
    later first after (record { path = path ++ 1 ∷ []; spot = fallback; scope = fallback_scope }) more placed.1 in
    ((inner, inner), (other, other))

task_works : (plan : Plan) (owner : Option ℕ) (segment : ℕ) (twin : Twin) (waits : Option (List ℕ)) (core : Core)
    → TwinStands plan core.settled twin → WorksStand plan core → WorksStand plan (with_task owner segment twin waits core)
task_works plan owner segment twin None core stands works = record {
  within = works.within;
  tasks = All-push (TaskStands plan core.settled) core.tasks.states _ works.tasks
      (record { given = stands.0; kept = stands.1 });
  claims = All-push (ClaimStands plan core.settled) core.claims None works.claims tt;
}
task_works plan owner segment twin (Some resource) core stands works = record {
  within = works.within;
  tasks = All-push (TaskStands plan core.settled) core.tasks.states _ works.tasks
      (record { given = stands.0; kept = stands.1 });
  claims = All-push (ClaimStands plan core.settled) core.claims None works.claims tt;
}

made_works : (plan : Plan) (owner : Option ℕ) (parent : ℕ) (made : Made) (core : Core)
    → MadeStands plan core.settled made → WorksStand plan core → WorksStand plan (with_made owner parent made core)
made_works plan owner parent (m.Hole place lead position waits) core stands works =
    task_works plan owner (length core.segments.parts) position waits _ stands
    (record { within = works.within; tasks = works.tasks; claims = works.claims })
made_works plan owner parent (m.Boundary place path content fallback) core stands works =
    task_works plan owner (length core.segments.parts + 1) fallback None _ stands.1
    (task_works plan (Some (length core.boundaries.bounds)) (length core.segments.parts) content None _ stands.0
    (record { within = works.within; tasks = works.tasks; claims = works.claims }))

settled-made : (owner : Option ℕ) (parent : ℕ) (made : Made) (core : Core)
    → (with_made owner parent made core).settled ≡ core.settled
settled-made owner parent (m.Hole place lead position waits) core = refl
settled-made owner parent (m.Boundary place path content fallback) core = refl

all_made_works : (plan : Plan) (owner : Option ℕ) (parent n : ℕ) (all : List Made) (core : Core) → core.settled ≡ n
    → All (MadeStands plan n) all → WorksStand plan core → WorksStand plan (with_all_made owner parent all core)
all_made_works plan owner parent n [] core is stands works = works
all_made_works plan owner parent n (made ∷ later) core is stands works =
    all_made_works plan owner parent n later (with_made owner parent made core)
    (settled-made owner parent made core ∙ is) (All-tail (MadeStands plan n) made later stands)
    (made_works plan owner parent made core
    (subst (λ k. MadeStands plan k made) (sym is) (All-head (MadeStands plan n) made later stands)) works)

-- Pieces.

bytes_works : (plan : Plan) (work : Work) (segment : ℕ) (bytes : List ℕ) (core : Core) → WorksStand plan core
    → WorksStand plan (with_bytes work segment bytes core)
bytes_works plan work segment bytes core works = record {
  within = works.within;
  tasks = All-set (TaskStands plan core.settled) core.tasks.states work.task Gone tt works.tasks;
  claims = All-set (ClaimStands plan core.settled) core.claims work.task None tt works.claims;
}

counted_works : (plan : Plan) (owner : Option ℕ) (tasks size : ℕ) (core : Core) → WorksStand plan core
    → WorksStand plan (counted owner tasks size core)
counted_works plan None tasks size core works =
    record { within = works.within; tasks = works.tasks; claims = works.claims }
counted_works plan (Some boundary) tasks size core works =
    record { within = works.within; tasks = works.tasks; claims = works.claims }

settled-counted : (owner : Option ℕ) (tasks size : ℕ) (core : Core) → (counted owner tasks size core).settled ≡ core.settled
settled-counted None tasks size core = refl
settled-counted (Some boundary) tasks size core = refl

done_works : (plan : Plan) → StandsLater plan → (old new : Core) (work : Work) (bytes : List ℕ) (kids : List Kid)
    (owner : Option ℕ) (claim : Claim) → work.settled ≤ old.settled
    → All (IsPlaced (page_under plan work.settled)) kids → WorksStand plan old
    → (roomy : Core) → free roomy ≡ free old
    → WorksStand plan (queued owner claim.segment (with_all_made owner claim.segment
    (map (made_of plan.outcomes.now (counted owner (length kids) (length bytes)
    (with_bytes work claim.segment bytes roomy)).settled) kids)
    (counted owner (length kids) (length bytes) (with_bytes work claim.segment bytes roomy))))
done_works plan later old new work bytes kids owner claim more placed works roomy same =
    let begun : Core = with_bytes work claim.segment bytes roomy in
    let core : Core = counted owner (length kids) (length bytes) begun in
    let room : WorksStand plan roomy = carried plan old roomy (ap (λ (c : Core). c.settled) same)
    (ap (λ (c : Core). c.tasks.states) same) (ap (λ (c : Core). c.claims) same) works in
    let settled : core.settled ≡ old.settled =
    settled-counted owner (length kids) (length bytes) begun ∙ ap (λ (c : Core). c.settled) same in
    let stand : All (MadeStands plan old.settled) (map (made_of plan.outcomes.now core.settled) kids) =
    All-map (MadeStands plan old.settled) (made_of plan.outcomes.now core.settled) kids
    (All-weaker (IsPlaced (page_under plan work.settled))
    (λ one. MadeStands plan old.settled (made_of plan.outcomes.now core.settled one))
    (λ one. kid_stands plan later work.settled old.settled core.settled one more) kids placed) in
    let made : WorksStand plan (with_all_made owner claim.segment (map (made_of plan.outcomes.now core.settled) kids) core) =
    all_made_works plan owner claim.segment old.settled (map (made_of plan.outcomes.now core.settled) kids) core settled stand
    (counted_works plan owner (length kids) (length bytes) begun (bytes_works plan work claim.segment bytes roomy room)) in
    record { within = made.within; tasks = made.tasks; claims = made.claims }

taken_works : (plan : Plan) → StandsLater plan → (old new : Core) (work : Work) (bytes : List ℕ) (kids : List Kid)
    (claim : Option Claim) → is_kept_as work claim ≡ true → ClaimStands plan old.settled claim
    → All (IsPlaced (page_under plan work.settled)) kids → WorksStand plan old
    → TakesPieceIf plan.outcomes.now work bytes kids claim old new → WorksStand plan new
taken_works plan later old new work bytes kids None kept stands placed works takes = absurd takes
taken_works plan later old new work bytes kids (Some claim) kept stands placed works takes =
    subst (WorksStand plan) (sym takes.taken)
    (done_works plan later old new work bytes kids _ claim (settled_within plan work old.settled claim kept stands) placed works
    takes.roomy takes.same)

pub committed_works : (plan : Plan) → StandsLater plan → (old new : Core) (work : Work) (one : Piece) → WorksStand plan old
    → IsGoodWork plan work → IsPieceOf plan work one → CommitsPiece plan.outcomes.now one old new → WorksStand plan new
committed_works plan later old new work (piece.Done own bytes kids) works good is commits =
    let placed : All (IsPlaced (page_under plan own.settled)) kids =
    subst (λ (w : Work). All (IsPlaced (page_under plan w.settled)) kids) (sym is.0) is.1.placed in
    taken_works plan later old new own bytes.items kids (claim_at old.claims own.task) (kept_part old own commits.kept)
    (claim_stands plan old own.task works) placed works commits.committed
committed_works plan later old new work (piece.Blocked own resource) works good is commits =
    subst (WorksStand plan) (sym commits.committed)
    (blocked_works plan later old own resource _ refl works (subst (IsGoodWork plan) (sym is.0) good) commits.kept)
committed_works plan later old new work (piece.Failed own digest) works good is commits =
    owner_failed_works plan _ digest old new works commits.committed

-- What is reclaimed.

abbrev KeptJobStands : Plan → ℕ → Option Job → Type 0
KeptJobStands plan n None = Unit {0}
KeptJobStands plan n (Some job) = JobStands plan n job

kept_job_stands : (plan : Plan) (n : ℕ) (claim : Option Claim) → ClaimStands plan n claim → KeptJobStands plan n (job_kept claim)
kept_job_stands plan n None stands = tt
kept_job_stands plan n (Some claim) stands = record { given = stands.stands; kept = stands.stands }

returned_if_stands : (plan : Plan) (n : ℕ) (number : Option ℕ) (task : ℕ) (job : Job) (board : Board Job) → JobStands plan n job
    → All (TaskStands plan n) board.states → All (TaskStands plan n) (returned_if number task job board).states
returned_if_stands plan n None task job board stands all = all
returned_if_stands plan n (Some number) task job board stands all =
    All-set (TaskStands plan n) board.states task (Runnable job) stands all

again_keeps : (plan : Plan) (n task : ℕ) (job : Option Job) (board : Board Job) → KeptJobStands plan n job
    → All (TaskStands plan n) board.states → All (TaskStands plan n) (again task job board).states
again_keeps plan n task None board stands all = all
again_keeps plan n task (Some job) board stands all = returned_if_stands plan n _ task job board stands all

all_again_keeps : (plan : Plan) (n task : ℕ) (jobs : List (Option Job)) (board : Board Job) → All (KeptJobStands plan n) jobs
    → All (TaskStands plan n) board.states → All (TaskStands plan n) (all_again task jobs board).states
all_again_keeps plan n task [] board stand all = all
all_again_keeps plan n task (job ∷ later) board stand all =
    all_again_keeps plan n (task + 1) later (again task job board) (All-tail (KeptJobStands plan n) job later stand)
    (again_keeps plan n task job board (All-head (KeptJobStands plan n) job later stand) all)

states-renumbered_if : (claimed : ℕ) (board : Board Job) → (renumbered_if claimed board).states ≡ board.states
states-renumbered_if zero board = refl
states-renumbered_if (suc claimed) board = refl

pub reclaimed_works : (plan : Plan) (old : Core) → WorksStand plan old → WorksStand plan (with_reclaimed old)
reclaimed_works plan old works =
    let n : ℕ = old.settled in
    let board : Board Job = all_again 0 (map job_kept old.claims) old.tasks in
    record {
      within = works.within;
      tasks = subst (λ (l : List (State Job)). All (TaskStands plan n) l)
          (sym (states-renumbered_if (count_of is_claimed board.states) board))
          (all_again_keeps plan n 0 (map job_kept old.claims) old.tasks
          (All-map (KeptJobStands plan n) job_kept old.claims
          (All-weaker (ClaimStands plan n) (λ claim. KeptJobStands plan n (job_kept claim))
          (λ claim. kept_job_stands plan n claim) old.claims works.claims)) works.tasks);
      claims = All-map (ClaimStands plan n) nothing_kept old.claims
          (All-weaker (ClaimStands plan n) (λ claim. ClaimStands plan n (nothing_kept claim)) (λ claim stands. tt)
          old.claims works.claims);
    }

-- The end, and flushes.

failed_if_works : (plan : Plan) (fails : Bool) (boundary failed : ℕ) (old new : Core) (Then : Core → ℕ → Type 0)
    → ((between : Core) (others : ℕ) → WorksStand plan between → Then between others → WorksStand plan new)
    → WorksStand plan old → FailsIf fails boundary old Then failed → WorksStand plan new
failed_if_works plan true boundary failed old new Then on works fails =
    on fails.between fails.others (failed_works plan boundary unsettled old fails.between works fails.fails) fails.goes_on
failed_if_works plan false boundary failed old new Then on works fails = on old failed works fails

each_failed_works : (plan : Plan) (count from failed : ℕ) (old new : Core) → WorksStand plan old
    → FailEach count from old new failed → WorksStand plan new
each_failed_works plan zero from failed old new works fail = subst (WorksStand plan) fail.0 works
each_failed_works plan (suc count) from failed old new works fail =
    failed_if_works plan (is_working old.boundaries.bounds from) from failed old new
    (λ between others. FailEach count (from + 1) between new others)
    (λ between others stand later. each_failed_works plan count (from + 1) others between new stand later) works fail

pub closed_works : (plan : Plan) (tasks failed : ℕ) (old new : Core) → WorksStand plan old → Closes tasks old new failed
    → WorksStand plan new
closed_works plan zero failed old new works closes =
    each_failed_works plan (length old.boundaries.bounds) 0 failed old new works closes
closed_works plan (suc tasks) failed old new works closes =
    subst (WorksStand plan) (sym closes.0) (shell_failed_works plan old unsettled works)

flushed_unless : (plan : Plan) (budget tasks : ℕ) (failure : Option (List ℕ)) (old new : Core) → WorksStand plan old
    → FlushesUnless tasks failure plan budget old new → WorksStand plan new
flushed_unless plan budget zero None old new works flushes =
    carried plan old new (ap (λ (c : Core). c.settled) flushes.changed) (ap (λ (c : Core). c.tasks.states) flushes.changed)
    (ap (λ (c : Core). c.claims) flushes.changed) works
flushed_unless plan budget zero (Some digest) old new works same = subst (WorksStand plan) (sym same) works
flushed_unless plan budget (suc tasks) failure old new works same = subst (WorksStand plan) (sym same) works

pub flushed_works : (plan : Plan) (budget : ℕ) (old new : Core) → WorksStand plan old → FlushesState plan budget old new
    → WorksStand plan new
flushed_works plan budget old new works flushes =
    flushed_unless plan budget old.shell_tasks old.failure old new works flushes
