-- Tasks that wait go on waiting for what isn't settled.
use Rattle.std.proofs.Common.{◌≡◌, ℕ, zero, suc, ◌+◌, ◌≤◌, Bool, true, false, ◌&&◌, if◌then◌else◌, is_none, is_some, List, [], ◌∷◌, length, map, take, get_or, slice_index_or, All, inl, inr, Option, Some, None, refl, sym, ap, subst, ◌∙◌, arith}
use Rattle.std.specs.Prelude.{Contains}
use Rattle.std.specs.Str.{bytes_eq}
use Rattle.std.proofs.lemmas.Bool.{cases_Bool, cases_lt, cond-false, eqb-true}
use Rattle.std.proofs.lemmas.List.{get_or_past}
use Rattle.std.proofs.lemmas.List.Elements.{All-cons, All-head, All-map, All-nil, All-push, All-set, All-tail, All-weaker, Contains-get_or}
use Rattle.std.proofs.Math.ListN.{get_or-map}
use Rattle.std.proofs.lemmas.Slice.Eq.{bytes_eq-Decides}
use Rattle.settle_script.specs.declared.value.Entry.{Entry}
use Rattle.settle_script.specs.declared.outcome.Outcome.{Outcome}
use Rattle.settle_script.specs.Settlements.{entry_named, known, name_at}
use Rattle.html_print.specs.Sheets.{printed_of}
use Rattle.jsx_value.specs.Positions.{Page, Place as PagePlace, root_place}
use Rattle.jsx_value.specs.SeenPlaces.{place_at}
use Rattle.jsx_value.specs.Spots.{Label, One, at, wait}
use Rattle.fizz_piece.specs.declared.piece.Kid.{Kid}
use Rattle.fizz_piece.specs.declared.piece.Kid.TheVariants as kid
use Rattle.fizz_piece.specs.declared.piece.Piece.{Piece}
use Rattle.fizz_piece.specs.declared.piece.Piece.TheVariants as piece
use Rattle.fizz_piece.specs.declared.plan.Plan.{Plan}
use Rattle.fizz_piece.specs.declared.work.Flags.{Flags}
use Rattle.fizz_piece.specs.declared.work.Work.{Work}
use Rattle.fizz_piece.specs.Pieces.{IsGoodWork, IsPieceOf, IsPlaced, PrintsWork, WaitsFor, cut_of, page_under, position_at}
use Rattle.fizz_piece.specs.Places.{place_in, position_of}
use Rattle.fizz_piece.specs.Printing.{piece_sheet}
use Rattle.position_laws.specs.Gaps.{Gap, IsGapIn, cut_gaps, gap_of, gaps_of}
use Rattle.fizz_task.specs.declared.state.State.{State}
use Rattle.fizz_task.specs.declared.state.State.TheVariants.{Gone, Runnable, Claimed, Waiting}
use Rattle.fizz_task.specs.Board.{Board, claim_of, count_of, is_claimed, state_at}
use Rattle.fizz_task.specs.Calls.{dropped, same_owner, without_owned, woken}
use Rattle.request_state.specs.declared.job.Claim.{Claim}
use Rattle.request_state.specs.declared.job.Job.{Job}
use Rattle.request_state.specs.declared.job.Place.{Place}
use Rattle.request_state.specs.declared.making.Made.{Made}
use Rattle.request_state.specs.declared.making.Made.TheVariants as m
use Rattle.request_state.specs.declared.making.Twin.{Twin}
use Rattle.request_state.specs.Claiming.{HandsOut, claim_at, given_back, given_back_to, is_claim, is_kept_as, job_again, keeps, owner_of, place_in as place_of_work}
use Rattle.request_state.specs.Closing.{Closes}
use Rattle.request_state.specs.Committing.{CommitsPiece, TakesPieceIf, counted, put_off_to, with_blocked, with_bytes}
use Rattle.request_state.specs.Core.{Core, free, new_core, root_job}
use Rattle.request_state.specs.Failing.{FailsBoundary, each_dropped, with_shell_failed}
use Rattle.request_state.specs.Flushing.{FlushesState}
use Rattle.request_state.specs.Making.{made_of, still_waits, with_all_made, with_made, with_task}
use Rattle.request_state.specs.Reclaiming.{again, all_again, job_kept, renumbered_if, returned_if, with_reclaimed}
use Rattle.request_state.specs.Settling.{Settles}
use Rattle.request_laws.specs.Works.{ClaimStands, WorksStand}
use Rattle.state_laws.specs.Waits.{PlaceWaits, TaskWaits, TasksWait}
use Rattle.state_laws.proofs.Calls.{closed_keeps, failed_keeps, flushed_keeps, owner_failed_keeps}

not_true : false ≡ true → ⊥
not_true e = cc

true_false : true ≡ false → ⊥
true_false e = cc

-- A place goes on waiting for what isn't settled.
abbrev pub StaysWaiting : Plan → Type 0
StaysWaiting plan = (first after : ℕ) (resource : List ℕ) (place : PagePlace) → first ≤ after
    → known plan.outcomes.now after resource ≡ None → WaitsFor (position_of (page_under plan first) place) resource
    → WaitsFor (position_of (page_under plan after) place) resource

-- The holes of a piece wait for their resources.
abbrev pub KidWaits : Page → Kid → Type 0
KidWaits page (kid.Hole place path spot scope resource lead) = WaitsFor (position_of page (place_at spot scope)) resource
KidWaits page (kid.Boundary place path content content_scope fallback fallback_scope) = Unit {0}

abbrev pub KidsWait : Plan → Type 0
KidsWait plan = (work : Work) (bytes : List ℕ) (kids : List Kid) → IsGoodWork plan work
    → PrintsWork (page_under plan work.settled) work bytes kids → All (KidWaits (page_under plan work.settled)) kids

-- the same settlements and tasks
carried : (plan : Plan) (old new : Core) → new.settled ≡ old.settled → new.tasks.states ≡ old.tasks.states
    → TasksWait plan old → TasksWait plan new
carried plan old new settled states waits = record {
  tasks = subst (λ n. All (TaskWaits plan n) new.tasks.states) (sym settled)
      (subst (λ (l : List (State Job)). All (TaskWaits plan old.settled) l) (sym states) waits.tasks);
}

-- At first.

pub first_waits : (plan : Plan) (core : Core) → free core ≡ new_core → TasksWait plan core
first_waits plan core is =
    carried plan new_core core (ap (λ (c : Core). c.settled) is) (ap (λ (c : Core). c.tasks.states) is) (record {
      tasks = All-cons (TaskWaits plan 0) (Runnable (root_job 0)) [] tt (All-nil (TaskWaits plan 0));
    })

-- Settlements.

no_name : (name : List ℕ) → ◌≡◌ {A = Option (List ℕ)} None (Some name) → ⊥
no_name name is = cc

same_name : (a b : List ℕ) → ◌≡◌ {A = Option (List ℕ)} (Some a) (Some b) → a ≡ b
same_name a b is = cc

other_named : (resource : List ℕ) (entry : Entry Outcome) (later : List (Entry Outcome)) → (resource ≡ entry.name → ⊥)
    → entry_named resource (entry ∷ later) ≡ entry_named resource later
other_named resource entry later apart = elim (cases_Bool (bytes_eq resource entry.name)) [
  | inl same ↦ absurd (apart ((bytes_eq-Decides resource entry.name).0 same))
  | inr differs ↦ cond-false (bytes_eq resource entry.name) (Some entry.value) (entry_named resource later) differs
]

some_value : (value : Outcome) → ◌≡◌ {A = Option Outcome} (Some value) None → ⊥
some_value value is = cc

named_apart : (resource : List ℕ) (entry : Entry Outcome) (later : List (Entry Outcome))
    → entry_named resource (entry ∷ later) ≡ None → resource ≡ entry.name → ⊥
named_apart resource entry later unknown same =
    some_value entry.value
    (sym (ap (λ (b : Bool). if b then Some entry.value else entry_named resource later)
    ((bytes_eq-Decides resource entry.name).1 same)) ∙ unknown)

-- what isn't known, and isn't settled next, isn't known then
still_unknown : (outcomes : List (Entry Outcome)) (n : ℕ) (name resource : List ℕ) → name_at outcomes n ≡ Some name
    → (resource ≡ name → ⊥) → entry_named resource (take n outcomes) ≡ None → entry_named resource (take (suc n) outcomes) ≡ None
still_unknown [] zero name resource named apart unknown = refl
still_unknown [] (suc n) name resource named apart unknown = refl
still_unknown (entry ∷ later) zero name resource named apart unknown =
    other_named resource entry [] (λ same. apart (same ∙ same_name entry.name name named))
still_unknown (entry ∷ later) (suc n) name resource named apart unknown =
    let other : resource ≡ entry.name → ⊥ = named_apart resource entry (take n later) unknown in
    other_named resource entry (take (suc n) later) other
    ∙ still_unknown later n name resource named apart (sym (other_named resource entry (take n later) other) ∙ unknown)

waits_later : (plan : Plan) → StaysWaiting plan → (n : ℕ) (name resource : List ℕ) (place : Place)
    → name_at plan.outcomes.now n ≡ Some name → (resource ≡ name → ⊥) → PlaceWaits plan n resource place
    → PlaceWaits plan (n + 1) resource place
waits_later plan stay n name resource place named apart waits =
    let unknown : known plan.outcomes.now (n + 1) resource ≡ None =
    ap (λ k. entry_named resource (take k plan.outcomes.now)) (one_more n)
    ∙ still_unknown plan.outcomes.now n name resource named apart waits.unknown in
    record {
      unknown = unknown;
      waits = stay n (n + 1) resource (place_at place.spot place.scope) (omega arith) unknown waits.waits;
    }
  where
    one_more : (n : ℕ) → n + 1 ≡ suc n
    one_more n = omega arith

woken_waits : (plan : Plan) → StaysWaiting plan → (n : ℕ) (name : List ℕ) (state : State Job)
    → name_at plan.outcomes.now n ≡ Some name → TaskWaits plan n state → TaskWaits plan (n + 1) (woken name state)
woken_waits plan stay n name Gone named waits = tt
woken_waits plan stay n name (Runnable job) named waits = tt
woken_waits plan stay n name (Claimed claim) named waits = tt
woken_waits plan stay n name (Waiting resource job) named waits = by_test (bytes_eq name resource) refl
  where
    by_test : (test : Bool) → bytes_eq name resource ≡ test
        → TaskWaits plan (n + 1) (if bytes_eq name resource then Runnable job else Waiting resource job)
    by_test true is = rw is tt
    by_test false is = rw is (waits_later plan stay n name resource job.given named
        (λ same. true_false (sym ((bytes_eq-Decides name resource).1 (sym same)) ∙ is)) waits)

pub settles_waits : (plan : Plan) → StaysWaiting plan → (old new : Core) → TasksWait plan old
    → Settles plan.outcomes.now old new → TasksWait plan new
settles_waits plan stay old new waits settles =
    let n : ℕ = old.settled in
    subst (TasksWait plan) (sym settles.settled) (record {
      tasks = All-map (TaskWaits plan (n + 1)) (woken settles.name) old.tasks.states
          (All-weaker (TaskWaits plan n) (λ state. TaskWaits plan (n + 1) (woken settles.name state))
          (λ state. woken_waits plan stay n settles.name state settles.next) old.tasks.states waits.tasks);
    })

-- Claims.

pub claimed_waits : (plan : Plan) (old new : Core) (work : Work) → TasksWait plan old → HandsOut old new work
    → TasksWait plan new
claimed_waits plan old new work waits out =
    subst (TasksWait plan) (sym out.changed) (record {
      tasks = subst (λ (board : Board Job). All (TaskWaits plan old.settled) board.states) (sym out.claimed.changed)
          (All-set (TaskWaits plan old.settled) old.tasks.states work.task (Claimed old.tasks.claims) tt waits.tasks);
    })

returned_to_waits : (plan : Plan) (work : Work) (claim : Option Claim) (old : Core) → TasksWait plan old
    → TasksWait plan (given_back_to work claim old)
returned_to_waits plan work None old waits = waits
returned_to_waits plan work (Some claim) old waits = record {
  tasks = All-set (TaskWaits plan old.settled) old.tasks.states work.task (Runnable (job_again work claim)) tt waits.tasks;
}

pub returned_waits : (plan : Plan) (old : Core) (work : Work) → TasksWait plan old → TasksWait plan (given_back work old)
returned_waits plan old work waits = returned_to_waits plan work (claim_at old.claims work.task) old waits

put_off_waits : (plan : Plan) (work : Work) (resource : List ℕ) (claim : Option Claim) (old : Core)
    → PlaceWaits plan old.settled resource (place_of_work work) → TasksWait plan old
    → TasksWait plan (put_off_to work resource claim old)
put_off_waits plan work resource None old own waits = waits
put_off_waits plan work resource (Some claim) old own waits = record {
  tasks = All-set (TaskWaits plan old.settled) old.tasks.states work.task (Waiting resource (job_again work claim)) own waits.tasks;
}

not_known : (found : Option Outcome) → is_some found ≡ false → found ≡ None
not_known None is = refl
not_known (Some outcome) is = absurd (true_false is)

blocked_waits : (plan : Plan) → StaysWaiting plan → (old : Core) (work : Work) (resource : List ℕ) (is_known : Bool)
    → is_some (known plan.outcomes.now old.settled resource) ≡ is_known → work.settled ≤ old.settled
    → WaitsFor (position_at (page_under plan work.settled) work) resource → TasksWait plan old
    → TasksWait plan (with_blocked plan.outcomes.now work resource old)
blocked_waits plan stay old work resource true is few own waits = rw is (returned_waits plan old work waits)
blocked_waits plan stay old work resource false is few own waits =
    let unknown : known plan.outcomes.now old.settled resource ≡ None = not_known _ is in
    rw is (put_off_waits plan work resource (claim_at old.claims work.task) old (record {
      unknown = unknown;
      waits = stay work.settled old.settled resource (place_at work.spot work.scope) few unknown own;
    }) waits)

-- Failures.

gone_or : (plan : Plan) (n : ℕ) (goes : Bool) (state : State Job) → TaskWaits plan n state
    → TaskWaits plan n (if goes then Gone else state)
gone_or plan n true state waits = tt
gone_or plan n false state waits = waits

without_owned_waits : (plan : Plan) (n : ℕ) (owner : Option ℕ) (owners : List (Option ℕ)) (states : List (State Job))
    → All (TaskWaits plan n) states → All (TaskWaits plan n) (without_owned owner owners states)
without_owned_waits plan n owner [] states all = all
without_owned_waits plan n owner (first ∷ owners) [] all = All-nil (TaskWaits plan n)
without_owned_waits plan n owner (first ∷ owners) (state ∷ states) all =
    All-cons (TaskWaits plan n) (if same_owner owner first then Gone else state) (without_owned owner owners states)
    (gone_or plan n (same_owner owner first) state (All-head (TaskWaits plan n) state states all))
    (without_owned_waits plan n owner owners states (All-tail (TaskWaits plan n) state states all))

each_dropped_waits : (plan : Plan) (n count from : ℕ) (board : Board Job) → All (TaskWaits plan n) board.states
    → All (TaskWaits plan n) (each_dropped count from board).states
each_dropped_waits plan n zero from board all = all
each_dropped_waits plan n (suc count) from board all =
    each_dropped_waits plan n count (from + 1) (dropped (Some from) board)
    (without_owned_waits plan n (Some from) board.owners board.states all)

shell_waits : (plan : Plan) (digest : List ℕ) (old : Core) → TasksWait plan old → TasksWait plan (with_shell_failed digest old)
shell_waits plan digest old waits = record {
  tasks = each_dropped_waits plan old.settled (length old.boundaries.bounds) 0 (dropped None old.tasks)
      (without_owned_waits plan old.settled None old.tasks.owners old.tasks.states waits.tasks);
}

failed_waits : (plan : Plan) (boundary : ℕ) (digest : List ℕ) (old new : Core) → TasksWait plan old
    → FailsBoundary boundary digest old new → TasksWait plan new
failed_waits plan =
    failed_keeps (TasksWait plan)
    (λ boundary core waits. record {
      tasks = without_owned_waits plan core.settled (Some boundary) core.tasks.owners core.tasks.states waits.tasks;
    })
    (λ boundary digest core waits. record { tasks = waits.tasks })

-- What is made of the kids of a piece.

abbrev NewWaits : Plan → ℕ → Place → Option (List ℕ) → Type 0
NewWaits plan n place None = Unit {0}
NewWaits plan n place (Some resource) = PlaceWaits plan n resource place

abbrev MadeWaits : Plan → ℕ → Made → Type 0
MadeWaits plan n (m.Hole place lead position waits) = NewWaits plan n position.given waits
MadeWaits plan n (m.Boundary place path content fallback) = Unit {0}

kid_waits : (plan : Plan) → StaysWaiting plan → (first after : ℕ) (one : Kid) → first ≤ after
    → KidWaits (page_under plan first) one → MadeWaits plan after (made_of plan.outcomes.now after one)
kid_waits plan stay first after (kid.Hole place path spot scope resource lead) few waits =
    by_test (is_some (known plan.outcomes.now after resource)) refl
  where
    by_test : (test : Bool) → is_some (known plan.outcomes.now after resource) ≡ test
        → NewWaits plan after (record { path = path; spot = spot; scope = scope }) (still_waits plan.outcomes.now after resource)
    by_test true is = rw is tt
    by_test false is = rw is (record {
      unknown = not_known _ is;
      waits = stay first after resource (place_at spot scope) few (not_known _ is) waits;
    })
kid_waits plan stay first after (kid.Boundary place path content content_scope fallback fallback_scope) few waits = tt

task_waits : (plan : Plan) (owner : Option ℕ) (segment : ℕ) (twin : Twin) (waits : Option (List ℕ)) (core : Core)
    → NewWaits plan core.settled twin.given waits → TasksWait plan core → TasksWait plan (with_task owner segment twin waits core)
task_waits plan owner segment twin None core own all =
    record { tasks = All-push (TaskWaits plan core.settled) core.tasks.states _ all.tasks tt }
task_waits plan owner segment twin (Some resource) core own all =
    record { tasks = All-push (TaskWaits plan core.settled) core.tasks.states _ all.tasks own }

made_waits : (plan : Plan) (owner : Option ℕ) (parent : ℕ) (made : Made) (core : Core) → MadeWaits plan core.settled made
    → TasksWait plan core → TasksWait plan (with_made owner parent made core)
made_waits plan owner parent (m.Hole place lead position waits) core own all =
    task_waits plan owner (length core.segments.parts) position waits _ own (record { tasks = all.tasks })
made_waits plan owner parent (m.Boundary place path content fallback) core own all =
    task_waits plan owner (length core.segments.parts + 1) fallback None _ tt
    (task_waits plan (Some (length core.boundaries.bounds)) (length core.segments.parts) content None _ tt
    (record { tasks = all.tasks }))

settled-made : (owner : Option ℕ) (parent : ℕ) (made : Made) (core : Core)
    → (with_made owner parent made core).settled ≡ core.settled
settled-made owner parent (m.Hole place lead position waits) core = refl
settled-made owner parent (m.Boundary place path content fallback) core = refl

all_made_waits : (plan : Plan) (owner : Option ℕ) (parent n : ℕ) (all : List Made) (core : Core) → core.settled ≡ n
    → All (MadeWaits plan n) all → TasksWait plan core → TasksWait plan (with_all_made owner parent all core)
all_made_waits plan owner parent n [] core is own waits = waits
all_made_waits plan owner parent n (made ∷ later) core is own waits =
    all_made_waits plan owner parent n later (with_made owner parent made core)
    (settled-made owner parent made core ∙ is) (All-tail (MadeWaits plan n) made later own)
    (made_waits plan owner parent made core
    (subst (λ k. MadeWaits plan k made) (sym is) (All-head (MadeWaits plan n) made later own)) waits)

-- Pieces.

settled-counted : (owner : Option ℕ) (tasks size : ℕ) (core : Core) → (counted owner tasks size core).settled ≡ core.settled
settled-counted None tasks size core = refl
settled-counted (Some boundary) tasks size core = refl

states-counted : (owner : Option ℕ) (tasks size : ℕ) (core : Core)
    → (counted owner tasks size core).tasks.states ≡ core.tasks.states
states-counted None tasks size core = refl
states-counted (Some boundary) tasks size core = refl

second : (a b c d : Bool) → (a && b && c && d) ≡ true → b ≡ true
second true true c d is = refl
second true false c d is = absurd (not_true is)
second false b c d is = absurd (not_true is)

right : (a b : Bool) → (a && b) ≡ true → b ≡ true
right true b is = is
right false b is = absurd (not_true is)

kept_settled : (plan : Plan) (n : ℕ) (work : Work) (claim : Option Claim) → is_kept_as work claim ≡ true → ClaimStands plan n claim
    → work.settled ≤ n
kept_settled plan n work None kept stands = absurd (not_true kept)
kept_settled plan n work (Some claim) kept stands =
    omega (arith, stands.within, eqb-true claim.settled work.settled (second _ _ _ _ kept))

at_any : {X : Type 0} (P : X → Type 0) (xs : List X) (d : X) (i : ℕ) → P d → All P xs → P (slice_index_or xs i d)
at_any P xs d i default all = elim (cases_lt i (length xs)) [
  | inl inside ↦ all i d inside
  | inr past ↦ subst P (sym (get_or_past xs i d past)) default
]

-- a work that is kept was handed out when no more was settled
work_settled : (plan : Plan) (core : Core) (work : Work) → WorksStand plan core → keeps core work ≡ true
    → work.settled ≤ core.settled
work_settled plan core work works kept =
    kept_settled plan core.settled work (claim_at core.claims work.task)
    (right (is_claim work.claim (claim_of (state_at core.tasks.states work.task))) _ kept)
    (at_any (ClaimStands plan core.settled) core.claims None work.task tt works.claims)

taken_waits : (plan : Plan) → StaysWaiting plan → (old new : Core) (work : Work) (bytes : List ℕ) (kids : List Kid)
    (found : Option Claim) → work.settled ≤ old.settled → All (KidWaits (page_under plan work.settled)) kids → TasksWait plan old
    → TakesPieceIf plan.outcomes.now work bytes kids found old new → TasksWait plan new
taken_waits plan stay old new work bytes kids None few own waits takes = absurd takes
taken_waits plan stay old new work bytes kids (Some claim) few own waits takes =
    let roomy : Core = takes.roomy in
    let owner : Option ℕ = owner_of old work in
    let begun : Core = with_bytes work claim.segment bytes roomy in
    let core : Core = counted owner (length kids) (length bytes) begun in
    let settled : core.settled ≡ old.settled =
    settled-counted owner (length kids) (length bytes) begun ∙ ap (λ (c : Core). c.settled) takes.same in
    let room : TasksWait plan roomy = carried plan old roomy (ap (λ (c : Core). c.settled) takes.same)
    (ap (λ (c : Core). c.tasks.states) takes.same) waits in
    let start : TasksWait plan core = carried plan begun core (settled-counted owner (length kids) (length bytes) begun)
    (states-counted owner (length kids) (length bytes) begun)
    (record { tasks = All-set (TaskWaits plan roomy.settled) roomy.tasks.states work.task Gone tt room.tasks }) in
    let made : List Made = map (made_of plan.outcomes.now core.settled) kids in
    let each : All (MadeWaits plan core.settled) made =
    All-map (MadeWaits plan core.settled) (made_of plan.outcomes.now core.settled) kids
    (All-weaker (KidWaits (page_under plan work.settled))
    (λ one. MadeWaits plan core.settled (made_of plan.outcomes.now core.settled one))
    (λ one. kid_waits plan stay work.settled core.settled one (subst (λ n. work.settled ≤ n) (sym settled) few)) kids own) in
    let all : TasksWait plan (with_all_made owner claim.segment made core) =
    all_made_waits plan owner claim.segment core.settled made core refl each start in
    subst (TasksWait plan) (sym takes.taken) (record { tasks = all.tasks })

pub committed_waits : (plan : Plan) → StaysWaiting plan → KidsWait plan → (old new : Core) (work : Work) (one : Piece)
    → WorksStand plan old → TasksWait plan old → IsGoodWork plan work → IsPieceOf plan work one
    → CommitsPiece plan.outcomes.now one old new → TasksWait plan new
committed_waits plan stay kids_wait old new work (piece.Done own bytes kids) works waits good is commits =
    taken_waits plan stay old new own bytes.items kids (claim_at old.claims own.task)
    (work_settled plan old own works commits.kept)
    (subst (λ (w : Work). All (KidWaits (page_under plan w.settled)) kids) (sym is.0)
    (kids_wait work bytes.items kids good is.1)) waits commits.committed
committed_waits plan stay kids_wait old new work (piece.Blocked own resource) works waits good is commits =
    subst (TasksWait plan) (sym commits.committed)
    (blocked_waits plan stay old own resource _ refl (work_settled plan old own works commits.kept)
    (subst (λ (w : Work). WaitsFor (position_at (page_under plan w.settled) w) resource) (sym is.0) is.1) waits)
committed_waits plan stay kids_wait old new work (piece.Failed own digest) works waits good is commits =
    owner_failed_keeps (TasksWait plan) (shell_waits plan) (failed_waits plan) _ digest old new waits commits.committed

-- What is reclaimed.

returned_if_waits : (plan : Plan) (n : ℕ) (number : Option ℕ) (task : ℕ) (job : Job) (board : Board Job)
    → All (TaskWaits plan n) board.states → All (TaskWaits plan n) (returned_if number task job board).states
returned_if_waits plan n None task job board all = all
returned_if_waits plan n (Some number) task job board all = All-set (TaskWaits plan n) board.states task (Runnable job) tt all

again_waits : (plan : Plan) (n task : ℕ) (job : Option Job) (board : Board Job) → All (TaskWaits plan n) board.states
    → All (TaskWaits plan n) (again task job board).states
again_waits plan n task None board all = all
again_waits plan n task (Some job) board all = returned_if_waits plan n _ task job board all

all_again_waits : (plan : Plan) (n task : ℕ) (jobs : List (Option Job)) (board : Board Job) → All (TaskWaits plan n) board.states
    → All (TaskWaits plan n) (all_again task jobs board).states
all_again_waits plan n task [] board all = all
all_again_waits plan n task (job ∷ later) board all =
    all_again_waits plan n (task + 1) later (again task job board) (again_waits plan n task job board all)

states-renumbered_if : (claimed : ℕ) (board : Board Job) → (renumbered_if claimed board).states ≡ board.states
states-renumbered_if zero board = refl
states-renumbered_if (suc claimed) board = refl

pub reclaimed_waits : (plan : Plan) (old : Core) → TasksWait plan old → TasksWait plan (with_reclaimed old)
reclaimed_waits plan old waits =
    let board : Board Job = all_again 0 (map job_kept old.claims) old.tasks in
    record {
      tasks = subst (λ (l : List (State Job)). All (TaskWaits plan old.settled) l)
          (sym (states-renumbered_if (count_of is_claimed board.states) board))
          (all_again_waits plan old.settled 0 (map job_kept old.claims) old.tasks waits.tasks);
    }

-- The end, and flushes.

pub closed_waits : (plan : Plan) (tasks failed : ℕ) (old new : Core) → TasksWait plan old → Closes tasks old new failed
    → TasksWait plan new
closed_waits plan =
    closed_keeps (TasksWait plan) (shell_waits plan)
    (λ boundary digest old new made. failed_waits plan boundary digest old new)

pub flushed_waits : (plan : Plan) (budget : ℕ) (old new : Core) → TasksWait plan old → FlushesState plan budget old new
    → TasksWait plan new
flushed_waits plan budget old new waits flushes =
    flushed_keeps (TasksWait plan) plan budget old new
    (λ waits flush. carried plan old new (ap (λ (c : Core). c.settled) flush.changed)
    (ap (λ (c : Core). c.tasks.states) flush.changed) waits) waits flushes

-- What the laws of positions say of pieces.

abbrev pub CutsAre : Type 0
CutsAre = (flags : Flags) (path : List ℕ) (one : One) → cut_gaps (printed_of (piece_sheet flags path one)).cuts ≡ gaps_of path one

abbrev pub GapsStand : Type 0
GapsStand = (root one : One) (path : List ℕ) (gap : Gap) → at root path ≡ Some one → Contains (gaps_of path one) gap
    → IsGapIn root path gap

abbrev pub PlacesStand : Page → Type 0
PlacesStand page = (place : PagePlace) (path : List ℕ) → place_in page path ≡ Some place
    → at (position_of page root_place) path ≡ Some (position_of page place)

abbrev gap_of_kid : Kid → Gap
gap_of_kid one = gap_of (cut_of one).cut_out

some_label : (a b : Label) → ◌≡◌ {A = Option Label} (Some a) (Some b) → a ≡ b
some_label a b is = cc

kid_stands : (page : Page) → PlacesStand page → (root : One) (path : List ℕ) → root ≡ position_of page root_place
    → (one : Kid) → IsPlaced page one → IsGapIn root path (gap_of_kid one) → KidWaits page one
kid_stands page places root path is (kid.Hole place own spot scope resource lead) placed gap =
    some_label (position_of page (place_at spot scope)).label (wait resource)
    (sym (ap (λ (o : Option One). label_of o) (ap (λ (r : One). at r own) is ∙ places (place_at spot scope) own placed)) ∙ gap.stands)
  where
    label_of : Option One → Option Label
    label_of None = None
    label_of (Some one) = Some one.label
kid_stands page places root path is (kid.Boundary place own content content_scope fallback fallback_scope) placed gap = tt

pub kids_wait : (plan : Plan) → CutsAre → GapsStand → ((settled : ℕ) → PlacesStand (page_under plan settled)) → KidsWait plan
kids_wait plan cuts gaps places work bytes kids good prints =
    let page : Page = page_under plan work.settled in
    let one : One = position_at page work in
    let root : One = position_of page root_place in
    let here : at root work.path ≡ Some one = places work.settled (place_at work.spot work.scope) work.path good.stands in
    let all : cut_gaps (map cut_of kids) ≡ gaps_of work.path one =
    sym (ap (λ s. cut_gaps s.cuts) prints.printed) ∙ cuts work.flags work.path one in
    λ k d inside.
    kid_stands page (places work.settled) root work.path refl (get_or kids k d) (prints.placed k d inside)
    (gaps root one work.path (gap_of_kid (get_or kids k d)) here
    (subst (λ (l : List Gap). Contains l (gap_of_kid (get_or kids k d))) all
    (subst (Contains (cut_gaps (map cut_of kids)))
    (get_or-map (λ c. gap_of c.cut_out) (map cut_of kids) k (cut_of d)
    ∙ ap (λ c. gap_of c.cut_out) (get_or-map cut_of kids k d))
    (Contains-get_or (cut_gaps (map cut_of kids)) k (gap_of_kid d) (omega (arith, inside, lengths kids))))))
  where
    lengths : (kids : List Kid) → length (cut_gaps (map cut_of kids)) ≡ length kids
    lengths [] = refl
    lengths (one ∷ later) = omega (arith, lengths later)

-- what isn't known to the second page isn't what it knows more
pub unknown_since : (first second : Option Outcome) → second ≡ None → (is_none first && is_some second) ≡ false
unknown_since None second is = ap is_some is
unknown_since (Some outcome) second is = refl

pub same_label : (one other : One) (label : Label) → ◌≡◌ {A = Option One} (Some one) (Some other) → other.label ≡ label
    → one.label ≡ label
same_label one other label is labelled = ap (λ (o : Option One). or_own o) is ∙ labelled
  where
    or_own : Option One → Label
    or_own None = one.label
    or_own (Some found) = found.label
