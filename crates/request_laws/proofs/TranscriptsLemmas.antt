-- What was sent stays, but for flushes.
use Rattle.std.proofs.Common.{◌≡◌, ℕ, zero, suc, ◌+◌, Bool, true, false, is_some, List, [], ◌∷◌, length, map, Option, Some, None, refl, sym, ap, subst, ◌∙◌}
use Rattle.std.proofs.lemmas.List.{append-nil}
use Rattle.settle_script.specs.declared.value.Entry.{Entry}
use Rattle.settle_script.specs.declared.outcome.Outcome.{Outcome}
use Rattle.settle_script.specs.Settlements.{known}
use Rattle.fizz_piece.specs.declared.piece.Kid.{Kid}
use Rattle.fizz_piece.specs.declared.piece.Piece.{Piece}
use Rattle.fizz_piece.specs.declared.piece.Piece.TheVariants as piece
use Rattle.fizz_piece.specs.declared.plan.Plan.{Plan}
use Rattle.fizz_piece.specs.declared.work.Work.{Work}
use Rattle.request_state.specs.declared.job.Claim.{Claim}
use Rattle.request_state.specs.declared.making.Made.{Made}
use Rattle.request_state.specs.declared.making.Made.TheVariants as m
use Rattle.request_state.specs.Claiming.{HandsOut, claim_at, given_back, given_back_to, owner_of}
use Rattle.request_state.specs.Closing.{Closes, FailEach, FailsIf, is_working, unsettled}
use Rattle.request_state.specs.Committing.{CommitsPiece, TakesPieceIf, counted, put_off_to, with_blocked, with_bytes}
use Rattle.request_state.specs.Core.{Core, free, new_core}
use Rattle.request_state.specs.Failing.{FailsBoundary, FailsOwner, all_dropped, with_dropped}
use Rattle.request_state.specs.Flushing.{FlushesState, FlushesUnless}
use Rattle.request_state.specs.Making.{made_of, with_all_made, with_made}
use Rattle.request_state.specs.Settling.{Settles}
use Rattle.request_laws.specs.Transcripts.{Sends, SendsNothing}

stays : (core : Core) → SendsNothing core core
stays core = record { transcript = refl; marks = refl }

then : (a b c : Core) → SendsNothing a b → SendsNothing b c → SendsNothing a c
then a b c first second = record {
  transcript = second.transcript ∙ first.transcript;
  marks = second.marks ∙ first.marks;
}

-- but for the room that is kept for more
roomy_sends : (old roomy : Core) → free roomy ≡ free old → SendsNothing old roomy
roomy_sends old roomy same = record {
  transcript = ap (λ (c : Core). c.transcript) same;
  marks = ap (λ (c : Core). c.marks) same;
}

pub first_sent : (core : Core) → free core ≡ new_core → core.transcript ≡ []
first_sent core is = ap (λ (c : Core). c.transcript) is

pub settles_sends : (outcomes : List (Entry Outcome)) (old new : Core) → Settles outcomes old new → SendsNothing old new
settles_sends outcomes old new settles =
    subst (SendsNothing old) (sym settles.settled) (record { transcript = refl; marks = refl })

pub claimed_sends : (old new : Core) (work : Work) → HandsOut old new work → SendsNothing old new
claimed_sends old new work out =
    subst (SendsNothing old) (sym out.changed) (record { transcript = refl; marks = refl })

returned_to_sends : (work : Work) (claim : Option Claim) (old : Core) → SendsNothing old (given_back_to work claim old)
returned_to_sends work None old = stays old
returned_to_sends work (Some claim) old = record { transcript = refl; marks = refl }

pub returned_sends : (work : Work) (old : Core) → SendsNothing old (given_back work old)
returned_sends work old = returned_to_sends work (claim_at old.claims work.task) old

put_off_sends : (work : Work) (resource : List ℕ) (claim : Option Claim) (old : Core)
    → SendsNothing old (put_off_to work resource claim old)
put_off_sends work resource None old = stays old
put_off_sends work resource (Some claim) old = record { transcript = refl; marks = refl }

blocked_sends : (outcomes : List (Entry Outcome)) (work : Work) (resource : List ℕ) (old : Core) (is_known : Bool)
    → is_some (known outcomes old.settled resource) ≡ is_known → SendsNothing old (with_blocked outcomes work resource old)
blocked_sends outcomes work resource old true is = rw is (returned_sends work old)
blocked_sends outcomes work resource old false is =
    rw is (put_off_sends work resource (claim_at old.claims work.task) old)

all_dropped_sends : (within : List ℕ) (old : Core) → SendsNothing old (all_dropped within old)
all_dropped_sends [] old = stays old
all_dropped_sends (boundary ∷ later) old =
    then old (with_dropped boundary old) (all_dropped later (with_dropped boundary old))
    (record { transcript = refl; marks = refl }) (all_dropped_sends later (with_dropped boundary old))

failed_sends : (boundary : ℕ) (digest : List ℕ) (old new : Core) → FailsBoundary boundary digest old new
    → SendsNothing old new
failed_sends boundary digest old new fails =
    let between : SendsNothing old fails.between =
    subst (SendsNothing old) (sym fails.dropped.dropped) (all_dropped_sends fails.dropped.within old) in
    subst (SendsNothing old) (sym fails.failed)
    (record { transcript = between.transcript; marks = between.marks })

owner_failed_sends : (owner : Option ℕ) (digest : List ℕ) (old new : Core) → FailsOwner owner digest old new
    → SendsNothing old new
owner_failed_sends None digest old new is =
    subst (SendsNothing old) (sym is) (record { transcript = refl; marks = refl })
owner_failed_sends (Some boundary) digest old new fails = failed_sends boundary digest old new fails

made_sends : (owner : Option ℕ) (parent : ℕ) (made : Made) (core : Core) → SendsNothing core (with_made owner parent made core)
made_sends owner parent (m.Hole place lead position waits) core = record { transcript = refl; marks = refl }
made_sends owner parent (m.Boundary place path content fallback) core = record { transcript = refl; marks = refl }

all_made_sends : (owner : Option ℕ) (parent : ℕ) (all : List Made) (core : Core)
    → SendsNothing core (with_all_made owner parent all core)
all_made_sends owner parent [] core = stays core
all_made_sends owner parent (made ∷ later) core =
    then core (with_made owner parent made core) (with_all_made owner parent later (with_made owner parent made core))
    (made_sends owner parent made core) (all_made_sends owner parent later (with_made owner parent made core))

counted_sends : (owner : Option ℕ) (tasks size : ℕ) (core : Core) → SendsNothing core (counted owner tasks size core)
counted_sends None tasks size core = record { transcript = refl; marks = refl }
counted_sends (Some boundary) tasks size core = record { transcript = refl; marks = refl }

taken_sends : (outcomes : List (Entry Outcome)) (work : Work) (bytes : List ℕ) (kids : List Kid) (claim : Option Claim)
    (old new : Core) → TakesPieceIf outcomes work bytes kids claim old new → SendsNothing old new
taken_sends outcomes work bytes kids None old new takes = absurd takes
taken_sends outcomes work bytes kids (Some claim) old new takes =
    let owner : Option ℕ = owner_of old work in
    let begun : Core = with_bytes work claim.segment bytes takes.roomy in
    let core : Core = counted owner (length kids) (length bytes) begun in
    let made : List Made = map (made_of outcomes core.settled) kids in
    let counts : SendsNothing old core = then old begun core
    (then old takes.roomy begun (roomy_sends old takes.roomy takes.same) (record { transcript = refl; marks = refl }))
    (counted_sends owner (length kids) (length bytes) begun) in
    let all : SendsNothing old (with_all_made owner claim.segment made core) =
    then old core (with_all_made owner claim.segment made core) counts (all_made_sends owner claim.segment made core) in
    subst (SendsNothing old) (sym takes.taken) (record { transcript = all.transcript; marks = all.marks })

pub committed_sends : (outcomes : List (Entry Outcome)) (one : Piece) (old new : Core)
    → CommitsPiece outcomes one old new → SendsNothing old new
committed_sends outcomes (piece.Done work bytes kids) old new commits =
    taken_sends outcomes work bytes.items kids (claim_at old.claims work.task) old new commits.committed
committed_sends outcomes (piece.Blocked work resource) old new commits =
    subst (SendsNothing old) (sym commits.committed) (blocked_sends outcomes work resource old _ refl)
committed_sends outcomes (piece.Failed work digest) old new commits =
    owner_failed_sends _ digest old new commits.committed

failed_if_sends : (fails : Bool) (boundary failed : ℕ) (old new : Core) (Then : Core → ℕ → Type 0)
    → ((between : Core) (others : ℕ) → Then between others → SendsNothing between new)
    → FailsIf fails boundary old Then failed → SendsNothing old new
failed_if_sends true boundary failed old new Then on fails =
    then old fails.between new (failed_sends boundary unsettled old fails.between fails.fails)
    (on fails.between fails.others fails.goes_on)
failed_if_sends false boundary failed old new Then on fails = on old failed fails

each_failed_sends : (count from failed : ℕ) (old new : Core) → FailEach count from old new failed → SendsNothing old new
each_failed_sends zero from failed old new fail = subst (SendsNothing old) fail.0 (stays old)
each_failed_sends (suc count) from failed old new fail =
    failed_if_sends (is_working old.boundaries.bounds from) from failed old new
    (λ between others. FailEach count (from + 1) between new others)
    (λ between others later. each_failed_sends count (from + 1) others between new later) fail

pub closed_sends : (tasks failed : ℕ) (old new : Core) → Closes tasks old new failed → SendsNothing old new
closed_sends zero failed old new closes = each_failed_sends (length old.boundaries.bounds) 0 failed old new closes
closed_sends (suc tasks) failed old new closes =
    subst (SendsNothing old) (sym closes.0) (record { transcript = refl; marks = refl })

nothing_more : (old new : Core) → new ≡ old → (bytes : List ℕ) × Sends bytes old new
nothing_more old new is = ([], ap (λ (c : Core). c.transcript) is ∙ sym (append-nil old.transcript))

flushed_unless : (plan : Plan) (budget tasks : ℕ) (failure : Option (List ℕ)) (old new : Core)
    → FlushesUnless tasks failure plan budget old new → (bytes : List ℕ) × Sends bytes old new
flushed_unless plan budget zero None old new flushes = (flushes.flushed.end.out, flushes.flushed.written)
flushed_unless plan budget zero (Some digest) old new same = nothing_more old new same
flushed_unless plan budget (suc tasks) failure old new same = nothing_more old new same

pub flushed_sends : (plan : Plan) (budget : ℕ) (old new : Core) → FlushesState plan budget old new
    → (bytes : List ℕ) × Sends bytes old new
flushed_sends plan budget old new flushes = flushed_unless plan budget old.shell_tasks old.failure old new flushes
