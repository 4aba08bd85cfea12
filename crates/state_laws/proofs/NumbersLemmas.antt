-- What segments and boundaries tell of each other goes on being made.
use Rattle.std.proofs.Common.{◌≡◌, ℕ, zero, suc, ◌+◌, ◌<◌, ◌≤◌, Bool, true, false, is_some, List, [], ◌∷◌, ◌++◌, length, map, Option, Some, None, inl, inr, refl, sym, ap, subst, ◌∙◌, arith}
use Rattle.std.proofs.lemmas.Bool.{cases_eq}
use Rattle.std.proofs.lemmas.List.{get_or-set_other, length-set}
use Rattle.settle_script.specs.declared.value.Entry.{Entry}
use Rattle.settle_script.specs.declared.outcome.Outcome.{Outcome}
use Rattle.settle_script.specs.Settlements.{known}
use Rattle.fizz_piece.specs.declared.piece.Kid.{Kid}
use Rattle.fizz_piece.specs.declared.piece.Piece.{Piece}
use Rattle.fizz_piece.specs.declared.piece.Piece.TheVariants as piece
use Rattle.fizz_piece.specs.declared.plan.Plan.{Plan}
use Rattle.fizz_piece.specs.declared.work.Work.{Work}
use Rattle.fizz_boundary.specs.Bounds.{Bounds, bound_at}
use Rattle.fizz_boundary.specs.Calls.{changed_at, failed_with, more, one_done}
use Rattle.fizz_boundary.specs.declared.boundary.Bound.{Bound}
use Rattle.fizz_boundary.specs.declared.boundary.State.{State as BoundState}
use Rattle.fizz_boundary.specs.declared.boundary.State.TheVariants.{Pending}
use Rattle.fizz_segment.specs.Calls.{child_of, root_of, site_of, with_bytes as part_with_bytes}
use Rattle.fizz_segment.specs.Tree.{Tree, mark_at, part_at}
use Rattle.fizz_segment.specs.declared.segment.Part.{Part}
use Rattle.fizz_segment.specs.declared.segment.SegKind.{SegKind}
use Rattle.fizz_segment.specs.declared.segment.SegKind.TheVariants.{Root, Child, Site}
use Rattle.fizz_task.specs.Board.{state_at}
use Rattle.fizz_task.specs.Calls.{owner_at}
use Rattle.fizz_task.specs.Indexed.{is_gone}
use Rattle.id_lists.specs.Lists.{list_at}
use Rattle.request_state.specs.declared.job.Claim.{Claim}
use Rattle.request_state.specs.declared.making.Made.{Made}
use Rattle.request_state.specs.declared.making.Made.TheVariants as m
use Rattle.request_state.specs.declared.making.Twin.{Twin}
use Rattle.request_state.specs.Claiming.{HandsOut, claim_at, given_back, given_back_to, keeps, owner_of}
use Rattle.request_state.specs.Closing.{Closes}
use Rattle.request_state.specs.Committing.{CommitsPiece, TakesPieceIf, counted, put_off_to, with_blocked, with_bytes}
use Rattle.request_state.specs.Core.{Core, free, new_core}
use Rattle.request_state.specs.Failing.{FailsBoundary, all_forgotten, forgotten_unless_printed, marked_failed, with_dropped, with_shell_failed}
use Rattle.request_state.specs.Flushing.{FlushesState}
use Rattle.request_state.specs.Making.{made_of, with_all_made, with_made}
use Rattle.request_state.specs.Reclaiming.{with_reclaimed}
use Rattle.request_state.specs.Settling.{Settles}
use Rattle.state_laws.specs.Numbers.{BoundFits, IsBelow, KindFits, NumbersFit, PartFits}
use Rattle.state_laws.specs.Segments.{SegmentsServed, is_open}
use Rattle.state_laws.specs.Tasks.{IsLeft, TasksFit}
use Rattle.state_laws.proofs.Calls.{closed_keeps, failed_keeps, flushed_keeps, owner_failed_keeps}
use Rattle.state_laws.proofs.ClaimsLemmas.{work_left}
use Rattle.state_laws.proofs.CountsLemmas.{changed_bound, changed_reads, get_push, roomy_fit}
use Rattle.state_laws.proofs.Points.{inside, length-push, push_reads, set_reads}
use Rattle.state_laws.proofs.ServedLemmas.{default_at, forgotten_if, length-all_forgotten, work_serves}
use Rattle.state_laws.proofs.TasksLemmas.{CanMake, begun, begun_can, length-changed_at, made_can}

not_true : false ≡ true → ⊥
not_true e = cc

below_more : (number : Option ℕ) (few many : ℕ) → few ≤ many → IsBelow number few → IsBelow number many
below_more None few many more below = tt
below_more (Some n) few many more below = omega (arith, more, below)

kind_more : (kind : SegKind) (few many : ℕ) → few ≤ many → KindFits kind few → KindFits kind many
kind_more (Root boundary) few many more fit = below_more boundary few many more fit
kind_more Child few many more fit = tt
kind_more (Site boundary) few many more fit = omega (arith, more, fit)

part_more : (segment few many : ℕ) (part : Option Part) → few ≤ many → PartFits segment few part → PartFits segment many part
part_more segment few many None more fit = tt
part_more segment few many (Some part) more fit = (fit.0, kind_more part.kind few many more fit.1)

bound_more : (boundary few many : ℕ) (bound : Option Bound) → few ≤ many → BoundFits boundary few bound → BoundFits boundary many bound
bound_more boundary few many None more fit = tt
bound_more boundary few many (Some bound) more fit =
    (fit.0, omega (arith, more, fit.1), below_more bound.site few many more fit.2)

-- the same segments and boundaries
same_numbers : (old new : Core) → new.segments.parts ≡ old.segments.parts → new.boundaries.bounds ≡ old.boundaries.bounds
    → NumbersFit old → NumbersFit new
same_numbers old new parts bounds fit = record {
  parts = λ segment. subst (λ (l : List (Option Part)). PartFits segment (length new.boundaries.bounds) (part_at l segment))
      (sym parts)
      (subst (λ (l : List Bound). PartFits segment (length l) (part_at old.segments.parts segment)) (sym bounds)
      (fit.parts segment));
  bounds = λ boundary. subst (λ (l : List Bound). BoundFits boundary (length new.segments.parts) (bound_at l boundary))
      (sym bounds)
      (subst (λ (l : List (Option Part)). BoundFits boundary (length l) (bound_at old.boundaries.bounds boundary)) (sym parts)
      (fit.bounds boundary));
}

-- At first.

first_part : (segment : ℕ) → PartFits segment 0 (part_at new_core.segments.parts segment)
first_part zero = (tt, tt)
first_part (suc segment) = tt

pub first_numbers : (core : Core) → free core ≡ new_core → NumbersFit core
first_numbers core is =
    same_numbers new_core core (ap (λ (c : Core). c.segments.parts) is) (ap (λ (c : Core). c.boundaries.bounds) is)
    (record { parts = first_part; bounds = λ boundary. tt })

-- Calls that leave segments and boundaries alone.

pub settles_numbers : (outcomes : List (Entry Outcome)) (old new : Core) → NumbersFit old → Settles outcomes old new
    → NumbersFit new
settles_numbers outcomes old new fit settles =
    subst NumbersFit (sym settles.settled) (record { parts = fit.parts; bounds = fit.bounds })

pub claimed_numbers : (old new : Core) (work : Work) → NumbersFit old → HandsOut old new work → NumbersFit new
claimed_numbers old new work fit out =
    subst NumbersFit (sym out.changed) (record { parts = fit.parts; bounds = fit.bounds })

returned_to_numbers : (work : Work) (claim : Option Claim) (old : Core) → NumbersFit old → NumbersFit (given_back_to work claim old)
returned_to_numbers work None old fit = fit
returned_to_numbers work (Some claim) old fit = record { parts = fit.parts; bounds = fit.bounds }

pub returned_numbers : (work : Work) (old : Core) → NumbersFit old → NumbersFit (given_back work old)
returned_numbers work old fit = returned_to_numbers work (claim_at old.claims work.task) old fit

put_off_numbers : (work : Work) (resource : List ℕ) (claim : Option Claim) (old : Core) → NumbersFit old
    → NumbersFit (put_off_to work resource claim old)
put_off_numbers work resource None old fit = fit
put_off_numbers work resource (Some claim) old fit = record { parts = fit.parts; bounds = fit.bounds }

blocked_numbers : (outcomes : List (Entry Outcome)) (work : Work) (resource : List ℕ) (old : Core) (is_known : Bool)
    → is_some (known outcomes old.settled resource) ≡ is_known → NumbersFit old
    → NumbersFit (with_blocked outcomes work resource old)
blocked_numbers outcomes work resource old true is fit = rw is (returned_numbers work old fit)
blocked_numbers outcomes work resource old false is fit =
    rw is (put_off_numbers work resource (claim_at old.claims work.task) old fit)

pub reclaimed_numbers : (old : Core) → NumbersFit old → NumbersFit (with_reclaimed old)
reclaimed_numbers old fit = record { parts = fit.parts; bounds = fit.bounds }

pub flushed_numbers : (plan : Plan) (budget : ℕ) (old new : Core) → NumbersFit old → FlushesState plan budget old new
    → NumbersFit new
flushed_numbers plan budget old new fit flushes =
    flushed_keeps NumbersFit plan budget old new
    (λ fit flush. same_numbers old new (ap (λ (t : Tree). t.parts) flush.flushed.segments)
    (ap (λ (b : Bounds). b.bounds) flush.flushed.boundaries) fit) fit flushes

-- Failures.

forgotten_if_reads : (fact : Option Part → Type 0) → fact None → (b : Bool) (s : ℕ) (tree : Tree) (other : ℕ)
    → fact (part_at tree.parts other) → fact (part_at (forgotten_if b s tree).parts other)
forgotten_if_reads fact none true s tree other holds = holds
forgotten_if_reads fact none false s tree other holds = elim (cases_eq other s) [
  | inl same ↦ subst fact (sym (default_at tree.parts s None other same)) none
  | inr apart ↦ subst fact (sym (get_or-set_other tree.parts s other None None apart)) holds
]

all_forgotten_reads : (fact : Option Part → Type 0) → fact None → (list : List ℕ) (tree : Tree) (other : ℕ)
    → fact (part_at tree.parts other) → fact (part_at (all_forgotten list tree).parts other)
all_forgotten_reads fact none [] tree other holds = holds
all_forgotten_reads fact none (s ∷ later) tree other holds =
    all_forgotten_reads fact none later (forgotten_unless_printed s tree) other
    (forgotten_if_reads fact none (mark_at tree.marks s).printed s tree other holds)

dropped_numbers : (boundary : ℕ) (core : Core) → NumbersFit core → NumbersFit (with_dropped boundary core)
dropped_numbers boundary core fit =
    let list : List ℕ = list_at core.own.lists boundary in
    record {
      parts = λ segment. all_forgotten_reads (PartFits segment (length core.boundaries.bounds)) tt list core.segments segment
          (fit.parts segment);
      bounds = λ other. subst (λ n. BoundFits other n (bound_at core.boundaries.bounds other))
          (sym (length-all_forgotten list core.segments)) (fit.bounds other);
    }

changed_fits : (change : BoundState → BoundState) (boundary segments : ℕ) (bound : Option Bound)
    → BoundFits boundary segments bound → BoundFits boundary segments (changed_bound change bound)
changed_fits change boundary segments None fit = tt
changed_fits change boundary segments (Some bound) fit = fit

changed_bounds : (change : BoundState → BoundState) (boundary segments : ℕ) (bounds : List Bound) (other : ℕ)
    → BoundFits other segments (bound_at bounds other) → BoundFits other segments (bound_at (changed_at change boundary bounds) other)
changed_bounds change boundary segments bounds other fit =
    changed_reads (BoundFits other segments) change boundary bounds other
    (λ same. changed_fits change other segments (bound_at bounds boundary)
    (subst (λ i. BoundFits other segments (bound_at bounds i)) same fit)) (λ apart. fit)

marked_numbers : (boundary : ℕ) (digest : List ℕ) (core : Core) → NumbersFit core → NumbersFit (marked_failed boundary digest core)
marked_numbers boundary digest core fit = record {
  parts = λ segment. subst (λ n. PartFits segment n (part_at core.segments.parts segment))
      (sym (length-changed_at (failed_with digest) boundary core.boundaries.bounds)) (fit.parts segment);
  bounds = λ other. changed_bounds (failed_with digest) boundary (length core.segments.parts) core.boundaries.bounds other
      (fit.bounds other);
}

failed_numbers : (boundary : ℕ) (digest : List ℕ) (old new : Core) → NumbersFit old → FailsBoundary boundary digest old new
    → NumbersFit new
failed_numbers = failed_keeps NumbersFit dropped_numbers marked_numbers

shell_numbers : (digest : List ℕ) (core : Core) → NumbersFit core → NumbersFit (with_shell_failed digest core)
shell_numbers digest core fit = record { parts = λ segment. tt; bounds = λ boundary. tt }

pub closed_numbers : (tasks failed : ℕ) (old new : Core) → NumbersFit old → Closes tasks old new failed → NumbersFit new
closed_numbers =
    closed_keeps NumbersFit shell_numbers (λ boundary digest old new made. failed_numbers boundary digest old new)

-- What is made of the kids of a piece, whose segment was made.

hole_numbers : (owner : Option ℕ) (parent place : ℕ) (lead : Bool) (position : Twin) (waits : Option (List ℕ)) (core : Core)
    → parent < length core.segments.parts → NumbersFit core
    → NumbersFit (with_made owner parent (m.Hole place lead position waits) core)
hole_numbers owner parent place lead position waits core made fit =
    let parts : List (Option Part) = core.segments.parts in
    record {
      parts = λ segment. push_reads (PartFits segment (length core.boundaries.bounds)) parts (Some (child_of parent place)) None
          segment (λ same. (omega (arith, same, made), tt)) (λ apart. fit.parts segment);
      bounds = λ boundary. bound_more boundary (length parts) (length (parts ++ Some (child_of parent place) ∷ []))
          (bound_at core.boundaries.bounds boundary) (omega (arith, length-push parts (Some (child_of parent place))))
          (fit.bounds boundary);
    }

owner_below : (owner : Option ℕ) (count : ℕ) → ((n : ℕ) → owner ≡ Some n → n < count) → IsBelow owner count
owner_below None count made = tt
owner_below (Some n) count made = made n refl

bound_numbers : (owner : Option ℕ) (parent place : ℕ) (path : List ℕ) (content fallback : Twin) (core : Core)
    → parent < length core.segments.parts → CanMake owner core → NumbersFit core
    → NumbersFit (with_made owner parent (m.Boundary place path content fallback) core)
bound_numbers owner parent place path content fallback core made can fit = record {
  parts = λ segment.
      push_reads (PartFits segment (length (bounds ++ bound ∷ []))) (parts ++ Some root ∷ []) (Some site) None segment
      (λ same. (omega (arith, same, made, more_parts), omega (arith, more_bounds)))
      (λ apart. push_reads (PartFits segment (length (bounds ++ bound ∷ []))) parts (Some root) None segment
      (λ same. (tt, omega (arith, more_bounds)))
      (λ other. part_more segment count (length (bounds ++ bound ∷ [])) (part_at parts segment) (omega (arith, more_bounds))
      (fit.parts segment)));
  bounds = λ boundary.
      get_push (BoundFits boundary (length ((parts ++ Some root ∷ []) ++ Some site ∷ []))) bounds bound boundary
      (λ same. (
        subst (IsBelow owner) (sym same) (owner_below owner count can.made),
        omega (arith, more_parts, all_parts),
        omega (arith, more_parts, all_parts),
      ))
      (λ apart. bound_more boundary (length parts) (length ((parts ++ Some root ∷ []) ++ Some site ∷ [])) (bound_at bounds boundary)
      (omega (arith, more_parts, all_parts)) (fit.bounds boundary));
}
  where
    parts : List (Option Part)
    parts = core.segments.parts

    bounds : List Bound
    bounds = core.boundaries.bounds

    count : ℕ
    count = length core.boundaries.bounds

    root : Part
    root = root_of (Some (length core.boundaries.bounds))

    site : Part
    site = site_of parent place (length core.boundaries.bounds)

    bound : Bound
    bound = record {
      path = path;
      parent = owner;
      root = length core.segments.parts;
      site = Some (length core.segments.parts + 1);
      state = Pending 1 0;
    }

    more_parts : length (parts ++ Some root ∷ []) ≡ length core.segments.parts + 1
    more_parts = length-push parts (Some root)

    all_parts : length ((parts ++ Some root ∷ []) ++ Some site ∷ []) ≡ length (parts ++ Some root ∷ []) + 1
    all_parts = length-push (parts ++ Some root ∷ []) (Some site)

    more_bounds : length (bounds ++ bound ∷ []) ≡ length core.boundaries.bounds + 1
    more_bounds = length-push bounds bound

made_numbers : (owner : Option ℕ) (parent : ℕ) (made : Made) (core : Core) → parent < length core.segments.parts
    → CanMake owner core → NumbersFit core → NumbersFit (with_made owner parent made core)
made_numbers owner parent (m.Hole place lead position waits) core made can fit =
    hole_numbers owner parent place lead position waits core made fit
made_numbers owner parent (m.Boundary place path content fallback) core made can fit =
    bound_numbers owner parent place path content fallback core made can fit

more_made : (owner : Option ℕ) (parent : ℕ) (made : Made) (core : Core) → parent < length core.segments.parts
    → parent < length (with_made owner parent made core).segments.parts
more_made owner parent (m.Hole place lead position waits) core made =
    omega (arith, made, length-push core.segments.parts (Some (child_of parent place)))
more_made owner parent (m.Boundary place path content fallback) core made =
    let root : Part = root_of (Some (length core.boundaries.bounds)) in
    let site : Part = site_of parent place (length core.boundaries.bounds) in
    omega (arith, made, length-push core.segments.parts (Some root), length-push (core.segments.parts ++ Some root ∷ []) (Some site))

all_made_numbers : (owner : Option ℕ) (parent : ℕ) (all : List Made) (core : Core) → parent < length core.segments.parts
    → CanMake owner core → NumbersFit core → NumbersFit (with_all_made owner parent all core)
all_made_numbers owner parent [] core made can fit = fit
all_made_numbers owner parent (one ∷ later) core made can fit =
    all_made_numbers owner parent later (with_made owner parent one core) (more_made owner parent one core made)
    (made_can owner parent one core can) (made_numbers owner parent one core made can fit)

-- Pieces.

bytes_fit : (segment bounds : ℕ) (bytes : List ℕ) (part : Option Part) → PartFits segment bounds part
    → PartFits segment bounds (part_with_bytes bytes part)
bytes_fit segment bounds bytes None fit = tt
bytes_fit segment bounds bytes (Some part) fit = fit

bytes_numbers : (work : Work) (segment : ℕ) (bytes : List ℕ) (core : Core) → segment < length core.segments.parts
    → NumbersFit core → NumbersFit (with_bytes work segment bytes core)
bytes_numbers work segment bytes core made fit =
    let parts : List (Option Part) = core.segments.parts in
    let count : ℕ = length core.boundaries.bounds in
    record {
      parts = λ other. set_reads (PartFits other count) parts segment (part_with_bytes bytes (part_at parts segment)) None other made
          (λ same. bytes_fit other count bytes (part_at parts segment)
          (subst (λ i. PartFits other count (part_at parts i)) same (fit.parts other)))
          (λ apart. fit.parts other);
      bounds = λ boundary. subst (λ n. BoundFits boundary n (bound_at core.boundaries.bounds boundary))
          (sym (length-set parts segment (part_with_bytes bytes (part_at parts segment)))) (fit.bounds boundary);
    }

counted_numbers : (owner : Option ℕ) (tasks size : ℕ) (core : Core) → NumbersFit core → NumbersFit (counted owner tasks size core)
counted_numbers None tasks size core fit = record { parts = fit.parts; bounds = fit.bounds }
counted_numbers (Some boundary) tasks size core fit =
    let bounds : List Bound = core.boundaries.bounds in
    let next : List Bound = changed_at (more tasks) boundary bounds in
    record {
      parts = λ segment. subst (λ n. PartFits segment n (part_at core.segments.parts segment))
          (sym (length-changed_at (one_done size) boundary next ∙ length-changed_at (more tasks) boundary bounds))
          (fit.parts segment);
      bounds = λ other. changed_bounds (one_done size) boundary (length core.segments.parts) next other
          (changed_bounds (more tasks) boundary (length core.segments.parts) bounds other (fit.bounds other));
    }

parts-counted : (owner : Option ℕ) (tasks size : ℕ) (core : Core)
    → (counted owner tasks size core).segments.parts ≡ core.segments.parts
parts-counted None tasks size core = refl
parts-counted (Some boundary) tasks size core = refl

taken_numbers : (outcomes : List (Entry Outcome)) (work : Work) (bytes : List ℕ) (kids : List Kid) (found : Option Claim)
    (old new : Core) → claim_at old.claims work.task ≡ found → keeps old work ≡ true → SegmentsServed old → NumbersFit old
    → TakesPieceIf outcomes work bytes kids found old new → NumbersFit new
taken_numbers outcomes work bytes kids None old new is kept served fit takes = absurd takes
taken_numbers outcomes work bytes kids (Some claim) old new is kept served fit takes =
    let roomy : Core = takes.roomy in
    let owner : Option ℕ = owner_of old work in
    let made_old : claim.segment < length old.segments.parts =
    inside (λ p. is_open p ≡ true) old.segments.parts None claim.segment not_true
    (served.opened work.task claim.segment (work_serves old work claim kept is)) in
    let made : claim.segment < length roomy.segments.parts =
    subst (λ n. claim.segment < n) (sym (ap (λ (c : Core). length c.segments.parts) takes.same)) made_old in
    let left : IsLeft roomy work.task = ap (λ (c : Core). is_gone (state_at c.tasks.states work.task)) takes.same
    ∙ work_left old work kept in
    let own : owner ≡ owner_at roomy.tasks.owners work.task =
    ap (λ (c : Core). owner_at c.tasks.owners work.task) (sym takes.same) in
    let tasks : TasksFit roomy = roomy_fit old roomy takes.same served.claims.tasks in
    let core : Core = begun owner claim.segment work bytes (length kids) roomy in
    let start : NumbersFit core =
    counted_numbers owner (length kids) (length bytes) (with_bytes work claim.segment bytes roomy)
    (bytes_numbers work claim.segment bytes roomy made
    (same_numbers old roomy (ap (λ (c : Core). c.segments.parts) takes.same) (ap (λ (c : Core). c.boundaries.bounds) takes.same) fit)) in
    let still : claim.segment < length core.segments.parts =
    subst (λ n. claim.segment < n) (sym (ap (λ (l : List (Option Part)). length l)
    (parts-counted owner (length kids) (length bytes) (with_bytes work claim.segment bytes roomy))
    ∙ length-set roomy.segments.parts claim.segment (part_with_bytes bytes (part_at roomy.segments.parts claim.segment)))) made in
    let all : List Made = map (made_of outcomes core.settled) kids in
    let end : NumbersFit (with_all_made owner claim.segment all core) =
    all_made_numbers owner claim.segment all core still
    (begun_can owner claim.segment work bytes (length kids) roomy tasks left own) start in
    subst NumbersFit (sym takes.taken) (record { parts = end.parts; bounds = end.bounds })

pub committed_numbers : (outcomes : List (Entry Outcome)) (one : Piece) (old new : Core) → SegmentsServed old → NumbersFit old
    → CommitsPiece outcomes one old new → NumbersFit new
committed_numbers outcomes (piece.Done work bytes kids) old new served fit commits =
    taken_numbers outcomes work bytes.items kids (claim_at old.claims work.task) old new refl commits.kept served fit
    commits.committed
committed_numbers outcomes (piece.Blocked work resource) old new served fit commits =
    subst NumbersFit (sym commits.committed) (blocked_numbers outcomes work resource old _ refl fit)
committed_numbers outcomes (piece.Failed work digest) old new served fit commits =
    owner_failed_keeps NumbersFit shell_numbers failed_numbers (owner_of old work) digest old new fit commits.committed
