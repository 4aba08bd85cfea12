-- What stays until the kids of a piece are made, and what a piece for which all memory is there makes of the state.
use Rattle.std.proofs.Common.{◌≡◌, ℕ, zero, suc, ◌<◌, is_some, true, false, IsTrue, Option, Some, None, IsSome, List, [], ◌∷◌, length, map, slice_set, refl, sym, ap, ◌∙◌, arith, length-set}
use Rattle.std.proofs.lemmas.List.{length-map}
use Rattle.settle_script.specs.declared.value.Entry.{Entry}
use Rattle.settle_script.specs.declared.outcome.Outcome.{Outcome}
use Rattle.fizz_segment.specs.declared.segment.Part.{Part}
use Rattle.fizz_segment.specs.Tree.{part_at}
use Rattle.fizz_segment.specs.Calls.{IsLive, with_bytes as part_with_bytes}
use Rattle.fizz_boundary.specs.declared.boundary.Bound.{Bound}
use Rattle.fizz_boundary.specs.declared.boundary.State.{State as BoundState}
use Rattle.fizz_boundary.specs.Bounds.{bound_at, tasks_left}
use Rattle.fizz_boundary.specs.Calls.{IsParent, changed_at, more, one_done}
use Rattle.flush_queues.specs.declared.queues.Queues.{Queues}
use Rattle.flush_queues.specs.Queues.{with_boundary, with_segment}
use Rattle.flush_queues.specs.Telling.{HasPlaces, HasPlacesIf}
use Rattle.fizz_piece.specs.declared.piece.Kid.{Kid}
use Rattle.fizz_piece.specs.declared.work.Work.{Work}
use Rattle.request_state.specs.declared.committing.Prepared.{Prepared}
use Rattle.request_state.specs.declared.job.Claim.{Claim}
use Rattle.request_state.specs.declared.making.Made.{Made}
use Rattle.request_state.specs.declared.making.Made.TheVariants as m
use Rattle.request_state.specs.declared.state.State.{State}
use Rattle.request_state.specs.Claiming.{claim_at, owner_of}
use Rattle.request_state.specs.Core.{Core, core_of, free}
use Rattle.request_state.specs.Committing.{CanCountTasks, TakesPieceIf, counted, kept_segment, queued, with_bytes, with_prepared}
use Rattle.request_state.specs.Making.{made_of, with_all_made, with_made}
use Rattle.request_state.proofs.MakingLemmas.{less-append, not_live}

is_some-completed : (parts : List (Option Part)) (bytes : List ℕ) (s : ℕ) → IsTrue (is_some (part_at parts s))
    → IsTrue (is_some (part_at (slice_set parts s (part_with_bytes bytes (part_at parts s))) s))
is_some-completed [] bytes zero live = absurd (not_live live)
is_some-completed [] bytes (suc n) live = absurd (not_live live)
is_some-completed (None ∷ parts) bytes zero live = absurd (not_live live)
is_some-completed (Some part ∷ parts) bytes zero live = live
is_some-completed (first ∷ parts) bytes (suc n) live = is_some-completed parts bytes n live

pub IsLive-counted : (owner : Option ℕ) (tasks size : ℕ) (work : Work) (s : ℕ) (bytes : List ℕ) (core : Core)
    → IsLive core.segments s → IsLive (counted owner tasks size (with_bytes work s bytes core)).segments s
IsLive-counted None tasks size work s bytes core live = is_some-completed core.segments.parts bytes s live
IsLive-counted (Some b) tasks size work s bytes core live = is_some-completed core.segments.parts bytes s live

length-changed_at : (change : BoundState → BoundState) (b : ℕ) (bounds : List Bound) (found : Option Bound)
    → bound_at bounds b ≡ found → length (changed_at change b bounds) ≡ length bounds
length-changed_at change b bounds None is = rw is refl
length-changed_at change b bounds (Some bound) is = rw is (length-set bounds b _)

not_some : false ≡ true → ⊥
not_some is = cc

is_made : (bounds : List Bound) (b : ℕ) → IsSome (tasks_left (bound_at bounds b)) → b < length bounds
is_made [] zero is = absurd (not_some is)
is_made [] (suc n) is = absurd (not_some is)
is_made (bound ∷ bounds) zero is = omega arith
is_made (bound ∷ bounds) (suc n) is = omega (arith, is_made bounds n is)

pub IsParent-counted : (owner : Option ℕ) (tasks kids size : ℕ) (work : Work) (s : ℕ) (bytes : List ℕ) (state : State)
    → CanCountTasks owner kids state
    → IsParent (counted owner tasks size (with_bytes work s bytes (core_of state))).boundaries owner
IsParent-counted None tasks kids size work s bytes state can = tt
IsParent-counted (Some b) tasks kids size work s bytes state can =
    let made : b < length state.boundaries.bounds = is_made state.boundaries.bounds b can.1 in
    let more_tasks : List Bound = changed_at (more tasks) b state.boundaries.bounds in
    omega (
      arith,
      made,
      length-changed_at (more tasks) b state.boundaries.bounds _ refl,
      length-changed_at (one_done size) b more_tasks _ refl,
    )

HasPlaces-segment : (s b : ℕ) (queues : Queues) → HasPlaces s b queues → HasPlaces s b (with_segment queues)
HasPlaces-segment s b queues has = record {
  queues_made = has.queues_made;
  segment_made = omega (arith, has.segment_made);
  list_made = has.list_made;
  boundary_made = has.boundary_made;
}

HasPlaces-boundary : (s b : ℕ) (queues : Queues) → HasPlaces s b queues → HasPlaces s b (with_boundary queues)
HasPlaces-boundary s b queues has = record {
  queues_made = has.queues_made;
  segment_made = has.segment_made;
  list_made = less-append b queues.ready.lists [] has.list_made;
  boundary_made = omega (arith, has.boundary_made);
}

HasPlaces-made : (s b : ℕ) (owner : Option ℕ) (parent : ℕ) (made : Made) (core : Core)
    → HasPlaces s b core.queues → HasPlaces s b (with_made owner parent made core).queues
HasPlaces-made s b owner parent (m.Hole place lead position waits) core has = HasPlaces-segment s b core.queues has
HasPlaces-made s b owner parent (m.Boundary place path content fallback) core has =
    HasPlaces-segment s b _ (HasPlaces-segment s b _ (HasPlaces-boundary s b core.queues has))

HasPlaces-all_made : (s b : ℕ) (owner : Option ℕ) (parent : ℕ) (all : List Made) (core : Core)
    → HasPlaces s b core.queues → HasPlaces s b (with_all_made owner parent all core).queues
HasPlaces-all_made s b owner parent [] core has = has
HasPlaces-all_made s b owner parent (made ∷ later) core has =
    HasPlaces-all_made s b owner parent later _ (HasPlaces-made s b owner parent made core has)

pub HasPlacesIf-all_made : (s : ℕ) (owner : Option ℕ) (parent : ℕ) (all : List Made) (tasks size : ℕ) (work : Work)
    (bytes : List ℕ) (core : Core) → HasPlacesIf s owner core.queues
    → HasPlacesIf s owner
    (with_all_made owner parent all (counted owner tasks size (with_bytes work s bytes core))).queues
HasPlacesIf-all_made s None parent all tasks size work bytes core has = tt
HasPlacesIf-all_made s (Some b) parent all tasks size work bytes core has =
    HasPlaces-all_made s b (Some b) parent all _ has

settled-counted : (owner : Option ℕ) (tasks size : ℕ) (core : Core) → (counted owner tasks size core).settled ≡ core.settled
settled-counted None tasks size core = refl
settled-counted (Some b) tasks size core = refl

-- a piece of this owner, segment, kids and count of kids
abbrev with_parts : Work → List ℕ → Core → Option ℕ → ℕ → List Made → ℕ → Core
with_parts work bytes core owner s all kids =
    queued owner s (with_all_made owner s all (counted owner kids (length bytes) (with_bytes work s bytes core)))

no_segment : (s : ℕ) → None ≡ Some s → ⊥
no_segment s is = cc

same_segment : (s t : ℕ) → Some s ≡ Some t → t ≡ s
same_segment s t is = cc

prepared-claim : (outcomes : List (Entry Outcome)) (old roomy new : Core) (work : Work) (bytes : List ℕ)
    (kids : List Kid) (prepared : Prepared) (claim : Option Claim) → kept_segment claim ≡ Some prepared.segment
    → prepared.owner ≡ owner_of old work → prepared.all.items ≡ map (made_of outcomes roomy.settled) kids
    → prepared.kids ≡ length prepared.all.items → free roomy ≡ free old
    → new ≡ with_prepared prepared work bytes roomy → TakesPieceIf outcomes work bytes kids claim old new
prepared-claim outcomes old roomy new work bytes kids prepared None kept owner made count same is =
    absurd (no_segment prepared.segment kept)
prepared-claim outcomes old roomy new work bytes kids prepared (Some claim) kept owner made count same is =
    let o : Option ℕ = owner_of old work in
    let s : ℕ = claim.segment in
    let begun : Core = with_bytes work s bytes roomy in
    let settled : (counted o (length kids) (length bytes) begun).settled ≡ roomy.settled =
    settled-counted o (length kids) (length bytes) begun in
    let all : List Made = map (made_of outcomes (counted o (length kids) (length bytes) begun).settled) kids in
    let made_now : prepared.all.items ≡ all = made ∙ ap (λ n. map (made_of outcomes n) kids) (sym settled) in
    let counts : prepared.kids ≡ length kids = count ∙ ap length made ∙ length-map kids (made_of outcomes roomy.settled) in
    record {
      roomy = roomy;
      same = same;
      taken = is
          ∙ ap (λ owner. with_parts work bytes roomy owner prepared.segment prepared.all.items prepared.kids) owner
          ∙ ap (λ n. with_parts work bytes roomy o n prepared.all.items prepared.kids)
          (same_segment claim.segment prepared.segment kept)
          ∙ ap (λ items. with_parts work bytes roomy o s items prepared.kids) made_now
          ∙ ap (λ n. with_parts work bytes roomy o s all n) counts;
    }

pub TakesPiece-prepared : (outcomes : List (Entry Outcome)) (old roomy new : Core) (work : Work) (bytes : List ℕ)
    (kids : List Kid) (prepared : Prepared)
    → kept_segment (claim_at roomy.claims work.task) ≡ Some prepared.segment
    → prepared.owner ≡ owner_of roomy work → prepared.all.items ≡ map (made_of outcomes roomy.settled) kids
    → prepared.kids ≡ length prepared.all.items → free roomy ≡ free old
    → new ≡ with_prepared prepared work bytes roomy
    → TakesPieceIf outcomes work bytes kids (claim_at old.claims work.task) old new
TakesPiece-prepared outcomes old roomy new work bytes kids prepared kept owner made count same is =
    let claims : claim_at roomy.claims work.task ≡ claim_at old.claims work.task =
    ap (λ (core : Core). claim_at core.claims work.task) same in
    let owners : owner_of roomy work ≡ owner_of old work = ap (λ (core : Core). owner_of core work) same in
    prepared-claim outcomes old roomy new work bytes kids prepared (claim_at old.claims work.task)
    (ap kept_segment (sym claims) ∙ kept) (owner ∙ owners) made count same is
