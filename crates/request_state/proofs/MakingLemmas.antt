-- What stays while the kids of a piece are made.
use Rattle.std.proofs.Common.{◌≡◌, ℕ, zero, suc, ◌+◌, ◌*◌, ◌-◌, ◌<◌, ◌≤◌, is_some, false, IsTrue, Option, Some, None, List, [], ◌∷◌, ◌++◌, length, refl, arith}
use Rattle.std.proofs.lemmas.List.{length-append}
use Rattle.fizz_segment.specs.declared.segment.Part.{Part}
use Rattle.fizz_segment.specs.Tree.{part_at}
use Rattle.fizz_segment.specs.Calls.{IsLive}
use Rattle.fizz_boundary.specs.Calls.{IsParent}
use Rattle.request_state.specs.declared.making.Made.{Made}
use Rattle.request_state.specs.declared.making.Made.TheVariants as m
use Rattle.fizz_task.specs.Board.{Board}
use Rattle.fizz_task.specs.Calls.{spawned}
use Rattle.id_lists.specs.Lists.{Lists}
use Rattle.id_lists.specs.Calls.{with_list}
use Rattle.request_state.specs.declared.job.Job.{Job}
use Rattle.request_state.specs.Core.{Core}
use Rattle.request_state.specs.Making.{RoomFor, owned, with_made}

pub RoomFor-one : (n capacity : ℕ) (core : Core) → RoomFor (suc n) capacity core → RoomFor 1 capacity core
RoomFor-one n capacity core room = record {
  for_tasks = omega (arith, room.for_tasks);
  for_claims = omega (arith, room.for_claims);
  for_segments = omega (arith, room.for_segments);
  for_boundaries = omega (arith, room.for_boundaries);
  for_own = omega (arith, room.for_own);
  for_own_lists = omega (arith, room.for_own_lists);
  for_queues = record {
    for_segments = omega (arith, room.for_queues.for_segments);
    for_lists = omega (arith, room.for_queues.for_lists);
    for_boundaries = omega (arith, room.for_queues.for_boundaries);
  };
}

one_longer : {A : Type 0} (xs : List A) (x : A) → length (xs ++ x ∷ []) ≡ length xs + 1
one_longer xs x = length-append xs (x ∷ [])

pub less-append : {A : Type 0} (n : ℕ) (xs : List A) (x : A) → n < length xs → n < length (xs ++ x ∷ [])
less-append n xs x less = omega (arith, less, one_longer xs x)

pub not_live : IsTrue false → ⊥
not_live live = cc

is_some-append : (parts : List (Option Part)) (part : Option Part) (n : ℕ) → IsTrue (is_some (part_at parts n))
    → IsTrue (is_some (part_at (parts ++ part ∷ []) n))
is_some-append [] part zero live = absurd (not_live live)
is_some-append [] part (suc n) live = absurd (not_live live)
is_some-append (first ∷ parts) part zero live = live
is_some-append (first ∷ parts) part (suc n) live = is_some-append parts part n live

spare-spawned : (owner : Option ℕ) (job : Job) (waits : Option (List ℕ)) (board : Board Job)
    → (spawned owner job waits board).spare ≡ board.spare - 1
spare-spawned owner job None board = refl
spare-spawned owner job (Some resource) board = refl

spare-left : (n : ℕ) (owner : Option ℕ) (job : Job) (waits : Option (List ℕ)) (board : Board Job) → 2 * suc n ≤ board.spare
    → 2 * n ≤ (spawned owner job waits board).spare
spare-left n owner job waits board room = omega (arith, room, spare-spawned owner job waits board)

spare_ids-owned : (owner : Option ℕ) (own : Lists) → (owned owner own).spare_ids ≡ own.spare_ids - 1
spare_ids-owned None own = refl
spare_ids-owned (Some boundary) own = refl

spare_lists-owned : (owner : Option ℕ) (own : Lists) → (owned owner own).spare_lists ≡ own.spare_lists
spare_lists-owned None own = refl
spare_lists-owned (Some boundary) own = refl

pub RoomFor-made : (n capacity : ℕ) (owner : Option ℕ) (parent : ℕ) (made : Made) (core : Core)
    → RoomFor (suc n) capacity core → RoomFor n capacity (with_made owner parent made core)
RoomFor-made n capacity owner parent (m.Hole place lead position waits) core room = record {
  for_tasks = spare-left n owner _ waits core.tasks room.for_tasks;
  for_claims = omega (arith, room.for_claims, one_longer core.claims None);
  for_segments = omega (arith, room.for_segments);
  for_boundaries = omega (arith, room.for_boundaries);
  for_own = omega (arith, room.for_own, spare_ids-owned owner core.own);
  for_own_lists = omega (arith, room.for_own_lists, spare_lists-owned owner core.own);
  for_queues = record {
    for_segments = omega (arith, room.for_queues.for_segments);
    for_lists = omega (arith, room.for_queues.for_lists);
    for_boundaries = omega (arith, room.for_queues.for_boundaries);
  };
}
RoomFor-made n capacity owner parent (m.Boundary place path content fallback) core room = record {
  for_tasks = omega (arith, room.for_tasks);
  for_claims = omega (arith, room.for_claims, one_longer core.claims None, one_longer (core.claims ++ None ∷ []) None);
  for_segments = omega (arith, room.for_segments);
  for_boundaries = omega (arith, room.for_boundaries);
  for_own = omega (
    arith,
    room.for_own,
    spare_ids-owned owner (owned (Some (length core.boundaries.bounds)) (with_list core.own)),
  );
  for_own_lists = omega (
    arith,
    room.for_own_lists,
    spare_lists-owned owner (owned (Some (length core.boundaries.bounds)) (with_list core.own)),
  );
  for_queues = record {
    for_segments = omega (arith, room.for_queues.for_segments);
    for_lists = omega (arith, room.for_queues.for_lists);
    for_boundaries = omega (arith, room.for_queues.for_boundaries);
  };
}

pub IsLive-made : (owner : Option ℕ) (parent : ℕ) (made : Made) (core : Core)
    → IsLive core.segments parent → IsLive (with_made owner parent made core).segments parent
IsLive-made owner parent (m.Hole place lead position waits) core live = is_some-append core.segments.parts _ parent live
IsLive-made owner parent (m.Boundary place path content fallback) core live =
    is_some-append _ _ parent (is_some-append core.segments.parts _ parent live)

pub IsParent-made : (owner other : Option ℕ) (parent : ℕ) (made : Made) (core : Core)
    → IsParent core.boundaries owner → IsParent (with_made other parent made core).boundaries owner
IsParent-made None other parent made core is = is
IsParent-made (Some b) other parent (m.Hole place lead position waits) core is = is
IsParent-made (Some b) other parent (m.Boundary place path content fallback) core is =
    less-append b core.boundaries.bounds _ is
