use Rattle.std.proofs.Common.{◌≡◌, length}
use Rattle.std.specs.Vec.{vec_capacity}
use Rattle.fizz_segment.specs.Calls.{IsLive}
use Rattle.fizz_boundary.specs.Calls.{IsParent}
use Rattle.request_state.specs.Core.{core_of}
use Rattle.request_state.specs.Making.{RoomFor, with_all_made}
use Rattle.request_state.proofs.state.State.make_all.Given as goal

abbrev pub invariant-kids : goal.invariant-kids
invariant-kids l =
    IsLive l.self.segments l.parent
    × IsParent l.self.boundaries l.owner
    × RoomFor (length l.made-iterator.rest.items) (vec_capacity l.self.claims) (core_of l.self)
    × (l.self.plan ≡ l.fn.self.plan)
    × (with_all_made l.owner l.parent l.made-iterator.rest.items (core_of l.self)
    ≡ with_all_made l.owner l.parent l.fn.all.items (core_of l.fn.self))
