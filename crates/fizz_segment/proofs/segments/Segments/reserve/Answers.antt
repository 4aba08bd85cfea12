use Rattle.std.proofs.Common.{◌≡◌, ◌+◌, length, ap, arith}
use Rattle.fizz_segment.proofs.LinkLemmas.{reserved_links, reserved_tree, room_fewer}
use Rattle.fizz_segment.proofs.segments.Segments.reserve.Goals as goal

pub invariant_of-self-in_err-reserve-3 : goal.invariant_of-self-in_err-reserve-3
invariant_of-self-in_err-reserve-3 c =
    let long : length c.reserve.new.self.items ≡ length c.self.inside.parts.items = ap length c.reserve.ensures.items in (
      reserved_tree _ _ _ _ _ c.reserve.ensures.items c.reserve-2.ensures.items c.self.invariant.0,
      omega (arith, long, c.self.invariant.1, c.reserve.ensures.capacity),
      omega (arith, long, c.self.invariant.2, c.reserve-2.ensures.capacity),
      reserved_links _ _ _ _ c.reserve.ensures.items c.self.invariant.3 c.reserve-3.ensures.same,
      room_fewer (length c.self.inside.parts.items + c.self.inside.spare) _ _ (c.reserve-3.ensures.kept _ c.self.invariant.4) (omega (arith, long)),
    )
