use Rattle.std.proofs.Common.{arith}
use Rattle.id_lists.proofs.Kept.{kept_room}
use Rattle.id_lists.proofs.all.IdLists.copy.Goals as goal

pub invariant_of-result : goal.invariant_of-result
invariant_of-result c =
    let linked = c.self.invariant.linked in
    let more = c.in_ok-links.ensures.room in
    (kept_room c.self.inside.links c.self.inside.spare_lists c.self.inside.spare_ids c.self.invariant c.in_ok-links.links
    c.in_ok-links.ensures.same (record {
      for_first = more.more_first;
      for_last = omega (arith, more.more_last, linked.first_length, linked.last_length);
      for_previous = omega (arith, more.more_previous, linked.previous_length);
      for_next = more.more_next;
      for_home = omega (arith, more.more_home, linked.home_length);
    })).kept
