use Rattle.std.proofs.Common.{◌≡◌, ◌+◌, ◌≤◌, length}
use Rattle.id_lists.proofs.tests.long_list.Given as goal

abbrev pub invariant-loop : goal.invariant-loop
invariant-loop l = (l.list ≡ 0) × (length l.lists.lists ≡ 2) × (l.lists.spare_ids + l.counter ≡ l.n) × (l.counter ≤ l.n)
