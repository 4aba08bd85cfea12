use Rattle.std.proofs.Common.{◌≡◌, length}
use Rattle.dom_forest.specs.Chain.{entries_of, rest_from}
use Rattle.std.proofs.Common.{find}
use Rattle.dom_forest.specs.declared.entry.Entry.{Entry}
use Rattle.dom_forest.specs.Ids.{has_id}
use Rattle.dom_forest.specs.Runs.{entry_id}
use Rattle.dom_forest.proofs.ids.first_with.Given as goal

abbrev pub invariant-loop-next : goal.invariant-loop-next
invariant-loop-next l =
    entry_id (find (λ (e : Entry). has_id l.id e.node) (rest_from l.next (entries_of l.chain))) ≡ entry_id (find (λ (e : Entry). has_id l.id e.node) (entries_of l.chain))

abbrev pub decreases-loop-next : goal.decreases-loop-next
decreases-loop-next l = length (rest_from l.next (entries_of l.chain))
