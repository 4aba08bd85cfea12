use Rattle.std.proofs.Common.{◌≡◌, drop}
use Rattle.settled_tree.specs.Forests.{spots_in}
use Rattle.fizz_cli.specs.StillPages.{is_still}
use Rattle.fizz_cli.proofs.still.+still.Given as goal

-- Whether what is left is still, all is.
abbrev pub invariant-are_still-loop-node : goal.invariant-are_still-loop-node
invariant-are_still-loop-node l =
    is_still l.prefix (spots_in (drop l.node-index l.nodes)) l.room ≡ is_still l.prefix (spots_in l.nodes) l.room
