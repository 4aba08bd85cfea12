use Rattle.std.proofs.Common.{◌≡◌, []}
use Rattle.document_machine.specs.Shown.{view_parts}
use Rattle.document_machine.specs.Views.{view_of}
use Rattle.document_machine.specs.Viewing.{all_parts_from, turns}
use Rattle.document_machine.proofs.viewing.view_of.Given as goal

-- what was made, with what is still to come, is the whole view
abbrev pub invariant-nodes : goal.invariant-nodes
invariant-nodes l = all_parts_from l.prefix l.dom.forest l.walk l.here ≡ view_parts (view_of l.prefix l.dom.forest) []

abbrev pub decreases-nodes : goal.decreases-nodes
decreases-nodes l = turns l.dom.forest l.walk l.here
