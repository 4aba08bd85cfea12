use Rattle.std.proofs.Common.{◌≡◌, take}
use Rattle.document_machine.proofs.viewing.copies.Given as goal

abbrev pub invariant-loop-attribute : goal.invariant-loop-attribute
invariant-loop-attribute l = l.copies ≡ take l.attribute-index l.attributes
