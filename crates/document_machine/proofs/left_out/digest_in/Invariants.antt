use Rattle.std.proofs.Common.{◌≡◌, drop}
use Rattle.document_machine.specs.Views.{digest_in}
use Rattle.document_machine.proofs.left_out.digest_in.Given as goal

abbrev pub invariant-loop-attribute : goal.invariant-loop-attribute
invariant-loop-attribute l = digest_in (drop l.attribute-index l.attributes) ≡ digest_in l.attributes
