use Rattle.std.proofs.Common.{◌≡◌, ◌++◌, drop}
use Rattle.document_machine.specs.Settling.{doc_parts}
use Rattle.document_machine.proofs.settling.kept_parts.Given as goal

-- what is kept, with what is left, is all
abbrev pub invariant-loop-part : goal.invariant-loop-part
invariant-loop-part l = l.kept ++ doc_parts (drop l.part-index l.parts) ≡ doc_parts l.parts
