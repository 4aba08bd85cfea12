use Rattle.std.proofs.Common.{Result, Ok, Err, OnOk, reverse}
use Rattle.fizz_instructions.specs.declared.instruction.Instruction.TheVariants as instruction
use Rattle.document_machine.specs.declared.edits.EditFault.{EditFault}
use Rattle.document_machine.specs.Running.{ids_of}
use Rattle.document_machine.proofs.Keeping.{acted_open}
use Rattle.document_machine.proofs.edits.act.Goals as goal

on_ok : {A : Type 0} (r : Result A EditFault) (P Q : Type 0) → OnOk r P → (P → Q) → OnOk r Q
on_ok (Ok x) P Q p f = f p
on_ok (Err e) P Q p f = tt

pub returns-in-Complete-clause-document : goal.returns-in-Complete-clause-document
returns-in-Complete-clause-document c =
    on_ok c.complete.result _ _ c.complete.ensures.ok
    (acted_open (ids_of (reverse c.args.opened.now)) c.args.prefix.now (instruction.Complete c.in-Complete.boundary c.in-Complete.segment) c.args.dom.now c.complete.new.dom c.requires)

pub returns-in-Segment-clause-document : goal.returns-in-Segment-clause-document
returns-in-Segment-clause-document c =
    on_ok c.fill.result _ _ c.fill.ensures.ok
    (acted_open (ids_of (reverse c.args.opened.now)) c.args.prefix.now (instruction.Segment c.in-Segment.segment) c.args.dom.now c.fill.new.dom c.requires)

pub returns-in-ClientRender-clause-document : goal.returns-in-ClientRender-clause-document
returns-in-ClientRender-clause-document c =
    on_ok c.leave_to_client.result _ _ c.leave_to_client.ensures.ok
    (acted_open (ids_of (reverse c.args.opened.now)) c.args.prefix.now (instruction.ClientRender c.in-ClientRender.boundary c.in-ClientRender.digest) c.args.dom.now c.leave_to_client.new.dom c.requires)
