use Rattle.document_machine.proofs.edits.tests.+push_siblings.Given as goal

abbrev pub decreases-push_siblings : goal.decreases-push_siblings
decreases-push_siblings l = l.levels
