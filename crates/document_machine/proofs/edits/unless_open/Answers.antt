use Rattle.std.proofs.Common.{sym, ◌∙◌}
use Rattle.std.proofs.lemmas.Bool.{cond-true, cond-false}
use Rattle.document_machine.proofs.OpenIds.{open_any}
use Rattle.document_machine.proofs.edits.unless_open.Goals as goal

pub returns-then-is_open : goal.returns-then-is_open
returns-then-is_open c =
    sym (cond-true _ _ _ (sym (open_any c.args.node.0 c.args.opened.now) ∙ sym c.is_open.ensures ∙ c.if-is_open.true))

pub returns-else-is_open : goal.returns-else-is_open
returns-else-is_open c =
    sym (cond-false _ _ _ (sym (open_any c.args.node.0 c.args.opened.now) ∙ sym c.is_open.ensures ∙ c.if-is_open.false))
