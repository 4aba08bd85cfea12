use Rattle.std.proofs.Common.{subst}
use Rattle.std.proofs.lemmas.Result.{err_from_is_err_and}
use Rattle.html_read.specs.Reading.{FeedCause}
use Rattle.document_machine.proofs.Pieces.{before_cause, fault_cause, goes_on, read_cause}
use Rattle.document_machine.proofs.Steps.{on_err, on_ok}
use Rattle.document_machine.proofs.machine.run_piece.Goals as goal

pub returns-in_err-follow_all-in-Err-Bad-clause-refused : goal.returns-in_err-follow_all-in-Err-Bad-clause-refused
returns-in_err-follow_all-in-Err-Bad-clause-refused c =
    let p = err_from_is_err_and c.from_residual.result c.from_residual.ensures.1 in
    rw (p.1, p.2) (before_cause c.args.prefix.now c.args.piece.now c.args.reader.now c.feed.new.self c.args.page.now c.in-Err-Bad.before.items c.in-Err-Bad.at c.in-Err-Bad.field-0-2
    c.in_err-follow_all-in-Err-Bad.field-0.0
    (subst (λ f. FeedCause c.args.reader.now c.args.piece.now c.feed.new.self f) c.in-Err-Bad.field-0-is c.in-Err-Bad.ensures.refused) c.in_err-follow_all-in-Err-Bad.ensures.refused)

pub returns-in-Ok-clause-taken : goal.returns-in-Ok-clause-taken
returns-in-Ok-clause-taken c =
    on_ok c.follow_all.result _ _ (λ steps bytes w. goes_on c.args.prefix.now bytes c.args.piece.now c.args.reader.now c.feed.new.self c.args.page.now c.follow_all.new.page c.in-Ok.tokens.items
    c.in-Ok.ensures.taken steps w) c.follow_all.ensures.steps

pub returns-in-Ok-clause-refused : goal.returns-in-Ok-clause-refused
returns-in-Ok-clause-refused c =
    on_err c.follow_all.result _ _ (λ e. read_cause c.args.prefix.now c.args.piece.now c.args.reader.now c.feed.new.self c.args.page.now c.in-Ok.tokens.items e c.in-Ok.ensures.taken) c.follow_all.ensures.refused

pub returns-in_ok-follow_all-in-Err-Bad-clause-refused : goal.returns-in_ok-follow_all-in-Err-Bad-clause-refused
returns-in_ok-follow_all-in-Err-Bad-clause-refused c =
    fault_cause c.args.prefix.now c.args.piece.now c.args.reader.now c.feed.new.self c.args.page.now c.follow_all-in-Err-Bad.new.page c.in-Err-Bad.before.items c.in-Err-Bad.at c.in-Err-Bad.field-0-2
    (subst (λ f. FeedCause c.args.reader.now c.args.piece.now c.feed.new.self f) c.in-Err-Bad.field-0-is c.in-Err-Bad.ensures.refused) c.in_ok-follow_all-in-Err-Bad.ensures.steps
