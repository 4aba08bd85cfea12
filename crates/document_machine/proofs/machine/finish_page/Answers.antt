use Rattle.std.proofs.Common.{subst, sym}
use Rattle.html_read.specs.Reading.{FinishCause, IsLast}
use Rattle.document_machine.specs.Taking.{LeavesRest}
use Rattle.document_machine.proofs.Ends.{ends_text, ends_torn, ends_whole}
use Rattle.document_machine.proofs.Steps.{on_ok}
use Rattle.document_machine.proofs.machine.finish_page.Goals as goal

pub returns-in-Ok-Some-clause-ended : goal.returns-in-Ok-Some-clause-ended
returns-in-Ok-Some-clause-ended c =
    on_ok c.take.result _ _ (λ step bytes w. ends_text c.args.prefix.now bytes c.args.reader c.args.page.now c.take.new.self c.in-Ok-Some.token (subst (IsLast c.args.reader) c.in-Ok-Some.field-0-is c.in-Ok-Some.ensures.last) step w) c.take.ensures.step

pub returns-in-Ok-None-clause-ended : goal.returns-in-Ok-None-clause-ended
returns-in-Ok-None-clause-ended c = λ bytes w. ends_whole c.args.prefix.now bytes c.args.reader c.args.page.now (subst (IsLast c.args.reader) c.in-Ok-None.field-0-is c.in-Ok-None.ensures.last).1 w

pub returns-in-Err-Unfinished-clause-refused : goal.returns-in-Err-Unfinished-clause-refused
returns-in-Err-Unfinished-clause-refused c = λ bytes w.
    subst (LeavesRest c.args.prefix.now bytes) (sym c.in-Err-Unfinished.at-is)
    (ends_torn c.args.prefix.now bytes c.args.reader c.args.page.now c.in-Err-Unfinished.at
    (subst (FinishCause c.args.reader) c.in-Err-Unfinished.field-0-is c.in-Err-Unfinished.ensures.refused) w)
