use Rattle.std.proofs.Common.{sym, subst}
use Rattle.std.proofs.lemmas.List.{nil_from_length}
use Rattle.flush_queues.specs.Flushing.{Serves, over}
use Rattle.flush_queues.specs.Frames.{tables_of}
use Rattle.flush_queues.proofs.flushing.+serve_queues.Goals as goal

pub returns-in_default : goal.returns-in_default
returns-in_default t c =
    subst (λ qs. Serves (tables_of c.args.page) c.args.budget qs c.args.flow.now c.args.flow.now)
    (sym (nil_from_length c.args.queues.now c.in_default.ensures.cases)) (over c.args.flow.now)
