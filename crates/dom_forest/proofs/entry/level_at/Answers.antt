use Rattle.std.proofs.Common.{sym, ap, ◌∙◌}
use Rattle.dom_forest.specs.Chain.{entries_of, rest_from}
use Rattle.dom_forest.specs.Runs.{level_id}
use Rattle.dom_forest.proofs.Chains.{rest_gone}
use Rattle.dom_forest.proofs.entry.level_at.Goals as goal

pub returns-in-None : goal.returns-in-None
returns-in-None c =
    let es = entries_of c.args.chain.now in
    sym (ap (λ o. level_id c.args.depth (rest_from o es)) c.in-Some.is ∙ ap (level_id c.args.depth) (rest_gone c.in-Some.id es c.in-None.ensures.absent))
