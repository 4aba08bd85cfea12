use Rattle.std.proofs.Common.{◌∙◌, ap, sym}
use Rattle.settle_script.specs.Scripts.{outcomes_of}
use Rattle.settle_script.proofs.ScriptsLemmas.{never_settled}
use Rattle.settle_script.proofs.script.Script.first_settling.Goals as goal

pub returns-then-not-contains : goal.returns-then-not-contains
returns-then-not-contains c =
    never_settled c.args.name.now c.args.self.now c.self.inside.outcomes (c.self.invariant ∙ ap outcomes_of c.self.view_is) (sym c.contains.ensures ∙ c.if-not-contains.true)
