use Rattle.std.proofs.Common.{◌∙◌, ap, is_some}
use Rattle.settle_script.proofs.SettlementsLemmas.{is_some-place_of}
use Rattle.settle_script.proofs.outcome.Outcomes.contains.Goals as goal

pub returns : goal.returns
returns c = c.is_some.ensures ∙ ap is_some c.place.ensures ∙ is_some-place_of c.args.name.now c.args.self.now
