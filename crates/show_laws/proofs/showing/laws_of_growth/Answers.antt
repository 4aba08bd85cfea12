use Rattle.show_laws.proofs.ShowsLemmas.{grown}
use Rattle.show_laws.proofs.showing.laws_of_growth.Goals as goal

pub returns : goal.returns
returns c = grown
