use Rattle.jsx_value.proofs.UnfoldLemmas.{unfolded}
use Rattle.jsx_value.proofs.WeightsLemmas.{adds_up}
use Rattle.jsx_value.proofs.expansion_laws.laws_of_expansions.Goals as goal

pub returns-clause-unfolded : goal.returns-clause-unfolded
returns-clause-unfolded c = unfolded

pub returns-clause-weight : goal.returns-clause-weight
returns-clause-weight c = λ page ordered. adds_up page (unfolded page ordered)
