use Rattle.jsx_value.proofs.AppsLemmas.{app_ordered}
use Rattle.jsx_value.proofs.expansion_laws.laws_of_apps.Goals as goal

pub returns : goal.returns
returns c = app_ordered
