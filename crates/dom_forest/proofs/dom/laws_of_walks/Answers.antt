use Rattle.dom_forest.proofs.Walks.{kids_walk, later_walk}
use Rattle.dom_forest.proofs.dom.laws_of_walks.Goals as goal

pub returns-clause-kids : goal.returns-clause-kids
returns-clause-kids c = λ dom numbered parent child starts. kids_walk dom.forest numbered.once parent child starts

pub returns-clause-later : goal.returns-clause-later
returns-clause-later c = λ dom numbered node next starts. later_walk dom.forest numbered.once node next starts
