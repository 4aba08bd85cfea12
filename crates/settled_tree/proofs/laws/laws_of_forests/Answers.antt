use Rattle.settled_tree.proofs.NodesLemmas.{forest_failures, forest_document}
use Rattle.settled_tree.proofs.laws.laws_of_forests.Goals as goal

pub returns-clause-failures : goal.returns-clause-failures
returns-clause-failures c = forest_failures

pub returns-clause-document : goal.returns-clause-document
returns-clause-document c = forest_document
