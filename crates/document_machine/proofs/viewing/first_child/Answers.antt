use Rattle.std.proofs.Common.{Some}
use Rattle.document_machine.proofs.WalksLemmas.{nodes_from-first}
use Rattle.document_machine.proofs.viewing.first_child.Goals as goal

pub returns : goal.returns
returns c = nodes_from-first c.args.dom.now (Some c.args.node) c.first.result c.requires c.laws_of_walks.ensures.kids c.first.ensures
