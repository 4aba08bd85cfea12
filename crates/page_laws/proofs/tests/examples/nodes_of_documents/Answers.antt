use Rattle.std.proofs.Common.{refl}
use Rattle.html_names.specs.Elements.{element_rows}
use Rattle.page_laws.proofs.tests.examples.nodes_of_documents.Goals as goal

pub returns : goal.returns
unfolding element_rows
returns c = refl
