use Rattle.fizz_cli.proofs.Documents.{same_document}
use Rattle.fizz_cli.proofs.laws.one_document.Goals as goal

pub returns : goal.returns
returns c = same_document c.laws_of_documents.ensures.one
