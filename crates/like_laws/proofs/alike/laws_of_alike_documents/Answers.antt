use Rattle.like_laws.proofs.PagesAlike.{streamed_alike}
use Rattle.like_laws.proofs.alike.laws_of_alike_documents.Goals as goal

pub returns : goal.returns
returns c = streamed_alike
