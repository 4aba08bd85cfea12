use Rattle.like_laws.proofs.StreamedApart.{streamed_apart}
use Rattle.like_laws.proofs.alike.laws_of_apart_documents.Goals as goal

pub returns : goal.returns
returns c = streamed_apart
