use Rattle.page_laws.proofs.RevealsLemmas.{reveals_whole, whole_document, whole_prefix}
use Rattle.page_laws.proofs.reveals.laws_of_reveals.Goals as goal

pub returns : goal.returns
returns c = record { forest = reveals_whole; streamed = whole_document; first = whole_prefix }
