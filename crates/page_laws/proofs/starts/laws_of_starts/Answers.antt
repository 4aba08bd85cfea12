use Rattle.std.proofs.Common.{arith, refl}
use Rattle.dom_forest.specs.Edits.{IsNumbered, nothing}
use Rattle.document_machine.specs.Running.{at_first, on_document}
use Rattle.page_laws.proofs.starts.laws_of_starts.Goals as goal

empty_numbered : IsNumbered nothing
empty_numbered = record { once = λ id. omega arith; given = λ id e. refl }

pub returns : goal.returns
returns c = record {
  one = λ prefix bytes a b utf8 ra rb. c.laws_of_documents.ensures.one prefix at_first a b bytes utf8 ra rb;
  numbered = λ prefix bytes end run. c.laws_of_runs.ensures.numbered prefix at_first end bytes run empty_numbered;
  resumed = λ prefix bytes dom known end run numbered. c.laws_of_runs.ensures.numbered prefix (on_document dom known) end bytes run numbered;
}
