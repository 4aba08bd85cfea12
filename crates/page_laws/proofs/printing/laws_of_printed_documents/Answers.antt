use Rattle.page_laws.proofs.PrintedDocumentsLemmas.{PrintLaws, page_bytes-printed, printed_document}
use Rattle.page_laws.proofs.printing.laws_of_printed_documents.Goals as goal

pub returns : goal.returns
returns c =
    let laws : PrintLaws = record {
      prints = c.laws_of_printing.ensures.prints;
      ids = c.laws_of_views.ensures.ids;
      settled = c.laws_of_views.ensures.settled;
    } in
    record { bytes = page_bytes-printed; document = printed_document laws }
