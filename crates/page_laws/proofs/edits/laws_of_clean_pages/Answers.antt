use Rattle.page_laws.proofs.PageRevealsLemmas.{clean-joined, complete_clean, fail_clean, fill_clean}
use Rattle.page_laws.proofs.edits.laws_of_clean_pages.Goals as goal

pub returns : goal.returns
returns c = record { joined = clean-joined; fill = fill_clean; complete = complete_clean; client = fail_clean }
