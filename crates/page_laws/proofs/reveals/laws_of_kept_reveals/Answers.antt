use Rattle.page_laws.proofs.PageRevealsLemmas.{complete_reveals, fail_reveals, fill_reveals, reveals-joined}
use Rattle.page_laws.proofs.reveals.laws_of_kept_reveals.Goals as goal

pub returns : goal.returns
returns c = record { joined = reveals-joined; fill = fill_reveals; complete = complete_reveals; client = fail_reveals }
