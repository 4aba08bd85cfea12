use Rattle.page_laws.proofs.PageRevealsLemmas.{complete_weight, fail_weight, fill_weight, weight-joined}
use Rattle.page_laws.proofs.edits.laws_of_weights.Goals as goal

pub returns : goal.returns
returns c = record { joined = weight-joined; fill = fill_weight; complete = complete_weight; client = fail_weight }
