use Rattle.html_read.proofs.RestsLemmas.{decided, rest_text}
use Rattle.html_read.proofs.rests.laws_of_rests.Goals as goal

pub returns : goal.returns
returns c = record { decided = decided; text = rest_text }
