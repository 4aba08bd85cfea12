use Rattle.position_laws.proofs.LaterLemmas.{grows, waits_on}
use Rattle.position_laws.proofs.later.laws_of_later_positions.Goals as goal

pub returns : goal.returns
returns c = record { grows = grows; waits = waits_on }
