use Rattle.like_laws.proofs.FoundLemmas.{flipped, nodes_alike}
use Rattle.std.proofs.Common.{false}
use Rattle.like_laws.proofs.alike.laws_of_likeness.Goals as goal

pub returns : goal.returns
returns c = record { nodes = nodes_alike false; turned = λ f g r. flipped false false f g r }
