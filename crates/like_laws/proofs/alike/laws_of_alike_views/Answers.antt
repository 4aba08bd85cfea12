use Rattle.like_laws.proofs.LikeViewsLemmas.{same_settled, same_views}
use Rattle.like_laws.proofs.alike.laws_of_alike_views.Goals as goal

pub returns : goal.returns
returns c = record { views = same_views; settled = same_settled }
