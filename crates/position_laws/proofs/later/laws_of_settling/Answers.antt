use Rattle.position_laws.proofs.OnwardLemmas.{later_one_refl, later_one_trans, settled_one_later}
use Rattle.position_laws.proofs.later.laws_of_settling.Goals as goal

pub returns : goal.returns
returns c = record {
  same = later_one_refl;
  onward = λ first second both x y z f g. later_one_trans first second both f g x y z;
  settled = settled_one_later;
}
