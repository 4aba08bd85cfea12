use Rattle.jsx_value.proofs.SettlingLemmas.{more_settled, stays_or_opens}
use Rattle.jsx_value.proofs.expansion_laws.laws_of_settlements.Goals as goal

pub returns : goal.returns
returns c = record {
  places = λ first second place settles. stays_or_opens first second settles place;
  numbers = more_settled;
}
