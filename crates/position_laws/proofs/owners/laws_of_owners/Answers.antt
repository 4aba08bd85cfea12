use Rattle.position_laws.proofs.FormedLemmas.{content_failure_stands, own_failure_stands}
use Rattle.position_laws.proofs.OwnersLemmas.{first_fails_owner, owner-append, owner_later}
use Rattle.position_laws.proofs.owners.laws_of_owners.Goals as goal

pub returns : goal.returns
returns c = record {
  below = λ root one path more e. owner-append path root one more e;
  later = λ known before after one path l e. owner_later known path before after one l e;
  fails = λ known before after one path digest l e f. first_fails_owner known path before after one digest l e f.first;
  own = own_failure_stands;
  content = content_failure_stands;
}
