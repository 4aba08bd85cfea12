use Rattle.fizz_segment.proofs.KidLaws.{kid_stands, kid_there, kids_added, kids_completed, kids_forgotten}
use Rattle.fizz_segment.proofs.laws.laws_of_kids.Goals as goal

pub returns-clause-added : goal.returns-clause-added
returns-clause-added c = kids_added

pub returns-clause-completed : goal.returns-clause-completed
returns-clause-completed c = kids_completed

pub returns-clause-forgotten : goal.returns-clause-forgotten
returns-clause-forgotten c = kids_forgotten

pub returns-clause-stands : goal.returns-clause-stands
returns-clause-stands c = kid_stands

pub returns-clause-there : goal.returns-clause-there
returns-clause-there c = kid_there
