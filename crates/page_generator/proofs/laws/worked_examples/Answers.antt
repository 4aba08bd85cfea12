use Rattle.std.proofs.Common.{refl}
use Rattle.std.specs.Fmt.{digits}
use Rattle.page_generator.specs.Draws.{draw_of, next_state}
use Rattle.page_generator.specs.Pages.{script_of}
use Rattle.page_generator.proofs.laws.worked_examples.Goals as goal

pub returns-clause-zero : goal.returns-clause-zero
unfolding draw_of next_state
returns-clause-zero c = refl

pub returns-clause-seven : goal.returns-clause-seven
unfolding draw_of next_state
returns-clause-seven c = refl

pub returns-clause-one_leaf : goal.returns-clause-one_leaf
unfolding draw_of next_state script_of digits
returns-clause-one_leaf c = refl

pub returns-clause-three_leaves : goal.returns-clause-three_leaves
unfolding draw_of next_state script_of digits
returns-clause-three_leaves c = refl
