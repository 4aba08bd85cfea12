use Rattle.std.proofs.Common.{ap, ◌∙◌}
use Rattle.page_generator.specs.Draws.{draw_of, next_state}
use Rattle.page_generator.proofs.DrawsLemmas.{draw_step, state_step}
use Rattle.page_generator.proofs.draws.Draws.next.Goals as goal

pub returns-clause-value : goal.returns-clause-value
returns-clause-value c = draw_step c.self.inside.state ∙ ap draw_of c.self.view_is

pub returns-clause-state : goal.returns-clause-state
returns-clause-state c = state_step c.self.inside.state ∙ ap next_state c.self.view_is
