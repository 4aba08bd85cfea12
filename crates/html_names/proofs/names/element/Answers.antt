use Rattle.std.proofs.Common.{◌∙◌, sym}
use Rattle.html_names.proofs.names.element.Goals as goal

pub returns-in-Some : goal.returns-in-Some
returns-in-Some c = (c.in-Some.ensures.0, sym c.rows_for.ensures.named ∙ c.in-Some.ensures.1)

pub returns-in-None : goal.returns-in-None
returns-in-None c = sym c.rows_for.ensures.named ∙ c.in-None.ensures
