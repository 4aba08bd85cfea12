use Rattle.std.proofs.Common.{refl}
use Rattle.html_names.specs.Elements.{element_rows}
use Rattle.html_names.proofs.names.rows_from.Goals as goal

pub returns-in-115-clause-begun : goal.returns-in-115-clause-begun
unfolding element_rows
returns-in-115-clause-begun c = rw c.in-115.is (λ more. refl)
