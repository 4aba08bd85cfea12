use Rattle.std.proofs.Common.{refl}
use Rattle.fizz_cli.proofs.commands.serve.Goals as goal

pub returns-in-Render : goal.returns-in-Render
returns-in-Render g c = rw c.in-Render.is (c.serve.ensures c.in-Render.workers)

pub returns-in-Gen : goal.returns-in-Gen
returns-in-Gen g c = rw c.in-Gen.is (c.serve-in-Gen.ensures c.in-Gen.workers _ refl)
