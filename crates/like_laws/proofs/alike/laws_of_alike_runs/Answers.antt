use Rattle.std.proofs.Common.{◌++◌}
use Rattle.like_laws.proofs.AlikeSteps.{runs_alike, steps_open}
use Rattle.like_laws.proofs.alike.laws_of_alike_runs.Goals as goal

pub returns : goal.returns
returns c = record {
  runs = runs_alike;
  open_page = λ prefix bytes start end run h. steps_open prefix start end (run.toks ++ run.last) run.steps h;
  resumed = λ dom known numbered. record { numbered = numbered; path = tt };
}
