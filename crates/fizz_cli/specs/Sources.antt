-- The step that reads what a page is made of: the component file, and then the settling script.
use Rattle.std.specs.Prelude.{ℕ, List}
use Rattle.fizz_outside.specs.FileContents.{Contents}
use Rattle.fizz_cli.specs.ProgramFiles.{AcceptsProgram, RefusesProgram}
use Rattle.fizz_cli.specs.ScriptFiles.{AcceptsScript, RefusesScript}
use Rattle.fizz_cli.specs.Steps.{FirstOrNext}
use Rattle.fizz_cli.specs.declared.refusal.Refusal.{Refusal}
use Rattle.fizz_cli.specs.declared.steps.sources.Sources.{Sources}

-- The component file is accepted, and spells the program; the script is accepted, and has the lines.
pub record AcceptsSources (at : Contents) (app script : List ℕ) (sources : Sources) : Type 0 where
  pub is_app : AcceptsProgram (at app) sources.program
  pub is_script : AcceptsScript (at script) sources.script

-- The component file is refused, or it is accepted, and the script is refused.
abbrev pub RefusesSources : Contents → List ℕ → List ℕ → Type 0 → Refusal → Type 0
RefusesSources at app script faulted refusal =
    FirstOrNext (RefusesProgram faulted app (at app)) (AcceptsProgram (at app)) (λ program. RefusesScript faulted script (at script)) refusal
