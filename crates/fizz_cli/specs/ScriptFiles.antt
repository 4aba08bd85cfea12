-- The step that reads a settling script.
use Rattle.std.specs.Prelude.{ℕ, List, Option}
use Rattle.settle_script.specs.Scripts.{IsScript, IsFaultOf}
use Rattle.settle_script.specs.declared.event.Event.{Event}
use Rattle.settle_script.specs.declared.fault.ScriptFault.TheVariants as settle
use Rattle.fizz_cli.specs.Steps.{IsFile, RefusesFile}
use Rattle.fizz_cli.specs.declared.refusal.FileFault.TheVariants.{Script}
use Rattle.fizz_cli.specs.declared.refusal.Refusal.{Refusal}
use Rattle.fizz_cli.specs.declared.refusal.ScriptFault.{ScriptFault}
use Rattle.fizz_cli.specs.declared.refusal.ScriptFault.TheVariants.{NotJson, TooManyEvents, NotEvent, DigestTooLong, BadValue, SettledTwice}

abbrev pub most_script_bytes : ℕ
most_script_bytes = 16777216

-- What the bytes are refused for.
abbrev pub RefusesScriptBytes : List ℕ → ScriptFault → Type 0
RefusesScriptBytes bytes NotJson = IsFaultOf bytes settle.NotJson
RefusesScriptBytes bytes (TooManyEvents count) = IsFaultOf bytes (settle.TooManyEvents count)
RefusesScriptBytes bytes (NotEvent index) = IsFaultOf bytes (settle.NotEvent index)
RefusesScriptBytes bytes (DigestTooLong index size) = IsFaultOf bytes (settle.DigestTooLong index size)
RefusesScriptBytes bytes (BadValue index) = IsFaultOf bytes (settle.BadValue index)
RefusesScriptBytes bytes (SettledTwice index first) = IsFaultOf bytes (settle.SettledTwice index first)

-- The script is accepted, and has these lines.
pub record AcceptsScript (file : Option (List ℕ)) (lines : List Event) : Type 0 where
  pub bytes : List ℕ
  pub is_file : IsFile most_script_bytes file bytes
  pub is_script : IsScript bytes lines

abbrev pub RefusesScript : Type 0 → List ℕ → Option (List ℕ) → Refusal → Type 0
RefusesScript faulted name file refusal = RefusesFile Script RefusesScriptBytes faulted most_script_bytes name file refusal
