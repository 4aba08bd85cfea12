-- How the serving of a command ends, before a refusal is told. Private functions cite it.
use Rattle.std.specs.Prelude.{◌≡◌, ℕ, ◌⊎◌, List, Result, Ok, Err, Some}
use Rattle.std.specs.Io.KnownBytes.{Appends}
use Rattle.fizz_outside.specs.FileContents.{Contents}
use Rattle.fizz_cli.specs.Calls.{IsCause, IsCutOff, IsDone, KeepsOthers}
use Rattle.fizz_cli.specs.Reports.{AppendsPrefix, Change, FilesReport, HasSinkFault, SinkReport}
use Rattle.fizz_cli.specs.Serving.{Accepts, Leaves, MayWrite}
use Rattle.fizz_words.specs.declared.command.Command.{Command}
use Rattle.fizz_cli.specs.declared.stop.Stop.{Stop}
use Rattle.fizz_cli.specs.declared.stop.Stop.TheVariants.{Refused, SinkFailed, OutOfMemory}

-- Sending ends with the wanted status, all bytes being sent; with 7 where the sink failed; or with 8 for want of memory.
abbrev pub SendsAll : ℕ → List ℕ → Change SinkReport → ℕ → Type 0
SendsAll status bytes sink result =
    ((result ≡ status) × Appends sink.before.held sink.after.held bytes)
    ⊎ (((result ≡ 7) × HasSinkFault sink × AppendsPrefix sink.before.held sink.after.held bytes)
    ⊎ ((result ≡ 8) × AppendsPrefix sink.before.held sink.after.held bytes))

-- Writing an output ends with all of it written, with a sink that failed, or for want of memory.
abbrev pub WritesAll : {T : Type 0} → List ℕ → Change SinkReport → Result T Stop → Type 0
WritesAll bytes sink (Ok done) = Appends sink.before.held sink.after.held bytes
WritesAll bytes sink (Err (Refused refusal)) = ⊥
WritesAll bytes sink (Err SinkFailed) = HasSinkFault sink × AppendsPrefix sink.before.held sink.after.held bytes
WritesAll bytes sink (Err OutOfMemory) = AppendsPrefix sink.before.held sink.after.held bytes

-- The files are accepted, where they report what they hold.
abbrev pub IsAcceptedBy : Command → Change FilesReport → Type 0
IsAcceptedBy command files = (at : Contents) → files.before.contents ≡ Some at → Accepts at command

abbrev pub EndsAs : {T : Type 0} → Command → Change FilesReport → Change SinkReport → Result T Stop → Type 0
EndsAs command files out (Ok done) = IsDone command files out
EndsAs command files out (Err (Refused refusal)) = IsCause command files refusal × Leaves command refusal out.before.held out.after.held
EndsAs command files out (Err SinkFailed) = HasSinkFault out × IsCutOff command files out × IsAcceptedBy command files
EndsAs command files out (Err OutOfMemory) = IsCutOff command files out

pub record Serves {T : Type 0} (command : Command) (files : Change FilesReport) (out : Change SinkReport) (result : Result T Stop) : Type 0 where
  pub others : KeepsOthers (MayWrite command) files.before.contents files.after.contents
  pub ends : EndsAs command files out result
