-- How a page is sent. Private functions cite it.
use Rattle.std.specs.Prelude.{◌≡◌, ◌⊎◌, ℕ, List, [], Option, Some, None, Result, Ok, Err, Vec}
use Rattle.std.specs.declared.alloc.Global.{Global}
use Rattle.std.specs.Io.KnownBytes.{Appends}
use Rattle.fizz_outside.specs.FileContents.{Contents}
use Rattle.fizz_piece.specs.declared.plan.Plan.{Plan}
use Rattle.inline_run.specs.Runs.{IsCutRun, IsRun}
use Rattle.inline_run.specs.declared.run.Report.{Report}
use Rattle.inline_run.specs.declared.run.RunFault.{RunFault}
use Rattle.inline_run.specs.declared.run.RunFault.TheVariants.{SinkFault}
use Rattle.settle_script.specs.declared.event.Event.{Event}
use Rattle.fizz_cli.specs.Rendering.{AcceptsPage, MayComeLate, PrintsStillPage, SendsPage, SendsPart, StreamsPage, StreamsPart}
use Rattle.fizz_cli.specs.Reports.{Change, HasSinkFault, SinkReport}
use Rattle.fizz_cli.specs.Trees.{IsExpanded, IsShown, settled_page}
use Rattle.fizz_words.specs.declared.command.Options.{Options}
use Rattle.fizz_cli.specs.declared.commands.render.Ready.{Ready}
use Rattle.fizz_cli.specs.declared.steps.sources.Sources.{Sources}
use Rattle.fizz_cli.specs.declared.stop.Stop.{Stop}
use Rattle.fizz_cli.specs.declared.stop.Stop.TheVariants.{Refused, SinkFailed, OutOfMemory}
use Rattle.jsx_syntax.specs.Rules.{IsApp}
use Rattle.jsx_value.specs.Positions.{Page}
use Rattle.settled_tree.specs.declared.forest.Forest.{Forest}

-- The forest is the expansion of a page that is shown.
pub record IsShownForest (page : Page) (forest : Forest) : Type 0 where
  pub expanded : IsExpanded page forest
  pub shown : IsShown page

-- the bytes of a page that stands still, or none of one that may come late
abbrev pub AreStillBytes : Page → Option (Vec ℕ Global) → Type 0
AreStillBytes page (Some bytes) = PrintsStillPage page bytes.items
AreStillBytes page None = MayComeLate page

-- The page is shown, with its bytes if it stands still.
pub record IsSettledAs (page : Page) (bytes : Option (Vec ℕ Global)) : Type 0 where
  pub shown : IsShown page
  pub still : AreStillBytes page bytes

-- A page is ready to be sent, of these sources.
pub record IsReady (sources : Sources) (prefix : List ℕ) (ready : Ready) : Type 0 where
  pub same : ready.sources ≡ sources
  pub settled : IsSettledAs (settled_page sources prefix) ready.still

-- A page that is ready can be sent, with ids under this prefix.
pub record IsSendable (prefix : List ℕ) (ready : Ready) : Type 0 where
  pub app : IsApp ready.sources.program
  pub settled : IsSettledAs (settled_page ready.sources prefix) ready.still

pub record IsReadyOf (at : Contents) (app script prefix : List ℕ) (ready : Ready) : Type 0 where
  pub accepted : AcceptsPage at app script prefix ready.sources
  pub still : AreStillBytes (settled_page ready.sources prefix) ready.still

-- These bytes were appended to the output.
pub record SendsBytes (may_be : List ℕ → Type 0) (sink : Change SinkReport) : Type 0 where
  pub written : List ℕ
  pub is : may_be written
  pub appended : Appends sink.before.held sink.after.held written

-- A page is sent, or a part of it.
abbrev pub SendsReady : {T : Type 0} → Sources → Options → Change SinkReport → Result T Stop → Type 0
SendsReady sources options sink (Ok done) = SendsBytes (SendsPage sources options) sink
SendsReady sources options sink (Err (Refused refusal)) = ⊥
SendsReady sources options sink (Err SinkFailed) = HasSinkFault sink × SendsBytes (SendsPart sources options) sink
SendsReady sources options sink (Err OutOfMemory) = SendsBytes (SendsPart sources options) sink

-- A script is run to its end, or a part of it.
abbrev pub RunsInto : {T : Type 0} → Plan → List Event → Change SinkReport → Result T Stop → Type 0
RunsInto plan lines sink (Ok done) = (report : Report) × IsRun plan lines sink.before.held sink.after.held report
RunsInto plan lines sink (Err (Refused refusal)) = ⊥
RunsInto plan lines sink (Err SinkFailed) =
    IsCutRun plan lines sink.before.held sink.after.held sink.before.faults sink.after.faults SinkFault
RunsInto plan lines sink (Err OutOfMemory) =
    (fault : RunFault) × IsCutRun plan lines sink.before.held sink.after.held sink.before.faults sink.after.faults fault

-- A page that may come late is streamed, or a part of it.
abbrev pub StreamsInto : {T : Type 0} → Sources → Options → Change SinkReport → Result T Stop → Type 0
StreamsInto sources options sink (Ok done) = SendsBytes (StreamsPage sources options) sink
StreamsInto sources options sink (Err (Refused refusal)) = ⊥
StreamsInto sources options sink (Err SinkFailed) = HasSinkFault sink × SendsBytes (StreamsPart sources options) sink
StreamsInto sources options sink (Err OutOfMemory) = SendsBytes (λ out. (out ≡ []) ⊎ StreamsPart sources options out) sink
