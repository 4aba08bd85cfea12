-- A page that is ready is sent.
use Rattle.std.proofs.Common.{◌≡◌, ◌⊎◌, ℕ, List, [], take, Option, Some, None, Result, Ok, Err, Vec, Global, refl, sym, subst, inl, inr}
use Rattle.fizz_outside.specs.FileContents.{Contents}
use Rattle.fizz_cli.specs.Calls.{IsCutOff}
use Rattle.fizz_cli.specs.Ends.{EndsAs, Serves, WritesAll}
use Rattle.fizz_piece.specs.declared.plan.Plan.{Plan}
use Rattle.jsx_value.specs.Positions.{Page}
use Rattle.fizz_cli.specs.Rendering.{IsPlanOf, PrintsStillPage, SendsPage, SendsPart}
use Rattle.fizz_cli.specs.Rendering as render
use Rattle.fizz_cli.specs.Reports.{Change, FilesReport, SinkReport}
use Rattle.fizz_cli.specs.Sending.{AreStillBytes, IsReady, IsReadyOf, IsSettledAs, RunsInto, SendsBytes, SendsReady, StreamsInto}
use Rattle.fizz_cli.specs.Sources.{AcceptsSources}
use Rattle.fizz_cli.specs.Serving.{MayWrite, Refuses}
use Rattle.fizz_cli.specs.Steps.{ReadsFiles}
use Rattle.fizz_cli.specs.Trees.{settled_page}
use Rattle.fizz_words.specs.declared.command.Command.TheVariants.{Render}
use Rattle.fizz_words.specs.declared.command.Options.{Options}
use Rattle.fizz_cli.specs.declared.commands.render.Ready.{Ready}
use Rattle.fizz_cli.specs.declared.steps.sources.Sources.{Sources}
use Rattle.fizz_cli.specs.declared.stop.Stop.{Stop}
use Rattle.fizz_cli.specs.declared.stop.Stop.TheVariants.{Refused, SinkFailed, OutOfMemory}
use Rattle.fizz_cli.proofs.CallsLemmas.{keeps_others}

pub serves_ready : {T : Type 0} (app script : List ℕ) (options : Options) (workers : ℕ) (files : Change FilesReport)
    (out : Change SinkReport) (ready : Ready) (result : Result T Stop)
    → ReadsFiles (λ at (r : Ready). IsReadyOf at app script options.prefix r)
    (λ at. Refuses at (Render app script options workers)) files (Ok ready)
    → SendsReady ready.sources options out result → Serves (Render app script options workers) files out result
serves_ready {T} app script options workers files out ready result r w = record {
  others = keeps_others (MayWrite (Render app script options workers)) files.before.contents files.after.contents r.same;
  ends = by_cases result w;
}
  where
    cut : SendsBytes (SendsPart ready.sources options) out → IsCutOff (Render app script options workers) files out
    cut w = λ at told.
        (w.written, inr (record { sources = ready.sources; accepted = (r.told at told).accepted; sends = w.is }), w.appended)

    by_cases : (result : Result T Stop) → SendsReady ready.sources options out result
        → EndsAs (Render app script options workers) files out result
    by_cases (Ok done) w = λ at now told still.
        (w.written, record { sources = ready.sources; accepted = (r.told at told).accepted; sends = w.is }, w.appended)
    by_cases (Err (Refused refusal)) w = absurd w
    by_cases (Err SinkFailed) w = (w.0, cut w.1, λ at told. (ready.sources, (r.told at told).accepted))
    by_cases (Err OutOfMemory) w = cut w

-- The bytes of a page that stands still are written.
pub writes_still : {T : Type 0} (sources : Sources) (options : Options) (bytes : List ℕ) (sink : Change SinkReport)
    (result : Result T Stop) → PrintsStillPage (settled_page sources options.prefix) bytes → WritesAll bytes sink result
    → SendsReady sources options sink result
writes_still sources options bytes sink (Ok done) prints w = record { written = bytes; is = render.prints_whole prints; appended = w }
writes_still sources options bytes sink (Err (Refused refusal)) prints w = absurd w
writes_still sources options bytes sink (Err SinkFailed) prints w =
    (w.0, record { written = take w.1.0 bytes; is = render.prints_part bytes w.1.0 prints refl; appended = w.1.1 })
writes_still sources options bytes sink (Err OutOfMemory) prints w =
    record { written = take w.0 bytes; is = render.prints_part bytes w.0 prints refl; appended = w.1 }

-- A page that may come late is streamed.
pub streams_late : {T : Type 0} (sources : Sources) (options : Options) (sink : Change SinkReport) (result : Result T Stop)
    → render.MayComeLate (settled_page sources options.prefix) → StreamsInto sources options sink result
    → SendsReady sources options sink result
streams_late sources options sink (Ok done) late s =
    record { written = s.written; is = render.streams_whole late s.is; appended = s.appended }
streams_late sources options sink (Err (Refused refusal)) late s = absurd s
streams_late sources options sink (Err SinkFailed) late s =
    (s.0, record { written = s.1.written; is = render.streams_part late s.1.is; appended = s.1.appended })
streams_late sources options sink (Err OutOfMemory) late s =
    record { written = s.written; is = part s.is; appended = s.appended }
  where
    part : (s.written ≡ []) ⊎ render.StreamsPart sources options s.written → SendsPart sources options s.written
    part (inl none) = render.nothing none
    part (inr some) = render.streams_part late some

abbrev IsWhole : Contents → (app script prefix : List ℕ) → Ready → Sources → Type 0
IsWhole at app script prefix ready sources =
    AcceptsSources at app script sources × IsSettledAs (settled_page sources prefix) ready.still

pub ready_is : (at : Contents) (app script prefix : List ℕ) (sources : Sources) (ready : Ready)
    → AcceptsSources at app script sources → IsReady sources prefix ready → IsReadyOf at app script prefix ready
ready_is at app script prefix sources ready accepted is =
    let whole : IsWhole at app script prefix ready ready.sources =
    subst (IsWhole at app script prefix ready) (sym is.same) (accepted, is.settled) in
    record { accepted = record { accepted = whole.0; shown = whole.1.shown }; still = whole.1.still }

pub streams_by : {T : Type 0} (plan : Plan) (sources : Sources) (options : Options) (sink : Change SinkReport)
    (result : Result T Stop) → IsPlanOf sources options plan → RunsInto plan sources.script sink result
    → StreamsInto sources options sink result
streams_by plan sources options sink (Ok done) plans run = record {
  written = run.1.runs.end.transcript;
  is = record { plan = plan; plans = plans; start = run.1.start; new = run.1.new; end = run.1.runs.end; runs = run.1.runs.runs; sent = refl };
  appended = run.1.runs.sent;
}
streams_by plan sources options sink (Err (Refused refusal)) plans run = absurd run
streams_by plan sources options sink (Err SinkFailed) plans run = (
  run.ends.why,
  record {
    written = take run.ends.size run.ends.last.transcript;
    is = record { plan = plan; plans = plans; start = run.start; new = run.new; last = run.ends.last; comes = run.ends.comes; size = run.ends.size; part = refl };
    appended = run.ends.sent;
  },
)
streams_by plan sources options sink (Err OutOfMemory) plans run = record {
  written = take run.1.ends.size run.1.ends.last.transcript;
  is = inr (record { plan = plan; plans = plans; start = run.1.start; new = run.1.new; last = run.1.ends.last; comes = run.1.ends.comes; size = run.1.ends.size; part = refl });
  appended = run.1.ends.sent;
}

pub still_of : (page : Page) (still : Option (Vec ℕ Global)) (bytes : Vec ℕ Global) → still ≡ Some bytes
    → AreStillBytes page still → PrintsStillPage page bytes.items
still_of page still bytes is are = subst (AreStillBytes page) is are

pub late_of : (page : Page) (still : Option (Vec ℕ Global)) → still ≡ None → AreStillBytes page still
    → render.MayComeLate page
late_of page still is are = subst (AreStillBytes page) is are
