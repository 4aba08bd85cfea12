-- What each command does: why it is refused, what stands on the output and in files when it is done, what may stand on
-- the output where it was cut off, what stays there with a refusal, and which files it may write.
use Rattle.std.specs.Prelude.{◌≡◌, ℕ, ◌⊎◌, List, [], take, Option}
use Rattle.std.specs.Io.KnownBytes.{Keeps}
use Rattle.fizz_outside.specs.FileContents.{Contents}
use Rattle.fizz_cli.specs.Generating.{AcceptsGenerated, RefusesGenerated, SumsUp}
use Rattle.fizz_cli.specs.PageFiles.{RefusesPage, ShowsFile}
use Rattle.fizz_cli.specs.Rendering.{AcceptsPage, RendersFiles, RendersInPart}
use Rattle.fizz_cli.specs.Trees.{RefusesTree, ShowsTree}
use Rattle.fizz_words.specs.declared.command.Command.{Command}
use Rattle.fizz_words.specs.declared.command.Command.TheVariants.{Render, Show, Tree, Gen}
use Rattle.fizz_cli.specs.declared.refusal.Refusal.{Refusal}
use Rattle.fizz_cli.specs.declared.steps.sources.Sources.{Sources}

-- Why the command is refused. `faulted` stands for "the files counted a fault".
abbrev pub Refuses : Contents → Command → Type 0 → Refusal → Type 0
Refuses at (Render app script options workers) faulted refusal = RefusesTree at app script options.prefix faulted refusal
Refuses at (Show file prefix) faulted refusal = RefusesPage prefix faulted file (at file) refusal
Refuses at (Tree app script prefix) faulted refusal = RefusesTree at app script prefix faulted refusal
Refuses at (Gen seed size workers) faulted refusal = RefusesGenerated seed size refusal

-- The files are accepted: the page is shown, the page file has a settled document, or the page has a final one. `gen` reads
-- none: its page is shown.
abbrev pub Accepts : Contents → Command → Type 0
Accepts at (Render app script options workers) = (sources : Sources) × AcceptsPage at app script options.prefix sources
Accepts at (Show file prefix) = (out : List ℕ) × ShowsFile prefix (at file) out
Accepts at (Tree app script prefix) = (out : List ℕ) × ShowsTree at app script prefix out
Accepts at (Gen seed size workers) = (sources : Sources) × AcceptsGenerated seed size sources

-- What was appended to the output, and what the files hold then, when the command is done.
abbrev pub Completes : Contents → Command → Contents → List ℕ → Type 0
Completes at (Render app script options workers) now written = RendersFiles at app script options written
Completes at (Show file prefix) now written = ShowsFile prefix (at file) written
Completes at (Tree app script prefix) now written = ShowsTree at app script prefix written
Completes at (Gen seed size workers) now written = SumsUp seed size written

-- nothing, or a prefix of an output
abbrev pub IsPrefixOf : (List ℕ → Type 0) → List ℕ → Type 0
IsPrefixOf outputs written = (written ≡ []) ⊎ ((whole : List ℕ) × (n : ℕ) × outputs whole × (written ≡ take n whole))

-- What may have been appended to the output where the command was cut off.
abbrev pub IsPart : Contents → Command → List ℕ → Type 0
IsPart at (Render app script options workers) written = (written ≡ []) ⊎ RendersInPart at app script options written
IsPart at (Show file prefix) written = IsPrefixOf (ShowsFile prefix (at file)) written
IsPart at (Tree app script prefix) written = IsPrefixOf (ShowsTree at app script prefix) written
IsPart at (Gen seed size workers) written = IsPrefixOf (SumsUp seed size) written

-- What stays on the output with a refusal. The commands that are built leave nothing there.
abbrev pub Leaves : Command → Refusal → Option (List ℕ) → Option (List ℕ) → Type 0
Leaves (Render app script options workers) refusal old new = Keeps old new
Leaves (Show file prefix) refusal old new = Keeps old new
Leaves (Tree app script prefix) refusal old new = Keeps old new
Leaves (Gen seed size workers) refusal old new = Keeps old new

-- The files that the command may write.
abbrev pub MayWrite : Command → List ℕ → Type 0
MayWrite (Render app script options workers) name = ⊥
MayWrite (Show file prefix) name = ⊥
MayWrite (Tree app script prefix) name = ⊥
MayWrite (Gen seed size workers) name = ⊥
