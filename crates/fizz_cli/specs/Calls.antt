-- What a call of the program does to files, output and notes, by the status that it ends with.
use Rattle.std.specs.Prelude.{◌≡◌, ◌≢◌, ℕ, ◌⊎◌, List, Option, Some, None}
use Rattle.std.specs.Io.KnownBytes.{Appends, Keeps}
use Rattle.fizz_outside.specs.FileContents.{Contents}
use Rattle.fizz_cli.specs.Notes.{note_of, prefix_note}
use Rattle.fizz_cli.specs.Refusals.{status_of}
use Rattle.fizz_cli.specs.Reports.{AppendsPrefix, Change, FilesReport, HasFilesFault, HasSinkFault, SinkReport}
use Rattle.fizz_cli.specs.Serving.{Accepts, Completes, IsPart, Leaves, MayWrite, Refuses}
use Rattle.fizz_cli.specs.Words.{Reading, means, has_long_prefix, asks_for_text, is_wrong}
use Rattle.fizz_words.specs.declared.command.Command.{Command}
use Rattle.fizz_cli.specs.declared.refusal.Refusal.{Refusal}
use Rattle.fizz_cli.specs.declared.refusal.Refusal.TheVariants.{CannotRead}

-- All files that may not be written keep their contents.
abbrev pub KeepsOthers : (List ℕ → Type 0) → Option Contents → Option Contents → Type 0
KeepsOthers may_write (Some at) (Some now) = (name : List ℕ) → (may_write name → ⊥) → now name ≡ at name
KeepsOthers may_write (Some at) None = ⊥
KeepsOthers may_write None (Some now) = ⊥
KeepsOthers may_write None None = Unit {0}

-- The command is done: where the files report what they hold, what it is to write stands there.
abbrev pub IsDone : Command → Change FilesReport → Change SinkReport → Type 0
IsDone command files out = (at now : Contents) → files.before.contents ≡ Some at → files.after.contents ≡ Some now →
    (written : List ℕ) × Completes at command now written × Appends out.before.held out.after.held written

-- The command was cut off: where the files report what they hold, a part of what it is to write was appended.
abbrev pub IsCutOff : Command → Change FilesReport → Change SinkReport → Type 0
IsCutOff command files out = (at : Contents) → files.before.contents ≡ Some at →
    (written : List ℕ) × IsPart at command written × Appends out.before.held out.after.held written

-- Why a refusal is answered: where the files report what they hold, it is the command's by that; where they don't, a
-- file can't be read only where a fault was counted.
pub record IsCause (command : Command) (files : Change FilesReport) (refusal : Refusal) : Type 0 where
  pub told : (at : Contents) → files.before.contents ≡ Some at → Refuses at command (HasFilesFault files) refusal
  pub untold : files.before.contents ≡ None → (name : List ℕ) → refusal ≡ CannotRead name → HasFilesFault files

-- The refusal has its cause, its note was appended, and the output is left as it is with that refusal.
pub record Tells (command : Command) (files : Change FilesReport) (out notes : Change SinkReport) (refusal : Refusal) : Type 0 where
  pub cause : IsCause command files refusal
  pub note : Appends notes.before.held notes.after.held (note_of refusal)
  pub output : Leaves command refusal out.before.held out.after.held

-- As above, but the note was cut off.
pub record TellsInPart (command : Command) (files : Change FilesReport) (out notes : Change SinkReport) (refusal : Refusal) : Type 0 where
  pub cause : IsCause command files refusal
  pub note : AppendsPrefix notes.before.held notes.after.held (note_of refusal)
  pub output : Leaves command refusal out.before.held out.after.held

-- Nothing was appended to a sink.
abbrev pub IsKept : Change SinkReport → Type 0
IsKept sink = Keeps sink.before.held sink.after.held

-- A text of clap's own, of which nothing is said here.
abbrev pub IsClapText : List ℕ → Type 0
IsClapText text = Unit {0}

-- Such a text was appended to a sink.
abbrev pub AppendsSome : (List ℕ → Type 0) → Change SinkReport → Type 0
AppendsSome is sink = (text : List ℕ) × is text × Appends sink.before.held sink.after.held text

-- A part of such a text was.
abbrev pub AppendsPart : (List ℕ → Type 0) → Change SinkReport → Type 0
AppendsPart is sink = (text : List ℕ) × is text × AppendsPrefix sink.before.held sink.after.held text

abbrev pub IsRefusalStatus : ℕ → Type 0
IsRefusalStatus status = (refusal : Refusal) × (status ≡ status_of refusal)

-- What a call that serves a command does.
pub record ServesCommand (command : Command) (files : Change FilesReport) (out notes : Change SinkReport) (status : ℕ) : Type 0 where
  pub others : KeepsOthers (MayWrite command) files.before.contents files.after.contents
  -- 0: the command is done.
  pub done : status ≡ 0 → IsDone command files out × IsKept notes
  -- 3 to 6, 9 and 10: a refusal of that status, with its note.
  pub refused : IsRefusalStatus status → (refusal : Refusal) × (status ≡ status_of refusal) × Tells command files out notes refusal
  -- 7: a sink counted a fault.
  pub failed : status ≡ 7 → HasSinkFault out ⊎ HasSinkFault notes
  -- 7, and 8 for want of memory: a part of the output is out, or a part of one note.
  pub cut : (status ≡ 7) ⊎ (status ≡ 8) → (IsCutOff command files out × IsKept notes)
      ⊎ ((refusal : Refusal) × TellsInPart command files out notes refusal)
  pub only : (status ≡ 0) ⊎ ((status ≡ 7) ⊎ ((status ≡ 8) ⊎ IsRefusalStatus status))
  -- Where memory sufficed and the files counted no fault, what they hold decides: accepted files are served unless the
  -- output counted a fault, and a refusal is told unless the notes did.
  pub accepted : (at : Contents) → files.before.contents ≡ Some at → (HasFilesFault files → ⊥) → (HasSinkFault out → ⊥) →
      status ≢ 8 → Accepts at command → status ≡ 0
  pub called_for : (at : Contents) → files.before.contents ≡ Some at → (HasFilesFault files → ⊥) → (HasSinkFault notes → ⊥) →
      status ≢ 8 → (refusal : Refusal) → Refuses at command ⊥ refusal → status ≡ status_of refusal

-- What a call does whose words are refused with such a note: it ends with 2 and a note, or it is cut off.
pub record RefusesWords (is_note : List ℕ → Type 0) (files : Change FilesReport) (out notes : Change SinkReport)
    (status : ℕ) : Type 0 where
  pub files_kept : files.after.contents ≡ files.before.contents
  pub output : IsKept out
  pub usage : status ≡ 2 → AppendsSome is_note notes
  pub failed : status ≡ 7 → HasSinkFault notes
  pub cut : AppendsPart is_note notes
  pub only : (status ≡ 2) ⊎ ((status ≡ 7) ⊎ (status ≡ 8))
  pub refused : (HasSinkFault notes → ⊥) → status ≢ 8 → status ≡ 2

-- What a call does whose words ask for help or for the version: it ends with 0 and a text on the output, or it is cut
-- off.
pub record AnswersWords (files : Change FilesReport) (out notes : Change SinkReport) (status : ℕ) : Type 0 where
  pub files_kept : files.after.contents ≡ files.before.contents
  pub quiet : IsKept notes
  pub answered : status ≡ 0 → AppendsSome IsClapText out
  pub failed : status ≡ 7 → HasSinkFault out
  pub cut : AppendsPart IsClapText out
  pub only : (status ≡ 0) ⊎ ((status ≡ 7) ⊎ (status ≡ 8))
  pub done : (HasSinkFault out → ⊥) → status ≢ 8 → status ≡ 0

-- What a call of words does, by what they come to.
abbrev pub ServesWords : Reading → Change FilesReport → Change SinkReport → Change SinkReport → ℕ → Type 0
ServesWords (means command) files out notes status = ServesCommand command files out notes status
ServesWords has_long_prefix files out notes status = RefusesWords (λ note. note ≡ prefix_note) files out notes status
ServesWords asks_for_text files out notes status = AnswersWords files out notes status
ServesWords is_wrong files out notes status = RefusesWords IsClapText files out notes status
