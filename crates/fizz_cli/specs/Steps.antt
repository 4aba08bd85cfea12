-- The steps of a command: what it does with its files, one after another. A step accepts, or refuses with a cause, and
-- these exclude each other. `faulted` stands for "the files counted a fault".
use Rattle.std.specs.Prelude.{◌≡◌, ℕ, ◌<◌, ◌≤◌, ◌⊎◌, List, length, Option, Some, None, Result, Ok, Err}
use Rattle.fizz_outside.specs.FileContents.{Contents}
use Rattle.fizz_cli.specs.Reports.{Change, FilesReport, HasFilesFault}
use Rattle.fizz_cli.specs.declared.refusal.Refusal.{Refusal}
use Rattle.fizz_cli.specs.declared.refusal.Refusal.TheVariants.{CannotRead, File}
use Rattle.fizz_cli.specs.declared.refusal.FileFault.{FileFault}
use Rattle.fizz_cli.specs.declared.refusal.FileFault.TheVariants.{TooLong}
use Rattle.fizz_cli.specs.declared.stop.Stop.{Stop}
use Rattle.fizz_cli.specs.declared.stop.Stop.TheVariants.{Refused, OutOfMemory}
use Rattle.fizz_cli.specs.declared.stop.OrMemory.{OrMemory}
use Rattle.fizz_cli.specs.declared.stop.OrMemory.TheVariants.{Fault, NoMemory}

-- The file is there, and no longer than its limit.
pub record IsFile (most : ℕ) (file : Option (List ℕ)) (bytes : List ℕ) : Type 0 where
  pub found : file ≡ Some bytes
  pub short : length bytes ≤ most

-- The file is there, and longer than its limit.
pub record IsLongFile (most : ℕ) (file : Option (List ℕ)) : Type 0 where
  pub bytes : List ℕ
  pub found : file ≡ Some bytes
  pub long : most < length bytes

-- Why a file can't be had whole: it can't be read, since a fault was counted or there is none of its name, or it is too
-- long.
pub data IsNotRead (faulted : Type 0) (most : ℕ) (name : List ℕ) (file : Option (List ℕ)) (refusal : Refusal) : Type 0 where
  unread : refusal ≡ CannotRead name → faulted ⊎ (file ≡ None) → IsNotRead faulted most name file refusal
  too_long : refusal ≡ File name (TooLong most) → IsLongFile most file → IsNotRead faulted most name file refusal

-- The file was had whole, and its bytes are refused. `fault_of` makes a reader's fault a file's.
pub record HasBadBytes {F : Type 0} (most : ℕ) (fault_of : F → FileFault) (refuses : List ℕ → F → Type 0) (name : List ℕ)
    (file : Option (List ℕ)) (refusal : Refusal) : Type 0 where
  pub bytes : List ℕ
  pub fault : F
  pub is_file : IsFile most file bytes
  pub refused : refuses bytes fault
  pub says : refusal ≡ File name (fault_of fault)

-- Why a file is refused.
abbrev pub RefusesFile : {F : Type 0} → (F → FileFault) → (List ℕ → F → Type 0) → Type 0 → ℕ → List ℕ → Option (List ℕ) → Refusal → Type 0
RefusesFile fault_of refuses faulted most name file refusal =
    IsNotRead faulted most name file refusal ⊎ HasBadBytes most fault_of refuses name file refusal

-- Two steps in a row: the first refuses, or it accepts and the second refuses.
abbrev pub FirstOrNext : {A : Type 0} → (Refusal → Type 0) → (A → Type 0) → (A → Refusal → Type 0) → Refusal → Type 0
FirstOrNext {A} refuses accepts next refusal = refuses refusal ⊎ ((a : A) × accepts a × next a refusal)

-- What a step gives, or a reader of bytes: a value that it accepts, what it refuses for, or no memory.
abbrev pub AcceptsOrRefuses : {A F : Type 0} → (A → Type 0) → (F → Type 0) → Result A (OrMemory F) → Type 0
AcceptsOrRefuses accepts refuses (Ok v) = accepts v
AcceptsOrRefuses accepts refuses (Err (Fault f)) = refuses f
AcceptsOrRefuses accepts refuses (Err NoMemory) = Unit {0}

-- A step that reads files changes none of them. Where they report what they hold, it accepts or refuses by that. Where
-- they don't, a file can't be read only where a fault was counted.
pub record ReadsFiles {A : Type 0} (accepts : Contents → A → Type 0) (refuses : Contents → Type 0 → Refusal → Type 0)
    (files : Change FilesReport) (result : Result A (OrMemory Refusal)) : Type 0 where
  pub same : files.after.contents ≡ files.before.contents
  pub later : files.before.faults ≤ files.after.faults
  pub told : (at : Contents) → files.before.contents ≡ Some at → AcceptsOrRefuses (accepts at) (refuses at (HasFilesFault files)) result
  pub untold : files.before.contents ≡ None → (name : List ℕ) → result ≡ Err (Fault (CannotRead name)) → HasFilesFault files

-- The answer is this refusal, unless there is no memory.
abbrev pub IsOrMemory : Refusal → OrMemory Refusal → Type 0
IsOrMemory wanted (Fault refusal) = refusal ≡ wanted
IsOrMemory wanted NoMemory = Unit {0}

-- what ends a command where a step refuses, or finds no memory
abbrev pub stop_of : OrMemory Refusal → Stop
stop_of (Fault refusal) = Refused refusal
stop_of NoMemory = OutOfMemory
