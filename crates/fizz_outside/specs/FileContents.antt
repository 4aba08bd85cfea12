-- Files as what stands under each name, and what reading and writing them means.
use Rattle.std.specs.Prelude.{◌≡◌, ◌≢◌, ℕ, ◌<◌, ◌≤◌, List, length, Option, Some, None, Result, Ok, Err, ⊤}
use Rattle.fizz_outside.specs.declared.files.FileBytes.{FileBytes}
use Rattle.fizz_outside.specs.declared.files.FileBytes.TheVariants.{Whole, TooLong}
use Rattle.fizz_outside.specs.declared.files.FilesRefused.{FilesRefused}
use Rattle.fizz_outside.specs.declared.files.FilesRefused.TheVariants.{NoFile, Failed, OutOfMemory}
use Rattle.fizz_outside.specs.Faults.{FaultCounted}

-- the bytes of the file of a name, where there is one
abbrev pub Contents : Type 0
Contents = List ℕ → Option (List ℕ)

-- what an answer says of the file that was read
abbrev pub ReadAnswers : Option (List ℕ) → ℕ → Result FileBytes FilesRefused → Type 0
ReadAnswers file most (Ok (Whole bytes)) = (file ≡ Some bytes.items) × (length bytes.items ≤ most)
ReadAnswers file most (Ok TooLong) = (bytes : List ℕ) × (file ≡ Some bytes) × (most < length bytes)
ReadAnswers file most (Err NoFile) = file ≡ None
ReadAnswers file most (Err Failed) = ⊤
ReadAnswers file most (Err OutOfMemory) = ⊤

-- a read of known files answers of what stands under the name; of others it finds no file missing
abbrev pub Reads : Option Contents → List ℕ → ℕ → Result FileBytes FilesRefused → Type 0
Reads None name most result = result ≢ Err NoFile
Reads (Some at) name most result = ReadAnswers (at name) most result

-- a write leaves the bytes under the name where it is accepted, and every other name as it was
pub record WriteAnswers {T : Type 0} (at now : Contents) (name bytes : List ℕ) (result : Result T FilesRefused) : Type 0 where
  pub written : (v : T) → result ≡ Ok v → now name ≡ Some bytes
  pub others : (other : List ℕ) → other ≢ name → now other ≡ at other

abbrev pub Writes : {T : Type 0} → Option Contents → Option Contents → List ℕ → List ℕ → Result T FilesRefused → Type 0
Writes None now name bytes result = ⊤
Writes (Some at) None name bytes result = ⊥
Writes (Some at) (Some now) name bytes result = WriteAnswers at now name bytes result

-- the count of faults never falls, rose where the call failed, and stays where there is no such file
pub record HasFileCause {T : Type 0} (before now : ℕ) (result : Result T FilesRefused) : Type 0 where
  pub later : before ≤ now
  pub failed : result ≡ Err Failed → FaultCounted before now
  pub missing : result ≡ Err NoFile → now ≡ before
