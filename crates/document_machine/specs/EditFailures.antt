-- Why no element was found by its id.
use Rattle.std.specs.Prelude.{◌≡◌, ℕ, List, Option, None}
use Rattle.document_machine.specs.declared.edits.EditFault.{EditFault}
use Rattle.document_machine.specs.declared.edits.EditFault.TheVariants.{NoSuchId, NotBoundary, OutOfMemory}

-- None was found by that id. Want of memory may always come.
abbrev pub IsNotFound : List ℕ → Option ℕ → EditFault → Type 0
IsNotFound id found (NoSuchId missed) = (missed ≡ id) × (found ≡ None)
IsNotFound id found NotBoundary = ⊥
IsNotFound id found OutOfMemory = Unit {0}
