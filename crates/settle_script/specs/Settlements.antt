-- What settlements make known.
use Rattle.std.specs.Prelude.{◌≡◌, ◌≢◌, ℕ, List, [], ◌∷◌, take, if◌then◌else◌, is_some, slice_get, Option, Some, None, AllPairs}
use Rattle.std.specs.Str.{bytes_eq}
use Rattle.settle_script.specs.declared.value.Entry.{Entry}
use Rattle.settle_script.specs.declared.outcome.Outcome.{Outcome}
use Rattle.settle_script.specs.declared.fault.JoinFault.{JoinFault}
use Rattle.settle_script.specs.declared.fault.JoinFault.TheVariants.{AlreadySettled, OutOfMemory}

-- the first entry of this name, by its value
abbrev pub entry_named : {A : Type 0} → List ℕ → List (Entry A) → Option A
entry_named name [] = None
entry_named name (entry ∷ later) = if bytes_eq name entry.name then Some entry.value else entry_named name later

-- what the first `settled` settlements make known of a resource
abbrev pub known : List (Entry Outcome) → ℕ → List ℕ → Option Outcome
known outcomes settled name = entry_named name (take settled outcomes)

-- the name of an entry, if there is one
abbrev pub entry_name : {A : Type 0} → Option (Entry A) → Option (List ℕ)
entry_name None = None
entry_name (Some entry) = Some entry.name

-- the resource of the settlement at a place
abbrev pub name_at : List (Entry Outcome) → ℕ → Option (List ℕ)
name_at outcomes place = entry_name (slice_get outcomes place)

-- each name stands once
abbrev pub HasDistinctNames : List (Entry Outcome) → Type 0
HasDistinctNames outcomes = AllPairs (λ a b. a.name ≢ b.name) outcomes

-- the first name of `more` that `outcomes` has too
abbrev pub first_common : List (Entry Outcome) → List (Entry Outcome) → Option (List ℕ)
first_common outcomes [] = None
first_common outcomes (entry ∷ later) =
    if is_some (entry_named entry.name outcomes) then Some entry.name else first_common outcomes later

-- the fault names that one; want of memory has no cause
abbrev pub IsFirstCommon : List (Entry Outcome) → List (Entry Outcome) → JoinFault → Type 0
IsFirstCommon outcomes more (AlreadySettled name) = first_common outcomes more ≡ Some name
IsFirstCommon outcomes more OutOfMemory = Unit {0}

-- for private functions: the name of the settlement, if there is one, is settled by none of these
abbrev pub IsNew : Option (Entry Outcome) → List (Entry Outcome) → Type 0
IsNew (Some settlement) outcomes = entry_named settlement.name outcomes ≡ None
IsNew None outcomes = Unit {0}
