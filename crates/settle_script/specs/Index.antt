-- The index of a list of settlements, for the type's own invariant.
use Rattle.std.specs.Prelude.{◌≡◌, ℕ, suc, ◌<◌, ◌^◌, List, [], ◌∷◌, length, String, if◌then◌else◌, Option, Some, None, option_map}
use Rattle.std.specs.Str.{bytes_eq}
use Rattle.std.specs.BTreeMap.{BTreeMap, get_by_text}
use Rattle.std.specs.declared.alloc.Global.{Global}
use Rattle.settle_script.specs.declared.value.Entry.{Entry}
use Rattle.settle_script.specs.declared.outcome.Outcome.{Outcome}
use Rattle.settle_script.specs.Settlements.{HasDistinctNames}

-- the place of the first entry of this name
abbrev pub place_of : List ℕ → List (Entry Outcome) → Option ℕ
place_of name [] = None
place_of name (entry ∷ later) = if bytes_eq name entry.name then Some 0 else option_map suc (place_of name later)

-- the index gives each name's place
pub record IsIndexOf (index : BTreeMap (String Global) ℕ) (outcomes : List (Entry Outcome)) : Type 0 where
  pub place : (name : List ℕ) → get_by_text index name ≡ place_of name outcomes
  pub distinct : HasDistinctNames outcomes
  pub few : length outcomes < 2 ^ 32
