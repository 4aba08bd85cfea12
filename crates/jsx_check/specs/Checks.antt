-- What a file is refused for.
use Rattle.std.specs.Prelude.{◌≡◌, ℕ, ◌-◌, ◌^◌, ◌<◌, ◌≤◌, ◌⊎◌, min, length}
use Rattle.jsx_syntax.specs.Rules.{Breaks, HasApp, IsSound, app_depth, most_components, most_depth}
use Rattle.jsx_syntax.specs.declared.file.File.{File}
use Rattle.jsx_syntax.specs.declared.rule.Rule.{Rule}
use Rattle.jsx_syntax.specs.declared.rule.Rule.TheVariants as rule
use Rattle.jsx_check.specs.declared.fault.CheckFault.{CheckFault}
use Rattle.jsx_check.specs.declared.found.Found.{Found}
use Rattle.jsx_check.specs.declared.fault.CheckFault.TheVariants.{TooManyComponents, UnknownName, UnknownElement, UnknownAttribute, TwiceDefined, UsedBeforeDefined, FallbackNotPlain, NoApp, TooDeep, OutOfMemory}

-- The order of the rules at one place.
abbrev pub rank_of : Rule → ℕ
rank_of rule.UnknownName = 0
rank_of rule.UnknownElement = 1
rank_of rule.UnknownAttribute = 2
rank_of rule.TwiceDefined = 3
rank_of rule.UsedBeforeDefined = 4
rank_of rule.FallbackNotPlain = 5

-- One place is before another, or they are one place and one rule is before the other, or the rules are one too.
abbrev pub IsNoLater : Rule → ℕ → Rule → ℕ → Type 0
IsNoLater r here s there = (here < there) ⊎ ((here ≡ there) × (rank_of r ≤ rank_of s))

-- The rule is broken at the place, and none is broken before.
pub record IsFirstBroken (file : File) (r : Rule) (place : ℕ) : Type 0 where
  pub broken : Breaks file r place
  pub first : (s : Rule) (there : ℕ) → Breaks file s there → IsNoLater r place s there

-- The file has no more components than it may have, and its first broken rule is this one.
abbrev pub IsFirstFault : File → Rule → ℕ → Type 0
IsFirstFault file r place = (length file.components ≤ most_components) × IsFirstBroken file r place

-- a number as a fault tells it: it stays at the greatest of 32 bits
abbrev pub told_as : ℕ → ℕ
told_as n = min n (2 ^ 32 - 1)

-- Why a file is refused: for too many components; or for the first rule on names that is broken; or where none is, for
-- the lack of an `App` without properties; or where there is one, for its depth.
abbrev pub IsFaultOf : File → CheckFault → Type 0
IsFaultOf file (TooManyComponents count) = (most_components < length file.components) × (count ≡ told_as (length file.components))
IsFaultOf file (UnknownName place) = IsFirstFault file rule.UnknownName place
IsFaultOf file (UnknownElement place) = IsFirstFault file rule.UnknownElement place
IsFaultOf file (UnknownAttribute place) = IsFirstFault file rule.UnknownAttribute place
IsFaultOf file (TwiceDefined place) = IsFirstFault file rule.TwiceDefined place
IsFaultOf file (UsedBeforeDefined place) = IsFirstFault file rule.UsedBeforeDefined place
IsFaultOf file (FallbackNotPlain place) = IsFirstFault file rule.FallbackNotPlain place
IsFaultOf file NoApp = (length file.components ≤ most_components) × IsSound file × (HasApp file → ⊥)
IsFaultOf file (TooDeep depth) =
    (length file.components ≤ most_components) × IsSound file × HasApp file × (most_depth < app_depth file)
    × (depth ≡ told_as (app_depth file))
IsFaultOf file OutOfMemory = Unit {0}

-- a broken rule as a fault
abbrev pub fault_by : Rule → ℕ → CheckFault
fault_by rule.UnknownName place = UnknownName place
fault_by rule.UnknownElement place = UnknownElement place
fault_by rule.UnknownAttribute place = UnknownAttribute place
fault_by rule.TwiceDefined place = TwiceDefined place
fault_by rule.UsedBeforeDefined place = UsedBeforeDefined place
fault_by rule.FallbackNotPlain place = FallbackNotPlain place

abbrev pub fault_of : Found → CheckFault
fault_of found = fault_by found.rule found.at
