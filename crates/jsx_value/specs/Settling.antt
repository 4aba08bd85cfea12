-- A page where more has settled.
use Rattle.std.specs.Prelude.{◌≡◌, ℕ, Bool, true, ◌&&◌, List, Option, Some, is_none, is_some}
use Rattle.settle_script.specs.declared.outcome.Outcome.{Outcome}
use Rattle.jsx_value.specs.declared.shape.Shape.TheVariants as s
use Rattle.jsx_value.specs.Positions.{Opened, Page, Place}

-- The second page knows all that the first does, and is the same otherwise.
pub record Settles (first second : Page) : Type 0 where
  pub components : first.components ≡ second.components
  pub prefix : first.prefix ≡ second.prefix
  pub known : (name : List ℕ) (outcome : Outcome)
      → first.known name ≡ Some outcome → second.known name ≡ Some outcome

-- whether the second page knows a resource that the first doesn't
abbrev pub settled_since : Page → Page → List ℕ → Bool
settled_since first second name = is_none (first.known name) && is_some (second.known name)

-- What stands at a place stays, or it waited for a resource that has settled since.
pub data StaysOrOpens (since : List ℕ → Bool) (before after : Opened Place) : Type 0 where
  it_stays : before ≡ after → StaysOrOpens since before after
  it_opens : (resource : List ℕ) → before.shape ≡ s.Wait resource → since resource ≡ true
      → StaysOrOpens since before after
