-- What the code's scopes stand for.
use Rattle.std.specs.Prelude.{ℕ, List, [], map, Option, Some, None, Vec}
use Rattle.std.specs.Arc.{arc_value}
use Rattle.std.specs.declared.sync.Arc.{Arc}
use Rattle.std.specs.declared.alloc.Global.{Global}
use Rattle.settle_script.specs.declared.value.Entry.{Entry}
use Rattle.settle_script.specs.declared.value.Value.{Value}
use Rattle.jsx_value.specs.declared.scope.Binding.{Binding}

-- a name with its value
abbrev pub entry : List ℕ → Value → Entry Value
entry name value = record { name = name; value = value }

abbrev pub entries_of : List Binding → List (Entry Value)
entries_of bindings = map (λ binding. entry binding.name.now binding.value) bindings

-- the names that a scope shares
abbrev pub frame_entries : Option (Arc (Vec Binding Global) Global) → List (Entry Value)
frame_entries (Some frame) = entries_of (arc_value frame).items
frame_entries None = []
