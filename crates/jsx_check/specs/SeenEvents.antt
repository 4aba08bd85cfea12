-- The code's events, as the definitions have them. This is for private functions.
use Rattle.std.specs.Prelude.{ℕ, Bool, List, [], ◌∷◌, map, Option, Some, None}
use Rattle.jsx_syntax.specs.Rules as rules
use Rattle.jsx_syntax.specs.declared.name.Entry.{Entry}
use Rattle.jsx_syntax.specs.declared.name.Name.{Name}
use Rattle.jsx_syntax.specs.declared.node.Node.{Node}
use Rattle.jsx_syntax.specs.declared.file.Component as file
use Rattle.jsx_check.specs.Events as events
use Rattle.jsx_check.specs.declared.found.Found.{Found}
use Rattle.jsx_check.specs.declared.event.Owner.{Owner}
use Rattle.jsx_check.specs.declared.event.Owner.TheVariants.{Html, Suspense, Component}
use Rattle.jsx_check.specs.declared.event.Event.{Event}
use Rattle.jsx_check.specs.declared.event.Event.TheVariants.{Defines, Ends, Uses, Binds, Unbinds, Opens, Calls, Bounds, Gives, Enters, Leaves}

abbrev pub owner_of : Owner → rules.Owner
owner_of Html = rules.html
owner_of Suspense = rules.suspense
owner_of (Component name) = rules.component name.now.text

abbrev pub event_of : Event → events.Event
event_of (Defines name) = events.defines name.now
event_of (Ends name) = events.ends name.now
event_of (Uses name) = events.uses name.now
event_of (Binds name) = events.binds name.now
event_of Unbinds = events.unbinds
event_of (Opens name) = events.opens name.now
event_of (Calls name) = events.calls name.now
event_of (Bounds name) = events.bounds name.now
event_of (Gives name owner twice) = events.gives name.now (owner_of owner) twice
event_of Enters = events.enters
event_of Leaves = events.leaves

-- what a walk over the events finds
abbrev pub found_after : List file.Component → List Event → Option Found
found_after components found_events = (events.after_events components events.walk_start (map event_of found_events)).found

-- an entry with another value
abbrev pub of_entry : {X Y : Type 0} → (X → Y) → Entry X → Entry Y
of_entry f entry = record { name = entry.name; value = f entry.value }

-- the variables of a map, as they come into scope and as they go
abbrev pub bind_events : Name → Option Name → List events.Event
bind_events item None = events.binds item ∷ []
bind_events item (Some number) = events.binds item ∷ (events.binds number ∷ [])

abbrev pub unbind_events : Option Name → List events.Event
unbind_events None = events.unbinds ∷ []
unbind_events (Some number) = events.unbinds ∷ (events.unbinds ∷ [])

-- one attribute of an element
abbrev pub attribute_event : rules.Owner → Bool → Name → Node → List events.Event
attribute_event owner twice name value =
    events.gives name owner twice ∷ events.value_events owner name.text (events.node_events value)

-- the names of entries, the last of them first, and then others
abbrev pub names_onto : List (List ℕ) → List (Entry Node) → List (List ℕ)
names_onto before [] = before
names_onto before (entry ∷ later) = names_onto (entry.name.text ∷ before) later
