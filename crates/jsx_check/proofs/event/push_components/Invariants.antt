use Rattle.std.proofs.Common.{◌≡◌, ◌++◌, map, drop}
use Rattle.std.specs.List.{flat_map}
use Rattle.jsx_check.specs.Events.{component_events}
use Rattle.jsx_check.specs.SeenEvents.{event_of}
use Rattle.jsx_check.proofs.event.push_components.Given as goal

-- what is left gives the result
abbrev pub invariant-loop-component : goal.invariant-loop-component
invariant-loop-component l =
    map event_of l.out.items ++ flat_map component_events (drop l.component-index l.components) ≡ map event_of l.fn.out.items ++ flat_map component_events l.components
