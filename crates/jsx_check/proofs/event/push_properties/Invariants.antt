use Rattle.std.proofs.Common.{◌≡◌, ◌++◌, map, drop}
use Rattle.jsx_check.specs.Events.{binds}
use Rattle.jsx_check.specs.SeenEvents.{event_of}
use Rattle.jsx_check.proofs.event.push_properties.Given as goal

-- what is left gives the result
abbrev pub invariant-loop-name : goal.invariant-loop-name
invariant-loop-name l =
    map event_of l.out.items ++ map binds (drop l.name-index l.names) ≡ map event_of l.fn.out.items ++ map binds l.names
