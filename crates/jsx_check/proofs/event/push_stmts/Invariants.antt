use Rattle.std.proofs.Common.{◌≡◌, ◌++◌, map, drop}
use Rattle.std.specs.List.{flat_map}
use Rattle.jsx_check.specs.Events.{statement_events}
use Rattle.jsx_check.specs.SeenEvents.{event_of}
use Rattle.jsx_check.proofs.event.push_stmts.Given as goal

-- what is left gives the result
abbrev pub invariant-loop-stmt : goal.invariant-loop-stmt
invariant-loop-stmt l =
    map event_of l.out.items ++ flat_map statement_events (drop l.stmt-index l.stmts) ≡ map event_of l.fn.out.items ++ flat_map statement_events l.stmts
