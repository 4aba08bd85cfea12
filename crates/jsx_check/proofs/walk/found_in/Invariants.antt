use Rattle.std.proofs.Common.{◌≡◌, ◌≤◌, map, drop}
use Rattle.jsx_check.specs.Events.{AreKnown, after_events, walk_start}
use Rattle.jsx_check.specs.SeenEvents.{event_of}
use Rattle.jsx_check.proofs.walk.found_in.Given as goal

-- the events that are left give the result, no more fallbacks are open than events have passed, and the
-- components before are known
abbrev pub invariant-loop-event : goal.invariant-loop-event
invariant-loop-event l = record {
  left : after_events l.components l.walk (map event_of (drop l.event-index l.events)) ≡ after_events l.components walk_start (map event_of l.events);
  few : l.walk.fallbacks ≤ l.event-index;
  known : AreKnown l.components l.walk.before;
}
