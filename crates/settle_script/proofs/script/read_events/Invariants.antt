use Rattle.std.proofs.Common.{◌≡◌, [], drop, length}
use Rattle.serde_json.specs.View.{items_view}
use Rattle.settle_script.specs.Scripts.{events_of}
use Rattle.settle_script.proofs.script.read_events.Given as goal

-- what was read, before what is left
abbrev pub invariant-loop-line : goal.invariant-loop-line
invariant-loop-line l = record {
  lines : length l.script ≡ l.line-index;
  events : events_of l.script (items_view (drop l.line-index l.lines)) ≡ events_of [] (items_view l.lines);
}
