use Rattle.std.proofs.Common.{◌≡◌, ◌+◌, ◌<◌, [], ◌++◌, length, map, drop, take}
use Rattle.jsx_check.specs.Events.{all_events, attribute_events, node_events}
use Rattle.jsx_check.specs.SeenEvents.{event_of, names_onto, of_entry, owner_of}
use Rattle.jsx_check.proofs.event.+nodes.Given as goal

-- what is left gives the result
abbrev pub invariant-push_nodes-loop-node : goal.invariant-push_nodes-loop-node
invariant-push_nodes-loop-node l =
    map event_of l.out.items ++ all_events (map node_events (drop l.node-index l.nodes))
    ≡ map event_of l.fn.out.items ++ all_events (map node_events l.nodes)

abbrev pub invariant-push_props-loop-prop : goal.invariant-push_props-loop-prop
invariant-push_props-loop-prop l = record {
  count : l.left + l.prop-index ≡ length l.props;
  names : l.prop-index < length l.props → l.earlier ≡ names_onto [] (take l.prop-index l.props);
  left : map event_of l.out.items
      ++ attribute_events (owner_of l.owner) (names_onto [] (take l.prop-index l.props)) (map (of_entry node_events) (drop l.prop-index l.props))
      ≡ map event_of l.fn.out.items ++ attribute_events (owner_of l.owner) [] (map (of_entry node_events) l.props);
}
