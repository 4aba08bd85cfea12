use Rattle.std.proofs.Common.{List, [], ◌∷◌, ◌++◌, map, refl, sym, ◌∙◌, ap, arith}
use Rattle.std.specs.List.{flat_map}
use Rattle.jsx_syntax.specs.Rules.{names_of, has_name, html, suspense, component}
use Rattle.jsx_check.specs.Events.{Event, uses, opens, calls, bounds, all_events, attribute_events, expression_events, node_events}
use Rattle.jsx_check.specs.SeenEvents.{event_of, of_entry, owner_of, bind_events, unbind_events}
use Rattle.jsx_check.proofs.NamesLemmas.{on_ok}
use Rattle.jsx_check.proofs.NodesLemmas.{pushed, map-uses, map_events-is, attributes_on, names_onto-more, node_events-And, node_events-Or, node_events-Map, node_events-Host, node_events-Call, node_events-Suspense}
use Rattle.jsx_check.proofs.event.+nodes.Goals as goal
use Rattle.jsx_check.proofs.event.+nodes.Goals.{push_props-then-left-gt0+in_ok-push, push_props-else-left-gt0}

pub push_node-returns-in_ok-push_all_names-in-And : goal.push_node-returns-in_ok-push_all_names-in-And
push_node-returns-in_ok-push_all_names-in-And t c =
    let last : List Event = node_events c.get-in-And.result.now in
    on_ok c.push_node-in-And.result
    (pushed (map event_of c.args.out.now.items) (map event_of c.push_all_names.new.out.items) (map event_of c.push_node-in-And.new.out.items)
    (map uses (flat_map names_of c.as_slice.result.now)) last (node_events c.args.node.now) c.in_ok-push_all_names-in-And.ensures
    (ap (λ x. map uses (flat_map names_of x) ++ last) c.as_slice.ensures
    ∙ (ap (λ x. map uses (flat_map names_of c.in-And.left) ++ node_events x) c.get-in-And.ensures
    ∙ (ap (λ x. x ++ node_events c.in-And.last) (map-uses c.in-And.left)
    ∙ (sym (node_events-And c.in-And.left c.in-And.last) ∙ ap node_events (sym c.in-And.is))))))
    c.push_node-in-And.ensures

pub push_node-returns-in_ok-push_all_names-in-Or : goal.push_node-returns-in_ok-push_all_names-in-Or
push_node-returns-in_ok-push_all_names-in-Or t c =
    let last : List Event = node_events c.get-in-Or.result.now in
    on_ok c.push_node-in-Or.result
    (pushed (map event_of c.args.out.now.items) (map event_of c.push_all_names-in-Or.new.out.items) (map event_of c.push_node-in-Or.new.out.items)
    (map uses (flat_map names_of c.as_slice-in-Or.result.now)) last (node_events c.args.node.now) c.in_ok-push_all_names-in-Or.ensures
    (ap (λ x. map uses (flat_map names_of x) ++ last) c.as_slice-in-Or.ensures
    ∙ (ap (λ x. map uses (flat_map names_of c.in-Or.left) ++ node_events x) c.get-in-Or.ensures
    ∙ (ap (λ x. x ++ node_events c.in-Or.last) (map-uses c.in-Or.left)
    ∙ (sym (node_events-Or c.in-Or.left c.in-Or.last) ∙ ap node_events (sym c.in-Or.is))))))
    c.push_node-in-Or.ensures

pub push_node-returns-in_ok-push_node-in-Map : goal.push_node-returns-in_ok-push_node-in-Map
push_node-returns-in_ok-push_node-in-Map t c =
    let listed : List Event = expression_events c.in-Map.list in
    let bound : List Event = bind_events c.in-Map.item c.in-Map.number in
    let body : List Event = node_events c.get-in-Map.result.now in
    let unbound : List Event = unbind_events c.in-Map.number in
    on_ok c.push_unbinds.result (λ e.
    pushed (map event_of c.args.out.now.items) (map event_of c.push_names-in-Map.new.out.items) (map event_of c.push_unbinds.new.out.items)
    listed (bound ++ (body ++ unbound)) (node_events c.args.node.now) c.in_ok-push_names-in-Map.ensures
    (ap (λ x. listed ++ (bound ++ (node_events x ++ unbound))) c.get-in-Map.ensures
    ∙ (ap (λ x. listed ++ x) (map_events-is c.in-Map.item c.in-Map.number (node_events c.in-Map.body))
    ∙ (sym (node_events-Map c.in-Map.list c.in-Map.item c.in-Map.number c.in-Map.body) ∙ ap node_events (sym c.in-Map.is))))
    (pushed (map event_of c.push_names-in-Map.new.out.items) (map event_of c.push_binds.new.out.items) (map event_of c.push_unbinds.new.out.items)
    bound (body ++ unbound) (bound ++ (body ++ unbound)) c.in_ok-push_binds-in-Map.ensures refl
    (pushed (map event_of c.push_binds.new.out.items) (map event_of c.push_node-in-Map.new.out.items) (map event_of c.push_unbinds.new.out.items)
    body unbound (body ++ unbound) c.in_ok-push_node-in-Map.ensures refl e)))
    c.push_unbinds.ensures

pub push_node-returns-in_ok-push_props-in-Host : goal.push_node-returns-in_ok-push_props-in-Host
push_node-returns-in_ok-push_props-in-Host t c =
    let given : List Event = attribute_events html [] (map (of_entry node_events) c.as_slice-in-Host.result.now) in
    let inner : List Event = all_events (map node_events c.as_slice-in-Host-2.result.now) in
    on_ok c.push_nodes-in-Host.result (λ e.
    pushed (map event_of c.args.out.now.items) (map event_of c.push_event.new.out.items) (map event_of c.push_nodes-in-Host.new.out.items)
    (opens c.in-Host.name ∷ []) (given ++ inner) (node_events c.args.node.now) c.in_ok-push_event-in-Host.ensures
    (ap (λ x. opens c.in-Host.name ∷ (attribute_events html [] (map (of_entry node_events) x) ++ inner)) c.as_slice-in-Host.ensures
    ∙ (ap (λ x. opens c.in-Host.name ∷ (attribute_events html [] (map (of_entry node_events) c.in-Host.props) ++ all_events (map node_events x))) c.as_slice-in-Host-2.ensures
    ∙ (sym (node_events-Host c.in-Host.name c.in-Host.props c.in-Host.kids) ∙ ap node_events (sym c.in-Host.is))))
    (pushed (map event_of c.push_event.new.out.items) (map event_of c.push_props.new.out.items) (map event_of c.push_nodes-in-Host.new.out.items)
    given inner (given ++ inner) c.in_ok-push_props-in-Host.ensures refl e))
    c.push_nodes-in-Host.ensures

pub push_node-returns-in_ok-push_event-in-Call : goal.push_node-returns-in_ok-push_event-in-Call
push_node-returns-in_ok-push_event-in-Call t c =
    let given : List Event = attribute_events (component c.in-Call.name.text) [] (map (of_entry node_events) c.as_slice-in-Call.result.now) in
    on_ok c.push_props-in-Call.result
    (pushed (map event_of c.args.out.now.items) (map event_of c.push_event-in-Call.new.out.items) (map event_of c.push_props-in-Call.new.out.items)
    (calls c.in-Call.name ∷ []) given (node_events c.args.node.now) c.in_ok-push_event-in-Call.ensures
    (ap (λ x. calls c.in-Call.name ∷ attribute_events (component c.in-Call.name.text) [] (map (of_entry node_events) x)) c.as_slice-in-Call.ensures
    ∙ (sym (node_events-Call c.in-Call.name c.in-Call.props) ∙ ap node_events (sym c.in-Call.is))))
    c.push_props-in-Call.ensures

pub push_node-returns-in_ok-push_props-in-Suspense : goal.push_node-returns-in_ok-push_props-in-Suspense
push_node-returns-in_ok-push_props-in-Suspense t c =
    let given : List Event = attribute_events suspense [] (map (of_entry node_events) c.as_slice-in-Suspense.result.now) in
    let inner : List Event = all_events (map node_events c.as_slice-in-Suspense-2.result.now) in
    on_ok c.push_nodes-in-Suspense.result (λ e.
    pushed (map event_of c.args.out.now.items) (map event_of c.push_event-in-Suspense.new.out.items) (map event_of c.push_nodes-in-Suspense.new.out.items)
    (bounds c.in-Suspense.name ∷ []) (given ++ inner) (node_events c.args.node.now) c.in_ok-push_event-in-Suspense.ensures
    (ap (λ x. bounds c.in-Suspense.name ∷ (attribute_events suspense [] (map (of_entry node_events) x) ++ inner)) c.as_slice-in-Suspense.ensures
    ∙ (ap (λ x. bounds c.in-Suspense.name ∷ (attribute_events suspense [] (map (of_entry node_events) c.in-Suspense.props) ++ all_events (map node_events x))) c.as_slice-in-Suspense-2.ensures
    ∙ (sym (node_events-Suspense c.in-Suspense.name c.in-Suspense.props c.in-Suspense.kids) ∙ ap node_events (sym c.in-Suspense.is))))
    (pushed (map event_of c.push_event-in-Suspense.new.out.items) (map event_of c.push_props-in-Suspense.new.out.items) (map event_of c.push_nodes-in-Suspense.new.out.items)
    given inner (given ++ inner) c.in_ok-push_props-in-Suspense.ensures refl e))
    c.push_nodes-in-Suspense.ensures

pub push_props-loop-prop-preserved : goal.push_props-loop-prop-preserved
push_props-loop-prop-preserved t c = record {
  count = omega (arith, c.loop-prop.invariant.count, c.loop-prop-test.true);
  names = λ more. elim c.if-left-gt0.branch [
    | push_props-then-left-gt0+in_ok-push w ↦ w.earlier-is
        ∙ (w.in_ok-push.ensures
        ∙ (ap (λ names. c.prop-item.result.name.text ∷ names) (c.loop-prop.invariant.names c.loop-prop-test.true)
        ∙ sym (names_onto-more c.args.props.now c.loop-prop.prop-index c.prop-item.result c.loop-prop-test.true (sym c.prop-item.is))))
    | push_props-else-left-gt0 w ↦ absurd (omega (arith, w.if-left-gt0.false, c.loop-prop.invariant.count, more))
  ];
  left = attributes_on (owner_of c.args.owner) c.args.props.now c.loop-prop.prop-index c.prop-item.result c.has-twice.result
      (map event_of c.loop-prop.out.items) (map event_of c.push_prop.new.out.items)
      (map event_of c.args.out.now.items ++ attribute_events (owner_of c.args.owner) [] (map (of_entry node_events) c.args.props.now))
      c.loop-prop-test.true (sym c.prop-item.is)
      (c.has-twice.ensures ∙ ap (has_name c.prop-item.result.name.text) (c.loop-prop.invariant.names c.loop-prop-test.true))
      c.in_ok-push_prop.ensures c.loop-prop.invariant.left;
}
