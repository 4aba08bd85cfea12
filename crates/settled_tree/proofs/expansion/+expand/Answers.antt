use Rattle.std.proofs.Common.{◌≡◌, ◌∙◌, ◌+◌, ◌<◌, ◌++◌, ◌∷◌, [], arith, ap, map, sym, append-nil}
use Rattle.jsx_value.specs.declared.shape.Shape.TheVariants as s
use Rattle.jsx_value.specs.SeenPlaces.{place_of}
use Rattle.settled_tree.specs.declared.forest.FNode.TheVariants as f
use Rattle.settled_tree.specs.Layers.{kids_weight, kin_weight, nodes_in_row, page_of, place_nodes}
use Rattle.settled_tree.proofs.PlacesLemmas.{boundary_pushed, opened_nodes, wait_opened}
use Rattle.settled_tree.proofs.WeightsLemmas.{boundary_lighter, few_kids, inside_lighter}
use Rattle.settled_tree.proofs.expansion.+expand.Goals as goal

pub push_positions-overflow_add-number : goal.push_positions-overflow_add-number
push_positions-overflow_add-number t c =
    omega (arith, few_kids (page_of c.args.page.now) c.requires.unfolds c.args.kids.now, c.requires.small, c.loop-kin.invariant.number)

pub push_position-push_positions-requires : goal.push_position-push_positions-requires
push_position-push_positions-requires t c =
    let page = page_of c.args.page.now in
    let lighter : kids_weight page c.as_slice.result.now < kin_weight page c.args.kin =
    inside_lighter page c.requires.unfolds (place_of c.args.kin) c.in_ok-shape.shape (s.Element c.in-Element.name c.in-Element.attributes c.in-Element.kids) c.as_slice.result.now
    c.in_ok-shape.ensures c.in-Element.is (ap (λ ks. map place_of ks) (sym c.as_slice.ensures)) in
    (omega (arith, lighter, c.decreases), (c.requires.unfolds, omega (arith, lighter, c.requires.small)))

pub push_position-push_positions-requires-in-Array : goal.push_position-push_positions-requires-in-Array
push_position-push_positions-requires-in-Array t c =
    let page = page_of c.args.page.now in
    let lighter : kids_weight page c.as_slice-in-Array.result.now < kin_weight page c.args.kin =
    inside_lighter page c.requires.unfolds (place_of c.args.kin) c.in_ok-shape.shape (s.Array c.in-Array.kids) c.as_slice-in-Array.result.now
    c.in_ok-shape.ensures c.in-Array.is (ap (λ ks. map place_of ks) (sym c.as_slice-in-Array.ensures)) in
    (omega (arith, lighter, c.decreases), (c.requires.unfolds, omega (arith, lighter, c.requires.small)))

pub push_position-nodes_of_child-requires : goal.push_position-nodes_of_child-requires
push_position-nodes_of_child-requires t c =
    let page = page_of c.args.page.now in
    let lighter : kin_weight page c.in-Boundary.content + kin_weight page c.in-Boundary.fallback < kin_weight page c.args.kin =
    boundary_lighter page c.requires.unfolds (place_of c.args.kin) c.in_ok-shape.shape c.in-Boundary.content c.in-Boundary.fallback
    c.in_ok-shape.ensures c.in-Boundary.is in
    let same : kin_weight page c.get.result.now ≡ kin_weight page c.in-Boundary.content = ap (λ k. kin_weight page k) c.get.ensures in
    (omega (arith, lighter, same, c.decreases), (c.requires.unfolds, omega (arith, lighter, same, c.requires.small)))

pub push_position-nodes_of_child-requires-in-Boundary : goal.push_position-nodes_of_child-requires-in-Boundary
push_position-nodes_of_child-requires-in-Boundary t c =
    let page = page_of c.args.page.now in
    let lighter : kin_weight page c.in-Boundary.content + kin_weight page c.in-Boundary.fallback < kin_weight page c.args.kin =
    boundary_lighter page c.requires.unfolds (place_of c.args.kin) c.in_ok-shape.shape c.in-Boundary.content c.in-Boundary.fallback
    c.in_ok-shape.ensures c.in-Boundary.is in
    let same : kin_weight page c.get-in-Boundary.result.now ≡ kin_weight page c.in-Boundary.fallback = ap (λ k. kin_weight page k) c.get-in-Boundary.ensures in
    (omega (arith, lighter, same, c.decreases), (c.requires.unfolds, omega (arith, lighter, same, c.requires.small)))

pub push_position-returns-in-Nothing-clause-nodes : goal.push_position-returns-in-Nothing-clause-nodes
push_position-returns-in-Nothing-clause-nodes t c =
    sym (append-nil c.args.nodes.now)
    ∙ ap (λ ns. c.args.nodes.now ++ ns)
    (sym (opened_nodes (page_of c.args.page.now) c.requires.unfolds.layers c.args.steps.now (place_of c.args.kin) c.in_ok-shape.shape s.Nothing c.in_ok-shape.ensures c.in-Nothing.is))

pub push_position-returns-in_ok-push-in-Text-clause-nodes : goal.push_position-returns-in_ok-push-in-Text-clause-nodes
push_position-returns-in_ok-push-in-Text-clause-nodes t c =
    c.in_ok-push-in-Text.ensures.ok
    ∙ ap (λ ns. c.args.nodes.now ++ ns)
    (sym (opened_nodes (page_of c.args.page.now) c.requires.unfolds.layers c.args.steps.now (place_of c.args.kin) c.in_ok-shape.shape (s.Text c.in-Text.text) c.in_ok-shape.ensures c.in-Text.is))

pub push_position-returns-in_ok-push-in-Element-clause-nodes : goal.push_position-returns-in_ok-push-in-Element-clause-nodes
push_position-returns-in_ok-push-in-Element-clause-nodes t c =
    let page = page_of c.args.page.now in
    c.in_ok-push-in-Element.ensures.ok
    ∙ ap (λ ns. c.args.nodes.now ++ f.Element c.in-Element.name c.in-Element.attributes ns ∷ [])
    (c.in_ok-push_positions-in-Element.ensures.nodes
    ∙ ap (λ ns. ns ++ nodes_in_row page c.args.steps.now 0 (map place_of c.as_slice.result.now)) c.new-inner.ensures
    ∙ ap (λ ks. nodes_in_row page c.args.steps.now 0 (map place_of ks)) c.as_slice.ensures)
    ∙ ap (λ ns. c.args.nodes.now ++ ns)
    (sym (opened_nodes page c.requires.unfolds.layers c.args.steps.now (place_of c.args.kin) c.in_ok-shape.shape
    (s.Element c.in-Element.name c.in-Element.attributes c.in-Element.kids) c.in_ok-shape.ensures c.in-Element.is))

pub push_position-returns-in_ok-push_positions-in-Array-clause-nodes : goal.push_position-returns-in_ok-push_positions-in-Array-clause-nodes
push_position-returns-in_ok-push_positions-in-Array-clause-nodes t c =
    let page = page_of c.args.page.now in
    c.in_ok-push_positions-in-Array.ensures.nodes
    ∙ ap (λ ks. c.args.nodes.now ++ nodes_in_row page c.args.steps.now 0 (map place_of ks)) c.as_slice-in-Array.ensures
    ∙ ap (λ ns. c.args.nodes.now ++ ns)
    (sym (opened_nodes page c.requires.unfolds.layers c.args.steps.now (place_of c.args.kin) c.in_ok-shape.shape
    (s.Array c.in-Array.kids) c.in_ok-shape.ensures c.in-Array.is))

pub push_position-returns-in_ok-push-in-Boundary-clause-nodes : goal.push_position-returns-in_ok-push-in-Boundary-clause-nodes
push_position-returns-in_ok-push-in-Boundary-clause-nodes t c =
    let page = page_of c.args.page.now in
    boundary_pushed page c.requires.unfolds.layers c.args.steps.now (place_of c.args.kin) c.in_ok-shape.shape c.in-Boundary.content c.in-Boundary.fallback
    c.in_ok-shape.ensures c.in-Boundary.is
    c.args.nodes.now c.push-in-Boundary.new.self c.in_ok-path_of-in-Boundary.field-0 c.in_ok-content-in-Boundary.content c.in_ok-fallback-in-Boundary.fallback
    c.in_ok-push-in-Boundary.ensures.ok
    (c.in_ok-path_of-in-Boundary.ensures ∙ c.as_slice-in-Boundary.ensures ∙ c.in_ok-fallback-in-Boundary.ensures.steps ∙ c.in_ok-content-in-Boundary.ensures.steps)
    (c.in_ok-content-in-Boundary.ensures.nodes ∙ ap (λ k. place_nodes page (c.args.steps.now ++ 0 ∷ []) (place_of k)) c.get.ensures)
    (c.in_ok-fallback-in-Boundary.ensures.nodes ∙ ap (λ p. place_nodes page (p ++ 1 ∷ []) (place_of c.get-in-Boundary.result.now)) c.in_ok-content-in-Boundary.ensures.steps
    ∙ ap (λ k. place_nodes page (c.args.steps.now ++ 1 ∷ []) (place_of k)) c.get-in-Boundary.ensures)

pub push_position-returns-in_ok-push-in-Wait-clause-nodes : goal.push_position-returns-in_ok-push-in-Wait-clause-nodes
push_position-returns-in_ok-push-in-Wait-clause-nodes t c =
    wait_opened (page_of c.args.page.now) c.requires.unfolds.layers c.args.steps.now (place_of c.args.kin) c.in_ok-shape.shape c.in-Wait.resource
    c.in_ok-shape.ensures c.in-Wait.is
    c.args.nodes.now c.push-in-Wait-2.new.self c.in_ok-path_of-in-Wait.field-0 c.in_ok-push-in-Wait.ensures.ok
    (c.in_ok-path_of-in-Wait.ensures ∙ c.as_slice-in-Wait.ensures)

pub push_position-returns-in_ok-push-in-Fail-clause-nodes : goal.push_position-returns-in_ok-push-in-Fail-clause-nodes
push_position-returns-in_ok-push-in-Fail-clause-nodes t c =
    c.in_ok-push-in-Fail.ensures.ok
    ∙ ap (λ ns. c.args.nodes.now ++ ns)
    (sym (opened_nodes (page_of c.args.page.now) c.requires.unfolds.layers c.args.steps.now (place_of c.args.kin) c.in_ok-shape.shape (s.Fail c.in-Fail.digest) c.in_ok-shape.ensures c.in-Fail.is))
