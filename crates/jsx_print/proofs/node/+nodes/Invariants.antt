use Rattle.std.proofs.Common.{◌≡◌, ◌+◌, ◌*◌, ◌++◌, drop, map, max}
use Rattle.std.specs.List.{flat_map}
use Rattle.std.specs.String.{string_bytes}
use Rattle.jsx_print.specs.Spelling.{spelled}
use Rattle.jsx_print.specs.Printing.{printed_node, later_items, attribute_words, kid_words}
use Rattle.jsx_print.specs.Seen.{printed_entry}
use Rattle.jsx_syntax.specs.declared.node.Node.TheViews.{size-Node}
use Rattle.jsx_print.proofs.node.+nodes.Given as goal

-- down the node, and from a part to what it is made of
abbrev pub decreases-push_node : goal.decreases-push_node
decreases-push_node l = size-Node l.node.now * 4

abbrev pub decreases-push_last : goal.decreases-push_last
decreases-push_last l = size-Node l.node.now * 4 + 1

abbrev pub decreases-push_choice : goal.decreases-push_choice
decreases-push_choice l = max (size-Node l.yes.now) (size-Node l.no.now) * 4 + 2

abbrev pub decreases-push_and : goal.decreases-push_and
decreases-push_and l = size-Node l.last.now * 4 + 2

abbrev pub decreases-push_or : goal.decreases-push_or
decreases-push_or l = size-Node l.last.now * 4 + 2

abbrev pub decreases-push_array : goal.decreases-push_array
decreases-push_array l = goal.size-push_array l * 4 + 3

abbrev pub decreases-push_items : goal.decreases-push_items
decreases-push_items l = goal.size-push_items l * 4 + 2

abbrev pub decreases-push_map : goal.decreases-push_map
decreases-push_map l = size-Node l.body.now * 4 + 1

abbrev pub decreases-push_tag : goal.decreases-push_tag
decreases-push_tag l = goal.size-push_tag l * 4 + 3

abbrev pub decreases-push_props : goal.decreases-push_props
decreases-push_props l = goal.size-push_props l * 4 + 2

abbrev pub decreases-push_prop : goal.decreases-push_prop
decreases-push_prop l = size-Node l.value.now * 4 + 1

abbrev pub decreases-push_rest : goal.decreases-push_rest
decreases-push_rest l = goal.size-push_rest l * 4 + 3

abbrev pub decreases-push_fragment : goal.decreases-push_fragment
decreases-push_fragment l = goal.size-push_fragment l * 4 + 3

abbrev pub decreases-push_kids : goal.decreases-push_kids
decreases-push_kids l = goal.size-push_kids l * 4 + 2

abbrev pub decreases-push_kid : goal.decreases-push_kid
decreases-push_kid l = size-Node l.kid.now * 4 + 1

-- what is left gives the result
abbrev pub invariant-push_items-loop-item : goal.invariant-push_items-loop-item
invariant-push_items-loop-item l =
    string_bytes l.out ++ spelled (later_items (map printed_node (drop l.item-index l.others)))
    ≡ string_bytes l.initial.out ++ spelled (later_items (map printed_node l.others))

abbrev pub invariant-push_props-loop-prop : goal.invariant-push_props-loop-prop
invariant-push_props-loop-prop l =
    string_bytes l.out ++ spelled (flat_map attribute_words (map printed_entry (drop l.prop-index l.props)))
    ≡ string_bytes l.fn.out ++ spelled (flat_map attribute_words (map printed_entry l.props))

abbrev pub invariant-push_kids-loop-kid : goal.invariant-push_kids-loop-kid
invariant-push_kids-loop-kid l =
    string_bytes l.out ++ spelled (flat_map kid_words (map printed_node (drop l.kid-index l.kids)))
    ≡ string_bytes l.fn.out ++ spelled (flat_map kid_words (map printed_node l.kids))
