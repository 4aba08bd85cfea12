use Rattle.std.proofs.Common.{◌+◌, length, reverse}
use Rattle.std.specs.List.{prefix_len}
use Rattle.dom_forest.specs.Chain.{entries_of, entry_in, rest_from}
use Rattle.dom_forest.specs.Runs.{below_at}
use Rattle.dom_forest.specs.Spine.{IsSpine}
use Rattle.dom_forest.proofs.Spines.{counts-all, spine-first, spine-shorter}
use Rattle.dom_forest.proofs.Steps.{none_after}
use Rattle.dom_forest.proofs.spine.end_below.Goals as goal

pub returns-then-is_last-clause-end : goal.returns-then-is_last-clause-end
returns-then-is_last-clause-end c =
    let chain = c.args.chain.now in
    let es = entries_of chain in
    let next = length chain.slots.items in
    let slot = c.args.slot.now in
    let after = rest_from slot.next es in
    let kept : IsSpine es next (reverse c.shorten.new.spine.items) (slot.depth + 1) =
    rw (c.shorten.ensures, c.deref.ensures.value) (spine-shorter chain.slots.items chain.first chain.last es next slot.depth (reverse c.args.spine.now.items) c.requires.spine.0 c.requires.chain c.requires.spine.1) in
    let first = rw c.deref-2.ensures.value at (c.is_last.ensures.0 c.if-is_last.true) in
    none_after (prefix_len (below_at slot.depth) after) after
    (counts-all slot.depth after (spine-first es next c.args.id (reverse c.shorten.new.spine.items) (slot.depth + 1) (entry_in c.args.id slot) after first kept c.requires.slot.from))

pub returns-then-is_last-clause-spine : goal.returns-then-is_last-clause-spine
returns-then-is_last-clause-spine c =
    let chain = c.args.chain.now in
    rw (c.shorten.ensures, c.deref.ensures.value)
    (spine-shorter chain.slots.items chain.first chain.last (entries_of chain) (length chain.slots.items) c.args.slot.now.depth (reverse c.args.spine.now.items) c.requires.spine.0 c.requires.chain c.requires.spine.1)

pub returns-clause-spine : goal.returns-clause-spine
returns-clause-spine c =
    let chain = c.args.chain.now in
    rw (c.shorten.ensures, c.deref.ensures.value)
    (spine-shorter chain.slots.items chain.first chain.last (entries_of chain) (length chain.slots.items) c.args.slot.now.depth (reverse c.args.spine.now.items) c.requires.spine.0 c.requires.chain c.requires.spine.1)
