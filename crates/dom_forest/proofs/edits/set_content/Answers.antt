use Rattle.std.proofs.Common.{length, subst}
use Rattle.dom_forest.specs.Chain.{IsChainOf, entries_of}
use Rattle.dom_forest.proofs.Held.{set_held, set_spine, split_there}
use Rattle.dom_forest.proofs.edits.set_content.Goals as goal

pub returns-clause-held : goal.returns-clause-held
returns-clause-held c =
    let old = c.args.chain.now in
    let x = split_there c.args.id (entries_of old) (length old.slots.items) c.requires.held.document c.requires.there in
    (set_held (entries_of old) (length old.slots.items) c.args.id c.args.node c.set_node.new.chain c.requires.held.document x c.set_node.ensures.len
    (c.set_node.ensures.chain x.front x.back x.entry (subst (IsChainOf old) x.whole c.requires.held.links) x.same)).held

pub returns-clause-forest : goal.returns-clause-forest
returns-clause-forest c =
    let old = c.args.chain.now in
    let x = split_there c.args.id (entries_of old) (length old.slots.items) c.requires.held.document c.requires.there in
    (set_held (entries_of old) (length old.slots.items) c.args.id c.args.node c.set_node.new.chain c.requires.held.document x c.set_node.ensures.len
    (c.set_node.ensures.chain x.front x.back x.entry (subst (IsChainOf old) x.whole c.requires.held.links) x.same)).forest_is

pub returns-clause-spine : goal.returns-clause-spine
returns-clause-spine c = λ next spine s.
    let old = c.args.chain.now in
    let x = split_there c.args.id (entries_of old) (length old.slots.items) c.requires.held.document c.requires.there in
    set_spine (entries_of old) c.args.id next c.args.node c.set_node.new.chain x
    (set_held (entries_of old) (length old.slots.items) c.args.id c.args.node c.set_node.new.chain c.requires.held.document x c.set_node.ensures.len
    (c.set_node.ensures.chain x.front x.back x.entry (subst (IsChainOf old) x.whole c.requires.held.links) x.same)).entries_is spine s
