use Rattle.std.proofs.Common.{[], None, length, ap, ◌∙◌, subst}
use Rattle.dom_forest.specs.Chain.{IsChainOf, entries_of, head_id}
use Rattle.dom_forest.specs.Flat.{flat, forest_of}
use Rattle.dom_forest.specs.Forest.{first_kids}
use Rattle.dom_forest.proofs.Held.{first_same, root_held}
use Rattle.dom_forest.proofs.Parts.{root_whole}
use Rattle.dom_forest.proofs.edits.drop_root.Goals as goal

pub returns-in-Some-clause-held : goal.returns-in-Some-clause-held
returns-in-Some-clause-held c =
    let old = c.args.chain.now in
    let es = entries_of old in
    let next = length old.slots.items in
    let r = root_whole es next c.requires.held.document c.requires.root in
    let rest = flat 1 (first_kids (forest_of es)) [] in
    let same = first_same old.first r.0.id c.in-Some.id (c.requires.held.links.head ∙ ap (λ l. head_id l None) r.1) c.in-Some.is in
    let h = root_held es next c.raise.new.chain r.0 c.requires.held.document r.1 (c.raise.ensures.len ∙ c.take.ensures.len)
    (c.raise.ensures.chain rest (c.take.ensures.chain [] rest r.0 (subst (IsChainOf old) r.1 c.requires.held.links) same)) in
    h.held

pub returns-in-Some-clause-forest : goal.returns-in-Some-clause-forest
returns-in-Some-clause-forest c =
    let old = c.args.chain.now in
    let es = entries_of old in
    let next = length old.slots.items in
    let r = root_whole es next c.requires.held.document c.requires.root in
    let rest = flat 1 (first_kids (forest_of es)) [] in
    let same = first_same old.first r.0.id c.in-Some.id (c.requires.held.links.head ∙ ap (λ l. head_id l None) r.1) c.in-Some.is in
    let h = root_held es next c.raise.new.chain r.0 c.requires.held.document r.1 (c.raise.ensures.len ∙ c.take.ensures.len)
    (c.raise.ensures.chain rest (c.take.ensures.chain [] rest r.0 (subst (IsChainOf old) r.1 c.requires.held.links) same)) in
    h.forest_is
