use Rattle.std.proofs.Common.{◌∙◌, ap}
use Rattle.dom_forest.proofs.IndexLemmas.{note_keeps}
use Rattle.dom_forest.specs.Index.{holder_with}
use Rattle.dom_forest.proofs.ids.note.Goals as goal

pub returns-clause-kept : goal.returns-clause-kept
returns-clause-kept c =
    note_keeps c.args.holders.now c.insert.new.self c.args.slots.now c.args.id.now c.in_ok-key.key c.args.node c.holder_with-holder.result
    (c.in_ok-key.ensures.ok ∙ c.as_str.ensures.value) c.in_ok-insert.ensures.updates
    (c.holder_with-holder.ensures ∙ ap (λ k. holder_with c.args.slots.now c.args.node k) c.known_of.ensures)
