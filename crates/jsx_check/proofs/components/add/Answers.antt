use Rattle.std.proofs.Common.{List, ℕ, [], ◌∙◌, sym, ap, is_some}
use Rattle.jsx_check.specs.SeenNames.{texts_onto, value_at}
use Rattle.jsx_check.proofs.ComponentsLemmas.{knows_added, knows_kept}
use Rattle.jsx_check.proofs.components.add.Goals as goal

pub returns-in_ok-insert : goal.returns-in_ok-insert
returns-in_ok-insert c earlier knows =
    knows_added c.args.properties.now c.insert.new.self c.as_str-name.result.now c.in_ok-names.names earlier c.args.component.now
    c.in_ok-insert.ensures.updates c.as_str-name.ensures.value (c.in_ok-names.ensures ∙ ap (texts_onto []) c.as_slice.ensures) knows
    (sym c.contains_key.ensures ∙ c.if-not-contains_key.true)

pub returns-else-not-contains_key : goal.returns-else-not-contains_key
returns-else-not-contains_key c earlier knows =
    knows_kept c.args.properties.now earlier c.args.component.now knows
    (ap (λ (b : List ℕ). is_some (value_at c.args.properties.now b)) (sym c.as_str-name.ensures.value)
    ∙ (sym c.contains_key.ensures ∙ c.if-not-contains_key.false))
