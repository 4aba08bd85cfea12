use Rattle.std.proofs.Common.{◌≡◌, [], sym, ap, ◌∙◌}
use Rattle.std.proofs.lemmas.List.{nil_from_length}
use Rattle.dom_forest.specs.Documents.{levels_of}
use Rattle.dom_forest.specs.OpenElements.{levels_past}
use Rattle.dom_forest.proofs.OpenElements.{levels_past-none}
use Rattle.dom_forest.proofs.printing.after_element.Goals as goal

pub returns-in_default-clause-levels : goal.returns-in_default-clause-levels
returns-in_default-clause-levels c =
    let none : c.loop-open.rest.now ≡ [] = nil_from_length c.loop-open.rest.now c.in_default.ensures.cases in
    ap levels_of none ∙ sym (levels_past-none c.loop-open.open) ∙ ap (λ parts. levels_past c.loop-open.open (levels_of parts)) (sym none) ∙ c.loop-open.invariant.past
