use Rattle.std.proofs.Common.{List, ℕ, is_some, sym, ap, ◌∙◌}
use Rattle.jsx_syntax.specs.Steps.{names_before_map}
use Rattle.jsx_syntax.proofs.Names.{taken}
use Rattle.jsx_syntax.proofs.operand.take_map.Goals as goal

pub returns : goal.returns
returns c =
    taken c.pop.result c.args.names.now c.pop.new.self c.pop.ensures
    (ap (λ (names : List (List ℕ)). is_some (names_before_map names)) (sym c.as_slice.ensures) ∙ sym c.ends_in_map.ensures ∙ c.if-not-ends_in_map.false)
