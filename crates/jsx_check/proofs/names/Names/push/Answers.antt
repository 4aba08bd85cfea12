use Rattle.std.proofs.Common.{◌∙◌, ap, sym, arith, Bor, List, ℕ, ◌++◌, ◌∷◌, []}
use Rattle.jsx_check.specs.SeenNames.{name_count}
use Rattle.jsx_check.proofs.CountsLemmas.{count-last_first, counts_pushed}
use Rattle.jsx_check.proofs.names.Names.push.Goals as goal

pub overflow_add-count : goal.overflow_add-count
overflow_add-count c =
    let few = count-last_first c.as_str-name.result.now c.self.inside.stack.items in
    let is = c.count-count.ensures ∙ ap (name_count c.as_str-name.result.now) (sym c.self.view_is) in
    omega (arith, few, is, c.self.inside.stack.ok, c.self.inside.stack.small)

pub invariant_of-self-2 : goal.invariant_of-self-2
invariant_of-self-2 c =
    let is = c.count-count.ensures ∙ ap (name_count c.as_str-name.result.now) (sym c.self.view_is) in
    counts_pushed c.self.inside.counts c.insert.new.self c.as_str-name.result _ c.self.inside.stack.items c.push.new.self.items
    c.in_ok-insert.ensures.updates c.self.invariant (omega (arith, is)) (rw c.unwrap.ensures at c.push.ensures.items ∙ ap (λ (xs : List (Bor (List ℕ))). xs ++ c.as_str-name.result ∷ []) c.in_ok-reserve.ensures.items)
