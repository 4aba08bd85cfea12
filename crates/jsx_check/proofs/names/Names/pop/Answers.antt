use Rattle.std.proofs.Common.{◌∙◌, ap, sym, arith, ◌-◌}
use Rattle.jsx_check.specs.SeenNames.{name_count}
use Rattle.jsx_check.proofs.CountsLemmas.{counted_last, counts_popped}
use Rattle.jsx_check.proofs.names.Names.pop.Goals as goal

pub overflow_sub-count : goal.overflow_sub-count
overflow_sub-count c =
    let is = c.count-count.ensures ∙ ap (name_count c.in-Some.name.now.now) (sym c.self.view_is) in
    let last = counted_last c.in-Some.name.now c.self.inside.stack.items c.in-Some.earlier.now (sym c.as_slice.ensures.value ∙ c.in-Some.ensures.cases.0) in
    omega (arith, is, last)

pub invariant_of-self-2 : goal.invariant_of-self-2
invariant_of-self-2 c =
    let is = c.count-count.ensures ∙ ap (name_count c.in-Some.name.now.now) (sym c.self.view_is) in
    counts_popped c.self.inside.counts c.insert.new.self c.in-Some.name.now _ c.self.inside.stack.items c.in-Some.earlier.now c.truncate.new.self.items
    c.in_ok-insert.ensures.updates c.self.invariant (sym c.as_slice.ensures.value ∙ c.in-Some.ensures.cases.0) (ap (λ k. k - 1) is) c.truncate.ensures.items
