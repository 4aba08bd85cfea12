use Rattle.std.proofs.Common.{List, ℕ, ◌+◌, take, reverse, sym, subst}
use Rattle.jsx_syntax.specs.Rules.{depth_of}
use Rattle.jsx_syntax.specs.declared.file.Component.{Component}
use Rattle.jsx_check.specs.Depths.{Tells}
use Rattle.jsx_check.proofs.DepthsLemmas.{reverse_more}
use Rattle.jsx_check.proofs.depth.app_depth.Goals as goal

pub loop-component-preserved : goal.loop-component-preserved
loop-component-preserved c =
    let i : ℕ = c.loop-component.component-index in
    let seen : List Component = c.as_slice-component-items.result.now in
    subst (λ (cs : List Component). Tells c.add.new.depths (depth_of (reverse (take (i + 1) cs)))) c.as_slice-component-items.ensures
    (subst (λ (cs : List Component). Tells c.add.new.depths (depth_of cs))
    (sym (reverse_more seen i c.component-item.result c.loop-component-test.true (sym c.component-item.is)))
    (c.in_ok-add.ensures (reverse (take i seen))
    (subst (λ (cs : List Component). Tells c.loop-component.depths (depth_of (reverse (take i cs)))) (sym c.as_slice-component-items.ensures) c.loop-component.invariant)))
