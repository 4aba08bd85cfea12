use Rattle.std.proofs.Common.{◌≡◌, List, sym, ap, subst, ◌∙◌}
use Rattle.jsx_syntax.specs.declared.part.Part.{Part}
use Rattle.jsx_syntax.specs.declared.state.Frame.{Frame}
use Rattle.jsx_syntax.specs.Steps.{Moved, Gives, finish}
use Rattle.jsx_syntax.proofs.Tops.{finish_last, finish_end}
use Rattle.jsx_syntax.proofs.closing.finish.Goals as goal

pub conditionals-preserved : goal.conditionals-preserved
conditionals-preserved c =
    ap (λ (x : Part). finish x c.pop.new.self c.args.word.now) c.in_ok-part-in-Last.ensures
    ∙ sym (finish_last c.in-Some.frame c.in-Last.conditional c.in-Last.yes c.conditionals.part c.pop.new.self c.args.word.now (sym c.in-Last.ensures))
    ∙ ap (λ (fs : List Frame). finish c.conditionals.part fs c.args.word.now) (sym c.in-Some.ensures)
    ∙ c.conditionals.invariant

pub returns-in-End : goal.returns-in-End
returns-in-End c =
    let e =
    sym c.conditionals.invariant
    ∙ ap (λ (fs : List Frame). finish c.conditionals.part fs c.args.word.now) c.in-Some.ensures
    ∙ finish_end c.in-Some.frame c.in-End.end c.conditionals.part c.pop.new.self c.args.word.now (sym c.in-End.ensures) in
    subst (λ (m : Moved). Gives m c.close.result) (sym e) c.close.ensures
