use Rattle.std.proofs.Common.{◌≡◌, ◌||◌, Bool, true, false, refl, ap, ap₂, ◌∙◌}
use Rattle.std.proofs.lemmas.Result.{IfOk-weaker}
use Rattle.clap.specs.Words.{app_of, with_rule}
use Rattle.fizz_words.proofs.grammar.with_options.Goals as goal

or_none : (b x : Bool) → x ≡ false → (b || x) ≡ b
or_none true x e = refl
or_none false x e = e

pub returns : goal.returns
returns c =
    let one = c.in_ok-arg.ensures.shape c.workers.ensures.1 ∙ ap (with_rule (app_of c.args.command)) c.workers.ensures.0 in
    let two = c.in_ok-arg-2.ensures.shape c.chunk.ensures.1 ∙ ap₂ with_rule one c.chunk.ensures.0 in
    let three = c.in_ok-arg-3.ensures.shape c.progressive.ensures.1 ∙ ap₂ with_rule two c.progressive.ensures.0 in
    let local = c.in_ok-arg.ensures.globals ∙ or_none _ _ c.workers.ensures.1 in
    let local_two = c.in_ok-arg-2.ensures.globals ∙ or_none _ _ c.chunk.ensures.1 ∙ local in
    let local_three = c.in_ok-arg-3.ensures.globals ∙ or_none _ _ c.progressive.ensures.1 ∙ local_two in
    IfOk-weaker c.arg-4.result _ _
    (λ r adds. (adds.shape c.prefix.ensures.1 ∙ ap₂ with_rule three c.prefix.ensures.0, adds.globals ∙ or_none _ _ c.prefix.ensures.1 ∙ local_three))
    c.arg-4.ensures
