use Rattle.std.proofs.Common.{◌≡◌, ◌∷◌, [], ◌∙◌, refl}
use Rattle.std.proofs.lemmas.Result.{err_from_is_err_and}
use Rattle.settle_script.specs.declared.event.Event.TheVariants.{Flush, Work}
use Rattle.fizz_piece.specs.declared.plan.Plan.{Plan}
use Rattle.request_state.specs.Core.{Core, core_of}
use Rattle.inline_run.specs.Steps.{close, line, reclaim}
use Rattle.inline_run.proofs.RunLemmas.{ends_among, ends_flushing, finishes, if_err_map, on_ok_map, then_ends, then_steps}
use Rattle.inline_run.proofs.run.finish.Goals as goal

pub returns-in_err-reclaim-clause-ended : goal.returns-in_err-reclaim-clause-ended
returns-in_err-reclaim-clause-ended g c =
    let p = err_from_is_err_and c.from_residual.result c.from_residual.ensures.1 in
    ends_among c.args.state.now.plan (reclaim ∷ []) (line (Work 0) ∷ close ∷ []) refl _ _ _ _ _ _ c.from_residual.result
    p.0 p.1 p.2 c.in_err-reclaim.ensures.ended

pub returns-in_err-serve-clause-ended : goal.returns-in_err-serve-clause-ended
returns-in_err-serve-clause-ended g c =
    let p = err_from_is_err_and c.from_residual-in_err-serve.result c.from_residual-in_err-serve.ensures.1 in
    ends_among c.args.state.now.plan (reclaim ∷ line (Work 0) ∷ []) (close ∷ []) refl _ _ _ _ _ _
    c.from_residual-in_err-serve.result p.0 p.1 p.2
    (then_ends c.args.state.now.plan c.reclaim.new.state.plan c.reclaim.ensures.plan (reclaim ∷ []) (line (Work 0) ∷ [])
    _ _ _ _ _ _ _ _ _ c.in_ok-reclaim.ensures.stepped c.in_err-serve.ensures.ended)

pub returns-in_err-close-clause-ended : goal.returns-in_err-close-clause-ended
returns-in_err-close-clause-ended g c =
    let p = err_from_is_err_and c.from_residual-in_err-close.result c.from_residual-in_err-close.ensures.1 in
    ends_among c.args.state.now.plan (reclaim ∷ line (Work 0) ∷ close ∷ []) [] refl _ _ _ _ _ _
    c.from_residual-in_err-close.result p.0 p.1 p.2
    (then_ends c.args.state.now.plan c.serve.new.state.plan (c.serve.ensures.plan ∙ c.reclaim.ensures.plan)
    (reclaim ∷ line (Work 0) ∷ []) (close ∷ []) _ _ _ _ _ _ _ _ _
    (then_steps c.args.state.now.plan c.reclaim.new.state.plan c.reclaim.ensures.plan (reclaim ∷ []) (line (Work 0) ∷ [])
    _ _ _ _ _ _ _ _ _ c.in_ok-reclaim.ensures.stepped c.in_ok-serve.ensures.stepped) c.in_err-close.ensures.ended)

pub returns-clause-finished : goal.returns-clause-finished
returns-clause-finished g c =
    let plan : Plan = c.args.state.now.plan in
    let served : c.serve.new.state.plan ≡ plan = c.serve.ensures.plan ∙ c.reclaim.ensures.plan in
    on_ok_map c.flush_all.result _ _ c.flush_all.ensures.flushed
    (finishes plan c.close.new.state.plan (c.close.ensures.plan ∙ served) _ _ _ _ _ _ _ _ _
    (then_steps plan c.serve.new.state.plan served
    (reclaim ∷ line (Work 0) ∷ []) (close ∷ []) _ _ _ _ _ _ _ _ _
    (then_steps plan c.reclaim.new.state.plan c.reclaim.ensures.plan (reclaim ∷ []) (line (Work 0) ∷ [])
    _ _ _ _ _ _ _ _ _ c.in_ok-reclaim.ensures.stepped c.in_ok-serve.ensures.stepped) c.in_ok-close.ensures.stepped))

pub returns-clause-ended : goal.returns-clause-ended
returns-clause-ended g c =
    let plan : Plan = c.args.state.now.plan in
    let served : c.serve.new.state.plan ≡ plan = c.serve.ensures.plan ∙ c.reclaim.ensures.plan in
    if_err_map c.flush_all.result _ _ c.flush_all.ensures.ended
    (λ fault. ends_flushing plan c.close.new.state.plan (c.close.ensures.plan ∙ served) _ _ _ _ _ _ _ _ fault
    (then_steps plan c.serve.new.state.plan served
    (reclaim ∷ line (Work 0) ∷ []) (close ∷ []) _ _ _ _ _ _ _ _ _
    (then_steps plan c.reclaim.new.state.plan c.reclaim.ensures.plan (reclaim ∷ []) (line (Work 0) ∷ [])
    _ _ _ _ _ _ _ _ _ c.in_ok-reclaim.ensures.stepped c.in_ok-serve.ensures.stepped) c.in_ok-close.ensures.stepped))
