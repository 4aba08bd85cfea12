use Rattle.std.proofs.Common.{◌≡◌, Ok, sym, ap, ◌∙◌}
use Rattle.std.proofs.lemmas.Result.{err_from_is_err_and}
use Rattle.jsx_lex.specs.declared.word.Punctuator.TheVariants as p
use Rattle.jsx_syntax.specs.declared.expr.Expr.{Expr}
use Rattle.jsx_syntax.specs.declared.state.State.{State}
use Rattle.jsx_syntax.specs.declared.state.Draft.{Draft}
use Rattle.jsx_syntax.specs.declared.state.Within.TheVariants as b
use Rattle.jsx_syntax.specs.declared.file.Stmt.TheVariants as s
use Rattle.jsx_syntax.specs.Steps as steps
use Rattle.jsx_syntax.proofs.Tops.{ended_then, ended_err}
use Rattle.jsx_syntax.proofs.closing.end_bind.Goals as goal

pub returns-in_err-value : goal.returns-in_err-value
returns-in_err-value c =
    let e = err_from_is_err_and c.from_residual.result c.from_residual.ensures.1 in
    rw (e.1, e.2) (ended_err c.has_room.result 1 p.Semicolon c.args.part c.args.word.now c.in_err-value.field-0.0 (λ (v : Expr). steps.within (b.Start (steps.with_stmt c.args.draft (s.Bind c.args.name v))) c.args.stack) c.has_room.ensures.decided c.in_err-value.ensures)

pub returns : goal.returns
returns c =
    let e = ended_then c.has_room.result 1 p.Semicolon c.args.part c.args.word.now c.in_ok-value.value (λ (v : Expr). steps.within (b.Start (steps.with_stmt c.args.draft (s.Bind c.args.name v))) c.args.stack) c.has_room.ensures.decided c.in_ok-value.ensures in
    e ∙ ap (λ (d : Draft). Ok (steps.within (b.Start d) c.args.stack)) (sym c.in_ok-draft.ensures) ∙ ap (λ (r : State). Ok r) (sym c.within.ensures)
