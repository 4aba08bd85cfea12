use Rattle.std.specs.String.{string_bytes}
use Rattle.jsx_print.proofs.StepLemmas.{on_ok, component_step}
use Rattle.jsx_print.proofs.file.push_component.Goals as goal

pub returns : goal.returns
returns c =
    on_ok c.push_sign-2.result
    (component_step (string_bytes c.args.out.now) (string_bytes c.push_head.new.out) (string_bytes c.push_sign.new.out)
    (string_bytes c.push_stmts.new.out) (string_bytes c.push_return.new.out) (string_bytes c.push_sign-2.new.out) c.args.component.now
    c.as_slice.result.now c.as_slice-2.result.now c.as_slice.ensures c.as_slice-2.ensures c.in_ok-push_head.ensures c.in_ok-push_sign.ensures
    c.in_ok-push_stmts.ensures c.in_ok-push_return.ensures)
    c.push_sign-2.ensures
