use Rattle.std.proofs.Common.{Err, ◌∙◌, ap, refl}
use Rattle.fizz_cli.proofs.CallsLemmas.{CommandLaws, call_done, call_told}
use Rattle.fizz_cli.proofs.top.fizz_inline.Goals as goal

pub returns-in-Ok : goal.returns-in-Ok
returns-in-Ok g c =
    let laws : CommandLaws c.args.command.now = record { accepted = c.laws_of_refusals.ensures.accepted; one = c.laws_of_refusals.ensures.one } in
    call_done c.args.command.now _ _ _ c.serve.result c.in-Ok.field-0 laws c.in-Ok.is c.serve.ensures refl

pub returns-in-Err-Refused : goal.returns-in-Err-Refused
returns-in-Err-Refused g c =
    let laws : CommandLaws c.args.command.now = record { accepted = c.laws_of_refusals.ensures.accepted; one = c.laws_of_refusals.ensures.one } in
    call_told c.args.command.now _ _ _ c.serve.result c.in-Err-Refused.refusal _ laws
    (c.in-Err-Refused.is ∙ ap Err c.in-Err-Refused.field-0-is) c.serve.ensures c.tell.ensures
