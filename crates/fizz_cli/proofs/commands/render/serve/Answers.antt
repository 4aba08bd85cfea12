use Rattle.std.proofs.Common.{refl}
use Rattle.std.proofs.lemmas.Result.{err_from_is_err_and}
use Rattle.fizz_cli.specs.Sending.{IsReadyOf}
use Rattle.fizz_words.specs.declared.command.Command.TheVariants.{Render}
use Rattle.fizz_cli.specs.declared.commands.render.Ready.{Ready}
use Rattle.fizz_cli.proofs.CallsLemmas.{stops_as}
use Rattle.fizz_cli.proofs.SendingLemmas.{serves_ready}
use Rattle.fizz_cli.proofs.commands.render.serve.Goals as goal

pub returns-in_err-ready : goal.returns-in_err-ready
returns-in_err-ready g c = λ workers.
    let p = err_from_is_err_and c.from_residual.result c.from_residual.ensures.1 in
    stops_as (λ at (ready : Ready). IsReadyOf at c.args.app.now c.args.script.now c.args.options.now.prefix ready)
    (Render c.args.app.now c.args.script.now c.args.options.now workers) _ _ c.in_err-ready.field-0.0 p.0
    c.from_residual.result refl p.1 p.2 c.in_err-ready.ensures.reads

pub returns : goal.returns
returns g c = λ workers.
    serves_ready c.args.app.now c.args.script.now c.args.options.now workers _ _ c.in_ok-ready.ready c.send.result
    c.in_ok-ready.ensures.reads c.send.ensures
