use Rattle.fizz_cli.specs.Sending.{IsReady, IsReadyOf}
use Rattle.fizz_cli.specs.Sources.{AcceptsSources, RefusesSources}
use Rattle.fizz_cli.specs.Trees.{RefusesTreePage, settled_page}
use Rattle.fizz_cli.specs.declared.commands.render.Ready.{Ready}
use Rattle.fizz_cli.specs.declared.steps.sources.Sources.{Sources}
use Rattle.fizz_cli.proofs.SendingLemmas.{ready_is}
use Rattle.fizz_cli.proofs.StepsLemmas.{reads_then}
use Rattle.fizz_cli.proofs.TreesLemmas.{was_read}
use Rattle.fizz_cli.proofs.commands.render.read.Goals as goal

pub returns-clause-reads : goal.returns-clause-reads
returns-clause-reads g c =
    let app = c.args.app.now in
    let script = c.args.script.now in
    let prefix = c.args.prefix.now in
    let sources = c.in_ok-sources.sources in
    reads_then (λ at (s : Sources). AcceptsSources at app script s) (λ at. RefusesSources at app script)
    (λ (ready : Ready). IsReady sources prefix ready) (λ (s : Sources). RefusesTreePage app (settled_page s prefix))
    (λ at (ready : Ready). IsReadyOf at app script prefix ready) _ sources c.ready_of.result
    (λ at ready accepted is. ready_is at app script prefix sources ready accepted is)
    (λ name. was_read app name (settled_page sources prefix)) c.in_ok-sources.ensures.reads c.ready_of.ensures.ready
