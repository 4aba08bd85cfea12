use Rattle.std.proofs.Common.{ℕ, Vec, Global}
use Rattle.fizz_cli.specs.Sources.{AcceptsSources, RefusesSources}
use Rattle.fizz_cli.specs.Trees.{PrintsPage, RefusesTreePage, ShowsTree, settled_page}
use Rattle.fizz_cli.specs.declared.steps.sources.Sources.{Sources}
use Rattle.fizz_cli.proofs.StepsLemmas.{reads_then}
use Rattle.fizz_cli.proofs.TreesLemmas.{was_read}
use Rattle.fizz_cli.proofs.commands.tree.read.Goals as goal

pub returns : goal.returns
returns g c =
    let app = c.args.app.now in
    let script = c.args.script.now in
    let prefix = c.args.prefix.now in
    let sources = c.in_ok-sources.sources in
    reads_then (λ at (s : Sources). AcceptsSources at app script s) (λ at. RefusesSources at app script)
    (λ (document : Vec ℕ Global). PrintsPage (settled_page sources prefix) document.items)
    (λ (s : Sources). RefusesTreePage app (settled_page s prefix)) (λ at (document : Vec ℕ Global). ShowsTree at app script prefix document.items)
    _ sources c.document_of.result (λ at document accepted prints. record { sources = sources; accepted = accepted; prints = prints })
    (λ name. was_read app name (settled_page sources prefix)) c.in_ok-sources.ensures.reads c.document_of.ensures
