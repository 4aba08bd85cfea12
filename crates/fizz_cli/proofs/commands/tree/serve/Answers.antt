use Rattle.std.proofs.Common.{ℕ, Vec, Global, refl}
use Rattle.std.proofs.lemmas.Result.{err_from_is_err_and}
use Rattle.fizz_cli.specs.Trees.{ShowsTree}
use Rattle.fizz_words.specs.declared.command.Command.TheVariants.{Tree}
use Rattle.fizz_cli.proofs.CallsLemmas.{stops_as, writes}
use Rattle.fizz_cli.proofs.commands.tree.serve.Goals as goal

pub returns-in_err-document : goal.returns-in_err-document
returns-in_err-document g c =
    let p = err_from_is_err_and c.from_residual.result c.from_residual.ensures.1 in
    stops_as (λ at (out : Vec ℕ Global). ShowsTree at c.args.app.now c.args.script.now c.args.prefix.now out.items)
    (Tree c.args.app.now c.args.script.now c.args.prefix.now) _ _ c.in_err-document.field-0.0 p.0 c.from_residual.result refl p.1 p.2 c.in_err-document.ensures

pub returns : goal.returns
returns g c =
    writes (λ at. ShowsTree at c.args.app.now c.args.script.now c.args.prefix.now) (Tree c.args.app.now c.args.script.now c.args.prefix.now) _ _ c.in_ok-document.document _
    (λ at now written is. is) (λ at written is. is) c.in_ok-document.ensures (rw c.deref.ensures.value at c.write.ensures)
