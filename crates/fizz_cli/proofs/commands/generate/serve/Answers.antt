use Rattle.std.proofs.Common.{ℕ, Vec, Global, refl}
use Rattle.std.proofs.lemmas.Result.{err_from_is_err_and}
use Rattle.fizz_cli.specs.Generating.{RefusesGenerated, SumsUp}
use Rattle.fizz_words.specs.declared.command.Command.TheVariants.{Gen}
use Rattle.fizz_cli.proofs.CallsLemmas.{stops_as, writes}
use Rattle.fizz_cli.proofs.GeneratingLemmas.{always_read, reads_nothing}
use Rattle.fizz_cli.proofs.commands.generate.serve.Goals as goal

pub returns-in_err-line : goal.returns-in_err-line
returns-in_err-line g c = λ workers files same.
    let p = err_from_is_err_and c.from_residual.result c.from_residual.ensures.1 in
    stops_as (λ at (line : Vec ℕ Global). SumsUp c.args.seed c.args.size line.items) (Gen c.args.seed c.args.size workers) files _
    c.in_err-line.field-0.0 p.0 c.from_residual.result refl p.1 p.2
    (reads_nothing (λ (line : Vec ℕ Global). SumsUp c.args.seed c.args.size line.items) (RefusesGenerated c.args.seed c.args.size) files _ same
    (always_read c.args.seed c.args.size) c.in_err-line.ensures)

pub returns : goal.returns
returns g c = λ workers files same.
    writes (λ at. SumsUp c.args.seed c.args.size) (Gen c.args.seed c.args.size workers) files _ c.in_ok-line.line _
    (λ at now written is. is) (λ at written is. is)
    (reads_nothing (λ (line : Vec ℕ Global). SumsUp c.args.seed c.args.size line.items) (RefusesGenerated c.args.seed c.args.size) files _ same
    (always_read c.args.seed c.args.size) c.in_ok-line.ensures)
    (rw c.deref.ensures.value at c.write.ensures)
