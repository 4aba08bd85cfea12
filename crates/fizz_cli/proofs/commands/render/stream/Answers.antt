use Rattle.std.proofs.Common.{refl}
use Rattle.fizz_cli.proofs.SendingLemmas.{streams_by}
use Rattle.fizz_cli.proofs.commands.render.stream.Goals as goal

pub returns : goal.returns
returns g c =
    streams_by _ c.args.sources.now c.args.options.now _ c.run.result
    (record { app = refl; outcomes = c.outcomes.ensures; options_are = c.in-Ok.ensures }) c.run.ensures
