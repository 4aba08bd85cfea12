use Rattle.fizz_cli.proofs.GeneratingLemmas.{refuses_as, refuses_generated}
use Rattle.fizz_cli.proofs.commands.generate.rendered.Goals as goal

pub returns : goal.returns
returns c = refuses_as {A = Unit {0}} {B = Unit {0}} (λ done. Unit {0}) (λ done. Unit {0}) _ _ c.in-Err.refused
    (λ refusal r. refuses_generated c.args.seed c.args.size _ _ _ c.standard-options.result refusal
    c.in_ok-files.ensures c.app_name.ensures c.script_name.ensures c.standard-options.ensures r) c.in-Err.ensures
