use Rattle.std.proofs.Common.{◌∙◌, ap, Err}
use Rattle.fizz_cli.proofs.GeneratingLemmas.{refuses_for, renders_to}
use Rattle.fizz_cli.proofs.commands.generate.render_to.Goals as goal

pub returns-in-Ok : goal.returns-in-Ok
returns-in-Ok c = renders_to _ _ _ _ _ _ _ _ _ c.serve.result (c.serve.ensures 0) c.in-Ok.field-0 c.in-Ok.is c.requires.empty

pub returns-in-Err-Refused : goal.returns-in-Err-Refused
returns-in-Err-Refused c = refuses_for _ _ _ _ _ _ _ _ _ c.serve.result (c.serve.ensures 0) c.in-Err-Refused.refusal
    (c.in-Err-Refused.is ∙ ap Err c.in-Err-Refused.field-0-is)
