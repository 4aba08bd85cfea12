use Rattle.std.proofs.Common.{◌∙◌, ap}
use Rattle.fizz_cli.specs.Summaries.{text_parts}
use Rattle.fizz_cli.proofs.GeneratingLemmas.{texts_of_parts}
use Rattle.fizz_cli.proofs.summary.texts_in.Goals as goal

pub returns : goal.returns
returns c = c.text_parts.ensures ∙ (ap text_parts c.as_slice.ensures ∙ texts_of_parts _ _ c.args.view.now.whole)
