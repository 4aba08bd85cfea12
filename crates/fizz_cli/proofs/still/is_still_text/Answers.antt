use Rattle.fizz_cli.proofs.StillLemmas.{still_text}
use Rattle.fizz_cli.proofs.still.is_still_text.Goals as goal

pub returns : goal.returns
returns c = still_text c.args.text.now c.as_bytes.result.now c.is_empty.result c.as_bytes.ensures.value c.as_bytes.ensures.utf8 c.is_empty.ensures
