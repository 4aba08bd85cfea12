use Rattle.fizz_cli.proofs.StillLemmas.{still_value}
use Rattle.fizz_cli.proofs.still.is_still_value.Goals as goal

pub returns : goal.returns
returns c =
    still_value c.args.prefix.now c.args.name.now c.args.value.now c.as_bytes.result.now c.is_own_id.result c.as_bytes.ensures.value
    c.as_bytes.ensures.utf8 c.is_own_id.ensures
