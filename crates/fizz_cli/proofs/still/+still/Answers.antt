use Rattle.fizz_cli.proofs.StillLemmas.{void_holds}
use Rattle.fizz_cli.proofs.still.+still.Goals as goal

pub may_hold-returns-in-Some : goal.may_hold-returns-in-Some
may_hold-returns-in-Some t c =
    void_holds c.args.prefix.now c.args.name.now c.as_bytes.result.now c.args.kids.now c.args.room c.in-Some.found.is_void c.is_empty.result
    c.as_bytes.ensures.value c.in-Some.ensures.1 c.if-found.true c.is_empty.ensures
