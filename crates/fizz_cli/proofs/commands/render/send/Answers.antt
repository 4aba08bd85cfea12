use Rattle.fizz_cli.specs.Trees.{settled_page}
use Rattle.fizz_cli.proofs.SendingLemmas.{late_of, still_of, streams_late, writes_still}
use Rattle.fizz_cli.proofs.commands.render.send.Goals as goal

pub returns-in-Some : goal.returns-in-Some
returns-in-Some g c =
    writes_still c.args.ready.now.sources c.args.options.now c.in-Some.bytes.items _ c.write.result
    (still_of (settled_page c.args.ready.now.sources c.args.options.now.prefix) c.args.ready.now.still c.in-Some.bytes
    c.in-Some.is c.requires.ready.settled.still) (rw c.deref.ensures.value at c.write.ensures)

pub returns-in-None : goal.returns-in-None
returns-in-None g c =
    streams_late c.args.ready.now.sources c.args.options.now _ c.stream.result
    (late_of (settled_page c.args.ready.now.sources c.args.options.now.prefix) c.args.ready.now.still
    c.in-None.is c.requires.ready.settled.still) c.stream.ensures
