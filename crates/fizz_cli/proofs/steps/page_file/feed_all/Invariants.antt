use Rattle.std.proofs.Common.{length}
use Rattle.fizz_cli.proofs.Pages.{Feeding}
use Rattle.fizz_cli.proofs.steps.page_file.feed_all.Given as goal

abbrev pub invariant-pieces : goal.invariant-pieces
invariant-pieces l = Feeding l.fn.machine l.bytes l.machine l.rest

abbrev pub decreases-pieces : goal.decreases-pieces
decreases-pieces l = length l.rest
