use Rattle.std.proofs.Common.{◌∙◌}
use Rattle.fizz_segment.proofs.LinkLemmas.{removed_kid, removed_orphan}
use Rattle.fizz_segment.proofs.linking.remove.Goals as goal

pub returns-in-None-clause-linked : goal.returns-in-None-clause-linked
returns-in-None-clause-linked c parts part live own linked =
    removed_orphan parts c.args.id part c.args.links.now live (own ∙ c.in-None.is) linked

pub returns-in-Some-clause-linked : goal.returns-in-Some-clause-linked
returns-in-Some-clause-linked c parts part live own linked =
    removed_kid parts c.args.id c.in-Some.parent part c.args.links.now c.unlink.new.links live (own ∙ c.in-Some.is) linked c.unlink.ensures.unlinked
