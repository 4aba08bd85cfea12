use Rattle.flush_queues.proofs.KidsLemmas.{next_of-IsNextOf}
use Rattle.flush_queues.proofs.printing.next_kid.Goals as goal

pub returns-clause-kids : goal.returns-clause-kids
returns-clause-kids c parent passes =
    let parts = c.args.segments.now.parts in
    (next_of-IsNextOf parts
    (record { stands = c.laws_of_kids.ensures.stands parts; there = c.laws_of_kids.ensures.there parts })
    parent c.args.kid _ _ c.look.ensures.part c.look.ensures.next passes).kids

pub returns-clause-is_kid : goal.returns-clause-is_kid
returns-clause-is_kid c parent passes =
    let parts = c.args.segments.now.parts in
    (next_of-IsNextOf parts
    (record { stands = c.laws_of_kids.ensures.stands parts; there = c.laws_of_kids.ensures.there parts })
    parent c.args.kid _ _ c.look.ensures.part c.look.ensures.next passes).is_kid
