use Rattle.std.proofs.Common.{subst, sym, refl}
use Rattle.fizz_segment.specs.Tree.{kids_of}
use Rattle.flush_queues.specs.Frames.{IsKidIf}
use Rattle.flush_queues.proofs.KidsLemmas.{IsKidIf-first_of}
use Rattle.flush_queues.proofs.printing.first_kid.Goals as goal

pub returns-clause-is_kid : goal.returns-clause-is_kid
returns-clause-is_kid c =
    let parts = c.args.segments.now.parts in
    subst (λ first. IsKidIf parts c.args.segment first) (sym c.look.ensures.first)
    (IsKidIf-first_of parts
    (record { stands = c.laws_of_kids.ensures.stands parts; there = c.laws_of_kids.ensures.there parts })
    c.args.segment (kids_of parts c.args.segment) refl)
