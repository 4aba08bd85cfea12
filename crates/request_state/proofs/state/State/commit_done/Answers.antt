use Rattle.std.proofs.Common.{map, ap, ◌∙◌}
use Rattle.request_state.specs.Core.{core_of}
use Rattle.request_state.specs.Making.{made_of}
use Rattle.request_state.proofs.CommittingLemmas.{TakesPiece-prepared}
use Rattle.request_state.proofs.state.State.commit_done.Goals as goal

pub returns-in-Ok-clause-ok : goal.returns-in-Ok-clause-ok
returns-in-Ok-clause-ok c =
    TakesPiece-prepared c.args.self.now.plan.outcomes.now (core_of c.args.self.now) (core_of c.prepare.new.self)
    (core_of c.take_piece.new.self) c.args.work c.args.bytes.items c.args.kids c.in-Ok.prepared
    c.in-Ok.ensures.prepared.kept c.in-Ok.ensures.prepared.owner
    (c.in-Ok.ensures.prepared.made
    ∙ ap (map (made_of c.args.self.now.plan.outcomes.now c.prepare.new.self.settled)) c.as_slice.ensures)
    c.in-Ok.ensures.prepared.can.as_many c.in-Ok.ensures.same c.take_piece.ensures.taken
