use Rattle.std.proofs.Common.{◌≡◌, suc, ◌∷◌, length, sym, ap, subst, ◌∙◌}
use Rattle.std.specs.Vec.{vec_capacity}
use Rattle.fizz_segment.specs.Calls.{IsLive}
use Rattle.fizz_boundary.specs.Calls.{IsParent}
use Rattle.request_state.specs.Core.{Core, core_of}
use Rattle.request_state.specs.Making.{RoomFor, with_all_made, with_made}
use Rattle.request_state.proofs.MakingLemmas.{IsLive-made, IsParent-made, RoomFor-made}
use Rattle.request_state.proofs.state.State.make_all.Goals as goal

pub kids-preserved : goal.kids-preserved
kids-preserved c =
    let steps : c.kids.made-iterator.rest.items ≡ c.in-Some.made ∷ c.next.new.self.rest.items = c.in-Some.ensures.steps.0 in
    let made : core_of c.make.new.self ≡ with_made c.args.owner c.args.parent c.in-Some.made (core_of c.kids.self) =
    c.make.ensures.made in
    let room : RoomFor (suc (length c.next.new.self.rest.items)) (vec_capacity c.kids.self.claims) (core_of c.kids.self) =
    subst (λ ms. RoomFor (length ms) (vec_capacity c.kids.self.claims) (core_of c.kids.self)) steps c.kids.invariant.2 in (
      subst (λ (core : Core). IsLive core.segments c.args.parent) (sym made)
          (IsLive-made c.args.owner c.args.parent c.in-Some.made (core_of c.kids.self) c.kids.invariant.0),
      subst (λ (core : Core). IsParent core.boundaries c.args.owner) (sym made)
          (IsParent-made c.args.owner c.args.owner c.args.parent c.in-Some.made (core_of c.kids.self) c.kids.invariant.1),
      subst (λ (core : Core). RoomFor (length c.next.new.self.rest.items) (vec_capacity c.make.new.self.claims) core) (sym made)
          (subst (λ n. RoomFor (length c.next.new.self.rest.items) n
          (with_made c.args.owner c.args.parent c.in-Some.made (core_of c.kids.self))) (sym c.make.ensures.room)
          (RoomFor-made (length c.next.new.self.rest.items) (vec_capacity c.kids.self.claims) c.args.owner c.args.parent
          c.in-Some.made (core_of c.kids.self) room)),
      c.make.ensures.plan ∙ c.kids.invariant.3,
      ap (with_all_made c.args.owner c.args.parent c.next.new.self.rest.items) made
          ∙ ap (λ ms. with_all_made c.args.owner c.args.parent ms (core_of c.kids.self)) (sym steps)
          ∙ c.kids.invariant.4,
    )
