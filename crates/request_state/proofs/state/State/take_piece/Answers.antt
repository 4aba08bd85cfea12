use Rattle.std.proofs.Common.{◌≡◌, sym, ap, subst, ◌∙◌}
use Rattle.fizz_segment.specs.Calls.{IsLive}
use Rattle.fizz_boundary.specs.Calls.{IsParent}
use Rattle.flush_queues.specs.Telling.{HasPlacesIf}
use Rattle.request_state.specs.Core.{Core, core_of}
use Rattle.request_state.specs.Committing.{counted, with_bytes}
use Rattle.request_state.specs.Making.{with_all_made}
use Rattle.request_state.proofs.CommittingLemmas.{HasPlacesIf-all_made, IsLive-counted, IsParent-counted}
use Rattle.request_state.proofs.state.State.take_piece.Goals as goal

pub make_all-requires-clause-live : goal.make_all-requires-clause-live
make_all-requires-clause-live c =
    let s = c.args.prepared.segment in
    let is : core_of c.count.new.self ≡ counted c.args.prepared.owner c.args.prepared.kids c.len-size.result
    (with_bytes c.args.work s c.args.bytes.items (core_of c.args.self.now)) =
    c.count.ensures.counted
    ∙ ap (counted c.args.prepared.owner c.args.prepared.kids c.len-size.result) c.complete.ensures.completed in
    subst (λ (core : Core). IsLive core.segments s) (sym is)
    (IsLive-counted c.args.prepared.owner c.args.prepared.kids c.len-size.result c.args.work s
    c.args.bytes.items (core_of c.args.self.now) c.requires.prepared.live)

pub make_all-requires-clause-owner : goal.make_all-requires-clause-owner
make_all-requires-clause-owner c =
    let s = c.args.prepared.segment in
    let is : core_of c.count.new.self ≡ counted c.args.prepared.owner c.args.prepared.kids c.len-size.result
    (with_bytes c.args.work s c.args.bytes.items (core_of c.args.self.now)) =
    c.count.ensures.counted
    ∙ ap (counted c.args.prepared.owner c.args.prepared.kids c.len-size.result) c.complete.ensures.completed in
    subst (λ (core : Core). IsParent core.boundaries c.args.prepared.owner) (sym is)
    (IsParent-counted c.args.prepared.owner c.args.prepared.kids c.args.prepared.kids c.len-size.result
    c.args.work s c.args.bytes.items c.args.self.now c.requires.prepared.countable.0)

pub segment_done-requires : goal.segment_done-requires
segment_done-requires c =
    let s = c.args.prepared.segment in
    let all = c.args.prepared.all.items in
    let is : core_of c.make_all.new.self ≡ with_all_made c.args.prepared.owner s all
    (counted c.args.prepared.owner c.args.prepared.kids c.len-size.result
    (with_bytes c.args.work s c.args.bytes.items (core_of c.args.self.now))) =
    c.make_all.ensures.made
    ∙ ap (with_all_made c.args.prepared.owner s all) (c.count.ensures.counted
    ∙ ap (counted c.args.prepared.owner c.args.prepared.kids c.len-size.result)
    c.complete.ensures.completed) in
    subst (λ (core : Core). HasPlacesIf s c.args.prepared.owner core.queues) (sym is)
    (HasPlacesIf-all_made s c.args.prepared.owner s all c.args.prepared.kids c.len-size.result c.args.work
    c.args.bytes.items (core_of c.args.self.now) c.requires.prepared.countable.1)
