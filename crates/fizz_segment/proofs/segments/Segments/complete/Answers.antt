use Rattle.std.proofs.Common.{◌≡◌, List, Option, None, true, slice_set, sym, ap, ◌∙◌, subst, arith}
use Rattle.std.specs.Option.{is_some}
use Rattle.std.proofs.lemmas.List.{get_or_read, length-set}
use Rattle.fizz_segment.specs.declared.segment.Part.{Part}
use Rattle.fizz_segment.specs.Tree.{Tree, part_at}
use Rattle.fizz_segment.specs.Calls.{with_bytes}
use Rattle.fizz_segment.specs.Linked.{AreLinked}
use Rattle.fizz_segment.proofs.Kids.{live_inside}
use Rattle.fizz_segment.proofs.LinkLemmas.{completed_links, room_fewer, tree_set}
use Rattle.fizz_segment.proofs.segments.Segments.complete.Goals as goal

pub invariant_of-self : goal.invariant_of-self
invariant_of-self c =
    let parts : List (Option Part) = c.self.inside.parts.items in
    let live : is_some (part_at parts c.id.inside.0) ≡ true =
    subst (λ (t : Tree). is_some (part_at t.parts c.id.inside.0) ≡ true) (sym c.self.view_is)
    (subst (λ n. is_some (part_at c.args.self.now.parts n) ≡ true) (sym c.id.view_is) c.requires.live) in
    let read : c.index_mut.result.now ≡ part_at parts c.id.inside.0 =
    get_or_read parts c.id.inside.0 c.index_mut.result.now (live_inside parts c.id.inside.0 live) c.index_mut.ensures.value None in
    let put : c.put_bytes.new.part ≡ with_bytes c.args.bytes.items (part_at parts c.id.inside.0) =
    c.put_bytes.ensures ∙ ap (with_bytes c.args.bytes.items) read in (
      tree_set parts _ _ _ c.id.inside.0 c.put_bytes.new.part c.self.invariant.0 (length-set c.self.inside.marks.items c.id.inside.0 _),
      omega (arith, c.self.invariant.1, length-set parts c.id.inside.0 c.put_bytes.new.part),
      omega (arith, c.self.invariant.2, length-set parts c.id.inside.0 c.put_bytes.new.part),
      subst (λ (part : Option Part). AreLinked (slice_set parts c.id.inside.0 part) c.self.inside.links) (sym put)
          (completed_links parts c.id.inside.0 c.args.bytes.items c.self.inside.links c.self.invariant.3),
      room_fewer _ _ _ c.self.invariant.4 (omega (arith, length-set parts c.id.inside.0 c.put_bytes.new.part)),
    )
