use Rattle.std.proofs.Common.{◌≡◌, List, Option, None, true, refl, sym, ◌∙◌, subst, arith}
use Rattle.std.specs.Option.{is_some}
use Rattle.std.proofs.lemmas.List.{get_or_read, length-set}
use Rattle.fizz_segment.specs.declared.segment.Part.{Part}
use Rattle.fizz_segment.specs.Tree.{Tree, part_at}
use Rattle.fizz_segment.proofs.Kids.{live_inside}
use Rattle.fizz_segment.proofs.LinkLemmas.{forgotten_links, room_moved, tree_set}
use Rattle.fizz_segment.proofs.segments.Segments.forget.Goals as goal

pub invariant_of-self : goal.invariant_of-self
invariant_of-self c =
    let parts : List (Option Part) = c.self.inside.parts.items in
    let live : is_some (part_at parts c.id.inside.0) ≡ true =
    subst (λ (t : Tree). is_some (part_at t.parts c.id.inside.0) ≡ true) (sym c.self.view_is)
    (subst (λ n. is_some (part_at c.args.self.now.parts n) ≡ true) (sym c.id.view_is) c.requires) in
    let read : c.index.result.now ≡ part_at parts c.id.inside.0 =
    get_or_read parts c.id.inside.0 c.index.result.now (live_inside parts c.id.inside.0 live) c.index.ensures None in (
      tree_set parts _ _ _ c.id.inside.0 None c.self.invariant.0 refl,
      omega (arith, c.self.invariant.1, length-set parts c.id.inside.0 None),
      omega (arith, c.self.invariant.2, length-set parts c.id.inside.0 None),
      forgotten_links parts c.id.inside.0 c.parent_of-parent.result c.self.inside.links c.remove.new.links live
          (λ own is. c.parent_of-parent.ensures own (read ∙ is)) c.remove.ensures.linked c.self.invariant.3,
      room_moved _ _ _ _ c.self.invariant.4 c.remove.ensures.room (omega (arith, length-set parts c.id.inside.0 None)),
    )
