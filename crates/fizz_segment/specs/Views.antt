-- What a look at a segment tells.
use Rattle.std.specs.Prelude.{◌≡◌, ℕ, Some}
use Rattle.std.specs.Option.{option_copied}
use Rattle.fizz_segment.specs.declared.segment.SegView.{SegView}
use Rattle.fizz_segment.specs.Tree.{Tree, first_of, kids_of, mark_at, next_of, part_at}

pub record IsViewOf (tree : Tree) (id : ℕ) (view : SegView) : Type 0 where
  pub part : part_at tree.parts id
      ≡ Some (record { kind = view.kind; parent = view.parent; «at» = view.at; bytes = option_copied view.bytes })
  pub mark : mark_at tree.marks id ≡ record { flags = view.flags; drawn = view.drawn; printed = view.printed }
  pub first : view.first ≡ first_of (kids_of tree.parts id)
  pub next : view.next ≡ next_of tree.parts view.parent id
