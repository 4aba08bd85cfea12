-- When an insertion is refused, and that the part comes back.
use Rattle.std.specs.Prelude.{◌≡◌, ℕ}
use Rattle.dom_forest.specs.declared.dom.InsertRefused.{InsertRefused}
use Rattle.dom_forest.specs.declared.dom.InsertRefused.TheVariants.{NoPlace, OutOfMemory}
use Rattle.dom_forest.specs.Edits.{DomState}
use Rattle.dom_forest.specs.Forest.{times}

-- The place is not there exactly where that is the cause; want of memory may come at any place that is there.
abbrev pub IsRefusal : ℕ → DomState → DomState → InsertRefused → Type 0
IsRefusal place dom part (NoPlace back) = (back ≡ part) × (times place dom.forest ≡ 0)
IsRefusal place dom part (OutOfMemory back) = back ≡ part
