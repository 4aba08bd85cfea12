use Rattle.std.proofs.Common.{◌≡◌, ◌++◌, filter, not, take}
use Rattle.fizz_text.specs.declared.attribute.Attr.{Attr}
use Rattle.dom_forest.specs.Edits.{is_digest}
use Rattle.dom_forest.proofs.digest.push_others.Given as goal

abbrev pub invariant-loop-attribute : goal.invariant-loop-attribute
invariant-loop-attribute l =
    l.set ≡ l.fn.set ++ filter (λ (a : Attr). not (is_digest a)) (take l.attribute-index l.attributes)
