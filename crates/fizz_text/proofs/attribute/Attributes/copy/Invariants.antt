use Rattle.std.proofs.Common.{◌≡◌, take}
use Rattle.fizz_text.proofs.attribute.Attributes.copy.Given as goal

-- the copies so far are the first attributes
abbrev pub invariant-loop-attribute : goal.invariant-loop-attribute
invariant-loop-attribute l = l.items.items ≡ take l.attribute-index l.attribute-items
