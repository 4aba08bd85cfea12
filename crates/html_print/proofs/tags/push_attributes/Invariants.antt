use Rattle.std.proofs.Common.{◌≡◌, ◌++◌, take}
use Rattle.html_names.specs.Printing.{attributes_spelling}
use Rattle.html_print.proofs.tags.push_attributes.Given as goal

abbrev pub invariant-loop-attribute : goal.invariant-loop-attribute
invariant-loop-attribute l =
    l.out.items ≡ l.fn.out.items ++ attributes_spelling (take l.attribute-index l.attributes)
