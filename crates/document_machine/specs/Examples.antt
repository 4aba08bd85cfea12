-- Small pages as tokens and as forests, for worked examples of the definitions.
use Rattle.std.specs.Prelude.{ℕ, List, [], ◌∷◌, codes, Some, None}
use Rattle.fizz_text.specs.declared.attribute.Attr.{Attr}
use Rattle.html_read.specs.declared.token.Token.{Token}
use Rattle.html_read.specs.declared.token.Token.TheVariants as tok
use Rattle.dom_forest.specs.Forest.{Forest, empty, tree}
use Rattle.dom_forest.specs.declared.node.Mark.TheVariants.{End}
use Rattle.dom_forest.specs.declared.node.NewNode.TheVariants.{Comment, Element}

abbrev pub id_is : List ℕ → Attr
id_is value = record { name = codes "id"; value = Some value }

abbrev pub hidden : Attr
hidden = record { name = codes "hidden"; value = None }

-- `<div hidden id="S:0">` at a place
abbrev pub container_start : ℕ → Token
container_start from = tok.Start (codes "div") (hidden ∷ id_is (codes "S:0") ∷ []) from

-- `<p>a</p><div hidden id="S:0">`
abbrev pub shell_and_container : List Token
shell_and_container = tok.Start (codes "p") [] 0 ∷ tok.Text (codes "a") 3 ∷ tok.End (codes "p") 4 ∷ container_start 8 ∷ []

-- `<p><div hidden id="S:0"></div></p>`
abbrev pub container_inside : List Token
container_inside = tok.Start (codes "p") [] 0 ∷ container_start 3 ∷ tok.End (codes "div") 24 ∷ tok.End (codes "p") 30 ∷ []

-- `<p><script>x</script>`
abbrev pub script_inside : List Token
script_inside = tok.Start (codes "p") [] 0 ∷ tok.Script (codes "x") 3 ∷ []

-- `<template id="P:1"></template>`, whose later siblings are given
abbrev pub placeholder : ℕ → Forest → Forest
placeholder id later = tree id (Element (codes "template") (id_is (codes "P:1") ∷ [])) empty later

-- what stands after `$`: `<p>`, in it some nodes, and then `/$`
abbrev pub paragraph_and_end : Forest → Forest
paragraph_and_end kids = tree 1 (Element (codes "p") []) kids (tree 9 (Comment End) empty empty)
