-- Small documents, for worked examples. Their later siblings are given.
use Rattle.std.specs.Prelude.{ℕ, List, [], ◌∷◌, codes}
use Rattle.dom_forest.specs.Edits.{digest_attribute}
use Rattle.dom_forest.specs.Forest.{Forest, empty, tree}
use Rattle.dom_forest.specs.declared.node.Mark.{Mark}
use Rattle.dom_forest.specs.declared.node.Mark.TheVariants.{Space}
use Rattle.dom_forest.specs.declared.node.NewNode.TheVariants.{Comment, Element, Text}
use Rattle.page_laws.specs.Pages.{id_attribute}

abbrev pub comment : Mark → Forest → Forest
comment mark later = tree 1 (Comment mark) empty later

-- `<!-- -->`
abbrev pub space : Forest → Forest
space later = tree 2 (Comment Space) empty later

abbrev pub text_before : List ℕ → Forest → Forest
text_before text later = tree 3 (Text text) empty later

-- `<template id="B:1"></template>`
abbrev pub template_of : List ℕ → Forest → Forest
template_of id later = tree 4 (Element (codes "template") (id_attribute id ∷ [])) empty later

-- `<template></template>`, and with a digest
abbrev pub plain_template : Forest → Forest
plain_template later = tree 5 (Element (codes "template") []) empty later

abbrev pub digest_template : Forest → Forest
digest_template later = tree 6 (Element (codes "template") (digest_attribute (codes "e") ∷ [])) empty later

-- `<p></p>`, and with a digest
abbrev pub paragraph : Forest
paragraph = tree 7 (Element (codes "p") []) empty empty

abbrev pub digest_paragraph : Forest
digest_paragraph = tree 8 (Element (codes "p") (digest_attribute (codes "e") ∷ [])) empty empty

-- `<div id="S:1">` around nodes
abbrev pub container_of : Forest → Forest → Forest
container_of kids later = tree 9 (Element (codes "div") (id_attribute (codes "S:1") ∷ [])) kids later
