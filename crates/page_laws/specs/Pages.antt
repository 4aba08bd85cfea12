-- Pages as React's server renderer prints them: each boundary is a whole, and the ids of segments and boundaries are
-- numbers.
use Rattle.std.specs.Prelude.{◌≡◌, ℕ, ◌+◌, ◌==◌, Bool, false, ◌&&◌, if◌then◌else◌, List, [], ◌∷◌, Option, Some, None, codes, unwrap_or}
use Rattle.std.specs.List.{list_any}
use Rattle.std.specs.Str.{bytes_eq}
use Rattle.fizz_text.specs.declared.attribute.Attr.{Attr}
use Rattle.html_names.specs.Attributes.{is_reserved}
use Rattle.dom_forest.specs.Edits.{digest_attribute}
use Rattle.dom_forest.specs.declared.node.Mark.TheVariants.{Complete, Pending, Client, End, Space}
use Rattle.dom_forest.specs.declared.node.NewNode.{NewNode}
use Rattle.dom_forest.specs.declared.node.NewNode.TheVariants.{Element, Text, Comment}
use Rattle.fizz_instructions.specs.Bodies.{boundary_id, placeholder_id}
use Rattle.page_laws.specs.Nodes.{Nodes, none, node, joined_nodes}

-- Siblings: none, or a first one with the later ones.
pub data Page : Type 0 where
  nothing : Page
  text : List ℕ → Page → Page
  -- name, attributes, content
  element : List ℕ → List Attr → Page → Page → Page
  -- `<!-- -->`
  separator : Page → Page
  -- the template in the place of a segment that is still to come
  placeholder : ℕ → Page → Page
  -- a boundary that shows its content
  complete : Page → Page → Page
  -- a boundary that shows its fallback until the content comes, by its id
  pending : ℕ → Page → Page → Page
  -- a boundary that is left to the client and shows its fallback: its id, if it was pending before, and the digest of
  -- the error
  client : Option ℕ → List ℕ → Page → Page → Page

abbrev pub id_attribute : List ℕ → Attr
id_attribute id = record { name = codes "id"; value = Some id }

abbrev pub hidden_attribute : Attr
hidden_attribute = record { name = codes "hidden"; value = None }

abbrev pub template_with : List Attr → NewNode
template_with attributes = Element (codes "template") attributes

-- `<template id="P:1"></template>`
abbrev pub placeholder_template : List ℕ → ℕ → NewNode
placeholder_template prefix id = template_with (id_attribute (placeholder_id prefix id) ∷ [])

-- `<template id="B:0"></template>`
abbrev pub boundary_template : List ℕ → ℕ → NewNode
boundary_template prefix id = template_with (id_attribute (boundary_id prefix id) ∷ [])

-- A digest stands in an attribute unless it is empty.
abbrev pub digest_attributes : List ℕ → List Attr
digest_attributes [] = []
digest_attributes (b ∷ bs) = digest_attribute (b ∷ bs) ∷ []

abbrev pub client_attributes : List ℕ → Option ℕ → List ℕ → List Attr
client_attributes prefix None digest = digest_attributes digest
client_attributes prefix (Some id) digest = id_attribute (boundary_id prefix id) ∷ digest_attributes digest

-- `<template id="B:0" data-dgst="e"></template>`
abbrev pub client_template : List ℕ → Option ℕ → List ℕ → NewNode
client_template prefix id digest = template_with (client_attributes prefix id digest)

-- What stands up to the `/$` of a boundary, and what follows.
abbrev pub nodes_to_end : Nodes → Nodes → Nodes
nodes_to_end content later = joined_nodes content (node (Comment End) none later)

-- The nodes of a page whose ids have this prefix: a boundary stands between its marker and `/$`, and a template with
-- its id directly after the marker.
abbrev pub page_nodes : List ℕ → Page → Nodes
page_nodes prefix nothing = none
page_nodes prefix (text t later) = node (Text t) none (page_nodes prefix later)
page_nodes prefix (element name attributes content later) =
    node (Element name attributes) (page_nodes prefix content) (page_nodes prefix later)
page_nodes prefix (separator later) = node (Comment Space) none (page_nodes prefix later)
page_nodes prefix (placeholder id later) = node (placeholder_template prefix id) none (page_nodes prefix later)
page_nodes prefix (complete content later) =
    node (Comment Complete) none (nodes_to_end (page_nodes prefix content) (page_nodes prefix later))
page_nodes prefix (pending id fallback later) =
    node (Comment Pending) none (node (boundary_template prefix id) none
    (nodes_to_end (page_nodes prefix fallback) (page_nodes prefix later)))
page_nodes prefix (client id digest fallback later) =
    node (Comment Client) none (node (client_template prefix id digest) none
    (nodes_to_end (page_nodes prefix fallback) (page_nodes prefix later)))

-- One page and then another, as siblings.
abbrev pub joined_pages : Page → Page → Page
joined_pages nothing after = after
joined_pages (text t later) after = text t (joined_pages later after)
joined_pages (element name attributes content later) after = element name attributes content (joined_pages later after)
joined_pages (separator later) after = separator (joined_pages later after)
joined_pages (placeholder id later) after = placeholder id (joined_pages later after)
joined_pages (complete content later) after = complete content (joined_pages later after)
joined_pages (pending id fallback later) after = pending id fallback (joined_pages later after)
joined_pages (client id digest fallback later) after = client id digest fallback (joined_pages later after)

-- The sum of weights of the ids that stand in a page, at any depth: those of placeholders, of pending boundaries, and of
-- boundaries that are left to the client.
abbrev pub weight_or_none : (ℕ → ℕ) → Option ℕ → ℕ
weight_or_none weight None = 0
weight_or_none weight (Some id) = weight id

abbrev pub weight_of_ids : (placeholders boundaries failed : ℕ → ℕ) → Page → ℕ
weight_of_ids p b c nothing = 0
weight_of_ids p b c (text t later) = weight_of_ids p b c later
weight_of_ids p b c (element name attributes content later) = weight_of_ids p b c content + weight_of_ids p b c later
weight_of_ids p b c (separator later) = weight_of_ids p b c later
weight_of_ids p b c (placeholder id later) = p id + weight_of_ids p b c later
weight_of_ids p b c (complete content later) = weight_of_ids p b c content + weight_of_ids p b c later
weight_of_ids p b c (pending id fallback later) = b id + weight_of_ids p b c fallback + weight_of_ids p b c later
weight_of_ids p b c (client id digest fallback later) =
    weight_or_none c id + weight_of_ids p b c fallback + weight_of_ids p b c later

abbrev pub one_at : ℕ → ℕ → ℕ
one_at id other = if other == id then 1 else 0

abbrev pub zero_at : ℕ → ℕ
zero_at id = 0

-- How many placeholders have an id, how many pending boundaries, and how many that are left to the client.
abbrev pub placeholder_count : ℕ → Page → ℕ
placeholder_count id page = weight_of_ids (one_at id) zero_at zero_at page

abbrev pub pending_count : ℕ → Page → ℕ
pending_count id page = weight_of_ids zero_at (one_at id) zero_at page

abbrev pub client_count : ℕ → Page → ℕ
client_count id page = weight_of_ids zero_at zero_at (one_at id) page

-- An `id` that is reserved for the page's segments and boundaries: it begins with the prefix and `B:`, `S:` or `P:`.
abbrev pub is_reserved_id : List ℕ → Attr → Bool
is_reserved_id prefix a = bytes_eq a.name (codes "id") && is_reserved prefix (unwrap_or a.value [])

-- No element of the page has a reserved id or is a template: those of segments and boundaries alone do.
abbrev pub IsCleanPage : List ℕ → Page → Type 0
IsCleanPage prefix nothing = Unit {0}
IsCleanPage prefix (text t later) = IsCleanPage prefix later
IsCleanPage prefix (element name attributes content later) =
    (bytes_eq name (codes "template") ≡ false) × (list_any (is_reserved_id prefix) attributes ≡ false)
    × IsCleanPage prefix content × IsCleanPage prefix later
IsCleanPage prefix (separator later) = IsCleanPage prefix later
IsCleanPage prefix (placeholder id later) = IsCleanPage prefix later
IsCleanPage prefix (complete content later) = IsCleanPage prefix content × IsCleanPage prefix later
IsCleanPage prefix (pending id fallback later) = IsCleanPage prefix fallback × IsCleanPage prefix later
IsCleanPage prefix (client id digest fallback later) = IsCleanPage prefix fallback × IsCleanPage prefix later

-- No segment is still to come in the page.
abbrev pub HasNoPlaceholder : Page → Type 0
HasNoPlaceholder nothing = Unit {0}
HasNoPlaceholder (text t later) = HasNoPlaceholder later
HasNoPlaceholder (element name attributes content later) = HasNoPlaceholder content × HasNoPlaceholder later
HasNoPlaceholder (separator later) = HasNoPlaceholder later
HasNoPlaceholder (placeholder id later) = ⊥
HasNoPlaceholder (complete content later) = HasNoPlaceholder content × HasNoPlaceholder later
HasNoPlaceholder (pending id fallback later) = HasNoPlaceholder fallback × HasNoPlaceholder later
HasNoPlaceholder (client id digest fallback later) = HasNoPlaceholder fallback × HasNoPlaceholder later

-- No boundary that shows its content holds a placeholder, wherever it stands.
abbrev pub RevealsWholePage : Page → Type 0
RevealsWholePage nothing = Unit {0}
RevealsWholePage (text t later) = RevealsWholePage later
RevealsWholePage (element name attributes content later) = RevealsWholePage content × RevealsWholePage later
RevealsWholePage (separator later) = RevealsWholePage later
RevealsWholePage (placeholder id later) = RevealsWholePage later
RevealsWholePage (complete content later) = HasNoPlaceholder content × RevealsWholePage content × RevealsWholePage later
RevealsWholePage (pending id fallback later) = RevealsWholePage fallback × RevealsWholePage later
RevealsWholePage (client id digest fallback later) = RevealsWholePage fallback × RevealsWholePage later
