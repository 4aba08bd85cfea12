-- What the three instructions do to a document, after the inline instructions of React's server renderer. An element
-- that is still open is named by its id.
use Rattle.std.specs.Prelude.{◌≡◌, ℕ, Bool, true, false, ◌==◌, nat_lt, if◌then◌else◌, List, [], ◌∷◌, Option, Some, None, Result, Ok, Err}
use Rattle.std.specs.List.{list_any}
use Rattle.dom_forest.specs.Forest.{Forest, empty, tree, times, from, first_tree, content_of, previous_of}
use Rattle.dom_forest.specs.Edits.{DomState, with_change, without_node, part_of, inner_of, with_before, with_content, with_digest_at}
use Rattle.dom_forest.specs.Boundary.{end_of_boundary}
use Rattle.dom_forest.specs.Ids.{element_with}
use Rattle.dom_forest.specs.declared.node.Mark.TheVariants.{Complete, Pending, Client, End, Space}
use Rattle.dom_forest.specs.declared.node.NewNode.{NewNode}
use Rattle.dom_forest.specs.declared.node.NewNode.TheVariants.{Element, Text, Comment}
use Rattle.fizz_instructions.specs.Bodies.{boundary_id, segment_id, placeholder_id}
use Rattle.document_machine.specs.declared.edits.EditFault.{EditFault}
use Rattle.document_machine.specs.declared.edits.EditFault.TheVariants.{NoSuchId, NotBoundary, OutOfMemory}

-- The document after an instruction, or what the instruction misses.
abbrev pub Edited : Type 0
Edited = Result DomState EditFault

-- Why an edit was refused. Want of memory may always come.
abbrev pub IsEditCause : Edited → EditFault → Type 0
IsEditCause edited (NoSuchId id) = edited ≡ Err (NoSuchId id)
IsEditCause edited NotBoundary = edited ≡ Err NotBoundary
IsEditCause edited OutOfMemory = Unit {0}

-- The first element with the id, unless it is open: an open container or placeholder counts as not there.
abbrev pub unless_open : List ℕ → Option ℕ → Option ℕ
unless_open opened None = None
unless_open opened (Some node) = if list_any (λ n. n == node) opened then None else Some node

abbrev pub closed_with : List ℕ → List ℕ → Forest → Option ℕ
closed_with opened id forest = unless_open opened (element_with id forest)

-- The marker of a boundary that is pending or client-rendered, by its id.
abbrev pub waits : Option NewNode → Bool
waits (Some (Comment Pending)) = true
waits (Some (Comment Client)) = true
waits (Some (Comment Complete)) = false
waits (Some (Comment End)) = false
waits (Some (Comment Space)) = false
waits (Some (Text text)) = false
waits (Some (Element name attributes)) = false
waits None = false

abbrev pub waiting : Forest → Option ℕ → Option ℕ
waiting forest None = None
waiting forest (Some node) = if waits (content_of node forest) then Some node else None

-- the comment directly before a template, if it is such a marker
abbrev pub marker_of : ℕ → Forest → Option ℕ
marker_of template forest = waiting forest (previous_of template forest)

-- the siblings from a node on
abbrev pub from_sibling : ℕ → Forest → Forest
from_sibling id empty = empty
from_sibling id (tree i content kids later) = if i == id then tree i content kids later else from_sibling id later

-- The document without the siblings from one node up to another, which stays.
abbrev pub without_range : ℕ → ℕ → DomState → DomState
without_range first end dom =
    record dom { forest = with_change first (λ content kids later. from_sibling end later) dom.forest }

-- The children of a node that was taken out stand before another node.
abbrev pub with_children_before : ℕ → ℕ → DomState → DomState → DomState
with_children_before place container old dom = with_before place (inner_of (part_of container old)) dom

-- The content of a boundary comes into its place: its marker becomes `$`, what stands up to its end goes, and the
-- children of the container stand there.
abbrev pub with_content_revealed : ℕ → ℕ → ℕ → ℕ → DomState → DomState → DomState
with_content_revealed template marker end container old dom =
    with_children_before end container old (without_range template end (with_content marker (Comment Complete) dom))

abbrev pub reveal_at : ℕ → ℕ → DomState → DomState → Option ℕ → Option ℕ → Edited
reveal_at template container old dom None end = Err NotBoundary
reveal_at template container old dom (Some marker) None = Err NotBoundary
reveal_at template container old dom (Some marker) (Some end) = Ok (with_content_revealed template marker end container old dom)

-- Where the template is not there, the container alone is gone.
abbrev pub reveal : ℕ → DomState → DomState → Option ℕ → Edited
reveal container old dom None = Ok dom
reveal container old dom (Some template) =
    reveal_at template container old dom (marker_of template dom.forest) (end_of_boundary template dom.forest)

abbrev pub complete_from : List ℕ → List ℕ → DomState → Option ℕ → Edited
complete_from segment boundary dom None = Err (NoSuchId segment)
complete_from segment boundary dom (Some container) =
    let dom' = without_node container dom in
    reveal container dom dom' (element_with boundary dom'.forest)

-- `$RC`: the container goes first. Then the boundary's template is looked for.
abbrev pub complete_boundary : List ℕ → List ℕ → ℕ → ℕ → DomState → Edited
complete_boundary prefix opened boundary segment dom =
    complete_from (segment_id prefix segment) (boundary_id prefix boundary) dom (closed_with opened (segment_id prefix segment) dom.forest)

abbrev pub fill_at : List ℕ → ℕ → ℕ → DomState → Edited
fill_at id placeholder container dom =
    if nat_lt 0 (times placeholder (first_tree (from container dom.forest)))
    then Err (NoSuchId id)
    else Ok (without_node placeholder (with_children_before placeholder container dom (without_node container dom)))

abbrev pub fill_from : List ℕ → DomState → ℕ → Option ℕ → Edited
fill_from id dom container None = Err (NoSuchId id)
fill_from id dom container (Some placeholder) = fill_at id placeholder container dom

abbrev pub fill_with : List ℕ → List ℕ → List ℕ → DomState → Option ℕ → Edited
fill_with opened segment id dom None = Err (NoSuchId segment)
fill_with opened segment id dom (Some container) = fill_from id dom container (closed_with opened id dom.forest)

-- `$RS`: the container's children come before the placeholder, and both go. A placeholder that goes with the container
-- counts as not there.
abbrev pub fill_placeholder : List ℕ → List ℕ → ℕ → DomState → Edited
fill_placeholder prefix opened segment dom =
    fill_with opened (segment_id prefix segment) (placeholder_id prefix segment) dom (closed_with opened (segment_id prefix segment) dom.forest)

abbrev pub with_digest_unless_empty : ℕ → List ℕ → DomState → DomState
with_digest_unless_empty template [] dom = dom
with_digest_unless_empty template (b ∷ bs) dom = with_digest_at template (b ∷ bs) dom

abbrev pub client_render_at : ℕ → List ℕ → DomState → Option ℕ → Edited
client_render_at template digest dom None = Err NotBoundary
client_render_at template digest dom (Some marker) =
    Ok (with_digest_unless_empty template digest (with_content marker (Comment Client) dom))

abbrev pub client_render_from : List ℕ → DomState → Option ℕ → Edited
client_render_from digest dom None = Ok dom
client_render_from digest dom (Some template) = client_render_at template digest dom (marker_of template dom.forest)

-- `$RX`: the marker becomes `$!`, and a digest that is not empty goes to the template. Without the template nothing
-- happens.
abbrev pub client_render : List ℕ → ℕ → List ℕ → DomState → Edited
client_render prefix boundary digest dom = client_render_from digest dom (element_with (boundary_id prefix boundary) dom.forest)
