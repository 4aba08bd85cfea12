-- The parts of a view, as a walk goes over its document.
use Rattle.std.proofs.Common.{◌≡◌, ℕ, ◌+◌, ◌<◌, ◌≤◌, if◌then◌else◌, Bool, false, Option, Some, None, List, [], ◌∷◌, ◌++◌, reverse, refl, ap, ◌∙◌, sym, arith, append_assoc, append-nil}
use Rattle.std.proofs.lemmas.List.{reverse-append}
use Rattle.fizz_text.specs.declared.attribute.Attr.{Attr}
use Rattle.dom_forest.specs.Edits.{DomState, IsNumbered}
use Rattle.dom_forest.specs.Forest.{Forest, empty, tree, content_of, count, first_content, first_id, first_kids, first_later, first_of, from, kids_of, later_of}
use Rattle.dom_forest.specs.Seen.{number}
use Rattle.dom_forest.specs.declared.node.NewNode.{NewNode}
use Rattle.dom_forest.specs.declared.node.NewNode.TheVariants as node
use Rattle.dom_forest.specs.declared.node.NodeId.{NodeId}
use Rattle.document_machine.specs.declared.status.BoundaryStatus.{BoundaryStatus}
use Rattle.document_machine.specs.declared.view.ViewPart.{ViewPart}
use Rattle.document_machine.specs.declared.view.ViewPart.TheVariants as part
use Rattle.document_machine.specs.declared.viewing.Frame.{Frame}
use Rattle.document_machine.specs.declared.viewing.Frame.TheVariants.{Element, Boundary}
use Rattle.document_machine.specs.declared.viewing.Walk.{Walk}
use Rattle.document_machine.specs.Shown.{view_parts}
use Rattle.document_machine.specs.Views.{View, element, boundary, text, Levels, levels_at_end, is_left_out, joined_levels, levels_of, levels_at_boundary, siblings_of, with_first}
use Rattle.document_machine.specs.Viewing.{all_parts, all_parts_from, frame_turns, frames_turns, no_levels, nodes_from, parts_to_end, turn_at, turns, walk_inside, with_frame}

reverse_push : (frames : List Frame) (frame : Frame) → reverse (frames ++ frame ∷ []) ≡ frame ∷ reverse frames
reverse_push frames frame = reverse-append frames (frame ∷ [])

pub frames_turns-push : (forest : Forest) (frames : List Frame) (frame : Frame) → frames_turns forest (frames ++ frame ∷ []) ≡ frames_turns forest frames + frame_turns forest frame
frames_turns-push forest [] frame = omega arith
frames_turns-push forest (first ∷ rest) frame = omega (arith, frames_turns-push forest rest frame)

-- Siblings with a first one more.
view_parts-joined : (first : View) (rest : List View) (f : View → View) (front : List ViewPart) → ((v : View) (more : List ViewPart) → view_parts (f v) more ≡ front ++ view_parts v more)
    → ((v : View) (w : List View) → joined_levels (f v) w ≡ f (joined_levels v w)) → (more : List ViewPart)
    → view_parts (joined_levels (f first) rest) more ≡ front ++ view_parts (joined_levels first rest) more
view_parts-joined first rest f front h j more = ap (λ v. view_parts v more) (j first rest) ∙ h (joined_levels first rest) more

parts_to_end-first : (prefix : List ℕ) (forest : Forest) (frames : List Frame) (f : View → View) (front : List ViewPart) (levels : Levels)
    → ((v : View) (more : List ViewPart) → view_parts (f v) more ≡ front ++ view_parts v more) → ((v : View) (w : List View) → joined_levels (f v) w ≡ f (joined_levels v w))
    → parts_to_end prefix forest frames (with_first f levels) ≡ front ++ parts_to_end prefix forest frames levels
parts_to_end-first prefix forest [] f front levels h j = view_parts-joined levels.first levels.rest f front h j []
parts_to_end-first prefix forest (Element at_top later ∷ outer) f front levels h j = view_parts-joined levels.first levels.rest f front h j _
parts_to_end-first prefix forest (Boundary ∷ outer) f front levels h j = h levels.first _

text_joined : (t : List ℕ) (v : View) (w : List View) → joined_levels (text t v) w ≡ text t (joined_levels v w)
text_joined t v [] = refl
text_joined t v (next ∷ rest) = refl

element_joined : (n : List ℕ) (attrs : List Attr) (k v : View) (w : List View) → joined_levels (element n attrs k v) w ≡ element n attrs k (joined_levels v w)
element_joined n attrs k v [] = refl
element_joined n attrs k v (next ∷ rest) = refl

boundary_joined : (s : BoundaryStatus) (d : List ℕ) (k v : View) (w : List View) → joined_levels (boundary s d k v) w ≡ boundary s d k (joined_levels v w)
boundary_joined s d k v [] = refl
boundary_joined s d k v (next ∷ rest) = refl

-- A boundary is begun.
opened_parts : (prefix : List ℕ) (forest : Forest) (frames : List Frame) (s : BoundaryStatus) (d : List ℕ) (first : View) (rest : List View)
    → parts_to_end prefix forest frames (levels_at_boundary s d first rest) ≡ part.Boundary s d ∷ parts_to_end prefix forest (Boundary ∷ frames) (record { first = first; rest = rest })
opened_parts prefix forest [] s d first [] = refl
opened_parts prefix forest [] s d first (next ∷ rest) = ap (λ v. view_parts v []) (boundary_joined s d first next rest)
opened_parts prefix forest (Element at_top later ∷ outer) s d first [] = refl
opened_parts prefix forest (Element at_top later ∷ outer) s d first (next ∷ rest) =
    ap (λ v. view_parts v (part.EndOfElement ∷ parts_to_end prefix forest outer (levels_of prefix at_top (nodes_from later forest)))) (boundary_joined s d first next rest)
opened_parts prefix forest (Boundary ∷ outer) s d first [] = refl
opened_parts prefix forest (Boundary ∷ outer) s d first (next ∷ rest) = refl

pub opens_boundary : (prefix : List ℕ) (forest : Forest) (walk : Walk) (parts : List ViewPart) (frames : List Frame) (s : BoundaryStatus) (d : List ℕ) (levels : Levels)
    → parts ≡ walk.parts ++ part.Boundary s d ∷ [] → frames ≡ walk.frames ++ Boundary ∷ []
    → all_parts prefix forest (record { parts = parts; frames = frames; at_top = walk.at_top }) levels ≡ all_parts prefix forest walk (levels_at_boundary s d levels.first levels.rest)
opens_boundary prefix forest walk parts frames s d levels parts_are frames_are =
    ap (λ ps. ps ++ parts_to_end prefix forest (reverse frames) levels) parts_are
    ∙ ap (λ fs. (walk.parts ++ part.Boundary s d ∷ []) ++ parts_to_end prefix forest fs levels) (ap reverse frames_are ∙ reverse_push walk.frames Boundary)
    ∙ append_assoc walk.parts (part.Boundary s d ∷ []) (parts_to_end prefix forest (Boundary ∷ reverse walk.frames) levels)
    ∙ ap (λ ps. walk.parts ++ ps) (sym (opened_parts prefix forest (reverse walk.frames) s d levels.first levels.rest))

-- A `/$`.
pub ends_boundary : (prefix : List ℕ) (forest : Forest) (walk : Walk) (parts : List ViewPart) (frames : List Frame) (levels : Levels)
    → walk.frames ≡ frames ++ Boundary ∷ [] → parts ≡ walk.parts ++ part.EndOfBoundary ∷ []
    → all_parts prefix forest (record { parts = parts; frames = frames; at_top = walk.at_top }) levels ≡ all_parts prefix forest walk (levels_at_end levels)
ends_boundary prefix forest walk parts frames levels split parts_are =
    ap (λ ps. ps ++ parts_to_end prefix forest (reverse frames) levels) parts_are
    ∙ append_assoc walk.parts (part.EndOfBoundary ∷ []) (parts_to_end prefix forest (reverse frames) levels)
    ∙ ap (λ fs. walk.parts ++ parts_to_end prefix forest fs (levels_at_end levels)) (sym (ap reverse split ∙ reverse_push frames Boundary))

stray_parts : (prefix : List ℕ) (forest : Forest) (frames : List Frame) (levels : Levels) → ((outer : List Frame) → frames ≡ Boundary ∷ outer → ⊥)
    → parts_to_end prefix forest frames levels ≡ parts_to_end prefix forest frames (levels_at_end levels)
stray_parts prefix forest [] levels none = refl
stray_parts prefix forest (Element at_top later ∷ outer) levels none = refl
stray_parts prefix forest (Boundary ∷ outer) levels none = absurd (none outer refl)

pub stray_outside : (prefix : List ℕ) (forest : Forest) (walk : Walk) (frames : List Frame) (levels : Levels) → walk.frames ≡ [] → frames ≡ []
    → all_parts prefix forest (record walk { frames = frames }) levels ≡ all_parts prefix forest walk (levels_at_end levels)
stray_outside prefix forest walk frames levels none same =
    ap (λ fs. walk.parts ++ parts_to_end prefix forest (reverse fs) levels) same
    ∙ ap (λ fs. walk.parts ++ parts_to_end prefix forest (reverse fs) (levels_at_end levels)) (sym none)

pub stray_inside : (prefix : List ℕ) (forest : Forest) (walk : Walk) (frames rest : List Frame) (frame : Frame) (levels : Levels) → walk.frames ≡ rest ++ frame ∷ []
    → (frame ≡ Boundary → ⊥) → frames ≡ rest ++ frame ∷ []
    → all_parts prefix forest (record walk { frames = frames }) levels ≡ all_parts prefix forest walk (levels_at_end levels)
stray_inside prefix forest walk frames rest frame levels split other same =
    let order : reverse walk.frames ≡ frame ∷ reverse rest = ap reverse split ∙ reverse_push rest frame in
    ap (λ fs. walk.parts ++ parts_to_end prefix forest (reverse fs) levels) (same ∙ sym split)
    ∙ ap (λ ps. walk.parts ++ ps) (stray_parts prefix forest (reverse walk.frames) levels (λ outer is. other (first_is (sym order ∙ is)))) where
      first_is : {outer : List Frame} → frame ∷ reverse rest ≡ Boundary ∷ outer → frame ≡ Boundary
      first_is e = cc

-- Siblings end.
pub closes_element : (prefix : List ℕ) (forest : Forest) (walk : Walk) (parts : List ViewPart) (at_top : Bool) (later : Option NodeId) (frame : Frame)
    → frame ≡ Element at_top later → parts ≡ walk.parts ++ part.EndOfElement ∷ []
    → all_parts_from prefix forest (record { parts = parts; frames = walk.frames; at_top = at_top }) later ≡ all_parts prefix forest (with_frame frame walk) no_levels
closes_element prefix forest walk parts at_top later frame is parts_are =
    let rest : List ViewPart = parts_to_end prefix forest (reverse walk.frames) (levels_of prefix at_top (nodes_from later forest)) in
    ap (λ ps. ps ++ rest) parts_are ∙ append_assoc walk.parts (part.EndOfElement ∷ []) rest
    ∙ ap (λ fs. walk.parts ++ parts_to_end prefix forest fs no_levels) (sym (reverse_push walk.frames (Element at_top later)))
    ∙ ap (λ f. all_parts prefix forest (with_frame f walk) no_levels) (sym is)

pub closes_boundary : (prefix : List ℕ) (forest : Forest) (walk : Walk) (parts : List ViewPart) (frame : Frame) → frame ≡ Boundary → parts ≡ walk.parts ++ part.EndOfBoundary ∷ []
    → all_parts_from prefix forest (record walk { parts = parts }) None ≡ all_parts prefix forest (with_frame frame walk) no_levels
closes_boundary prefix forest walk parts frame is parts_are =
    let rest : List ViewPart = parts_to_end prefix forest (reverse walk.frames) no_levels in
    ap (λ ps. ps ++ rest) parts_are ∙ append_assoc walk.parts (part.EndOfBoundary ∷ []) rest
    ∙ ap (λ fs. walk.parts ++ parts_to_end prefix forest fs no_levels) (sym (reverse_push walk.frames Boundary))
    ∙ ap (λ f. all_parts prefix forest (with_frame f walk) no_levels) (sym is)

pub ends_siblings : (prefix : List ℕ) (forest : Forest) (walk : Walk) (frames : List Frame) (frame : Frame) (here : Option NodeId) → here ≡ None → walk.frames ≡ frames ++ frame ∷ []
    → all_parts prefix forest (with_frame frame (record walk { frames = frames })) no_levels ≡ all_parts_from prefix forest walk here
ends_siblings prefix forest walk frames frame here none split =
    ap (λ fs. walk.parts ++ parts_to_end prefix forest (reverse fs) no_levels) (sym split) ∙ ap (all_parts_from prefix forest walk) (sym none)

pub turns-end : (forest : Forest) (walk : Walk) (frames : List Frame) (frame : Frame) (here : Option NodeId) → here ≡ None → walk.frames ≡ frames ++ frame ∷ []
    → turns forest walk here ≡ frames_turns forest frames + frame_turns forest frame
turns-end forest walk frames frame here none split =
    rw none (omega (arith, ap (frames_turns forest) split, frames_turns-push forest frames frame))

-- From the first child on stand the children.
none_first : (forest : Forest) → None ≡ first_id forest → empty ≡ forest
none_first empty none = refl
none_first (tree i content kids later) none = cc

pub nodes_from-first : (dom : DomState) (parent : Option NodeId) (child : Option NodeId) → IsNumbered dom
    → ((d : DomState) → IsNumbered d → (above : Option NodeId) (node : ℕ) → first_of above d.forest ≡ Some node → from node d.forest ≡ kids_of above d.forest)
    → number child ≡ first_of parent dom.forest → nodes_from child dom.forest ≡ kids_of parent dom.forest
nodes_from-first dom parent None numbered walk first = none_first (kids_of parent dom.forest) first
nodes_from-first dom parent (Some child) numbered walk first = walk dom numbered parent child.0 (sym first)

-- The first of siblings is an element that is not left out, or a text.
levels-element : (prefix : List ℕ) (at_top : Bool) (forest : Forest) (name : List ℕ) (attributes : List Attr) → Some (node.Element name attributes) ≡ first_content forest
    → is_left_out prefix at_top name attributes ≡ false
    → levels_of prefix at_top forest
    ≡ with_first (element name attributes (siblings_of (levels_of prefix false (first_kids forest)))) (levels_of prefix at_top (first_later forest))
levels-element prefix at_top empty name attributes content stays = cc
levels-element prefix at_top (tree i content kids later) name attributes is stays =
    let same : content ≡ node.Element name attributes = cc in
    let shown = with_first (element name attributes (siblings_of (levels_of prefix false kids))) (levels_of prefix at_top later) in
    ap (λ c. levels_of prefix at_top (tree i c kids later)) same ∙ ap (λ (out : Bool). if out then levels_of prefix at_top later else shown) stays

levels-text : (prefix : List ℕ) (at_top : Bool) (forest : Forest) (t : List ℕ) → Some (node.Text t) ≡ first_content forest
    → levels_of prefix at_top forest ≡ with_first (text t) (levels_of prefix at_top (first_later forest))
levels-text prefix at_top empty t content = cc
levels-text prefix at_top (tree i content kids later) t is =
    let same : content ≡ node.Text t = cc in
    ap (λ c. levels_of prefix at_top (tree i c kids later)) same

count-first : (forest : Forest) (content : NewNode) → Some content ≡ first_content forest → count forest ≡ 1 + count (first_kids forest) + count (first_later forest)
count-first empty content is = cc
count-first (tree i c kids later) content is = refl

-- The walk goes into an element.
pub passes_element : (prefix : List ℕ) (forest : Forest) (walk after : Walk) (here : NodeId) (first later : Option NodeId) (name : List ℕ) (attributes : List Attr)
    → Some (node.Element name attributes) ≡ content_of here.0 forest → is_left_out prefix walk.at_top name attributes ≡ false
    → nodes_from later forest ≡ later_of here.0 forest → nodes_from first forest ≡ kids_of (Some here) forest
    → after ≡ walk_inside (Element walk.at_top later) (part.Element name attributes) false walk
    → all_parts_from prefix forest after first ≡ all_parts_from prefix forest walk (Some here)
passes_element prefix forest walk after here first later name attributes content stays later_is first_is is =
    let outer : List Frame = reverse walk.frames in
    let opening : ViewPart = part.Element name attributes in
    let inner : Levels = levels_of prefix false (kids_of (Some here) forest) in
    let rest : Levels = levels_of prefix walk.at_top (nodes_from later forest) in
    let inside : List ViewPart = parts_to_end prefix forest (Element walk.at_top later ∷ outer) inner in
    ap (λ w. all_parts_from prefix forest w first) is
    ∙ ap (λ f. (walk.parts ++ opening ∷ []) ++ parts_to_end prefix forest (reverse (walk.frames ++ Element walk.at_top later ∷ [])) (levels_of prefix false f)) first_is
    ∙ ap (λ fs. (walk.parts ++ opening ∷ []) ++ parts_to_end prefix forest fs inner) (reverse_push walk.frames (Element walk.at_top later))
    ∙ append_assoc walk.parts (opening ∷ []) inside
    ∙ ap (λ ps. walk.parts ++ ps) (element_to_end outer (siblings_of inner) rest)
    ∙ ap (λ f. walk.parts ++ parts_to_end prefix forest outer (with_first (element name attributes (siblings_of inner)) (levels_of prefix walk.at_top f))) later_is
    ∙ ap (λ l. walk.parts ++ parts_to_end prefix forest outer l) (sym (levels-element prefix walk.at_top (from here.0 forest) name attributes content stays)) where
      element_to_end : (outer : List Frame) (k : View) (rest : Levels)
          → part.Element name attributes ∷ view_parts k (part.EndOfElement ∷ parts_to_end prefix forest outer rest) ≡ parts_to_end prefix forest outer (with_first (element name attributes k) rest)
      element_to_end [] k rest = ap (λ v. view_parts v []) (sym (element_joined name attributes k rest.first rest.rest))
      element_to_end (Element top next ∷ more) k rest =
          ap (λ v. view_parts v (part.EndOfElement ∷ parts_to_end prefix forest more (levels_of prefix top (nodes_from next forest)))) (sym (element_joined name attributes k rest.first rest.rest))
      element_to_end (Boundary ∷ more) k rest = refl

turn_at-le : (here : Option NodeId) → turn_at here ≤ 1
turn_at-le None = omega arith
turn_at-le (Some here) = omega arith

pub turns-element : (forest : Forest) (walk after : Walk) (here : NodeId) (first later : Option NodeId) (name : List ℕ) (attributes : List Attr)
    → Some (node.Element name attributes) ≡ content_of here.0 forest → nodes_from later forest ≡ later_of here.0 forest → nodes_from first forest ≡ kids_of (Some here) forest
    → after ≡ walk_inside (Element walk.at_top later) (part.Element name attributes) false walk
    → turns forest after first < turns forest walk (Some here)
turns-element forest walk after here first later name attributes content later_is first_is is =
    rw is (omega (
      arith,
      frames_turns-push forest walk.frames (Element walk.at_top later),
      turn_at-le first,
      count-first (from here.0 forest) (node.Element name attributes) content,
      ap count later_is,
      ap count first_is,
    ))

-- The walk goes past a text.
pub passes_text : (prefix : List ℕ) (forest : Forest) (walk : Walk) (parts : List ViewPart) (here : NodeId) (later : Option NodeId) (t : List ℕ)
    → Some (node.Text t) ≡ content_of here.0 forest → nodes_from later forest ≡ later_of here.0 forest → parts ≡ walk.parts ++ part.Text t ∷ []
    → all_parts_from prefix forest (record walk { parts = parts }) later ≡ all_parts_from prefix forest walk (Some here)
passes_text prefix forest walk parts here later t content later_is is =
    let outer : List Frame = reverse walk.frames in
    let rest : Levels = levels_of prefix walk.at_top (nodes_from later forest) in
    ap (λ ps. ps ++ parts_to_end prefix forest outer rest) is
    ∙ append_assoc walk.parts (part.Text t ∷ []) (parts_to_end prefix forest outer rest)
    ∙ ap (λ ps. walk.parts ++ ps) (sym (parts_to_end-first prefix forest outer (text t) (part.Text t ∷ []) rest (λ v more. refl) (text_joined t)))
    ∙ ap (λ f. walk.parts ++ parts_to_end prefix forest outer (with_first (text t) (levels_of prefix walk.at_top f))) later_is
    ∙ ap (λ l. walk.parts ++ parts_to_end prefix forest outer l) (sym (levels-text prefix walk.at_top (from here.0 forest) t content))

-- Where nothing is open and nothing follows, the parts are all.
pub ends_walk : (prefix : List ℕ) (forest : Forest) (walk : Walk) (here : Option NodeId) (all : List ViewPart) → here ≡ None → walk.frames ≡ []
    → all_parts_from prefix forest walk here ≡ all → walk.parts ≡ all
ends_walk prefix forest walk here all none closed is =
    sym (append-nil walk.parts)
    ∙ ap (λ fs. walk.parts ++ parts_to_end prefix forest (reverse fs) no_levels) (sym closed)
    ∙ ap (all_parts_from prefix forest walk) (sym none) ∙ is
