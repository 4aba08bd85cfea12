-- Positions that stand still: nothing of them has failed, and their document may be printed.
use Rattle.std.proofs.Common.{◌≡◌, ℕ, zero, suc, ◌-◌, Bool, true, false, not, ◌&&◌, ◌||◌, ◌==◌, List, [], ◌∷◌, ◌++◌, length, take, drop, map, is_some, nat_lt, unwrap_or, codes, Option, Some, None, refl, sym, ◌∙◌, ap, ap₂, subst, arith, append_assoc}
use Rattle.std.proofs.lemmas.List.{take-append-drop}
use Rattle.std.proofs.lemmas.Slice.Eq.{bytes_eq-Decides}
use Rattle.std.proofs.lemmas.Bool.Decides.{nat_tests}
use Rattle.std.proofs.lemmas.Str.{IsUtf8-from_is_utf8, is_utf8-from_IsUtf8}
use Rattle.std.specs.List.{list_all, list_any}
use Rattle.std.specs.Str.{IsUtf8, bytes_eq, is_utf8}
use Rattle.fizz_text.specs.declared.attribute.Attr.{Attr}
use Rattle.html_names.specs.Attributes.{is_reserved}
use Rattle.html_names.specs.Elements.{element_rows, void_flag}
use Rattle.html_names.specs.Names.{begins_with, is_letter, is_name_byte, is_plain_name}
use Rattle.html_read.specs.Names.{IsAttributeName, IsTagName}
use Rattle.html_read.specs.Tokens.{AreAttributes, HasValue}
use Rattle.dom_forest.specs.Forest.{Forest, tree}
use Rattle.dom_forest.specs.declared.document.DocNode.{DocNode}
use Rattle.dom_forest.specs.declared.document.DocNode.TheFolds.{fold-roll-DocNode}
use Rattle.dom_forest.specs.declared.document.DocNode.TheOpen.{Element as element_layer, Text as text_layer}
use Rattle.dom_forest.specs.declared.document.DocNode.TheVariants as doc
use Rattle.dom_forest.specs.declared.node.NewNode.TheVariants.{Element}
use Rattle.document_machine.specs.Documents.{most_open}
use Rattle.document_machine.specs.Plain.{IsPlain}
use Rattle.document_machine.specs.Printing.{MayHold, MayPrint}
use Rattle.document_machine.specs.Views.{is_left_out, is_segment_id}
use Rattle.page_laws.specs.PrintedDocuments.{IsPrintable, Standing, siblings_forest, standing_of, standing_step}
use Rattle.jsx_value.specs.Spots.{Label, nothing, text, element, array, boundary, wait, fail, Spots, none, spot, fails, own_fails, settled, settled_label}
use Rattle.settled_tree.specs.Final.{final_document, final_nodes}
use Rattle.settled_tree.specs.Forests.{node_spots, spots_in, spots_step}
use Rattle.settled_tree.specs.declared.forest.FNode.{FNode, roll-FNode, out-FNode}
use Rattle.settled_tree.specs.declared.forest.FNode.TheFolds.{fold-roll-FNode, map-FNode}
use Rattle.settled_tree.specs.declared.forest.FNode.TheOpen.{FNode-F}
use Rattle.settled_tree.specs.declared.forest.FNode.TheVariants as f
use Rattle.settled_tree.specs.declared.forest.FNode.TheViews.{roll-out-FNode}
use Rattle.fizz_cli.specs.StillPages.{is_none, is_own_id, is_still, is_still_attribute, is_still_label, is_still_text, is_still_value, may_hold}

-- tests

left : (a b : Bool) → a && b ≡ true → a ≡ true
left true b h = refl
left false b h = cc

right : (a b : Bool) → a && b ≡ true → b ≡ true
right true b h = h
right false b h = cc

never : false ≡ true → ⊥
never h = cc

no_and : (a b c : Bool) → not (a && b) ≡ true → (c ≡ true → b ≡ true) → a && c ≡ false
no_and false b c h leads = refl
no_and true b false h leads = refl
no_and true b true h leads = absurd (opposite b h (leads refl))
  where
    opposite : (b : Bool) → not b ≡ true → b ≡ true → ⊥
    opposite true n t = never n
    opposite false n t = never t

either_false : (a b c d : Bool) → a ≡ false → d ≡ false → a || (b && (c && d)) ≡ false
either_false a false c d p q = ap (λ x. x || false) p
either_false a true false d p q = ap (λ x. x || false) p
either_false a true true d p q = ap₂ (λ x y. x || y) p q

-- A node as it stands in a page may be printed where so many more elements may be open, and is none of the renderer's own.
record StandsAs (prefix : List ℕ) (room : ℕ) (s : Standing) : Type 0 where
  legal : (after : Bool) (later : Forest) → MayPrint later s.is_text room → MayPrint (s.before after later) after room
  own : (at_top after : Bool) (later : Forest) → IsPlain prefix at_top later → IsPlain prefix at_top (s.before after later)

abbrev AllStand : List ℕ → ℕ → List DocNode → Type 0
AllStand prefix room [] = Unit {0}
AllStand prefix room (n ∷ ns) = StandsAs prefix room (standing_of n) × AllStand prefix room ns

all-append : (prefix : List ℕ) (room : ℕ) (ns ms : List DocNode) → AllStand prefix room ns → AllStand prefix room ms → AllStand prefix room (ns ++ ms)
all-append prefix room [] ms a b = b
all-append prefix room (n ∷ ns) ms a b = (a.0, all-append prefix room ns ms a.1 b)

siblings_legal : (prefix : List ℕ) (room : ℕ) (ns : List DocNode) → AllStand prefix room ns → (after : Bool)
    → MayPrint (siblings_forest after (map standing_of ns)) after room
siblings_legal prefix room [] a after = tt
siblings_legal prefix room (n ∷ ns) a after =
    a.0.legal after (siblings_forest (standing_of n).is_text (map standing_of ns)) (siblings_legal prefix room ns a.1 (standing_of n).is_text)

siblings_own : (prefix : List ℕ) (room : ℕ) (ns : List DocNode) → AllStand prefix room ns → (at_top after : Bool)
    → IsPlain prefix at_top (siblings_forest after (map standing_of ns))
siblings_own prefix room [] a at_top after = tt
siblings_own prefix room (n ∷ ns) a at_top after =
    a.0.own at_top after (siblings_forest (standing_of n).is_text (map standing_of ns)) (siblings_own prefix room ns a.1 at_top (standing_of n).is_text)

-- texts

not_empty : (t : List ℕ) → is_still_text t ≡ true → t ≡ [] → ⊥
not_empty [] h e = never h
not_empty (b ∷ bs) h e = cc

text_stands : (prefix : List ℕ) (room : ℕ) (t : List ℕ) → is_still_text t ≡ true → StandsAs prefix room (standing_of (doc.Text t))
text_stands prefix room t h = subst (StandsAs prefix room) (sym (standing-text t)) (record { legal = legal; own = own })
  where
    standing-text : (t : List ℕ) → standing_of (doc.Text t) ≡ standing_step (text_layer t)
    standing-text t = ap standing_of (sym (doc.rolls-Text t)) ∙ fold-roll-DocNode Standing standing_step (text_layer t)

    legal : (after : Bool) (later : Forest) → MayPrint later true room → MayPrint ((standing_step (text_layer t)).before after later) after room
    legal true later m = (tt, (tt, not_empty t h, IsUtf8-from_is_utf8 t (right (not (length t == 0)) (is_utf8 t) h), refl, m))
    legal false later m = (tt, not_empty t h, IsUtf8-from_is_utf8 t (right (not (length t == 0)) (is_utf8 t) h), refl, m)

    own : (at_top after : Bool) (later : Forest) → IsPlain prefix at_top later → IsPlain prefix at_top ((standing_step (text_layer t)).before after later)
    own at_top true later p = p
    own at_top false later p = p

-- attributes

attribute_name : (name : List ℕ) → is_plain_name name ≡ true → IsAttributeName name
attribute_name [] h = never h
attribute_name (b ∷ bs) h = (left (is_letter b) (list_all is_name_byte bs) h, right (is_letter b) (list_all is_name_byte bs) h)

attribute_value : (prefix name : List ℕ) (value : Option (List ℕ)) → is_still_value prefix name value ≡ true → HasValue name value
attribute_value prefix name None h = absurd (never h)
attribute_value prefix name (Some value) h = IsUtf8-from_is_utf8 value (left (is_utf8 value) (not (is_own_id prefix name value)) h)

are_attributes : (prefix : List ℕ) (attributes : List Attr) → list_all (is_still_attribute prefix) attributes ≡ true → AreAttributes attributes
are_attributes prefix [] h = tt
are_attributes prefix (a ∷ more) h =
    let here : is_still_attribute prefix a ≡ true = left (is_still_attribute prefix a) (list_all (is_still_attribute prefix) more) h in
    let name_is : is_plain_name a.name ≡ true = left (is_plain_name a.name) (is_still_value prefix a.name a.value) here in
    let value_is : is_still_value prefix a.name a.value ≡ true = right (is_plain_name a.name) (is_still_value prefix a.name a.value) here in (
      (attribute_name a.name name_is, attribute_value prefix a.name a.value value_is),
      are_attributes prefix more (right (is_still_attribute prefix a) (list_all (is_still_attribute prefix) more) h),
    )

-- what is known of ids of the renderer's own form
abbrev pub OwnIds : Type 0
OwnIds = (prefix more : List ℕ) → is_reserved prefix (prefix ++ (codes "S:" ++ more)) ≡ true

is_reserved_segment : OwnIds → (prefix value : List ℕ) → begins_with (prefix ++ codes "S:") value ≡ true → is_reserved prefix value ≡ true
is_reserved_segment ids prefix value h =
    let p : List ℕ = prefix ++ codes "S:" in
    let more : List ℕ = drop (length p) value in
    let front : take (length p) value ≡ p = (bytes_eq-Decides (take (length p) value) p).0 h in
    let split : value ≡ prefix ++ (codes "S:" ++ more) =
    sym (take-append-drop (length p) value) ∙ (ap (λ (bs : List ℕ). bs ++ more) front ∙ append_assoc prefix (codes "S:") more) in
    subst (λ (bs : List ℕ). is_reserved prefix bs ≡ true) (sym split) (ids prefix more)

no_segment_value : OwnIds → (prefix name : List ℕ) (value : Option (List ℕ)) → is_still_value prefix name value ≡ true
    → bytes_eq name (codes "id") && begins_with (prefix ++ codes "S:") (unwrap_or value []) ≡ false
no_segment_value ids prefix name None h = absurd (never h)
no_segment_value ids prefix name (Some value) h =
    no_and (bytes_eq name (codes "id")) (is_reserved prefix value) (begins_with (prefix ++ codes "S:") value) (right (is_utf8 value) (not (is_own_id prefix name value)) h)
    (is_reserved_segment ids prefix value)

no_segment : OwnIds → (prefix : List ℕ) (attributes : List Attr) → list_all (is_still_attribute prefix) attributes ≡ true
    → list_any (is_segment_id prefix) attributes ≡ false
no_segment ids prefix [] h = refl
no_segment ids prefix (a ∷ more) h =
    ap₂ (λ (x y : Bool). x || y)
    (no_segment_value ids prefix a.name a.value (right (is_plain_name a.name) (is_still_value prefix a.name a.value)
    (left (is_still_attribute prefix a) (list_all (is_still_attribute prefix) more) h)))
    (no_segment ids prefix more (right (is_still_attribute prefix a) (list_all (is_still_attribute prefix) more) h))

-- elements

template_flag : void_flag (codes "template") ≡ None
unfolding element_rows
template_flag = refl

not_template : (name : List ℕ) (flag : Bool) → void_flag name ≡ Some flag → (b : Bool) → bytes_eq name (codes "template") ≡ b → b ≡ false
not_template name flag f false e = refl
not_template name flag f true e =
    absurd (clash (sym f ∙ (ap void_flag ((bytes_eq-Decides name (codes "template")).0 e) ∙ template_flag)))
  where
    clash : Some flag ≡ None → ⊥
    clash e = cc

-- a flag is there where something may be held
flag_of : (prefix : List ℕ) (flag : Option Bool) (e : Bool) (kids : ℕ → Bool) (room : ℕ) → may_hold flag e kids room ≡ true → (b : Bool) × (flag ≡ Some b)
flag_of prefix None e kids room h = absurd (never h)
flag_of prefix (Some b) e kids room h = (b, refl)

-- what an element holds stands where one more is open
module _ (prefix : List ℕ) (kids : Spots) (stand : (room : ℕ) → is_still prefix kids room ≡ true → AllStand prefix room (final_document (settled kids))) where
  held : (flag : Option Bool) (room : ℕ) → may_hold flag (is_none kids) (is_still prefix kids) room ≡ true
      → (r : ℕ) × AllStand prefix r (final_document (settled kids))
  held None room h = absurd (never h)
  held (Some true) room h = (0, none_stands kids h)
    where
      none_stands : (spots : Spots) → is_none spots ≡ true → AllStand prefix 0 (final_document (settled spots))
      none_stands none e = tt
      none_stands (spot label kids other later) e = absurd (never e)
  held (Some false) room h = (room - 1, stand (room - 1) (right (nat_lt 0 room) (is_still prefix kids (room - 1)) h))

  holds : (flag : Option Bool) (room : ℕ) → may_hold flag (is_none kids) (is_still prefix kids) room ≡ true
      → MayHold (unwrap_or flag false) room (siblings_forest false (map standing_of (final_document (settled kids))))
      (MayPrint (siblings_forest false (map standing_of (final_document (settled kids)))) false)
  holds None room h = absurd (never h)
  holds (Some true) room h = none_held kids h
    where
      none_held : (spots : Spots) → is_none spots ≡ true
          → MayHold true room (siblings_forest false (map standing_of (final_document (settled spots))))
          (MayPrint (siblings_forest false (map standing_of (final_document (settled kids)))) false)
      none_held none e = tt
      none_held (spot label kids other later) e = absurd (never e)
  holds (Some false) zero h = absurd (never h)
  holds (Some false) (suc room) h =
      let less : suc room - 1 ≡ room = omega arith in
      siblings_legal prefix room (final_document (settled kids))
      (stand room (subst (λ (r : ℕ). is_still prefix kids r ≡ true) less (right (nat_lt 0 (suc room)) (is_still prefix kids (suc room - 1)) h))) false

element_stands : OwnIds → (prefix : List ℕ) (room : ℕ) (name : List ℕ) (attributes : List Attr) (kids : Spots)
    → list_all (is_still_attribute prefix) attributes ≡ true → may_hold (void_flag name) (is_none kids) (is_still prefix kids) room ≡ true
    → ((r : ℕ) → is_still prefix kids r ≡ true → AllStand prefix r (final_document (settled kids)))
    → StandsAs prefix room (standing_of (doc.Element name attributes (final_document (settled kids))))
element_stands ids prefix room name attributes kids a h stand =
    subst (StandsAs prefix room) (sym (standing-element (final_document (settled kids)))) (record { legal = legal; own = own })
  where
    standing-element : (ns : List DocNode) → standing_of (doc.Element name attributes ns) ≡ standing_step (element_layer name attributes (map standing_of ns))
    standing-element ns =
        ap standing_of (sym (doc.rolls-Element name attributes ns)) ∙ fold-roll-DocNode Standing standing_step (element_layer name attributes ns)

    is_tag : IsTagName name
    is_tag = ap (λ (flag : Option Bool). is_some flag || bytes_eq name (codes "template")) (flag_of prefix (void_flag name) (is_none kids) (is_still prefix kids) room h).1

    left_in : (at_top : Bool) → is_left_out prefix at_top name attributes ≡ false
    left_in at_top =
        let flag = flag_of prefix (void_flag name) (is_none kids) (is_still prefix kids) room h in
        either_false (bytes_eq name (codes "template")) at_top _ (list_any (is_segment_id prefix) attributes)
        (not_template name flag.0 flag.1 (bytes_eq name (codes "template")) refl) (no_segment ids prefix attributes a)

    legal : (after : Bool) (later : Forest) → MayPrint later false room
        → MayPrint (tree 0 (Element name attributes) (siblings_forest false (map standing_of (final_document (settled kids)))) later) after room
    legal after later m = (is_tag, are_attributes prefix attributes a, holds prefix kids stand (void_flag name) room h, m)

    own : (at_top after : Bool) (later : Forest) → IsPlain prefix at_top later
        → IsPlain prefix at_top (tree 0 (Element name attributes) (siblings_forest false (map standing_of (final_document (settled kids)))) later)
    own at_top after later p =
        let inside = held prefix kids stand (void_flag name) room h in
        (left_in at_top, siblings_own prefix inside.0 (final_document (settled kids)) inside.1 false false, p)

-- positions

attributes_part : (prefix name : List ℕ) (attributes : List Attr) (kids : Spots) (room : ℕ)
    → is_still_label prefix (element name attributes) (is_none kids) (is_still prefix kids) room ≡ true
    → list_all (is_still_attribute prefix) attributes ≡ true
attributes_part prefix name attributes kids room h =
    left (list_all (is_still_attribute prefix) attributes) (may_hold (void_flag name) (is_none kids) (is_still prefix kids) room) h

kids_part : (prefix name : List ℕ) (attributes : List Attr) (kids : Spots) (room : ℕ)
    → is_still_label prefix (element name attributes) (is_none kids) (is_still prefix kids) room ≡ true
    → may_hold (void_flag name) (is_none kids) (is_still prefix kids) room ≡ true
kids_part prefix name attributes kids room h =
    right (list_all (is_still_attribute prefix) attributes) (may_hold (void_flag name) (is_none kids) (is_still prefix kids) room) h

first_part : (prefix : List ℕ) (label : Label) (kids other later : Spots) (room : ℕ) → is_still prefix (spot label kids other later) room ≡ true
    → is_still_label prefix label (is_none kids) (is_still prefix kids) room ≡ true
first_part prefix label kids other later room h =
    left (is_still_label prefix label (is_none kids) (is_still prefix kids) room) (is_still prefix later room) h

later_part : (prefix : List ℕ) (label : Label) (kids other later : Spots) (room : ℕ) → is_still prefix (spot label kids other later) room ≡ true
    → is_still prefix later room ≡ true
later_part prefix label kids other later room h =
    right (is_still_label prefix label (is_none kids) (is_still prefix kids) room) (is_still prefix later room) h

label_stands : OwnIds → (prefix : List ℕ) (label : Label) (kids : Spots) (failures : List (List ℕ)) (other : List DocNode) (room : ℕ)
    → is_still_label prefix label (is_none kids) (is_still prefix kids) room ≡ true
    → ((r : ℕ) → is_still prefix kids r ≡ true → AllStand prefix r (final_document (settled kids)))
    → AllStand prefix room (final_nodes (settled_label label) failures (final_document (settled kids)) other)
label_stands ids prefix nothing kids failures other room h stand = tt
label_stands ids prefix (text t) kids failures other room h stand = (text_stands prefix room t h, tt)
label_stands ids prefix (element name attributes) kids failures other room h stand = (
  element_stands ids prefix room name attributes kids (attributes_part prefix name attributes kids room h) (kids_part prefix name attributes kids room h) stand,
  tt,
)
label_stands ids prefix array kids failures other room h stand = stand room h
label_stands ids prefix boundary kids failures other room h stand = absurd (never h)
label_stands ids prefix (wait resource) kids failures other room h stand = absurd (never h)
label_stands ids prefix (fail digest) kids failures other room h stand = absurd (never h)

spots_stand : OwnIds → (prefix : List ℕ) (s : Spots) (room : ℕ) → is_still prefix s room ≡ true → AllStand prefix room (final_document (settled s))
spots_stand ids prefix none room h = tt
spots_stand ids prefix (spot label kids other later) room h =
    all-append prefix room (final_nodes (settled_label label) (fails (settled kids)) (final_document (settled kids)) (final_document (settled other)))
    (final_document (settled later))
    (label_stands ids prefix label kids (fails (settled kids)) (final_document (settled other)) room
    (first_part prefix label kids other later room h) (spots_stand ids prefix kids))
    (spots_stand ids prefix later room (later_part prefix label kids other later room h))

held_fails : (prefix : List ℕ) (kids : Spots) (flag : Option Bool) (room : ℕ) → may_hold flag (is_none kids) (is_still prefix kids) room ≡ true
    → ((r : ℕ) → is_still prefix kids r ≡ true → fails (settled kids) ≡ []) → fails (settled kids) ≡ []
held_fails prefix kids None room h sound = absurd (never h)
held_fails prefix none (Some true) room h sound = refl
held_fails prefix (spot label kids other later) (Some true) room h sound = absurd (never h)
held_fails prefix kids (Some false) room h sound = sound (room - 1) (right (nat_lt 0 room) (is_still prefix kids (room - 1)) h)

label_fails : (prefix : List ℕ) (label : Label) (kids : Spots) (other : List (List ℕ)) (room : ℕ)
    → is_still_label prefix label (is_none kids) (is_still prefix kids) room ≡ true
    → ((r : ℕ) → is_still prefix kids r ≡ true → fails (settled kids) ≡ [])
    → own_fails (settled_label label) (fails (settled kids)) other ≡ []
label_fails prefix nothing kids other room h sound = refl
label_fails prefix (text t) kids other room h sound = refl
label_fails prefix (element name attributes) kids other room h sound = held_fails prefix kids (void_flag name) room (kids_part prefix name attributes kids room h) sound
label_fails prefix array kids other room h sound = sound room h
label_fails prefix boundary kids other room h sound = absurd (never h)
label_fails prefix (wait resource) kids other room h sound = absurd (never h)
label_fails prefix (fail digest) kids other room h sound = absurd (never h)

pub still_fails : (prefix : List ℕ) (s : Spots) (room : ℕ) → is_still prefix s room ≡ true → fails (settled s) ≡ []
still_fails prefix none room h = refl
still_fails prefix (spot label kids other later) room h =
    ap₂ (λ (a b : List (List ℕ)). a ++ b)
    (label_fails prefix label kids (fails (settled other)) room (first_part prefix label kids other later room h) (still_fails prefix kids))
    (still_fails prefix later room (later_part prefix label kids other later room h))

pub still_prints : OwnIds → (prefix : List ℕ) (s : Spots) → is_still prefix s most_open ≡ true → IsPrintable prefix (final_document (settled s))
still_prints ids prefix s h =
    let all : AllStand prefix most_open (final_document (settled s)) = spots_stand ids prefix s most_open h in
    record {
      legal = siblings_legal prefix most_open (final_document (settled s)) all false;
      own = siblings_own prefix most_open (final_document (settled s)) all true false;
    }

-- nodes as positions

abbrev layer_spots : FNode-F FNode → Spots → Spots
layer_spots y = spots_step (map-FNode FNode (Spots → Spots) node_spots y)

spots-roll : (y : FNode-F FNode) → node_spots (roll-FNode y) ≡ layer_spots y
spots-roll y = fold-roll-FNode (Spots → Spots) spots_step y

and_true : (a : Bool) → a && true ≡ a
and_true true = refl
and_true false = refl

-- What is a position before later ones is still where it is and they are.
abbrev Leads : List ℕ → ℕ → (Spots → Spots) → Type 0
Leads prefix room before = (later : Spots) → is_still prefix (before later) room ≡ is_still prefix (before none) room && is_still prefix later room

spot_leads : (prefix : List ℕ) (room : ℕ) (label : Label) (kids other : Spots) → Leads prefix room (spot label kids other)
spot_leads prefix room label kids other later =
    ap (λ (a : Bool). a && is_still prefix later room) (sym (and_true (is_still_label prefix label (is_none kids) (is_still prefix kids) room)))

layer_leads : (prefix : List ℕ) (room : ℕ) (y : FNode-F FNode) → Leads prefix room (layer_spots y)
layer_leads prefix room (FNode-F.Element name attributes kids) = spot_leads prefix room (element name attributes) (spots_in kids) none
layer_leads prefix room (FNode-F.Text t) = spot_leads prefix room (text t) none none
layer_leads prefix room (FNode-F.Boundary path content fallback) = spot_leads prefix room boundary (spots_in content) (spots_in fallback)
layer_leads prefix room (FNode-F.Fail digest) = spot_leads prefix room (fail digest) none none
layer_leads prefix room (FNode-F.Wait resource path) = spot_leads prefix room (wait resource) none none

pub still-node : (prefix : List ℕ) (x : FNode) (xs : List FNode) (room : ℕ)
    → is_still prefix (spots_in (x ∷ xs)) room ≡ is_still prefix (node_spots x none) room && is_still prefix (spots_in xs) room
still-node prefix x xs room =
    subst (Leads prefix room) (sym (ap node_spots (sym (roll-out-FNode x)) ∙ spots-roll (out-FNode x))) (layer_leads prefix room (out-FNode x)) (spots_in xs)

-- one node
pub still-Element : (prefix name : List ℕ) (attributes : List Attr) (kids : List FNode) (room : ℕ)
    → is_still prefix (node_spots (f.Element name attributes kids) none) room
    ≡ list_all (is_still_attribute prefix) attributes && may_hold (void_flag name) (is_none (spots_in kids)) (is_still prefix (spots_in kids)) room
still-Element prefix name attributes kids room =
    ap (λ (n : FNode). is_still prefix (node_spots n none) room) (sym (f.rolls-Element name attributes kids))
    ∙ ap (λ (g : Spots → Spots). is_still prefix (g none) room) (spots-roll (FNode-F.Element name attributes kids))
    ∙ and_true (is_still_label prefix (element name attributes) (is_none (spots_in kids)) (is_still prefix (spots_in kids)) room)

pub still-Text : (prefix t : List ℕ) (room : ℕ) → is_still prefix (node_spots (f.Text t) none) room ≡ is_still_text t
still-Text prefix t room =
    ap (λ (n : FNode). is_still prefix (node_spots n none) room) (sym (f.rolls-Text t))
    ∙ ap (λ (g : Spots → Spots). is_still prefix (g none) room) (spots-roll (FNode-F.Text t))
    ∙ and_true (is_still_text t)

pub still-Boundary : (prefix path : List ℕ) (content fallback : List FNode) (room : ℕ)
    → is_still prefix (node_spots (f.Boundary path content fallback) none) room ≡ false
still-Boundary prefix path content fallback room =
    ap (λ (n : FNode). is_still prefix (node_spots n none) room) (sym (f.rolls-Boundary path content fallback))
    ∙ ap (λ (g : Spots → Spots). is_still prefix (g none) room) (spots-roll (FNode-F.Boundary path content fallback))

pub still-Fail : (prefix digest : List ℕ) (room : ℕ) → is_still prefix (node_spots (f.Fail digest) none) room ≡ false
still-Fail prefix digest room =
    ap (λ (n : FNode). is_still prefix (node_spots n none) room) (sym (f.rolls-Fail digest))
    ∙ ap (λ (g : Spots → Spots). is_still prefix (g none) room) (spots-roll (FNode-F.Fail digest))

pub still-Wait : (prefix resource path : List ℕ) (room : ℕ) → is_still prefix (node_spots (f.Wait resource path) none) room ≡ false
still-Wait prefix resource path room =
    ap (λ (n : FNode). is_still prefix (node_spots n none) room) (sym (f.rolls-Wait resource path))
    ∙ ap (λ (g : Spots → Spots). is_still prefix (g none) room) (spots-roll (FNode-F.Wait resource path))

-- what the code tests

pub most_open_is : 512 ≡ most_open
unfolding most_open
most_open_is = refl

pub some_length : {A : Type 0} (x : A) (xs : List A) → (length (x ∷ xs) == 0) ≡ false
some_length x xs = grind (arith, nat_tests)

layer_none : (y : FNode-F FNode) (later : Spots) → is_none (layer_spots y later) ≡ false
layer_none (FNode-F.Element name attributes kids) later = refl
layer_none (FNode-F.Text t) later = refl
layer_none (FNode-F.Boundary path content fallback) later = refl
layer_none (FNode-F.Fail digest) later = refl
layer_none (FNode-F.Wait resource path) later = refl

none_is : (kids : List FNode) → is_none (spots_in kids) ≡ (length kids == 0)
none_is [] = refl
none_is (x ∷ xs) =
    subst (λ (g : Spots → Spots). is_none (g (spots_in xs)) ≡ false) (sym (ap node_spots (sym (roll-out-FNode x)) ∙ spots-roll (out-FNode x)))
    (layer_none (out-FNode x) (spots_in xs))
    ∙ sym (some_length x xs)

pub still_text : (t bytes : List ℕ) (test : Bool) → bytes ≡ t → IsUtf8 bytes → test ≡ (length bytes == 0) → not test ≡ is_still_text t
still_text t bytes test same utf8 is =
    subst (λ (x : List ℕ). not test ≡ is_still_text x) same
    (ap not is ∙ (sym (and_true (not (length bytes == 0))) ∙ ap (λ (b : Bool). not (length bytes == 0) && b) (sym (is_utf8-from_IsUtf8 bytes utf8))))

pub still_value : (prefix name value bytes : List ℕ) (own : Bool) → bytes ≡ value → IsUtf8 bytes → own ≡ is_own_id prefix name bytes
    → not own ≡ is_still_value prefix name (Some value)
still_value prefix name value bytes own same utf8 is =
    subst (λ (x : List ℕ). not own ≡ is_still_value prefix name (Some x)) same
    (ap not is ∙ ap (λ (b : Bool). b && not (is_own_id prefix name bytes)) (sym (is_utf8-from_IsUtf8 bytes utf8)))

pub void_holds : (prefix name bytes : List ℕ) (kids : List FNode) (room : ℕ) (flag test : Bool) → bytes ≡ name → void_flag bytes ≡ Some flag
    → flag ≡ true → test ≡ (length kids == 0) → test ≡ may_hold (void_flag name) (is_none (spots_in kids)) (is_still prefix (spots_in kids)) room
void_holds prefix name bytes kids room flag test same void is length_is =
    length_is ∙ (sym (none_is kids) ∙ sym (ap (λ (o : Option Bool). may_hold o (is_none (spots_in kids)) (is_still prefix (spots_in kids)) room)
    (ap void_flag (sym same) ∙ (void ∙ ap Some is))))
