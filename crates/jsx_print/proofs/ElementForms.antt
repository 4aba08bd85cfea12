-- Printed elements, attributes and children as productions.
use Rattle.std.proofs.Common.{◌≡◌, ℕ, ◌+◌, Bool, true, false, nat_le, if◌then◌else◌, List, [], ◌∷◌, ◌++◌, map, refl, sym, ap, subst, ◌∙◌, inl, inr, ⊎_elim, append-nil, append_assoc}
use Rattle.std.specs.List.{flat_map}
use Rattle.std.proofs.lemmas.Bool.{cases_Bool, leb-true}
use Rattle.std.proofs.lemmas.Grind.{flat_map-append}
use Rattle.std.proofs.lemmas.List.{map-append}
use Rattle.jsx_lex.specs.declared.word.Word.{Word}
use Rattle.jsx_lex.specs.declared.word.Word.TheVariants as w
use Rattle.jsx_lex.specs.declared.word.Punctuator.TheVariants as p
use Rattle.jsx_syntax.specs.declared.name.Name.{Name}
use Rattle.jsx_syntax.specs.declared.name.Entry.{Entry}
use Rattle.jsx_syntax.specs.declared.expr.Expr.{Expr}
use Rattle.jsx_syntax.specs.declared.node.Node.{Node}
use Rattle.jsx_syntax.specs.declared.node.Node.TheVariants as n
use Rattle.jsx_syntax.specs.Trees.{node_of, other, is_suspense, is_component_name, entry, element_of}
use Rattle.html_names.specs.Elements.{void_flag}
use Rattle.jsx_syntax.specs.Words.{name_word, takes_children, is_fallback, is_not_void}
use Rattle.jsx_syntax.specs.Grammar.{Sort, Syntax, spell, tree, Fits, HasRoom}
use Rattle.jsx_syntax.specs.Grammar as g
use Rattle.jsx_print.specs.Sound.{IsTagName}
use Rattle.jsx_print.specs.Printing.{Printed, so_tight, keyword, in_braces, attribute_words, kid_words, element_words, printed, printed_node}
use Rattle.jsx_print.specs.Seen.{printed_entry}
use Rattle.jsx_print.proofs.Forms.{Spells, At, Prints, whole_good}
use Rattle.jsx_print.proofs.NodeForms.{Part, value_part, NodeAt, PartPrints, Whole, as_loose, printed-Value, printed-Host, printed-Call, printed-Fragment, printed-Suspense, ElementPrints}

-- Attributes. The value stands in braces.

abbrev pub Attribute : Bool → Entry Node → ℕ → Type 0
Attribute b x o = Spells (g.attribute b) (λ y. y) x (attribute_words (printed_entry x)) o

braces_spelled : (inner : List Word) (c : List Word → List Word) → ((more : List Word) → c more ≡ inner ++ more) → (more : List Word)
    → w.Sign p.OpenBrace ∷ c (w.Sign p.CloseBrace ∷ more) ≡ in_braces inner ++ more
braces_spelled inner c spelled more =
    ap (λ (ws : List Word). w.Sign p.OpenBrace ∷ ws) (spelled (w.Sign p.CloseBrace ∷ more) ∙ sym (append_assoc inner (w.Sign p.CloseBrace ∷ []) more))

pub value_attribute : (b : Bool) (name : Name) (x : Expr) (o : ℕ) → IsTagName name.text → HasRoom o → Prints x 0 (o + 1) → Attribute b (entry name (n.Value x)) o
value_attribute b name x o named room good =
    let a : At 0 x (printed x).words (o + 1) = whole_good (printed x) x 0 (o + 1) good in
    subst (λ (q : Printed). Spells (g.attribute b) (λ y. y) (entry name (n.Value x)) (name_word name ∷ w.Sign p.Assign ∷ in_braces q.words) o) (sym (printed-Value x))
    (record {
      syntax = g.braced name a.syntax;
      fits = (room, a.fits);
      sound = (named, a.sound);
      spelled = λ more. ap (λ (ws : List Word). name_word name ∷ w.Sign p.Assign ∷ ws) (braces_spelled (printed x).words (spell g.expression a.syntax) a.spelled more);
      is = ap (λ (y : Expr). entry name (n.Value y)) a.is;
    })

pub node_attribute : (name : Name) (x : Part) (o : ℕ) → IsTagName name.text → is_fallback name.text ≡ true → HasRoom o → Whole x (o + 1) → Attribute true (entry name (node_of x)) o
node_attribute name x o named fallback room a = record {
  syntax = g.fallback name a.syntax;
  fits = (fallback, room, a.fits);
  sound = (named, a.sound);
  spelled = λ more. ap (λ (ws : List Word). name_word name ∷ w.Sign p.Assign ∷ ws)
      (braces_spelled (printed_node (node_of x)).words (spell g.node a.syntax) a.spelled more);
  is = ap (λ (y : Node). entry name y) a.is;
}

abbrev pub Attributes : Bool → List (Entry Node) → ℕ → Type 0
Attributes b xs o = Spells (g.attributes b) (λ ys. ys) xs (flat_map attribute_words (map printed_entry xs)) o

pub no_attributes : (b : Bool) (o : ℕ) → Attributes b [] o
no_attributes b o = record { syntax = g.no_attribute; fits = tt; sound = tt; spelled = λ more. refl; is = refl }

pub one_attribute : (b : Bool) (xs : List (Entry Node)) (x : Entry Node) (o : ℕ) → Attributes b xs o → Attribute b x o → Attributes b (xs ++ x ∷ []) o
one_attribute b xs x o c a =
    let front : List Word = flat_map attribute_words (map printed_entry xs) in
    let last : List Word = attribute_words (printed_entry x) in
    let joined : flat_map attribute_words (map printed_entry (xs ++ x ∷ [])) ≡ front ++ last =
    ap (flat_map attribute_words) (map-append printed_entry xs (x ∷ []))
    ∙ (flat_map-append attribute_words (map printed_entry xs) (printed_entry x ∷ []) ∙ ap (λ (ws : List Word). front ++ ws) (append-nil last)) in
    record {
      syntax = g.next_attribute c.syntax a.syntax;
      fits = (c.fits, a.fits);
      sound = (c.sound, a.sound);
      spelled = λ more. c.spelled (spell (g.attribute b) a.syntax more)
          ∙ (ap (λ (ws : List Word). front ++ ws) (a.spelled more) ∙ (sym (append_assoc front last more) ∙ ap (λ (ws : List Word). ws ++ more) (sym joined)));
      is = ap (λ (ys : List (Entry Node)). ys ++ tree (g.attribute b) a.syntax ∷ []) c.is ∙ ap (λ (y : Entry Node). xs ++ y ∷ []) a.is;
    }

-- Children.

abbrev pub Kid : Node → ℕ → Type 0
Kid x o = Spells g.child (λ ys. ys) (x ∷ []) (kid_words (printed_node x)) o

braces_kid : (x : Part) (o : ℕ) → HasRoom o → Whole x (o + 1) → Spells g.child (λ ys. ys) (node_of x ∷ []) (in_braces (printed_node (node_of x)).words) o
braces_kid x o room a = record {
  syntax = g.braces a.syntax;
  fits = (room, a.fits);
  sound = a.sound;
  spelled = braces_spelled (printed_node (node_of x)).words (spell g.node a.syntax) a.spelled;
  is = ap (λ (y : Node). y ∷ []) a.is;
}

abbrev kid_by : Bool → List Word → List Word
kid_by b words = if b then words else in_braces words

pub element_kid : (x : Node) (o : ℕ) → ElementPrints x o → Kid x o
element_kid x o a =
    subst (λ (b : Bool). Spells g.child (λ ys. ys) (x ∷ []) (kid_by b (printed_node x).words) o) (sym (ap (nat_le 4) a.tight))
    (record {
      syntax = g.element_child a.spells.syntax;
      fits = a.spells.fits;
      sound = a.spells.sound;
      spelled = a.spells.spelled;
      is = ap (λ (y : Node). y ∷ []) a.spells.is;
    })

value_kid : (c : Syntax g.expression) (o : ℕ) → HasRoom o → Whole (value_part c) (o + 1) → Kid (node_of (value_part c)) o
value_kid c o room whole =
    let x : Expr = tree g.expression c in
    subst (λ (q : Printed). Spells g.child (λ ys. ys) (n.Value x ∷ []) (kid_words q) o) (sym (printed-Value x))
    (subst (λ (q : Printed). Spells g.child (λ ys. ys) (n.Value x ∷ []) (in_braces q.words) o) (printed-Value x)
    (braces_kid (value_part c) o room whole))

node_kid : (x : Node) (o : ℕ) → HasRoom o → NodeAt (printed_node x).tightness x (printed_node x).words o → Whole (other x) (o + 1) → Kid x o
node_kid x o room bare whole =
    ⊎_elim
    (λ fit.
    let a : NodeAt 4 x (printed_node x).words o = as_loose (printed_node x).tightness 4 (leb-true 4 (printed_node x).tightness fit) x (printed_node x).words o bare in
    subst (λ (b : Bool). Spells g.child (λ ys. ys) (x ∷ []) (kid_by b (printed_node x).words) o) (sym fit)
    (record { syntax = g.element_child a.syntax; fits = a.fits; sound = a.sound; spelled = a.spelled; is = ap (λ (y : Node). y ∷ []) a.is }))
    (λ looser. subst (λ (b : Bool). Spells g.child (λ ys. ys) (x ∷ []) (kid_by b (printed_node x).words) o) (sym looser)
    (braces_kid (other x) o room whole))
    (cases_Bool (nat_le 4 (printed_node x).tightness))

pub part_kid : (x : Part) (o : ℕ) → HasRoom o → PartPrints 0 0 x o → Whole x (o + 1) → Kid (node_of x) o
part_kid x o room (inl v) whole =
    subst (λ (y : Part). Kid (node_of y) o) (sym v.is) (value_kid v.syntax o room (subst (λ (y : Part). Whole y (o + 1)) v.is whole))
part_kid x o room (inr v) whole =
    subst (λ (y : Part). Kid (node_of y) o) (sym v.is) (node_kid v.node o room v.good.bare (subst (λ (y : Part). Whole y (o + 1)) v.is whole))

-- What a child stands for: nothing or a node.
abbrev pub Kids : List Node → ℕ → Type 0
Kids [] o = Unit {0}
Kids (x ∷ []) o = Kid x o
Kids (x ∷ y ∷ more) o = ⊥

abbrev pub Children : List Node → ℕ → Type 0
Children xs o = Spells g.children (λ ys. ys) xs (flat_map kid_words (map printed_node xs)) o

pub no_children : (o : ℕ) → Children [] o
no_children o = record { syntax = g.no_child; fits = tt; sound = tt; spelled = λ more. refl; is = refl }

pub one_child : (xs ys : List Node) (o : ℕ) → Children xs o → Kids ys o → Children (xs ++ ys) o
one_child xs [] o c a = subst (λ (zs : List Node). Children zs o) (sym (append-nil xs)) c
one_child xs (y ∷ []) o c a =
    let front : List Word = flat_map kid_words (map printed_node xs) in
    let last : List Word = kid_words (printed_node y) in
    let joined : flat_map kid_words (map printed_node (xs ++ y ∷ [])) ≡ front ++ last =
    ap (flat_map kid_words) (map-append printed_node xs (y ∷ []))
    ∙ (flat_map-append kid_words (map printed_node xs) (printed_node y ∷ []) ∙ ap (λ (ws : List Word). front ++ ws) (append-nil last)) in
    record {
      syntax = g.next_child c.syntax a.syntax;
      fits = (c.fits, a.fits);
      sound = (c.sound, a.sound);
      spelled = λ more. c.spelled (spell g.child a.syntax more)
          ∙ (ap (λ (ws : List Word). front ++ ws) (a.spelled more) ∙ (sym (append_assoc front last more) ∙ ap (λ (ws : List Word). ws ++ more) (sym joined)));
      is = ap (λ (zs : List Node). zs ++ tree g.child a.syntax) c.is ∙ ap (λ (zs : List Node). xs ++ zs) a.is;
    }
one_child xs (y ∷ z ∷ more) o c a = absurd a

-- Elements.

-- An element has children only where it takes some.
abbrev Takes : Name → List Node → Type 0
Takes name kids = takes_children name.text ≡ false → kids ≡ []

tested : (c x v : Bool) → c ≡ true → x ≡ false → (if c then x else v) ≡ false
tested c x v e f = rw (e, f) refl

abbrev element_tight : Name → List (Entry Node) → List Node → Printed
element_tight name props kids = so_tight 4 (element_words name (map printed_entry props) (map printed_node kids))

printed_call : (name : Name) (props : List (Entry Node)) (kids : List Node) → Takes name kids → is_suspense name.text ≡ false → is_component_name name.text ≡ true
    → printed_node (n.Call name props) ≡ element_tight name props kids
printed_call name props kids takes plain component =
    printed-Call name props
    ∙ ap (element_tight name props)
    (sym (takes (tested (is_component_name name.text) (is_suspense name.text) (is_not_void (void_flag name.text)) component plain)))

printed_named : (name : Name) (props : List (Entry Node)) (kids : List Node) → Takes name kids → is_suspense name.text ≡ false
    → (b : Bool) → is_component_name name.text ≡ b → printed_node (if b then n.Call name props else n.Host name props kids) ≡ element_tight name props kids
printed_named name props kids takes plain true component = printed_call name props kids takes plain component
printed_named name props kids takes plain false component = printed-Host name props kids

printed_tested : (name : Name) (props : List (Entry Node)) (kids : List Node) → Takes name kids → (b : Bool) → is_suspense name.text ≡ b
    → printed_node (if b then n.Suspense name props kids else (if is_component_name name.text then n.Call name props else n.Host name props kids))
    ≡ element_tight name props kids
printed_tested name props kids takes true suspense = printed-Suspense name props kids
printed_tested name props kids takes false plain = printed_named name props kids takes plain (is_component_name name.text) refl

printed_element : (name : Name) (props : List (Entry Node)) (kids : List Node) → Takes name kids → printed_node (element_of name props kids) ≡ element_tight name props kids
printed_element name props kids takes = printed_tested name props kids takes (is_suspense name.text) refl

element_syntax : (name : Name) (props : List (Entry Node)) (kids : List Node) (o : ℕ) → IsTagName name.text → Takes name kids → HasRoom o
    → Attributes (is_suspense name.text) props (o + 1) → Children kids (o + 1)
    → Spells g.element (λ y. y) (element_of name props kids) (element_words name (map printed_entry props) (map printed_node kids)) o
element_syntax name props [] o named takes room a c =
    let inner : List Word = flat_map attribute_words (map printed_entry props) in
    record {
      syntax = g.closed name a.syntax;
      fits = (room, a.fits);
      sound = (named, a.sound);
      spelled = λ more. ap (λ (ws : List Word). w.Sign p.Less ∷ name_word name ∷ ws)
          (a.spelled (w.Sign p.SlashGreater ∷ more) ∙ sym (append_assoc inner (w.Sign p.SlashGreater ∷ []) more));
      is = ap (λ (ps : List (Entry Node)). element_of name ps []) a.is;
    }
element_syntax name props (k ∷ ks) o named takes room a c =
    let inner : List Word = flat_map attribute_words (map printed_entry props) in
    let kids : List Word = flat_map kid_words (map printed_node (k ∷ ks)) in
    let end : List Word = w.Sign p.LessSlash ∷ keyword name.text ∷ w.Sign p.Greater ∷ [] in
    record {
      syntax = g.paired name a.syntax c.syntax 0;
      fits = (room, a.fits, c.fits, λ lacks. c.is ∙ takes lacks);
      sound = (named, a.sound, c.sound);
      spelled = λ more. ap (λ (ws : List Word). w.Sign p.Less ∷ name_word name ∷ ws)
          (a.spelled (w.Sign p.Greater ∷ spell g.children c.syntax (w.Sign p.LessSlash ∷ w.Name name.text 0 ∷ w.Sign p.Greater ∷ more))
          ∙ (ap (λ (ws : List Word). inner ++ (w.Sign p.Greater ∷ ws))
          (c.spelled (w.Sign p.LessSlash ∷ w.Name name.text 0 ∷ w.Sign p.Greater ∷ more) ∙ sym (append_assoc kids end more))
          ∙ sym (append_assoc inner (w.Sign p.Greater ∷ (kids ++ end)) more)));
      is = ap (λ (ps : List (Entry Node)). element_of name ps (tree g.children c.syntax)) a.is ∙ ap (element_of name props) c.is;
    }

pub element_good : (name : Name) (props : List (Entry Node)) (kids : List Node) (o : ℕ) → IsTagName name.text → (takes_children name.text ≡ false → kids ≡ []) → HasRoom o
    → Attributes (is_suspense name.text) props (o + 1) → Children kids (o + 1) → ElementPrints (element_of name props kids) o
element_good name props kids o named takes room a c =
    let is = printed_element name props kids takes in
    record {
      tight = ap (λ (q : Printed). q.tightness) is;
      spells = subst (λ (q : Printed). Spells g.element (λ y. y) (element_of name props kids) q.words o) (sym is) (element_syntax name props kids o named takes room a c);
    }

pub fragment_good : (kids : List Node) (o : ℕ) → HasRoom o → Children kids (o + 1) → ElementPrints (n.Fragment kids) o
fragment_good kids o room c =
    let is = printed-Fragment kids in
    let inner : List Word = flat_map kid_words (map printed_node kids) in
    record {
      tight = ap (λ (q : Printed). q.tightness) is;
      spells = subst (λ (q : Printed). Spells g.element (λ y. y) (n.Fragment kids) q.words o) (sym is)
          (record {
            syntax = g.fragment c.syntax;
            fits = (room, c.fits);
            sound = c.sound;
            spelled = λ more. ap (λ (ws : List Word). w.Sign p.Less ∷ w.Sign p.Greater ∷ ws)
                (c.spelled (w.Sign p.LessSlash ∷ w.Sign p.Greater ∷ more) ∙ sym (append_assoc inner (w.Sign p.LessSlash ∷ w.Sign p.Greater ∷ []) more));
            is = ap n.Fragment c.is;
          });
    }
