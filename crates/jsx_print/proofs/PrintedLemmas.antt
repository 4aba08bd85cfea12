-- What is printed for a tree is a text of it: `prints`, one recursion over all productions.
use Rattle.std.proofs.Common.{◌≡◌, ℕ, ◌+◌, true, false, List, [], ◌∷◌, ◌++◌, codes, ℤ, refl, sym, ap, subst, ◌∙◌, inl, inr, append-nil, append_assoc, arith}
use Rattle.std.specs.List.{flat_map}
use Rattle.std.proofs.lemmas.Grind.{flat_map-append}
use Rattle.jsx_lex.specs.declared.word.Word.{Word}
use Rattle.jsx_lex.specs.declared.word.Word.TheVariants as w
use Rattle.jsx_lex.specs.declared.word.Punctuator.TheVariants as p
use Rattle.jsx_syntax.specs.declared.name.Name.{Name}
use Rattle.jsx_syntax.specs.declared.expr.Expr.{Expr}
use Rattle.jsx_syntax.specs.declared.expr.Expr.TheVariants as e
use Rattle.jsx_syntax.specs.declared.node.Node.{Node}
use Rattle.jsx_syntax.specs.declared.node.Node.TheVariants as n
use Rattle.jsx_syntax.specs.declared.file.File.{File}
use Rattle.jsx_syntax.specs.declared.file.Component.{Component}
use Rattle.jsx_syntax.specs.declared.file.Stmt.{Stmt}
use Rattle.jsx_syntax.specs.declared.file.Stmt.TheVariants as s
use Rattle.jsx_syntax.specs.Trees.{member_of, sum_of, or_of, node_of, other, is_suspense}
use Rattle.jsx_syntax.specs.Words.{name_word}
use Rattle.jsx_syntax.specs.Grammar.{Sort, Syntax, Meaning, spell, tree, Fits, HasRoom, SpellsFile, text_children}
use Rattle.jsx_syntax.specs.Grammar as g
use Rattle.jsx_print.specs.Rows.{IsNumeralOf, Row}
use Rattle.jsx_print.proofs.RowForms.{file_row}
use Rattle.jsx_print.proofs.SourceLemmas.{sound_of}
use Rattle.jsx_lex.specs.ModeStack.{first_modes}
use Rattle.jsx_print.specs.Sound.{Sound, IsCodeName}
use Rattle.jsx_print.specs.Printing.{keyword, stmt_words, later_names, properties_words, component_words, file_words, printed, printed_node}
use Rattle.jsx_print.specs.Printed.{IsShallow}
use Rattle.jsx_print.proofs.Forms.{Spells, room_less, At, Prints, whole_good, wider, one_word, printed-Null, printed-Bool, printed-Int, printed-Text, printed-Name, Members, no_members, one_member, members_good, not_good, Sums, sums_one, sums_more, sums_good, Ands, ands_one, ands_more, ands_good, Ors, ors_one, ors_more, ors_good, equal_good, choice_good}
use Rattle.jsx_print.proofs.NodeForms.{Part, value_part, one_value, no_both, NodePrints, a_node, a_value, PartPrints, wider_part, Whole, whole_part, choice_part, and_part_good, or_part_good, Items, items_one, items_more, no_items, array_good, map_good, ElementPrints, element_part}
use Rattle.jsx_print.proofs.ElementForms.{Attribute, value_attribute, node_attribute, Attributes, no_attributes, one_attribute, Kids, element_kid, part_kid, Children, no_children, one_child, element_good, fragment_good}

-- Names nest nothing.
names_fit : (c : Syntax g.names) (o other : ℕ) → Fits g.names c o → Fits g.names c other
names_fit (g.first_name x) o other f = f
names_fit (g.next_name c x) o other f = (names_fit c o other f.0, f.1)

properties_fit : (c : Syntax g.properties) (o other : ℕ) → Fits g.properties c o → Fits g.properties c other
properties_fit g.no_properties o other f = tt
properties_fit g.empty_properties o other f = tt
properties_fit (g.braced_properties c) o other f = names_fit c o other f

-- What fits where one more is open fits.
more_room : (k : Sort) (c : Syntax k) (o : ℕ) → Fits k c (o + 1) → Fits k c o
more_room _ (g.number z) o f = tt
more_room _ (g.string x) o f = tt
more_room _ (g.truth q) o f = tt
more_room _ (g.falsity q) o f = tt
more_room _ (g.null q) o f = tt
more_room _ (g.undefined q) o f = tt
more_room _ (g.variable x) o f = f
more_room _ (g.parens c) o f = (room_less o f.0, more_room _ c (o + 1) f.1)
more_room _ (g.no_member c) o f = more_room _ c o f
more_room _ (g.dot c x) o f = more_room _ c o f
more_room _ (g.no_bang c) o f = more_room _ c o f
more_room _ (g.bang c) o f = (room_less o f.0, more_room _ c (o + 1) f.1)
more_room _ (g.no_plus c) o f = more_room _ c o f
more_room _ (g.plus c d) o f = (more_room _ c o f.0, more_room _ d o f.1)
more_room _ (g.no_equal c) o f = more_room _ c o f
more_room _ (g.equal b c d) o f = (more_room _ c o f.0, more_room _ d o f.1)
more_room _ (g.no_and c) o f = more_room _ c o f
more_room _ (g.and c d) o f = (more_room _ c o f.0, more_room _ d o f.1)
more_room _ (g.no_or c) o f = more_room _ c o f
more_room _ (g.or c d) o f = (more_room _ c o f.0, more_room _ d o f.1)
more_room _ (g.no_choice c) o f = more_room _ c o f
more_room _ (g.choice c d h) o f = (more_room _ c o f.0, room_less o f.1, more_room _ d (o + 1) f.2, more_room _ h (o + 1) f.3)
more_room _ (g.value c) o f = more_room _ c o f
more_room _ (g.node_choice c d h) o f = (more_room _ c o f.0, room_less o f.1, more_room _ d (o + 1) f.2, more_room _ h (o + 1) f.3)
more_room _ (g.chain c) o f = more_room _ c o f
more_room _ (g.or_alone c) o f = more_room _ c o f
more_room _ (g.or_last c d) o f = (more_room _ c o f.0, more_room _ d o f.1)
more_room _ (g.and_alone c) o f = more_room _ c o f
more_room _ (g.and_last c d) o f = (more_room _ c o f.0, more_room _ d o f.1)
more_room _ (g.node_parens c) o f = (room_less o f.0, more_room _ c (o + 1) f.1)
more_room _ (g.element_node c) o f = more_room _ c o f
more_room _ g.empty_array o f = room_less o f
more_room _ (g.array c comma) o f = (room_less o f.0, more_room _ c (o + 1) f.1)
more_room _ (g.first_node c) o f = more_room _ c o f
more_room _ (g.next_node c d) o f = (more_room _ c o f.0, more_room _ d o f.1)
more_room _ (g.map_node c q item number_ d) o f = (more_room _ c o f.0, room_less (o + 1) f.1, f.2, f.3, more_room _ d (o + 1) f.4)
more_room _ (g.closed x c) o f = (room_less o f.0, more_room _ c (o + 1) f.1)
more_room _ (g.paired x c d q) o f = (room_less o f.0, more_room _ c (o + 1) f.1, more_room _ d (o + 1) f.2, f.3)
more_room _ (g.fragment c) o f = (room_less o f.0, more_room _ c (o + 1) f.1)
more_room _ (g.flag x) o f = tt
more_room _ (g.quoted x v) o f = tt
more_room _ (g.braced x c) o f = (room_less o f.0, more_room _ c (o + 1) f.1)
more_room _ (g.fallback x c) o f = (f.0, room_less o f.1, more_room _ c (o + 1) f.2)
more_room _ g.no_attribute o f = tt
more_room _ (g.next_attribute c d) o f = (more_room _ c o f.0, more_room _ d o f.1)
more_room _ (g.text x) o f = tt
more_room _ g.empty_braces o f = room_less o f
more_room _ (g.braces c) o f = (room_less o f.0, more_room _ c (o + 1) f.1)
more_room _ (g.element_child c) o f = more_room _ c o f
more_room _ g.no_child o f = tt
more_room _ (g.next_child c d) o f = (more_room _ c o f.0, more_room _ d o f.1)
more_room _ (g.first_name x) o f = f
more_room _ (g.next_name c x) o f = (more_room _ c o f.0, f.1)
more_room _ g.no_properties o f = tt
more_room _ g.empty_properties o f = tt
more_room _ (g.braced_properties c) o f = more_room _ c o f
more_room _ (g.fetch q x used c) o f = (f.0, more_room _ c (o + 1) f.1)
more_room _ (g.bind q x c) o f = (f.0, more_room _ c o f.1)
more_room _ (g.throw q c thrown d) o f = (more_room _ c (o + 1) f.0, more_room _ d o f.1)
more_room _ g.no_statement o f = tt
more_room _ (g.next_statement c d) o f = (more_room _ c o f.0, more_room _ d o f.1)
more_room _ (g.function q x c d returned h) o f =
    (f.0, properties_fit c (o + 1 + 2) (o + 2) f.1, more_room _ d (o + 1) f.2, more_room _ h (o + 1) f.3)
more_room _ g.no_component o f = tt
more_room _ (g.next_component c d) o f = (more_room _ c o f.0, more_room _ d o f.1)

-- Single words.

number_good : (z : ℤ) (o : ℕ) → IsNumeralOf z → Prints (e.Int z) 7 o
number_good z o numeral = one_word (g.number z) (e.Int z) (w.Number z) o (λ more. refl) tt numeral refl (printed-Int z)

string_good : (x : List ℕ) (o : ℕ) → Prints (e.Text x) 7 o
string_good x o = one_word (g.string x) (e.Text x) (w.Text x) o (λ more. refl) tt tt refl (printed-Text x)

truth_good : (o : ℕ) → Prints (e.Bool true) 7 o
truth_good o = one_word (g.truth 0) (e.Bool true) (keyword (codes "true")) o (λ more. refl) tt tt refl (printed-Bool true)

falsity_good : (o : ℕ) → Prints (e.Bool false) 7 o
falsity_good o = one_word (g.falsity 0) (e.Bool false) (keyword (codes "false")) o (λ more. refl) tt tt refl (printed-Bool false)

null_good : (o : ℕ) → Prints e.Null 7 o
null_good o = one_word (g.null 0) e.Null (keyword (codes "null")) o (λ more. refl) tt tt refl printed-Null

-- What stands in parentheses, in the place of a single word.
parens_good : (x : Expr) (o : ℕ) → HasRoom o → Prints x 0 o → Prints x 0 (o + 1) → Prints x 7 o
parens_good x o room here within = record { bare = here.bare; around = λ looser. (room, within.bare) }

node_parens_good : (x : Part) (y z : Node) (o : ℕ) → HasRoom o → x ≡ other y → x ≡ other z → NodePrints y 0 o → NodePrints z 0 (o + 1) → NodePrints y 3 o
node_parens_good x y z o room e f here within =
    let same : z ≡ y = ap node_of (sym f ∙ e) in
    let deeper : NodePrints y 0 (o + 1) = subst (λ (v : Node). NodePrints v 0 (o + 1)) same within in
    record { bare = here.bare; around = λ looser. (room, deeper.bare) }

parens_part : (x : Part) (o : ℕ) → HasRoom o → PartPrints 0 0 x o → PartPrints 0 0 x (o + 1) → PartPrints 7 3 x o
parens_part x o room (inl v) (inl u) = inl (record {
  syntax = v.syntax;
  is = v.is;
  good = parens_good (tree g.expression v.syntax) o room v.good
      (subst (λ (y : Expr). Prints y 0 (o + 1)) (one_value x u.syntax v.syntax u.is v.is) u.good);
})
parens_part x o room (inl v) (inr u) = absurd (no_both x v.syntax u.node v.is u.is)
parens_part x o room (inr v) (inl u) = absurd (no_both x u.syntax v.node u.is v.is)
parens_part x o room (inr v) (inr u) = inr (record { node = v.node; is = v.is; good = node_parens_good x v.node u.node o room v.is u.is v.good u.good })

text_kid : (x : List ℕ) (o : ℕ) → HasRoom o → Kids (text_children x) o
text_kid [] o room = tt
text_kid (b ∷ bs) o room =
    let x : Expr = e.Text (b ∷ bs) in
    let c : Syntax g.expression = g.no_choice (g.no_or (g.no_and (g.no_equal (g.no_plus (g.no_bang (g.no_member (g.string (b ∷ bs)))))))) in
    part_kid (value_part c) o room (a_value 0 0 c o (wider (printed x) x 7 0 o (omega arith) (string_good (b ∷ bs) o)))
    (whole_part (value_part c) (o + 1) (a_value 0 0 c (o + 1) (wider (printed x) x 7 0 (o + 1) (omega arith) (string_good (b ∷ bs) (o + 1)))))

-- Properties.

abbrev names_list : List Name → List Word
names_list [] = []
names_list (x ∷ xs) = name_word x ∷ later_names xs

abbrev Some_names : List Name → Type 0
Some_names [] = ⊥
Some_names (x ∷ xs) = Unit {0}

more_names : (xs : List Name) (x : Name) → Some_names (xs ++ x ∷ [])
more_names [] x = tt
more_names (y ∷ ys) x = tt

names_some : (c : Syntax g.names) → Some_names (tree g.names c)
names_some (g.first_name x) = tt
names_some (g.next_name c x) = more_names (tree g.names c) x

names_last : (xs : List Name) (x : Name) (more : List Word) → Some_names xs
    → names_list xs ++ (w.Sign p.Comma ∷ name_word x ∷ more) ≡ names_list (xs ++ x ∷ []) ++ more
names_last [] x more some = absurd some
names_last (y ∷ ys) x more some =
    let last : List Word = w.Sign p.Comma ∷ name_word x ∷ [] in
    ap (λ (ws : List Word). name_word y ∷ ws)
    (sym (append_assoc (later_names ys) last more)
    ∙ ap (λ (ws : List Word). ws ++ more) (sym (flat_map-append (λ (name : Name). w.Sign p.Comma ∷ name_word name ∷ []) ys (x ∷ []))))

names_spelled : (c : Syntax g.names) (more : List Word) → spell g.names c more ≡ names_list (tree g.names c) ++ more
names_spelled (g.first_name x) more = refl
names_spelled (g.next_name c x) more =
    names_spelled c (w.Sign p.Comma ∷ name_word x ∷ more) ∙ names_last (tree g.names c) x more (names_some c)

abbrev Properties : List Name → ℕ → Type 0
Properties xs o = Spells g.properties (λ ys. ys) xs (properties_words xs) o

names_sound : (c : Syntax g.names) → Sound false g.names c → Sound true g.names c
names_sound (g.first_name x) h = h
names_sound (g.next_name c x) h = (names_sound c h.0, h.1)

named : (c : Syntax g.names) (o : ℕ) (xs : List Name) → Some_names xs → tree g.names c ≡ xs → Fits g.names c o → Sound true g.names c → Properties xs o
named c o [] some is f h = absurd some
named c o (x ∷ xs) some is f h = record {
  syntax = g.braced_properties c;
  fits = f;
  sound = h;
  spelled = λ more. ap (λ (ws : List Word). w.Sign p.OpenBrace ∷ ws)
      (names_spelled c (w.Sign p.CloseBrace ∷ more)
      ∙ (ap (λ (ys : List Name). names_list ys ++ (w.Sign p.CloseBrace ∷ more)) is ∙ sym (append_assoc (names_list (x ∷ xs)) (w.Sign p.CloseBrace ∷ []) more)));
  is = is;
}

properties_good : (c : Syntax g.properties) (o : ℕ) → Fits g.properties c o → Sound false g.properties c → Properties (tree g.properties c) o
properties_good g.no_properties o f h = record { syntax = g.no_properties; fits = tt; sound = tt; spelled = λ more. refl; is = refl }
properties_good g.empty_properties o f h = record { syntax = g.no_properties; fits = tt; sound = tt; spelled = λ more. refl; is = refl }
properties_good (g.braced_properties c) o f h = named c o (tree g.names c) (names_some c) refl f (names_sound c h)

-- Statements.

abbrev Statement : Stmt → ℕ → Type 0
Statement x o = Spells g.statement (λ y. y) x (stmt_words x) o

fetch_good : (name : Name) (x : Expr) (o : ℕ) → g.IsName name → IsCodeName name.text → Prints x 0 (o + 1) → Statement (s.Fetch name x) o
fetch_good name x o is_name coded good =
    let a : At 0 x (printed x).words (o + 1) = whole_good (printed x) x 0 (o + 1) good in
    let ws : List Word = (printed x).words in
    record {
      syntax = g.fetch 0 name 0 a.syntax;
      fits = (is_name, a.fits);
      sound = (coded, a.sound);
      spelled = λ more. ap (λ (vs : List Word). keyword (codes "const") ∷ name_word name ∷ w.Sign p.Assign ∷ keyword (codes "use") ∷ w.Sign p.OpenParen ∷ vs)
          (a.spelled (w.Sign p.CloseParen ∷ w.Sign p.Semicolon ∷ more)
          ∙ (sym (append_assoc ws (w.Sign p.CloseParen ∷ []) (w.Sign p.Semicolon ∷ more))
          ∙ sym (append_assoc (ws ++ w.Sign p.CloseParen ∷ []) (w.Sign p.Semicolon ∷ []) more)));
      is = ap (s.Fetch name) a.is;
    }

bind_good : (name : Name) (x : Expr) (o : ℕ) → g.IsName name → IsCodeName name.text → Prints x 0 o → Statement (s.Bind name x) o
bind_good name x o is_name coded good =
    let a : At 0 x (printed x).words o = whole_good (printed x) x 0 o good in
    record {
      syntax = g.bind 0 name a.syntax;
      fits = (is_name, a.fits);
      sound = (coded, a.sound);
      spelled = λ more. ap (λ (vs : List Word). keyword (codes "const") ∷ name_word name ∷ w.Sign p.Assign ∷ vs)
          (a.spelled (w.Sign p.Semicolon ∷ more) ∙ sym (append_assoc (printed x).words (w.Sign p.Semicolon ∷ []) more));
      is = ap (s.Bind name) a.is;
    }

throw_good : (x y : Expr) (o : ℕ) → Prints x 0 (o + 1) → Prints y 0 o → Statement (s.Throw x y) o
throw_good x y o test digest =
    let a : At 0 x (printed x).words (o + 1) = whole_good (printed x) x 0 (o + 1) test in
    let b : At 0 y (printed y).words o = whole_good (printed y) y 0 o digest in
    let front : List Word = (printed x).words in
    let back : List Word = (printed y).words ++ w.Sign p.Semicolon ∷ [] in
    record {
      syntax = g.throw 0 a.syntax 0 b.syntax;
      fits = (a.fits, b.fits);
      sound = (a.sound, b.sound);
      spelled = λ more. ap (λ (vs : List Word). keyword (codes "if") ∷ w.Sign p.OpenParen ∷ vs)
          (a.spelled (w.Sign p.CloseParen ∷ keyword (codes "throw") ∷ spell g.expression b.syntax (w.Sign p.Semicolon ∷ more))
          ∙ (ap (λ (vs : List Word). front ++ (w.Sign p.CloseParen ∷ keyword (codes "throw") ∷ vs))
          (b.spelled (w.Sign p.Semicolon ∷ more) ∙ sym (append_assoc (printed y).words (w.Sign p.Semicolon ∷ []) more))
          ∙ (sym (append_assoc front (w.Sign p.CloseParen ∷ []) (keyword (codes "throw") ∷ (back ++ more)))
          ∙ sym (append_assoc (front ++ w.Sign p.CloseParen ∷ []) (keyword (codes "throw") ∷ back) more))));
      is = ap (λ (z : Expr). s.Throw z (tree g.expression b.syntax)) a.is ∙ ap (s.Throw x) b.is;
    }

abbrev Statements : List Stmt → ℕ → Type 0
Statements xs o = Spells g.statements (λ ys. ys) xs (flat_map stmt_words xs) o

one_statement : (xs : List Stmt) (x : Stmt) (o : ℕ) → Statements xs o → Statement x o → Statements (xs ++ x ∷ []) o
one_statement xs x o c a =
    let front : List Word = flat_map stmt_words xs in
    let joined : flat_map stmt_words (xs ++ x ∷ []) ≡ front ++ stmt_words x =
    flat_map-append stmt_words xs (x ∷ []) ∙ ap (λ (ws : List Word). front ++ ws) (append-nil (stmt_words x)) in
    record {
      syntax = g.next_statement c.syntax a.syntax;
      fits = (c.fits, a.fits);
      sound = (c.sound, a.sound);
      spelled = λ more. c.spelled (spell g.statement a.syntax more)
          ∙ (ap (λ (ws : List Word). front ++ ws) (a.spelled more)
          ∙ (sym (append_assoc front (stmt_words x) more) ∙ ap (λ (ws : List Word). ws ++ more) (sym joined)));
      is = ap (λ (ys : List Stmt). ys ++ tree g.statement a.syntax ∷ []) c.is ∙ ap (λ (y : Stmt). xs ++ y ∷ []) a.is;
    }

-- Components.

abbrev ComponentPrints : Component → ℕ → Type 0
ComponentPrints x o = Spells g.component (λ y. y) x (component_words x) o

abbrev component_of : Name → List Name → List Stmt → Node → Component
component_of name properties stmts result = record { name = name; properties = properties; stmts = stmts; result = result }

component_good : (name : Name) (properties : List Name) (stmts : List Stmt) (result : Part) (o : ℕ) → g.IsName name → IsCodeName name.text
    → Properties properties (o + 2) → Statements stmts (o + 1) → Whole result (o + 1) → ComponentPrints (component_of name properties stmts (node_of result)) o
component_good name properties stmts result o is_name coded a b c =
    let ps : List Word = properties_words properties in
    let ss : List Word = flat_map stmt_words stmts in
    let rs : List Word = (printed_node (node_of result)).words in
    let end : List Word = (rs ++ w.Sign p.Semicolon ∷ []) ++ w.Sign p.CloseBrace ∷ [] in
    let body : List Word = ss ++ keyword (codes "return") ∷ end in
    record {
      syntax = g.function 0 name a.syntax b.syntax 0 c.syntax;
      fits = (is_name, a.fits, b.fits, c.fits);
      sound = (coded, a.sound, b.sound, c.sound);
      spelled = λ more. ap (λ (ws : List Word). keyword (codes "function") ∷ name_word name ∷ w.Sign p.OpenParen ∷ ws)
          (a.spelled (w.Sign p.CloseParen ∷ w.Sign p.OpenBrace ∷ spell g.statements b.syntax (keyword (codes "return")
          ∷ spell g.node c.syntax (w.Sign p.Semicolon ∷ w.Sign p.CloseBrace ∷ more)))
          ∙ (ap (λ (ws : List Word). ps ++ (w.Sign p.CloseParen ∷ w.Sign p.OpenBrace ∷ ws))
          (b.spelled (keyword (codes "return") ∷ spell g.node c.syntax (w.Sign p.Semicolon ∷ w.Sign p.CloseBrace ∷ more))
          ∙ (ap (λ (ws : List Word). ss ++ (keyword (codes "return") ∷ ws))
          (c.spelled (w.Sign p.Semicolon ∷ w.Sign p.CloseBrace ∷ more)
          ∙ (sym (append_assoc rs (w.Sign p.Semicolon ∷ []) (w.Sign p.CloseBrace ∷ more))
          ∙ sym (append_assoc (rs ++ w.Sign p.Semicolon ∷ []) (w.Sign p.CloseBrace ∷ []) more)))
          ∙ sym (append_assoc ss (keyword (codes "return") ∷ end) more)))
          ∙ (sym (append_assoc ps (w.Sign p.CloseParen ∷ []) (w.Sign p.OpenBrace ∷ (body ++ more)))
          ∙ sym (append_assoc (ps ++ w.Sign p.CloseParen ∷ []) (w.Sign p.OpenBrace ∷ body) more))));
      is = ap (λ (ys : List Name). component_of name ys (tree g.statements b.syntax) (node_of (tree g.node c.syntax))) a.is
          ∙ (ap (λ (ys : List Stmt). component_of name properties ys (node_of (tree g.node c.syntax))) b.is
          ∙ ap (λ (y : Node). component_of name properties stmts y) c.is);
    }

abbrev Components : List Component → ℕ → Type 0
Components xs o = Spells g.components (λ ys. ys) xs (flat_map component_words xs) o

one_component : (xs : List Component) (x : Component) (o : ℕ) → Components xs o → ComponentPrints x o → Components (xs ++ x ∷ []) o
one_component xs x o c a =
    let front : List Word = flat_map component_words xs in
    let joined : flat_map component_words (xs ++ x ∷ []) ≡ front ++ component_words x =
    flat_map-append component_words xs (x ∷ []) ∙ ap (λ (ws : List Word). front ++ ws) (append-nil (component_words x)) in
    record {
      syntax = g.next_component c.syntax a.syntax;
      fits = (c.fits, a.fits);
      sound = (c.sound, a.sound);
      spelled = λ more. c.spelled (spell g.component a.syntax more)
          ∙ (ap (λ (ws : List Word). front ++ ws) (a.spelled more)
          ∙ (sym (append_assoc front (component_words x) more) ∙ ap (λ (ws : List Word). ws ++ more) (sym joined)));
      is = ap (λ (ys : List Component). ys ++ tree g.component a.syntax ∷ []) c.is ∙ ap (λ (y : Component). xs ++ y ∷ []) a.is;
    }

-- What is shown of each tree. What stands in braces when it is printed wants room for them.
abbrev Shown : (k : Sort) → Meaning k → ℕ → Type 0
Shown g.primary x o = Prints x 7 o
Shown g.member d o = Members d o
Shown g.unary x o = Prints x 5 o
Shown g.sum xs o = Sums xs o
Shown g.equality x o = Prints x 3 o
Shown g.conjunction xs o = Ands xs o
Shown g.disjunction xs o = Ors xs o
Shown g.expression x o = Prints x 0 o
Shown g.node_primary x o = PartPrints 7 3 x o
Shown g.node_conjunction x o = PartPrints 2 2 x o
Shown g.node_disjunction x o = PartPrints 1 1 x o
Shown g.node x o = PartPrints 0 0 x o
Shown g.node_list xs o = Items xs o
Shown g.element x o = ElementPrints x o
Shown (g.attribute b) x o = HasRoom o → Attribute b x o
Shown (g.attributes b) xs o = HasRoom o → Attributes b xs o
Shown g.child xs o = HasRoom o → Kids xs o
Shown g.children xs o = HasRoom o → Children xs o
Shown g.names xs o = Unit {0}
Shown g.properties xs o = Unit {0}
Shown g.statement x o = Statement x o
Shown g.statements xs o = Statements xs o
Shown g.component x o = ComponentPrints x o
Shown g.components xs o = Components xs o

prints : (k : Sort) (c : Syntax k) (o : ℕ) → Fits k c (o + 1) → Sound false k c → Shown k (tree k c) o
prints _ (g.number z) o f h = number_good z o h
prints _ (g.string x) o f h = string_good x o
prints _ (g.truth q) o f h = truth_good o
prints _ (g.falsity q) o f h = falsity_good o
prints _ (g.null q) o f h = null_good o
prints _ (g.undefined q) o f h = null_good o
prints _ (g.variable x) o f h = one_word (g.variable x) (e.Name x) (name_word x) o (λ more. refl) f h refl (printed-Name x)
prints _ (g.parens c) o f h =
    parens_good (tree g.expression c) o (room_less o f.0) (prints _ c o (more_room _ c (o + 1) f.1) h) (prints _ c (o + 1) f.1 h)
prints _ (g.no_member c) o f h = no_members (tree g.primary c) o (prints _ c o f h)
prints _ (g.dot c x) o f h = one_member (tree g.member c).of (tree g.member c).names x.text o h.1 (prints _ c o f h.0)
prints _ (g.no_bang c) o f h =
    let x : Expr = member_of (tree g.member c) in
    wider (printed x) x 6 5 o (omega arith) (members_good (tree g.member c).of (tree g.member c).names o (prints _ c o f h))
prints _ (g.bang c) o f h = not_good (tree g.unary c) o (room_less o f.0) (prints _ c (o + 1) f.1 h)
prints _ (g.no_plus c) o f h = sums_one (tree g.unary c) o (prints _ c o f h)
prints _ (g.plus c d) o f h = sums_more (tree g.sum c) (tree g.unary d) o (prints _ c o f.0 h.0) (prints _ d o f.1 h.1)
prints _ (g.no_equal c) o f h =
    let x : Expr = sum_of (tree g.sum c) in
    wider (printed x) x 4 3 o (omega arith) (sums_good (tree g.sum c) o (prints _ c o f h))
prints _ (g.equal b c d) o f h =
    equal_good b (sum_of (tree g.sum c)) (sum_of (tree g.sum d)) o (sums_good (tree g.sum c) o (prints _ c o f.0 h.0)) (sums_good (tree g.sum d) o (prints _ d o f.1 h.1))
prints _ (g.no_and c) o f h = ands_one (tree g.equality c) o (prints _ c o f h)
prints _ (g.and c d) o f h = ands_more (tree g.conjunction c) (tree g.equality d) o (prints _ c o f.0 h.0) (prints _ d o f.1 h.1)
prints _ (g.no_or c) o f h = ors_one _ o (ands_good (tree g.conjunction c) o (prints _ c o f h))
prints _ (g.or c d) o f h = ors_more (tree g.disjunction c) _ o (prints _ c o f.0 h.0) (ands_good (tree g.conjunction d) o (prints _ d o f.1 h.1))
prints _ (g.no_choice c) o f h =
    let x : Expr = or_of (tree g.disjunction c) in
    wider (printed x) x 1 0 o (omega arith) (ors_good (tree g.disjunction c) o (prints _ c o f h))
prints _ (g.choice c d k) o f h =
    choice_good (or_of (tree g.disjunction c)) (tree g.expression d) (tree g.expression k) o (room_less o f.1) (ors_good (tree g.disjunction c) o (prints _ c o f.0 h.0))
    (prints _ d (o + 1) f.2 h.1) (prints _ k (o + 1) f.3 h.2)
prints _ (g.value c) o f h = a_value 0 0 c o (prints _ c o f h)
prints _ (g.node_choice c d k) o f h =
    choice_part c (tree g.node d) (tree g.node k) o (room_less o f.1) (ors_good (tree g.disjunction c) o (prints _ c o f.0 h.0))
    (prints _ d (o + 1) f.2 h.1) (prints _ k (o + 1) f.3 h.2)
prints _ (g.chain c) o f h = wider_part 1 0 1 0 (tree g.node_disjunction c) o (omega arith) (omega arith) (prints _ c o f h)
prints _ (g.or_alone c) o f h = wider_part 2 1 2 1 (tree g.node_conjunction c) o (omega arith) (omega arith) (prints _ c o f h)
prints _ (g.or_last c d) o f h = or_part_good c (tree g.node_conjunction d) o (prints _ c o f.0 h.0) (prints _ d o f.1 h.1)
prints _ (g.and_alone c) o f h = wider_part 7 2 3 2 (tree g.node_primary c) o (omega arith) (omega arith) (prints _ c o f h)
prints _ (g.and_last c d) o f h = and_part_good c (tree g.node_primary d) o (prints _ c o f.0 h.0) (prints _ d o f.1 h.1)
prints _ (g.node_parens c) o f h =
    parens_part (tree g.node c) o (room_less o f.0) (prints _ c o (more_room _ c (o + 1) f.1) h) (prints _ c (o + 1) f.1 h)
prints _ (g.element_node c) o f h = element_part (tree g.element c) o (prints _ c o f h)
prints _ g.empty_array o f h = a_node 7 3 (n.Array []) o (no_items o (room_less o f))
prints _ (g.array c comma) o f h = a_node 7 3 (n.Array (tree g.node_list c)) o (array_good (tree g.node_list c) o (room_less o f.0) (prints _ c (o + 1) f.1 h))
prints _ (g.first_node c) o f h = items_one (tree g.node c) o (whole_part (tree g.node c) o (prints _ c o f h))
prints _ (g.next_node c d) o f h =
    items_more (tree g.node_list c) (tree g.node d) o (prints _ c o f.0 h.0) (whole_part (tree g.node d) o (prints _ d o f.1 h.1))
prints _ (g.map_node c q item number_ d) o f h =
    a_node 7 3 (n.Map (member_of (tree g.member c)) item number_ (node_of (tree g.node d))) o
    (map_good (member_of (tree g.member c)) item number_ (tree g.node d) o (room_less (o + 1) f.1) f.2 f.3 h.1 h.2
    (members_good (tree g.member c).of (tree g.member c).names o (prints _ c o f.0 h.0)) (whole_part (tree g.node d) (o + 1) (prints _ d (o + 1) f.4 h.3)))
prints _ (g.closed x c) o f h =
    element_good x (tree (g.attributes (is_suspense x.text)) c) [] o h.0 (λ takes. refl) (room_less o f.0) (prints _ c (o + 1) f.1 h.1 f.0) (no_children (o + 1))
prints _ (g.paired x c d q) o f h =
    element_good x (tree (g.attributes (is_suspense x.text)) c) (tree g.children d) o h.0 f.3 (room_less o f.0) (prints _ c (o + 1) f.1 h.1 f.0) (prints _ d (o + 1) f.2 h.2 f.0)
prints _ (g.fragment c) o f h = fragment_good (tree g.children c) o (room_less o f.0) (prints _ c (o + 1) f.1 h f.0)
prints _ (g.flag {b = b} x) o f h = λ room.
    value_attribute b x (e.Bool true) o h room (wider (printed (e.Bool true)) (e.Bool true) 7 0 (o + 1) (omega arith) (truth_good (o + 1)))
prints _ (g.quoted {b = b} x v) o f h = λ room.
    value_attribute b x (e.Text v) o h.0 room (wider (printed (e.Text v)) (e.Text v) 7 0 (o + 1) (omega arith) (string_good v (o + 1)))
prints _ (g.braced {b = b} x c) o f h = λ room. value_attribute b x (tree g.expression c) o h.0 room (prints _ c (o + 1) f.1 h.1)
prints _ (g.fallback x c) o f h = λ room. node_attribute x (tree g.node c) o h.0 f.0 room (whole_part (tree g.node c) (o + 1) (prints _ c (o + 1) f.2 h.1))
prints _ (g.no_attribute {b = b}) o f h = λ room. no_attributes b o
prints _ (g.next_attribute {b = b} c d) o f h = λ room.
    one_attribute b (tree (g.attributes b) c) (tree (g.attribute b) d) o (prints _ c o f.0 h.0 room) (prints _ d o f.1 h.1 room)
prints _ (g.text x) o f h = λ room. text_kid x o room
prints _ g.empty_braces o f h = λ room. tt
prints _ (g.braces c) o f h = λ room.
    part_kid (tree g.node c) o room (prints _ c o (more_room _ c (o + 1) f.1) h) (whole_part (tree g.node c) (o + 1) (prints _ c (o + 1) f.1 h))
prints _ (g.element_child c) o f h = λ room. element_kid (tree g.element c) o (prints _ c o f h)
prints _ g.no_child o f h = λ room. no_children o
prints _ (g.next_child c d) o f h = λ room. one_child (tree g.children c) (tree g.child d) o (prints _ c o f.0 h.0 room) (prints _ d o f.1 h.1 room)
prints _ (g.first_name x) o f h = tt
prints _ (g.next_name c x) o f h = tt
prints _ g.no_properties o f h = tt
prints _ g.empty_properties o f h = tt
prints _ (g.braced_properties c) o f h = tt
prints _ (g.fetch q x used c) o f h = fetch_good x (tree g.expression c) o f.0 h.0 (prints _ c (o + 1) f.1 h.1)
prints _ (g.bind q x c) o f h = bind_good x (tree g.expression c) o f.0 h.0 (prints _ c o f.1 h.1)
prints _ (g.throw q c thrown d) o f h = throw_good (tree g.expression c) (tree g.expression d) o (prints _ c (o + 1) f.0 h.0) (prints _ d o f.1 h.1)
prints _ g.no_statement o f h = record { syntax = g.no_statement; fits = tt; sound = tt; spelled = λ more. refl; is = refl }
prints _ (g.next_statement c d) o f h = one_statement (tree g.statements c) (tree g.statement d) o (prints _ c o f.0 h.0) (prints _ d o f.1 h.1)
prints _ (g.function q x c d returned k) o f h =
    component_good x (tree g.properties c) (tree g.statements d) (tree g.node k) o f.0 h.0 (properties_good c (o + 2) (properties_fit c (o + 1 + 2) (o + 2) f.1) h.1)
    (prints _ d (o + 1) f.2 h.2) (whole_part (tree g.node k) (o + 1) (prints _ k (o + 1) f.3 h.3))
prints _ g.no_component o f h = record { syntax = g.no_component; fits = tt; sound = tt; spelled = λ more. refl; is = refl }
prints _ (g.next_component c d) o f h = one_component (tree g.components c) (tree g.component d) o (prints _ c o f.0 h.0) (prints _ d o f.1 h.1)

printed_components : (file : File) (shallow : IsShallow file) → Components file.components 0
printed_components file shallow =
    let sound : Sound false g.components shallow.syntax = sound_of shallow.text shallow.tokens shallow.syntax shallow.are_tokens shallow.spelled in
    subst (λ (cs : List Component). Components cs 0) shallow.tree_is (prints g.components shallow.syntax 0 shallow.fits sound)

-- The printed words of a file spell it, and stand in a row.
pub printed_file : (file : File) → IsShallow file → SpellsFile (file_words file) file
printed_file file shallow =
    let b : Components file.components 0 = printed_components file shallow in
    record { syntax = b.syntax; fits = b.fits; spelled = b.spelled [] ∙ append-nil (file_words file); tree_is = b.is }

pub printed_row : (file : File) → IsShallow file → Row first_modes (file_words file) first_modes
printed_row file shallow =
    let b : Components file.components 0 = printed_components file shallow in
    subst (λ (ws : List Word). Row first_modes ws first_modes) (b.spelled [] ∙ append-nil (file_words file)) (file_row b.syntax b.sound)
