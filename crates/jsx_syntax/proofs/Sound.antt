-- Each step of the parser keeps what it has read: `sound_step`.
use Rattle.std.proofs.Common.{◌≡◌, ℕ, ◌+◌, Bool, true, false, List, [], ◌∷◌, ◌++◌, codes, Option, Some, None, Ok, Err, inl, inr, refl, sym, ap, subst, ◌∙◌, ◌&&◌, eqb-true, is_none, option_map, if◌then◌else◌, get_or, append-nil}
use Rattle.jsx_lex.specs.declared.word.Word.{Word}
use Rattle.jsx_lex.specs.declared.word.Word.TheVariants as w
use Rattle.jsx_lex.specs.declared.word.Punctuator.{Punctuator}
use Rattle.jsx_lex.specs.declared.word.Punctuator.TheVariants as p
use Rattle.jsx_syntax.specs.declared.name.Name.{Name}
use Rattle.jsx_syntax.specs.declared.name.Entry.{Entry}
use Rattle.jsx_syntax.specs.declared.expr.Expr.{Expr}
use Rattle.jsx_syntax.specs.declared.node.Node.{Node}
use Rattle.jsx_syntax.specs.declared.part.Part.{Part}
use Rattle.jsx_syntax.specs.declared.part.Part.TheVariants.{Value, Other}
use Rattle.jsx_syntax.specs.declared.part.Dotted.{Dotted}
use Rattle.jsx_syntax.specs.declared.file.Component.{Component}
use Rattle.jsx_syntax.specs.declared.file.Stmt.{Stmt}
use Rattle.jsx_syntax.specs.declared.file.Stmt.TheVariants as s
use Rattle.jsx_syntax.specs.declared.state.Left.{Left}
use Rattle.jsx_syntax.specs.declared.state.Draft.{Draft}
use Rattle.jsx_syntax.specs.declared.state.Pending.{Pending}
use Rattle.jsx_syntax.specs.declared.state.Mapping.{Mapping}
use Rattle.jsx_syntax.specs.declared.state.Tag.{Tag}
use Rattle.jsx_syntax.specs.declared.state.Opened.{Opened}
use Rattle.jsx_syntax.specs.declared.state.Frame.{Frame}
use Rattle.jsx_syntax.specs.declared.state.Frame.TheVariants as f
use Rattle.jsx_syntax.specs.declared.state.Position.{Position}
use Rattle.jsx_syntax.specs.declared.state.Position.TheVariants as position
use Rattle.jsx_syntax.specs.declared.state.Outside.{Outside}
use Rattle.jsx_syntax.specs.declared.state.Outside.TheVariants as o
use Rattle.jsx_syntax.specs.declared.state.Within.{Within}
use Rattle.jsx_syntax.specs.declared.state.Within.TheVariants as b
use Rattle.jsx_syntax.specs.declared.state.Inside.{Inside}
use Rattle.jsx_syntax.specs.declared.state.Inside.TheVariants as i
use Rattle.jsx_syntax.specs.declared.state.InMap.{InMap}
use Rattle.jsx_syntax.specs.declared.state.InMap.TheVariants as m
use Rattle.jsx_syntax.specs.declared.state.InElement.{InElement}
use Rattle.jsx_syntax.specs.declared.state.InElement.TheVariants as t
use Rattle.jsx_syntax.specs.Trees.{member_of, node_of, is_suspense}
use Rattle.jsx_syntax.specs.Words.{name_word}
use Rattle.jsx_syntax.specs.Grammar.{Sort, Syntax, Meaning, spell, tree, Fits, HasRoom, IsName, AreNames, equal_sign}
use Rattle.jsx_syntax.specs.Grammar as g
use Rattle.jsx_syntax.specs.Steps.{allows_node, nesting, holds_children, fallback_place, operand_of, component_of, with_stmt, same_name}
use Rattle.jsx_syntax.specs.declared.expr.Expr.TheVariants as e
use Rattle.jsx_syntax.specs.declared.node.Node.TheVariants as n
use Rattle.jsx_syntax.specs.Trees.{choose_part, entry}
use Rattle.jsx_syntax.specs.Steps.{nots_of, equal_of, sums_of, ands_of, ors_of, value_of, node_part, is_empty}
use Rattle.jsx_syntax.proofs.Zipper.{Read, sums_words, ands_words, ors_words, Lefts, left_words, nots_words, Before, before_words, PartRead, part_words, AtValue, listed_words, Body, body_words, TagRead, tag_words, OpenTag, open_words, OpenedRead, opened_words, Mapped, names_words, within_words, file, part, elem, Stacked, stack_words, Fetched, At, at_words}
use Rattle.jsx_syntax.proofs.Closings.{ap2, ap3, ReadAs, at_depth, nots_words-add, Nots-add, sums_closed, ands_closed, ors_closed, value_closed, nesting-allows, node_read, node_closed, choose_closed, listed_closed, braced_read}
use Rattle.jsx_syntax.specs.declared.state.State.{State}
use Rattle.jsx_syntax.specs.declared.fault.Wanted.TheVariants as wanted
use Rattle.jsx_syntax.specs.WordTests.{is_sign, is_word, has_room, code_name, any_name, punctuator_number}
use Rattle.jsx_syntax.specs.Steps as steps
use Rattle.jsx_syntax.specs.Steps.{Moved, finish, close, step_value, step_operand, name_then, names_before_map, inside, fresh, operand, element_node, element_named}
use Rattle.std.specs.Str.{bytes_eq}
use Rattle.std.proofs.lemmas.Slice.Eq.{bytes_eq-Decides}
use Rattle.jsx_syntax.specs.Words.{is_reserved}
use Rattle.jsx_syntax.specs.Trees.{element_of, members_of}
use Rattle.jsx_syntax.proofs.Names.{names_snoc}

-- A step from what spells these words, over this word: what is read then spells them and the word.
pub record Kept (words : List Word → List Word) (word : Word) (state : State) : Type 0 where
  pub at : At state.position state.stack
  pub words_are : (more : List Word) → at_words state.position state.stack at more ≡ words (word ∷ more)

abbrev pub Good : (List Word → List Word) → Word → Moved → Type 0
Good words word (Ok state) = Kept words word state
Good words word (Err wanted_) = Unit {0}

pub Good-as : (words others : List Word → List Word) (word : Word) (moved : Moved) → ((more : List Word) → words more ≡ others more)
    → Good words word moved → Good others word moved
Good-as words others word (Ok state) same k = record { at = k.at; words_are = λ more. k.words_are more ∙ same (word ∷ more) }
Good-as words others word (Err wanted_) same k = tt

-- Tests of words.

pub if_both : (b_ : Bool) (x y : Moved) (P : Moved → Type 0) → (b_ ≡ true → P x) → (b_ ≡ false → P y) → P (if b_ then x else y)
if_both true x y P yes_ no_ = yes_ refl
if_both false x y P yes_ no_ = no_ refl

pub if_true : (b_ : Bool) (x y : Moved) (P : Moved → Type 0) → (b_ ≡ true → P x) → P y → P (if b_ then x else y)
if_true true x y P yes_ no_ = yes_ refl
if_true false x y P yes_ no_ = no_

punctuators : List Punctuator
punctuators =
    p.StrictEqual ∷ p.StrictNotEqual ∷ p.Arrow ∷ p.AndAnd ∷ p.OrOr ∷ p.OpenBrace ∷ p.CloseBrace ∷ p.OpenParen
    ∷ p.CloseParen ∷ p.OpenBracket ∷ p.CloseBracket ∷ p.Comma ∷ p.Semicolon ∷ p.Colon ∷ p.Dot ∷ p.Question ∷ p.Not
    ∷ p.Assign ∷ p.Plus ∷ p.Less ∷ p.Greater ∷ p.SlashGreater ∷ p.LessSlash ∷ []

numbered : (sign : Punctuator) → get_or punctuators (punctuator_number sign) p.StrictEqual ≡ sign
unfolding punctuators
numbered p.StrictEqual = refl
numbered p.StrictNotEqual = refl
numbered p.Arrow = refl
numbered p.AndAnd = refl
numbered p.OrOr = refl
numbered p.OpenBrace = refl
numbered p.CloseBrace = refl
numbered p.OpenParen = refl
numbered p.CloseParen = refl
numbered p.OpenBracket = refl
numbered p.CloseBracket = refl
numbered p.Comma = refl
numbered p.Semicolon = refl
numbered p.Colon = refl
numbered p.Dot = refl
numbered p.Question = refl
numbered p.Not = refl
numbered p.Assign = refl
numbered p.Plus = refl
numbered p.Less = refl
numbered p.Greater = refl
numbered p.SlashGreater = refl
numbered p.LessSlash = refl

pub sign_is : (sign : Punctuator) (word : Word) → is_sign sign word ≡ true → word ≡ w.Sign sign
sign_is sign (w.Sign other) h =
    let same = eqb-true (punctuator_number sign) (punctuator_number other) h in
    ap w.Sign (sym (numbered other) ∙ ap (λ (k : ℕ). get_or punctuators k p.StrictEqual) (sym same) ∙ numbered sign)
sign_is sign (w.Name text place) h = absurd (cc)
sign_is sign (w.Number z) h = absurd (cc)
sign_is sign (w.Text x) h = absurd (cc)
sign_is sign (w.JsxText x) h = absurd (cc)

pub on_sign : (sign : Punctuator) (word : Word) (words : List Word → List Word) (x y : Moved)
    → Good words (w.Sign sign) x → Good words word y → Good words word (if is_sign sign word then x else y)
on_sign sign word words x y yes_ no_ =
    if_true (is_sign sign word) x y (Good words word) (λ is. subst (λ (v : Word). Good words v x) (sym (sign_is sign word is)) yes_) no_

pub both_is : (a b_ : Bool) → a && b_ ≡ true → (a ≡ true) × (b_ ≡ true)
both_is true b_ h = (refl, h)
both_is false b_ h = absurd (cc)

-- the same, where a second test follows
on_sign_and : (sign : Punctuator) (word : Word) (also : Bool) (words : List Word → List Word) (x y : Moved)
    → (also ≡ true → Good words (w.Sign sign) x) → Good words word y → Good words word (if is_sign sign word && also then x else y)
on_sign_and sign word also words x y yes_ no_ =
    if_true (is_sign sign word && also) x y (Good words word)
    (λ is. let parts = both_is (is_sign sign word) also is in
    subst (λ (v : Word). Good words v x) (sym (sign_is sign word parts.0)) (yes_ parts.1)) no_

-- the same, where the step looks at the word again
on_sign_at : (sign : Punctuator) (word : Word) (words : List Word → List Word) (x : Word → Moved) (y : Moved)
    → Good words (w.Sign sign) (x (w.Sign sign)) → Good words word y → Good words word (if is_sign sign word then x word else y)
on_sign_at sign word words x y yes_ no_ =
    if_true (is_sign sign word) (x word) y (Good words word)
    (λ is. subst (λ (v : Word). Good words v (x v)) (sym (sign_is sign word is)) yes_) no_

pub text_is : (x y : List ℕ) → bytes_eq x y ≡ true → x ≡ y
text_is x y h = (bytes_eq-Decides x y).0 h

on_word : (text : List ℕ) (word : Word) (words : List Word → List Word) (x y : Moved)
    → ((place : ℕ) → Good words (w.Name text place) x) → Good words word y → Good words word (if is_word text word then x else y)
on_word text (w.Name other place) words x y yes_ no_ =
    if_true (bytes_eq other text) x y (Good words (w.Name other place))
    (λ is. subst (λ (v : List ℕ). Good words (w.Name v place) x) (sym (text_is other text is)) (yes_ place)) no_
on_word text (w.Sign sign) words x y yes_ no_ = no_
on_word text (w.Number z) words x y yes_ no_ = no_
on_word text (w.Text v) words x y yes_ no_ = no_
on_word text (w.JsxText v) words x y yes_ no_ = no_

on_code_name : (k : ℕ) (word : Word) (words : List Word → List Word) (next : Name → State)
    → ((name : Name) → IsName name → Kept words (name_word name) (next name)) → Good words word (name_then (code_name k word) next)
on_code_name k (w.Name text place) words next yes_ = named_ (is_reserved text) refl
  where
    named_ : (b_ : Bool) → is_reserved text ≡ b_ → Good words (w.Name text place) (name_then (if b_ then Err wanted.Token else Ok (record { text = text; at = place })) next)
    named_ true h = tt
    named_ false h = yes_ (record { text = text; at = place }) h
on_code_name k (w.Sign sign) words next yes_ = tt
on_code_name k (w.Number z) words next yes_ = tt
on_code_name k (w.Text v) words next yes_ = tt
on_code_name k (w.JsxText v) words next yes_ = tt

on_any_name : (k : ℕ) (word : Word) (words : List Word → List Word) (next : Name → State)
    → ((name : Name) → Kept words (name_word name) (next name)) → Good words word (name_then (any_name k word) next)
on_any_name k (w.Name text place) words next yes_ = yes_ (record { text = text; at = place })
on_any_name k (w.Sign sign) words next yes_ = tt
on_any_name k (w.Number z) words next yes_ = tt
on_any_name k (w.Text v) words next yes_ = tt
on_any_name k (w.JsxText v) words next yes_ = tt

-- Outside expressions.

abbrev here_outside : (x : Outside) (fs : List Frame) → At (position.Outside x) fs → List Word → List Word
here_outside x fs z = at_words (position.Outside x) fs z

pub sound_outside : (x : Outside) (fs : List Frame) (z : At (position.Outside x) fs) (word : Word)
    → Good (here_outside x fs z) word (steps.step_outside x fs word)
sound_outside (o.File components) fs z word = on_word (codes "function") word (here_outside (o.File components) fs z) _ _
    (λ place. record { at = record { here = (z.here, place); below = z.below }; words_are = λ more. refl }) tt
sound_outside (o.Name components) fs z word = on_code_name 0 word (here_outside (o.Name components) fs z) _
    (λ name named. record { at = record { here = (record { before = z.here.0; place = z.here.1; named = named }, refl); below = z.below }; words_are = λ more. refl })
sound_outside (o.Open x) fs z word = on_sign p.OpenParen word (here_outside (o.Open x) fs z) _ _
    (record { at = record { here = z.here; below = z.below }; words_are = λ more. refl }) tt
sound_outside (o.Properties x) fs z word = on_sign p.OpenBrace word (here_outside (o.Properties x) fs z) _ _
    (record { at = record { here = z.here; below = z.below }; words_are = λ more. refl })
    (on_sign p.CloseParen word (here_outside (o.Properties x) fs z) _ _
    (record { at = record { here = (z.here.0, record { syntax = g.no_properties; is = sym z.here.1; fits = tt }); below = z.below }; words_are = λ more. refl }) tt)
sound_outside (o.FirstProperty x) fs z word = on_sign p.CloseBrace word (here_outside (o.FirstProperty x) fs z) _ _
    (record { at = record { here = (z.here.0, record { syntax = g.empty_properties; is = sym z.here.1; fits = tt }); below = z.below }; words_are = λ more. refl })
    (on_code_name 2 word (here_outside (o.FirstProperty x) fs z) _
    (λ name named. record {
      at = record {
        here = (
          record { before = z.here.0.before; place = z.here.0.place; named = z.here.0.named },
          record { syntax = g.first_name name; is = ap (λ (xs : List Name). xs ++ name ∷ []) (sym z.here.1); fits = named },
        );
        below = z.below;
      };
      words_are = λ more. refl;
    }))
sound_outside (o.NextProperty x) fs z word = on_code_name 2 word (here_outside (o.NextProperty x) fs z) _
    (λ name named. record {
      at = record {
        here = (
          record { before = z.here.0.before; place = z.here.0.place; named = z.here.0.named },
          record { syntax = g.next_name z.here.1.syntax name; is = ap (λ (xs : List Name). xs ++ name ∷ []) z.here.1.is; fits = (z.here.1.fits, named) },
        );
        below = z.below;
      };
      words_are = λ more. refl;
    })
sound_outside (o.PropertyEnd x) fs z word = on_sign p.Comma word (here_outside (o.PropertyEnd x) fs z) _ _
    (record { at = record { here = z.here; below = z.below }; words_are = λ more. refl })
    (on_sign p.CloseBrace word (here_outside (o.PropertyEnd x) fs z) _ _
    (record { at = record { here = (z.here.0, record { syntax = g.braced_properties z.here.1.syntax; is = z.here.1.is; fits = z.here.1.fits }); below = z.below }; words_are = λ more. refl }) tt)
sound_outside (o.Close x) fs z word = on_sign p.CloseParen word (here_outside (o.Close x) fs z) _ _
    (record { at = record { here = z.here; below = z.below }; words_are = λ more. refl }) tt
sound_outside (o.Body x) fs z word = on_sign p.OpenBrace word (here_outside (o.Body x) fs z) _ _
    (record {
      at = record {
        here = record { head = z.here.0; properties = z.here.1; stmts = record { syntax = g.no_statement; is = refl; fits = tt } };
        below = z.below;
      };
      words_are = λ more. refl;
    }) tt
sound_outside (o.BodyEnd components) fs z word = on_sign p.CloseBrace word (here_outside (o.BodyEnd components) fs z) _ _
    (let u = node_read z.here.result 1 true z.here.read in
    let x = z.here.draft.signature in
    let made : List Component → List Name → List Stmt → Part → List Component = λ cs ps ss v.
    cs ++ record { name = x.name; properties = ps; stmts = ss; result = node_of v } ∷ [] in
    let r = z.here.body in
    record {
      at = record {
        here = record {
          syntax = g.next_component r.head.before.syntax (g.function r.head.place x.name r.properties.syntax r.stmts.syntax z.here.place u.read.syntax);
          is = ap (λ (cs : List Component). made cs (tree g.properties r.properties.syntax) (tree g.statements r.stmts.syntax) (tree g.node u.read.syntax)) r.head.before.is
              ∙ ap3 (made x.components) r.properties.is r.stmts.is u.read.is
              ∙ z.here.is;
          fits = (r.head.before.fits, (r.head.named, r.properties.fits, r.stmts.fits, u.read.fits));
        };
        below = z.below;
      };
      words_are = λ more. ap (λ (ws : List Word). stack_words fs file z.below (body_words z.here.draft r (w.Name (codes "return") z.here.place ∷ ws))) (u.words_are (w.Sign p.Semicolon ∷ w.Sign p.CloseBrace ∷ more));
    }) tt

abbrev pub fresh_before : (place : Bool) (d : ℕ) → Before (fresh place d)
fresh_before place d = record { ors = inl refl; ands = inl refl; left = tt; sums = inl refl; nots = tt }

-- The end of an expression.

abbrev ended : (frame : Frame) (fs : List Frame) (place : Bool) (d : ℕ) → Stacked (frame ∷ fs) (part place d) → (x : Part) → PartRead x place d → List Word → List Word
ended frame fs place d z x r more = stack_words (frame ∷ fs) (part place d) z (part_words x place d r more)

-- a part where its place and depth are known
abbrev pub part_at : (x : Part) (pl other : Bool) (d e_ : ℕ) → pl ≡ other → d ≡ e_ → PartRead x pl d → PartRead x other e_
part_at (Value x) pl other d e_ p_ q_ r = at_depth g.expression x d e_ q_ r
part_at (Other x) pl other d e_ p_ q_ r = (sym p_ ∙ r.0, at_depth g.node (Other x) d e_ q_ r.1)

pub part_at-words : (x : Part) (pl other : Bool) (d e_ : ℕ) (p_ : pl ≡ other) (q_ : d ≡ e_) (r : PartRead x pl d) (more : List Word)
    → part_words x other e_ (part_at x pl other d e_ p_ q_ r) more ≡ part_words x pl d r more
part_at-words (Value x) pl other d e_ p_ q_ r more = refl
part_at-words (Other x) pl other d e_ p_ q_ r more = refl

pub true_false : true ≡ false → ⊥
true_false is = cc

abbrev pub body_with : (draft : Draft) (stmt : Stmt) (r : Body draft) (c : Syntax g.statement) → tree g.statement c ≡ stmt → Fits g.statement c 1
    → Body (with_stmt draft stmt)
body_with draft stmt r c is fits = record {
  head = r.head;
  properties = r.properties;
  stmts = record { syntax = g.next_statement r.stmts.syntax c; is = ap2 (λ (xs : List Stmt) (x : Stmt). xs ++ x ∷ []) r.stmts.is is; fits = (r.stmts.fits, fits) };
}

abbrev pub kid_read : (x : Opened) (r : OpenedRead x) (node : Node) (c : Syntax g.child) → tree g.child c ≡ node ∷ [] → Fits g.child c (x.depth + 1)
    → holds_children x.name ≡ true → OpenedRead (steps.with_kid x node)
kid_read x r node c is fits holds = record {
  room = r.room;
  tag = r.tag;
  kids = record { syntax = g.next_child r.kids.syntax c; is = ap2 (λ (xs ys : List Node). xs ++ ys) r.kids.is is; fits = (r.kids.fits, fits) };
  only = λ no. absurd (true_false (sym holds ∙ no));
}

abbrev pub attribute_read : (tag : Tag) (r : TagRead tag) (name : Name) (node : Node) (words : List Word → List Word)
    → ReadAs (g.attribute (is_suspense tag.name.text)) (entry name node) (tag.depth + 1) words → TagRead (steps.with_attribute tag name node)
attribute_read tag r name node words u = record {
  room = r.room;
  props = record {
    syntax = g.next_attribute r.props.syntax u.read.syntax;
    is = ap2 (λ (xs : List (Entry Node)) (x : Entry Node). xs ++ x ∷ []) r.props.is u.read.is;
    fits = (r.props.fits, u.read.fits);
  };
}

abbrev map_read : (x : Mapping) (r : Mapped x) (item : Name) (number_ : Option Name) (body : Part) → IsName item → AreNames number_
    → (c : Syntax g.node) → tree g.node c ≡ body → Fits g.node c (x.pending.depth + 1)
    → Read g.node_primary (Other (steps.map_of x item number_ body)) x.pending.depth
map_read x r item number_ body named numbered_ c is fits = record {
  syntax = g.map_node r.list r.place item number_ c;
  is = ap2 (λ (l : Expr) (v : Part). Other (n.Map l item number_ (node_of v))) r.is is;
  fits = (r.fits, r.room, named, numbered_, fits);
}

map_read-words : (x : Mapping) (r : Mapped x) (item : Name) (number_ : Option Name) (c : Syntax g.node) (more : List Word)
    → spell g.node_primary (g.map_node r.list r.place item number_ c) more
    ≡ spell g.member r.list (w.Sign p.Dot ∷ w.Name (codes "map") r.place ∷ w.Sign p.OpenParen ∷ w.Sign p.OpenParen
    ∷ names_words item number_ (w.Sign p.Arrow ∷ spell g.node c (w.Sign p.CloseParen ∷ more)))
map_read-words x r item None c more = refl
map_read-words x r item (Some number_) c more = refl

abbrev part_true : (x : Part) (pl : Bool) (d e_ : ℕ) → d ≡ e_ → PartRead x pl d → PartRead x true e_
part_true (Value x) pl d e_ q_ r = at_depth g.expression x d e_ q_ r
part_true (Other x) pl d e_ q_ r = (refl, at_depth g.node (Other x) d e_ q_ r.1)

part_true-words : (x : Part) (pl : Bool) (d e_ : ℕ) (q_ : d ≡ e_) (r : PartRead x pl d) (more : List Word)
    → part_words x true e_ (part_true x pl d e_ q_ r) more ≡ part_words x pl d r more
part_true-words (Value x) pl d e_ q_ r more = refl
part_true-words (Other x) pl d e_ q_ r more = refl

pub close_sound : (frame : Frame) (fs : List Frame) (place : Bool) (d : ℕ) (z : Stacked (frame ∷ fs) (part place d)) (x : Part) (r : PartRead x place d)
    (word : Word) → Good (ended frame fs place d z x r) word (close frame x fs word)
close_sound (f.Use draft name) fs place d z (Value v) r word = on_sign p.CloseParen word (ended (f.Use draft name) fs place d z (Value v) r) _ _
    (record {
      at = record {
        here = record {
          before = draft;
          body = z.0.body;
          place = z.0.place;
          name = name;
          named = z.0.named;
          used = z.0.used;
          value = v;
          read = at_depth g.expression v d 2 z.0.depth_is r;
          is = refl;
        };
        below = z.1;
      };
      words_are = λ more. refl;
    }) tt
close_sound (f.Use draft name) fs place d z (Other v) r word = on_sign p.CloseParen word (ended (f.Use draft name) fs place d z (Other v) r) _ _ tt tt
close_sound (f.Bind draft name) fs place d z (Value v) r word = on_sign p.Semicolon word (ended (f.Bind draft name) fs place d z (Value v) r) _ _
    (record {
      at = record {
        here = body_with draft (s.Bind name v) z.0.body (g.bind z.0.place name r.syntax) (ap (s.Bind name) r.is)
            (z.0.named, subst (λ (k : ℕ). Fits g.expression r.syntax k) z.0.depth_is r.fits);
        below = z.1;
      };
      words_are = λ more. refl;
    }) tt
close_sound (f.Bind draft name) fs place d z (Other v) r word = on_sign p.Semicolon word (ended (f.Bind draft name) fs place d z (Other v) r) _ _ tt tt
close_sound (f.If draft) fs place d z (Value v) r word = on_sign p.CloseParen word (ended (f.If draft) fs place d z (Value v) r) _ _
    (record {
      at = record { here = (z.0.body, z.0.place, at_depth g.expression v d 2 z.0.depth_is r); below = z.1 };
      words_are = λ more. refl;
    }) tt
close_sound (f.If draft) fs place d z (Other v) r word = on_sign p.CloseParen word (ended (f.If draft) fs place d z (Other v) r) _ _ tt tt
close_sound (f.Throw draft test) fs place d z (Value v) r word = on_sign p.Semicolon word (ended (f.Throw draft test) fs place d z (Value v) r) _ _
    (record {
      at = record {
        here = body_with draft (s.Throw test v) z.0.body (g.throw z.0.place z.0.tested.syntax z.0.thrown r.syntax) (ap2 s.Throw z.0.tested.is r.is)
            (z.0.tested.fits, subst (λ (k : ℕ). Fits g.expression r.syntax k) z.0.depth_is r.fits);
        below = z.1;
      };
      words_are = λ more. refl;
    }) tt
close_sound (f.Throw draft test) fs place d z (Other v) r word = on_sign p.Semicolon word (ended (f.Throw draft test) fs place d z (Other v) r) _ _ tt tt
close_sound (f.Return draft) fs place d z x r word = on_sign p.Semicolon word (ended (f.Return draft) fs place d z x r) _ _
    (record {
      at = record {
        here = record { draft = draft; body = z.0.body; place = z.0.place; result = x; read = part_true x place d 1 z.0.depth_is r; is = refl };
        below = z.1;
      };
      words_are = λ more. ap (λ (ws : List Word). stack_words fs file z.1 (body_words draft z.0.body (w.Name (codes "return") z.0.place ∷ ws)))
          (part_true-words x place d 1 z.0.depth_is r (w.Sign p.Semicolon ∷ more));
    }) tt
close_sound (f.Parens q) fs place d z (Value v) r word = on_sign p.CloseParen word (ended (f.Parens q) fs place d z (Value v) r) _ _
    (record {
      at = record {
        here = record {
          before = z.0.before;
          read = record {
            syntax = g.no_member (g.parens r.syntax);
            is = ap operand_of r.is;
            fits = (z.0.room, subst (λ (k : ℕ). Fits g.expression r.syntax k) z.0.depth_is r.fits);
          };
        };
        below = z.1;
      };
      words_are = λ more. refl;
    }) tt
close_sound (f.Parens q) fs place d z (Other v) r word = on_sign p.CloseParen word (ended (f.Parens q) fs place d z (Other v) r) _ _
    (let allows = sym z.0.place_is ∙ r.0 in
    record {
      at = record {
        here = record {
          before = z.0.before;
          allows = allows;
          read = record {
            syntax = g.node_parens r.1.syntax;
            is = r.1.is;
            fits = (
              subst HasRoom (nesting-allows q allows) z.0.room,
              subst (λ (k : ℕ). Fits g.node r.1.syntax k) (z.0.depth_is ∙ ap (λ (k : ℕ). k + 1) (nesting-allows q allows)) r.1.fits,
            );
          };
        };
        below = z.1;
      };
      words_are = λ more. refl;
    }) tt
close_sound (f.Yes c) fs place d z x r word = on_sign p.Colon word (ended (f.Yes c) fs place d z x r) _ _
    (record {
      at = record {
        here = fresh_before c.place (c.depth + 1);
        below = (
          record {
            test = z.0.test;
            one_read = part_at x place c.place d (c.depth + 1) z.0.place_is z.0.depth_is r;
            place_is = refl;
            depth_is = refl;
          },
          z.1,
        );
      };
      words_are = λ more. ap (λ (ws : List Word). stack_words fs (part c.place c.depth) z.1 (spell g.disjunction z.0.test.read.syntax (w.Sign p.Question ∷ ws)))
          (part_at-words x place c.place d (c.depth + 1) z.0.place_is z.0.depth_is r (w.Sign p.Colon ∷ more));
    }) tt
close_sound (f.No c one) fs place d z x r word = tt
close_sound (f.Item q items) fs place d z x r word =
    let there = part_at x place place d (q.depth + 1) refl z.0.depth_is r in
    let list = listed_closed items (q.depth + 1) z.0.listed x place there in
    let words_ : (more : List Word) → w.Sign p.OpenBracket ∷ spell g.node_list list.0.syntax more ≡ listed_words items (q.depth + 1) z.0.listed (part_words x place d r more) =
    λ more. list.1 more ∙ ap (listed_words items (q.depth + 1) z.0.listed) (part_at-words x place place d (q.depth + 1) refl z.0.depth_is r more) in
    on_sign p.Comma word (ended (f.Item q items) fs place d z x r) _ _
    (record {
      at = record { here = (record { before = z.0.before; allows = z.0.allows; room = z.0.room }, list.0); below = z.1 };
      words_are = λ more. ap (λ (ws : List Word). stack_words fs (part q.place q.depth) z.1 (before_words q z.0.before ws)) (words_ (w.Sign p.Comma ∷ more));
    })
    (on_sign p.CloseBracket word (ended (f.Item q items) fs place d z x r) _ _
    (record {
      at = record {
        here = record {
          before = z.0.before;
          allows = z.0.allows;
          read = record { syntax = g.array list.0.syntax false; is = ap (λ (xs : List Node). Other (n.Array xs)) list.0.is; fits = (z.0.room, list.0.fits) };
        };
        below = z.1;
      };
      words_are = λ more. ap (λ (ws : List Word). stack_words fs (part q.place q.depth) z.1 (before_words q z.0.before ws)) (words_ (w.Sign p.CloseBracket ∷ more));
    }) tt)
close_sound (f.MapBody x item number_) fs place d z body r word = on_sign p.CloseParen word (ended (f.MapBody x item number_) fs place d z body r) _ _
    (let u = node_read body d place r in
    let fits = subst (λ (k : ℕ). Fits g.node u.read.syntax k) z.0.depth_is u.read.fits in
    record {
      at = record {
        here = record {
          before = z.0.mapped.before;
          allows = z.0.mapped.allows;
          read = map_read x z.0.mapped item number_ body z.0.item_named z.0.number_named u.read.syntax u.read.is fits;
        };
        below = z.1;
      };
      words_are = λ more. ap (λ (ws : List Word). stack_words fs (part x.pending.place x.pending.depth) z.1 (before_words x.pending z.0.mapped.before ws))
          (map_read-words x z.0.mapped item number_ u.read.syntax more
          ∙ ap (λ (ws : List Word). spell g.member z.0.mapped.list (w.Sign p.Dot ∷ w.Name (codes "map") z.0.mapped.place ∷ w.Sign p.OpenParen ∷ w.Sign p.OpenParen
          ∷ names_words item number_ (w.Sign p.Arrow ∷ ws))) (u.words_are (w.Sign p.CloseParen ∷ more)));
    }) tt
close_sound (f.Attribute tag name) fs place d z x r word = on_sign p.CloseBrace word (ended (f.Attribute tag name) fs place d z x r) _ _
    (let there = part_at x place place d (tag.depth + 1 + 1) refl z.0.depth_is r in
    let u = braced_read tag name x (tag.depth + 1) place there z.0.place_is z.0.room in
    record {
      at = record { here = attribute_read tag z.0.tag_read name (node_of x) _ u; below = z.1 };
      words_are = λ more. ap (λ (ws : List Word). stack_words fs (elem tag.depth) z.1 (tag_words tag z.0.tag_read ws))
          (u.words_are more ∙ ap (λ (ws : List Word). name_word name ∷ w.Sign p.Assign ∷ w.Sign p.OpenBrace ∷ ws)
          (part_at-words x place place d (tag.depth + 1 + 1) refl z.0.depth_is r (w.Sign p.CloseBrace ∷ more)));
    }) tt
close_sound (f.Child x) fs place d z v r word = on_sign p.CloseBrace word (ended (f.Child x) fs place d z v r) _ _
    (let u = node_read v d place r in
    let fits = subst (λ (k : ℕ). Fits g.node u.read.syntax k) z.0.depth_is u.read.fits in
    record {
      at = record {
        here = kid_read x z.0.opened (node_of v) (g.braces u.read.syntax) (ap (λ (y : Part). node_of y ∷ []) u.read.is) (z.0.room, fits) z.0.holds;
        below = z.1;
      };
      words_are = λ more. ap (λ (ws : List Word). stack_words fs (elem x.depth) z.1 (opened_words x z.0.opened (w.Sign p.OpenBrace ∷ ws))) (u.words_are (w.Sign p.CloseBrace ∷ more));
    }) tt
close_sound (f.Operand q) fs place d z x r word = tt
close_sound (f.Kid opened) fs place d z x r word = tt

abbrev pub finished : (fs : List Frame) (place : Bool) (d : ℕ) → Stacked fs (part place d) → (x : Part) → PartRead x place d → List Word → List Word
finished fs place d z x r more = stack_words fs (part place d) z (part_words x place d r more)

finish_sound : (fs : List Frame) (place : Bool) (d : ℕ) (z : Stacked fs (part place d)) (x : Part) (r : PartRead x place d)
    (word : Word) → Good (finished fs place d z x r) word (finish x fs word)
finish_sound [] place d z x r word = tt
finish_sound (f.No c one ∷ fs) place d z x r word =
    let there = part_at x place c.place d (c.depth + 1) z.0.place_is z.0.depth_is r in
    let u = choose_closed c one x z.0.test z.0.one_read there in
    Good-as (finished fs c.place c.depth z.1 (choose_part c.test one x) u.read) (finished (f.No c one ∷ fs) place d z x r) word
    (finish (choose_part c.test one x) fs word)
    (λ more. ap (stack_words fs (part c.place c.depth) z.1) (u.words_are more
    ∙ ap (λ (ws : List Word). spell g.disjunction z.0.test.read.syntax (w.Sign p.Question ∷ part_words one c.place (c.depth + 1) z.0.one_read (w.Sign p.Colon ∷ ws)))
    (part_at-words x place c.place d (c.depth + 1) z.0.place_is z.0.depth_is r more)))
    (finish_sound fs c.place c.depth z.1 (choose_part c.test one x) u.read word)
finish_sound (frame ∷ fs) place d z x r word = close_sound frame fs place d z x r word

-- Within an expression.

abbrev here_inside : (x : Inside) (fs : List Frame) → At (position.Inside x) fs → List Word → List Word
here_inside x fs z = at_words (position.Inside x) fs z

no_left : (left : Option Left) (d : ℕ) (l : Lefts left d) → left ≡ None → (more : List Word) → left_words left d l more ≡ more
no_left None d l h more = refl
no_left (Some left) d l h more = absurd (cc)

-- `===` or `!==`, where neither came before
equal_sound : (q : Pending) (d : Dotted) (fs : List Frame) (z : At (position.Inside (i.Value q d)) fs) (negated : Bool) (o_ : Option Left) → q.left ≡ o_
    → Good (here_inside (i.Value q d) fs z) (w.Sign (equal_sign negated)) (steps.step_equal o_ (steps.after_equal q d negated) fs)
equal_sound q d fs z negated (Some left) is = tt
equal_sound q d fs z negated None is =
    let u = sums_closed q d z.here in
    record {
      at = record {
        here = record {
          ors = z.here.before.ors;
          ands = z.here.before.ands;
          left = record { operands = sums_of q d; read = u.read; is = refl };
          sums = inl refl;
          nots = tt;
        };
        below = z.below;
      };
      words_are = λ more.
          ap (λ (ws : List Word). stack_words fs (part q.place q.depth) z.below (ors_words q.ors q.depth z.here.before.ors (ands_words q.ands q.depth z.here.before.ands ws)))
          (u.words_are (w.Sign (equal_sign negated) ∷ more)
          ∙ sym (no_left q.left q.depth z.here.before.left is (sums_words q.sums q.depth z.here.before.sums (nots_words q.nots (spell g.member z.here.read.syntax (w.Sign (equal_sign negated) ∷ more))))));
    }

question_sound : (q : Pending) (d : Dotted) (fs : List Frame) (z : At (position.Inside (i.Value q d)) fs)
    → Good (here_inside (i.Value q d) fs z) (w.Sign p.Question) (steps.step_question q d fs)
question_sound q d fs z = if_true (has_room q.depth) _ _ (Good (here_inside (i.Value q d) fs z) (w.Sign p.Question))
    (λ room.
    let u = ors_closed q d z.here in
    record {
      at = record {
        here = fresh_before q.place (q.depth + 1);
        below = (record { test = record { operands = ors_of q d; read = u.read; is = refl; room = room }; place_is = refl; depth_is = refl }, z.below);
      };
      words_are = λ more. ap (stack_words fs (part q.place q.depth) z.below) (u.words_are (w.Sign p.Question ∷ more));
    }) tt

-- members that end in `.map`
record MapList (c : Syntax g.member) (d : ℕ) (names : List (List ℕ)) : Type 0 where
  list : Syntax g.member
  place : ℕ
  is : tree g.member list ≡ record { of = (tree g.member c).of; names = names }
  fits : Fits g.member list d
  words_are : (more : List Word) → spell g.member list (w.Sign p.Dot ∷ w.Name (codes "map") place ∷ more) ≡ spell g.member c more

chosen_is : (b_ : Bool) (xs ys : List (List ℕ)) → (if b_ then Some xs else None) ≡ Some ys → (b_ ≡ true) × (xs ≡ ys)
chosen_is true xs ys h = (refl, cc)
chosen_is false xs ys h = absurd (cc)

map_list : (c : Syntax g.member) (d : ℕ) (names : List (List ℕ)) → names_before_map (tree g.member c).names ≡ Some names → Fits g.member c d → MapList c d names
map_list (g.no_member c) d names h fits = absurd (cc)
map_list (g.dot c x) d names h fits =
    let parts = chosen_is (bytes_eq x.text (codes "map")) (tree g.member c).names names (sym (names_snoc (tree g.member c).names x.text) ∙ h) in
    record {
      list = c;
      place = x.at;
      is = ap (λ (xs : List (List ℕ)). record { of = (tree g.member c).of; names = xs }) parts.1;
      fits = fits;
      words_are = λ more. ap (λ (text : List ℕ). spell g.member c (w.Sign p.Dot ∷ w.Name text x.at ∷ more)) (sym (text_is x.text (codes "map") parts.0));
    }

call_sound : (q : Pending) (d : Dotted) (fs : List Frame) (z : At (position.Inside (i.Value q d)) fs) (o_ : Option (List (List ℕ)))
    → names_before_map d.names ≡ o_
    → Good (here_inside (i.Value q d) fs z) (w.Sign p.OpenParen) (steps.step_open q d o_ fs (w.Sign p.OpenParen))
call_sound q d fs z None is =
    let u = value_closed q d z.here in
    Good-as _ _ (w.Sign p.OpenParen) (finish (Value (value_of q d)) fs (w.Sign p.OpenParen))
    (λ more. ap (stack_words fs (part q.place q.depth) z.below) (u.words_are more))
    (finish_sound fs q.place q.depth z.below (Value (value_of q d)) u.read (w.Sign p.OpenParen))
call_sound q d fs z (Some names) is = if_true (has_room q.depth) _ _ (Good (here_inside (i.Value q d) fs z) (w.Sign p.OpenParen))
    (λ room. if_true (allows_node q && has_room (q.depth + 1)) _ _ (Good (here_inside (i.Value q d) fs z) (w.Sign p.OpenParen))
    (λ both_ok.
    let parts = both_is (allows_node q) (has_room (q.depth + 1)) both_ok in
    let found = map_list z.here.read.syntax (nesting q) names (ap (λ (v : Dotted). names_before_map v.names) z.here.read.is ∙ is) z.here.read.fits in
    record {
      at = record {
        here = record {
          before = z.here.before;
          allows = parts.0;
          list = found.list;
          is = ap member_of found.is ∙ ap (λ (v : Dotted). members_of v.of names) z.here.read.is;
          fits = subst (λ (k : ℕ). Fits g.member found.list k) (nesting-allows q parts.0) found.fits;
          room = parts.1;
          place = found.place;
        };
        below = z.below;
      };
      words_are = λ more. ap (λ (ws : List Word). stack_words fs (part q.place q.depth) z.below (before_words q z.here.before ws)) (found.words_are (w.Sign p.OpenParen ∷ more));
    }) tt) tt

value_sound : (q : Pending) (d : Dotted) (fs : List Frame) (z : At (position.Inside (i.Value q d)) fs) (word : Word)
    → Good (here_inside (i.Value q d) fs z) word (step_value q d fs word)
value_sound q d fs z word =
    let here = here_inside (i.Value q d) fs z in
    let r = z.here.before in
    on_sign p.Dot word here _ _ (record { at = record { here = z.here; below = z.below }; words_are = λ more. refl })
    (on_sign p.Plus word here _ _
    (let u = sums_closed q d z.here in record {
      at = record { here = record { ors = r.ors; ands = r.ands; left = r.left; sums = inr u.read; nots = tt }; below = z.below };
      words_are = λ more. ap (λ (ws : List Word). stack_words fs (part q.place q.depth) z.below
          (ors_words q.ors q.depth r.ors (ands_words q.ands q.depth r.ands (left_words q.left q.depth r.left ws)))) (u.words_are (w.Sign p.Plus ∷ more));
    })
    (on_sign p.StrictEqual word here _ _ (equal_sound q d fs z false q.left refl)
    (on_sign p.StrictNotEqual word here _ _ (equal_sound q d fs z true q.left refl)
    (on_sign p.AndAnd word here _ _
    (let u = ands_closed q d z.here in record {
      at = record { here = record { ors = r.ors; ands = inr u.read; left = tt; sums = inl refl; nots = tt }; below = z.below };
      words_are = λ more. ap (λ (ws : List Word). stack_words fs (part q.place q.depth) z.below (ors_words q.ors q.depth r.ors ws)) (u.words_are (w.Sign p.AndAnd ∷ more));
    })
    (on_sign p.OrOr word here _ _
    (let u = ors_closed q d z.here in record {
      at = record { here = record { ors = inr u.read; ands = inl refl; left = tt; sums = inl refl; nots = tt }; below = z.below };
      words_are = λ more. ap (stack_words fs (part q.place q.depth) z.below) (u.words_are (w.Sign p.OrOr ∷ more));
    })
    (on_sign p.Question word here _ _ (question_sound q d fs z)
    (on_sign_at p.OpenParen word here (λ v. steps.step_open q d (names_before_map d.names) fs v) _ (call_sound q d fs z (names_before_map d.names) refl)
    (let u = value_closed q d z.here in
    Good-as _ here word (finish (Value (value_of q d)) fs word)
    (λ more. ap (stack_words fs (part q.place q.depth) z.below) (u.words_are more))
    (finish_sound fs q.place q.depth z.below (Value (value_of q d)) u.read word)))))))))

abbrev operand_at : (q : Pending) (r : Before q) (x : Expr) → Read g.primary x (nesting q) → AtValue q (operand_of x)
operand_at q r x c = record { before = r; read = record { syntax = g.no_member c.syntax; is = ap operand_of c.is; fits = c.fits } }

on_text : (text lit : List ℕ) (place : ℕ) (words : List Word → List Word) (x y : Moved)
    → Good words (w.Name lit place) x → Good words (w.Name text place) y → Good words (w.Name text place) (if bytes_eq text lit then x else y)
on_text text lit place words x y yes_ no_ =
    if_true (bytes_eq text lit) x y (Good words (w.Name text place))
    (λ is. subst (λ (v : List ℕ). Good words (w.Name v place) x) (sym (text_is text lit is)) yes_) no_

operand_kept : (q : Pending) (fs : List Frame) (z : At (position.Inside (i.Operand q)) fs) (word : Word) (x : Expr) (c : Read g.primary x (nesting q))
    → ((more : List Word) → spell g.primary c.syntax more ≡ word ∷ more) → Good (here_inside (i.Operand q) fs z) word (operand q x fs)
operand_kept q fs z word x c spelled = record {
  at = record { here = operand_at q z.here x c; below = z.below };
  words_are = λ more. ap (λ (ws : List Word). stack_words fs (part q.place q.depth) z.below (before_words q z.here ws)) (spelled more);
}

sign_sound : (q : Pending) (fs : List Frame) (z : At (position.Inside (i.Operand q)) fs) (word : Word)
    → Good (here_inside (i.Operand q) fs z) word (steps.step_operand_sign q fs word)
sign_sound q fs z word =
    let here = here_inside (i.Operand q) fs z in
    on_sign p.OpenParen word here _ _
    (if_true (has_room (nesting q)) _ _ (Good here (w.Sign p.OpenParen)) (λ room. record {
      at = record {
        here = fresh_before (allows_node q) (nesting q + 1);
        below = (record { before = z.here; place_is = refl; depth_is = refl; room = room }, z.below);
      };
      words_are = λ more. refl;
    }) tt)
    (on_sign p.Not word here _ _
    (if_true (has_room (nesting q)) _ _ (Good here (w.Sign p.Not)) (λ room. record {
      at = record {
        here = record { ors = z.here.ors; ands = z.here.ands; left = z.here.left; sums = z.here.sums; nots = Nots-add q.nots q.depth z.here.nots room };
        below = z.below;
      };
      words_are = λ more. ap (λ (ws : List Word). stack_words fs (part q.place q.depth) z.below
          (ors_words q.ors q.depth z.here.ors (ands_words q.ands q.depth z.here.ands (left_words q.left q.depth z.here.left (sums_words q.sums q.depth z.here.sums ws)))))
          (nots_words-add q.nots more);
    }) tt)
    (on_sign p.OpenBracket word here _ _
    (if_true (has_room (nesting q)) _ _ (Good here (w.Sign p.OpenBracket)) (λ room. if_true (allows_node q) _ _ (Good here (w.Sign p.OpenBracket)) (λ allows. record {
      at = record { here = record { before = z.here; allows = allows; room = subst HasRoom (nesting-allows q allows) room }; below = z.below };
      words_are = λ more. refl;
    }) tt) tt)
    (on_sign p.Less word here _ _
    (if_true (has_room (nesting q)) _ _ (Good here (w.Sign p.Less)) (λ room. if_true (allows_node q) _ _ (Good here (w.Sign p.Less)) (λ allows. record {
      at = record {
        here = subst HasRoom (nesting-allows q allows) room;
        below = (record { before = z.here; allows = allows; depth_is = refl }, z.below);
      };
      words_are = λ more. refl;
    }) tt) tt) tt)))

pub operand_sound : (q : Pending) (fs : List Frame) (z : At (position.Inside (i.Operand q)) fs) (word : Word)
    → Good (here_inside (i.Operand q) fs z) word (step_operand q fs word)
operand_sound q fs z (w.Name text place) = named_ (is_reserved text) refl
  where
    here : List Word → List Word
    here = here_inside (i.Operand q) fs z

    named_ : (b_ : Bool) → is_reserved text ≡ b_ → Good (here_inside (i.Operand q) fs z) (w.Name text place)
        (if b_ then steps.step_reserved q text fs else operand q (e.Name (record { text = text; at = place })) fs)
    named_ false h = operand_kept q fs z (w.Name text place) (e.Name (record { text = text; at = place }))
        (record { syntax = g.variable (record { text = text; at = place }); is = refl; fits = h }) (λ more. refl)
    named_ true h =
        on_text text (codes "true") place (here_inside (i.Operand q) fs z) _ _ (operand_kept q fs z (w.Name (codes "true") place) (e.Bool true) (record { syntax = g.truth place; is = refl; fits = tt }) (λ more. refl))
        (on_text text (codes "false") place (here_inside (i.Operand q) fs z) _ _ (operand_kept q fs z (w.Name (codes "false") place) (e.Bool false) (record { syntax = g.falsity place; is = refl; fits = tt }) (λ more. refl))
        (on_text text (codes "null") place (here_inside (i.Operand q) fs z) _ _ (operand_kept q fs z (w.Name (codes "null") place) e.Null (record { syntax = g.null place; is = refl; fits = tt }) (λ more. refl))
        (on_text text (codes "undefined") place (here_inside (i.Operand q) fs z) _ _ (operand_kept q fs z (w.Name (codes "undefined") place) e.Null (record { syntax = g.undefined place; is = refl; fits = tt }) (λ more. refl)) tt)))
operand_sound q fs z (w.Number v) = operand_kept q fs z (w.Number v) (e.Int v) (record { syntax = g.number v; is = refl; fits = tt }) (λ more. refl)
operand_sound q fs z (w.Text x) = operand_kept q fs z (w.Text x) (e.Text x) (record { syntax = g.string x; is = refl; fits = tt }) (λ more. refl)
operand_sound q fs z (w.JsxText x) = tt
operand_sound q fs z (w.Sign sign) = sign_sound q fs z (w.Sign sign)

pub sound_inside : (x : Inside) (fs : List Frame) (z : At (position.Inside x) fs) (word : Word)
    → Good (here_inside x fs z) word (steps.step_inside x fs word)
sound_inside (i.Operand q) fs z word = operand_sound q fs z word
sound_inside (i.Value q d) fs z word = value_sound q d fs z word
sound_inside (i.Node q node) fs z word =
    let u = node_closed q node z.here in
    Good-as _ (here_inside (i.Node q node) fs z) word (finish (node_part q (Other node)) fs word)
    (λ more. ap (stack_words fs (part q.place q.depth) z.below) (u.words_are more))
    (finish_sound fs q.place q.depth z.below (node_part q (Other node)) u.read word)
sound_inside (i.Dot q d) fs z word = on_any_name (nesting q) word (here_inside (i.Dot q d) fs z) _ (λ name. record {
  at = record {
    here = record {
      before = z.here.before;
      read = record {
        syntax = g.dot z.here.read.syntax name;
        is = ap (λ (v : Dotted). steps.with_name v name) z.here.read.is;
        fits = z.here.read.fits;
      };
    };
    below = z.below;
  };
  words_are = λ more. refl;
})
sound_inside (i.ArrayStart q) fs z word =
    on_sign p.CloseBracket word (here_inside (i.ArrayStart q) fs z) _ _
    (record {
      at = record { here = record { before = z.here.before; allows = z.here.allows; read = record { syntax = g.empty_array; is = refl; fits = z.here.room } }; below = z.below };
      words_are = λ more. refl;
    })
    (operand_sound (fresh true (q.depth + 1)) (f.Item q [] ∷ fs) (record {
      here = fresh_before true (q.depth + 1);
      below = (record { before = z.here.before; allows = z.here.allows; room = z.here.room; listed = inl refl; depth_is = refl }, z.below);
    }) word)
sound_inside (i.ArrayNext q items) fs z word =
    on_sign p.CloseBracket word (here_inside (i.ArrayNext q items) fs z) _ _
    (record {
      at = record {
        here = record {
          before = z.here.0.before;
          allows = z.here.0.allows;
          read = record { syntax = g.array z.here.1.syntax true; is = ap (λ (xs : List Node). Other (n.Array xs)) z.here.1.is; fits = (z.here.0.room, z.here.1.fits) };
        };
        below = z.below;
      };
      words_are = λ more. refl;
    })
    (operand_sound (fresh true (q.depth + 1)) (f.Item q items ∷ fs) (record {
      here = fresh_before true (q.depth + 1);
      below = (record { before = z.here.0.before; allows = z.here.0.allows; room = z.here.0.room; listed = inr z.here.1; depth_is = refl }, z.below);
    }) word)

abbrev here_in_map : (x : InMap) (fs : List Frame) → At (position.InMap x) fs → List Word → List Word
here_in_map x fs z = at_words (position.InMap x) fs z

pub sound_in_map : (x : InMap) (fs : List Frame) (z : At (position.InMap x) fs) (word : Word)
    → Good (here_in_map x fs z) word (steps.step_in_map x fs word)
sound_in_map (m.Open x) fs z word = on_sign p.OpenParen word (here_in_map (m.Open x) fs z) _ _
    (record { at = record { here = z.here; below = z.below }; words_are = λ more. refl }) tt
sound_in_map (m.Item x) fs z word = on_code_name (x.pending.depth + 1 + 1) word (here_in_map (m.Item x) fs z) _
    (λ name named. record { at = record { here = (z.here, named); below = z.below }; words_are = λ more. refl })
sound_in_map (m.ItemEnd x item) fs z word = on_sign p.Comma word (here_in_map (m.ItemEnd x item) fs z) _ _
    (record { at = record { here = z.here; below = z.below }; words_are = λ more. refl })
    (on_sign p.CloseParen word (here_in_map (m.ItemEnd x item) fs z) _ _
    (record { at = record { here = (z.here.0, z.here.1, tt); below = z.below }; words_are = λ more. refl }) tt)
sound_in_map (m.Number x item) fs z word = on_code_name (x.pending.depth + 1 + 1) word (here_in_map (m.Number x item) fs z) _
    (λ name named. record { at = record { here = (z.here.0, z.here.1, named); below = z.below }; words_are = λ more. refl })
sound_in_map (m.NumberEnd x item number_) fs z word = on_sign p.CloseParen word (here_in_map (m.NumberEnd x item number_) fs z) _ _
    (record { at = record { here = z.here; below = z.below }; words_are = λ more. refl }) tt
sound_in_map (m.Arrow x item number_) fs z word = on_sign p.Arrow word (here_in_map (m.Arrow x item number_) fs z) _ _
    (record {
      at = record {
        here = fresh_before true (x.pending.depth + 1);
        below = (record { mapped = z.here.0; item_named = z.here.1; number_named = z.here.2; depth_is = refl }, z.below);
      };
      words_are = λ more. refl;
    }) tt

-- Within an element.

abbrev here_in_element : (x : InElement) (fs : List Frame) → At (position.InElement x) fs → List Word → List Word
here_in_element x fs z = at_words (position.InElement x) fs z

deliver_sound : (node : Node) (fs : List Frame) (d : ℕ) (below : Stacked fs (elem d)) (r : Read g.element node d) (words : List Word → List Word) (word : Word)
    → ((more : List Word) → stack_words fs (elem d) below (spell g.element r.syntax more) ≡ words (word ∷ more))
    → Good words word (steps.deliver node fs)
deliver_sound node [] d below r words word spelled = tt
deliver_sound node (f.Operand q ∷ fs) d below r words word spelled = record {
  at = record {
    here = record {
      before = below.0.before;
      allows = below.0.allows;
      read = record { syntax = g.element_node r.syntax; is = ap Other r.is; fits = subst (λ (k : ℕ). Fits g.element r.syntax k) below.0.depth_is r.fits };
    };
    below = below.1;
  };
  words_are = spelled;
}
deliver_sound node (f.Kid x ∷ fs) d below r words word spelled = record {
  at = record {
    here = kid_read x below.0.opened node (g.element_child r.syntax) (ap (λ (y : Node). y ∷ []) r.is)
        (subst (λ (k : ℕ). Fits g.element r.syntax k) below.0.depth_is r.fits) below.0.holds;
    below = below.1;
  };
  words_are = spelled;
}
deliver_sound node (_ ∷ fs) d below r words word spelled = tt

attributes_sound : (tag : Tag) (fs : List Frame) (z : At (position.InElement (t.Attributes tag)) fs) (word : Word)
    → Good (here_in_element (t.Attributes tag) fs z) word (steps.step_attributes tag fs word)
attributes_sound tag fs z word =
    let here = here_in_element (t.Attributes tag) fs z in
    on_sign p.SlashGreater word here _ _
    (deliver_sound (element_of tag.name tag.props []) fs tag.depth z.below
    (record { syntax = g.closed tag.name z.here.props.syntax; is = ap (λ (xs : List (Entry Node)). element_of tag.name xs []) z.here.props.is; fits = (z.here.room, z.here.props.fits) })
    here (w.Sign p.SlashGreater) (λ more. refl))
    (on_sign p.Greater word here _ _
    (record {
      at = record {
        here = record { room = z.here.room; tag = z.here.props; kids = record { syntax = g.no_child; is = refl; fits = tt }; only = λ no. refl };
        below = z.below;
      };
      words_are = λ more. refl;
    })
    (on_any_name (tag.depth + 1) word here _ (λ name. record { at = record { here = z.here; below = z.below }; words_are = λ more. refl })))

abbrev pub flagged : (tag : Tag) (r : TagRead tag) (name : Name) → TagRead (steps.with_attribute tag name (n.Value (e.Bool true)))
flagged tag r name = attribute_read tag r name (n.Value (e.Bool true)) (λ more. name_word name ∷ more)
    (record { read = record { syntax = g.flag name; is = refl; fits = tt }; words_are = λ more. refl })

-- the end of an element
pub element_read : (x : Opened) (r : OpenedRead x) (text : List ℕ) (place : ℕ) → steps.same_name x.name text ≡ true
    → ReadAs g.element (element_node x) x.depth (λ more. opened_words x r (w.Sign p.LessSlash ∷ w.Name text place ∷ w.Sign p.Greater ∷ more))
element_read x r text place same = read_named x.name x.props x.depth x.kids r.tag r.room r.kids r.only same
  where
    read_named : (o_ : Option Name) (props : List (Entry Node)) (d : ℕ) (kids : List Node) (tag : OpenTag o_ props d) → HasRoom d
        → (k : Read g.children kids (d + 1)) → (holds_children o_ ≡ false → kids ≡ []) → steps.same_name o_ text ≡ true
        → ReadAs g.element (element_named o_ props kids) d (λ more. open_words o_ props d tag (spell g.children k.syntax (w.Sign p.LessSlash ∷ w.Name text place ∷ w.Sign p.Greater ∷ more)))
    read_named None props d kids tag room k only same_ = absurd (true_false (sym same_))
    read_named (Some name) props d kids tag room k only same_ = record {
      read = record {
        syntax = g.paired name tag.syntax k.syntax place;
        is = ap2 (element_of name) tag.is k.is;
        fits = (room, tag.fits, k.fits, λ no. k.is ∙ only no);
      };
      words_are = λ more. ap (λ (v : List ℕ). w.Sign p.Less ∷ name_word name ∷ spell (g.attributes (is_suspense name.text)) tag.syntax (w.Sign p.Greater
          ∷ spell g.children k.syntax (w.Sign p.LessSlash ∷ w.Name v place ∷ w.Sign p.Greater ∷ more))) (sym (text_is text name.text same_));
    }

pub fragment_read : (x : Opened) (r : OpenedRead x) → steps.is_fragment x ≡ true
    → ReadAs g.element (element_node x) x.depth (λ more. opened_words x r (w.Sign p.LessSlash ∷ w.Sign p.Greater ∷ more))
fragment_read x r is = read_unnamed x.name x.props x.depth x.kids r.tag r.room r.kids is
  where
    read_unnamed : (o_ : Option Name) (props : List (Entry Node)) (d : ℕ) (kids : List Node) (tag : OpenTag o_ props d) → HasRoom d
        → (k : Read g.children kids (d + 1)) → is_none o_ ≡ true
        → ReadAs g.element (element_named o_ props kids) d (λ more. open_words o_ props d tag (spell g.children k.syntax (w.Sign p.LessSlash ∷ w.Sign p.Greater ∷ more)))
    read_unnamed None props d kids tag room k is_ = record {
      read = record { syntax = g.fragment k.syntax; is = ap n.Fragment k.is; fits = (room, k.fits) };
      words_are = λ more. refl;
    }
    read_unnamed (Some name) props d kids tag room k is_ = absurd (true_false (sym is_))

text_sound : (x : Opened) (text : List ℕ) (fs : List Frame) (z : At (position.InElement (t.Children x)) fs)
    → Good (here_in_element (t.Children x) fs z) (w.JsxText text) (steps.step_text x text fs)
text_sound x [] fs z = record {
  at = record {
    here = record {
      room = z.here.room;
      tag = z.here.tag;
      kids = record { syntax = g.next_child z.here.kids.syntax (g.text []); is = append-nil (tree g.children z.here.kids.syntax) ∙ z.here.kids.is; fits = (z.here.kids.fits, tt) };
      only = z.here.only;
    };
    below = z.below;
  };
  words_are = λ more. refl;
}
text_sound x (c ∷ cs) fs z = if_true (holds_children x.name) _ _ (Good (here_in_element (t.Children x) fs z) (w.JsxText (c ∷ cs)))
    (λ holds. record {
      at = record { here = kid_read x z.here (n.Value (e.Text (c ∷ cs))) (g.text (c ∷ cs)) refl tt holds; below = z.below };
      words_are = λ more. refl;
    }) tt

pub sound_in_element : (x : InElement) (fs : List Frame) (z : At (position.InElement x) fs) (word : Word)
    → Good (here_in_element x fs z) word (steps.step_in_element x fs word)
sound_in_element (t.Start d) fs z word = on_sign p.Greater word (here_in_element (t.Start d) fs z) _ _
    (record {
      at = record { here = record { room = z.here; tag = tt; kids = record { syntax = g.no_child; is = refl; fits = tt }; only = λ no. refl }; below = z.below };
      words_are = λ more. refl;
    })
    (on_any_name (d + 1) word (here_in_element (t.Start d) fs z) _ (λ name. record {
      at = record { here = record { room = z.here; props = record { syntax = g.no_attribute; is = refl; fits = tt } }; below = z.below };
      words_are = λ more. refl;
    }))
sound_in_element (t.Attributes tag) fs z word = attributes_sound tag fs z word
sound_in_element (t.Equals tag name) fs z word = on_sign p.Assign word (here_in_element (t.Equals tag name) fs z) _ _
    (record { at = record { here = z.here; below = z.below }; words_are = λ more. refl })
    (attributes_sound (steps.with_attribute tag name (n.Value (e.Bool true))) fs (record { here = flagged tag z.here name; below = z.below }) word)
sound_in_element (t.Value tag name) fs z (w.Text x) = record {
  at = record {
    here = attribute_read tag z.here name (n.Value (e.Text x)) (λ more. name_word name ∷ w.Sign p.Assign ∷ w.Text x ∷ more)
        (record { read = record { syntax = g.quoted name x; is = refl; fits = tt }; words_are = λ more. refl });
    below = z.below;
  };
  words_are = λ more. refl;
}
sound_in_element (t.Value tag name) fs z (w.Sign sign) =
    on_sign_and p.OpenBrace (w.Sign sign) (has_room (tag.depth + 1)) (here_in_element (t.Value tag name) fs z) _ _
    (λ room. record {
      at = record {
        here = fresh_before (fallback_place tag name) (tag.depth + 1 + 1);
        below = (record { tag_read = z.here; place_is = refl; depth_is = refl; room = room }, z.below);
      };
      words_are = λ more. refl;
    }) tt
sound_in_element (t.Value tag name) fs z (w.Name text place) = tt
sound_in_element (t.Value tag name) fs z (w.Number v) = tt
sound_in_element (t.Value tag name) fs z (w.JsxText v) = tt
sound_in_element (t.Children x) fs z (w.JsxText text) = text_sound x text fs z
sound_in_element (t.Children x) fs z (w.Sign sign) =
    let here = here_in_element (t.Children x) fs z in
    on_sign p.LessSlash (w.Sign sign) here _ _ (record { at = record { here = z.here; below = z.below }; words_are = λ more. refl })
    (on_sign_and p.OpenBrace (w.Sign sign) (has_room (x.depth + 1)) here _ _
    (λ room. record { at = record { here = (z.here, room); below = z.below }; words_are = λ more. refl })
    (on_sign_and p.Less (w.Sign sign) (has_room (x.depth + 1)) here _ _
    (λ room. if_true (holds_children x.name) _ _ (Good here (w.Sign p.Less)) (λ holds. record {
      at = record { here = room; below = (record { opened = z.here; holds = holds; depth_is = refl }, z.below) };
      words_are = λ more. refl;
    }) tt) tt))
sound_in_element (t.Children x) fs z (w.Name text place) = tt
sound_in_element (t.Children x) fs z (w.Number v) = tt
sound_in_element (t.Children x) fs z (w.Text v) = tt
sound_in_element (t.Braces x) fs z word = on_sign p.CloseBrace word (here_in_element (t.Braces x) fs z) _ _
    (record {
      at = record {
        here = record {
          room = z.here.0.room;
          tag = z.here.0.tag;
          kids = record {
            syntax = g.next_child z.here.0.kids.syntax g.empty_braces;
            is = append-nil (tree g.children z.here.0.kids.syntax) ∙ z.here.0.kids.is;
            fits = (z.here.0.kids.fits, z.here.1);
          };
          only = z.here.0.only;
        };
        below = z.below;
      };
      words_are = λ more. refl;
    })
    (if_true (holds_children x.name) _ _ (Good (here_in_element (t.Braces x) fs z) word)
    (λ holds. operand_sound (fresh true (x.depth + 1 + 1)) (f.Child x ∷ fs) (record {
      here = fresh_before true (x.depth + 1 + 1);
      below = (record { opened = z.here.0; holds = holds; depth_is = refl; room = z.here.1 }, z.below);
    }) word) tt)
sound_in_element (t.CloseName x) fs z (w.Name text place) =
    if_true (steps.same_name x.name text) _ _ (Good (here_in_element (t.CloseName x) fs z) (w.Name text place))
    (λ same. record { at = record { here = (z.here, text, place, same); below = z.below }; words_are = λ more. refl }) tt
sound_in_element (t.CloseName x) fs z (w.Sign sign) =
    on_sign_and p.Greater (w.Sign sign) (steps.is_fragment x) (here_in_element (t.CloseName x) fs z) _ _
    (λ is. let u = fragment_read x z.here is in
    deliver_sound (element_node x) fs x.depth z.below u.read (here_in_element (t.CloseName x) fs z) (w.Sign p.Greater)
    (λ more. ap (stack_words fs (elem x.depth) z.below) (u.words_are more))) tt
sound_in_element (t.CloseName x) fs z (w.Number v) = tt
sound_in_element (t.CloseName x) fs z (w.Text v) = tt
sound_in_element (t.CloseName x) fs z (w.JsxText v) = tt
sound_in_element (t.CloseEnd x) fs z word =
    let here = here_in_element (t.CloseEnd x) fs z in
    let u = element_read x z.here.0 z.here.1 z.here.2 z.here.3 in
    on_sign p.Greater word here _ _
    (deliver_sound (element_node x) fs x.depth z.below u.read here (w.Sign p.Greater)
    (λ more. ap (stack_words fs (elem x.depth) z.below) (u.words_are more))) tt

-- Between the expressions of a component's body.

abbrev here_within : (x : Within) (fs : List Frame) → At (position.Within x) fs → List Word → List Word
here_within x fs z = at_words (position.Within x) fs z

-- a statement with its `;`
fetched_body : (draft : Draft) (z : Fetched draft)
    → (r : Body draft) × ((more : List Word) → body_words draft r more ≡ within_words (b.End draft) z (w.Sign p.Semicolon ∷ more))
fetched_body draft z =
    subst (λ (v : Draft). (r : Body v) × ((more : List Word) → body_words v r more ≡ body_words z.before z.body (w.Name (codes "const") z.place ∷ name_word z.name
    ∷ w.Sign p.Assign ∷ w.Name (codes "use") z.used ∷ w.Sign p.OpenParen ∷ spell g.expression z.read.syntax (w.Sign p.CloseParen ∷ w.Sign p.Semicolon ∷ more)))) z.is
    (body_with z.before (s.Fetch z.name z.value) z.body (g.fetch z.place z.name z.used z.read.syntax) (ap (s.Fetch z.name) z.read.is) (z.named, z.read.fits), λ more. refl)

pub sound_within : (x : Within) (fs : List Frame) (z : At (position.Within x) fs) (word : Word)
    → Good (here_within x fs z) word (steps.step_within x fs word)
sound_within (b.Start draft) fs z word =
    let here = here_within (b.Start draft) fs z in
    on_word (codes "const") word here _ _ (λ place. record { at = record { here = (z.here, place); below = z.below }; words_are = λ more. refl })
    (on_word (codes "if") word here _ _ (λ place. record { at = record { here = (z.here, place); below = z.below }; words_are = λ more. refl })
    (on_word (codes "return") word here _ _ (λ place. record {
      at = record { here = fresh_before true 1; below = (record { body = z.here; place = place; depth_is = refl }, z.below) };
      words_are = λ more. refl;
    }) tt))
sound_within (b.ConstName draft) fs z word = on_code_name 1 word (here_within (b.ConstName draft) fs z) _
    (λ name named. record { at = record { here = (z.here.0, z.here.1, named); below = z.below }; words_are = λ more. refl })
sound_within (b.ConstEquals draft name) fs z word = on_sign p.Assign word (here_within (b.ConstEquals draft name) fs z) _ _
    (record { at = record { here = z.here; below = z.below }; words_are = λ more. refl }) tt
sound_within (b.ConstValue draft name) fs z word = on_word (codes "use") word (here_within (b.ConstValue draft name) fs z) _ _
    (λ place. record { at = record { here = (z.here.0, z.here.1, z.here.2, place); below = z.below }; words_are = λ more. refl })
    (operand_sound (fresh false 1) (f.Bind draft name ∷ fs) (record {
      here = fresh_before false 1;
      below = (record { body = z.here.0; place = z.here.1; named = z.here.2; place_is = refl; depth_is = refl }, z.below);
    }) word)
sound_within (b.UseOpen draft name) fs z word = on_sign p.OpenParen word (here_within (b.UseOpen draft name) fs z) _ _
    (record {
      at = record {
        here = fresh_before false 2;
        below = (record { body = z.here.0; place = z.here.1; named = z.here.2; used = z.here.3; place_is = refl; depth_is = refl }, z.below);
      };
      words_are = λ more. refl;
    }) tt
sound_within (b.End draft) fs z word = on_sign p.Semicolon word (here_within (b.End draft) fs z) _ _
    (let made = fetched_body draft z.here in
    record { at = record { here = made.0; below = z.below }; words_are = λ more. ap (stack_words fs file z.below) (made.1 more) }) tt
sound_within (b.IfOpen draft) fs z word = on_sign p.OpenParen word (here_within (b.IfOpen draft) fs z) _ _
    (record { at = record { here = fresh_before false 2; below = (record { body = z.here.0; place = z.here.1; place_is = refl; depth_is = refl }, z.below) }; words_are = λ more. refl }) tt
sound_within (b.ThrowWord draft test) fs z word = on_word (codes "throw") word (here_within (b.ThrowWord draft test) fs z) _ _
    (λ place. record {
      at = record {
        here = fresh_before false 1;
        below = (record { body = z.here.0; place = z.here.1; tested = z.here.2; thrown = place; place_is = refl; depth_is = refl }, z.below);
      };
      words_are = λ more. refl;
    }) tt

pub sound_step : (x : Position) (fs : List Frame) (z : At x fs) (word : Word) → Good (at_words x fs z) word (steps.step_at x fs word)
sound_step (position.Outside x) fs z word = sound_outside x fs z word
sound_step (position.Within x) fs z word = sound_within x fs z word
sound_step (position.Inside x) fs z word = sound_inside x fs z word
sound_step (position.InMap x) fs z word = sound_in_map x fs z word
sound_step (position.InElement x) fs z word = sound_in_element x fs z word
