-- From each state that the parser reaches some file goes on: `alive_at`.
use Rattle.std.proofs.Common.{◌≡◌, ℕ, ◌+◌, Bool, true, false, List, [], ◌∷◌, ◌++◌, codes, Option, Some, None, Ok, Err, refl, sym, ap, subst, ◌∙◌, is_none, if◌then◌else◌, pos}
use Rattle.jsx_lex.specs.declared.word.Word.{Word}
use Rattle.jsx_lex.specs.declared.word.Word.TheVariants as w
use Rattle.jsx_lex.specs.declared.word.Punctuator.TheVariants as p
use Rattle.jsx_syntax.specs.declared.name.Name.{Name}
use Rattle.jsx_syntax.specs.declared.name.Entry.{Entry}
use Rattle.jsx_syntax.specs.declared.expr.Expr.{Expr}
use Rattle.jsx_syntax.specs.declared.node.Node.{Node}
use Rattle.jsx_syntax.specs.declared.part.Part.{Part}
use Rattle.jsx_syntax.specs.declared.part.Part.TheVariants.{Value, Other}
use Rattle.jsx_syntax.specs.declared.part.Dotted.{Dotted}
use Rattle.jsx_syntax.specs.declared.file.Component.{Component}
use Rattle.jsx_syntax.specs.declared.file.Stmt.TheVariants as s
use Rattle.jsx_syntax.specs.declared.state.Signature.{Signature}
use Rattle.jsx_syntax.specs.declared.state.Draft.{Draft}
use Rattle.jsx_syntax.specs.declared.state.Pending.{Pending}
use Rattle.jsx_syntax.specs.declared.state.Mapping.{Mapping}
use Rattle.jsx_syntax.specs.declared.state.Tag.{Tag}
use Rattle.jsx_syntax.specs.declared.state.Opened.{Opened}
use Rattle.jsx_syntax.specs.declared.state.Frame.{Frame}
use Rattle.jsx_syntax.specs.declared.state.Frame.TheVariants as f
use Rattle.jsx_syntax.specs.declared.state.Position.{Position}
use Rattle.jsx_syntax.specs.declared.state.Position.TheVariants as position
use Rattle.jsx_syntax.specs.declared.state.Outside.{Outside}
use Rattle.jsx_syntax.specs.declared.state.Outside.TheVariants as o
use Rattle.jsx_syntax.specs.declared.state.Within.{Within}
use Rattle.jsx_syntax.specs.declared.state.Within.TheVariants as b
use Rattle.jsx_syntax.specs.declared.state.Inside.{Inside}
use Rattle.jsx_syntax.specs.declared.state.Inside.TheVariants as i
use Rattle.jsx_syntax.specs.declared.state.InMap.{InMap}
use Rattle.jsx_syntax.specs.declared.state.InMap.TheVariants as m
use Rattle.jsx_syntax.specs.declared.state.InElement.{InElement}
use Rattle.jsx_syntax.specs.declared.state.InElement.TheVariants as t
use Rattle.jsx_syntax.specs.Trees.{node_of}
use Rattle.jsx_syntax.specs.Grammar.{Sort, Syntax, Meaning, spell, tree, Fits, HasRoom, IsName, AreNames, equal_sign}
use Rattle.jsx_syntax.specs.Grammar as g
use Rattle.jsx_syntax.specs.Steps.{allows_node, nesting, holds_children, fallback_place, operand_of, component_of, with_stmt, same_name}
use Rattle.jsx_syntax.specs.declared.expr.Expr.TheVariants as e
use Rattle.jsx_syntax.specs.declared.node.Node.TheVariants as n
use Rattle.jsx_syntax.specs.Trees.{choose_part}
use Rattle.jsx_syntax.specs.Steps.{nots_of, equal_of, sums_of, ands_of, ors_of, value_of, node_part, is_empty}
use Rattle.jsx_syntax.proofs.Zipper.{Read, PartRead, part_words, Body, body_words, Hole, file, part, elem, Stacked, stack_words, At, at_words}
use Rattle.jsx_syntax.proofs.Closings.{value_closed, node_closed, choose_closed}
use Rattle.jsx_syntax.specs.declared.state.State.{State}
use Rattle.jsx_syntax.specs.declared.fault.Wanted.TheVariants as wanted
use Rattle.jsx_syntax.specs.WordTests.{code_name}
use Rattle.jsx_syntax.specs.Steps as steps
use Rattle.jsx_syntax.specs.Steps.{Moved, finish, close, step_value, step_operand, name_then, names_before_map, inside, fresh, operand, element_node, element_named, run, first_state}
use Rattle.std.specs.Str.{bytes_eq}
use Rattle.std.proofs.lemmas.Slice.Eq.{bytes_eq-Decides}
use Rattle.jsx_syntax.specs.Words.{is_reserved}
use Rattle.jsx_syntax.specs.Trees.{element_of}
use Rattle.jsx_syntax.specs.declared.file.File.{File}
use Rattle.jsx_syntax.specs.Grammar.{SpellsFile}
use Rattle.jsx_syntax.specs.Words.{reserved_words}
use Rattle.jsx_syntax.proofs.Sound.{Kept, Good, sound_outside, sound_within, sound_inside, sound_in_map, sound_in_element, close_sound, operand_sound, true_false, kid_read, body_with, part_at, part_at-words, flagged, element_read, fragment_read, finished}

-- Some file goes on from what was read.
pub record Alive (words : List Word → List Word) : Type 0 where
  pub more : List Word
  pub file_ : File
  pub spells : SpellsFile (words more) file_

-- the same after more words
alive_more : (words others front : List Word → List Word) → ((more : List Word) → words more ≡ others (front more)) → Alive words → Alive others
alive_more words others front same a = record { more = front a.more; file_ = a.file_; spells = subst (λ (ws : List Word). SpellsFile ws a.file_) (same a.more) a.spells }

-- one word more
alive_by : (words : List Word → List Word) (word : Word) (state : State) (k : Kept words word state)
    → Alive (at_words state.position state.stack k.at) → Alive words
alive_by words word state k a =
    alive_more (at_words state.position state.stack k.at) words (λ more. word ∷ more) k.words_are a

not_reserved : is_reserved (codes "a") ≡ false
unfolding reserved_words
not_reserved = refl

a_name : Name
a_name = record { text = codes "a"; at = 0 }

abbrev a_word : Word
a_word = w.Name (codes "a") 0

named_kept : (k : ℕ) (words : List Word → List Word) (next : Name → State) → Good words a_word (name_then (code_name k a_word) next)
    → Kept words a_word (next (record { text = codes "a"; at = 0 }))
named_kept k words next good = subst (λ (b_ : Bool). Good words a_word (name_then (if b_ then Err wanted.Token else Ok (record { text = codes "a"; at = 0 })) next)) not_reserved good

bytes_same : (x : List ℕ) → bytes_eq x x ≡ true
bytes_same x = (bytes_eq-Decides x x).1 refl

abbrev zero_read : (d : ℕ) → Read g.expression (e.Int (pos 0)) d
zero_read d = record { syntax = g.no_choice (g.no_or (g.no_and (g.no_equal (g.no_plus (g.no_bang (g.no_member (g.number (pos 0)))))))); is = refl; fits = tt }

pub no_file : (frame : Frame) (fs : List Frame) → Stacked (frame ∷ fs) file → ⊥
no_file (f.Use draft name) fs z = z
no_file _ fs z = z

alive_file : (fs : List Frame) (components : List Component) (z : At (position.Outside (o.File components)) fs) → Alive (at_words (position.Outside (o.File components)) fs z)
alive_file [] components z = record {
  more = [];
  file_ = record { components = components };
  spells = record { syntax = z.here.syntax; fits = z.here.fits; spelled = refl; tree_is = z.here.is };
}
alive_file (frame ∷ fs) components z = absurd (no_file frame fs z.below)

alive_body_end : (fs : List Frame) (components : List Component) (z : At (position.Outside (o.BodyEnd components)) fs) → Alive (at_words (position.Outside (o.BodyEnd components)) fs z)
alive_body_end fs components z =
    let k : Kept (at_words (position.Outside (o.BodyEnd components)) fs z) (w.Sign p.CloseBrace) (steps.outside (o.File components) fs) = sound_outside (o.BodyEnd components) fs z (w.Sign p.CloseBrace) in
    alive_by (at_words (position.Outside (o.BodyEnd components)) fs z) (w.Sign p.CloseBrace) (steps.outside (o.File components) fs) k (alive_file fs components k.at)

abbrev AliveAt : (fs : List Frame) (hole : Hole) → Stacked fs hole → Type 0
AliveAt fs file z = (draft : Draft) (r : Body draft) → Alive (λ more. stack_words fs file z (body_words draft r more))
AliveAt fs (part pl d) z = (x : Part) (r : PartRead x pl d) → Alive (finished fs pl d z x r)
AliveAt fs (elem d) z = (node : Node) (r : Read g.element node d) → Alive (λ more. stack_words fs (elem d) z (spell g.element r.syntax more))

abbrev Below : List Frame → Type 0
Below fs = (hole : Hole) (z : Stacked fs hole) → AliveAt fs hole z

alive_start : (fs : List Frame) → Below fs → (draft : Draft) (z : At (position.Within (b.Start draft)) fs) → Alive (at_words (position.Within (b.Start draft)) fs z)
alive_start fs ih draft z = ih file z.below draft z.here

alive_value : (fs : List Frame) → Below fs → (q : Pending) (d : Dotted) (z : At (position.Inside (i.Value q d)) fs) → Alive (at_words (position.Inside (i.Value q d)) fs z)
alive_value fs ih q d z =
    let u = value_closed q d z.here in
    alive_more (finished fs q.place q.depth z.below (Value (steps.value_of q d)) u.read) (at_words (position.Inside (i.Value q d)) fs z) (λ more. more)
    (λ more. ap (stack_words fs (part q.place q.depth) z.below) (u.words_are more)) (ih (part q.place q.depth) z.below (Value (steps.value_of q d)) u.read)

alive_node : (fs : List Frame) → Below fs → (q : Pending) (node : Node) (z : At (position.Inside (i.Node q node)) fs) → Alive (at_words (position.Inside (i.Node q node)) fs z)
alive_node fs ih q node z =
    let u = node_closed q node z.here in
    alive_more (finished fs q.place q.depth z.below (node_part q (Other node)) u.read) (at_words (position.Inside (i.Node q node)) fs z) (λ more. more)
    (λ more. ap (stack_words fs (part q.place q.depth) z.below) (u.words_are more)) (ih (part q.place q.depth) z.below (node_part q (Other node)) u.read)

alive_after : (fs : List Frame) → Below fs → (q : Pending) (x : Part) (z : At (steps.after_part q x fs).position (steps.after_part q x fs).stack) → Alive (at_words (steps.after_part q x fs).position (steps.after_part q x fs).stack z)
alive_after fs ih q (Value x) z = alive_value fs ih q (operand_of x) z
alive_after fs ih q (Other x) z = alive_node fs ih q x z

alive_operand : (fs : List Frame) → Below fs → (q : Pending) (z : At (position.Inside (i.Operand q)) fs) → Alive (at_words (position.Inside (i.Operand q)) fs z)
alive_operand fs ih q z =
    let k : Kept (at_words (position.Inside (i.Operand q)) fs z) (w.Number (pos 0)) (inside (i.Value q (operand_of (e.Int (pos 0)))) fs) = operand_sound q fs z (w.Number (pos 0)) in
    alive_by (at_words (position.Inside (i.Operand q)) fs z) (w.Number (pos 0)) (inside (i.Value q (operand_of (e.Int (pos 0)))) fs) k (alive_value fs ih q (operand_of (e.Int (pos 0))) k.at)

alive_children : (fs : List Frame) → Below fs → (x : Opened) (z : At (position.InElement (t.Children x)) fs) → Alive (at_words (position.InElement (t.Children x)) fs z)
alive_children fs ih x z = by_name x.name refl
  where
    by_name : (o_ : Option Name) → x.name ≡ o_ → Alive (at_words (position.InElement (t.Children x)) fs z)
    by_name None is =
        let u = fragment_read x z.here (ap is_none is) in
        alive_more (λ more. stack_words fs (elem x.depth) z.below (spell g.element u.read.syntax more)) (at_words (position.InElement (t.Children x)) fs z)
        (λ more. w.Sign p.LessSlash ∷ w.Sign p.Greater ∷ more) (λ more. ap (stack_words fs (elem x.depth) z.below) (u.words_are more))
        (ih (elem x.depth) z.below (element_node x) u.read)
    by_name (Some name) is =
        let u = element_read x z.here name.text 0 (ap (λ (v : Option Name). steps.same_name v name.text) is ∙ bytes_same name.text) in
        alive_more (λ more. stack_words fs (elem x.depth) z.below (spell g.element u.read.syntax more)) (at_words (position.InElement (t.Children x)) fs z)
        (λ more. w.Sign p.LessSlash ∷ w.Name name.text 0 ∷ w.Sign p.Greater ∷ more) (λ more. ap (stack_words fs (elem x.depth) z.below) (u.words_are more))
        (ih (elem x.depth) z.below (element_node x) u.read)

alive_close_name : (fs : List Frame) → Below fs → (x : Opened) (z : At (position.InElement (t.CloseName x)) fs) → Alive (at_words (position.InElement (t.CloseName x)) fs z)
alive_close_name fs ih x z = by_name x.name refl
  where
    by_name : (o_ : Option Name) → x.name ≡ o_ → Alive (at_words (position.InElement (t.CloseName x)) fs z)
    by_name None is =
        let u = fragment_read x z.here (ap is_none is) in
        alive_more (λ more. stack_words fs (elem x.depth) z.below (spell g.element u.read.syntax more)) (at_words (position.InElement (t.CloseName x)) fs z)
        (λ more. w.Sign p.Greater ∷ more) (λ more. ap (stack_words fs (elem x.depth) z.below) (u.words_are more))
        (ih (elem x.depth) z.below (element_node x) u.read)
    by_name (Some name) is =
        let u = element_read x z.here name.text 0 (ap (λ (v : Option Name). steps.same_name v name.text) is ∙ bytes_same name.text) in
        alive_more (λ more. stack_words fs (elem x.depth) z.below (spell g.element u.read.syntax more)) (at_words (position.InElement (t.CloseName x)) fs z)
        (λ more. w.Name name.text 0 ∷ w.Sign p.Greater ∷ more) (λ more. ap (stack_words fs (elem x.depth) z.below) (u.words_are more))
        (ih (elem x.depth) z.below (element_node x) u.read)

alive_close_end : (fs : List Frame) → Below fs → (x : Opened) (z : At (position.InElement (t.CloseEnd x)) fs) → Alive (at_words (position.InElement (t.CloseEnd x)) fs z)
alive_close_end fs ih x z =
    let u = element_read x z.here.0 z.here.1 z.here.2 z.here.3 in
    alive_more (λ more. stack_words fs (elem x.depth) z.below (spell g.element u.read.syntax more)) (at_words (position.InElement (t.CloseEnd x)) fs z)
    (λ more. w.Sign p.Greater ∷ more) (λ more. ap (stack_words fs (elem x.depth) z.below) (u.words_are more))
    (ih (elem x.depth) z.below (element_node x) u.read)

alive_attributes : (fs : List Frame) → Below fs → (tag : Tag) (z : At (position.InElement (t.Attributes tag)) fs) → Alive (at_words (position.InElement (t.Attributes tag)) fs z)
alive_attributes fs ih tag z =
    let r : Read g.element (element_of tag.name tag.props []) tag.depth = record { syntax = g.closed tag.name z.here.props.syntax; is = ap (λ (xs : List (Entry Node)). element_of tag.name xs []) z.here.props.is; fits = (z.here.room, z.here.props.fits) } in
    alive_more (λ more. stack_words fs (elem tag.depth) z.below (spell g.element r.syntax more)) (at_words (position.InElement (t.Attributes tag)) fs z)
    (λ more. w.Sign p.SlashGreater ∷ more) (λ more. refl) (ih (elem tag.depth) z.below (element_of tag.name tag.props []) r)

alive_use : (draft : Draft) (name : Name) (fs : List Frame) → Below fs → (pl : Bool) (d : ℕ) (z : Stacked (f.Use draft name ∷ fs) (part pl d)) (x : Part) (r : PartRead x pl d) → Alive (finished (f.Use draft name ∷ fs) pl d z x r)
alive_use draft name fs ih pl d z (Other v) r = absurd (true_false (sym r.0 ∙ z.0.place_is))
alive_use draft name fs ih pl d z (Value v) r =
    let words = finished (f.Use draft name ∷ fs) pl d z (Value v) r in
    let next = with_stmt draft (s.Fetch name v) in
    let k : Kept words (w.Sign p.CloseParen) (steps.within (b.End next) fs) = close_sound (f.Use draft name) fs pl d z (Value v) r (w.Sign p.CloseParen) in
    let l : Kept (at_words (position.Within (b.End next)) fs k.at) (w.Sign p.Semicolon) (steps.within (b.Start next) fs) = sound_within (b.End next) fs k.at (w.Sign p.Semicolon) in
    alive_by words (w.Sign p.CloseParen) (steps.within (b.End next) fs) k
    (alive_by (at_words (position.Within (b.End next)) fs k.at) (w.Sign p.Semicolon) (steps.within (b.Start next) fs) l (alive_start fs ih next l.at))

alive_bind : (draft : Draft) (name : Name) (fs : List Frame) → Below fs → (pl : Bool) (d : ℕ) (z : Stacked (f.Bind draft name ∷ fs) (part pl d)) (x : Part) (r : PartRead x pl d) → Alive (finished (f.Bind draft name ∷ fs) pl d z x r)
alive_bind draft name fs ih pl d z (Other v) r = absurd (true_false (sym r.0 ∙ z.0.place_is))
alive_bind draft name fs ih pl d z (Value v) r =
    let words = finished (f.Bind draft name ∷ fs) pl d z (Value v) r in
    let next = with_stmt draft (s.Bind name v) in
    let k : Kept words (w.Sign p.Semicolon) (steps.within (b.Start next) fs) = close_sound (f.Bind draft name) fs pl d z (Value v) r (w.Sign p.Semicolon) in
    alive_by words (w.Sign p.Semicolon) (steps.within (b.Start next) fs) k (alive_start fs ih next k.at)

alive_if : (draft : Draft) (fs : List Frame) → Below fs → (pl : Bool) (d : ℕ) (z : Stacked (f.If draft ∷ fs) (part pl d)) (x : Part) (r : PartRead x pl d) → Alive (finished (f.If draft ∷ fs) pl d z x r)
alive_if draft fs ih pl d z (Other v) r = absurd (true_false (sym r.0 ∙ z.0.place_is))
alive_if draft fs ih pl d z (Value v) r =
    let stmt = s.Throw v (e.Int (pos 0)) in
    let body_ : Body (with_stmt draft stmt) = body_with draft stmt z.0.body (g.throw z.0.place r.syntax 0 (zero_read 1).syntax) (ap (λ (y : Expr). s.Throw y (e.Int (pos 0))) r.is)
    (subst (λ (k : ℕ). Fits g.expression r.syntax k) z.0.depth_is r.fits, tt) in
    alive_more (λ more. stack_words fs file z.1 (body_words (with_stmt draft stmt) body_ more)) (finished (f.If draft ∷ fs) pl d z (Value v) r)
    (λ more. w.Sign p.CloseParen ∷ w.Name (codes "throw") 0 ∷ w.Number (pos 0) ∷ w.Sign p.Semicolon ∷ more) (λ more. refl)
    (ih file z.1 (with_stmt draft stmt) body_)

alive_throw : (draft : Draft) (test : Expr) (fs : List Frame) → Below fs → (pl : Bool) (d : ℕ) (z : Stacked (f.Throw draft test ∷ fs) (part pl d)) (x : Part) (r : PartRead x pl d) → Alive (finished (f.Throw draft test ∷ fs) pl d z x r)
alive_throw draft test fs ih pl d z (Other v) r = absurd (true_false (sym r.0 ∙ z.0.place_is))
alive_throw draft test fs ih pl d z (Value v) r =
    let words = finished (f.Throw draft test ∷ fs) pl d z (Value v) r in
    let next = with_stmt draft (s.Throw test v) in
    let k : Kept words (w.Sign p.Semicolon) (steps.within (b.Start next) fs) = close_sound (f.Throw draft test) fs pl d z (Value v) r (w.Sign p.Semicolon) in
    alive_by words (w.Sign p.Semicolon) (steps.within (b.Start next) fs) k (alive_start fs ih next k.at)

alive_parens : (q : Pending) (fs : List Frame) → Below fs → (pl : Bool) (d : ℕ) (z : Stacked (f.Parens q ∷ fs) (part pl d)) (x : Part) (r : PartRead x pl d) → Alive (finished (f.Parens q ∷ fs) pl d z x r)
alive_parens q fs ih pl d z (Value v) r =
    let words = finished (f.Parens q ∷ fs) pl d z (Value v) r in
    let k : Kept words (w.Sign p.CloseParen) (inside (i.Value q (operand_of v)) fs) = close_sound (f.Parens q) fs pl d z (Value v) r (w.Sign p.CloseParen) in
    alive_by words (w.Sign p.CloseParen) (inside (i.Value q (operand_of v)) fs) k (alive_value fs ih q (operand_of v) k.at)
alive_parens q fs ih pl d z (Other v) r =
    let words = finished (f.Parens q ∷ fs) pl d z (Other v) r in
    let k : Kept words (w.Sign p.CloseParen) (inside (i.Node q v) fs) = close_sound (f.Parens q) fs pl d z (Other v) r (w.Sign p.CloseParen) in
    alive_by words (w.Sign p.CloseParen) (inside (i.Node q v) fs) k (alive_node fs ih q v k.at)

body_alive : (draft : Draft) (r : Body draft) → Alive (λ more. body_words draft r more)
body_alive draft r =
    let components = component_of draft (node_of (Value (e.Int (pos 0)))) in
    let end : At (position.Outside (o.BodyEnd components)) [] = record {
      here = record { draft = draft; body = r; place = 0; result = Value (e.Int (pos 0)); read = zero_read 1; is = refl };
      below = tt;
    } in
    alive_more (at_words (position.Outside (o.BodyEnd components)) [] end) (λ more. body_words draft r more)
    (λ more. w.Name (codes "return") 0 ∷ w.Number (pos 0) ∷ w.Sign p.Semicolon ∷ more) (λ more. refl) (alive_body_end [] components end)

alive_below : (fs : List Frame) → Below fs
alive_below [] file z = body_alive
alive_below [] (part pl d) z = absurd z
alive_below [] (elem d) z = absurd z
alive_below (f.Use draft name ∷ fs) (part pl d) z = alive_use draft name fs (alive_below fs) pl d z
alive_below (f.Bind draft name ∷ fs) (part pl d) z = alive_bind draft name fs (alive_below fs) pl d z
alive_below (f.If draft ∷ fs) (part pl d) z = alive_if draft fs (alive_below fs) pl d z
alive_below (f.Throw draft test ∷ fs) (part pl d) z = alive_throw draft test fs (alive_below fs) pl d z
alive_below (f.Return draft ∷ fs) (part pl d) z = λ x r.
    let words = finished (f.Return draft ∷ fs) pl d z x r in
    let components = component_of draft (node_of x) in
    let k : Kept words (w.Sign p.Semicolon) (steps.outside (o.BodyEnd components) fs) = close_sound (f.Return draft) fs pl d z x r (w.Sign p.Semicolon) in
    alive_by words (w.Sign p.Semicolon) (steps.outside (o.BodyEnd components) fs) k (alive_body_end fs components k.at)
alive_below (f.Parens q ∷ fs) (part pl d) z = alive_parens q fs (alive_below fs) pl d z
alive_below (f.Yes c ∷ fs) (part pl d) z = λ x r.
    let there = part_at x pl c.place d (c.depth + 1) z.0.place_is z.0.depth_is r in
    let u = choose_closed c x (Value (e.Int (pos 0))) z.0.test there (zero_read (c.depth + 1)) in
    alive_more (finished fs c.place c.depth z.1 (choose_part c.test x (Value (e.Int (pos 0)))) u.read) (finished (f.Yes c ∷ fs) pl d z x r)
    (λ more. w.Sign p.Colon ∷ w.Number (pos 0) ∷ more)
    (λ more. ap (stack_words fs (part c.place c.depth) z.1) (u.words_are more
    ∙ ap (λ (ws : List Word). spell g.disjunction z.0.test.read.syntax (w.Sign p.Question ∷ ws)) (part_at-words x pl c.place d (c.depth + 1) z.0.place_is z.0.depth_is r (w.Sign p.Colon ∷ w.Number (pos 0) ∷ more))))
    (alive_below fs (part c.place c.depth) z.1 (choose_part c.test x (Value (e.Int (pos 0)))) u.read)
alive_below (f.No c one ∷ fs) (part pl d) z = λ x r.
    let there = part_at x pl c.place d (c.depth + 1) z.0.place_is z.0.depth_is r in
    let u = choose_closed c one x z.0.test z.0.one_read there in
    alive_more (finished fs c.place c.depth z.1 (choose_part c.test one x) u.read) (finished (f.No c one ∷ fs) pl d z x r) (λ more. more)
    (λ more. ap (stack_words fs (part c.place c.depth) z.1) (u.words_are more
    ∙ ap (λ (ws : List Word). spell g.disjunction z.0.test.read.syntax (w.Sign p.Question ∷ part_words one c.place (c.depth + 1) z.0.one_read (w.Sign p.Colon ∷ ws)))
    (part_at-words x pl c.place d (c.depth + 1) z.0.place_is z.0.depth_is r more)))
    (alive_below fs (part c.place c.depth) z.1 (choose_part c.test one x) u.read)
alive_below (f.Item q items ∷ fs) (part pl d) z = λ x r.
    let words = finished (f.Item q items ∷ fs) pl d z x r in
    let node = n.Array (items ++ node_of x ∷ []) in
    let k : Kept words (w.Sign p.CloseBracket) (inside (i.Node q node) fs) = close_sound (f.Item q items) fs pl d z x r (w.Sign p.CloseBracket) in
    alive_by words (w.Sign p.CloseBracket) (inside (i.Node q node) fs) k (alive_node fs (alive_below fs) q node k.at)
alive_below (f.MapBody m_ item number_ ∷ fs) (part pl d) z = λ x r.
    let words = finished (f.MapBody m_ item number_ ∷ fs) pl d z x r in
    let node = steps.map_of m_ item number_ x in
    let k : Kept words (w.Sign p.CloseParen) (inside (i.Node m_.pending node) fs) = close_sound (f.MapBody m_ item number_) fs pl d z x r (w.Sign p.CloseParen) in
    alive_by words (w.Sign p.CloseParen) (inside (i.Node m_.pending node) fs) k (alive_node fs (alive_below fs) m_.pending node k.at)
alive_below (f.Attribute tag name ∷ fs) (part pl d) z = λ x r.
    let words = finished (f.Attribute tag name ∷ fs) pl d z x r in
    let next = steps.with_attribute tag name (node_of x) in
    let k : Kept words (w.Sign p.CloseBrace) (steps.in_element (t.Attributes next) fs) = close_sound (f.Attribute tag name) fs pl d z x r (w.Sign p.CloseBrace) in
    alive_by words (w.Sign p.CloseBrace) (steps.in_element (t.Attributes next) fs) k (alive_attributes fs (alive_below fs) next k.at)
alive_below (f.Child x_ ∷ fs) (part pl d) z = λ x r.
    let words = finished (f.Child x_ ∷ fs) pl d z x r in
    let next = steps.with_kid x_ (node_of x) in
    let k : Kept words (w.Sign p.CloseBrace) (steps.in_element (t.Children next) fs) = close_sound (f.Child x_) fs pl d z x r (w.Sign p.CloseBrace) in
    alive_by words (w.Sign p.CloseBrace) (steps.in_element (t.Children next) fs) k (alive_children fs (alive_below fs) next k.at)
alive_below (f.Operand q ∷ fs) (elem d) z = λ node r.
    alive_node fs (alive_below fs) q node (record {
      here = record {
        before = z.0.before;
        allows = z.0.allows;
        read = record { syntax = g.element_node r.syntax; is = ap Other r.is; fits = subst (λ (k : ℕ). Fits g.element r.syntax k) z.0.depth_is r.fits };
      };
      below = z.1;
    })
alive_below (f.Kid x ∷ fs) (elem d) z = λ node r.
    alive_children fs (alive_below fs) (steps.with_kid x node) (record {
      here = kid_read x z.0.opened node (g.element_child r.syntax) (ap (λ (y : Node). y ∷ []) r.is)
          (subst (λ (k : ℕ). Fits g.element r.syntax k) z.0.depth_is r.fits) z.0.holds;
      below = z.1;
    })
alive_below (_ ∷ fs) hole z = absurd z

-- Outside expressions.

alive_body : (fs : List Frame) (x : Signature) (z : At (position.Outside (o.Body x)) fs) → Alive (at_words (position.Outside (o.Body x)) fs z)
alive_body fs x z =
    let next : Draft = record { signature = x; stmts = [] } in
    let k : Kept (at_words (position.Outside (o.Body x)) fs z) (w.Sign p.OpenBrace) (steps.within (b.Start next) fs) = sound_outside (o.Body x) fs z (w.Sign p.OpenBrace) in
    alive_by (at_words (position.Outside (o.Body x)) fs z) (w.Sign p.OpenBrace) (steps.within (b.Start next) fs) k (alive_start fs (alive_below fs) next k.at)

alive_close : (fs : List Frame) (x : Signature) (z : At (position.Outside (o.Close x)) fs) → Alive (at_words (position.Outside (o.Close x)) fs z)
alive_close fs x z =
    let k : Kept (at_words (position.Outside (o.Close x)) fs z) (w.Sign p.CloseParen) (steps.outside (o.Body x) fs) = sound_outside (o.Close x) fs z (w.Sign p.CloseParen) in
    alive_by (at_words (position.Outside (o.Close x)) fs z) (w.Sign p.CloseParen) (steps.outside (o.Body x) fs) k (alive_body fs x k.at)

alive_property_end : (fs : List Frame) (x : Signature) (z : At (position.Outside (o.PropertyEnd x)) fs) → Alive (at_words (position.Outside (o.PropertyEnd x)) fs z)
alive_property_end fs x z =
    let k : Kept (at_words (position.Outside (o.PropertyEnd x)) fs z) (w.Sign p.CloseBrace) (steps.outside (o.Close x) fs) = sound_outside (o.PropertyEnd x) fs z (w.Sign p.CloseBrace) in
    alive_by (at_words (position.Outside (o.PropertyEnd x)) fs z) (w.Sign p.CloseBrace) (steps.outside (o.Close x) fs) k (alive_close fs x k.at)

alive_properties : (fs : List Frame) (x : Signature) (z : At (position.Outside (o.Properties x)) fs) → Alive (at_words (position.Outside (o.Properties x)) fs z)
alive_properties fs x z =
    let k : Kept (at_words (position.Outside (o.Properties x)) fs z) (w.Sign p.CloseParen) (steps.outside (o.Body x) fs) = sound_outside (o.Properties x) fs z (w.Sign p.CloseParen) in
    alive_by (at_words (position.Outside (o.Properties x)) fs z) (w.Sign p.CloseParen) (steps.outside (o.Body x) fs) k (alive_body fs x k.at)

alive_open : (fs : List Frame) (x : Signature) (z : At (position.Outside (o.Open x)) fs) → Alive (at_words (position.Outside (o.Open x)) fs z)
alive_open fs x z =
    let k : Kept (at_words (position.Outside (o.Open x)) fs z) (w.Sign p.OpenParen) (steps.outside (o.Properties x) fs) = sound_outside (o.Open x) fs z (w.Sign p.OpenParen) in
    alive_by (at_words (position.Outside (o.Open x)) fs z) (w.Sign p.OpenParen) (steps.outside (o.Properties x) fs) k (alive_properties fs x k.at)

alive_outside : (x : Outside) (fs : List Frame) (z : At (position.Outside x) fs) → Alive (at_words (position.Outside x) fs z)
alive_outside (o.File components) fs z = alive_file fs components z
alive_outside (o.Name components) fs z =
    let next : Name → State = λ name. steps.outside (o.Open (record { components = components; name = name; properties = [] })) fs in
    let k = named_kept 0 (at_words (position.Outside (o.Name components)) fs z) next (sound_outside (o.Name components) fs z a_word) in
    alive_by (at_words (position.Outside (o.Name components)) fs z) a_word (next (record { text = codes "a"; at = 0 })) k (alive_open fs (record { components = components; name = record { text = codes "a"; at = 0 }; properties = [] }) k.at)
alive_outside (o.Open x) fs z = alive_open fs x z
alive_outside (o.Properties x) fs z = alive_properties fs x z
alive_outside (o.FirstProperty x) fs z =
    let k : Kept (at_words (position.Outside (o.FirstProperty x)) fs z) (w.Sign p.CloseBrace) (steps.outside (o.Close x) fs) = sound_outside (o.FirstProperty x) fs z (w.Sign p.CloseBrace) in
    alive_by (at_words (position.Outside (o.FirstProperty x)) fs z) (w.Sign p.CloseBrace) (steps.outside (o.Close x) fs) k (alive_close fs x k.at)
alive_outside (o.NextProperty x) fs z =
    let next : Name → State = λ name. steps.outside (o.PropertyEnd (steps.with_property x name)) fs in
    let k = named_kept 2 (at_words (position.Outside (o.NextProperty x)) fs z) next (sound_outside (o.NextProperty x) fs z a_word) in
    alive_by (at_words (position.Outside (o.NextProperty x)) fs z) a_word (next (record { text = codes "a"; at = 0 })) k (alive_property_end fs (steps.with_property x (record { text = codes "a"; at = 0 })) k.at)
alive_outside (o.PropertyEnd x) fs z = alive_property_end fs x z
alive_outside (o.Close x) fs z = alive_close fs x z
alive_outside (o.Body x) fs z = alive_body fs x z
alive_outside (o.BodyEnd components) fs z = alive_body_end fs components z

-- Between the expressions of a body.

alive_const_value : (fs : List Frame) (draft : Draft) (name : Name) (z : At (position.Within (b.ConstValue draft name)) fs) → Alive (at_words (position.Within (b.ConstValue draft name)) fs z)
alive_const_value fs draft name z =
    let next = inside (i.Value (fresh false 1) (operand_of (e.Int (pos 0)))) (f.Bind draft name ∷ fs) in
    let k : Kept (at_words (position.Within (b.ConstValue draft name)) fs z) (w.Number (pos 0)) next = sound_within (b.ConstValue draft name) fs z (w.Number (pos 0)) in
    alive_by (at_words (position.Within (b.ConstValue draft name)) fs z) (w.Number (pos 0)) next k (alive_value (f.Bind draft name ∷ fs) (alive_below (f.Bind draft name ∷ fs)) (fresh false 1) (operand_of (e.Int (pos 0))) k.at)

alive_const_equals : (fs : List Frame) (draft : Draft) (name : Name) (z : At (position.Within (b.ConstEquals draft name)) fs) → Alive (at_words (position.Within (b.ConstEquals draft name)) fs z)
alive_const_equals fs draft name z =
    let next = steps.within (b.ConstValue draft name) fs in
    let k : Kept (at_words (position.Within (b.ConstEquals draft name)) fs z) (w.Sign p.Assign) next = sound_within (b.ConstEquals draft name) fs z (w.Sign p.Assign) in
    alive_by (at_words (position.Within (b.ConstEquals draft name)) fs z) (w.Sign p.Assign) next k (alive_const_value fs draft name k.at)

alive_within : (x : Within) (fs : List Frame) (z : At (position.Within x) fs) → Alive (at_words (position.Within x) fs z)
alive_within (b.Start draft) fs z = alive_start fs (alive_below fs) draft z
alive_within (b.ConstName draft) fs z =
    let next : Name → State = λ name. steps.within (b.ConstEquals draft name) fs in
    let k = named_kept 1 (at_words (position.Within (b.ConstName draft)) fs z) next (sound_within (b.ConstName draft) fs z a_word) in
    alive_by (at_words (position.Within (b.ConstName draft)) fs z) a_word (next (record { text = codes "a"; at = 0 })) k (alive_const_equals fs draft (record { text = codes "a"; at = 0 }) k.at)
alive_within (b.ConstEquals draft name) fs z = alive_const_equals fs draft name z
alive_within (b.ConstValue draft name) fs z = alive_const_value fs draft name z
alive_within (b.UseOpen draft name) fs z =
    let next = inside (i.Operand (fresh false 2)) (f.Use draft name ∷ fs) in
    let k : Kept (at_words (position.Within (b.UseOpen draft name)) fs z) (w.Sign p.OpenParen) next = sound_within (b.UseOpen draft name) fs z (w.Sign p.OpenParen) in
    alive_by (at_words (position.Within (b.UseOpen draft name)) fs z) (w.Sign p.OpenParen) next k (alive_operand (f.Use draft name ∷ fs) (alive_below (f.Use draft name ∷ fs)) (fresh false 2) k.at)
alive_within (b.End draft) fs z =
    let next = steps.within (b.Start draft) fs in
    let k : Kept (at_words (position.Within (b.End draft)) fs z) (w.Sign p.Semicolon) next = sound_within (b.End draft) fs z (w.Sign p.Semicolon) in
    alive_by (at_words (position.Within (b.End draft)) fs z) (w.Sign p.Semicolon) next k (alive_start fs (alive_below fs) draft k.at)
alive_within (b.IfOpen draft) fs z =
    let next = inside (i.Operand (fresh false 2)) (f.If draft ∷ fs) in
    let k : Kept (at_words (position.Within (b.IfOpen draft)) fs z) (w.Sign p.OpenParen) next = sound_within (b.IfOpen draft) fs z (w.Sign p.OpenParen) in
    alive_by (at_words (position.Within (b.IfOpen draft)) fs z) (w.Sign p.OpenParen) next k (alive_operand (f.If draft ∷ fs) (alive_below (f.If draft ∷ fs)) (fresh false 2) k.at)
alive_within (b.ThrowWord draft test) fs z =
    let next = inside (i.Operand (fresh false 1)) (f.Throw draft test ∷ fs) in
    let k : Kept (at_words (position.Within (b.ThrowWord draft test)) fs z) (w.Name (codes "throw") 0) next = sound_within (b.ThrowWord draft test) fs z (w.Name (codes "throw") 0) in
    alive_by (at_words (position.Within (b.ThrowWord draft test)) fs z) (w.Name (codes "throw") 0) next k (alive_operand (f.Throw draft test ∷ fs) (alive_below (f.Throw draft test ∷ fs)) (fresh false 1) k.at)

-- Within an expression.

alive_inside : (x : Inside) (fs : List Frame) (z : At (position.Inside x) fs) → Alive (at_words (position.Inside x) fs z)
alive_inside (i.Operand q) fs z = alive_operand fs (alive_below fs) q z
alive_inside (i.Value q d) fs z = alive_value fs (alive_below fs) q d z
alive_inside (i.Node q node) fs z = alive_node fs (alive_below fs) q node z
alive_inside (i.Dot q d) fs z =
    let named_ = steps.with_name d (record { text = codes "a"; at = 0 }) in
    let next = inside (i.Value q named_) fs in
    let k : Kept (at_words (position.Inside (i.Dot q d)) fs z) a_word next = sound_inside (i.Dot q d) fs z a_word in
    alive_by (at_words (position.Inside (i.Dot q d)) fs z) a_word next k (alive_value fs (alive_below fs) q named_ k.at)
alive_inside (i.ArrayStart q) fs z =
    let next = inside (i.Node q (n.Array [])) fs in
    let k : Kept (at_words (position.Inside (i.ArrayStart q)) fs z) (w.Sign p.CloseBracket) next = sound_inside (i.ArrayStart q) fs z (w.Sign p.CloseBracket) in
    alive_by (at_words (position.Inside (i.ArrayStart q)) fs z) (w.Sign p.CloseBracket) next k (alive_node fs (alive_below fs) q (n.Array []) k.at)
alive_inside (i.ArrayNext q items) fs z =
    let next = inside (i.Node q (n.Array items)) fs in
    let k : Kept (at_words (position.Inside (i.ArrayNext q items)) fs z) (w.Sign p.CloseBracket) next = sound_inside (i.ArrayNext q items) fs z (w.Sign p.CloseBracket) in
    alive_by (at_words (position.Inside (i.ArrayNext q items)) fs z) (w.Sign p.CloseBracket) next k (alive_node fs (alive_below fs) q (n.Array items) k.at)

-- Between the list of a map and its body.

alive_arrow : (fs : List Frame) (x : Mapping) (item : Name) (number_ : Option Name) (z : At (position.InMap (m.Arrow x item number_)) fs) → Alive (at_words (position.InMap (m.Arrow x item number_)) fs z)
alive_arrow fs x item number_ z =
    let next = inside (i.Operand (fresh true (x.pending.depth + 1))) (f.MapBody x item number_ ∷ fs) in
    let k : Kept (at_words (position.InMap (m.Arrow x item number_)) fs z) (w.Sign p.Arrow) next = sound_in_map (m.Arrow x item number_) fs z (w.Sign p.Arrow) in
    alive_by (at_words (position.InMap (m.Arrow x item number_)) fs z) (w.Sign p.Arrow) next k
    (alive_operand (f.MapBody x item number_ ∷ fs) (alive_below (f.MapBody x item number_ ∷ fs)) (fresh true (x.pending.depth + 1)) k.at)

alive_item_end : (fs : List Frame) (x : Mapping) (item : Name) (z : At (position.InMap (m.ItemEnd x item)) fs) → Alive (at_words (position.InMap (m.ItemEnd x item)) fs z)
alive_item_end fs x item z =
    let next = steps.in_map (m.Arrow x item None) fs in
    let k : Kept (at_words (position.InMap (m.ItemEnd x item)) fs z) (w.Sign p.CloseParen) next = sound_in_map (m.ItemEnd x item) fs z (w.Sign p.CloseParen) in
    alive_by (at_words (position.InMap (m.ItemEnd x item)) fs z) (w.Sign p.CloseParen) next k (alive_arrow fs x item None k.at)

alive_item : (fs : List Frame) (x : Mapping) (z : At (position.InMap (m.Item x)) fs) → Alive (at_words (position.InMap (m.Item x)) fs z)
alive_item fs x z =
    let next : Name → State = λ name. steps.in_map (m.ItemEnd x name) fs in
    let k = named_kept (x.pending.depth + 1 + 1) (at_words (position.InMap (m.Item x)) fs z) next (sound_in_map (m.Item x) fs z a_word) in
    alive_by (at_words (position.InMap (m.Item x)) fs z) a_word (next (record { text = codes "a"; at = 0 })) k (alive_item_end fs x (record { text = codes "a"; at = 0 }) k.at)

alive_number_end : (fs : List Frame) (x : Mapping) (item number_ : Name) (z : At (position.InMap (m.NumberEnd x item number_)) fs) → Alive (at_words (position.InMap (m.NumberEnd x item number_)) fs z)
alive_number_end fs x item number_ z =
    let next = steps.in_map (m.Arrow x item (Some number_)) fs in
    let k : Kept (at_words (position.InMap (m.NumberEnd x item number_)) fs z) (w.Sign p.CloseParen) next = sound_in_map (m.NumberEnd x item number_) fs z (w.Sign p.CloseParen) in
    alive_by (at_words (position.InMap (m.NumberEnd x item number_)) fs z) (w.Sign p.CloseParen) next k (alive_arrow fs x item (Some number_) k.at)

alive_in_map : (x : InMap) (fs : List Frame) (z : At (position.InMap x) fs) → Alive (at_words (position.InMap x) fs z)
alive_in_map (m.Open x) fs z =
    let next = steps.in_map (m.Item x) fs in
    let k : Kept (at_words (position.InMap (m.Open x)) fs z) (w.Sign p.OpenParen) next = sound_in_map (m.Open x) fs z (w.Sign p.OpenParen) in
    alive_by (at_words (position.InMap (m.Open x)) fs z) (w.Sign p.OpenParen) next k (alive_item fs x k.at)
alive_in_map (m.Item x) fs z = alive_item fs x z
alive_in_map (m.ItemEnd x item) fs z = alive_item_end fs x item z
alive_in_map (m.Number x item) fs z =
    let next : Name → State = λ name. steps.in_map (m.NumberEnd x item name) fs in
    let k = named_kept (x.pending.depth + 1 + 1) (at_words (position.InMap (m.Number x item)) fs z) next (sound_in_map (m.Number x item) fs z a_word) in
    alive_by (at_words (position.InMap (m.Number x item)) fs z) a_word (next (record { text = codes "a"; at = 0 })) k (alive_number_end fs x item (record { text = codes "a"; at = 0 }) k.at)
alive_in_map (m.NumberEnd x item number_) fs z = alive_number_end fs x item number_ z
alive_in_map (m.Arrow x item number_) fs z = alive_arrow fs x item number_ z

-- Within an element.

alive_in_element : (x : InElement) (fs : List Frame) (z : At (position.InElement x) fs) → Alive (at_words (position.InElement x) fs z)
alive_in_element (t.Start d) fs z =
    let next = steps.in_element (t.Children (steps.empty_fragment d)) fs in
    let k : Kept (at_words (position.InElement (t.Start d)) fs z) (w.Sign p.Greater) next = sound_in_element (t.Start d) fs z (w.Sign p.Greater) in
    alive_by (at_words (position.InElement (t.Start d)) fs z) (w.Sign p.Greater) next k (alive_children fs (alive_below fs) (steps.empty_fragment d) k.at)
alive_in_element (t.Attributes tag) fs z = alive_attributes fs (alive_below fs) tag z
alive_in_element (t.Equals tag name) fs z =
    alive_attributes fs (alive_below fs) (steps.with_attribute tag name (n.Value (e.Bool true))) (record { here = flagged tag z.here name; below = z.below })
alive_in_element (t.Value tag name) fs z =
    let tagged = steps.with_attribute tag name (n.Value (e.Text [])) in
    let next = steps.in_element (t.Attributes tagged) fs in
    let k : Kept (at_words (position.InElement (t.Value tag name)) fs z) (w.Text []) next = sound_in_element (t.Value tag name) fs z (w.Text []) in
    alive_by (at_words (position.InElement (t.Value tag name)) fs z) (w.Text []) next k (alive_attributes fs (alive_below fs) tagged k.at)
alive_in_element (t.Children x) fs z = alive_children fs (alive_below fs) x z
alive_in_element (t.Braces x) fs z =
    let next = steps.in_element (t.Children x) fs in
    let k : Kept (at_words (position.InElement (t.Braces x)) fs z) (w.Sign p.CloseBrace) next = sound_in_element (t.Braces x) fs z (w.Sign p.CloseBrace) in
    alive_by (at_words (position.InElement (t.Braces x)) fs z) (w.Sign p.CloseBrace) next k (alive_children fs (alive_below fs) x k.at)
alive_in_element (t.CloseName x) fs z = alive_close_name fs (alive_below fs) x z
alive_in_element (t.CloseEnd x) fs z = alive_close_end fs (alive_below fs) x z

pub alive_at : (x : Position) (fs : List Frame) (z : At x fs) → Alive (at_words x fs z)
alive_at (position.Outside x) fs z = alive_outside x fs z
alive_at (position.Within x) fs z = alive_within x fs z
alive_at (position.Inside x) fs z = alive_inside x fs z
alive_at (position.InMap x) fs z = alive_in_map x fs z
alive_at (position.InElement x) fs z = alive_in_element x fs z
