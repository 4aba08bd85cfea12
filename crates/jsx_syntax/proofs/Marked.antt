-- What is open in a state of the parser.
use Rattle.std.proofs.Common.{◌≡◌, ℕ, zero, suc, ◌+◌, Bool, true, false, not, ◌&&◌, ◌||◌, if◌then◌else◌, List, [], ◌∷◌, Option, Some, None, Ok, Err, length, refl, sym, ap, subst, ◌∙◌, ◌⊎◌, inl, inr, arith}
use Rattle.jsx_lex.specs.declared.word.Word.{Word}
use Rattle.jsx_lex.specs.declared.word.Word.TheVariants as w
use Rattle.jsx_lex.specs.declared.word.Punctuator.{Punctuator}
use Rattle.jsx_lex.specs.declared.word.Punctuator.TheVariants as p
use Rattle.jsx_syntax.specs.declared.fault.Wanted.{Wanted}
use Rattle.jsx_syntax.specs.declared.fault.Wanted.TheVariants as wanted
use Rattle.jsx_syntax.specs.declared.state.Pending.{Pending}
use Rattle.jsx_syntax.specs.declared.state.Frame.{Frame}
use Rattle.jsx_syntax.specs.declared.state.Frame.TheVariants as f
use Rattle.jsx_syntax.specs.declared.state.Position.{Position}
use Rattle.jsx_syntax.specs.declared.state.Position.TheVariants as position
use Rattle.jsx_syntax.specs.declared.state.Outside.{Outside}
use Rattle.jsx_syntax.specs.declared.state.Outside.TheVariants as o
use Rattle.jsx_syntax.specs.declared.state.Within.{Within}
use Rattle.jsx_syntax.specs.declared.state.Within.TheVariants as b
use Rattle.jsx_syntax.specs.declared.state.Inside.{Inside}
use Rattle.jsx_syntax.specs.declared.state.Inside.TheVariants as i
use Rattle.jsx_syntax.specs.declared.state.InMap.{InMap}
use Rattle.jsx_syntax.specs.declared.state.InMap.TheVariants as m
use Rattle.jsx_syntax.specs.declared.state.InElement.{InElement}
use Rattle.jsx_syntax.specs.declared.state.InElement.TheVariants as t
use Rattle.jsx_syntax.specs.declared.state.State.{State}
use Rattle.jsx_syntax.specs.Marks.{Mark, in_parens, in_brackets, in_braces, in_tag, in_children, in_end, in_not, in_yes, in_no, Last, operand, dot, dot_map, less_slash, child_brace, none, Marks, after_operand, after_expression, after_operand_at, open_at, closed, turned, tag_closed, ending, after_sign, after_word, among_children, last_name, last_sign, last_word, marks_by, marks_of}
use Rattle.jsx_syntax.specs.Kinds.{is_too_deep, is_no_value, is_other_name, begins_node, is_child_text, begins_child, wanted_of}
use Rattle.jsx_syntax.specs.WordTests.{is_sign, opens, has_room, refusal}
use Rattle.jsx_syntax.specs.Steps.{Moved, allows_node, nesting, names_before_map, holds_children}
use Rattle.jsx_syntax.proofs.Zipper.{Hole, file, part, elem, Stacked, At}
use Rattle.jsx_syntax.proofs.Closings.{nesting-allows}

-- so many `!` are open
abbrev pub nots_on : ℕ → List Mark → List Mark
nots_on zero marks = marks
nots_on (suc k) marks = in_not ∷ nots_on k marks

-- what is open within the frames
abbrev pub below : List Frame → List Mark
below [] = []
below (f.Use draft name ∷ fs) = in_parens ∷ in_braces ∷ below fs
below (f.Bind draft name ∷ fs) = in_braces ∷ below fs
below (f.If draft ∷ fs) = in_parens ∷ in_braces ∷ below fs
below (f.Throw draft test ∷ fs) = in_braces ∷ below fs
below (f.Return draft ∷ fs) = in_braces ∷ below fs
below (f.Parens q ∷ fs) = in_parens ∷ nots_on q.nots (below fs)
below (f.Yes c ∷ fs) = in_yes ∷ below fs
below (f.No c one ∷ fs) = in_no ∷ below fs
below (f.Item q items ∷ fs) = in_brackets ∷ nots_on q.nots (below fs)
below (f.MapBody x item number_ ∷ fs) = in_parens ∷ nots_on x.pending.nots (below fs)
below (f.Attribute tag name ∷ fs) = in_braces ∷ in_tag ∷ below fs
below (f.Child x ∷ fs) = in_braces ∷ in_children ∷ below fs
below (f.Operand q ∷ fs) = nots_on q.nots (below fs)
below (f.Kid x ∷ fs) = in_children ∷ below fs

abbrev pub outside_marks : Outside → List Mark → List Mark
outside_marks (o.File components) ms = ms
outside_marks (o.Name components) ms = ms
outside_marks (o.Open x) ms = ms
outside_marks (o.Properties x) ms = in_parens ∷ ms
outside_marks (o.FirstProperty x) ms = in_braces ∷ in_parens ∷ ms
outside_marks (o.NextProperty x) ms = in_braces ∷ in_parens ∷ ms
outside_marks (o.PropertyEnd x) ms = in_braces ∷ in_parens ∷ ms
outside_marks (o.Close x) ms = in_parens ∷ ms
outside_marks (o.Body x) ms = ms
outside_marks (o.BodyEnd components) ms = in_braces ∷ ms

abbrev pub inside_marks : Inside → List Mark → List Mark
inside_marks (i.Operand q) ms = nots_on q.nots ms
inside_marks (i.Value q d) ms = nots_on q.nots ms
inside_marks (i.Node q node) ms = nots_on q.nots ms
inside_marks (i.Dot q d) ms = nots_on q.nots ms
inside_marks (i.ArrayStart q) ms = in_brackets ∷ nots_on q.nots ms
inside_marks (i.ArrayNext q items) ms = in_brackets ∷ nots_on q.nots ms

abbrev pub in_map_marks : InMap → List Mark → List Mark
in_map_marks (m.Open x) ms = in_parens ∷ nots_on x.pending.nots ms
in_map_marks (m.Item x) ms = in_parens ∷ in_parens ∷ nots_on x.pending.nots ms
in_map_marks (m.ItemEnd x item) ms = in_parens ∷ in_parens ∷ nots_on x.pending.nots ms
in_map_marks (m.Number x item) ms = in_parens ∷ in_parens ∷ nots_on x.pending.nots ms
in_map_marks (m.NumberEnd x item number_) ms = in_parens ∷ in_parens ∷ nots_on x.pending.nots ms
in_map_marks (m.Arrow x item number_) ms = in_parens ∷ nots_on x.pending.nots ms

abbrev pub in_element_marks : InElement → List Mark → List Mark
in_element_marks (t.Start d) ms = in_tag ∷ ms
in_element_marks (t.Attributes tag) ms = in_tag ∷ ms
in_element_marks (t.Equals tag name) ms = in_tag ∷ ms
in_element_marks (t.Value tag name) ms = in_tag ∷ ms
in_element_marks (t.Children x) ms = in_children ∷ ms
in_element_marks (t.Braces x) ms = in_braces ∷ in_children ∷ ms
in_element_marks (t.CloseName x) ms = in_end ∷ ms
in_element_marks (t.CloseEnd x) ms = in_end ∷ ms

-- what is open in a state
abbrev pub marks_in : Position → List Frame → List Mark
marks_in (position.Outside x) fs = outside_marks x (below fs)
marks_in (position.Within x) fs = in_braces ∷ below fs
marks_in (position.Inside x) fs = inside_marks x (below fs)
marks_in (position.InMap x) fs = in_map_marks x (below fs)
marks_in (position.InElement x) fs = in_element_marks x (below fs)

abbrev pub value_last : Option (List (List ℕ)) → Last
value_last None = operand
value_last (Some names) = dot_map

-- no operand ended, or nothing ends with it
abbrev pub IsQuiet : Last → List Mark → Type 0
IsQuiet last ms = (last ≡ none) ⊎ ((last ≡ operand) × (after_operand ms ≡ ms) × (after_expression ms ≡ ms))

-- what the last word can have been
abbrev pub LastIn : Position → List Mark → Last → Type 0
LastIn (position.Inside (i.Value q d)) ms last = last ≡ value_last (names_before_map d.names)
LastIn (position.Inside (i.Node q node)) ms last = last ≡ operand
LastIn (position.Inside (i.Dot q d)) ms last = last ≡ dot
LastIn (position.InElement (t.CloseName x)) ms last = last ≡ less_slash
LastIn (position.InElement (t.Braces x)) ms last = last ≡ child_brace
LastIn _ ms last = IsQuiet last ms

pub record IsMarked (state : State) (m_ : Marks) : Type 0 where
  pub marks_are : m_.marks ≡ marks_in state.position state.stack
  pub last_is : LastIn state.position (marks_in state.position state.stack) m_.last

-- whether a number may come next
abbrev pub value_may : Position → Bool
value_may (position.Inside (i.Operand q)) = true
value_may (position.Inside (i.ArrayStart q)) = true
value_may (position.Inside (i.ArrayNext q items)) = true
value_may (position.Within (b.ConstValue draft name)) = true
value_may (position.InElement (t.Braces x)) = holds_children x.name
value_may _ = false

-- what a step says of the word, where this is open and the last word was that
abbrev pub Told : Bool → Marks → Word → Moved → Type 0
Told may m_ word (Ok next) = IsMarked next (marks_by m_ word)
Told may m_ word (Err wanted_) = wanted_ ≡ wanted_of may m_ word

-- Numbers of what is open.

nots-length : (k : ℕ) (ms : List Mark) → length (nots_on k ms) ≡ length ms + k
nots-length zero ms = omega arith
nots-length (suc k) ms = let ih = nots-length k ms in omega arith

pub nots-more : (k : ℕ) (ms : List Mark) → nots_on (k + 1) ms ≡ in_not ∷ nots_on k ms
nots-more k ms = let e : k + 1 ≡ suc k = omega arith in ap (λ (n : ℕ). nots_on n ms) e

pub nots-operand : (k : ℕ) (ms : List Mark) → after_operand (nots_on k ms) ≡ after_operand ms
nots-operand zero ms = refl
nots-operand (suc k) ms = nots-operand k ms

pub nots-expression : (k : ℕ) (ms : List Mark) → after_expression (nots_on k ms) ≡ after_expression ms
nots-expression zero ms = refl
nots-expression (suc k) ms = nots-expression k ms

pub nots-children : (k : ℕ) (ms : List Mark) → among_children ms ≡ false → among_children (nots_on k ms) ≡ false
nots-children zero ms h = h
nots-children (suc k) ms h = refl

abbrev pub hole_depth : Hole → ℕ
hole_depth file = 0
hole_depth (part pl d) = d
hole_depth (elem d) = d

pub below-length : (fs : List Frame) (hole : Hole) → Stacked fs hole → length (below fs) ≡ hole_depth hole
below-length [] file z = refl
below-length (f.Use draft name ∷ fs) (part pl d) z = let ih = below-length fs file z.1 in let is = z.0.depth_is in omega arith
below-length (f.Bind draft name ∷ fs) (part pl d) z = let ih = below-length fs file z.1 in let is = z.0.depth_is in omega arith
below-length (f.If draft ∷ fs) (part pl d) z = let ih = below-length fs file z.1 in let is = z.0.depth_is in omega arith
below-length (f.Throw draft test ∷ fs) (part pl d) z = let ih = below-length fs file z.1 in let is = z.0.depth_is in omega arith
below-length (f.Return draft ∷ fs) (part pl d) z = let ih = below-length fs file z.1 in let is = z.0.depth_is in omega arith
below-length (f.Parens q ∷ fs) (part pl d) z =
    let ih = below-length fs (part q.place q.depth) z.1 in
    let is = z.0.depth_is in
    let nots = nots-length q.nots (below fs) in
    omega arith
below-length (f.Yes c ∷ fs) (part pl d) z = let ih = below-length fs (part c.place c.depth) z.1 in let is = z.0.depth_is in omega arith
below-length (f.No c one ∷ fs) (part pl d) z = let ih = below-length fs (part c.place c.depth) z.1 in let is = z.0.depth_is in omega arith
below-length (f.Item q items ∷ fs) (part pl d) z =
    let ih = below-length fs (part q.place q.depth) z.1 in
    let is = z.0.depth_is in
    let nots = nots-length q.nots (below fs) in
    let alone = nesting-allows q z.0.allows in
    omega arith
below-length (f.MapBody x item number_ ∷ fs) (part pl d) z =
    let ih = below-length fs (part x.pending.place x.pending.depth) z.1 in
    let is = z.0.depth_is in
    let nots = nots-length x.pending.nots (below fs) in
    let alone = nesting-allows x.pending z.0.mapped.allows in
    omega arith
below-length (f.Attribute tag name ∷ fs) (part pl d) z = let ih = below-length fs (elem tag.depth) z.1 in let is = z.0.depth_is in omega arith
below-length (f.Child x ∷ fs) (part pl d) z = let ih = below-length fs (elem x.depth) z.1 in let is = z.0.depth_is in omega arith
below-length (f.Operand q ∷ fs) (elem d) z =
    let ih = below-length fs (part q.place q.depth) z.1 in
    let is = z.0.depth_is in
    let nots = nots-length q.nots (below fs) in
    let alone = nesting-allows q z.0.allows in
    omega arith
below-length (f.Kid x ∷ fs) (elem d) z = let ih = below-length fs (elem x.depth) z.1 in let is = z.0.depth_is in omega arith
below-length fs hole z = absurd z

-- where an expression is read
pub below-nesting : (q : Pending) (fs : List Frame) → Stacked fs (part q.place q.depth) → length (nots_on q.nots (below fs)) ≡ nesting q
below-nesting q fs z =
    let ih = below-length fs (part q.place q.depth) z in
    let nots = nots-length q.nots (below fs) in
    omega arith

pub below-operand : (fs : List Frame) (pl : Bool) (d : ℕ) → Stacked fs (part pl d) → after_operand (below fs) ≡ below fs
below-operand (f.Use draft name ∷ fs) pl d z = refl
below-operand (f.Bind draft name ∷ fs) pl d z = refl
below-operand (f.If draft ∷ fs) pl d z = refl
below-operand (f.Throw draft test ∷ fs) pl d z = refl
below-operand (f.Return draft ∷ fs) pl d z = refl
below-operand (f.Parens q ∷ fs) pl d z = refl
below-operand (f.Yes c ∷ fs) pl d z = refl
below-operand (f.No c one ∷ fs) pl d z = refl
below-operand (f.Item q items ∷ fs) pl d z = refl
below-operand (f.MapBody x item number_ ∷ fs) pl d z = refl
below-operand (f.Attribute tag name ∷ fs) pl d z = refl
below-operand (f.Child x ∷ fs) pl d z = refl
below-operand fs pl d z = absurd z

pub below-children : (fs : List Frame) (pl : Bool) (d : ℕ) → Stacked fs (part pl d) → among_children (below fs) ≡ false
below-children (f.Use draft name ∷ fs) pl d z = refl
below-children (f.Bind draft name ∷ fs) pl d z = refl
below-children (f.If draft ∷ fs) pl d z = refl
below-children (f.Throw draft test ∷ fs) pl d z = refl
below-children (f.Return draft ∷ fs) pl d z = refl
below-children (f.Parens q ∷ fs) pl d z = refl
below-children (f.Yes c ∷ fs) pl d z = refl
below-children (f.No c one ∷ fs) pl d z = refl
below-children (f.Item q items ∷ fs) pl d z = refl
below-children (f.MapBody x item number_ ∷ fs) pl d z = refl
below-children (f.Attribute tag name ∷ fs) pl d z = refl
below-children (f.Child x ∷ fs) pl d z = refl
below-children fs pl d z = absurd z

-- What a refusal wants.

abbrev pub plain : List Mark → Marks
plain ms = record { marks = ms; last = none }

abbrev pub ended : List Mark → Marks
ended ms = record { marks = ms; last = operand }

and-false : (x : Bool) → x && false ≡ false
and-false true = refl
and-false false = refl

pub deep_is : (k : ℕ) (ms : List Mark) (v : Wanted) → length ms ≡ k → has_room k ≡ false → wanted.Shallower ≡ (if not (has_room (length ms)) then wanted.Shallower else v)
deep_is k ms v len h = ap (λ (x : Bool). if not x then wanted.Shallower else v) (sym h ∙ ap has_room (sym len))

pub shallow_is : (k : ℕ) (ms : List Mark) (v : Wanted) → length ms ≡ k → has_room k ≡ true → v ≡ (if not (has_room (length ms)) then wanted.Shallower else v)
shallow_is k ms v len h = ap (λ (x : Bool). if not x then wanted.Shallower else v) (sym h ∙ ap has_room (sym len))

-- nothing else is wanted
pub refused_as : (may : Bool) (m_ : Marks) (word : Word) (k : ℕ) → length (open_at m_.last word m_.marks) ≡ k → is_no_value may m_ word ≡ false
    → is_other_name m_ word ≡ false → begins_child m_ word ≡ false → refusal k word ≡ wanted_of may m_ word
refused_as may m_ word k len value_no name_no child_no =
    ap (λ (n : ℕ). if opens word && not (has_room n) then wanted.Shallower else wanted.Token) (sym len)
    ∙ rest (is_too_deep m_ word) (is_no_value may m_ word) (is_other_name m_ word) (begins_child m_ word) value_no name_no child_no
  where
    rest : (a x y z : Bool) → x ≡ false → y ≡ false → z ≡ false
        → (if a then wanted.Shallower else wanted.Token) ≡ (if a then wanted.Shallower else if x then wanted.Value else if y then wanted.CloseName else if z then wanted.NoChildren else wanted.Token)
    rest a true y z e_ n_ c_ = absurd cc
    rest a false true z e_ n_ c_ = absurd cc
    rest a false false true e_ n_ c_ = absurd cc
    rest a false false false e_ n_ c_ = refl

-- The last word may have ended an operand, where nothing ends with it.

pick : (x : Bool) (a c r : List Mark) → a ≡ r → c ≡ r → (if x then a else c) ≡ r
pick true a c r h k = h
pick false a c r h k = k

pub quiet-open : (ms : List Mark) → after_operand ms ≡ ms → after_expression ms ≡ ms → (word : Word) → after_operand_at word ms ≡ ms
quiet-open ms o_ e_ word =
    pick (is_sign p.Dot word) _ _ ms refl
    (pick (is_sign p.Plus word) _ _ ms o_
    (pick (is_sign p.StrictEqual word) _ _ ms o_
    (pick (is_sign p.StrictNotEqual word) _ _ ms o_
    (pick (is_sign p.AndAnd word) _ _ ms o_
    (pick (is_sign p.OrOr word) _ _ ms o_
    (pick (is_sign p.Question word) _ _ ms o_ e_))))))

last-same : (word : Word) (ms ns : List Mark) → ms ≡ ns → last_word operand word ms ≡ last_word none word ns
last-same (w.Sign sign) ms ns h = ap (last_sign sign) h
last-same (w.Name text place) ms ns h = refl
last-same (w.Number z) ms ns h = refl
last-same (w.Text x) ms ns h = refl
last-same (w.JsxText x) ms ns h = refl

pub quiet-told : (may : Bool) (ms : List Mark) (last : Last) (word : Word) (moved : Moved) → IsQuiet last ms
    → Told may (plain ms) word moved → Told may (record { marks = ms; last = last }) word moved
quiet-told may ms last word moved (inl is) k = subst (λ (l : Last). Told may (record { marks = ms; last = l }) word moved) (sym is) k
quiet-told may ms last word moved (inr is) k = subst (λ (l : Last). Told may (record { marks = ms; last = l }) word moved) (sym is.0) (by_moved moved k)
  where
    same : after_operand_at word ms ≡ ms
    same = quiet-open ms is.1 is.2 word

    by_moved : (x : Moved) → Told may (plain ms) word x → Told may (ended ms) word x
    by_moved (Ok next) h = record {
      marks_are = ap (after_word word) same ∙ h.marks_are;
      last_is = subst (LastIn next.position (marks_in next.position next.stack)) (sym (last-same word (after_operand_at word ms) ms same)) h.last_is;
    }
    by_moved (Err v) h = h ∙ ap (λ (xs : List Mark). if opens word && not (has_room (length xs)) then wanted.Shallower
        else if is_no_value may (plain ms) word then wanted.Value else if is_other_name (plain ms) word then wanted.CloseName
        else if begins_child (plain ms) word then wanted.NoChildren else wanted.Token) (sym same)
