-- The steps of the parser read what the grammar spells: `complete`, one recursion over all productions.
use Rattle.std.proofs.Common.{◌≡◌, ℕ, zero, suc, ◌+◌, Bool, true, false, ◌&&◌, ◌||◌, if◌then◌else◌, List, [], ◌∷◌, ◌++◌, codes, Option, Some, None, Ok, Err, refl, sym, ap, ◌∙◌, append-nil, add-zero, add-one, arith}
use Rattle.std.specs.Str.{bytes_eq}
use Rattle.jsx_lex.specs.declared.word.Word.{Word}
use Rattle.jsx_lex.specs.declared.word.Word.TheVariants as w
use Rattle.jsx_lex.specs.declared.word.Punctuator.TheVariants as p
use Rattle.jsx_syntax.specs.declared.name.Name.{Name}
use Rattle.jsx_syntax.specs.declared.name.Entry.{Entry}
use Rattle.jsx_syntax.specs.declared.expr.Expr.{Expr}
use Rattle.jsx_syntax.specs.declared.expr.Expr.TheVariants as e
use Rattle.jsx_syntax.specs.declared.node.Node.{Node}
use Rattle.jsx_syntax.specs.declared.part.Part.{Part}
use Rattle.jsx_syntax.specs.declared.part.Part.TheVariants.{Value, Other}
use Rattle.jsx_syntax.specs.declared.part.Dotted.{Dotted}
use Rattle.jsx_syntax.specs.declared.file.Component.{Component}
use Rattle.jsx_syntax.specs.declared.file.Stmt.{Stmt}
use Rattle.std.proofs.lemmas.Bool.Decides.{nat_tests}
use Rattle.std.proofs.lemmas.Slice.Eq.{bytes_eq-Decides}
use Rattle.jsx_syntax.specs.declared.state.Left.{Left}
use Rattle.jsx_syntax.specs.declared.state.Signature.{Signature}
use Rattle.jsx_syntax.specs.declared.state.Draft.{Draft}
use Rattle.jsx_syntax.specs.declared.state.Conditional.{Conditional}
use Rattle.jsx_syntax.specs.declared.state.Mapping.{Mapping}
use Rattle.jsx_syntax.specs.declared.state.State.{State}
use Rattle.jsx_syntax.specs.declared.state.InMap.TheVariants as m
use Rattle.jsx_syntax.specs.declared.fault.Wanted.TheVariants as wanted
use Rattle.jsx_syntax.specs.declared.state.Outside.TheVariants as o
use Rattle.jsx_syntax.specs.declared.state.Within.TheVariants as b
use Rattle.jsx_syntax.specs.declared.state.Pending.{Pending}
use Rattle.jsx_syntax.specs.declared.state.Opened.{Opened}
use Rattle.jsx_syntax.specs.declared.state.Tag.{Tag}
use Rattle.jsx_syntax.specs.declared.state.Frame.{Frame}
use Rattle.jsx_syntax.specs.declared.state.Frame.TheVariants as f
use Rattle.jsx_syntax.specs.declared.state.Inside.TheVariants as i
use Rattle.jsx_syntax.specs.declared.state.Inside.{Inside}
use Rattle.jsx_syntax.specs.declared.state.InElement.TheVariants as t
use Rattle.jsx_syntax.specs.Trees.{member_of, sum_of, and_of, or_of, and_part, or_part, is_suspense}
use Rattle.jsx_syntax.specs.Words.{name_word, is_reserved, reserved_words}
use Rattle.jsx_syntax.specs.WordTests.{is_sign, is_word, has_room, code_name}
use Rattle.jsx_syntax.specs.Grammar.{Sort, Syntax, spell, tree, Fits, HasRoom, equal_sign}
use Rattle.jsx_syntax.specs.Grammar as g
use Rattle.jsx_syntax.specs.Steps.{Moved, inside, outside, within, in_map, in_element, fresh, nesting, operand_of, nots_of, equal_of, sums_of, ands_of, ors_of, value_of, node_part, after_part, names_before_map, finish, run, step_value, step_operand, step_item, step_attributes, close_item, deliver, holds_children, allows_node, fallback_place}
use Rattle.jsx_syntax.specs.Steps as steps

-- the state at a place within an expression, and what comes after it
abbrev at : Inside → List Frame → List Word → Moved
at x stack words = run (Ok (inside x stack)) words

abbrev with_entry : Tag → Entry Node → Tag
with_entry tag x = record tag { props = tag.props ++ x ∷ [] }

abbrev with_kids : Opened → List Node → Opened
with_kids x kids = record x { kids = x.kids ++ kids }

abbrev tag_of : ℕ → Name → List (Entry Node) → Tag
tag_of d name props = record { depth = d; name = name; props = props }

abbrev opened_of : ℕ → Option Name → List (Entry Node) → List Node → Opened
opened_of d name props kids = record { depth = d; name = name; props = props; kids = kids }

abbrev signature_of : Signature → List Name → Signature
signature_of x names = record x { properties = names }

abbrev draft_of : Signature → List Stmt → Draft
draft_of x stmts = record { signature = x; stmts = stmts }

abbrev test_of : Bool → ℕ → Expr → Conditional
test_of place d test = record { place = place; depth = d; test = test }

abbrev pend : Bool → ℕ → List Expr → List Expr → Option Left → List Expr → ℕ → Pending
pend place depth ors ands left sums nots =
    record { place = place; depth = depth; ors = ors; ands = ands; left = left; sums = sums; nots = nots }

-- A word that ends an expression.
record Closes (word : Word) : Type 0 where
  pub value : (q : Pending) (d : Dotted) (stack : List Frame) → step_value q d stack word ≡ finish (Value (value_of q d)) stack word

closes_paren : Closes (w.Sign p.CloseParen)
closes_paren = record { value = λ q d stack. refl }

closes_bracket : Closes (w.Sign p.CloseBracket)
closes_bracket = record { value = λ q d stack. refl }

closes_brace : Closes (w.Sign p.CloseBrace)
closes_brace = record { value = λ q d stack. refl }

closes_comma : Closes (w.Sign p.Comma)
closes_comma = record { value = λ q d stack. refl }

closes_colon : Closes (w.Sign p.Colon)
closes_colon = record { value = λ q d stack. refl }

closes_semicolon : Closes (w.Sign p.Semicolon)
closes_semicolon = record { value = λ q d stack. refl }

-- The words of the language.

reserved_true : is_reserved (codes "true") ≡ true
unfolding reserved_words
reserved_true = refl

reserved_false : is_reserved (codes "false") ≡ true
unfolding reserved_words
reserved_false = refl

reserved_null : is_reserved (codes "null") ≡ true
unfolding reserved_words
reserved_null = refl

reserved_undefined : is_reserved (codes "undefined") ≡ true
unfolding reserved_words
reserved_undefined = refl

-- A step that a test decides.
when : (b : Bool) (x y : Moved) (more : List Word) (z : Moved) → b ≡ true → run x more ≡ z → run (if b then x else y) more ≡ z
when b x y more z is rest = ap (λ (c : Bool). run (if c then x else y) more) is ∙ rest

unless : (b : Bool) (x y : Moved) (more : List Word) (z : Moved) → b ≡ false → run y more ≡ z → run (if b then x else y) more ≡ z
unless b x y more z is rest = ap (λ (c : Bool). run (if c then x else y) more) is ∙ rest

-- Where a chain of operands has led: to a value with these parts before it.
record UnaryEnd (c : Syntax g.unary) (q : Pending) (stack : List Frame) (more : List Word) : Type 0 where
  nots : ℕ
  last : Dotted
  reads : at (i.Operand q) stack (spell g.unary c more) ≡ at (i.Value (record q { nots = nots }) last) stack more
  value : nots_of nots (member_of last) ≡ nots_of q.nots (tree g.unary c)

record SumEnd (c : Syntax g.sum) (pl : Bool) (d : ℕ) (ors ands : List Expr) (left : Option Left) (stack : List Frame) (more : List Word) : Type 0 where
  sums : List Expr
  nots : ℕ
  last : Dotted
  reads : at (i.Operand (pend pl d ors ands left [] 0)) stack (spell g.sum c more) ≡ at (i.Value (pend pl d ors ands left sums nots) last) stack more
  value : sums ++ nots_of nots (member_of last) ∷ [] ≡ tree g.sum c

record EqualityEnd (c : Syntax g.equality) (pl : Bool) (d : ℕ) (ors ands : List Expr) (stack : List Frame) (more : List Word) : Type 0 where
  left : Option Left
  sums : List Expr
  nots : ℕ
  last : Dotted
  reads : at (i.Operand (pend pl d ors ands None [] 0)) stack (spell g.equality c more) ≡ at (i.Value (pend pl d ors ands left sums nots) last) stack more
  value : equal_of left (sum_of (sums ++ nots_of nots (member_of last) ∷ [])) ≡ tree g.equality c

record AndEnd (c : Syntax g.conjunction) (pl : Bool) (d : ℕ) (ors : List Expr) (stack : List Frame) (more : List Word) : Type 0 where
  ands : List Expr
  left : Option Left
  sums : List Expr
  nots : ℕ
  last : Dotted
  reads : at (i.Operand (pend pl d ors [] None [] 0)) stack (spell g.conjunction c more) ≡ at (i.Value (pend pl d ors ands left sums nots) last) stack more
  value : ands_of (pend pl d ors ands left sums nots) last ≡ tree g.conjunction c

record OrEnd (c : Syntax g.disjunction) (pl : Bool) (d : ℕ) (stack : List Frame) (more : List Word) : Type 0 where
  ors : List Expr
  ands : List Expr
  left : Option Left
  sums : List Expr
  nots : ℕ
  last : Dotted
  reads : at (i.Operand (fresh pl d)) stack (spell g.disjunction c more) ≡ at (i.Value (pend pl d ors ands left sums nots) last) stack more
  value : ors_of (pend pl d ors ands left sums nots) last ≡ tree g.disjunction c

-- an element's words after its `<`
abbrev inner_words : Syntax g.element → List Word → List Word
inner_words (g.closed x c) more = name_word x ∷ spell (g.attributes (is_suspense x.text)) c (w.Sign p.SlashGreater ∷ more)
inner_words (g.paired x c d place) more =
    name_word x ∷ spell (g.attributes (is_suspense x.text)) c (w.Sign p.Greater
    ∷ spell g.children d (w.Sign p.LessSlash ∷ w.Name x.text place ∷ w.Sign p.Greater ∷ more))
inner_words (g.fragment c) more =
    w.Sign p.Greater ∷ spell g.children c (w.Sign p.LessSlash ∷ w.Sign p.Greater ∷ more)

element_words : (c : Syntax g.element) (more : List Word) → spell g.element c more ≡ w.Sign p.Less ∷ inner_words c more
element_words (g.closed x c) more = refl
element_words (g.paired x c d place) more = refl
element_words (g.fragment c) more = refl

-- What the steps make of a production's words, by its nonterminal.
abbrev Reads : (s : Sort) → Syntax s → Type 0
Reads g.primary c = (q : Pending) (stack : List Frame) (d : ℕ) (more : List Word) → Fits g.primary c d → nesting q ≡ d
    → at (i.Operand q) stack (spell g.primary c more) ≡ at (i.Value q (operand_of (tree g.primary c))) stack more
Reads g.member c = (q : Pending) (stack : List Frame) (d : ℕ) (more : List Word) → Fits g.member c d → nesting q ≡ d
    → at (i.Operand q) stack (spell g.member c more) ≡ at (i.Value q (tree g.member c)) stack more
Reads g.unary c = (q : Pending) (stack : List Frame) (d : ℕ) (more : List Word) → Fits g.unary c d → nesting q ≡ d
    → UnaryEnd c q stack more
Reads g.sum c = (pl : Bool) (d : ℕ) (ors ands : List Expr) (left : Option Left) (stack : List Frame) (more : List Word)
    → Fits g.sum c d → SumEnd c pl d ors ands left stack more
Reads g.equality c = (pl : Bool) (d : ℕ) (ors ands : List Expr) (stack : List Frame) (more : List Word)
    → Fits g.equality c d → EqualityEnd c pl d ors ands stack more
Reads g.conjunction c = (pl : Bool) (d : ℕ) (ors : List Expr) (stack : List Frame) (more : List Word)
    → Fits g.conjunction c d → AndEnd c pl d ors stack more
Reads g.disjunction c = (pl : Bool) (d : ℕ) (stack : List Frame) (more : List Word)
    → Fits g.disjunction c d → OrEnd c pl d stack more
Reads g.expression c = (pl : Bool) (d : ℕ) (stack : List Frame) (word : Word) (more : List Word)
    → Fits g.expression c d → Closes word
    → at (i.Operand (fresh pl d)) stack (spell g.expression c (word ∷ more))
    ≡ run (finish (Value (tree g.expression c)) stack word) more
Reads g.node_primary c = (d : ℕ) (ors ands : List Expr) (stack : List Frame) (more : List Word) → Fits g.node_primary c d
    → at (i.Operand (pend true d ors ands None [] 0)) stack (spell g.node_primary c more)
    ≡ run (Ok (after_part (pend true d ors ands None [] 0) (tree g.node_primary c) stack)) more
Reads g.node_conjunction c = (d : ℕ) (ors : List Expr) (stack : List Frame) (word : Word) (more : List Word)
    → Fits g.node_conjunction c d → Closes word
    → at (i.Operand (pend true d ors [] None [] 0)) stack (spell g.node_conjunction c (word ∷ more))
    ≡ run (finish (or_part ors (tree g.node_conjunction c)) stack word) more
Reads g.node_disjunction c = (d : ℕ) (stack : List Frame) (word : Word) (more : List Word)
    → Fits g.node_disjunction c d → Closes word
    → at (i.Operand (fresh true d)) stack (spell g.node_disjunction c (word ∷ more))
    ≡ run (finish (tree g.node_disjunction c) stack word) more
Reads g.node c = (d : ℕ) (stack : List Frame) (word : Word) (more : List Word) → Fits g.node c d → Closes word
    → at (i.Operand (fresh true d)) stack (spell g.node c (word ∷ more))
    ≡ run (finish (tree g.node c) stack word) more
Reads g.node_list c = (q : Pending) (stack : List Frame) (word : Word) (more : List Word)
    → Fits g.node_list c (q.depth + 1) → Closes word
    → at (i.ArrayStart q) stack (spell g.node_list c (word ∷ more))
    ≡ run (close_item q (tree g.node_list c) stack word) more
Reads g.element c = (d : ℕ) (stack : List Frame) (more : List Word) → Fits g.element c d
    → run (Ok (in_element (t.Start d) stack)) (inner_words c more) ≡ run (deliver (tree g.element c) stack) more
Reads (g.attribute b) c = (tag : Tag) (stack : List Frame) (word : Word) (more : List Word)
    → Fits (g.attribute b) c (tag.depth + 1) → is_sign p.Assign word ≡ false → b ≡ is_suspense tag.name.text
    → run (Ok (in_element (t.Attributes tag) stack)) (spell (g.attribute b) c (word ∷ more))
    ≡ run (step_attributes (with_entry tag (tree (g.attribute b) c)) stack word) more
Reads (g.attributes b) c = (d : ℕ) (name : Name) (stack : List Frame) (word : Word) (more : List Word)
    → Fits (g.attributes b) c (d + 1) → is_sign p.Assign word ≡ false → b ≡ is_suspense name.text
    → run (Ok (in_element (t.Attributes (tag_of d name [])) stack)) (spell (g.attributes b) c (word ∷ more))
    ≡ run (step_attributes (tag_of d name (tree (g.attributes b) c)) stack word) more
Reads g.child c = (x : Opened) (stack : List Frame) (more : List Word) → Fits g.child c (x.depth + 1)
    → (holds_children x.name ≡ false → tree g.child c ≡ [])
    → run (Ok (in_element (t.Children x) stack)) (spell g.child c more)
    ≡ run (Ok (in_element (t.Children (with_kids x (tree g.child c))) stack)) more
Reads g.children c = (d : ℕ) (name : Option Name) (props : List (Entry Node)) (stack : List Frame) (more : List Word)
    → Fits g.children c (d + 1)
    → (holds_children name ≡ false → tree g.children c ≡ [])
    → run (Ok (in_element (t.Children (opened_of d name props [])) stack)) (spell g.children c more)
    ≡ run (Ok (in_element (t.Children (opened_of d name props (tree g.children c))) stack)) more
Reads g.names c = (x : Signature) (stack : List Frame) (more : List Word) → Fits g.names c 2
    → run (Ok (outside (o.FirstProperty (signature_of x [])) stack)) (spell g.names c more)
    ≡ run (Ok (outside (o.PropertyEnd (signature_of x (tree g.names c))) stack)) more
Reads g.properties c = (x : Signature) (stack : List Frame) (more : List Word) → Fits g.properties c 2
    → run (Ok (outside (o.Properties (signature_of x [])) stack)) (spell g.properties c (w.Sign p.CloseParen ∷ more))
    ≡ run (Ok (outside (o.Body (signature_of x (tree g.properties c))) stack)) more
Reads g.statement c = (draft : Draft) (stack : List Frame) (more : List Word) → Fits g.statement c 1
    → run (Ok (within (b.Start draft) stack)) (spell g.statement c more)
    ≡ run (Ok (within (b.Start (steps.with_stmt draft (tree g.statement c))) stack)) more
Reads g.statements c = (x : Signature) (stack : List Frame) (more : List Word) → Fits g.statements c 1
    → run (Ok (within (b.Start (draft_of x [])) stack)) (spell g.statements c more)
    ≡ run (Ok (within (b.Start (draft_of x (tree g.statements c))) stack)) more
Reads g.component c = (before : List Component) (stack : List Frame) (more : List Word) → Fits g.component c 0
    → run (Ok (outside (o.File before) stack)) (spell g.component c more)
    ≡ run (Ok (outside (o.File (before ++ tree g.component c ∷ [])) stack)) more
Reads g.components c = (stack : List Frame) (more : List Word) → Fits g.components c 0
    → run (Ok (outside (o.File []) stack)) (spell g.components c more)
    ≡ run (Ok (outside (o.File (tree g.components c)) stack)) more

not_nots : (k : ℕ) (x : Expr) → e.Not (nots_of k x) ≡ nots_of k (e.Not x)
not_nots zero x = refl
not_nots (suc k) x = ap e.Not (not_nots k x)

and_part-nil : (x : Part) → and_part [] x ≡ x
and_part-nil (Value x) = refl
and_part-nil (Other x) = refl

deeper : (pl : Bool) (k d : ℕ) (stack : List Frame) (words : List Word) (z : Moved) → k ≡ d
    → at (i.Operand (fresh pl (d + 1))) stack words ≡ z → at (i.Operand (fresh pl (k + 1))) stack words ≡ z
deeper pl k d stack words z is h = ap (λ (m : ℕ). at (i.Operand (fresh pl (m + 1))) stack words) is ∙ h

-- the step at `===` or `!==`, where neither came before
equal_step : (negated : Bool) (q : Pending) (d : Dotted) (stack : List Frame) (more : List Word) → q.left ≡ None
    → at (i.Value q d) stack (w.Sign (equal_sign negated) ∷ more) ≡ at (i.Operand (steps.after_equal q d negated)) stack more
equal_step false q d stack more none = rw none refl
equal_step true q d stack more none = rw none refl

question : (q : Pending) (d : Dotted) (stack : List Frame) (more : List Word) → HasRoom q.depth
    → at (i.Value q d) stack (w.Sign p.Question ∷ more)
    ≡ at (i.Operand (fresh q.place (q.depth + 1))) (f.Yes (steps.conditional q d) ∷ stack) more
question q d stack more room = when _ _ _ _ _ room refl

nots_of-add : (k : ℕ) (x : Expr) → nots_of (k + 1) x ≡ nots_of k (e.Not x)
nots_of-add k x = rw add-one (not_nots k x)

nesting-not : (a b d : ℕ) → a + b ≡ d → a + (b + 1) ≡ d + 1
nesting-not a b d is = omega arith

-- a part after an operand of a node place, before a word that ends it
after_part-closes : (d : ℕ) (ors ands : List Expr) (x : Part) (stack : List Frame) (word : Word) (more : List Word) → Closes word
    → run (Ok (after_part (pend true d ors ands None [] 0) x stack)) (word ∷ more)
    ≡ run (finish (node_part (pend true d ors ands None [] 0) x) stack word) more
after_part-closes d ors ands (Value x) stack word more closes =
    ap (λ (m : Moved). run m more) (closes.value (pend true d ors ands None [] 0) (operand_of x) stack)
after_part-closes d ors ands (Other x) stack word more closes = refl

or_part-nil : (x : Part) → or_part [] x ≡ x
or_part-nil (Value x) = refl
or_part-nil (Other x) = refl

names_before_map-append : (xs : List (List ℕ)) → names_before_map (xs ++ codes "map" ∷ []) ≡ Some xs
names_before_map-append [] = refl
names_before_map-append (x ∷ []) = refl
names_before_map-append (x ∷ y ∷ more) = rw (names_before_map-append (y ∷ more)) refl

pub room_before : (d : ℕ) → HasRoom (d + 1) → HasRoom d
room_before d room = grind (arith, nat_tests)

true_false : true ≡ false → ⊥
true_false is = cc

both_true : (a b : Bool) → a ≡ true → b ≡ true → a && b ≡ true
both_true true true x y = refl
both_true true false x y = y
both_true false b x y = x

or-false : (a b : Bool) → (a || b) ≡ false → (a ≡ false) × (b ≡ false)
or-false true b h = absurd (true_false h)
or-false false b h = (refl, h)

sixth : (a b c d e_ f_ rest : Bool) → (a || (b || (c || (d || (e_ || (f_ || rest)))))) ≡ false → f_ ≡ false
sixth a b c d e_ f_ rest h =
    let h1 = or-false a (b || (c || (d || (e_ || (f_ || rest))))) h in
    let h2 = or-false b (c || (d || (e_ || (f_ || rest)))) h1.1 in
    let h3 = or-false c (d || (e_ || (f_ || rest))) h2.1 in
    let h4 = or-false d (e_ || (f_ || rest)) h3.1 in
    let h5 = or-false e_ (f_ || rest) h4.1 in
    (or-false f_ rest h5.1).0

not_use : (text : List ℕ) → is_reserved text ≡ false → bytes_eq text (codes "use") ≡ false
unfolding reserved_words
not_use text h = sixth (bytes_eq text (codes "function")) (bytes_eq text (codes "const")) (bytes_eq text (codes "return"))
    (bytes_eq text (codes "if")) (bytes_eq text (codes "throw")) (bytes_eq text (codes "use"))
    (bytes_eq text (codes "true") || (bytes_eq text (codes "false") || (bytes_eq text (codes "null") || (bytes_eq text (codes "undefined") || false)))) h

-- a name that may stand in code
named : (k : ℕ) (x : Name) (next : Name → State) (more : List Word) (z : Moved) → is_reserved x.text ≡ false
    → run (Ok (next x)) more ≡ z → run (steps.name_then (code_name k (name_word x)) next) more ≡ z
named k x next more z is h = ap (λ (b : Bool). run (steps.name_then (if b then Err wanted.Token else Ok x) next) more) is ∙ h

bytes_eq-same : (x : List ℕ) → bytes_eq x x ≡ true
bytes_eq-same x = (bytes_eq-Decides x x).1 refl

append-empty : {A : Type 0} (xs ys : List A) → xs ++ ys ≡ [] → (xs ≡ []) × (ys ≡ [])
append-empty [] ys h = (refl, h)
append-empty (x ∷ xs) ys h = absurd (cons_nil h)
  where
    cons_nil : {A : Type 0} {x : A} {xs : List A} → x ∷ xs ≡ [] → ⊥
    cons_nil h = cc

some_kid : (b : Bool) (x : Node) → (b ≡ false → x ∷ [] ≡ []) → b ≡ true
some_kid true x h = refl
some_kid false x h = absurd (cons_nil (h refl))
  where
    cons_nil : {x : Node} → x ∷ [] ≡ [] → ⊥
    cons_nil h = cc

same_kids : (x : Opened) (stack : List Frame) (more : List Word)
    → run (Ok (in_element (t.Children x) stack)) more ≡ run (Ok (in_element (t.Children (with_kids x [])) stack)) more
same_kids x stack more = ap (λ (kids : List Node). run (Ok (in_element (t.Children (record x { kids = kids })) stack)) more) (sym (append-nil x.kids))

element_room : (c : Syntax g.element) (d : ℕ) → Fits g.element c d → HasRoom d
element_room (g.closed x c) d fits = fits.0
element_room (g.paired x c u place) d fits = fits.0
element_room (g.fragment c) d fits = fits.0

-- an attribute's name, and its words after that
abbrev attribute_name : (b : Bool) → Syntax (g.attribute b) → Name
attribute_name _ (g.flag x) = x
attribute_name _ (g.quoted x v) = x
attribute_name _ (g.braced x c) = x
attribute_name _ (g.fallback x c) = x

abbrev attribute_rest : (b : Bool) → Syntax (g.attribute b) → List Word → List Word
attribute_rest _ (g.flag x) more = more
attribute_rest _ (g.quoted x v) more = w.Sign p.Assign ∷ w.Text v ∷ more
attribute_rest _ (g.braced x c) more = w.Sign p.Assign ∷ w.Sign p.OpenBrace ∷ spell g.expression c (w.Sign p.CloseBrace ∷ more)
attribute_rest _ (g.fallback x c) more = w.Sign p.Assign ∷ w.Sign p.OpenBrace ∷ spell g.node c (w.Sign p.CloseBrace ∷ more)

attribute_words : (b : Bool) (c : Syntax (g.attribute b)) (more : List Word)
    → spell (g.attribute b) c more ≡ name_word (attribute_name b c) ∷ attribute_rest b c more
attribute_words _ (g.flag x) more = refl
attribute_words _ (g.quoted x v) more = refl
attribute_words _ (g.braced x c) more = refl
attribute_words _ (g.fallback x c) more = refl

-- How the words of an expression or a node begin.
record Starts (words : List Word) : Type 0 where
  first : Word
  rest : List Word
  is : words ≡ first ∷ rest
  no_bracket : is_sign p.CloseBracket first ≡ false
  no_brace : is_sign p.CloseBrace first ≡ false
  no_use : is_word (codes "use") first ≡ false

starts : (first : Word) (rest : List Word) → is_sign p.CloseBracket first ≡ false → is_sign p.CloseBrace first ≡ false
    → is_word (codes "use") first ≡ false → Starts (first ∷ rest)
starts first rest x y z = record { first = first; rest = rest; is = refl; no_bracket = x; no_brace = y; no_use = z }

abbrev Start : (s : Sort) → Syntax s → Type 0
Start g.primary c = (more : List Word) (d : ℕ) → Fits g.primary c d → Starts (spell g.primary c more)
Start g.member c = (more : List Word) (d : ℕ) → Fits g.member c d → Starts (spell g.member c more)
Start g.unary c = (more : List Word) (d : ℕ) → Fits g.unary c d → Starts (spell g.unary c more)
Start g.sum c = (more : List Word) (d : ℕ) → Fits g.sum c d → Starts (spell g.sum c more)
Start g.equality c = (more : List Word) (d : ℕ) → Fits g.equality c d → Starts (spell g.equality c more)
Start g.conjunction c = (more : List Word) (d : ℕ) → Fits g.conjunction c d → Starts (spell g.conjunction c more)
Start g.disjunction c = (more : List Word) (d : ℕ) → Fits g.disjunction c d → Starts (spell g.disjunction c more)
Start g.expression c = (more : List Word) (d : ℕ) → Fits g.expression c d → Starts (spell g.expression c more)
Start g.node_primary c = (more : List Word) (d : ℕ) → Fits g.node_primary c d → Starts (spell g.node_primary c more)
Start g.node_conjunction c = (more : List Word) (d : ℕ) → Fits g.node_conjunction c d → Starts (spell g.node_conjunction c more)
Start g.node_disjunction c = (more : List Word) (d : ℕ) → Fits g.node_disjunction c d → Starts (spell g.node_disjunction c more)
Start g.node c = (more : List Word) (d : ℕ) → Fits g.node c d → Starts (spell g.node c more)
Start g.element c = (more : List Word) (d : ℕ) → Fits g.element c d → Starts (spell g.element c more)
Start s c = Unit {0}

start : (s : Sort) (c : Syntax s) → Start s c
start _ (g.number z) = λ more d fits. starts _ _ refl refl refl
start _ (g.string x) = λ more d fits. starts _ _ refl refl refl
start _ (g.truth place) = λ more d fits. starts _ _ refl refl refl
start _ (g.falsity place) = λ more d fits. starts _ _ refl refl refl
start _ (g.null place) = λ more d fits. starts _ _ refl refl refl
start _ (g.undefined place) = λ more d fits. starts _ _ refl refl refl
start _ (g.variable x) = λ more d fits. starts _ _ refl refl (not_use x.text fits)
start _ (g.parens c) = λ more d fits. starts _ _ refl refl refl
start _ (g.no_member c) = start g.primary c
start _ (g.dot c x) = λ more d fits. start g.member c _ d fits
start _ (g.no_bang c) = start g.member c
start _ (g.bang c) = λ more d fits. starts _ _ refl refl refl
start _ (g.no_plus c) = start g.unary c
start _ (g.plus c u) = λ more d fits. start g.sum c _ d fits.0
start _ (g.no_equal c) = start g.sum c
start _ (g.equal b c u) = λ more d fits. start g.sum c _ d fits.0
start _ (g.no_and c) = start g.equality c
start _ (g.and c u) = λ more d fits. start g.conjunction c _ d fits.0
start _ (g.no_or c) = start g.conjunction c
start _ (g.or c u) = λ more d fits. start g.disjunction c _ d fits.0
start _ (g.no_choice c) = start g.disjunction c
start _ (g.choice c u v) = λ more d fits. start g.disjunction c _ d fits.0
start _ (g.value c) = start g.expression c
start _ (g.node_choice c u v) = λ more d fits. start g.disjunction c _ d fits.0
start _ (g.chain c) = start g.node_disjunction c
start _ (g.or_alone c) = start g.node_conjunction c
start _ (g.or_last c u) = λ more d fits. start g.disjunction c _ d fits.0
start _ (g.and_alone c) = start g.node_primary c
start _ (g.and_last c u) = λ more d fits. start g.conjunction c _ d fits.0
start _ (g.node_parens c) = λ more d fits. starts _ _ refl refl refl
start _ (g.element_node c) = start g.element c
start _ g.empty_array = λ more d fits. starts _ _ refl refl refl
start _ (g.array c false) = λ more d fits. starts _ _ refl refl refl
start _ (g.array c true) = λ more d fits. starts _ _ refl refl refl
start _ (g.map_node c place item None u) = λ more d fits. start g.member c _ d fits.0
start _ (g.map_node c place item (Some number_) u) = λ more d fits. start g.member c _ d fits.0
start _ (g.closed x c) = λ more d fits. starts _ _ refl refl refl
start _ (g.paired x c u place) = λ more d fits. starts _ _ refl refl refl
start _ (g.fragment c) = λ more d fits. starts _ _ refl refl refl
start _ _ = tt

-- a step to an operand, from a place where more may stand
item_start : (q : Pending) (stack : List Frame) (words : List Word) (z : Moved) → Starts words
    → at (i.Operand (fresh true (q.depth + 1))) (f.Item q [] ∷ stack) words ≡ z → at (i.ArrayStart q) stack words ≡ z
item_start q stack words z st h =
    ap (λ (ws : List Word). at (i.ArrayStart q) stack ws) st.is
    ∙ unless _ _ _ _ _ st.no_bracket (ap (λ (ws : List Word). at (i.Operand (fresh true (q.depth + 1))) (f.Item q [] ∷ stack) ws) (sym st.is) ∙ h)

item_next : (q : Pending) (items : List Node) (stack : List Frame) (words : List Word) (z : Moved) → Starts words
    → at (i.Operand (fresh true (q.depth + 1))) (f.Item q items ∷ stack) words ≡ z → at (i.ArrayNext q items) stack words ≡ z
item_next q items stack words z st h =
    ap (λ (ws : List Word). at (i.ArrayNext q items) stack ws) st.is
    ∙ unless _ _ _ _ _ st.no_bracket (ap (λ (ws : List Word). at (i.Operand (fresh true (q.depth + 1))) (f.Item q items ∷ stack) ws) (sym st.is) ∙ h)

braces_start : (x : Opened) (stack : List Frame) (words : List Word) (z : Moved) → Starts words → holds_children x.name ≡ true
    → at (i.Operand (fresh true (x.depth + 1 + 1))) (f.Child x ∷ stack) words ≡ z → run (Ok (in_element (t.Braces x) stack)) words ≡ z
braces_start x stack words z st holds h =
    ap (λ (ws : List Word). run (Ok (in_element (t.Braces x) stack)) ws) st.is
    ∙ unless _ _ _ _ _ st.no_brace (when _ _ _ _ _ holds
    (ap (λ (ws : List Word). at (i.Operand (fresh true (x.depth + 1 + 1))) (f.Child x ∷ stack) ws) (sym st.is) ∙ h))

bind_start : (draft : Draft) (name : Name) (stack : List Frame) (words : List Word) (z : Moved) → Starts words
    → at (i.Operand (fresh false 1)) (f.Bind draft name ∷ stack) words ≡ z → run (Ok (within (b.ConstValue draft name) stack)) words ≡ z
bind_start draft name stack words z st h =
    ap (λ (ws : List Word). run (Ok (within (b.ConstValue draft name) stack)) ws) st.is
    ∙ unless _ _ _ _ _ st.no_use (ap (λ (ws : List Word). at (i.Operand (fresh false 1)) (f.Bind draft name ∷ stack) ws) (sym st.is) ∙ h)

abbrev mapping_of : Pending → Expr → Mapping
mapping_of q list = record { pending = q; list = list }

-- `.map((` after a list
map_start : (q : Pending) (d : Dotted) (stack : List Frame) (place : ℕ) (more : List Word) (z : Moved) → allows_node q ≡ true
    → HasRoom q.depth → HasRoom (q.depth + 1) → run (Ok (in_map (m.Item (mapping_of q (member_of d))) stack)) more ≡ z
    → at (i.Value q d) stack (w.Sign p.Dot ∷ w.Name (codes "map") place ∷ w.Sign p.OpenParen ∷ w.Sign p.OpenParen ∷ more) ≡ z
map_start q d stack place more z allows outer inner h =
    ap (λ (names : Option (List (List ℕ))). run (steps.step_open q (steps.with_name d (record { text = codes "map"; at = place })) names stack (w.Sign p.OpenParen)) (w.Sign p.OpenParen ∷ more))
    (names_before_map-append d.names)
    ∙ when _ _ _ (w.Sign p.OpenParen ∷ more) _ outer (when _ _ _ (w.Sign p.OpenParen ∷ more) _ (both_true _ _ allows inner) h)

complete : (s : Sort) (c : Syntax s) → Reads s c
complete _ (g.number z) = λ q stack d more fits is. refl
complete _ (g.string x) = λ q stack d more fits is. refl
complete _ (g.truth place) = λ q stack d more fits is. when _ _ _ _ _ reserved_true refl
complete _ (g.falsity place) = λ q stack d more fits is. when _ _ _ _ _ reserved_false refl
complete _ (g.null place) = λ q stack d more fits is. when _ _ _ _ _ reserved_null refl
complete _ (g.undefined place) = λ q stack d more fits is. when _ _ _ _ _ reserved_undefined refl
complete _ (g.variable x) = λ q stack d more fits is. unless _ _ _ _ _ fits refl
complete _ (g.parens c) = λ q stack d more fits is.
    when _ _ _ _ _ (ap has_room is ∙ fits.0)
    (deeper (allows_node q) (nesting q) d (f.Parens q ∷ stack) (spell g.expression c (w.Sign p.CloseParen ∷ more)) _ is (complete g.expression c (allows_node q) (d + 1) (f.Parens q ∷ stack) (w.Sign p.CloseParen) more fits.1 closes_paren))
complete _ (g.no_member c) = complete g.primary c
complete _ (g.dot c x) = λ q stack d more fits is.
    complete g.member c q stack d (w.Sign p.Dot ∷ name_word x ∷ more) fits is
complete _ (g.no_bang c) = λ q stack d more fits is.
    record { nots = q.nots; last = tree g.member c; reads = complete g.member c q stack d more fits is; value = refl }
complete _ (g.bang c) = λ q stack d more fits is.
    let end = complete g.unary c (steps.after_not q) stack (d + 1) more fits.1 (nesting-not q.depth q.nots d is) in
    record {
      nots = end.nots;
      last = end.last;
      reads = when _ _ _ _ _ (ap has_room is ∙ fits.0) end.reads;
      value = end.value ∙ nots_of-add q.nots (tree g.unary c);
    }
complete _ (g.no_plus c) = λ pl d ors ands left stack more fits.
    let end = complete g.unary c (pend pl d ors ands left [] 0) stack d more fits (add-zero d) in
    record {
      sums = [];
      nots = end.nots;
      last = end.last;
      reads = end.reads;
      value = ap (λ (x : Expr). x ∷ []) end.value;
    }
complete _ (g.plus c u) = λ pl d ors ands left stack more fits.
    let first = complete g.sum c pl d ors ands left stack (w.Sign p.Plus ∷ spell g.unary u more) fits.0 in
    let end = complete g.unary u (pend pl d ors ands left (tree g.sum c) 0) stack d more fits.1 (add-zero d) in
    record {
      sums = tree g.sum c;
      nots = end.nots;
      last = end.last;
      reads = first.reads
          ∙ ap (λ (xs : List Expr). at (i.Operand (pend pl d ors ands left xs 0)) stack (spell g.unary u more)) first.value
          ∙ end.reads;
      value = ap (λ (x : Expr). tree g.sum c ++ x ∷ []) end.value;
    }
complete _ (g.no_equal c) = λ pl d ors ands stack more fits.
    let end = complete g.sum c pl d ors ands None stack more fits in
    record {
      left = None;
      sums = end.sums;
      nots = end.nots;
      last = end.last;
      reads = end.reads;
      value = ap sum_of end.value;
    }
complete _ (g.equal negated c u) = λ pl d ors ands stack more fits.
    let first = complete g.sum c pl d ors ands None stack (w.Sign (equal_sign negated) ∷ spell g.sum u more) fits.0 in
    let left : Left = record { value = sum_of (tree g.sum c); negated = negated } in
    let end = complete g.sum u pl d ors ands (Some left) stack more fits.1 in
    record {
      left = Some left;
      sums = end.sums;
      nots = end.nots;
      last = end.last;
      reads = first.reads
          ∙ equal_step negated (pend pl d ors ands None first.sums first.nots) first.last stack (spell g.sum u more) refl
          ∙ ap (λ (xs : List Expr). at (i.Operand (pend pl d ors ands (Some (record { value = sum_of xs; negated = negated })) [] 0)) stack (spell g.sum u more)) first.value
          ∙ end.reads;
      value = ap (λ (xs : List Expr). e.Equal (sum_of (tree g.sum c)) (sum_of xs) negated) end.value;
    }
complete _ (g.no_and c) = λ pl d ors stack more fits.
    let end = complete g.equality c pl d ors [] stack more fits in
    record {
      ands = [];
      left = end.left;
      sums = end.sums;
      nots = end.nots;
      last = end.last;
      reads = end.reads;
      value = ap (λ (x : Expr). x ∷ []) end.value;
    }
complete _ (g.and c u) = λ pl d ors stack more fits.
    let first = complete g.conjunction c pl d ors stack (w.Sign p.AndAnd ∷ spell g.equality u more) fits.0 in
    let end = complete g.equality u pl d ors (tree g.conjunction c) stack more fits.1 in
    record {
      ands = tree g.conjunction c;
      left = end.left;
      sums = end.sums;
      nots = end.nots;
      last = end.last;
      reads = first.reads
          ∙ ap (λ (xs : List Expr). at (i.Operand (pend pl d ors xs None [] 0)) stack (spell g.equality u more)) first.value
          ∙ end.reads;
      value = ap (λ (x : Expr). tree g.conjunction c ++ x ∷ []) end.value;
    }
complete _ (g.no_or c) = λ pl d stack more fits.
    let end = complete g.conjunction c pl d [] stack more fits in
    record {
      ors = [];
      ands = end.ands;
      left = end.left;
      sums = end.sums;
      nots = end.nots;
      last = end.last;
      reads = end.reads;
      value = ap (λ (xs : List Expr). and_of xs ∷ []) end.value;
    }
complete _ (g.or c u) = λ pl d stack more fits.
    let first = complete g.disjunction c pl d stack (w.Sign p.OrOr ∷ spell g.conjunction u more) fits.0 in
    let end = complete g.conjunction u pl d (tree g.disjunction c) stack more fits.1 in
    record {
      ors = tree g.disjunction c;
      ands = end.ands;
      left = end.left;
      sums = end.sums;
      nots = end.nots;
      last = end.last;
      reads = first.reads
          ∙ ap (λ (xs : List Expr). at (i.Operand (pend pl d xs [] None [] 0)) stack (spell g.conjunction u more)) first.value
          ∙ end.reads;
      value = ap (λ (xs : List Expr). tree g.disjunction c ++ and_of xs ∷ []) end.value;
    }
complete _ (g.no_choice c) = λ pl d stack word more fits closes.
    let end = complete g.disjunction c pl d stack (word ∷ more) fits in
    end.reads
    ∙ ap (λ (m : Moved). run m more) (closes.value (pend pl d end.ors end.ands end.left end.sums end.nots) end.last stack)
    ∙ ap (λ (xs : List Expr). run (finish (Value (or_of xs)) stack word) more) end.value
complete _ (g.choice c u v) = λ pl d stack word more fits closes.
    let rest = spell g.expression u (w.Sign p.Colon ∷ spell g.expression v (word ∷ more)) in
    let end = complete g.disjunction c pl d stack (w.Sign p.Question ∷ rest) fits.0 in
    let yes_ = complete g.expression u pl (d + 1) (f.Yes (test_of pl d (or_of (tree g.disjunction c))) ∷ stack)
    (w.Sign p.Colon) (spell g.expression v (word ∷ more)) fits.2 closes_colon in
    let no_ = complete g.expression v pl (d + 1)
    (f.No (test_of pl d (or_of (tree g.disjunction c))) (Value (tree g.expression u)) ∷ stack) word more fits.3 closes in
    end.reads
    ∙ question (pend pl d end.ors end.ands end.left end.sums end.nots) end.last stack rest fits.1
    ∙ ap (λ (xs : List Expr). at (i.Operand (fresh pl (d + 1))) (f.Yes (test_of pl d (or_of xs)) ∷ stack) rest) end.value
    ∙ yes_ ∙ no_
complete _ (g.value c) = λ d stack word more fits closes. complete g.expression c true d stack word more fits closes
complete _ (g.node_choice c u v) = λ d stack word more fits closes.
    let rest = spell g.node u (w.Sign p.Colon ∷ spell g.node v (word ∷ more)) in
    let end = complete g.disjunction c true d stack (w.Sign p.Question ∷ rest) fits.0 in
    let yes_ = complete g.node u (d + 1) (f.Yes (test_of true d (or_of (tree g.disjunction c))) ∷ stack)
    (w.Sign p.Colon) (spell g.node v (word ∷ more)) fits.2 closes_colon in
    let no_ = complete g.node v (d + 1)
    (f.No (test_of true d (or_of (tree g.disjunction c))) (tree g.node u) ∷ stack) word more fits.3 closes in
    end.reads
    ∙ question (pend true d end.ors end.ands end.left end.sums end.nots) end.last stack rest fits.1
    ∙ ap (λ (xs : List Expr). at (i.Operand (fresh true (d + 1))) (f.Yes (test_of true d (or_of xs)) ∷ stack) rest) end.value
    ∙ yes_ ∙ no_
complete _ (g.chain c) = complete g.node_disjunction c
complete _ (g.or_alone c) = λ d stack word more fits closes.
    complete g.node_conjunction c d [] stack word more fits closes
    ∙ ap (λ (x : Part). run (finish x stack word) more) (or_part-nil (tree g.node_conjunction c))
complete _ (g.or_last c u) = λ d stack word more fits closes.
    let rest = spell g.node_conjunction u (word ∷ more) in
    let end = complete g.disjunction c true d stack (w.Sign p.OrOr ∷ rest) fits.0 in
    end.reads
    ∙ ap (λ (xs : List Expr). at (i.Operand (pend true d xs [] None [] 0)) stack rest) end.value
    ∙ complete g.node_conjunction u d (tree g.disjunction c) stack word more fits.1 closes
complete _ (g.and_alone c) = λ d ors stack word more fits closes.
    complete g.node_primary c d ors [] stack (word ∷ more) fits
    ∙ after_part-closes d ors [] (tree g.node_primary c) stack word more closes
    ∙ ap (λ (x : Part). run (finish (or_part ors x) stack word) more) (and_part-nil (tree g.node_primary c))
complete _ (g.and_last c u) = λ d ors stack word more fits closes.
    let rest = spell g.node_primary u (word ∷ more) in
    let end = complete g.conjunction c true d ors stack (w.Sign p.AndAnd ∷ rest) fits.0 in
    end.reads
    ∙ ap (λ (xs : List Expr). at (i.Operand (pend true d ors xs None [] 0)) stack rest) end.value
    ∙ complete g.node_primary u d ors (tree g.conjunction c) stack (word ∷ more) fits.1
    ∙ after_part-closes d ors (tree g.conjunction c) (tree g.node_primary u) stack word more closes
complete _ (g.node_parens c) = λ d ors ands stack more fits.
    let q = pend true d ors ands None [] 0 in
    when _ _ _ _ _ (ap has_room (add-zero d) ∙ fits.0)
    (deeper true (d + 0) d (f.Parens q ∷ stack) (spell g.node c (w.Sign p.CloseParen ∷ more)) _ (add-zero d)
    (complete g.node c (d + 1) (f.Parens q ∷ stack) (w.Sign p.CloseParen) more fits.1 closes_paren))
complete _ (g.element_node c) = λ d ors ands stack more fits.
    let q = pend true d ors ands None [] 0 in
    ap (λ (ws : List Word). at (i.Operand q) stack ws) (element_words c more)
    ∙ when _ _ _ _ _ (ap has_room (add-zero d) ∙ element_room c d fits) (complete g.element c d (f.Operand q ∷ stack) more fits)
complete _ g.empty_array = λ d ors ands stack more fits. when _ _ _ (w.Sign p.CloseBracket ∷ more) _ (ap has_room (add-zero d) ∙ fits) refl
complete _ (g.array c false) = λ d ors ands stack more fits.
    when _ _ _ _ _ (ap has_room (add-zero d) ∙ fits.0)
    (complete g.node_list c (pend true d ors ands None [] 0) stack (w.Sign p.CloseBracket) more fits.1 closes_bracket)
complete _ (g.array c true) = λ d ors ands stack more fits.
    when _ _ _ _ _ (ap has_room (add-zero d) ∙ fits.0)
    (complete g.node_list c (pend true d ors ands None [] 0) stack (w.Sign p.Comma) (w.Sign p.CloseBracket ∷ more) fits.1 closes_comma)
complete _ (g.first_node c) = λ q stack word more fits closes.
    item_start q stack (spell g.node c (word ∷ more)) _ (start g.node c (word ∷ more) (q.depth + 1) fits)
    (complete g.node c (q.depth + 1) (f.Item q [] ∷ stack) word more fits closes)
complete _ (g.next_node c u) = λ q stack word more fits closes.
    complete g.node_list c q stack (w.Sign p.Comma) (spell g.node u (word ∷ more)) fits.0 closes_comma
    ∙ item_next q (tree g.node_list c) stack (spell g.node u (word ∷ more)) _ (start g.node u (word ∷ more) (q.depth + 1) fits.1)
    (complete g.node u (q.depth + 1) (f.Item q (tree g.node_list c) ∷ stack) word more fits.1 closes)
complete _ (g.map_node c place item None u) = λ d ors ands stack more fits.
    let q = pend true d ors ands None [] 0 in
    let list = mapping_of q (member_of (tree g.member c)) in
    let body = spell g.node u (w.Sign p.CloseParen ∷ more) in
    let rest = w.Sign p.CloseParen ∷ w.Sign p.Arrow ∷ body in
    complete g.member c q stack d (w.Sign p.Dot ∷ w.Name (codes "map") place ∷ w.Sign p.OpenParen ∷ w.Sign p.OpenParen
    ∷ name_word item ∷ rest) fits.0 (add-zero d)
    ∙ map_start q (tree g.member c) stack place (name_word item ∷ rest) _ refl (room_before d fits.1) fits.1
    (named (d + 1 + 1) item (λ name. in_map (m.ItemEnd list name) stack) rest _ fits.2
    (complete g.node u (d + 1) (f.MapBody list item None ∷ stack) (w.Sign p.CloseParen) more fits.4 closes_paren))
complete _ (g.map_node c place item (Some number_) u) = λ d ors ands stack more fits.
    let q = pend true d ors ands None [] 0 in
    let list = mapping_of q (member_of (tree g.member c)) in
    let body = spell g.node u (w.Sign p.CloseParen ∷ more) in
    let rest = w.Sign p.CloseParen ∷ w.Sign p.Arrow ∷ body in
    let names = w.Sign p.Comma ∷ name_word number_ ∷ rest in
    complete g.member c q stack d (w.Sign p.Dot ∷ w.Name (codes "map") place ∷ w.Sign p.OpenParen ∷ w.Sign p.OpenParen
    ∷ name_word item ∷ names) fits.0 (add-zero d)
    ∙ map_start q (tree g.member c) stack place (name_word item ∷ names) _ refl (room_before d fits.1) fits.1
    (named (d + 1 + 1) item (λ name. in_map (m.ItemEnd list name) stack) names _ fits.2
    (named (d + 1 + 1) number_ (λ name. in_map (m.NumberEnd list item name) stack) rest _ fits.3
    (complete g.node u (d + 1) (f.MapBody list item (Some number_) ∷ stack) (w.Sign p.CloseParen) more fits.4 closes_paren)))
complete _ (g.closed x c) = λ d stack more fits.
    complete (g.attributes (is_suspense x.text)) c d x stack (w.Sign p.SlashGreater) more fits.1 refl refl
complete _ (g.paired x c u place) = λ d stack more fits.
    complete (g.attributes (is_suspense x.text)) c d x stack (w.Sign p.Greater)
    (spell g.children u (w.Sign p.LessSlash ∷ w.Name x.text place ∷ w.Sign p.Greater ∷ more)) fits.1 refl refl
    ∙ complete g.children u d (Some x) (tree (g.attributes (is_suspense x.text)) c) stack
    (w.Sign p.LessSlash ∷ w.Name x.text place ∷ w.Sign p.Greater ∷ more) fits.2 fits.3
    ∙ when _ _ _ (w.Sign p.Greater ∷ more) _ (bytes_eq-same x.text) refl
complete _ (g.fragment c) = λ d stack more fits.
    complete g.children c d None [] stack (w.Sign p.LessSlash ∷ w.Sign p.Greater ∷ more) fits.1 (λ no. absurd (true_false no))
complete _ (g.flag x) = λ tag stack word more fits no_assign is. unless _ _ _ _ _ no_assign refl
complete _ (g.quoted x v) = λ tag stack word more fits no_assign is. refl
complete _ (g.braced x c) = λ tag stack word more fits no_assign is.
    when _ _ _ _ _ fits.0
    (complete g.expression c (fallback_place tag x) (tag.depth + 1 + 1) (f.Attribute tag x ∷ stack) (w.Sign p.CloseBrace) (word ∷ more) fits.1 closes_brace)
complete _ (g.fallback x c) = λ tag stack word more fits no_assign is.
    when _ _ _ _ _ fits.1
    (ap (λ (pl : Bool). at (i.Operand (fresh pl (tag.depth + 1 + 1))) (f.Attribute tag x ∷ stack) (spell g.node c (w.Sign p.CloseBrace ∷ word ∷ more))) (both_true _ _ (sym is) fits.0)
    ∙ complete g.node c (tag.depth + 1 + 1) (f.Attribute tag x ∷ stack) (w.Sign p.CloseBrace) (word ∷ more) fits.2 closes_brace)
complete _ g.no_attribute = λ d name stack word more fits no_assign is. refl
complete _ (g.next_attribute {b = b} c u) = λ d name stack word more fits no_assign is.
    ap (λ (ws : List Word). run (Ok (in_element (t.Attributes (tag_of d name [])) stack)) (spell (g.attributes b) c ws)) (attribute_words b u (word ∷ more))
    ∙ complete (g.attributes b) c d name stack (name_word (attribute_name b u)) (attribute_rest b u (word ∷ more)) fits.0 refl is
    ∙ ap (λ (ws : List Word). run (Ok (in_element (t.Attributes (tag_of d name (tree (g.attributes b) c))) stack)) ws) (sym (attribute_words b u (word ∷ more)))
    ∙ complete (g.attribute b) u (tag_of d name (tree (g.attributes b) c)) stack word more fits.1 no_assign is
complete _ (g.text []) = λ x stack more fits holds. same_kids x stack more
complete _ (g.text (c ∷ cs)) = λ x stack more fits holds. when _ _ _ _ _ (some_kid _ _ holds) refl
complete _ g.empty_braces = λ x stack more fits holds. when _ _ _ (w.Sign p.CloseBrace ∷ more) _ fits (same_kids x stack more)
complete _ (g.braces c) = λ x stack more fits holds.
    when _ _ _ _ _ fits.0
    (braces_start x stack (spell g.node c (w.Sign p.CloseBrace ∷ more)) _ (start g.node c (w.Sign p.CloseBrace ∷ more) (x.depth + 1 + 1) fits.1) (some_kid _ _ holds)
    (complete g.node c (x.depth + 1 + 1) (f.Child x ∷ stack) (w.Sign p.CloseBrace) more fits.1 closes_brace))
complete _ (g.element_child c) = λ x stack more fits holds.
    ap (λ (ws : List Word). run (Ok (in_element (t.Children x) stack)) ws) (element_words c more)
    ∙ when _ _ _ _ _ (element_room c (x.depth + 1) fits)
    (when _ _ _ _ _ (some_kid _ _ holds) (complete g.element c (x.depth + 1) (f.Kid x ∷ stack) more fits))
complete _ g.no_child = λ d name props stack more fits holds. refl
complete _ (g.next_child c u) = λ d name props stack more fits holds.
    complete g.children c d name props stack (spell g.child u more) fits.0 (λ no. (append-empty _ _ (holds no)).0)
    ∙ complete g.child u (opened_of d name props (tree g.children c)) stack more fits.1 (λ no. (append-empty _ _ (holds no)).1)
complete _ (g.first_name x) = λ sig stack more fits. named 2 x _ _ _ fits refl
complete _ (g.next_name c x) = λ sig stack more fits.
    complete g.names c sig stack (w.Sign p.Comma ∷ name_word x ∷ more) fits.0 ∙ named 2 x _ _ _ fits.1 refl
complete _ g.no_properties = λ sig stack more fits. refl
complete _ g.empty_properties = λ sig stack more fits. refl
complete _ (g.braced_properties c) = λ sig stack more fits.
    complete g.names c sig stack (w.Sign p.CloseBrace ∷ w.Sign p.CloseParen ∷ more) fits
complete _ (g.fetch place x used c) = λ draft stack more fits.
    named 1 x _ (w.Sign p.Assign ∷ w.Name (codes "use") used ∷ w.Sign p.OpenParen
    ∷ spell g.expression c (w.Sign p.CloseParen ∷ w.Sign p.Semicolon ∷ more)) _ fits.0
    (complete g.expression c false 2 (f.Use draft x ∷ stack) (w.Sign p.CloseParen) (w.Sign p.Semicolon ∷ more) fits.1 closes_paren)
complete _ (g.bind place x c) = λ draft stack more fits.
    named 1 x _ (w.Sign p.Assign ∷ spell g.expression c (w.Sign p.Semicolon ∷ more)) _ fits.0
    (bind_start draft x stack (spell g.expression c (w.Sign p.Semicolon ∷ more)) _ (start g.expression c (w.Sign p.Semicolon ∷ more) 1 fits.1)
    (complete g.expression c false 1 (f.Bind draft x ∷ stack) (w.Sign p.Semicolon) more fits.1 closes_semicolon))
complete _ (g.throw place c thrown u) = λ draft stack more fits.
    complete g.expression c false 2 (f.If draft ∷ stack) (w.Sign p.CloseParen)
    (w.Name (codes "throw") thrown ∷ spell g.expression u (w.Sign p.Semicolon ∷ more)) fits.0 closes_paren
    ∙ complete g.expression u false 1 (f.Throw draft (tree g.expression c) ∷ stack) (w.Sign p.Semicolon) more fits.1 closes_semicolon
complete _ g.no_statement = λ sig stack more fits. refl
complete _ (g.next_statement c u) = λ sig stack more fits.
    complete g.statements c sig stack (spell g.statement u more) fits.0
    ∙ complete g.statement u (draft_of sig (tree g.statements c)) stack more fits.1
complete _ (g.function place x c u returned v) = λ before stack more fits.
    let sig : Signature = record { components = before; name = x; properties = [] } in
    let sig_ : Signature = record { components = before; name = x; properties = tree g.properties c } in
    let last = w.Name (codes "return") returned ∷ spell g.node v (w.Sign p.Semicolon ∷ w.Sign p.CloseBrace ∷ more) in
    named 0 x _ (w.Sign p.OpenParen ∷ spell g.properties c (w.Sign p.CloseParen ∷ w.Sign p.OpenBrace ∷ spell g.statements u last)) _ fits.0
    (complete g.properties c sig stack (w.Sign p.OpenBrace ∷ spell g.statements u last) fits.1
    ∙ complete g.statements u sig_ stack last fits.2
    ∙ complete g.node v 1 (f.Return (draft_of sig_ (tree g.statements u)) ∷ stack) (w.Sign p.Semicolon) (w.Sign p.CloseBrace ∷ more) fits.3 closes_semicolon)
complete _ g.no_component = λ stack more fits. refl
complete _ (g.next_component c u) = λ stack more fits.
    complete g.components c stack (spell g.component u more) fits.0
    ∙ complete g.component u (tree g.components c) stack more fits.1

-- the words of components lead to them
pub components_read : (c : Syntax g.components) → Fits g.components c 0
    → run (Ok (outside (o.File []) [])) (spell g.components c []) ≡ run (Ok (outside (o.File (tree g.components c)) [])) []
components_read c fits = complete g.components c [] [] fits
