-- What the parser has read, in terms of the grammar: whole parts for what a position and each frame hold, and the
-- words that they spell. `At` says it of a state, `at_words` gives the words up to there, in front of those to come.
use Rattle.std.proofs.Common.{◌≡◌, ℕ, zero, suc, ◌+◌, Bool, true, false, List, [], ◌∷◌, codes, Option, Some, None, ◌⊎◌, inl, inr}
use Rattle.jsx_lex.specs.declared.word.Word.{Word}
use Rattle.jsx_lex.specs.declared.word.Word.TheVariants as w
use Rattle.jsx_lex.specs.declared.word.Punctuator.TheVariants as p
use Rattle.jsx_syntax.specs.declared.name.Name.{Name}
use Rattle.jsx_syntax.specs.declared.name.Entry.{Entry}
use Rattle.jsx_syntax.specs.declared.expr.Expr.{Expr}
use Rattle.jsx_syntax.specs.declared.node.Node.{Node}
use Rattle.jsx_syntax.specs.declared.part.Part.{Part}
use Rattle.jsx_syntax.specs.declared.part.Part.TheVariants.{Value, Other}
use Rattle.jsx_syntax.specs.declared.part.Dotted.{Dotted}
use Rattle.jsx_syntax.specs.declared.file.Component.{Component}
use Rattle.jsx_syntax.specs.declared.file.Stmt.TheVariants as s
use Rattle.jsx_syntax.specs.declared.state.Left.{Left}
use Rattle.jsx_syntax.specs.declared.state.Signature.{Signature}
use Rattle.jsx_syntax.specs.declared.state.Draft.{Draft}
use Rattle.jsx_syntax.specs.declared.state.Pending.{Pending}
use Rattle.jsx_syntax.specs.declared.state.Conditional.{Conditional}
use Rattle.jsx_syntax.specs.declared.state.Mapping.{Mapping}
use Rattle.jsx_syntax.specs.declared.state.Tag.{Tag}
use Rattle.jsx_syntax.specs.declared.state.Opened.{Opened}
use Rattle.jsx_syntax.specs.declared.state.Frame.{Frame}
use Rattle.jsx_syntax.specs.declared.state.Frame.TheVariants as f
use Rattle.jsx_syntax.specs.declared.state.Position.{Position}
use Rattle.jsx_syntax.specs.declared.state.Position.TheVariants as position
use Rattle.jsx_syntax.specs.declared.state.Outside.{Outside}
use Rattle.jsx_syntax.specs.declared.state.Outside.TheVariants as o
use Rattle.jsx_syntax.specs.declared.state.Within.{Within}
use Rattle.jsx_syntax.specs.declared.state.Within.TheVariants as b
use Rattle.jsx_syntax.specs.declared.state.Inside.{Inside}
use Rattle.jsx_syntax.specs.declared.state.Inside.TheVariants as i
use Rattle.jsx_syntax.specs.declared.state.InMap.{InMap}
use Rattle.jsx_syntax.specs.declared.state.InMap.TheVariants as m
use Rattle.jsx_syntax.specs.declared.state.InElement.{InElement}
use Rattle.jsx_syntax.specs.declared.state.InElement.TheVariants as t
use Rattle.jsx_syntax.specs.Trees.{or_of, sum_of, member_of, node_of, is_suspense}
use Rattle.jsx_syntax.specs.Words.{name_word}
use Rattle.jsx_syntax.specs.Grammar.{Sort, Syntax, Meaning, spell, tree, Fits, HasRoom, IsName, AreNames, equal_sign}
use Rattle.jsx_syntax.specs.Grammar as g
use Rattle.jsx_syntax.specs.Steps.{allows_node, nesting, holds_children, fallback_place, component_of, with_stmt, same_name}

-- a whole part with this tree, where so many are open
pub record Read (s : Sort) (v : Meaning s) (d : ℕ) : Type 0 where
  pub syntax : Syntax s
  pub is : tree s syntax ≡ v
  pub fits : Fits s syntax d

abbrev pub words_of : (s : Sort) (v : Meaning s) (d : ℕ) → Read s v d → List Word → List Word
words_of s v d r more = spell s r.syntax more

-- the operands before a sign, if there are any
abbrev pub Sums : List Expr → ℕ → Type 0
Sums xs d = (xs ≡ []) ⊎ Read g.sum xs d

abbrev pub Ands : List Expr → ℕ → Type 0
Ands xs d = (xs ≡ []) ⊎ Read g.conjunction xs d

abbrev pub Ors : List Expr → ℕ → Type 0
Ors xs d = (xs ≡ []) ⊎ Read g.disjunction xs d

abbrev pub sums_words : (xs : List Expr) (d : ℕ) → Sums xs d → List Word → List Word
sums_words xs d (inl none) more = more
sums_words xs d (inr r) more = spell g.sum r.syntax (w.Sign p.Plus ∷ more)

abbrev pub ands_words : (xs : List Expr) (d : ℕ) → Ands xs d → List Word → List Word
ands_words xs d (inl none) more = more
ands_words xs d (inr r) more = spell g.conjunction r.syntax (w.Sign p.AndAnd ∷ more)

abbrev pub ors_words : (xs : List Expr) (d : ℕ) → Ors xs d → List Word → List Word
ors_words xs d (inl none) more = more
ors_words xs d (inr r) more = spell g.disjunction r.syntax (w.Sign p.OrOr ∷ more)

pub record LeftSide (left : Left) (d : ℕ) : Type 0 where
  pub operands : List Expr
  pub read : Read g.sum operands d
  pub is : sum_of operands ≡ left.value

abbrev pub Lefts : Option Left → ℕ → Type 0
Lefts None d = Unit {0}
Lefts (Some left) d = LeftSide left d

abbrev pub left_words : (left : Option Left) (d : ℕ) → Lefts left d → List Word → List Word
left_words None d r more = more
left_words (Some left) d r more = spell g.sum r.read.syntax (w.Sign (equal_sign left.negated) ∷ more)

abbrev pub Nots : ℕ → ℕ → Type 0
Nots zero d = Unit {0}
Nots (suc k) d = HasRoom d × Nots k (d + 1)

abbrev pub nots_words : ℕ → List Word → List Word
nots_words zero more = more
nots_words (suc k) more = w.Sign p.Not ∷ nots_words k more

pub record Before (q : Pending) : Type 0 where
  pub ors : Ors q.ors q.depth
  pub ands : Ands q.ands q.depth
  pub left : Lefts q.left q.depth
  pub sums : Sums q.sums q.depth
  pub nots : Nots q.nots q.depth

abbrev pub before_words : (q : Pending) → Before q → List Word → List Word
before_words q r more =
    ors_words q.ors q.depth r.ors (ands_words q.ands q.depth r.ands (left_words q.left q.depth r.left
    (sums_words q.sums q.depth r.sums (nots_words q.nots more))))

-- a whole part of an expression or a node
abbrev pub PartRead : Part → Bool → ℕ → Type 0
PartRead (Value x) place d = Read g.expression x d
PartRead (Other x) place d = (place ≡ true) × Read g.node (Other x) d

abbrev pub part_words : (x : Part) (place : Bool) (d : ℕ) → PartRead x place d → List Word → List Word
part_words (Value x) place d r more = spell g.expression r.syntax more
part_words (Other x) place d r more = spell g.node r.1.syntax more

pub record Test (c : Conditional) : Type 0 where
  pub operands : List Expr
  pub read : Read g.disjunction operands c.depth
  pub is : or_of operands ≡ c.test
  pub room : HasRoom c.depth

-- a component's head up to its name
pub record Head (x : Signature) : Type 0 where
  pub before : Read g.components x.components 0
  pub place : ℕ
  pub named : IsName x.name

abbrev pub head_words : (x : Signature) → Head x → List Word → List Word
head_words x r more = spell g.components r.before.syntax (w.Name (codes "function") r.place ∷ name_word x.name ∷ more)

pub record Body (x : Draft) : Type 0 where
  pub head : Head x.signature
  pub properties : Read g.properties x.signature.properties 2
  pub stmts : Read g.statements x.stmts 1

abbrev pub body_words : (x : Draft) → Body x → List Word → List Word
body_words x r more =
    head_words x.signature r.head (w.Sign p.OpenParen ∷ spell g.properties r.properties.syntax (w.Sign p.CloseParen ∷ w.Sign p.OpenBrace
    ∷ spell g.statements r.stmts.syntax more))

pub record TagRead (tag : Tag) : Type 0 where
  pub room : HasRoom tag.depth
  pub props : Read (g.attributes (is_suspense tag.name.text)) tag.props (tag.depth + 1)

abbrev pub tag_words : (tag : Tag) → TagRead tag → List Word → List Word
tag_words tag r more =
    w.Sign p.Less ∷ name_word tag.name ∷ spell (g.attributes (is_suspense tag.name.text)) r.props.syntax more

abbrev pub OpenTag : Option Name → List (Entry Node) → ℕ → Type 0
OpenTag None props d = Unit {0}
OpenTag (Some name) props d = Read (g.attributes (is_suspense name.text)) props (d + 1)

abbrev pub open_words : (name : Option Name) (props : List (Entry Node)) (d : ℕ) → OpenTag name props d → List Word → List Word
open_words None props d r more = w.Sign p.Less ∷ w.Sign p.Greater ∷ more
open_words (Some name) props d r more =
    w.Sign p.Less ∷ name_word name ∷ spell (g.attributes (is_suspense name.text)) r.syntax (w.Sign p.Greater ∷ more)

pub record OpenedRead (x : Opened) : Type 0 where
  pub room : HasRoom x.depth
  pub tag : OpenTag x.name x.props x.depth
  pub kids : Read g.children x.kids (x.depth + 1)
  pub only : holds_children x.name ≡ false → x.kids ≡ []

abbrev pub opened_words : (x : Opened) → OpenedRead x → List Word → List Word
opened_words x r more = open_words x.name x.props x.depth r.tag (spell g.children r.kids.syntax more)

-- a list that is mapped, up to its `.map(`
pub record Mapped (x : Mapping) : Type 0 where
  pub before : Before x.pending
  pub allows : allows_node x.pending ≡ true
  pub list : Syntax g.member
  pub is : member_of (tree g.member list) ≡ x.list
  pub fits : Fits g.member list x.pending.depth
  pub room : HasRoom (x.pending.depth + 1)
  pub place : ℕ

abbrev pub mapped_words : (x : Mapping) → Mapped x → List Word → List Word
mapped_words x r more = before_words x.pending r.before (spell g.member r.list
    (w.Sign p.Dot ∷ w.Name (codes "map") r.place ∷ w.Sign p.OpenParen ∷ more))

-- the words of a map's names, after its second `(`
abbrev pub names_words : Name → Option Name → List Word → List Word
names_words item None more = name_word item ∷ w.Sign p.CloseParen ∷ more
names_words item (Some number_) more =
    name_word item ∷ w.Sign p.Comma ∷ name_word number_ ∷ w.Sign p.CloseParen ∷ more

abbrev pub Listed : List Node → ℕ → Type 0
Listed items d = (items ≡ []) ⊎ Read g.node_list items d

-- the words of an array up to its next item
abbrev pub listed_words : (items : List Node) (d : ℕ) → Listed items d → List Word → List Word
listed_words items d (inl none) more = w.Sign p.OpenBracket ∷ more
listed_words items d (inr r) more = w.Sign p.OpenBracket ∷ spell g.node_list r.syntax (w.Sign p.Comma ∷ more)

-- What a stack waits for: the next component, an expression or node, an element.
pub data Hole : Type 0 where
  file : Hole
  part : Bool → ℕ → Hole
  elem : ℕ → Hole

pub record InParens (q : Pending) (place : Bool) (d : ℕ) : Type 0 where
  pub before : Before q
  pub place_is : place ≡ allows_node q
  pub depth_is : d ≡ nesting q + 1
  pub room : HasRoom (nesting q)

pub record InYes (c : Conditional) (place : Bool) (d : ℕ) : Type 0 where
  pub test : Test c
  pub place_is : place ≡ c.place
  pub depth_is : d ≡ c.depth + 1

pub record InNo (c : Conditional) (one : Part) (place : Bool) (d : ℕ) : Type 0 where
  pub test : Test c
  pub one_read : PartRead one c.place (c.depth + 1)
  pub place_is : place ≡ c.place
  pub depth_is : d ≡ c.depth + 1

pub record InItem (q : Pending) (items : List Node) (d : ℕ) : Type 0 where
  pub before : Before q
  pub allows : allows_node q ≡ true
  pub room : HasRoom q.depth
  pub listed : Listed items (q.depth + 1)
  pub depth_is : d ≡ q.depth + 1

pub record InBody (x : Mapping) (item : Name) (number_ : Option Name) (d : ℕ) : Type 0 where
  pub mapped : Mapped x
  pub item_named : IsName item
  pub number_named : AreNames number_
  pub depth_is : d ≡ x.pending.depth + 1

pub record InAttribute (tag : Tag) (name : Name) (place : Bool) (d : ℕ) : Type 0 where
  pub tag_read : TagRead tag
  pub place_is : place ≡ fallback_place tag name
  pub depth_is : d ≡ tag.depth + 1 + 1
  pub room : HasRoom (tag.depth + 1)

pub record InChild (x : Opened) (d : ℕ) : Type 0 where
  pub opened : OpenedRead x
  pub holds : holds_children x.name ≡ true
  pub depth_is : d ≡ x.depth + 1 + 1
  pub room : HasRoom (x.depth + 1)

pub record InOperand (q : Pending) (d : ℕ) : Type 0 where
  pub before : Before q
  pub allows : allows_node q ≡ true
  pub depth_is : d ≡ q.depth

pub record InKid (x : Opened) (d : ℕ) : Type 0 where
  pub opened : OpenedRead x
  pub holds : holds_children x.name ≡ true
  pub depth_is : d ≡ x.depth + 1

pub record InUse (draft : Draft) (name : Name) (place_ : Bool) (d : ℕ) : Type 0 where
  pub place_is : place_ ≡ false
  pub body : Body draft
  pub place : ℕ
  pub named : IsName name
  pub used : ℕ
  pub depth_is : d ≡ 2

pub record InBind (draft : Draft) (name : Name) (place_ : Bool) (d : ℕ) : Type 0 where
  pub place_is : place_ ≡ false
  pub body : Body draft
  pub place : ℕ
  pub named : IsName name
  pub depth_is : d ≡ 1

pub record InIf (draft : Draft) (place_ : Bool) (d : ℕ) : Type 0 where
  pub place_is : place_ ≡ false
  pub body : Body draft
  pub place : ℕ
  pub depth_is : d ≡ 2

pub record InThrow (draft : Draft) (test : Expr) (place_ : Bool) (d : ℕ) : Type 0 where
  pub place_is : place_ ≡ false
  pub body : Body draft
  pub place : ℕ
  pub tested : Read g.expression test 2
  pub thrown : ℕ
  pub depth_is : d ≡ 1

pub record InReturn (draft : Draft) (d : ℕ) : Type 0 where
  pub body : Body draft
  pub place : ℕ
  pub depth_is : d ≡ 1

abbrev pub Stacked : List Frame → Hole → Type 0
Stacked [] file = Unit {0}
Stacked [] (part place d) = ⊥
Stacked [] (elem d) = ⊥
Stacked (f.Use draft name ∷ fs) (part place d) = InUse draft name place d × Stacked fs file
Stacked (f.Bind draft name ∷ fs) (part place d) = InBind draft name place d × Stacked fs file
Stacked (f.If draft ∷ fs) (part place d) = InIf draft place d × Stacked fs file
Stacked (f.Throw draft test ∷ fs) (part place d) = InThrow draft test place d × Stacked fs file
Stacked (f.Return draft ∷ fs) (part place d) = InReturn draft d × Stacked fs file
Stacked (f.Parens q ∷ fs) (part place d) = InParens q place d × Stacked fs (part q.place q.depth)
Stacked (f.Yes c ∷ fs) (part place d) = InYes c place d × Stacked fs (part c.place c.depth)
Stacked (f.No c one ∷ fs) (part place d) = InNo c one place d × Stacked fs (part c.place c.depth)
Stacked (f.Item q items ∷ fs) (part place d) = InItem q items d × Stacked fs (part q.place q.depth)
Stacked (f.MapBody x item number_ ∷ fs) (part place d) =
    InBody x item number_ d × Stacked fs (part x.pending.place x.pending.depth)
Stacked (f.Attribute tag name ∷ fs) (part place d) = InAttribute tag name place d × Stacked fs (elem tag.depth)
Stacked (f.Child x ∷ fs) (part place d) = InChild x d × Stacked fs (elem x.depth)
Stacked (f.Operand q ∷ fs) (elem d) = InOperand q d × Stacked fs (part q.place q.depth)
Stacked (f.Kid x ∷ fs) (elem d) = InKid x d × Stacked fs (elem x.depth)
Stacked (frame ∷ fs) hole = ⊥

abbrev pub use_words : (draft : Draft) (name : Name) (place_ : Bool) (d : ℕ) → InUse draft name place_ d → List Word → List Word
use_words draft name place_ d r more = body_words draft r.body (w.Name (codes "const") r.place ∷ name_word name
    ∷ w.Sign p.Assign ∷ w.Name (codes "use") r.used ∷ w.Sign p.OpenParen ∷ more)

abbrev pub bind_words : (draft : Draft) (name : Name) (place_ : Bool) (d : ℕ) → InBind draft name place_ d → List Word → List Word
bind_words draft name place_ d r more =
    body_words draft r.body (w.Name (codes "const") r.place ∷ name_word name ∷ w.Sign p.Assign ∷ more)

abbrev pub if_words : (draft : Draft) (place_ : Bool) (d : ℕ) → InIf draft place_ d → List Word → List Word
if_words draft place_ d r more = body_words draft r.body (w.Name (codes "if") r.place ∷ w.Sign p.OpenParen ∷ more)

abbrev pub throw_words : (draft : Draft) (test : Expr) (place_ : Bool) (d : ℕ) → InThrow draft test place_ d → List Word → List Word
throw_words draft test place_ d r more = body_words draft r.body (w.Name (codes "if") r.place ∷ w.Sign p.OpenParen
    ∷ spell g.expression r.tested.syntax (w.Sign p.CloseParen ∷ w.Name (codes "throw") r.thrown ∷ more))

abbrev pub return_words : (draft : Draft) (d : ℕ) → InReturn draft d → List Word → List Word
return_words draft d r more = body_words draft r.body (w.Name (codes "return") r.place ∷ more)

abbrev pub stack_words : (fs : List Frame) (hole : Hole) → Stacked fs hole → List Word → List Word
stack_words [] hole z more = more
stack_words (f.Use draft name ∷ fs) (part place d) z more = stack_words fs file z.1 (use_words draft name place d z.0 more)
stack_words (f.Bind draft name ∷ fs) (part place d) z more = stack_words fs file z.1 (bind_words draft name place d z.0 more)
stack_words (f.If draft ∷ fs) (part place d) z more = stack_words fs file z.1 (if_words draft place d z.0 more)
stack_words (f.Throw draft test ∷ fs) (part place d) z more = stack_words fs file z.1 (throw_words draft test place d z.0 more)
stack_words (f.Return draft ∷ fs) (part place d) z more = stack_words fs file z.1 (return_words draft d z.0 more)
stack_words (f.Parens q ∷ fs) (part place d) z more =
    stack_words fs (part q.place q.depth) z.1 (before_words q z.0.before (w.Sign p.OpenParen ∷ more))
stack_words (f.Yes c ∷ fs) (part place d) z more =
    stack_words fs (part c.place c.depth) z.1 (spell g.disjunction z.0.test.read.syntax (w.Sign p.Question ∷ more))
stack_words (f.No c one ∷ fs) (part place d) z more =
    stack_words fs (part c.place c.depth) z.1 (spell g.disjunction z.0.test.read.syntax (w.Sign p.Question
    ∷ part_words one c.place (c.depth + 1) z.0.one_read (w.Sign p.Colon ∷ more)))
stack_words (f.Item q items ∷ fs) (part place d) z more =
    stack_words fs (part q.place q.depth) z.1 (before_words q z.0.before (listed_words items (q.depth + 1) z.0.listed more))
stack_words (f.MapBody x item number_ ∷ fs) (part place d) z more =
    stack_words fs (part x.pending.place x.pending.depth) z.1
    (mapped_words x z.0.mapped (w.Sign p.OpenParen ∷ names_words item number_ (w.Sign p.Arrow ∷ more)))
stack_words (f.Attribute tag name ∷ fs) (part place d) z more =
    stack_words fs (elem tag.depth) z.1
    (tag_words tag z.0.tag_read (name_word name ∷ w.Sign p.Assign ∷ w.Sign p.OpenBrace ∷ more))
stack_words (f.Child x ∷ fs) (part place d) z more =
    stack_words fs (elem x.depth) z.1 (opened_words x z.0.opened (w.Sign p.OpenBrace ∷ more))
stack_words (f.Operand q ∷ fs) (elem d) z more =
    stack_words fs (part q.place q.depth) z.1 (before_words q z.0.before more)
stack_words (f.Kid x ∷ fs) (elem d) z more = stack_words fs (elem x.depth) z.1 (opened_words x z.0.opened more)
stack_words (frame ∷ fs) hole z more = more

-- a component up to the `;` after its result
pub record Finished (components : List Component) : Type 0 where
  pub draft : Draft
  pub body : Body draft
  pub place : ℕ
  pub result : Part
  pub read : PartRead result true 1
  pub is : component_of draft (node_of result) ≡ components

abbrev pub AtOutside : Outside → Type 0
AtOutside (o.File components) = Read g.components components 0
AtOutside (o.Name components) = Read g.components components 0 × ℕ
AtOutside (o.Open x) = Head x × (x.properties ≡ [])
AtOutside (o.Properties x) = Head x × (x.properties ≡ [])
AtOutside (o.FirstProperty x) = Head x × (x.properties ≡ [])
AtOutside (o.NextProperty x) = Head x × Read g.names x.properties 2
AtOutside (o.PropertyEnd x) = Head x × Read g.names x.properties 2
AtOutside (o.Close x) = Head x × Read g.properties x.properties 2
AtOutside (o.Body x) = Head x × Read g.properties x.properties 2
AtOutside (o.BodyEnd components) = Finished components

abbrev pub outside_words : (x : Outside) → AtOutside x → List Word → List Word
outside_words (o.File components) z more = spell g.components z.syntax more
outside_words (o.Name components) z more = spell g.components z.0.syntax (w.Name (codes "function") z.1 ∷ more)
outside_words (o.Open x) z more = head_words x z.0 more
outside_words (o.Properties x) z more = head_words x z.0 (w.Sign p.OpenParen ∷ more)
outside_words (o.FirstProperty x) z more = head_words x z.0 (w.Sign p.OpenParen ∷ w.Sign p.OpenBrace ∷ more)
outside_words (o.NextProperty x) z more =
    head_words x z.0 (w.Sign p.OpenParen ∷ w.Sign p.OpenBrace ∷ spell g.names z.1.syntax (w.Sign p.Comma ∷ more))
outside_words (o.PropertyEnd x) z more =
    head_words x z.0 (w.Sign p.OpenParen ∷ w.Sign p.OpenBrace ∷ spell g.names z.1.syntax more)
outside_words (o.Close x) z more = head_words x z.0 (w.Sign p.OpenParen ∷ spell g.properties z.1.syntax more)
outside_words (o.Body x) z more =
    head_words x z.0 (w.Sign p.OpenParen ∷ spell g.properties z.1.syntax (w.Sign p.CloseParen ∷ more))
outside_words (o.BodyEnd components) z more =
    body_words z.draft z.body (w.Name (codes "return") z.place ∷ part_words z.result true 1 z.read (w.Sign p.Semicolon ∷ more))

-- `const name = use(value)`
pub record Fetched (draft : Draft) : Type 0 where
  pub before : Draft
  pub body : Body before
  pub place : ℕ
  pub name : Name
  pub named : IsName name
  pub used : ℕ
  pub value : Expr
  pub read : Read g.expression value 2
  pub is : with_stmt before (s.Fetch name value) ≡ draft

abbrev pub AtWithin : Within → Type 0
AtWithin (b.Start draft) = Body draft
AtWithin (b.ConstName draft) = Body draft × ℕ
AtWithin (b.ConstEquals draft name) = Body draft × ℕ × IsName name
AtWithin (b.ConstValue draft name) = Body draft × ℕ × IsName name
AtWithin (b.UseOpen draft name) = Body draft × ℕ × IsName name × ℕ
AtWithin (b.End draft) = Fetched draft
AtWithin (b.IfOpen draft) = Body draft × ℕ
AtWithin (b.ThrowWord draft test) = Body draft × ℕ × Read g.expression test 2

abbrev pub within_words : (x : Within) → AtWithin x → List Word → List Word
within_words (b.Start draft) z more = body_words draft z more
within_words (b.ConstName draft) z more = body_words draft z.0 (w.Name (codes "const") z.1 ∷ more)
within_words (b.ConstEquals draft name) z more =
    body_words draft z.0 (w.Name (codes "const") z.1 ∷ name_word name ∷ more)
within_words (b.ConstValue draft name) z more =
    body_words draft z.0 (w.Name (codes "const") z.1 ∷ name_word name ∷ w.Sign p.Assign ∷ more)
within_words (b.UseOpen draft name) z more =
    body_words draft z.0 (w.Name (codes "const") z.1 ∷ name_word name ∷ w.Sign p.Assign ∷ w.Name (codes "use") z.3 ∷ more)
within_words (b.End draft) z more =
    body_words z.before z.body (w.Name (codes "const") z.place ∷ name_word z.name ∷ w.Sign p.Assign
    ∷ w.Name (codes "use") z.used ∷ w.Sign p.OpenParen ∷ spell g.expression z.read.syntax (w.Sign p.CloseParen ∷ more))
within_words (b.IfOpen draft) z more = body_words draft z.0 (w.Name (codes "if") z.1 ∷ more)
within_words (b.ThrowWord draft test) z more =
    body_words draft z.0 (w.Name (codes "if") z.1 ∷ w.Sign p.OpenParen
    ∷ spell g.expression z.2.syntax (w.Sign p.CloseParen ∷ more))

pub record AtValue (q : Pending) (d : Dotted) : Type 0 where
  pub before : Before q
  pub read : Read g.member d (nesting q)

pub record AtNode (q : Pending) (node : Node) : Type 0 where
  pub before : Before q
  pub allows : allows_node q ≡ true
  pub read : Read g.node_primary (Other node) q.depth

pub record AtItem (q : Pending) : Type 0 where
  pub before : Before q
  pub allows : allows_node q ≡ true
  pub room : HasRoom q.depth

abbrev pub AtInside : Inside → Type 0
AtInside (i.Operand q) = Before q
AtInside (i.Value q d) = AtValue q d
AtInside (i.Node q node) = AtNode q node
AtInside (i.Dot q d) = AtValue q d
AtInside (i.ArrayStart q) = AtItem q
AtInside (i.ArrayNext q items) = AtItem q × Read g.node_list items (q.depth + 1)

abbrev pub inside_words : (x : Inside) → AtInside x → List Word → List Word
inside_words (i.Operand q) z more = before_words q z more
inside_words (i.Value q d) z more = before_words q z.before (spell g.member z.read.syntax more)
inside_words (i.Node q node) z more = before_words q z.before (spell g.node_primary z.read.syntax more)
inside_words (i.Dot q d) z more = before_words q z.before (spell g.member z.read.syntax (w.Sign p.Dot ∷ more))
inside_words (i.ArrayStart q) z more = before_words q z.before (w.Sign p.OpenBracket ∷ more)
inside_words (i.ArrayNext q items) z more =
    before_words q z.0.before (w.Sign p.OpenBracket ∷ spell g.node_list z.1.syntax (w.Sign p.Comma ∷ more))

abbrev pub AtInMap : InMap → Type 0
AtInMap (m.Open x) = Mapped x
AtInMap (m.Item x) = Mapped x
AtInMap (m.ItemEnd x item) = Mapped x × IsName item
AtInMap (m.Number x item) = Mapped x × IsName item
AtInMap (m.NumberEnd x item number_) = Mapped x × IsName item × IsName number_
AtInMap (m.Arrow x item number_) = Mapped x × IsName item × AreNames number_

abbrev pub in_map_words : (x : InMap) → AtInMap x → List Word → List Word
in_map_words (m.Open x) z more = mapped_words x z more
in_map_words (m.Item x) z more = mapped_words x z (w.Sign p.OpenParen ∷ more)
in_map_words (m.ItemEnd x item) z more = mapped_words x z.0 (w.Sign p.OpenParen ∷ name_word item ∷ more)
in_map_words (m.Number x item) z more =
    mapped_words x z.0 (w.Sign p.OpenParen ∷ name_word item ∷ w.Sign p.Comma ∷ more)
in_map_words (m.NumberEnd x item number_) z more =
    mapped_words x z.0 (w.Sign p.OpenParen ∷ name_word item ∷ w.Sign p.Comma ∷ name_word number_ ∷ more)
in_map_words (m.Arrow x item number_) z more =
    mapped_words x z.0 (w.Sign p.OpenParen ∷ names_words item number_ more)

abbrev pub AtInElement : InElement → Type 0
AtInElement (t.Start d) = HasRoom d
AtInElement (t.Attributes tag) = TagRead tag
AtInElement (t.Equals tag name) = TagRead tag
AtInElement (t.Value tag name) = TagRead tag
AtInElement (t.Children x) = OpenedRead x
AtInElement (t.Braces x) = OpenedRead x × HasRoom (x.depth + 1)
AtInElement (t.CloseName x) = OpenedRead x
AtInElement (t.CloseEnd x) = OpenedRead x × (text : List ℕ) × (place : ℕ) × (same_name x.name text ≡ true)

abbrev pub in_element_words : (x : InElement) → AtInElement x → List Word → List Word
in_element_words (t.Start d) z more = w.Sign p.Less ∷ more
in_element_words (t.Attributes tag) z more = tag_words tag z more
in_element_words (t.Equals tag name) z more = tag_words tag z (name_word name ∷ more)
in_element_words (t.Value tag name) z more = tag_words tag z (name_word name ∷ w.Sign p.Assign ∷ more)
in_element_words (t.Children x) z more = opened_words x z more
in_element_words (t.Braces x) z more = opened_words x z.0 (w.Sign p.OpenBrace ∷ more)
in_element_words (t.CloseName x) z more = opened_words x z (w.Sign p.LessSlash ∷ more)
in_element_words (t.CloseEnd x) z more = opened_words x z.0 (w.Sign p.LessSlash ∷ w.Name z.1 z.2 ∷ more)

abbrev pub AtPosition : Position → Type 0
AtPosition (position.Outside x) = AtOutside x
AtPosition (position.Within x) = AtWithin x
AtPosition (position.Inside x) = AtInside x
AtPosition (position.InMap x) = AtInMap x
AtPosition (position.InElement x) = AtInElement x

abbrev pub position_words : (x : Position) → AtPosition x → List Word → List Word
position_words (position.Outside x) z more = outside_words x z more
position_words (position.Within x) z more = within_words x z more
position_words (position.Inside x) z more = inside_words x z more
position_words (position.InMap x) z more = in_map_words x z more
position_words (position.InElement x) z more = in_element_words x z more

abbrev pub of_pending : Pending → Hole
of_pending q = part q.place q.depth

abbrev pub inside_hole : Inside → Hole
inside_hole (i.Operand q) = of_pending q
inside_hole (i.Value q d) = of_pending q
inside_hole (i.Node q node) = of_pending q
inside_hole (i.Dot q d) = of_pending q
inside_hole (i.ArrayStart q) = of_pending q
inside_hole (i.ArrayNext q items) = of_pending q

abbrev pub in_map_hole : InMap → Hole
in_map_hole (m.Open x) = of_pending x.pending
in_map_hole (m.Item x) = of_pending x.pending
in_map_hole (m.ItemEnd x item) = of_pending x.pending
in_map_hole (m.Number x item) = of_pending x.pending
in_map_hole (m.NumberEnd x item number_) = of_pending x.pending
in_map_hole (m.Arrow x item number_) = of_pending x.pending

abbrev pub in_element_hole : InElement → Hole
in_element_hole (t.Start d) = elem d
in_element_hole (t.Attributes tag) = elem tag.depth
in_element_hole (t.Equals tag name) = elem tag.depth
in_element_hole (t.Value tag name) = elem tag.depth
in_element_hole (t.Children x) = elem x.depth
in_element_hole (t.Braces x) = elem x.depth
in_element_hole (t.CloseName x) = elem x.depth
in_element_hole (t.CloseEnd x) = elem x.depth

abbrev pub hole_of : Position → Hole
hole_of (position.Outside x) = file
hole_of (position.Within x) = file
hole_of (position.Inside x) = inside_hole x
hole_of (position.InMap x) = in_map_hole x
hole_of (position.InElement x) = in_element_hole x

pub record At (x : Position) (fs : List Frame) : Type 0 where
  pub here : AtPosition x
  pub below : Stacked fs (hole_of x)

abbrev pub at_words : (x : Position) (fs : List Frame) → At x fs → List Word → List Word
at_words x fs z more = stack_words fs (hole_of x) z.below (position_words x z.here more)
