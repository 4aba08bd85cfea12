-- The parser as steps, one a word: what a state becomes, or why the word is refused. Private functions compute these;
-- the public contracts speak of the grammar alone, whose files these accept and no others.
use Rattle.std.specs.Prelude.{◌≡◌, ℕ, zero, suc, ◌+◌, Bool, true, false, ◌&&◌, ◌==◌, if◌then◌else◌, List, [], ◌∷◌, ◌++◌, codes, Option, Some, None, Result, Ok, Err, is_none, option_map}
use Rattle.std.specs.Str.{bytes_eq}
use Rattle.jsx_lex.specs.declared.word.Word.{Word}
use Rattle.jsx_lex.specs.declared.word.Word.TheVariants as w
use Rattle.jsx_lex.specs.declared.word.Punctuator.{Punctuator}
use Rattle.jsx_lex.specs.declared.word.Punctuator.TheVariants as p
use Rattle.jsx_syntax.specs.declared.name.Name.{Name}
use Rattle.jsx_syntax.specs.declared.name.Entry.{Entry}
use Rattle.jsx_syntax.specs.declared.expr.Expr.{Expr}
use Rattle.jsx_syntax.specs.declared.expr.Expr.TheVariants as e
use Rattle.jsx_syntax.specs.declared.node.Node.{Node}
use Rattle.jsx_syntax.specs.declared.node.Node.TheVariants as n
use Rattle.jsx_syntax.specs.declared.part.Part.{Part}
use Rattle.jsx_syntax.specs.declared.part.Part.TheVariants.{Value, Other}
use Rattle.jsx_syntax.specs.declared.part.Dotted.{Dotted}
use Rattle.jsx_syntax.specs.declared.file.Component.{Component}
use Rattle.jsx_syntax.specs.declared.file.Stmt.{Stmt}
use Rattle.jsx_syntax.specs.declared.file.Stmt.TheVariants as s
use Rattle.jsx_syntax.specs.declared.fault.Wanted.{Wanted}
use Rattle.jsx_syntax.specs.declared.fault.Wanted.TheVariants as wanted
use Rattle.jsx_syntax.specs.declared.fault.SyntaxFault.{SyntaxFault}
use Rattle.jsx_syntax.specs.declared.fault.SyntaxFault.TheVariants.{Bad, OutOfMemory as NoMemory}
use Rattle.jsx_syntax.specs.declared.fault.Stop.{Stop}
use Rattle.jsx_syntax.specs.declared.fault.Stop.TheVariants.{Refused, OutOfMemory}
use Rattle.jsx_syntax.specs.declared.state.Signature.{Signature}
use Rattle.jsx_syntax.specs.declared.state.Draft.{Draft}
use Rattle.jsx_syntax.specs.declared.state.Left.{Left}
use Rattle.jsx_syntax.specs.declared.state.Pending.{Pending}
use Rattle.jsx_syntax.specs.declared.state.Conditional.{Conditional}
use Rattle.jsx_syntax.specs.declared.state.Mapping.{Mapping}
use Rattle.jsx_syntax.specs.declared.state.Tag.{Tag}
use Rattle.jsx_syntax.specs.declared.state.Opened.{Opened}
use Rattle.jsx_syntax.specs.declared.state.Outside.{Outside}
use Rattle.jsx_syntax.specs.declared.state.Outside.TheVariants as o
use Rattle.jsx_syntax.specs.declared.state.Within.{Within}
use Rattle.jsx_syntax.specs.declared.state.Within.TheVariants as b
use Rattle.jsx_syntax.specs.declared.state.Inside.{Inside}
use Rattle.jsx_syntax.specs.declared.state.Inside.TheVariants as i
use Rattle.jsx_syntax.specs.declared.state.InMap.{InMap}
use Rattle.jsx_syntax.specs.declared.state.InMap.TheVariants as m
use Rattle.jsx_syntax.specs.declared.state.InElement.{InElement}
use Rattle.jsx_syntax.specs.declared.state.InElement.TheVariants as t
use Rattle.jsx_syntax.specs.declared.state.Position.{Position}
use Rattle.jsx_syntax.specs.declared.state.Position.TheVariants as at_
use Rattle.jsx_syntax.specs.declared.state.Frame.{Frame}
use Rattle.jsx_syntax.specs.declared.state.Frame.TheVariants as f
use Rattle.jsx_syntax.specs.declared.state.State.{State}
use Rattle.jsx_syntax.specs.declared.state.Host.{Host}
use Rattle.jsx_syntax.specs.declared.state.Host.TheVariants as host
use Rattle.jsx_syntax.specs.declared.state.Top.{Top}
use Rattle.jsx_syntax.specs.declared.state.Top.TheVariants as top
use Rattle.jsx_syntax.specs.declared.state.End.{End}
use Rattle.jsx_syntax.specs.declared.state.End.TheVariants as end
use Rattle.jsx_syntax.specs.declared.state.StatementEnd.{StatementEnd}
use Rattle.jsx_syntax.specs.declared.state.StatementEnd.TheVariants as ends
use Rattle.jsx_syntax.specs.declared.state.OperandEnd.{OperandEnd}
use Rattle.jsx_syntax.specs.declared.state.OperandEnd.TheVariants as ends_operand
use Rattle.jsx_syntax.specs.declared.state.ElementEnd.{ElementEnd}
use Rattle.jsx_syntax.specs.declared.state.ElementEnd.TheVariants as ends_element
use Rattle.jsx_syntax.specs.Trees.{members_of, member_of, sum_of, and_of, or_of, node_of, choose_part, and_part, or_part, is_suspense, entry, element_of}
use Rattle.jsx_syntax.specs.Words.{takes_children, is_fallback, is_reserved}
use Rattle.jsx_syntax.specs.WordTests.{is_sign, is_word, has_room, refusal, refusal_by, code_name, any_name}

abbrev pub Moved : Type 0
Moved = Result State Wanted

-- the code's answer is this one, or there was no memory
abbrev pub Stops : {A : Type 0} → Result A Wanted → Stop → Type 0
Stops answer (Refused wanted_) = answer ≡ Err wanted_
Stops answer OutOfMemory = Unit {0}

abbrev pub Gives : {A : Type 0} → Result A Wanted → Result A Stop → Type 0
Gives answer (Ok x) = answer ≡ Ok x
Gives answer (Err stop) = Stops answer stop

abbrev pub fault_at : Stop → ℕ → SyntaxFault
fault_at (Refused wanted_) place = Bad place wanted_
fault_at OutOfMemory place = NoMemory

abbrev pub outside : Outside → List Frame → State
outside x stack = record { position = at_.Outside x; stack = stack }

abbrev pub within : Within → List Frame → State
within x stack = record { position = at_.Within x; stack = stack }

abbrev pub inside : Inside → List Frame → State
inside x stack = record { position = at_.Inside x; stack = stack }

abbrev pub in_map : InMap → List Frame → State
in_map x stack = record { position = at_.InMap x; stack = stack }

abbrev pub in_element : InElement → List Frame → State
in_element x stack = record { position = at_.InElement x; stack = stack }

abbrev pub name_then : Result Name Wanted → (Name → State) → Moved
name_then (Ok name) next = Ok (next name)
name_then (Err wanted_) next = Err wanted_

-- where a state is next if the sign stands there, and nothing else may
abbrev pub expect_by : Bool → Punctuator → Word → State → Moved
expect_by room sign word next = if is_sign sign word then Ok next else Err (refusal_by room word)

abbrev pub expect : ℕ → Punctuator → Word → State → Moved
expect open_ sign word next = expect_by (has_room open_) sign word next

abbrev pub expect_word : List ℕ → Word → State → Moved
expect_word text word next = if is_word text word then Ok next else Err wanted.Token

-- Expressions

abbrev pub fresh : Bool → ℕ → Pending
fresh place open_ = record { place = place; depth = open_; ors = []; ands = []; left = None; sums = []; nots = 0 }

abbrev pub nesting : Pending → ℕ
nesting q = q.depth + q.nots

abbrev pub is_empty : List Expr → Bool
is_empty [] = true
is_empty (x ∷ xs) = false

-- an element, an array or a map may be the next operand
abbrev pub allows_node : Pending → Bool
allows_node q = ((q.place && is_none q.left) && is_empty q.sums) && (q.nots == 0)

abbrev pub operand_of : Expr → Dotted
operand_of x = record { of = x; names = [] }

abbrev pub nots_of : ℕ → Expr → Expr
nots_of zero x = x
nots_of (suc k) x = e.Not (nots_of k x)

abbrev pub equal_of : Option Left → Expr → Expr
equal_of None right = right
equal_of (Some left) right = e.Equal left.value right left.negated

-- the operands of a chain, and its value, where this is its last operand
abbrev pub sums_of : Pending → Dotted → List Expr
sums_of q d = q.sums ++ nots_of q.nots (member_of d) ∷ []

abbrev pub ands_of : Pending → Dotted → List Expr
ands_of q d = q.ands ++ equal_of q.left (sum_of (sums_of q d)) ∷ []

abbrev pub ors_of : Pending → Dotted → List Expr
ors_of q d = q.ors ++ and_of (ands_of q d) ∷ []

abbrev pub value_of : Pending → Dotted → Expr
value_of q d = or_of (ors_of q d)

abbrev pub node_part : Pending → Part → Part
node_part q x = or_part q.ors (and_part q.ands x)

-- the parts before the next operand
abbrev pub after_plus : Pending → Dotted → Pending
after_plus q d = record q { sums = sums_of q d; nots = 0 }

abbrev pub after_equal : Pending → Dotted → Bool → Pending
after_equal q d negated =
    record q { left = Some (record { value = sum_of (sums_of q d); negated = negated }); sums = []; nots = 0 }

abbrev pub after_and : Pending → Dotted → Pending
after_and q d = record q { ands = ands_of q d; left = None; sums = []; nots = 0 }

abbrev pub after_or : Pending → Dotted → Pending
after_or q d = record q { ors = ors_of q d; ands = []; left = None; sums = []; nots = 0 }

abbrev pub after_not : Pending → Pending
after_not q = record q { nots = q.nots + 1 }

abbrev pub conditional : Pending → Dotted → Conditional
conditional q d = record { place = q.place; depth = q.depth; test = value_of q d }

abbrev pub after_part : Pending → Part → List Frame → State
after_part q (Value x) stack = inside (i.Value q (operand_of x)) stack
after_part q (Other x) stack = inside (i.Node q x) stack

-- the names before a last `map`
abbrev pub names_before_map : List (List ℕ) → Option (List (List ℕ))
names_before_map [] = None
names_before_map (x ∷ []) = if bytes_eq x (codes "map") then Some [] else None
names_before_map (x ∷ y ∷ more) = option_map (λ names. x ∷ names) (names_before_map (y ∷ more))

-- Elements

abbrev pub with_attribute : Tag → Name → Node → Tag
with_attribute tag name value = record tag { props = tag.props ++ entry name value ∷ [] }

abbrev pub with_kid : Opened → Node → Opened
with_kid x kid = record x { kids = x.kids ++ kid ∷ [] }

abbrev pub opened_by : Tag → Opened
opened_by tag = record { depth = tag.depth; name = Some tag.name; props = tag.props; kids = [] }

abbrev pub holds_children : Option Name → Bool
holds_children None = true
holds_children (Some name) = takes_children name.text

abbrev pub element_named : Option Name → List (Entry Node) → List Node → Node
element_named None props kids = n.Fragment kids
element_named (Some name) props kids = element_of name props kids

abbrev pub element_node : Opened → Node
element_node x = element_named x.name x.props x.kids

-- what comes after a whole element
abbrev pub deliver_to : Frame → Node → List Frame → Moved
deliver_to (f.Operand q) node stack = Ok (inside (i.Node q node) stack)
deliver_to (f.Kid x) node stack = Ok (in_element (t.Children (with_kid x node)) stack)
deliver_to _ node stack = Err wanted.Token

abbrev pub deliver : Node → List Frame → Moved
deliver node [] = Err wanted.Token
deliver node (frame ∷ stack) = deliver_to frame node stack

-- what takes a whole element
abbrev pub host_of : Frame → Host
host_of (f.Operand q) = host.Operand q
host_of (f.Kid opened) = host.Kid opened
host_of (f.No c one) = host.Other (f.No c one)
host_of (f.Use draft name) = host.Other (f.Use draft name)
host_of (f.Bind draft name) = host.Other (f.Bind draft name)
host_of (f.If draft) = host.Other (f.If draft)
host_of (f.Throw draft test) = host.Other (f.Throw draft test)
host_of (f.Return draft) = host.Other (f.Return draft)
host_of (f.Parens q) = host.Other (f.Parens q)
host_of (f.Yes c) = host.Other (f.Yes c)
host_of (f.Item q items) = host.Other (f.Item q items)
host_of (f.MapBody mapping item number_) = host.Other (f.MapBody mapping item number_)
host_of (f.Attribute tag name) = host.Other (f.Attribute tag name)
host_of (f.Child opened) = host.Other (f.Child opened)

abbrev pub deliver_at : Host → Node → List Frame → Moved
deliver_at (host.Operand q) node stack = Ok (inside (i.Node q node) stack)
deliver_at (host.Kid x) node stack = Ok (in_element (t.Children (with_kid x node)) stack)
deliver_at (host.Other frame) node stack = Err wanted.Token

-- The end of an expression

-- conditionals whose last part this is
abbrev pub part_within : Part → List Frame → Part
part_within x [] = x
part_within x (f.No c one ∷ stack) = part_within (choose_part c.test one x) stack
part_within x (_ ∷ stack) = x

abbrev pub stack_within : List Frame → List Frame
stack_within [] = []
stack_within (f.No c one ∷ stack) = stack_within stack
stack_within (frame ∷ stack) = frame ∷ stack

abbrev pub value_then : Part → (Expr → State) → Moved
value_then (Value x) next = Ok (next x)
value_then (Other x) next = Err wanted.Token

abbrev pub part_value : Part → Result Expr Wanted
part_value (Value x) = Ok x
part_value (Other x) = Err wanted.Token

-- the value that ends at the sign, where nothing else may
abbrev pub ended_value : Bool → Punctuator → Part → Word → Result Expr Wanted
ended_value room sign x word = if is_sign sign word then part_value x else Err (refusal_by room word)

abbrev pub with_stmt : Draft → Stmt → Draft
with_stmt draft stmt = record draft { stmts = draft.stmts ++ stmt ∷ [] }

abbrev pub component_of : Draft → Node → List Component
component_of draft result =
    draft.signature.components ++ record {
      name = draft.signature.name;
      properties = draft.signature.properties;
      stmts = draft.stmts;
      result = result;
    } ∷ []

-- after an item of an array
abbrev pub close_item : Pending → List Node → List Frame → Word → Moved
close_item q items stack word =
    if is_sign p.Comma word then Ok (inside (i.ArrayNext q items) stack)
    else if is_sign p.CloseBracket word then Ok (inside (i.Node q (n.Array items)) stack)
    else Err (refusal (q.depth + 1) word)

abbrev pub map_node : Expr → Name → Option Name → Part → Node
map_node list item number_ body = n.Map list item number_ (node_of body)

abbrev pub map_of : Mapping → Name → Option Name → Part → Node
map_of mapping item number_ body = map_node mapping.list item number_ body

abbrev pub end_use : Draft → Name → Part → List Frame → Word → Moved
end_use draft name x stack word =
    if is_sign p.CloseParen word
    then value_then x (λ v. within (b.End (with_stmt draft (s.Fetch name v))) stack)
    else Err (refusal 2 word)

abbrev pub end_bind : Draft → Name → Part → List Frame → Word → Moved
end_bind draft name x stack word =
    if is_sign p.Semicolon word
    then value_then x (λ v. within (b.Start (with_stmt draft (s.Bind name v))) stack)
    else Err (refusal 1 word)

abbrev pub end_if : Draft → Part → List Frame → Word → Moved
end_if draft x stack word =
    if is_sign p.CloseParen word then value_then x (λ v. within (b.ThrowWord draft v) stack)
    else Err (refusal 2 word)

abbrev pub end_throw : Draft → Expr → Part → List Frame → Word → Moved
end_throw draft test x stack word =
    if is_sign p.Semicolon word
    then value_then x (λ v. within (b.Start (with_stmt draft (s.Throw test v))) stack)
    else Err (refusal 1 word)

abbrev pub end_return : Draft → Part → List Frame → Word → Moved
end_return draft x stack word =
    expect 1 p.Semicolon word (outside (o.BodyEnd (component_of draft (node_of x))) stack)

abbrev pub end_parens : Pending → Part → List Frame → Word → Moved
end_parens q x stack word = expect (nesting q + 1) p.CloseParen word (after_part q x stack)

abbrev pub end_yes : Conditional → Part → List Frame → Word → Moved
end_yes c x stack word =
    expect (c.depth + 1) p.Colon word (inside (i.Operand (fresh c.place (c.depth + 1))) (f.No c x ∷ stack))

abbrev pub end_item : Pending → List Node → Part → List Frame → Word → Moved
end_item q items x stack word = close_item q (items ++ node_of x ∷ []) stack word

abbrev pub end_map : Mapping → Name → Option Name → Part → List Frame → Word → Moved
end_map mapping item number_ x stack word =
    expect (mapping.pending.depth + 1) p.CloseParen word
    (inside (i.Node mapping.pending (map_of mapping item number_ x)) stack)

abbrev pub end_attribute : Tag → Name → Part → List Frame → Word → Moved
end_attribute tag name x stack word =
    expect (tag.depth + 1 + 1) p.CloseBrace word (in_element (t.Attributes (with_attribute tag name (node_of x))) stack)

abbrev pub end_child : Opened → Part → List Frame → Word → Moved
end_child opened x stack word =
    expect (opened.depth + 1 + 1) p.CloseBrace word (in_element (t.Children (with_kid opened (node_of x))) stack)

-- Where the word may end what the frame holds, what comes then.
abbrev pub close : Frame → Part → List Frame → Word → Moved
close (f.Use draft name) x stack word = end_use draft name x stack word
close (f.Bind draft name) x stack word = end_bind draft name x stack word
close (f.If draft) x stack word = end_if draft x stack word
close (f.Throw draft test) x stack word = end_throw draft test x stack word
close (f.Return draft) x stack word = end_return draft x stack word
close (f.Parens q) x stack word = end_parens q x stack word
close (f.Yes c) x stack word = end_yes c x stack word
close (f.No c one) x stack word = Err wanted.Token
close (f.Item q items) x stack word = end_item q items x stack word
close (f.MapBody mapping item number_) x stack word = end_map mapping item number_ x stack word
close (f.Attribute tag name) x stack word = end_attribute tag name x stack word
close (f.Child opened) x stack word = end_child opened x stack word
close (f.Operand q) x stack word = Err wanted.Token
close (f.Kid opened) x stack word = Err wanted.Token

-- what the end of an expression takes on with at the frame
abbrev pub top_of : Frame → Top
top_of (f.No c one) = top.Last c one
top_of (f.Use draft name) = top.End (end.Statement (ends.Use draft name))
top_of (f.Bind draft name) = top.End (end.Statement (ends.Bind draft name))
top_of (f.If draft) = top.End (end.Statement (ends.If draft))
top_of (f.Throw draft test) = top.End (end.Statement (ends.Throw draft test))
top_of (f.Return draft) = top.End (end.Statement (ends.Return draft))
top_of (f.Parens q) = top.End (end.Operand (ends_operand.Parens q))
top_of (f.Yes c) = top.End (end.Operand (ends_operand.Yes c))
top_of (f.Item q items) = top.End (end.Operand (ends_operand.Item q items))
top_of (f.MapBody mapping item number_) = top.End (end.Operand (ends_operand.MapBody mapping item number_))
top_of (f.Attribute tag name) = top.End (end.Element (ends_element.Attribute tag name))
top_of (f.Child opened) = top.End (end.Element (ends_element.Child opened))
top_of (f.Operand q) = top.End (end.Other (f.Operand q))
top_of (f.Kid opened) = top.End (end.Other (f.Kid opened))

abbrev pub close_statement : StatementEnd → Part → List Frame → Word → Moved
close_statement (ends.Use draft name) x stack word = end_use draft name x stack word
close_statement (ends.Bind draft name) x stack word = end_bind draft name x stack word
close_statement (ends.If draft) x stack word = end_if draft x stack word
close_statement (ends.Throw draft test) x stack word = end_throw draft test x stack word
close_statement (ends.Return draft) x stack word = end_return draft x stack word

abbrev pub close_operand : OperandEnd → Part → List Frame → Word → Moved
close_operand (ends_operand.Parens q) x stack word = end_parens q x stack word
close_operand (ends_operand.Yes c) x stack word = end_yes c x stack word
close_operand (ends_operand.Item q items) x stack word = end_item q items x stack word
close_operand (ends_operand.MapBody mapping item number_) x stack word = end_map mapping item number_ x stack word

abbrev pub close_element : ElementEnd → Part → List Frame → Word → Moved
close_element (ends_element.Attribute tag name) x stack word = end_attribute tag name x stack word
close_element (ends_element.Child opened) x stack word = end_child opened x stack word

-- the same as `close`, of what the frame is
abbrev pub close_end : End → Part → List Frame → Word → Moved
close_end (end.Statement e) x stack word = close_statement e x stack word
close_end (end.Operand e) x stack word = close_operand e x stack word
close_end (end.Element e) x stack word = close_element e x stack word
close_end (end.Other frame) x stack word = Err wanted.Token

abbrev pub close_top : Part → List Frame → Word → Moved
close_top x [] word = Err wanted.Token
close_top x (frame ∷ stack) word = close frame x stack word

abbrev pub finish : Part → List Frame → Word → Moved
finish x stack word = close_top (part_within x stack) (stack_within stack) word

-- Steps within an expression

-- a `(` after `.map`
abbrev pub step_call : Pending → Expr → List Frame → Moved
step_call q list stack =
    if has_room q.depth
    then (if allows_node q && has_room (q.depth + 1)
    then Ok (in_map (m.Open (record { pending = q; list = list })) stack)
    else Err wanted.Value)
    else Err wanted.Shallower

abbrev pub step_equal : Option Left → Pending → List Frame → Moved
step_equal None next stack = Ok (inside (i.Operand next) stack)
step_equal (Some left) next stack = Err wanted.Token

abbrev pub step_question : Pending → Dotted → List Frame → Moved
step_question q d stack =
    if has_room q.depth
    then Ok (inside (i.Operand (fresh q.place (q.depth + 1))) (f.Yes (conditional q d) ∷ stack))
    else Err wanted.Shallower

abbrev pub step_open : Pending → Dotted → Option (List (List ℕ)) → List Frame → Word → Moved
step_open q d None stack word = finish (Value (value_of q d)) stack word
step_open q d (Some names) stack word = step_call q (members_of d.of names) stack

-- after a value where it doesn't go on, unless as the list of a map
abbrev pub step_end : Pending → Dotted → List Frame → Word → Moved
step_end q d stack word =
    if is_sign p.OpenParen word then step_open q d (names_before_map d.names) stack word
    else finish (Value (value_of q d)) stack word

abbrev pub step_chain : Pending → Dotted → List Frame → Word → Moved
step_chain q d stack word =
    if is_sign p.AndAnd word then Ok (inside (i.Operand (after_and q d)) stack)
    else if is_sign p.OrOr word then Ok (inside (i.Operand (after_or q d)) stack)
    else if is_sign p.Question word then step_question q d stack
    else step_end q d stack word

abbrev pub step_value : Pending → Dotted → List Frame → Word → Moved
step_value q d stack word =
    if is_sign p.Dot word then Ok (inside (i.Dot q d) stack)
    else if is_sign p.Plus word then Ok (inside (i.Operand (after_plus q d)) stack)
    else if is_sign p.StrictEqual word then step_equal q.left (after_equal q d false) stack
    else if is_sign p.StrictNotEqual word then step_equal q.left (after_equal q d true) stack
    else step_chain q d stack word

abbrev pub operand : Pending → Expr → List Frame → Moved
operand q x stack = Ok (inside (i.Value q (operand_of x)) stack)

abbrev pub step_reserved : Pending → List ℕ → List Frame → Moved
step_reserved q text stack =
    if bytes_eq text (codes "true") then operand q (e.Bool true) stack
    else if bytes_eq text (codes "false") then operand q (e.Bool false) stack
    else if bytes_eq text (codes "null") then operand q e.Null stack
    else if bytes_eq text (codes "undefined") then operand q e.Null stack
    else Err wanted.Token

abbrev pub step_operand_name : Pending → List ℕ → ℕ → List Frame → Moved
step_operand_name q text place stack =
    if is_reserved text then step_reserved q text stack
    else operand q (e.Name (record { text = text; at = place })) stack

abbrev pub open_parens : Pending → List Frame → Moved
open_parens q stack =
    if has_room (nesting q)
    then Ok (inside (i.Operand (fresh (allows_node q) (nesting q + 1))) (f.Parens q ∷ stack))
    else Err wanted.Shallower

abbrev pub open_not : Pending → List Frame → Moved
open_not q stack = if has_room (nesting q) then Ok (inside (i.Operand (after_not q)) stack) else Err wanted.Shallower

abbrev pub open_array : Pending → List Frame → Moved
open_array q stack =
    if has_room (nesting q)
    then (if allows_node q then Ok (inside (i.ArrayStart q) stack) else Err wanted.Value)
    else Err wanted.Shallower

abbrev pub open_element : Pending → List Frame → Moved
open_element q stack =
    if has_room (nesting q)
    then (if allows_node q then Ok (in_element (t.Start q.depth) (f.Operand q ∷ stack)) else Err wanted.Value)
    else Err wanted.Shallower

abbrev pub step_operand_sign : Pending → List Frame → Word → Moved
step_operand_sign q stack word =
    if is_sign p.OpenParen word then open_parens q stack
    else if is_sign p.Not word then open_not q stack
    else if is_sign p.OpenBracket word then open_array q stack
    else if is_sign p.Less word then open_element q stack
    else Err (refusal (nesting q) word)

abbrev pub step_operand : Pending → List Frame → Word → Moved
step_operand q stack (w.Name text place) = step_operand_name q text place stack
step_operand q stack (w.Number z) = operand q (e.Int z) stack
step_operand q stack (w.Text x) = operand q (e.Text x) stack
step_operand q stack (w.JsxText x) = Err wanted.Token
step_operand q stack (w.Sign sign) = step_operand_sign q stack (w.Sign sign)

-- an item of an array, or its end
abbrev pub step_item : Pending → List Node → List Frame → Word → Moved
step_item q items stack word =
    if is_sign p.CloseBracket word then Ok (inside (i.Node q (n.Array items)) stack)
    else step_operand (fresh true (q.depth + 1)) (f.Item q items ∷ stack) word

abbrev pub with_name : Dotted → Name → Dotted
with_name d name = record d { names = d.names ++ name.text ∷ [] }

abbrev pub step_dot : Pending → Dotted → List Frame → Word → Moved
step_dot q d stack word =
    name_then (any_name (nesting q) word) (λ name. inside (i.Value q (with_name d name)) stack)

abbrev pub step_inside : Inside → List Frame → Word → Moved
step_inside (i.Operand q) stack word = step_operand q stack word
step_inside (i.Value q d) stack word = step_value q d stack word
step_inside (i.Node q node) stack word = finish (node_part q (Other node)) stack word
step_inside (i.Dot q d) stack word = step_dot q d stack word
step_inside (i.ArrayStart q) stack word = step_item q [] stack word
step_inside (i.ArrayNext q items) stack word = step_item q items stack word

-- Steps between `list.map` and the body of a map

abbrev pub step_map_open : Mapping → List Frame → Word → Moved
step_map_open mapping stack word =
    expect (mapping.pending.depth + 1) p.OpenParen word (in_map (m.Item mapping) stack)

abbrev pub step_map_item : Mapping → List Frame → Word → Moved
step_map_item mapping stack word =
    name_then (code_name (mapping.pending.depth + 1 + 1) word) (λ name. in_map (m.ItemEnd mapping name) stack)

abbrev pub step_map_item_end : Mapping → Name → List Frame → Word → Moved
step_map_item_end mapping item stack word =
    if is_sign p.Comma word then Ok (in_map (m.Number mapping item) stack)
    else expect (mapping.pending.depth + 1 + 1) p.CloseParen word (in_map (m.Arrow mapping item None) stack)

abbrev pub step_map_number : Mapping → Name → List Frame → Word → Moved
step_map_number mapping item stack word =
    name_then (code_name (mapping.pending.depth + 1 + 1) word) (λ name. in_map (m.NumberEnd mapping item name) stack)

abbrev pub step_map_number_end : Mapping → Name → Name → List Frame → Word → Moved
step_map_number_end mapping item number_ stack word =
    expect (mapping.pending.depth + 1 + 1) p.CloseParen word (in_map (m.Arrow mapping item (Some number_)) stack)

abbrev pub step_map_arrow : Mapping → Name → Option Name → List Frame → Word → Moved
step_map_arrow mapping item number_ stack word =
    expect (mapping.pending.depth + 1) p.Arrow word
    (inside (i.Operand (fresh true (mapping.pending.depth + 1))) (f.MapBody mapping item number_ ∷ stack))

abbrev pub step_in_map : InMap → List Frame → Word → Moved
step_in_map (m.Open mapping) stack word = step_map_open mapping stack word
step_in_map (m.Item mapping) stack word = step_map_item mapping stack word
step_in_map (m.ItemEnd mapping item) stack word = step_map_item_end mapping item stack word
step_in_map (m.Number mapping item) stack word = step_map_number mapping item stack word
step_in_map (m.NumberEnd mapping item number_) stack word = step_map_number_end mapping item number_ stack word
step_in_map (m.Arrow mapping item number_) stack word = step_map_arrow mapping item number_ stack word

-- Steps within an element

abbrev pub step_attribute_name : Tag → List Frame → Word → Moved
step_attribute_name tag stack word =
    name_then (any_name (tag.depth + 1) word) (λ name. in_element (t.Equals tag name) stack)

abbrev pub step_attributes : Tag → List Frame → Word → Moved
step_attributes tag stack word =
    if is_sign p.SlashGreater word then deliver (element_of tag.name tag.props []) stack
    else if is_sign p.Greater word then Ok (in_element (t.Children (opened_by tag)) stack)
    else step_attribute_name tag stack word

abbrev pub fallback_place : Tag → Name → Bool
fallback_place tag name = is_suspense tag.name.text && is_fallback name.text

abbrev pub open_attribute : Tag → Name → List Frame → Word → Moved
open_attribute tag name stack word =
    if is_sign p.OpenBrace word && has_room (tag.depth + 1)
    then Ok (inside (i.Operand (fresh (fallback_place tag name) (tag.depth + 1 + 1))) (f.Attribute tag name ∷ stack))
    else Err (refusal (tag.depth + 1) word)

abbrev pub step_attribute_value : Tag → Name → List Frame → Word → Moved
step_attribute_value tag name stack (w.Text x) =
    Ok (in_element (t.Attributes (with_attribute tag name (n.Value (e.Text x)))) stack)
step_attribute_value tag name stack (w.Sign sign) = open_attribute tag name stack (w.Sign sign)
step_attribute_value tag name stack (w.Name text place) = Err wanted.Token
step_attribute_value tag name stack (w.Number z) = Err wanted.Token
step_attribute_value tag name stack (w.JsxText x) = Err wanted.Token

-- after an attribute without a value
abbrev pub after_flag : Tag → Name → List Frame → Word → Moved
after_flag tag name stack word = step_attributes (with_attribute tag name (n.Value (e.Bool true))) stack word

abbrev pub step_equals : Tag → Name → List Frame → Word → Moved
step_equals tag name stack word =
    if is_sign p.Assign word then Ok (in_element (t.Value tag name) stack)
    else after_flag tag name stack word

abbrev pub step_text : Opened → List ℕ → List Frame → Moved
step_text x [] stack = Ok (in_element (t.Children x) stack)
step_text x (c ∷ cs) stack =
    if holds_children x.name then Ok (in_element (t.Children (with_kid x (n.Value (e.Text (c ∷ cs))))) stack)
    else Err wanted.NoChildren

abbrev pub open_kid : Opened → List Frame → Moved
open_kid x stack =
    if holds_children x.name then Ok (in_element (t.Start (x.depth + 1)) (f.Kid x ∷ stack)) else Err wanted.NoChildren

abbrev pub step_children_sign : Opened → List Frame → Word → Moved
step_children_sign x stack word =
    if is_sign p.LessSlash word then Ok (in_element (t.CloseName x) stack)
    else if is_sign p.OpenBrace word && has_room (x.depth + 1) then Ok (in_element (t.Braces x) stack)
    else if is_sign p.Less word && has_room (x.depth + 1)
    then open_kid x stack
    else Err (refusal (x.depth + 1) word)

abbrev pub step_children : Opened → List Frame → Word → Moved
step_children x stack (w.JsxText text) = step_text x text stack
step_children x stack (w.Sign sign) = step_children_sign x stack (w.Sign sign)
step_children x stack (w.Name text place) = Err wanted.Token
step_children x stack (w.Number z) = Err wanted.Token
step_children x stack (w.Text y) = Err wanted.Token

-- why a node in braces is refused in an element that takes no children
abbrev pub child_refusal : Moved → Wanted
child_refusal (Ok next) = wanted.NoChildren
child_refusal (Err wanted_) = wanted_

abbrev pub refused_child : ℕ → Word → Moved
refused_child depth word = Err (child_refusal (step_operand (fresh true depth) [] word))

abbrev pub open_child : Opened → List Frame → Word → Moved
open_child x stack word = step_operand (fresh true (x.depth + 1 + 1)) (f.Child x ∷ stack) word

abbrev pub step_braces : Opened → List Frame → Word → Moved
step_braces x stack word =
    if is_sign p.CloseBrace word then Ok (in_element (t.Children x) stack)
    else if holds_children x.name then open_child x stack word
    else refused_child (x.depth + 1 + 1) word

abbrev pub same_name : Option Name → List ℕ → Bool
same_name None text = false
same_name (Some name) text = bytes_eq text name.text

abbrev pub is_fragment : Opened → Bool
is_fragment x = is_none x.name

abbrev pub step_fragment_end : Opened → List Frame → Word → Moved
step_fragment_end x stack word =
    if is_sign p.Greater word && is_fragment x then deliver (element_node x) stack
    else Err (refusal (x.depth + 1) word)

abbrev pub step_close_name : Opened → List Frame → Word → Moved
step_close_name x stack (w.Name text place) =
    if same_name x.name text then Ok (in_element (t.CloseEnd x) stack) else Err wanted.CloseName
step_close_name x stack (w.Sign sign) = step_fragment_end x stack (w.Sign sign)
step_close_name x stack (w.Number z) = Err wanted.Token
step_close_name x stack (w.Text y) = Err wanted.Token
step_close_name x stack (w.JsxText y) = Err wanted.Token

abbrev pub empty_fragment : ℕ → Opened
empty_fragment open_ = record { depth = open_; name = None; props = []; kids = [] }

abbrev pub step_close_end : Opened → List Frame → Word → Moved
step_close_end x stack word =
    if is_sign p.Greater word then deliver (element_node x) stack else Err (refusal (x.depth + 1) word)

abbrev pub step_tag_name : ℕ → List Frame → Word → Moved
step_tag_name depth stack word =
    name_then (any_name (depth + 1) word)
    (λ name. in_element (t.Attributes (record { depth = depth; name = name; props = [] })) stack)

abbrev pub step_start_tag : ℕ → List Frame → Word → Moved
step_start_tag depth stack word =
    if is_sign p.Greater word then Ok (in_element (t.Children (empty_fragment depth)) stack)
    else step_tag_name depth stack word

abbrev pub step_in_element : InElement → List Frame → Word → Moved
step_in_element (t.Start depth) stack word = step_start_tag depth stack word
step_in_element (t.Attributes tag) stack word = step_attributes tag stack word
step_in_element (t.Equals tag name) stack word = step_equals tag name stack word
step_in_element (t.Value tag name) stack word = step_attribute_value tag name stack word
step_in_element (t.Children x) stack word = step_children x stack word
step_in_element (t.Braces x) stack word = step_braces x stack word
step_in_element (t.CloseName x) stack word = step_close_name x stack word
step_in_element (t.CloseEnd x) stack word = step_close_end x stack word

-- Steps outside expressions

abbrev pub with_property : Signature → Name → Signature
with_property x name = record x { properties = x.properties ++ name ∷ [] }

abbrev pub step_component_name : List Component → List Frame → Word → Moved
step_component_name components stack word =
    name_then (code_name 0 word)
    (λ name. outside (o.Open (record { components = components; name = name; properties = [] })) stack)

abbrev pub step_properties : Signature → List Frame → Word → Moved
step_properties x stack word =
    if is_sign p.OpenBrace word then Ok (outside (o.FirstProperty x) stack)
    else expect 1 p.CloseParen word (outside (o.Body x) stack)

abbrev pub step_property : Signature → List Frame → Word → Moved
step_property x stack word =
    name_then (code_name 2 word) (λ name. outside (o.PropertyEnd (with_property x name)) stack)

abbrev pub step_first_property : Signature → List Frame → Word → Moved
step_first_property x stack word =
    if is_sign p.CloseBrace word then Ok (outside (o.Close x) stack) else step_property x stack word

abbrev pub step_property_end : Signature → List Frame → Word → Moved
step_property_end x stack word =
    if is_sign p.Comma word then Ok (outside (o.NextProperty x) stack)
    else expect 2 p.CloseBrace word (outside (o.Close x) stack)

abbrev pub step_body : Signature → List Frame → Word → Moved
step_body x stack word =
    expect 0 p.OpenBrace word (within (b.Start (record { signature = x; stmts = [] })) stack)

abbrev pub step_outside : Outside → List Frame → Word → Moved
step_outside (o.File components) stack word =
    expect_word (codes "function") word (outside (o.Name components) stack)
step_outside (o.Name components) stack word = step_component_name components stack word
step_outside (o.Open x) stack word = expect 0 p.OpenParen word (outside (o.Properties x) stack)
step_outside (o.Properties x) stack word = step_properties x stack word
step_outside (o.FirstProperty x) stack word = step_first_property x stack word
step_outside (o.NextProperty x) stack word = step_property x stack word
step_outside (o.PropertyEnd x) stack word = step_property_end x stack word
step_outside (o.Close x) stack word = expect 1 p.CloseParen word (outside (o.Body x) stack)
step_outside (o.Body x) stack word = step_body x stack word
step_outside (o.BodyEnd components) stack word = expect 1 p.CloseBrace word (outside (o.File components) stack)

abbrev pub step_return : Draft → List Frame → Word → Moved
step_return draft stack word =
    expect_word (codes "return") word (inside (i.Operand (fresh true 1)) (f.Return draft ∷ stack))

abbrev pub step_start : Draft → List Frame → Word → Moved
step_start draft stack word =
    if is_word (codes "const") word then Ok (within (b.ConstName draft) stack)
    else if is_word (codes "if") word then Ok (within (b.IfOpen draft) stack)
    else step_return draft stack word

abbrev pub step_const_name : Draft → List Frame → Word → Moved
step_const_name draft stack word = name_then (code_name 1 word) (λ name. within (b.ConstEquals draft name) stack)

abbrev pub step_const_value : Draft → Name → List Frame → Word → Moved
step_const_value draft name stack word =
    if is_word (codes "use") word then Ok (within (b.UseOpen draft name) stack)
    else step_operand (fresh false 1) (f.Bind draft name ∷ stack) word

abbrev pub step_use : Draft → Name → List Frame → Word → Moved
step_use draft name stack word =
    expect 1 p.OpenParen word (inside (i.Operand (fresh false 2)) (f.Use draft name ∷ stack))

abbrev pub step_if : Draft → List Frame → Word → Moved
step_if draft stack word = expect 1 p.OpenParen word (inside (i.Operand (fresh false 2)) (f.If draft ∷ stack))

abbrev pub step_throw : Draft → Expr → List Frame → Word → Moved
step_throw draft test stack word =
    expect_word (codes "throw") word (inside (i.Operand (fresh false 1)) (f.Throw draft test ∷ stack))

abbrev pub step_within : Within → List Frame → Word → Moved
step_within (b.Start draft) stack word = step_start draft stack word
step_within (b.ConstName draft) stack word = step_const_name draft stack word
step_within (b.ConstEquals draft name) stack word = expect 1 p.Assign word (within (b.ConstValue draft name) stack)
step_within (b.ConstValue draft name) stack word = step_const_value draft name stack word
step_within (b.UseOpen draft name) stack word = step_use draft name stack word
step_within (b.End draft) stack word = expect 1 p.Semicolon word (within (b.Start draft) stack)
step_within (b.IfOpen draft) stack word = step_if draft stack word
step_within (b.ThrowWord draft test) stack word = step_throw draft test stack word

abbrev pub step_at : Position → List Frame → Word → Moved
step_at (at_.Outside x) stack word = step_outside x stack word
step_at (at_.Within x) stack word = step_within x stack word
step_at (at_.Inside x) stack word = step_inside x stack word
step_at (at_.InMap x) stack word = step_in_map x stack word
step_at (at_.InElement x) stack word = step_in_element x stack word

abbrev pub step : State → Word → Moved
step state word = step_at state.position state.stack word

-- the state after words in a row
abbrev pub run : Moved → List Word → Moved
run (Err wanted_) words = Err wanted_
run (Ok state) [] = Ok state
run (Ok state) (word ∷ words) = run (step state word) words

-- where a file begins
abbrev pub first_state : State
first_state = outside (o.File []) []
