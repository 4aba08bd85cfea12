-- The grammar of the component language, a constructor for each production. Chains of operators group to the left, as
-- in ECMAScript's grammar. Beside the productions stand the words that each spells, its tree, and what it nests.
--
--   File      = { Component }
--   Component = "function" Name "(" [ "{" [ Name { "," Name } ] "}" ] ")" "{" { Stmt } "return" Node ";" "}"
--   Stmt      = "const" Name "=" ( "use" "(" Expr ")" | Expr ) ";" | "if" "(" Expr ")" "throw" Expr ";"
--   Expr      = Or [ "?" Expr ":" Expr ]
--   Or        = And { "||" And }
--   And       = Equal { "&&" Equal }
--   Equal     = Sum [ ( "===" | "!==" ) Sum ]
--   Sum       = Unary { "+" Unary }
--   Unary     = "!" Unary | Post
--   Post      = Prim { "." Name }
--   Prim      = Number | Str | "true" | "false" | "null" | "undefined" | Name | "(" Expr ")"
--   Node      = Expr, where in a node place also Element, Array and Map are allowed
--   Array     = "[" [ Node { "," Node } [ "," ] ] "]"
--   Map       = Post "." "map" "(" "(" Name [ "," Name ] ")" "=>" Node ")"
--   Element   = "<" Name { Attr } "/>" | "<" Name { Attr } ">" { Child } "</" Name ">" | "<" ">" { Child } "</" ">"
--   Attr      = Name [ "=" ( Str | "{" Expr "}" ) ]
--   Child     = JsxText | "{" [ Node ] "}" | Element
use Rattle.std.specs.Prelude.{◌≡◌, ℕ, ◌+◌, Bool, true, false, nat_lt, List, [], ◌∷◌, ◌++◌, codes, Option, Some, None, ℤ}
use Rattle.jsx_lex.specs.declared.word.Word.{Word}
use Rattle.jsx_lex.specs.declared.word.Word.TheVariants as w
use Rattle.jsx_lex.specs.declared.word.Punctuator.{Punctuator}
use Rattle.jsx_lex.specs.declared.word.Punctuator.TheVariants as p
use Rattle.jsx_syntax.specs.declared.name.Name.{Name}
use Rattle.jsx_syntax.specs.declared.name.Entry.{Entry}
use Rattle.jsx_syntax.specs.declared.expr.Expr.{Expr}
use Rattle.jsx_syntax.specs.declared.expr.Expr.TheVariants as e
use Rattle.jsx_syntax.specs.declared.node.Node.{Node}
use Rattle.jsx_syntax.specs.declared.node.Node.TheVariants as n
use Rattle.jsx_syntax.specs.declared.part.Part.{Part}
use Rattle.jsx_syntax.specs.declared.part.Part.TheVariants.{Value, Other}
use Rattle.jsx_syntax.specs.declared.part.Dotted.{Dotted}
use Rattle.jsx_syntax.specs.declared.file.File.{File}
use Rattle.jsx_syntax.specs.declared.file.Component.{Component}
use Rattle.jsx_syntax.specs.declared.file.Stmt.{Stmt}
use Rattle.jsx_syntax.specs.declared.file.Stmt.TheVariants as s
use Rattle.jsx_syntax.specs.Trees.{member_of, sum_of, and_of, or_of, node_of, choose_part, and_part, or_part, is_suspense, entry, element_of}
use Rattle.jsx_syntax.specs.Words.{name_word, is_reserved, nesting_limit, takes_children, is_fallback}

-- The nonterminals. The attributes of `Suspense` are a kind of their own.
pub data Sort : Type 0 where
  primary : Sort
  member : Sort
  unary : Sort
  sum : Sort
  equality : Sort
  conjunction : Sort
  disjunction : Sort
  expression : Sort
  node_primary : Sort
  node_conjunction : Sort
  node_disjunction : Sort
  node : Sort
  node_list : Sort
  element : Sort
  attribute : Bool → Sort
  attributes : Bool → Sort
  child : Sort
  children : Sort
  names : Sort
  properties : Sort
  statement : Sort
  statements : Sort
  component : Sort
  components : Sort

-- A number ℕ beside a word of the language is the place of its token.
pub data Syntax : Sort → Type 0 where
  -- Prim = Number | Str | "true" | "false" | "null" | "undefined" | Name | "(" Expr ")"
  number : ℤ → Syntax primary
  string : List ℕ → Syntax primary
  truth : ℕ → Syntax primary
  falsity : ℕ → Syntax primary
  null : ℕ → Syntax primary
  undefined : ℕ → Syntax primary
  variable : Name → Syntax primary
  parens : Syntax expression → Syntax primary
  -- Post = Prim { "." Name }
  no_member : Syntax primary → Syntax member
  dot : Syntax member → Name → Syntax member
  -- Unary = "!" Unary | Post
  no_bang : Syntax member → Syntax unary
  bang : Syntax unary → Syntax unary
  -- Sum = Unary { "+" Unary }
  no_plus : Syntax unary → Syntax sum
  plus : Syntax sum → Syntax unary → Syntax sum
  -- Equal = Sum [ ( "===" | "!==" ) Sum ]: negated where it is `!==`
  no_equal : Syntax sum → Syntax equality
  equal : Bool → Syntax sum → Syntax sum → Syntax equality
  -- And = Equal { "&&" Equal }
  no_and : Syntax equality → Syntax conjunction
  and : Syntax conjunction → Syntax equality → Syntax conjunction
  -- Or = And { "||" And }
  no_or : Syntax conjunction → Syntax disjunction
  or : Syntax disjunction → Syntax conjunction → Syntax disjunction
  -- Expr = Or [ "?" Expr ":" Expr ]
  no_choice : Syntax disjunction → Syntax expression
  choice : Syntax disjunction → Syntax expression → Syntax expression → Syntax expression
  -- In a node place: Node = Expr | Or "?" Node ":" Node | { Or "||" } { And "&&" } ( "(" Node ")" | Element | Array | Map )
  value : Syntax expression → Syntax node
  node_choice : Syntax disjunction → Syntax node → Syntax node → Syntax node
  chain : Syntax node_disjunction → Syntax node
  or_alone : Syntax node_conjunction → Syntax node_disjunction
  or_last : Syntax disjunction → Syntax node_conjunction → Syntax node_disjunction
  and_alone : Syntax node_primary → Syntax node_conjunction
  and_last : Syntax conjunction → Syntax node_primary → Syntax node_conjunction
  node_parens : Syntax node → Syntax node_primary
  element_node : Syntax element → Syntax node_primary
  -- Array = "[" [ Node { "," Node } [ "," ] ] "]": true where a comma stands at the end
  empty_array : Syntax node_primary
  array : Syntax node_list → Bool → Syntax node_primary
  first_node : Syntax node → Syntax node_list
  next_node : Syntax node_list → Syntax node → Syntax node_list
  -- Map = Post "." "map" "(" "(" Name [ "," Name ] ")" "=>" Node ")"
  map_node : Syntax member → ℕ → Name → Option Name → Syntax node → Syntax node_primary
  -- Element = "<" Name { Attr } "/>" | "<" Name { Attr } ">" { Child } "</" Name ">" | "<" ">" { Child } "</" ">"
  closed : (name : Name) → Syntax (attributes (is_suspense name.text)) → Syntax element
  paired : (name : Name) → Syntax (attributes (is_suspense name.text)) → Syntax children → ℕ → Syntax element
  fragment : Syntax children → Syntax element
  -- Attr = Name [ "=" ( Str | "{" Expr "}" ) ], and the `fallback` of `Suspense` holds a Node in its braces
  flag : {b : Bool} → Name → Syntax (attribute b)
  quoted : {b : Bool} → Name → List ℕ → Syntax (attribute b)
  braced : {b : Bool} → Name → Syntax expression → Syntax (attribute b)
  fallback : Name → Syntax node → Syntax (attribute true)
  no_attribute : {b : Bool} → Syntax (attributes b)
  next_attribute : {b : Bool} → Syntax (attributes b) → Syntax (attribute b) → Syntax (attributes b)
  -- Child = JsxText | "{" [ Node ] "}" | Element
  text : List ℕ → Syntax child
  empty_braces : Syntax child
  braces : Syntax node → Syntax child
  element_child : Syntax element → Syntax child
  no_child : Syntax children
  next_child : Syntax children → Syntax child → Syntax children
  -- Name { "," Name }
  first_name : Name → Syntax names
  next_name : Syntax names → Name → Syntax names
  -- [ "{" [ Name { "," Name } ] "}" ]
  no_properties : Syntax properties
  empty_properties : Syntax properties
  braced_properties : Syntax names → Syntax properties
  -- Stmt = "const" Name "=" ( "use" "(" Expr ")" | Expr ) ";" | "if" "(" Expr ")" "throw" Expr ";"
  fetch : ℕ → Name → ℕ → Syntax expression → Syntax statement
  bind : ℕ → Name → Syntax expression → Syntax statement
  throw : ℕ → Syntax expression → ℕ → Syntax expression → Syntax statement
  no_statement : Syntax statements
  next_statement : Syntax statements → Syntax statement → Syntax statements
  -- Component = "function" Name "(" .. ")" "{" { Stmt } "return" Node ";" "}"
  function : ℕ → Name → Syntax properties → Syntax statements → ℕ → Syntax node → Syntax component
  -- File = { Component }
  no_component : Syntax components
  next_component : Syntax components → Syntax component → Syntax components

-- `===`, or `!==` where it is negated
abbrev pub equal_sign : Bool → Punctuator
equal_sign false = p.StrictEqual
equal_sign true = p.StrictNotEqual

-- The words of a production, with more after them.
abbrev pub spell : (s : Sort) → Syntax s → List Word → List Word
spell _ (number z) more = w.Number z ∷ more
spell _ (string x) more = w.Text x ∷ more
spell _ (truth at_) more = w.Name (codes "true") at_ ∷ more
spell _ (falsity at_) more = w.Name (codes "false") at_ ∷ more
spell _ (null at_) more = w.Name (codes "null") at_ ∷ more
spell _ (undefined at_) more = w.Name (codes "undefined") at_ ∷ more
spell _ (variable x) more = name_word x ∷ more
spell _ (parens c) more = w.Sign p.OpenParen ∷ spell expression c (w.Sign p.CloseParen ∷ more)
spell _ (no_member c) more = spell primary c more
spell _ (dot c x) more = spell member c (w.Sign p.Dot ∷ name_word x ∷ more)
spell _ (no_bang c) more = spell member c more
spell _ (bang c) more = w.Sign p.Not ∷ spell unary c more
spell _ (no_plus c) more = spell unary c more
spell _ (plus c d) more = spell sum c (w.Sign p.Plus ∷ spell unary d more)
spell _ (no_equal c) more = spell sum c more
spell _ (equal b c d) more = spell sum c (w.Sign (equal_sign b) ∷ spell sum d more)
spell _ (no_and c) more = spell equality c more
spell _ (and c d) more = spell conjunction c (w.Sign p.AndAnd ∷ spell equality d more)
spell _ (no_or c) more = spell conjunction c more
spell _ (or c d) more = spell disjunction c (w.Sign p.OrOr ∷ spell conjunction d more)
spell _ (no_choice c) more = spell disjunction c more
spell _ (choice c d f) more =
    spell disjunction c (w.Sign p.Question ∷ spell expression d (w.Sign p.Colon ∷ spell expression f more))
spell _ (value c) more = spell expression c more
spell _ (node_choice c d f) more =
    spell disjunction c (w.Sign p.Question ∷ spell node d (w.Sign p.Colon ∷ spell node f more))
spell _ (chain c) more = spell node_disjunction c more
spell _ (or_alone c) more = spell node_conjunction c more
spell _ (or_last c d) more = spell disjunction c (w.Sign p.OrOr ∷ spell node_conjunction d more)
spell _ (and_alone c) more = spell node_primary c more
spell _ (and_last c d) more = spell conjunction c (w.Sign p.AndAnd ∷ spell node_primary d more)
spell _ (node_parens c) more = w.Sign p.OpenParen ∷ spell node c (w.Sign p.CloseParen ∷ more)
spell _ (element_node c) more = spell element c more
spell _ empty_array more = w.Sign p.OpenBracket ∷ w.Sign p.CloseBracket ∷ more
spell _ (array c false) more = w.Sign p.OpenBracket ∷ spell node_list c (w.Sign p.CloseBracket ∷ more)
spell _ (array c true) more =
    w.Sign p.OpenBracket ∷ spell node_list c (w.Sign p.Comma ∷ w.Sign p.CloseBracket ∷ more)
spell _ (first_node c) more = spell node c more
spell _ (next_node c d) more = spell node_list c (w.Sign p.Comma ∷ spell node d more)
spell _ (map_node c at_ item None d) more =
    spell member c (w.Sign p.Dot ∷ w.Name (codes "map") at_ ∷ w.Sign p.OpenParen ∷ w.Sign p.OpenParen
    ∷ name_word item ∷ w.Sign p.CloseParen ∷ w.Sign p.Arrow ∷ spell node d (w.Sign p.CloseParen ∷ more))
spell _ (map_node c at_ item (Some number_) d) more =
    spell member c (w.Sign p.Dot ∷ w.Name (codes "map") at_ ∷ w.Sign p.OpenParen ∷ w.Sign p.OpenParen
    ∷ name_word item ∷ w.Sign p.Comma ∷ name_word number_ ∷ w.Sign p.CloseParen ∷ w.Sign p.Arrow
    ∷ spell node d (w.Sign p.CloseParen ∷ more))
spell _ (closed x c) more =
    w.Sign p.Less ∷ name_word x ∷ spell (attributes (is_suspense x.text)) c (w.Sign p.SlashGreater ∷ more)
spell _ (paired x c d at_) more =
    w.Sign p.Less ∷ name_word x ∷ spell (attributes (is_suspense x.text)) c (w.Sign p.Greater
    ∷ spell children d (w.Sign p.LessSlash ∷ w.Name x.text at_ ∷ w.Sign p.Greater ∷ more))
spell _ (fragment c) more =
    w.Sign p.Less ∷ w.Sign p.Greater ∷ spell children c (w.Sign p.LessSlash ∷ w.Sign p.Greater ∷ more)
spell _ (flag x) more = name_word x ∷ more
spell _ (quoted x v) more = name_word x ∷ w.Sign p.Assign ∷ w.Text v ∷ more
spell _ (braced x c) more =
    name_word x ∷ w.Sign p.Assign ∷ w.Sign p.OpenBrace ∷ spell expression c (w.Sign p.CloseBrace ∷ more)
spell _ (fallback x c) more =
    name_word x ∷ w.Sign p.Assign ∷ w.Sign p.OpenBrace ∷ spell node c (w.Sign p.CloseBrace ∷ more)
spell _ no_attribute more = more
spell _ (next_attribute {b = b} c d) more = spell (attributes b) c (spell (attribute b) d more)
spell _ (text x) more = w.JsxText x ∷ more
spell _ empty_braces more = w.Sign p.OpenBrace ∷ w.Sign p.CloseBrace ∷ more
spell _ (braces c) more = w.Sign p.OpenBrace ∷ spell node c (w.Sign p.CloseBrace ∷ more)
spell _ (element_child c) more = spell element c more
spell _ no_child more = more
spell _ (next_child c d) more = spell children c (spell child d more)
spell _ (first_name x) more = name_word x ∷ more
spell _ (next_name c x) more = spell names c (w.Sign p.Comma ∷ name_word x ∷ more)
spell _ no_properties more = more
spell _ empty_properties more = w.Sign p.OpenBrace ∷ w.Sign p.CloseBrace ∷ more
spell _ (braced_properties c) more = w.Sign p.OpenBrace ∷ spell names c (w.Sign p.CloseBrace ∷ more)
spell _ (fetch at_ x used c) more =
    w.Name (codes "const") at_ ∷ name_word x ∷ w.Sign p.Assign ∷ w.Name (codes "use") used ∷ w.Sign p.OpenParen
    ∷ spell expression c (w.Sign p.CloseParen ∷ w.Sign p.Semicolon ∷ more)
spell _ (bind at_ x c) more =
    w.Name (codes "const") at_ ∷ name_word x ∷ w.Sign p.Assign ∷ spell expression c (w.Sign p.Semicolon ∷ more)
spell _ (throw at_ c thrown d) more =
    w.Name (codes "if") at_ ∷ w.Sign p.OpenParen ∷ spell expression c (w.Sign p.CloseParen
    ∷ w.Name (codes "throw") thrown ∷ spell expression d (w.Sign p.Semicolon ∷ more))
spell _ no_statement more = more
spell _ (next_statement c d) more = spell statements c (spell statement d more)
spell _ (function at_ x c d returned f) more =
    w.Name (codes "function") at_ ∷ name_word x ∷ w.Sign p.OpenParen ∷ spell properties c (w.Sign p.CloseParen
    ∷ w.Sign p.OpenBrace ∷ spell statements d (w.Name (codes "return") returned
    ∷ spell node f (w.Sign p.Semicolon ∷ w.Sign p.CloseBrace ∷ more)))
spell _ no_component more = more
spell _ (next_component c d) more = spell components c (spell component d more)

-- What a nonterminal's tree is. Of a chain it is the list of its operands; in a node place it is a value or a node.
abbrev pub Meaning : Sort → Type 0
Meaning primary = Expr
Meaning member = Dotted
Meaning unary = Expr
Meaning sum = List Expr
Meaning equality = Expr
Meaning conjunction = List Expr
Meaning disjunction = List Expr
Meaning expression = Expr
Meaning node_primary = Part
Meaning node_conjunction = Part
Meaning node_disjunction = Part
Meaning node = Part
Meaning node_list = List Node
Meaning element = Node
Meaning (attribute b) = Entry Node
Meaning (attributes b) = List (Entry Node)
Meaning child = List Node
Meaning children = List Node
Meaning names = List Name
Meaning properties = List Name
Meaning statement = Stmt
Meaning statements = List Stmt
Meaning component = Component
Meaning components = List Component

-- A text between tags that only lays out the source is no child.
abbrev pub text_children : List ℕ → List Node
text_children [] = []
text_children (b ∷ bs) = n.Value (e.Text (b ∷ bs)) ∷ []

abbrev pub tree : (s : Sort) → Syntax s → Meaning s
tree _ (number z) = e.Int z
tree _ (string x) = e.Text x
tree _ (truth at_) = e.Bool true
tree _ (falsity at_) = e.Bool false
tree _ (null at_) = e.Null
tree _ (undefined at_) = e.Null
tree _ (variable x) = e.Name x
tree _ (parens c) = tree expression c
tree _ (no_member c) = record { of = tree primary c; names = [] }
tree _ (dot c x) = record { of = (tree member c).of; names = (tree member c).names ++ x.text ∷ [] }
tree _ (no_bang c) = member_of (tree member c)
tree _ (bang c) = e.Not (tree unary c)
tree _ (no_plus c) = tree unary c ∷ []
tree _ (plus c d) = tree sum c ++ tree unary d ∷ []
tree _ (no_equal c) = sum_of (tree sum c)
tree _ (equal negated c d) = e.Equal (sum_of (tree sum c)) (sum_of (tree sum d)) negated
tree _ (no_and c) = tree equality c ∷ []
tree _ (and c d) = tree conjunction c ++ tree equality d ∷ []
tree _ (no_or c) = and_of (tree conjunction c) ∷ []
tree _ (or c d) = tree disjunction c ++ and_of (tree conjunction d) ∷ []
tree _ (no_choice c) = or_of (tree disjunction c)
tree _ (choice c d f) = e.Choose (or_of (tree disjunction c)) (tree expression d) (tree expression f)
tree _ (value c) = Value (tree expression c)
tree _ (node_choice c d f) = choose_part (or_of (tree disjunction c)) (tree node d) (tree node f)
tree _ (chain c) = tree node_disjunction c
tree _ (or_alone c) = tree node_conjunction c
tree _ (or_last c d) = or_part (tree disjunction c) (tree node_conjunction d)
tree _ (and_alone c) = tree node_primary c
tree _ (and_last c d) = and_part (tree conjunction c) (tree node_primary d)
tree _ (node_parens c) = tree node c
tree _ (element_node c) = Other (tree element c)
tree _ empty_array = Other (n.Array [])
tree _ (array c comma) = Other (n.Array (tree node_list c))
tree _ (first_node c) = node_of (tree node c) ∷ []
tree _ (next_node c d) = tree node_list c ++ node_of (tree node d) ∷ []
tree _ (map_node c at_ item number_ d) =
    Other (n.Map (member_of (tree member c)) item number_ (node_of (tree node d)))
tree _ (closed x c) = element_of x (tree (attributes (is_suspense x.text)) c) []
tree _ (paired x c d at_) = element_of x (tree (attributes (is_suspense x.text)) c) (tree children d)
tree _ (fragment c) = n.Fragment (tree children c)
tree _ (flag x) = entry x (n.Value (e.Bool true))
tree _ (quoted x v) = entry x (n.Value (e.Text v))
tree _ (braced x c) = entry x (n.Value (tree expression c))
tree _ (fallback x c) = entry x (node_of (tree node c))
tree _ no_attribute = []
tree _ (next_attribute {b = b} c d) = tree (attributes b) c ++ tree (attribute b) d ∷ []
tree _ (text x) = text_children x
tree _ empty_braces = []
tree _ (braces c) = node_of (tree node c) ∷ []
tree _ (element_child c) = tree element c ∷ []
tree _ no_child = []
tree _ (next_child c d) = tree children c ++ tree child d
tree _ (first_name x) = x ∷ []
tree _ (next_name c x) = tree names c ++ x ∷ []
tree _ no_properties = []
tree _ empty_properties = []
tree _ (braced_properties c) = tree names c
tree _ (fetch at_ x used c) = s.Fetch x (tree expression c)
tree _ (bind at_ x c) = s.Bind x (tree expression c)
tree _ (throw at_ c thrown d) = s.Throw (tree expression c) (tree expression d)
tree _ no_statement = []
tree _ (next_statement c d) = tree statements c ++ tree statement d ∷ []
tree _ (function at_ x c d returned f) =
    record { name = x; properties = tree properties c; stmts = tree statements d; result = node_of (tree node f) }
tree _ no_component = []
tree _ (next_component c d) = tree components c ++ tree component d ∷ []

-- One more may be open where this many are.
abbrev pub HasRoom : ℕ → Type 0
HasRoom open_ = nat_lt open_ nesting_limit ≡ true

-- a name of code, where a word of the language may not stand
abbrev pub IsName : Name → Type 0
IsName x = is_reserved x.text ≡ false

abbrev pub AreNames : Option Name → Type 0
AreNames None = Unit {0}
AreNames (Some x) = IsName x

-- The parts of a production stand within the nesting limit where `open_` are open around it, and keep what the
-- productions alone don't say: a word of the language is no name, `fallback` is that attribute, and an element that
-- takes no children has none.
abbrev pub Fits : (s : Sort) → Syntax s → ℕ → Type 0
Fits _ (number z) open_ = Unit {0}
Fits _ (string x) open_ = Unit {0}
Fits _ (truth at_) open_ = Unit {0}
Fits _ (falsity at_) open_ = Unit {0}
Fits _ (null at_) open_ = Unit {0}
Fits _ (undefined at_) open_ = Unit {0}
Fits _ (variable x) open_ = IsName x
Fits _ (parens c) open_ = HasRoom open_ × Fits expression c (open_ + 1)
Fits _ (no_member c) open_ = Fits primary c open_
Fits _ (dot c x) open_ = Fits member c open_
Fits _ (no_bang c) open_ = Fits member c open_
Fits _ (bang c) open_ = HasRoom open_ × Fits unary c (open_ + 1)
Fits _ (no_plus c) open_ = Fits unary c open_
Fits _ (plus c d) open_ = Fits sum c open_ × Fits unary d open_
Fits _ (no_equal c) open_ = Fits sum c open_
Fits _ (equal b c d) open_ = Fits sum c open_ × Fits sum d open_
Fits _ (no_and c) open_ = Fits equality c open_
Fits _ (and c d) open_ = Fits conjunction c open_ × Fits equality d open_
Fits _ (no_or c) open_ = Fits conjunction c open_
Fits _ (or c d) open_ = Fits disjunction c open_ × Fits conjunction d open_
Fits _ (no_choice c) open_ = Fits disjunction c open_
Fits _ (choice c d f) open_ =
    Fits disjunction c open_ × HasRoom open_ × Fits expression d (open_ + 1) × Fits expression f (open_ + 1)
Fits _ (value c) open_ = Fits expression c open_
Fits _ (node_choice c d f) open_ =
    Fits disjunction c open_ × HasRoom open_ × Fits node d (open_ + 1) × Fits node f (open_ + 1)
Fits _ (chain c) open_ = Fits node_disjunction c open_
Fits _ (or_alone c) open_ = Fits node_conjunction c open_
Fits _ (or_last c d) open_ = Fits disjunction c open_ × Fits node_conjunction d open_
Fits _ (and_alone c) open_ = Fits node_primary c open_
Fits _ (and_last c d) open_ = Fits conjunction c open_ × Fits node_primary d open_
Fits _ (node_parens c) open_ = HasRoom open_ × Fits node c (open_ + 1)
Fits _ (element_node c) open_ = Fits element c open_
Fits _ empty_array open_ = HasRoom open_
Fits _ (array c comma) open_ = HasRoom open_ × Fits node_list c (open_ + 1)
Fits _ (first_node c) open_ = Fits node c open_
Fits _ (next_node c d) open_ = Fits node_list c open_ × Fits node d open_
Fits _ (map_node c at_ item number_ d) open_ =
    Fits member c open_ × HasRoom (open_ + 1) × IsName item × AreNames number_ × Fits node d (open_ + 1)
Fits _ (closed x c) open_ = HasRoom open_ × Fits (attributes (is_suspense x.text)) c (open_ + 1)
Fits _ (paired x c d at_) open_ =
    HasRoom open_ × Fits (attributes (is_suspense x.text)) c (open_ + 1) × Fits children d (open_ + 1)
    × (takes_children x.text ≡ false → tree children d ≡ [])
Fits _ (fragment c) open_ = HasRoom open_ × Fits children c (open_ + 1)
Fits _ (flag x) open_ = Unit {0}
Fits _ (quoted x v) open_ = Unit {0}
Fits _ (braced x c) open_ = HasRoom open_ × Fits expression c (open_ + 1)
Fits _ (fallback x c) open_ = (is_fallback x.text ≡ true) × HasRoom open_ × Fits node c (open_ + 1)
Fits _ no_attribute open_ = Unit {0}
Fits _ (next_attribute {b = b} c d) open_ = Fits (attributes b) c open_ × Fits (attribute b) d open_
Fits _ (text x) open_ = Unit {0}
Fits _ empty_braces open_ = HasRoom open_
Fits _ (braces c) open_ = HasRoom open_ × Fits node c (open_ + 1)
Fits _ (element_child c) open_ = Fits element c open_
Fits _ no_child open_ = Unit {0}
Fits _ (next_child c d) open_ = Fits children c open_ × Fits child d open_
Fits _ (first_name x) open_ = IsName x
Fits _ (next_name c x) open_ = Fits names c open_ × IsName x
Fits _ no_properties open_ = Unit {0}
Fits _ empty_properties open_ = Unit {0}
Fits _ (braced_properties c) open_ = Fits names c open_
Fits _ (fetch at_ x used c) open_ = IsName x × Fits expression c (open_ + 1)
Fits _ (bind at_ x c) open_ = IsName x × Fits expression c open_
Fits _ (throw at_ c thrown d) open_ = Fits expression c (open_ + 1) × Fits expression d open_
Fits _ no_statement open_ = Unit {0}
Fits _ (next_statement c d) open_ = Fits statements c open_ × Fits statement d open_
Fits _ (function at_ x c d returned f) open_ =
    IsName x × Fits properties c (open_ + 2) × Fits statements d (open_ + 1) × Fits node f (open_ + 1)
Fits _ no_component open_ = Unit {0}
Fits _ (next_component c d) open_ = Fits components c open_ × Fits component d open_

-- The words spell the file.
pub record SpellsFile (words : List Word) (file : File) : Type 0 where
  pub syntax : Syntax components
  pub fits : Fits components syntax 0
  pub spelled : spell components syntax [] ≡ words
  pub tree_is : tree components syntax ≡ file.components
