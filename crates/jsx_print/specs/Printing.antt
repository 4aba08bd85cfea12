-- The words that the printer writes for a tree. An operand stands in parentheses exactly where it is looser than the
-- grammar allows there. A text between tags is a string in braces, an element stands there without braces, and the value
-- of an attribute in braces. The names of the tree keep their places, the other words have the place 0.
use Rattle.std.specs.Prelude.{ℕ, Bool, true, false, nat_le, if◌then◌else◌, List, [], ◌∷◌, ◌++◌, map, codes, Option, Some, None}
use Rattle.std.specs.List.{flat_map}
use Rattle.jsx_lex.specs.declared.word.Word.{Word}
use Rattle.jsx_lex.specs.declared.word.Word.TheVariants as w
use Rattle.jsx_lex.specs.declared.word.Punctuator.{Punctuator}
use Rattle.jsx_lex.specs.declared.word.Punctuator.TheVariants as p
use Rattle.jsx_syntax.specs.declared.name.Name.{Name}
use Rattle.jsx_syntax.specs.declared.name.Entry.{Entry}
use Rattle.jsx_syntax.specs.declared.expr.Expr.{Expr}
use Rattle.jsx_syntax.specs.declared.expr.Expr.TheFolds.{fold-Expr}
use Rattle.jsx_syntax.specs.declared.expr.Expr.TheOpen.{Expr-F}
use Rattle.jsx_syntax.specs.declared.node.Node.{Node}
use Rattle.jsx_syntax.specs.declared.node.Node.TheFolds.{fold-Node}
use Rattle.jsx_syntax.specs.declared.node.Node.TheOpen.{Node-F}
use Rattle.jsx_syntax.specs.declared.file.File.{File}
use Rattle.jsx_syntax.specs.declared.file.Component.{Component}
use Rattle.jsx_syntax.specs.declared.file.Stmt.{Stmt}
use Rattle.jsx_syntax.specs.declared.file.Stmt.TheVariants.{Fetch, Bind, Throw}
use Rattle.jsx_syntax.specs.Grammar.{equal_sign}
use Rattle.jsx_syntax.specs.Words.{name_word}

-- How tight an expression is: the number of its own nonterminal, from the loosest on.
abbrev pub expression : ℕ
expression = 0

abbrev pub disjunction : ℕ
disjunction = 1

abbrev pub conjunction : ℕ
conjunction = 2

abbrev pub equality : ℕ
equality = 3

abbrev pub sum : ℕ
sum = 4

abbrev pub unary : ℕ
unary = 5

abbrev pub member : ℕ
member = 6

abbrev pub primary : ℕ
primary = 7

-- The same of a node. A choice and a value are the loosest, then come chains of two bars and of `&&`.
abbrev pub node : ℕ
node = 0

abbrev pub node_disjunction : ℕ
node_disjunction = 1

abbrev pub node_conjunction : ℕ
node_conjunction = 2

abbrev pub node_primary : ℕ
node_primary = 3

abbrev pub element : ℕ
element = 4

-- the words of a tree, and how tight it is
pub record Printed : Type 0 where
  pub tightness : ℕ
  pub words : List Word

abbrev pub so_tight : ℕ → List Word → Printed
so_tight tightness words = record { tightness = tightness; words = words }

abbrev pub sign : Punctuator → Word
sign mark = w.Sign mark

-- a word of the language
abbrev pub keyword : List ℕ → Word
keyword text = w.Name text 0

abbrev pub in_parens : List Word → List Word
in_parens words = sign p.OpenParen ∷ (words ++ sign p.CloseParen ∷ [])

abbrev pub in_braces : List Word → List Word
in_braces words = sign p.OpenBrace ∷ (words ++ sign p.CloseBrace ∷ [])

-- an operand where one at least so tight may stand
abbrev pub operand : ℕ → Printed → List Word
operand least x = if nat_le least x.tightness then x.words else in_parens x.words

-- what comes after the first operand of a chain
abbrev pub later_operands : Punctuator → ℕ → List Printed → List Word
later_operands mark least xs = flat_map (λ (x : Printed). sign mark ∷ operand least x) xs

-- operands with a sign between each two
abbrev pub chain : Punctuator → ℕ → List Printed → List Word
chain mark least [] = []
chain mark least (x ∷ xs) = operand least x ++ later_operands mark least xs

-- an operand with its members
abbrev pub names_words : List (List ℕ) → List Word
names_words names = flat_map (λ (name : List ℕ). sign p.Dot ∷ keyword name ∷ []) names

abbrev pub member_words : Printed → List (List ℕ) → List Word
member_words of names = operand primary of ++ names_words names

abbrev pub truth_word : Bool → Word
truth_word true = keyword (codes "true")
truth_word false = keyword (codes "false")

abbrev pub equal_words : Printed → Printed → Bool → List Word
equal_words x y negated = operand sum x ++ sign (equal_sign negated) ∷ operand sum y

-- a conditional, of values or of nodes
abbrev pub choice_words : Printed → Printed → Printed → List Word
choice_words test one other =
    operand disjunction test ++ sign p.Question ∷ (one.words ++ sign p.Colon ∷ other.words)

abbrev pub printed_step : Expr-F Printed → Printed
printed_step Expr-F.Null = so_tight primary (keyword (codes "null") ∷ [])
printed_step (Expr-F.Bool b) = so_tight primary (truth_word b ∷ [])
printed_step (Expr-F.Int n) = so_tight primary (w.Number n ∷ [])
printed_step (Expr-F.Text text) = so_tight primary (w.Text text ∷ [])
printed_step (Expr-F.Name name) = so_tight primary (name_word name ∷ [])
printed_step (Expr-F.Member of names) = so_tight member (member_words of names)
printed_step (Expr-F.Not x) = so_tight unary (sign p.Not ∷ operand unary x)
printed_step (Expr-F.Sum xs) = so_tight sum (chain p.Plus unary xs)
printed_step (Expr-F.Equal x y negated) = so_tight equality (equal_words x y negated)
printed_step (Expr-F.And xs) = so_tight conjunction (chain p.AndAnd equality xs)
printed_step (Expr-F.Or xs) = so_tight disjunction (chain p.OrOr conjunction xs)
printed_step (Expr-F.Choose test one other) = so_tight expression (choice_words test one other)

abbrev pub printed : Expr → Printed
printed = fold-Expr Printed printed_step

-- values, and the node that is the last operand of their chain
abbrev pub last_words : Punctuator → ℕ → List Expr → ℕ → Printed → List Word
last_words mark least left last_least last =
    chain mark least (map printed left) ++ sign mark ∷ operand last_least last

-- nodes with a comma between each two, in brackets
abbrev pub later_items : List Printed → List Word
later_items items = flat_map (λ (x : Printed). sign p.Comma ∷ x.words) items

abbrev pub items_words : List Printed → List Word
items_words [] = []
items_words (x ∷ xs) = x.words ++ later_items xs

abbrev pub array_words : List Printed → List Word
array_words items = sign p.OpenBracket ∷ (items_words items ++ sign p.CloseBracket ∷ [])

abbrev pub number_words : Option Name → List Word
number_words None = []
number_words (Some number) = sign p.Comma ∷ name_word number ∷ []

-- the function of a map up to its body
abbrev pub variables_words : Name → Option Name → List Word
variables_words item number =
    sign p.OpenParen ∷ name_word item ∷ (number_words number ++ sign p.CloseParen ∷ sign p.Arrow ∷ [])

-- what stands between the list of a map and its body
abbrev pub mapping_words : Name → Option Name → List Word
mapping_words item number = sign p.Dot ∷ keyword (codes "map") ∷ sign p.OpenParen ∷ variables_words item number

abbrev pub map_words : Expr → Name → Option Name → Printed → List Word
map_words list item number body =
    operand member (printed list) ++ (mapping_words item number ++ (body.words ++ sign p.CloseParen ∷ []))

-- an attribute, with its value in braces
abbrev pub attribute_words : Entry Printed → List Word
attribute_words entry = name_word entry.name ∷ sign p.Assign ∷ in_braces entry.value.words

abbrev pub tag_words : Name → List (Entry Printed) → List Word
tag_words name props = sign p.Less ∷ name_word name ∷ flat_map attribute_words props

-- a child of an element
abbrev pub kid_words : Printed → List Word
kid_words kid = if nat_le element kid.tightness then kid.words else in_braces kid.words

-- the rest of an element after its attributes
abbrev pub rest_words : Name → List Printed → List Word
rest_words name [] = sign p.SlashGreater ∷ []
rest_words name (kid ∷ kids) =
    sign p.Greater ∷ (flat_map kid_words (kid ∷ kids) ++ sign p.LessSlash ∷ keyword name.text ∷ sign p.Greater ∷ [])

abbrev pub element_words : Name → List (Entry Printed) → List Printed → List Word
element_words name props kids = tag_words name props ++ rest_words name kids

abbrev pub fragment_words : List Printed → List Word
fragment_words kids =
    sign p.Less ∷ sign p.Greater ∷ (flat_map kid_words kids ++ sign p.LessSlash ∷ sign p.Greater ∷ [])

abbrev pub node_step : Node-F Printed → Printed
node_step (Node-F.Value x) = so_tight node (printed x).words
node_step (Node-F.Choose test one other) = so_tight node (choice_words (printed test) one other)
node_step (Node-F.And left last) =
    so_tight node_conjunction (last_words p.AndAnd equality left node_primary last)
node_step (Node-F.Or left last) =
    so_tight node_disjunction (last_words p.OrOr conjunction left node_conjunction last)
node_step (Node-F.Array items) = so_tight node_primary (array_words items)
node_step (Node-F.Map list item number body) = so_tight node_primary (map_words list item number body)
node_step (Node-F.Host name props kids) = so_tight element (element_words name props kids)
node_step (Node-F.Call name props) = so_tight element (element_words name props [])
node_step (Node-F.Fragment kids) = so_tight element (fragment_words kids)
node_step (Node-F.Suspense name props kids) = so_tight element (element_words name props kids)

abbrev pub printed_node : Node → Printed
printed_node = fold-Node Printed node_step

-- a constant up to its value
abbrev pub const_words : Name → List Word
const_words name = keyword (codes "const") ∷ name_word name ∷ sign p.Assign ∷ []

abbrev pub stmt_words : Stmt → List Word
stmt_words (Fetch name resource) =
    const_words name ++ keyword (codes "use") ∷ (in_parens (printed resource).words ++ sign p.Semicolon ∷ [])
stmt_words (Bind name value) = const_words name ++ ((printed value).words ++ sign p.Semicolon ∷ [])
stmt_words (Throw test digest) =
    keyword (codes "if") ∷ (in_parens (printed test).words
    ++ keyword (codes "throw") ∷ ((printed digest).words ++ sign p.Semicolon ∷ []))

abbrev pub later_names : List Name → List Word
later_names names = flat_map (λ (name : Name). sign p.Comma ∷ name_word name ∷ []) names

abbrev pub properties_words : List Name → List Word
properties_words [] = []
properties_words (x ∷ xs) = in_braces (name_word x ∷ later_names xs)

-- a component up to its body
abbrev pub head_words : Name → List Name → List Word
head_words name properties = keyword (codes "function") ∷ name_word name ∷ in_parens (properties_words properties)

abbrev pub return_words : Node → List Word
return_words result = keyword (codes "return") ∷ ((printed_node result).words ++ sign p.Semicolon ∷ [])

abbrev pub component_words : Component → List Word
component_words c =
    head_words c.name c.properties
    ++ sign p.OpenBrace ∷ (flat_map stmt_words c.stmts ++ (return_words c.result ++ sign p.CloseBrace ∷ []))

abbrev pub file_words : File → List Word
file_words file = flat_map component_words file.components
