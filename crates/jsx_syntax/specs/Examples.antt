-- Worked component files as words, with their trees.
use Rattle.std.specs.Prelude.{ℕ, false, List, [], ◌∷◌, ◌++◌, codes, Some, pos}
use Rattle.jsx_lex.specs.declared.word.Word.{Word}
use Rattle.jsx_lex.specs.declared.word.Word.TheVariants as w
use Rattle.jsx_lex.specs.declared.word.Punctuator.{Punctuator}
use Rattle.jsx_lex.specs.declared.word.Punctuator.TheVariants as p
use Rattle.jsx_syntax.specs.declared.name.Name.{Name}
use Rattle.jsx_syntax.specs.declared.expr.Expr.TheVariants as e
use Rattle.jsx_syntax.specs.declared.node.Node.{Node}
use Rattle.jsx_syntax.specs.declared.node.Node.TheVariants as n
use Rattle.jsx_syntax.specs.declared.file.File.{File}
use Rattle.jsx_syntax.specs.declared.file.Component.{Component}
use Rattle.jsx_syntax.specs.declared.file.Stmt.{Stmt}
use Rattle.jsx_syntax.specs.declared.file.Stmt.TheVariants as s
use Rattle.jsx_syntax.specs.Trees.{entry}

abbrev pub file_of : List Component → File
file_of components = record { components = components }

abbrev pub name_at : List ℕ → ℕ → Name
name_at text place = record { text = text; at = place }

abbrev pub sign : Punctuator → Word
sign mark = w.Sign mark

-- the words of `function App() {` and statements, `return` at this place, and a node
abbrev pub app_words : List Word → ℕ → List Word → List Word
app_words stmts place node =
    w.Name (codes "function") 0 ∷ w.Name (codes "App") 9 ∷ sign p.OpenParen ∷ sign p.CloseParen ∷ sign p.OpenBrace
    ∷ (stmts ++ (w.Name (codes "return") place ∷ (node ++ (sign p.Semicolon ∷ sign p.CloseBrace ∷ []))))

abbrev pub app : List Stmt → Node → File
app stmts node = file_of (record { name = name_at (codes "App") 9; properties = []; stmts = stmts; result = node } ∷ [])

-- function App() { return <p id="a">{}hi</p>; }
abbrev pub element_words : List Word
element_words = app_words [] 17 (sign p.Less ∷ w.Name (codes "p") 25 ∷ w.Name (codes "id") 27 ∷ sign p.Assign ∷ w.Text (codes "a")
    ∷ sign p.Greater ∷ sign p.OpenBrace ∷ sign p.CloseBrace ∷ w.JsxText (codes "hi") ∷ sign p.LessSlash ∷ w.Name (codes "p") 39
    ∷ sign p.Greater ∷ [])

abbrev pub element_file : File
element_file = app [] (n.Host (name_at (codes "p") 25) (entry (name_at (codes "id") 27) (n.Value (e.Text (codes "a"))) ∷ [])
    (n.Value (e.Text (codes "hi")) ∷ []))

-- function App() { return !a + (b) === 1 && c || <br/>; }
abbrev pub operator_words : List Word
operator_words = app_words [] 17 (sign p.Not ∷ w.Name (codes "a") 25 ∷ sign p.Plus ∷ sign p.OpenParen ∷ w.Name (codes "b") 30
    ∷ sign p.CloseParen ∷ sign p.StrictEqual ∷ w.Number (pos 1) ∷ sign p.AndAnd ∷ w.Name (codes "c") 42 ∷ sign p.OrOr ∷ sign p.Less
    ∷ w.Name (codes "br") 48 ∷ sign p.SlashGreater ∷ [])

abbrev pub operator_file : File
operator_file = app [] (n.Or (e.And (e.Equal (e.Sum (e.Not (e.Name (name_at (codes "a") 25)) ∷ e.Name (name_at (codes "b") 30) ∷ []))
    (e.Int (pos 1)) false ∷ e.Name (name_at (codes "c") 42) ∷ []) ∷ []) (n.Host (name_at (codes "br") 48) [] []))

-- function App() { return a.b.map((x, i) => [x, <></>,]); }
abbrev pub map_words : List Word
map_words = app_words [] 17 (w.Name (codes "a") 24 ∷ sign p.Dot ∷ w.Name (codes "b") 26 ∷ sign p.Dot ∷ w.Name (codes "map") 28
    ∷ sign p.OpenParen ∷ sign p.OpenParen ∷ w.Name (codes "x") 33 ∷ sign p.Comma ∷ w.Name (codes "i") 36 ∷ sign p.CloseParen ∷ sign p.Arrow
    ∷ sign p.OpenBracket ∷ w.Name (codes "x") 43 ∷ sign p.Comma ∷ sign p.Less ∷ sign p.Greater ∷ sign p.LessSlash ∷ sign p.Greater
    ∷ sign p.Comma ∷ sign p.CloseBracket ∷ sign p.CloseParen ∷ [])

abbrev pub map_file : File
map_file = app [] (n.Map (e.Member (e.Name (name_at (codes "a") 24)) (codes "b" ∷ [])) (name_at (codes "x") 33) (Some (name_at (codes "i") 36))
    (n.Array (n.Value (e.Name (name_at (codes "x") 43)) ∷ n.Fragment [] ∷ [])))

-- function App() { const v = use("r"); if (v === 0) throw "z"; return v ? <a/> : null; }
abbrev pub statement_words : List Word
statement_words = app_words
    (w.Name (codes "const") 17 ∷ w.Name (codes "v") 23 ∷ sign p.Assign ∷ w.Name (codes "use") 27 ∷ sign p.OpenParen ∷ w.Text (codes "r")
    ∷ sign p.CloseParen ∷ sign p.Semicolon ∷ w.Name (codes "if") 37 ∷ sign p.OpenParen ∷ w.Name (codes "v") 41 ∷ sign p.StrictEqual
    ∷ w.Number (pos 0) ∷ sign p.CloseParen ∷ w.Name (codes "throw") 50 ∷ w.Text (codes "z") ∷ sign p.Semicolon ∷ [])
    61 (w.Name (codes "v") 68 ∷ sign p.Question ∷ sign p.Less ∷ w.Name (codes "a") 73 ∷ sign p.SlashGreater ∷ sign p.Colon
    ∷ w.Name (codes "null") 78 ∷ [])

abbrev pub statement_file : File
statement_file = app
    (s.Fetch (name_at (codes "v") 23) (e.Text (codes "r"))
    ∷ s.Throw (e.Equal (e.Name (name_at (codes "v") 41)) (e.Int (pos 0)) false) (e.Text (codes "z")) ∷ [])
    (n.Choose (e.Name (name_at (codes "v") 68)) (n.Host (name_at (codes "a") 73) [] []) (n.Value e.Null))
