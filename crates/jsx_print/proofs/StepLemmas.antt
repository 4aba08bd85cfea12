-- Words that are written one after the other.
use Rattle.std.proofs.Common.{◌≡◌, ℕ, List, [], ◌∷◌, ◌++◌, map, sym, ◌∙◌, ap, append_assoc, refl, Result, Ok, Err}
use Rattle.std.specs.Prelude.{OnOk}
use Rattle.std.specs.List.{flat_map}
use Rattle.std.proofs.lemmas.Grind.{flat_map-append}
use Rattle.jsx_lex.specs.declared.word.Word.{Word}
use Rattle.jsx_lex.specs.declared.word.Punctuator.TheVariants as p
use Rattle.jsx_syntax.specs.declared.name.Name.{Name}
use Rattle.jsx_syntax.specs.declared.name.Entry.{Entry}
use Rattle.jsx_syntax.specs.declared.node.Node.{Node}
use Rattle.jsx_syntax.specs.declared.node.Node.TheVariants as n
use Rattle.jsx_syntax.specs.declared.node.Node.TheOpen as layer
use Rattle.jsx_syntax.specs.declared.node.Node.TheFolds.{fold-roll-Node}
use Rattle.jsx_syntax.specs.declared.file.Component.{Component}
use Rattle.jsx_syntax.specs.declared.file.Stmt.{Stmt}
use Rattle.jsx_print.specs.Spelling.{word_bytes, sign_bytes, spelled}
use Rattle.jsx_print.specs.Printing.{Printed, sign, tag_words, rest_words, node_step, printed_node, stmt_words, head_words, return_words, component_words}
use Rattle.jsx_print.specs.Seen.{printed_entry}

pub on_ok : {A E : Type 0} {P Q : Type 0} (r : Result A E) → (P → Q) → OnOk r P → OnOk r Q
on_ok (Ok x) f h = f h
on_ok (Err e) f h = h

-- some words, and then others
both : (out mid new : List ℕ) (a b all : List Word) → a ++ b ≡ all → mid ≡ out ++ spelled a → new ≡ mid ++ spelled b → new ≡ out ++ spelled all
both out mid new a b all joined e f =
    f ∙ (ap (λ (bs : List ℕ). bs ++ spelled b) e
    ∙ (append_assoc out (spelled a) (spelled b)
    ∙ ap (λ (bs : List ℕ). out ++ bs) (sym (flat_map-append word_bytes a b) ∙ ap spelled joined)))

step_of : (x : layer.Node-F Node) → printed_node (Rattle.jsx_syntax.specs.declared.node.Node.TheViews.roll-Node x)
    ≡ node_step (Rattle.jsx_syntax.specs.declared.node.Node.TheFolds.map-Node Node Printed printed_node x)
step_of = fold-roll-Node Printed node_step

words-Host : (name : Name) (props : List (Entry Node)) (kids : List Node)
    → (printed_node (n.Host name props kids)).words ≡ tag_words name (map printed_entry props) ++ rest_words name (map printed_node kids)
words-Host name props kids = ap (λ (q : Printed). q.words) (ap printed_node (sym (n.rolls-Host name props kids)) ∙ step_of (layer.Host name props kids))

words-Call : (name : Name) (props : List (Entry Node))
    → (printed_node (n.Call name props)).words ≡ tag_words name (map printed_entry props) ++ sign p.SlashGreater ∷ []
words-Call name props = ap (λ (q : Printed). q.words) (ap printed_node (sym (n.rolls-Call name props)) ∙ step_of (layer.Call name props))

words-Suspense : (name : Name) (props : List (Entry Node)) (kids : List Node)
    → (printed_node (n.Suspense name props kids)).words ≡ tag_words name (map printed_entry props) ++ rest_words name (map printed_node kids)
words-Suspense name props kids =
    ap (λ (q : Printed). q.words) (ap printed_node (sym (n.rolls-Suspense name props kids)) ∙ step_of (layer.Suspense name props kids))

-- the element's words, from those of its parts as they were passed on
element_is : (x node : Node) (name : Name) (props given : List (Entry Node)) (kids inner : List Node)
    → (printed_node x).words ≡ tag_words name (map printed_entry props) ++ rest_words name (map printed_node kids)
    → node ≡ x → given ≡ props → inner ≡ kids
    → tag_words name (map printed_entry given) ++ rest_words name (map printed_node inner) ≡ (printed_node node).words
element_is x node name props given kids inner words is e f =
    ap (λ (ps : List (Entry Node)). tag_words name (map printed_entry ps) ++ rest_words name (map printed_node inner)) e
    ∙ (ap (λ (ks : List Node). tag_words name (map printed_entry props) ++ rest_words name (map printed_node ks)) f
    ∙ (sym words ∙ ap (λ (y : Node). (printed_node y).words) (sym is)))

pub host_step : (out mid new : List ℕ) (node : Node) (name : Name) (props given : List (Entry Node)) (kids inner : List Node)
    → node ≡ n.Host name props kids → given ≡ props → inner ≡ kids
    → mid ≡ out ++ spelled (tag_words name (map printed_entry given))
    → new ≡ mid ++ spelled (rest_words name (map printed_node inner)) → new ≡ out ++ spelled (printed_node node).words
host_step out mid new node name props given kids inner is e f =
    both out mid new (tag_words name (map printed_entry given)) (rest_words name (map printed_node inner)) (printed_node node).words
    (element_is (n.Host name props kids) node name props given kids inner (words-Host name props kids) is e f)

pub suspense_step : (out mid new : List ℕ) (node : Node) (name : Name) (props given : List (Entry Node)) (kids inner : List Node)
    → node ≡ n.Suspense name props kids → given ≡ props → inner ≡ kids
    → mid ≡ out ++ spelled (tag_words name (map printed_entry given))
    → new ≡ mid ++ spelled (rest_words name (map printed_node inner)) → new ≡ out ++ spelled (printed_node node).words
suspense_step out mid new node name props given kids inner is e f =
    both out mid new (tag_words name (map printed_entry given)) (rest_words name (map printed_node inner)) (printed_node node).words
    (element_is (n.Suspense name props kids) node name props given kids inner (words-Suspense name props kids) is e f)

pub call_step : (out mid new : List ℕ) (node : Node) (name : Name) (props given : List (Entry Node))
    → node ≡ n.Call name props → given ≡ props
    → mid ≡ out ++ spelled (tag_words name (map printed_entry given))
    → new ≡ mid ++ sign_bytes p.SlashGreater → new ≡ out ++ spelled (printed_node node).words
call_step out mid new node name props given is e =
    both out mid new (tag_words name (map printed_entry given)) (sign p.SlashGreater ∷ []) (printed_node node).words
    (ap (λ (ps : List (Entry Node)). tag_words name (map printed_entry ps) ++ sign p.SlashGreater ∷ []) e
    ∙ (sym (words-Call name props) ∙ ap (λ (y : Node). (printed_node y).words) (sym is)))

regrouped : (h s r e : List Word) (x : Word) → (((h ++ x ∷ []) ++ s) ++ r) ++ e ≡ h ++ x ∷ (s ++ (r ++ e))
regrouped h s r e x = append_assoc ((h ++ x ∷ []) ++ s) r e ∙ (append_assoc (h ++ x ∷ []) s (r ++ e) ∙ append_assoc h (x ∷ []) (s ++ (r ++ e)))

component_is : (c : Component) (given : List Name) (inner : List Stmt) → given ≡ c.properties → inner ≡ c.stmts
    → (((head_words c.name given ++ sign p.OpenBrace ∷ []) ++ flat_map stmt_words inner) ++ return_words c.result) ++ sign p.CloseBrace ∷ []
    ≡ component_words c
component_is c given inner e f =
    ap (λ (xs : List Name). (((head_words c.name xs ++ sign p.OpenBrace ∷ []) ++ flat_map stmt_words inner) ++ return_words c.result) ++ sign p.CloseBrace ∷ []) e
    ∙ (ap (λ (xs : List Stmt). (((head_words c.name c.properties ++ sign p.OpenBrace ∷ []) ++ flat_map stmt_words xs) ++ return_words c.result) ++ sign p.CloseBrace ∷ []) f
    ∙ regrouped (head_words c.name c.properties) (flat_map stmt_words c.stmts) (return_words c.result) (sign p.CloseBrace ∷ []) (sign p.OpenBrace))

pub component_step : (out after_head after_sign after_stmts after_return new : List ℕ) (c : Component) (given : List Name) (inner : List Stmt)
    → given ≡ c.properties → inner ≡ c.stmts
    → after_head ≡ out ++ spelled (head_words c.name given) → after_sign ≡ after_head ++ sign_bytes p.OpenBrace
    → after_stmts ≡ after_sign ++ spelled (flat_map stmt_words inner) → after_return ≡ after_stmts ++ spelled (return_words c.result)
    → new ≡ after_return ++ sign_bytes p.CloseBrace → new ≡ out ++ spelled (component_words c)
component_step out after_head after_sign after_stmts after_return new c given inner given_is inner_is e1 e2 e3 e4 e5 =
    let head : List Word = head_words c.name given in
    let start : List Word = head ++ sign p.OpenBrace ∷ [] in
    let stmts : List Word = flat_map stmt_words inner in
    let f2 : after_sign ≡ out ++ spelled start = both out after_head after_sign head (sign p.OpenBrace ∷ []) start refl e1 e2 in
    let f3 : after_stmts ≡ out ++ spelled (start ++ stmts) = both out after_sign after_stmts start stmts (start ++ stmts) refl f2 e3 in
    let f4 : after_return ≡ out ++ spelled ((start ++ stmts) ++ return_words c.result) =
    both out after_stmts after_return (start ++ stmts) (return_words c.result) ((start ++ stmts) ++ return_words c.result) refl f3 e4 in
    both out after_return new ((start ++ stmts) ++ return_words c.result) (sign p.CloseBrace ∷ []) (component_words c) (component_is c given inner given_is inner_is) f4 e5
