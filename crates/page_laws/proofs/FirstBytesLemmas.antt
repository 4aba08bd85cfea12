-- The first bytes of markup leave the first nodes of its document.
use Rattle.std.proofs.Common.{◌≡◌, ◌≢◌, ℕ, ◌≤◌, ◌==◌, eqb, inl, inr, true, false, if◌then◌else◌, List, [], ◌∷◌, ◌++◌, reverse, refl, sym, ap, ◌∙◌, subst, arith, append_assoc}
use Rattle.std.specs.Str.{IsUtf8}
use Rattle.std.proofs.lemmas.Bool.{cases_Bool, cases_eq, cond-false, cond-true, eq-eqb, ne_eqb}
use Rattle.std.proofs.lemmas.List.{append_cancel_left, reverse-append}
use Rattle.std.proofs.lemmas.List.Concat.{flat_map-append}
use Rattle.dom_forest.specs.Edits.{DomState, with_appended, with_change}
use Rattle.dom_forest.specs.Forest.{Forest, empty, joined_forests, times, tree}
use Rattle.dom_forest.specs.declared.node.NewNode.{NewNode}
use Rattle.dom_forest.specs.declared.node.NewNode.TheVariants.{Comment, Element, Text}
use Rattle.html_read.specs.Faults.{Splits, begins_tag, ends_in_text}
use Rattle.html_read.specs.Tokens.{Tokenizes, is_text, spelling, spellings}
use Rattle.html_read.specs.declared.token.Token.{Token}
use Rattle.html_read.specs.declared.token.Token.TheVariants as tok
use Rattle.document_machine.specs.declared.building.OpenElement.{OpenElement}
use Rattle.document_machine.specs.Documents.{IsTextAtEnd, Runs, Step, Steps, ends, marks, runs, says, stands, starts}
use Rattle.document_machine.specs.Paths.{IsOpenDocument, IsPath}
use Rattle.document_machine.specs.Running.{PageState, ids_of, innermost, mark_of, with_node, with_open}
use Rattle.document_machine.proofs.JoinedRuns.{text_no_tag}
use Rattle.document_machine.proofs.LowerLaws.{ScriptLaws}
use Rattle.document_machine.proofs.OneStep.{StepsOver, leads_to, one_end, steps_over}
use Rattle.document_machine.proofs.OpenPaths.{Once, document_appended, document_closed, document_opened, path_there}
use Rattle.document_machine.proofs.RunsLemmas.{numbered_appended}
use Rattle.document_machine.proofs.Spots.{absent}
use Rattle.page_laws.proofs.ItemsLemmas.{no_bytes, text_some, token_tag}
use Rattle.page_laws.proofs.NodesLemmas.{joined_nodes-assoc, joined_nodes-none, nodes_of-joined}
use Rattle.page_laws.proofs.PlacesLemmas.{TokenLaws, nothing_true, then_begun}
use Rattle.page_laws.specs.Markup.{AreMarkup, IsMarkup}
use Rattle.page_laws.specs.NodeReveals.{IsPrefixOf, below, cuts, past, stops}
use Rattle.page_laws.specs.Nodes.{Nodes, joined_nodes, node, nodes_of, none}

-- The nodes begin with those of a forest, and go on at the end of its open elements, the outermost first.
abbrev GoesOn : List ℕ → Forest → Nodes → Type 0
GoesOn [] forest nodes = (more : Nodes) × (nodes ≡ joined_nodes (nodes_of forest) more)
GoesOn (o ∷ os) empty nodes = ⊥
GoesOn (o ∷ os) (tree i content kids empty) nodes = (inside : Nodes) × (later : Nodes) × (nodes ≡ node content inside later) × GoesOn os kids inside
GoesOn (o ∷ os) (tree i content kids (tree j other under after)) nodes =
    (later : Nodes) × (nodes ≡ node content (nodes_of kids) later) × GoesOn (o ∷ os) (tree j other under after) later

goes_nowhere : (os : List ℕ) (forest : Forest) → IsPath os forest → GoesOn os forest (nodes_of forest)
goes_nowhere [] forest path = (none, sym (joined_nodes-none (nodes_of forest)))
goes_nowhere (o ∷ os) empty path = absurd path
goes_nowhere (o ∷ os) (tree i content kids empty) path = (nodes_of kids, none, refl, goes_nowhere os kids path.2)
goes_nowhere (o ∷ os) (tree i content kids (tree j other under after)) path =
    (nodes_of (tree j other under after), refl, goes_nowhere (o ∷ os) (tree j other under after) path)

first_of_joined : (a more : Nodes) → IsPrefixOf a (joined_nodes a more)
first_of_joined none more = stops more
first_of_joined (node content kids later) more = past content kids later (joined_nodes later more) (first_of_joined later more)

goes_on_first : (os : List ℕ) (forest : Forest) (nodes : Nodes) → GoesOn os forest nodes → IsPrefixOf (nodes_of forest) nodes
goes_on_first [] forest nodes g = subst (IsPrefixOf (nodes_of forest)) (sym g.1) (first_of_joined (nodes_of forest) g.0)
goes_on_first (o ∷ os) empty nodes g = absurd g
goes_on_first (o ∷ os) (tree i content kids empty) nodes g =
    subst (IsPrefixOf (node content (nodes_of kids) none)) (sym g.2) (below content (nodes_of kids) g.0 g.1 (goes_on_first os kids g.0 g.3))
goes_on_first (o ∷ os) (tree i content kids (tree j other under after)) nodes g =
    subst (IsPrefixOf (nodes_of (tree i content kids (tree j other under after)))) (sym g.1)
    (past content (nodes_of kids) (nodes_of (tree j other under after)) g.0 (goes_on_first (o ∷ os) (tree j other under after) g.0 g.2))

-- An element that is closed has what it holds, and no more.
goes_on_closed : (os : List ℕ) (p : ℕ) (forest : Forest) (nodes : Nodes) → IsPath (os ++ p ∷ []) forest → GoesOn os forest nodes → GoesOn (os ++ p ∷ []) forest nodes
goes_on_closed [] p empty nodes path g = absurd path
goes_on_closed [] p (tree i content kids empty) nodes path g = (nodes_of kids, g.0, g.1, (none, sym (joined_nodes-none (nodes_of kids))))
goes_on_closed [] p (tree i content kids (tree j other under after)) nodes path g =
    let later : Nodes = joined_nodes (nodes_of (tree j other under after)) g.0 in
    (later, g.1, goes_on_closed [] p (tree j other under after) later path (g.0, refl))
goes_on_closed (o ∷ os) p empty nodes path g = absurd path
goes_on_closed (o ∷ os) p (tree i content kids empty) nodes path g = (g.0, g.1, g.2, goes_on_closed os p kids g.0 path.2 g.3)
goes_on_closed (o ∷ os) p (tree i content kids (tree j other under after)) nodes path g =
    (g.0, g.1, goes_on_closed (o ∷ os) p (tree j other under after) g.0 path g.2)

-- More nodes at the end of an open element.
abbrev with_kids : ℕ → Forest → Forest → Forest
with_kids p more forest = with_change p (λ content kids later. tree p content (joined_forests kids more) later) forest

kids_here : (i p : ℕ) (content : NewNode) (kids later more : Forest) → i ≡ p → with_kids p more (tree i content kids later) ≡ tree p content (joined_forests kids more) later
kids_here i p content kids later more same = cond-true (eqb i p) _ _ (eq-eqb i p same)

kids_past : (i p : ℕ) (content : NewNode) (kids later more : Forest) → i ≢ p
    → with_kids p more (tree i content kids later) ≡ tree i content (with_kids p more kids) (with_kids p more later)
kids_past i p content kids later more other = cond-false (eqb i p) _ _ (ne_eqb i p other)

counts_one : (i id : ℕ) → i ≡ id → ◌≡◌ {A = ℕ} (if i == id then 1 else 0) 1
counts_one i id same = cond-true (eqb i id) 1 0 (eq-eqb i id same)

once_kids : (i : ℕ) (content : NewNode) (kids later : Forest) → Once (tree i content kids later) → Once kids
once_kids i content kids later once id = omega (arith, once id)

once_later : (i : ℕ) (content : NewNode) (kids later : Forest) → Once (tree i content kids later) → Once later
once_later i content kids later once id = omega (arith, once id)

not_below : (i p : ℕ) (content : NewNode) (kids later : Forest) → Once (tree i content kids later) → 1 ≤ times p kids → i ≢ p
not_below i p content kids later once there same = omega (arith, once p, counts_one i p same, there)

not_after : (i p : ℕ) (content : NewNode) (kids later : Forest) → Once (tree i content kids later) → 1 ≤ times p later → i ≢ p
not_after i p content kids later once there same = omega (arith, once p, counts_one i p same, there)

-- Where the open element stands among the later siblings, the first tree stays.
kids_later : (i p : ℕ) (content : NewNode) (kids later more : Forest) → Once (tree i content kids later) → 1 ≤ times p later
    → with_kids p more (tree i content kids later) ≡ tree i content kids (with_kids p more later)
kids_later i p content kids later more once there =
    let gone : times p kids ≡ 0 = omega (arith, once p, there) in
    kids_past i p content kids later more (not_after i p content kids later once there)
    ∙ ap (λ k. tree i content k (with_kids p more later)) ((absent p kids gone).same (λ content kids later. tree p content (joined_forests kids more) later))

later_goes : (x : ℕ) (xs : List ℕ) (i p : ℕ) (content : NewNode) (kids more : Forest) (j : ℕ) (other : NewNode) (under after : Forest) (nodes : Nodes)
    → GoesOn (x ∷ xs) (tree i content kids (with_kids p more (tree j other under after))) nodes
    → (later : Nodes) × (nodes ≡ node content (nodes_of kids) later) × GoesOn (x ∷ xs) (with_kids p more (tree j other under after)) later
later_goes x xs i p content kids more j other under after nodes = elim (cases_eq j p) [
  | inl same ↦ subst Goes (sym (kids_here j p other under after more same)) (λ g. g)
  | inr not ↦ subst Goes (sym (kids_past j p other under after more not)) (λ g. g)
] where
  Goes : Forest → Type 0
  Goes rest = GoesOn (x ∷ xs) (tree i content kids rest) nodes → (later : Nodes) × (nodes ≡ node content (nodes_of kids) later) × GoesOn (x ∷ xs) rest later

abbrev Back : List ℕ → Forest → Type 0
Back qs more = (kids : Forest) (inside : Nodes) → GoesOn qs (joined_forests kids more) inside → GoesOn [] kids inside

-- What goes on from more nodes at the end of an open element goes on from what was there.
goes_on_before : (os : List ℕ) (p : ℕ) (qs : List ℕ) (more : Forest) → Back qs more → (forest : Forest) (nodes : Nodes) → Once forest → IsPath (os ++ p ∷ []) forest
    → GoesOn (os ++ p ∷ qs) (with_kids p more forest) nodes → GoesOn (os ++ p ∷ []) forest nodes
goes_on_before [] p qs more back empty nodes once path g = absurd path
goes_on_before [] p qs more back (tree i content kids empty) nodes once path g =
    let h = subst (λ f. GoesOn (p ∷ qs) f nodes) (kids_here i p content kids empty more path.0) g in
    (h.0, h.1, h.2, back kids h.0 h.3)
goes_on_before [] p qs more back (tree i content kids (tree j other under after)) nodes once path g =
    let rest : Forest = tree j other under after in
    let there : 1 ≤ times p rest = path_there [] p rest path in
    let h = later_goes p qs i p content kids more j other under after nodes (subst (λ f. GoesOn (p ∷ qs) f nodes) (kids_later i p content kids rest more once there) g) in
    (h.0, h.1, goes_on_before [] p qs more back (tree j other under after) h.0 (once_later i content kids rest once) path h.2)
goes_on_before (o ∷ os) p qs more back empty nodes once path g = absurd path
goes_on_before (o ∷ os) p qs more back (tree i content kids empty) nodes once path g =
    let other : i ≢ p = not_below i p content kids empty once (path_there os p kids path.2) in
    let h = subst (λ f. GoesOn (o ∷ (os ++ p ∷ qs)) f nodes) (kids_past i p content kids empty more other) g in
    (h.0, h.1, h.2, goes_on_before os p qs more back kids h.0 (once_kids i content kids empty once) path.2 h.3)
goes_on_before (o ∷ os) p qs more back (tree i content kids (tree j other under after)) nodes once path g =
    let rest : Forest = tree j other under after in
    let there : 1 ≤ times p rest = path_there (o ∷ os) p rest path in
    let h = later_goes o (os ++ p ∷ qs) i p content kids more j other under after nodes
    (subst (λ f. GoesOn (o ∷ (os ++ p ∷ qs)) f nodes) (kids_later i p content kids rest more once there) g) in
    (h.0, h.1, goes_on_before (o ∷ os) p qs more back (tree j other under after) h.0 (once_later i content kids rest once) path h.2)

leaf_back : (more : Forest) → Back [] more
leaf_back more kids inside g =
    (joined_nodes (nodes_of more) g.0, g.1 ∙ ap (λ n. joined_nodes n g.0) (nodes_of-joined kids more) ∙ joined_nodes-assoc (nodes_of kids) (nodes_of more) g.0)

open_back : (id : ℕ) (content : NewNode) → Back (id ∷ []) (tree id content empty empty)
open_back id content empty inside g = (node content g.0 g.1, g.2)
open_back id content (tree i other kids empty) inside g =
    let h = open_back id content empty g.0 g.2 in (h.0, g.1 ∙ ap (node other (nodes_of kids)) h.1)
open_back id content (tree i other kids (tree j more under after)) inside g =
    let h = open_back id content (tree j more under after) g.0 g.2 in (h.0, g.1 ∙ ap (node other (nodes_of kids)) h.1)

-- A text that is cut.
cut_here : (front text : List ℕ) (m n : ℕ) (kids : Forest) (nodes : Nodes) → GoesOn [] (joined_forests kids (tree n (Text text) empty empty)) nodes
    → IsPrefixOf (nodes_of (joined_forests kids (tree m (Text front) empty empty))) nodes
cut_here front text m n empty nodes g = subst (IsPrefixOf (node (Text front) none none)) (sym g.1) (cuts front text g.0)
cut_here front text m n (tree i content kids later) nodes g =
    let rest : Nodes = joined_nodes (nodes_of (joined_forests later (tree n (Text text) empty empty))) g.0 in
    subst (IsPrefixOf (node content (nodes_of kids) (nodes_of (joined_forests later (tree m (Text front) empty empty))))) (sym g.1)
    (past content (nodes_of kids) (nodes_of (joined_forests later (tree m (Text front) empty empty))) rest (cut_here front text m n later rest (g.0, refl)))

cut_below : (front text : List ℕ) (m n : ℕ) (os : List ℕ) (p : ℕ) (forest : Forest) (nodes : Nodes) → Once forest → IsPath (os ++ p ∷ []) forest
    → GoesOn (os ++ p ∷ []) (with_kids p (tree n (Text text) empty empty) forest) nodes → IsPrefixOf (nodes_of (with_kids p (tree m (Text front) empty empty) forest)) nodes
cut_below front text m n [] p empty nodes once path g = absurd path
cut_below front text m n [] p (tree i content kids empty) nodes once path g =
    let h = subst (λ f. GoesOn (p ∷ []) f nodes) (kids_here i p content kids empty (tree n (Text text) empty empty) path.0) g in
    subst (λ f. IsPrefixOf (nodes_of f) nodes) (sym (kids_here i p content kids empty (tree m (Text front) empty empty) path.0))
    (subst (IsPrefixOf (node content (nodes_of (joined_forests kids (tree m (Text front) empty empty))) none)) (sym h.2)
    (below content (nodes_of (joined_forests kids (tree m (Text front) empty empty))) h.0 h.1 (cut_here front text m n kids h.0 h.3)))
cut_below front text m n [] p (tree i content kids (tree j other under after)) nodes once path g =
    let rest : Forest = tree j other under after in
    let there : 1 ≤ times p rest = path_there [] p rest path in
    let h = later_goes p [] i p content kids (tree n (Text text) empty empty) j other under after nodes
    (subst (λ f. GoesOn (p ∷ []) f nodes) (kids_later i p content kids rest (tree n (Text text) empty empty) once there) g) in
    subst (λ f. IsPrefixOf (nodes_of f) nodes) (sym (kids_later i p content kids rest (tree m (Text front) empty empty) once there))
    (subst (IsPrefixOf (node content (nodes_of kids) (nodes_of (with_kids p (tree m (Text front) empty empty) rest)))) (sym h.1)
    (past content (nodes_of kids) (nodes_of (with_kids p (tree m (Text front) empty empty) rest)) h.0
    (cut_below front text m n [] p (tree j other under after) h.0 (once_later i content kids rest once) path h.2)))
cut_below front text m n (o ∷ os) p empty nodes once path g = absurd path
cut_below front text m n (o ∷ os) p (tree i content kids empty) nodes once path g =
    let other : i ≢ p = not_below i p content kids empty once (path_there os p kids path.2) in
    let h = subst (λ f. GoesOn (o ∷ (os ++ p ∷ [])) f nodes) (kids_past i p content kids empty (tree n (Text text) empty empty) other) g in
    subst (λ f. IsPrefixOf (nodes_of f) nodes) (sym (kids_past i p content kids empty (tree m (Text front) empty empty) other))
    (subst (IsPrefixOf (node content (nodes_of (with_kids p (tree m (Text front) empty empty) kids)) none)) (sym h.2)
    (below content (nodes_of (with_kids p (tree m (Text front) empty empty) kids)) h.0 h.1
    (cut_below front text m n os p kids h.0 (once_kids i content kids empty once) path.2 h.3)))
cut_below front text m n (o ∷ os) p (tree i content kids (tree j other under after)) nodes once path g =
    let rest : Forest = tree j other under after in
    let there : 1 ≤ times p rest = path_there (o ∷ os) p rest path in
    let h = later_goes o (os ++ p ∷ []) i p content kids (tree n (Text text) empty empty) j other under after nodes
    (subst (λ f. GoesOn (o ∷ (os ++ p ∷ [])) f nodes) (kids_later i p content kids rest (tree n (Text text) empty empty) once there) g) in
    subst (λ f. IsPrefixOf (nodes_of f) nodes) (sym (kids_later i p content kids rest (tree m (Text front) empty empty) once there))
    (subst (IsPrefixOf (node content (nodes_of kids) (nodes_of (with_kids p (tree m (Text front) empty empty) rest)))) (sym h.1)
    (past content (nodes_of kids) (nodes_of (with_kids p (tree m (Text front) empty empty) rest)) h.0
    (cut_below front text m n (o ∷ os) p (tree j other under after) h.0 (once_later i content kids rest once) path h.2)))

-- The same of a page that is being built, whose open elements stand the innermost first.
abbrev PageGoesOn : List OpenElement → DomState → Nodes → Type 0
PageGoesOn opened dom nodes = GoesOn (reverse (ids_of opened)) dom.forest nodes

outermost_first : (x : ℕ) (xs : List ℕ) → reverse (x ∷ xs) ≡ reverse xs ++ x ∷ []
outermost_first x xs = reverse-append (x ∷ []) xs

path_of : (o : OpenElement) (os : List OpenElement) (dom : DomState) → IsOpenDocument (ids_of (o ∷ os)) dom → IsPath (reverse (ids_of os) ++ o.id.0 ∷ []) dom.forest
path_of o os dom h = subst (λ xs. IsPath xs dom.forest) (outermost_first o.id.0 (ids_of os)) h.path

goes_appended : (opened : List OpenElement) (content : NewNode) (dom : DomState) (nodes : Nodes) → IsOpenDocument (ids_of opened) dom
    → PageGoesOn opened (with_appended (innermost opened) content dom) nodes → PageGoesOn opened dom nodes
goes_appended [] content dom nodes h g = leaf_back (tree dom.next content empty empty) dom.forest nodes g
goes_appended (o ∷ os) content dom nodes h g =
    let ids : List ℕ = reverse (ids_of os) in
    subst (λ xs. GoesOn xs dom.forest nodes) (sym (outermost_first o.id.0 (ids_of os)))
    (goes_on_before ids o.id.0 [] (tree dom.next content empty empty) (leaf_back (tree dom.next content empty empty)) dom.forest nodes h.numbered.once (path_of o os dom h)
    (subst (λ xs. GoesOn xs (with_kids o.id.0 (tree dom.next content empty empty) dom.forest) nodes) (outermost_first o.id.0 (ids_of os)) g))

goes_opened : (opened : List OpenElement) (content : NewNode) (name : List ℕ) (dom : DomState) (nodes : Nodes) → IsOpenDocument (ids_of opened) dom
    → PageGoesOn (record { id = record { 0 = dom.next }; name = name } ∷ opened) (with_appended (innermost opened) content dom) nodes → PageGoesOn opened dom nodes
goes_opened [] content name dom nodes h g = open_back dom.next content dom.forest nodes g
goes_opened (o ∷ os) content name dom nodes h g =
    let ids : List ℕ = reverse (ids_of os) in
    let path : reverse (dom.next ∷ o.id.0 ∷ ids_of os) ≡ ids ++ o.id.0 ∷ (dom.next ∷ []) =
    outermost_first dom.next (ids_of (o ∷ os)) ∙ ap (λ xs. xs ++ dom.next ∷ []) (outermost_first o.id.0 (ids_of os)) ∙ append_assoc ids (o.id.0 ∷ []) (dom.next ∷ []) in
    subst (λ xs. GoesOn xs dom.forest nodes) (sym (outermost_first o.id.0 (ids_of os)))
    (goes_on_before ids o.id.0 (dom.next ∷ []) (tree dom.next content empty empty) (open_back dom.next content) dom.forest nodes h.numbered.once (path_of o os dom h)
    (subst (λ xs. GoesOn xs (with_kids o.id.0 (tree dom.next content empty empty) dom.forest) nodes) path g))

goes_closed : (o : OpenElement) (os : List OpenElement) (dom : DomState) (nodes : Nodes) → IsOpenDocument (ids_of (o ∷ os)) dom → PageGoesOn os dom nodes → PageGoesOn (o ∷ os) dom nodes
goes_closed o os dom nodes h g =
    subst (λ xs. GoesOn xs dom.forest nodes) (sym (outermost_first o.id.0 (ids_of os))) (goes_on_closed (reverse (ids_of os)) o.id.0 dom.forest nodes (path_of o os dom h) g)

abbrev IsOpenPage : PageState → Type 0
IsOpenPage b = IsOpenDocument (ids_of b.opened) b.dom

-- A step along markup.
record GoesBack (b c : PageState) : Type 0 where
  page : IsOpenPage c
  goes : (nodes : Nodes) → PageGoesOn c.opened c.dom nodes → PageGoesOn b.opened b.dom nodes

leaf_goes : (content : NewNode) (b : PageState) → IsOpenPage b → GoesBack b (with_node content b)
leaf_goes content b h = record {
  page = document_appended b.opened content b.dom h (numbered_appended (innermost b.opened) content b.dom h.numbered);
  goes = λ nodes g. goes_appended b.opened content b.dom nodes h g;
}

open_goes : (name : List ℕ) (attributes : _) (b : PageState) → IsOpenPage b → GoesBack b (with_open name attributes b)
open_goes name attributes b h = record {
  page = document_opened b.opened (Element name attributes) name b.dom tt h (numbered_appended (innermost b.opened) (Element name attributes) b.dom h.numbered);
  goes = λ nodes g. goes_opened b.opened (Element name attributes) name b.dom nodes h g;
}

close_goes : (b : PageState) (inner : OpenElement) (outer : List OpenElement) (opened : List OpenElement) → opened ≡ inner ∷ outer → IsOpenDocument (ids_of opened) b.dom
    → IsOpenDocument (ids_of outer) b.dom × ((nodes : Nodes) → PageGoesOn outer b.dom nodes → PageGoesOn opened b.dom nodes)
close_goes b inner outer opened is h =
    let page : IsOpenDocument (ids_of (inner ∷ outer)) b.dom = subst (λ os. IsOpenDocument (ids_of os) b.dom) is h in (
      document_closed inner outer b.dom page,
      λ nodes g. subst (λ os. PageGoesOn os b.dom nodes) (sym is) (goes_closed inner outer b.dom nodes page g),
    )

step_goes : (prefix : List ℕ) (b c : PageState) (t : Token) → Step prefix b t c → IsMarkup t → IsOpenPage b → GoesBack b c
step_goes prefix _ _ _ (starts b name attributes from room) m h = open_goes name attributes b h
step_goes prefix _ _ _ (ends b inner outer from is) m h = let both = close_goes b inner outer b.opened is h in record { page = both.0; goes = both.1 }
step_goes prefix _ _ _ (stands b name attributes from) m h = leaf_goes (Element name attributes) b h
step_goes prefix _ _ _ (says b text from) m h = leaf_goes (Text text) b h
step_goes prefix _ _ _ (marks b which from) m h = leaf_goes (Comment (mark_of which)) b h
step_goes prefix _ _ _ (runs b body from i dom said is) m h = absurd m

steps_goes : (prefix : List ℕ) (b c : PageState) (toks : List Token) → Steps prefix b toks c → AreMarkup toks → IsOpenPage b → GoesBack b c
steps_goes prefix b c [] s m h = subst (GoesBack b) s (record { page = h; goes = λ nodes g. g })
steps_goes prefix b c (t ∷ ts) s m h =
    let one = step_goes prefix b s.0 t s.1 m.0 h in
    let later = steps_goes prefix s.0 c ts s.2 m.1 one.page in
    record { page = later.page; goes = λ nodes g. one.goes nodes (later.goes nodes g) }

steps_go_on : (prefix : List ℕ) (b c : PageState) (toks : List Token) → Steps prefix b toks c → AreMarkup toks → IsOpenPage b → PageGoesOn b.opened b.dom (nodes_of c.dom.forest)
steps_go_on prefix b c toks s m h =
    let back = steps_goes prefix b c toks s m h in
    back.goes (nodes_of c.dom.forest) (goes_nowhere (reverse (ids_of c.opened)) c.dom.forest back.page.path)

markup_front : (xs ys : List Token) → AreMarkup (xs ++ ys) → AreMarkup xs × AreMarkup ys
markup_front [] ys m = (tt, m)
markup_front (x ∷ xs) ys m = let rest = markup_front xs ys m.1 in ((m.0, rest.0), rest.1)

text_cut : (opened : List OpenElement) (front text : List ℕ) (dom : DomState) (nodes : Nodes) → IsOpenDocument (ids_of opened) dom
    → PageGoesOn opened (with_appended (innermost opened) (Text text) dom) nodes → IsPrefixOf (nodes_of (with_appended (innermost opened) (Text front) dom).forest) nodes
text_cut [] front text dom nodes h g = cut_here front text dom.next dom.next dom.forest nodes g
text_cut (o ∷ os) front text dom nodes h g =
    cut_below front text dom.next dom.next (reverse (ids_of os)) o.id.0 dom.forest nodes h.numbered.once (path_of o os dom h)
    (subst (λ xs. GoesOn xs (with_kids o.id.0 (tree dom.next (Text text) empty empty) dom.forest) nodes) (outermost_first o.id.0 (ids_of os)) g)

-- The next token is a text too, of which a front was read.
text_then : (prefix : List ℕ) (b front end : PageState) (t u : Token) (us : List Token) → is_text t ≡ true → is_text u ≡ true → Step prefix b t front → Steps prefix b (u ∷ us) end
    → AreMarkup (u ∷ us) → IsOpenPage b → IsPrefixOf (nodes_of front.dom.forest) (nodes_of end.dom.forest)
text_then prefix b front end (tok.Start name attributes from) u us e f one s m h = absurd (nothing_true e)
text_then prefix b front end (tok.End name from) u us e f one s m h = absurd (nothing_true e)
text_then prefix b front end (tok.Void name attributes from) u us e f one s m h = absurd (nothing_true e)
text_then prefix b front end (tok.Comment which from) u us e f one s m h = absurd (nothing_true e)
text_then prefix b front end (tok.Script body from) u us e f one s m h = absurd (nothing_true e)
text_then prefix b front end (tok.Text read at) (tok.Start name attributes from) us e f one s m h = absurd (nothing_true f)
text_then prefix b front end (tok.Text read at) (tok.End name from) us e f one s m h = absurd (nothing_true f)
text_then prefix b front end (tok.Text read at) (tok.Void name attributes from) us e f one s m h = absurd (nothing_true f)
text_then prefix b front end (tok.Text read at) (tok.Comment which from) us e f one s m h = absurd (nothing_true f)
text_then prefix b front end (tok.Text read at) (tok.Script body from) us e f one s m h = absurd (nothing_true f)
text_then prefix b front end (tok.Text read at) (tok.Text text from) us e f one s m h =
    let first : front ≡ with_node (Text read) b = leads_to prefix b (tok.Text read at) front one in
    let next : s.0 ≡ with_node (Text text) b = leads_to prefix b (tok.Text text from) s.0 s.1 in
    let later : Steps prefix (with_node (Text text) b) us end = subst (λ c. Steps prefix c us end) next s.2 in
    let goes = steps_go_on prefix (with_node (Text text) b) end us later m.1 (leaf_goes (Text text) b h).page in
    subst (λ c. IsPrefixOf (nodes_of c.dom.forest) (nodes_of end.dom.forest)) (sym first) (text_cut b.opened read text b.dom (nodes_of end.dom.forest) h goes)

-- What was read last, before the tokens that are to come.
last_then : (prefix : List ℕ) (b front end : PageState) (rest more : List ℕ) (last further : List Token) → IsTextAtEnd rest last → rest ++ more ≡ spellings further
    → Steps prefix b last front → Steps prefix b further end → AreMarkup further → IsOpenPage b → IsPrefixOf (nodes_of front.dom.forest) (nodes_of end.dom.forest)
last_then prefix b front end rest more [] further text are s all m h =
    subst (λ c. IsPrefixOf (nodes_of c.dom.forest) (nodes_of end.dom.forest)) s
    (goes_on_first (reverse (ids_of b.opened)) b.dom.forest (nodes_of end.dom.forest) (steps_go_on prefix b end further all m h))
last_then prefix b front end rest more (t ∷ []) [] text are s all m h =
    absurd (text_some t text.0 text.1 (sym text.2 ∙ no_bytes rest more are))
last_then prefix b front end rest more (t ∷ []) (u ∷ us) text are s all m h = elim (cases_Bool (is_text u)) [
  | inl also ↦ text_then prefix b front end t u us text.1 also (subst (Step prefix b t) s.2 s.1) all m h
  | inr not ↦ absurd
      (nothing_true (sym (text_no_tag t more text.0 text.1) ∙ ap begins_tag (ap (λ xs. xs ++ more) (sym text.2) ∙ are) ∙ token_tag u (spellings us) not))
]
last_then prefix b front end rest more (t ∷ u ∷ us) further text are s all m h = absurd text

pub first_bytes : TokenLaws → ScriptLaws → (prefix a b : List ℕ) (start front end : PageState) (toks : List Token) → IsUtf8 prefix → IsOpenDocument (ids_of start.opened) start.dom
    → Tokenizes (a ++ b) toks → AreMarkup toks → Steps prefix start toks end → Runs prefix start a front → IsPrefixOf (nodes_of front.dom.forest) (nodes_of end.dom.forest)
first_bytes laws scripts prefix a b start front end toks utf8 page are markup steps run =
    let split : Splits ((a ++ b) ++ 60 ∷ []) toks (60 ∷ []) = then_begun (a ++ b) toks are in
    let after : a ++ b ≡ spellings run.toks ++ (run.rest ++ b) = ap (λ xs. xs ++ b) run.split.whole ∙ append_assoc (spellings run.toks) run.rest b in
    let tag : ends_in_text false run.toks ≡ true → begins_tag ((run.rest ++ b) ++ 60 ∷ []) ≡ true = λ e. tag_more run.rest (run.split.ended e) in
    let found = laws.first_tokens ((a ++ b) ++ 60 ∷ []) run.toks toks ((run.rest ++ b) ++ 60 ∷ []) (60 ∷ []) run.split.tokens
    (ap (λ xs. xs ++ 60 ∷ []) after ∙ append_assoc (spellings run.toks) (run.rest ++ b) (60 ∷ [])) tag split in
    let further : List Token = found.0 in
    let bytes : run.rest ++ b ≡ spellings further =
    append_cancel_left (spellings run.toks) (run.rest ++ b) (spellings further)
    (sym after ∙ are.spelled ∙ ap spellings found.1 ∙ flat_map-append spelling run.toks further) in
    let over : StepsOver prefix start run.toks run.last front = steps_over prefix start run.toks run.last front run.steps in
    let whole : StepsOver prefix start run.toks further end = steps_over prefix start run.toks further end (subst (λ ts. Steps prefix start ts end) found.1 steps) in
    let same : whole.middle ≡ over.middle = one_end scripts prefix utf8 start run.toks whole.middle over.middle whole.first over.first in
    let parts = markup_front run.toks further (subst AreMarkup found.1 markup) in
    let middle = steps_goes prefix start over.middle run.toks over.first parts.0 page in
    last_then prefix over.middle front end run.rest b run.last further run.text bytes over.second (subst (λ c. Steps prefix c further end) same whole.second) parts.1 middle.page where
      tag_more : (rest : List ℕ) → begins_tag rest ≡ true → begins_tag ((rest ++ b) ++ 60 ∷ []) ≡ true
      tag_more [] e = absurd (nothing_true e)
      tag_more (x ∷ xs) e = e
