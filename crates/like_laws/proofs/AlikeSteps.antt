-- Tokens that can be followed from a page can be from an alike one, and lead to alike pages.
use Rattle.std.proofs.Common.{◌≡◌, ℕ, ◌≤◌, Bool, false, Some, Ok, List, [], ◌∷◌, ◌++◌, length, reverse, refl, sym, ap, ◌∙◌, subst, arith}
use Rattle.std.proofs.lemmas.List.{length-reverse, reverse-append}
use Rattle.dom_forest.specs.Edits.{DomState, with_appended, with_change}
use Rattle.dom_forest.specs.Forest.{Forest, empty, joined_forests, times, tree}
use Rattle.dom_forest.specs.declared.node.NewNode.{NewNode}
use Rattle.dom_forest.specs.declared.node.NewNode.TheVariants.{Comment, Element, Text}
use Rattle.fizz_instructions.specs.Bodies.{function_of, segment_id}
use Rattle.fizz_instructions.specs.Reading.{Says}
use Rattle.fizz_instructions.specs.Sending.{with_function}
use Rattle.fizz_instructions.specs.declared.instruction.Instruction.{Instruction}
use Rattle.fizz_instructions.specs.declared.instruction.Instruction.TheVariants as instruction
use Rattle.html_read.specs.declared.token.Token.{Token}
use Rattle.html_read.specs.declared.token.Token.TheVariants as tok
use Rattle.document_machine.specs.declared.building.OpenElement.{OpenElement}
use Rattle.document_machine.specs.Documents.{Runs, Step, Steps, ends, marks, runs, says, stands, starts}
use Rattle.document_machine.specs.Edits.{closed_with, waits}
use Rattle.document_machine.specs.Paths.{IsOpenDocument, IsPath}
use Rattle.document_machine.specs.Running.{PageState, edit_of, ids_of, innermost, mark_of, with_node, with_open}
use Rattle.document_machine.proofs.Keeping.{acted_open}
use Rattle.document_machine.proofs.OpenPaths.{document_appended, document_closed, document_opened}
use Rattle.document_machine.proofs.RunsLemmas.{numbered_appended}
use Rattle.page_laws.proofs.Contexts.{plug}
use Rattle.page_laws.proofs.MachineEdits.{changed_first}
use Rattle.like_laws.specs.Alike as alike
use Rattle.like_laws.specs.Alike.{Alike, AreAlike, both}
use Rattle.like_laws.specs.Apart.{StandApart}
use Rattle.like_laws.specs.LikePages.{AlikePages, IsOpenPage, MovesApart, RunsAlike, names_of}
use Rattle.like_laws.proofs.AlikeContexts.{Pair, joined_alike, plugged}
use Rattle.like_laws.proofs.AlikeInstructions.{LeavesAlike, client_alike, complete_alike, fill_alike}
use Rattle.like_laws.proofs.AlikePaths.{last_pair}

-- Each step keeps the open elements in the document.

append_open : (node : NewNode) (b : PageState) → IsOpenPage b → IsOpenPage (with_node node b)
append_open node b h = document_appended b.opened node b.dom h (numbered_appended (innermost b.opened) node b.dom h.numbered)

step_open : (prefix : List ℕ) (b c : PageState) (t : Token) → Step prefix b t c → IsOpenPage b → IsOpenPage c
step_open prefix _ _ _ (starts b name attributes from room) h =
    document_opened b.opened (Element name attributes) name b.dom tt h (numbered_appended (innermost b.opened) (Element name attributes) b.dom h.numbered)
step_open prefix _ _ _ (ends b inner outer from e) h = document_closed inner outer b.dom (subst (λ os. IsOpenDocument (ids_of os) b.dom) e h)
step_open prefix _ _ _ (stands b name attributes from) h = append_open (Element name attributes) b h
step_open prefix _ _ _ (says b text from) h = append_open (Text text) b h
step_open prefix _ _ _ (marks b which from) h = append_open (Comment (mark_of which)) b h
step_open prefix _ _ _ (runs b body from i dom s e) h = acted_open (ids_of b.opened) prefix i b.dom dom h e

pub steps_open : (prefix : List ℕ) (start end : PageState) (toks : List Token) → Steps prefix start toks end → IsOpenPage start → IsOpenPage end
steps_open prefix start end [] s h = subst IsOpenPage s h
steps_open prefix start end (t ∷ ts) s h = steps_open prefix s.0 end ts s.2 (step_open prefix start s.0 t s.1 h)

-- Open elements of the same names are as many.

as_many : (os ps : List OpenElement) → names_of os ≡ names_of ps → length (ids_of os) ≡ length (ids_of ps)
as_many [] [] e = refl
as_many [] (p ∷ ps) e = absurd (let z : [] ≡ p.name ∷ names_of ps = e in cc)
as_many (o ∷ os) [] e = absurd (let z : o.name ∷ names_of os ≡ [] = e in cc)
as_many (o ∷ os) (p ∷ ps) e =
    let z : o.name ∷ names_of os ≡ p.name ∷ names_of ps = e in
    let rest : names_of os ≡ names_of ps = cc in
    omega (arith, as_many os ps rest)

opened_length : (os : List OpenElement) → length (ids_of os) ≡ length os
opened_length [] = refl
opened_length (o ∷ os) = omega (arith, opened_length os)

-- A node is appended to both.

one_more : (s : Bool) (i j : ℕ) (node : NewNode) → Alike s s (tree i node empty empty) (tree j node empty empty)
one_more s i j node = both s s i j node node empty empty empty empty refl (λ id h. refl) (alike.ends false) (alike.ends (waits (Some node)))

path_of : (o : OpenElement) (os : List OpenElement) (forest : Forest) → IsPath (reverse (ids_of (o ∷ os))) forest → IsPath (reverse (ids_of os) ++ o.id.0 ∷ []) forest
path_of o os forest p = subst (λ xs. IsPath xs forest) (reverse-append (o.id.0 ∷ []) (ids_of os)) p

appended_in : (o p : ℕ) (f g more other : Forest) (r : Pair false false f g o p) → ((j : ℕ) → times j f ≤ 1) → ((j : ℕ) → times j g ≤ 1) → ((s : Bool) → Alike s s more other)
    → AreAlike (with_change o (λ content kids later. tree o content (joined_forests kids more) later) f) (with_change p (λ content kids later. tree p content (joined_forests kids other) later) g)
appended_in o p f g more other r once once' h =
    let first = ap (with_change o (λ content kids later. tree o content (joined_forests kids more) later)) r.first_is
    ∙ changed_first r.C o r.c r.kids r.later (λ j. subst (λ t. times j t ≤ 1) r.first_is (once j)) (λ content kids later. tree o content (joined_forests kids more) later) in
    let second = ap (with_change p (λ content kids later. tree p content (joined_forests kids other) later)) r.second_is
    ∙ changed_first r.D p r.d r.others r.rest (λ j. subst (λ t. times j t ≤ 1) r.second_is (once' j)) (λ content kids later. tree p content (joined_forests kids other) later) in
    subst (λ t. AreAlike t (with_change p (λ content kids later. tree p content (joined_forests kids other) later) g)) (sym first)
    (subst (AreAlike (plug r.C (tree o r.c (joined_forests r.kids more) r.later))) (sym second)
    (plugged false false r.x r.y r.C r.D _ _ r.contexts
    (both r.x r.y o p r.c r.d (joined_forests r.kids more) (joined_forests r.others other) r.later r.rest r.same r.agrees (joined_alike false false r.kids r.others more other r.inner (λ s e. h s)) r.outer)))

appended_alike : (os ps : List OpenElement) (node : NewNode) (dom dom' : DomState) → IsOpenDocument (ids_of os) dom → IsOpenDocument (ids_of ps) dom' → names_of os ≡ names_of ps → AreAlike dom.forest dom'.forest
    → AreAlike (with_appended (innermost os) node dom).forest (with_appended (innermost ps) node dom').forest
appended_alike [] [] node dom dom' h h' e r =
    joined_alike false false dom.forest dom'.forest (tree dom.next node empty empty) (tree dom'.next node empty empty) r (λ s _. one_more s dom.next dom'.next node)
appended_alike [] (p ∷ ps) node dom dom' h h' e r = absurd (let z : [] ≡ p.name ∷ names_of ps = e in cc)
appended_alike (o ∷ os) [] node dom dom' h h' e r = absurd (let z : o.name ∷ names_of os ≡ [] = e in cc)
appended_alike (o ∷ os) (p ∷ ps) node dom dom' h h' e r =
    let z : o.name ∷ names_of os ≡ p.name ∷ names_of ps = e in
    let rest : names_of os ≡ names_of ps = cc in
    let pair = last_pair o.id.0 p.id.0 false false dom.forest dom'.forest r (reverse (ids_of os)) (reverse (ids_of ps))
    (length-reverse (ids_of os) ∙ as_many os ps rest ∙ sym (length-reverse (ids_of ps))) (path_of o os dom.forest h.path) (path_of p ps dom'.forest h'.path) in
    appended_in o.id.0 p.id.0 dom.forest dom'.forest (tree dom.next node empty empty) (tree dom'.next node empty empty) pair h.numbered.once h'.numbered.once
    (λ s. one_more s dom.next dom'.next node)

-- One step

record StepAlike (prefix : List ℕ) (b : PageState) (t : Token) (c : PageState) : Type 0 where
  next : PageState
  step : Step prefix b t next
  pages : AlikePages c next

node_alike : (node : NewNode) (a b : PageState) → IsOpenPage a → IsOpenPage b → AlikePages a b → AlikePages (with_node node a) (with_node node b)
node_alike node a b h h' r = record {
  documents = appended_alike a.opened b.opened node a.dom b.dom h h' r.open_names r.documents;
  open_names = r.open_names;
  known = r.known;
}

end_alike : (prefix : List ℕ) (a b : PageState) (inner : OpenElement) (outer : List OpenElement) (from : ℕ) → AlikePages a b → a.opened ≡ inner ∷ outer → (os : List OpenElement) → b.opened ≡ os
    → StepAlike prefix b (tok.End inner.name from) (record a { opened = outer })
end_alike prefix a b inner outer from r e [] is =
    absurd (let z : inner.name ∷ names_of outer ≡ [] = sym (ap names_of e) ∙ r.open_names ∙ ap names_of is in cc)
end_alike prefix a b inner outer from r e (p ∷ ps) is =
    let z : inner.name ∷ names_of outer ≡ p.name ∷ names_of ps = sym (ap names_of e) ∙ r.open_names ∙ ap names_of is in
    let name : p.name ≡ inner.name = cc in
    let rest : names_of outer ≡ names_of ps = cc in
    record {
      next = record b { opened = ps };
      step = subst (λ n. Step prefix b (tok.End n from) (record b { opened = ps })) name (ends b p ps from is);
      pages = record { documents = r.documents; open_names = rest; known = r.known };
    }

edit_alike : (prefix : List ℕ) (a b : PageState) → IsOpenPage a → IsOpenPage b → AlikePages a b → StandApart prefix false a.dom.forest → (i : Instruction) (dom : DomState)
    → edit_of prefix (ids_of a.opened) i a.dom ≡ Ok dom → LeavesAlike (edit_of prefix (ids_of b.opened) i b.dom) dom.forest
edit_alike prefix a b h h' r apart (instruction.Complete boundary segment) dom e =
    complete_alike prefix (ids_of a.opened) (ids_of b.opened) a.dom b.dom h h' (as_many a.opened b.opened r.open_names) r.documents segment boundary apart dom
    (closed_with (ids_of a.opened) (segment_id prefix segment) a.dom.forest) refl e
edit_alike prefix a b h h' r apart (instruction.Segment segment) dom e =
    fill_alike prefix (ids_of a.opened) (ids_of b.opened) a.dom b.dom h h' (as_many a.opened b.opened r.open_names) r.documents segment apart dom
    (closed_with (ids_of a.opened) (segment_id prefix segment) a.dom.forest) refl e
edit_alike prefix a b h h' r apart (instruction.ClientRender boundary digest) dom e =
    client_alike prefix (ids_of a.opened) (ids_of b.opened) a.dom b.dom h h' (as_many a.opened b.opened r.open_names) r.documents boundary digest dom e

step_alike : (prefix : List ℕ) (a b c : PageState) (t : Token) → Step prefix a t c → IsOpenPage a → IsOpenPage b → AlikePages a b
    → ((body : List ℕ) (from : ℕ) → t ≡ tok.Script body from → StandApart prefix false a.dom.forest) → StepAlike prefix b t c
step_alike prefix _ b _ _ (starts a name attributes from room) h h' r apart =
    let p = node_alike (Element name attributes) a b h h' r in
    record {
      next = with_open name attributes b;
      step = starts b name attributes from (omega (arith, room, opened_length a.opened, opened_length b.opened, as_many a.opened b.opened r.open_names));
      pages = record { documents = p.documents; open_names = ap (λ ns. name ∷ ns) r.open_names; known = r.known };
    }
step_alike prefix _ b _ _ (ends a inner outer from e) h h' r apart = end_alike prefix a b inner outer from r e b.opened refl
step_alike prefix _ b _ _ (stands a name attributes from) h h' r apart = record {
  next = with_node (Element name attributes) b;
  step = stands b name attributes from;
  pages = node_alike (Element name attributes) a b h h' r;
}
step_alike prefix _ b _ _ (says a text from) h h' r apart = record {
  next = with_node (Text text) b;
  step = says b text from;
  pages = node_alike (Text text) a b h h' r;
}
step_alike prefix _ b _ _ (marks a which from) h h' r apart = record {
  next = with_node (Comment (mark_of which)) b;
  step = marks b which from;
  pages = node_alike (Comment (mark_of which)) a b h h' r;
}
step_alike prefix _ b _ _ (runs a body from i dom s e) h h' r apart =
    let q = edit_alike prefix a b h h' r (apart body from refl) i dom e in
    record {
      next = record b { dom = q.after; known = with_function b.known (function_of i) };
      step = runs b body from i q.after (subst (λ known. Says prefix body known i) r.known s) q.is;
      pages = record { documents = q.alike; open_names = r.open_names; known = ap (λ known. with_function known (function_of i)) r.known };
    }

record StepsAlike (prefix : List ℕ) (b : PageState) (toks : List Token) (c : PageState) : Type 0 where
  next : PageState
  steps : Steps prefix b toks next
  pages : AlikePages c next

steps_alike : (prefix : List ℕ) (a b c : PageState) (toks : List Token) → Steps prefix a toks c → IsOpenPage a → IsOpenPage b → AlikePages a b → MovesApart prefix a toks → StepsAlike prefix b toks c
steps_alike prefix a b c [] s h h' r apart = record { next = b; steps = refl; pages = subst (λ (p : PageState). AlikePages p b) s r }
steps_alike prefix a b c (t ∷ ts) s h h' r apart =
    let one = step_alike prefix a b s.0 t s.1 h h' r (λ body from is. apart [] ts body from a (ap (λ u. u ∷ ts) is) refl) in
    let rest = steps_alike prefix s.0 one.next c ts s.2 (step_open prefix a s.0 t s.1 h) (step_open prefix b one.next t one.step h') one.pages
    (λ done more body from now is steps. apart (t ∷ done) more body from now (ap (λ us. t ∷ us) is) (s.0, s.1, steps)) in
    record { next = rest.next; steps = (one.next, one.step, rest.steps); pages = rest.pages }

pub runs_alike : (prefix bytes : List ℕ) (a b end : PageState) (first : Runs prefix a bytes end) → IsOpenPage a → IsOpenPage b → AlikePages a b → MovesApart prefix a (first.toks ++ first.last)
    → RunsAlike prefix b bytes end a first
runs_alike prefix bytes a b end first h h' r apart =
    let s = steps_alike prefix a b end (first.toks ++ first.last) first.steps h h' r apart in
    record {
      later = s.next;
      run = record { toks = first.toks; rest = first.rest; last = first.last; split = first.split; text = first.text; steps = s.steps };
      alike = s.pages;
      rest = λ none. none;
    }
