-- What runs keep, and what the first bytes of a run do.
use Rattle.std.proofs.Common.{◌≡◌, ◌≢◌, ◌⊎◌, ℕ, zero, ◌+◌, ◌≤◌, ◌==◌, eqb, Bool, true, false, if◌then◌else◌, inl, inr, Option, Some, None, Ok, Err, List, [], ◌∷◌, ◌++◌, refl, sym, ap, ◌∙◌, subst, arith, append-nil, append_assoc}
use Rattle.std.proofs.lemmas.Bool.{cond-false, ne_eqb, cases_eq, cases_lt}
use Rattle.dom_forest.specs.Forest.{empty, tree, times, joined_forests}
use Rattle.dom_forest.specs.Edits.{DomState, IsNumbered, with_appended, inner_of, part_of, without_node}
use Rattle.dom_forest.specs.Boundary.{end_of_boundary}
use Rattle.dom_forest.specs.Ids.{element_with}
use Rattle.dom_forest.specs.declared.node.NodeId.{NodeId}
use Rattle.dom_forest.specs.declared.node.NewNode.{NewNode}
use Rattle.dom_forest.specs.declared.node.NewNode.TheVariants.{Comment, Text}
use Rattle.fizz_instructions.specs.Bodies.{boundary_id, function_of, placeholder_id, segment_id}
use Rattle.fizz_instructions.specs.Reading.{Says}
use Rattle.fizz_instructions.specs.Sending.{with_function}
use Rattle.fizz_instructions.specs.declared.functions.Function.{Function}
use Rattle.fizz_instructions.specs.declared.functions.Function.TheVariants.{CompleteBoundary, CompleteSegment, ClientRenderBoundary}
use Rattle.fizz_instructions.specs.declared.instruction.Instruction.{Instruction}
use Rattle.fizz_instructions.specs.declared.instruction.Instruction.TheVariants as instruction
use Rattle.fizz_instructions.specs.declared.instruction.SentFunctions.{SentFunctions}
use Rattle.html_read.specs.Faults.{IsBegun, Splits, SplitsBefore, begins_tag}
use Rattle.html_read.specs.Rests.{IsWholeText}
use Rattle.html_read.specs.Tokens.{is_text, spelling}
use Rattle.html_read.specs.declared.token.Token.{Token}
use Rattle.html_read.specs.declared.token.Token.TheVariants as tok
use Rattle.document_machine.specs.declared.edits.EditFault.{EditFault}
use Rattle.document_machine.specs.Edits.{Edited, client_render_at, client_render_from, closed_with, complete_from, fill_from, fill_with, marker_of, reveal, reveal_at, with_digest_unless_empty}
use Rattle.document_machine.specs.Running.{PageState, edit_of, ids_of, with_node}
use Rattle.document_machine.specs.Documents.{LeavesNoRest, Runs, Step, Steps, ends, marks, runs, says, stands, starts}
use Rattle.document_machine.specs.Knowing.{KnowsMore, RunsKnowing, RunsSomewhere, with_known}
use Rattle.document_machine.proofs.Numbering.{joined_times, numbered_before, numbered_content, numbered_digest, numbered_range, numbered_without}
use Rattle.document_machine.proofs.OneStep.{StepsOver, steps_over}
use Rattle.document_machine.proofs.JoinedRuns.{joined as joined_runs, text_no_tag}
use Rattle.document_machine.proofs.Spots.{absent, spot}
use Rattle.document_machine.proofs.TokenRuns.{nothing_true}

-- Each id stands once after a run where it did before.

appended_times : (j : ℕ) (parent : Option NodeId) (node : NewNode) (dom : DomState) → IsNumbered dom
    → times j (with_appended parent node dom).forest ≤ times j dom.forest + (if dom.next == j then 1 else 0)
appended_times j None node dom d = omega (arith, joined_times j dom.forest (tree dom.next node empty empty))
appended_times j (Some parent) node dom d = elim (cases_eq (times parent.0 dom.forest) 0) [
  | inl none ↦ omega (arith, ap (times j) ((absent parent.0 dom.forest none).same (λ content kids later. tree parent.0 content (joined_forests kids (tree dom.next node empty empty)) later)))
  | inr some ↦ let s = spot parent.0 dom.forest (omega (arith, d.once parent.0)) in
      omega (
        arith,
        ap (times j) (s.edited (λ content kids later. tree parent.0 content (joined_forests kids (tree dom.next node empty empty)) later)),
        s.counts j (tree parent.0 s.content (joined_forests s.kids (tree dom.next node empty empty)) s.later),
        joined_times j s.kids (tree dom.next node empty empty),
        ap (times j) s.is,
        s.counts j (tree parent.0 s.content s.kids s.later),
      )
]

other_id : (n j : ℕ) → n ≢ j → (if n == j then 1 else 0) ≤ 0
other_id n j e = let none : (if n == j then 1 else 0) ≡ zero = cond-false (eqb n j) _ _ (ne_eqb n j e) in omega arith

at_most_one : (b : Bool) → (if b then 1 else 0) ≤ 1
at_most_one true = omega arith
at_most_one false = omega arith

pub numbered_appended : (parent : Option NodeId) (node : NewNode) (dom : DomState) → IsNumbered dom → IsNumbered (with_appended parent node dom)
numbered_appended parent node dom d = record {
  once = λ j. elim (cases_lt j dom.next) [
    | inl old ↦ omega (arith, appended_times j parent node dom d, other_id dom.next j (omega arith), d.once j)
    | inr new ↦ omega (arith, appended_times j parent node dom d, at_most_one (dom.next == j), d.given j new)
  ];
  given = λ j h. omega (arith, appended_times j parent node dom d, other_id dom.next j (omega arith), d.given j (omega arith));
}

-- An edit that is made keeps it.
abbrev KeepsNumbers : Edited → Type 0
KeepsNumbers edited = (after : DomState) → edited ≡ Ok after → IsNumbered after

refused : (e : EditFault) → KeepsNumbers (Err e)
refused e after same = absurd (let z : ◌≡◌ {A = Edited} (Err e) (Ok after) = same in cc)

made : (dom : DomState) → IsNumbered dom → KeepsNumbers (Ok dom)
made dom d after same = let z : ◌≡◌ {A = Edited} (Ok dom) (Ok after) = same in let is : dom ≡ after = cc in subst IsNumbered is d

either : (b : Bool) (x y : Edited) → KeepsNumbers x → KeepsNumbers y → KeepsNumbers (if b then x else y)
either true x y kx ky = kx
either false x y kx ky = ky

reveal_at_keeps : (template container : ℕ) (old dom : DomState) (marker end : Option ℕ) → IsNumbered dom → KeepsNumbers (reveal_at template container old dom marker end)
reveal_at_keeps template container old dom None end d = refused _
reveal_at_keeps template container old dom (Some marker) None d = refused _
reveal_at_keeps template container old dom (Some marker) (Some end) d =
    made _ (numbered_before end (inner_of (part_of container old)) _ (numbered_range template end _ (numbered_content marker (Comment _) dom d)))

reveal_keeps : (container : ℕ) (old dom : DomState) (template : Option ℕ) → IsNumbered dom → KeepsNumbers (reveal container old dom template)
reveal_keeps container old dom None d = made dom d
reveal_keeps container old dom (Some template) d = reveal_at_keeps template container old dom (marker_of template dom.forest) (end_of_boundary template dom.forest) d

complete_keeps : (segment boundary : List ℕ) (dom : DomState) (container : Option ℕ) → IsNumbered dom → KeepsNumbers (complete_from segment boundary dom container)
complete_keeps segment boundary dom None d = refused _
complete_keeps segment boundary dom (Some container) d =
    reveal_keeps container dom (without_node container dom) (element_with boundary (without_node container dom).forest) (numbered_without container dom d)

fill_from_keeps : (id : List ℕ) (dom : DomState) (container : ℕ) (placeholder : Option ℕ) → IsNumbered dom → KeepsNumbers (fill_from id dom container placeholder)
fill_from_keeps id dom container None d = refused _
fill_from_keeps id dom container (Some placeholder) d =
    either _ _ _ (refused _) (made _ (numbered_without placeholder _ (numbered_before placeholder (inner_of (part_of container dom)) _ (numbered_without container dom d))))

fill_keeps : (opened : List ℕ) (segment id : List ℕ) (dom : DomState) (container : Option ℕ) → IsNumbered dom → KeepsNumbers (fill_with opened segment id dom container)
fill_keeps opened segment id dom None d = refused _
fill_keeps opened segment id dom (Some container) d = fill_from_keeps id dom container (closed_with opened id dom.forest) d

digest_keeps : (template : ℕ) (digest : List ℕ) (dom : DomState) → IsNumbered dom → IsNumbered (with_digest_unless_empty template digest dom)
digest_keeps template [] dom d = d
digest_keeps template (b ∷ bs) dom d = numbered_digest template (b ∷ bs) dom d

client_at_keeps : (template : ℕ) (digest : List ℕ) (dom : DomState) (marker : Option ℕ) → IsNumbered dom → KeepsNumbers (client_render_at template digest dom marker)
client_at_keeps template digest dom None d = refused _
client_at_keeps template digest dom (Some marker) d = made _ (digest_keeps template digest _ (numbered_content marker (Comment _) dom d))

client_keeps : (digest : List ℕ) (dom : DomState) (template : Option ℕ) → IsNumbered dom → KeepsNumbers (client_render_from digest dom template)
client_keeps digest dom None d = made dom d
client_keeps digest dom (Some template) d = client_at_keeps template digest dom (marker_of template dom.forest) d

acted_keeps : (prefix opened : List ℕ) (i : Instruction) (dom : DomState) → IsNumbered dom → KeepsNumbers (edit_of prefix opened i dom)
acted_keeps prefix opened (instruction.Complete boundary segment) dom d =
    let id : List ℕ = segment_id prefix segment in complete_keeps id (boundary_id prefix boundary) dom (closed_with opened id dom.forest) d
acted_keeps prefix opened (instruction.Segment segment) dom d =
    let id : List ℕ = segment_id prefix segment in fill_keeps opened id (placeholder_id prefix segment) dom (closed_with opened id dom.forest) d
acted_keeps prefix opened (instruction.ClientRender boundary digest) dom d = client_keeps digest dom (element_with (boundary_id prefix boundary) dom.forest) d

step_numbered : (prefix : List ℕ) (b c : PageState) (t : Token) → Step prefix b t c → IsNumbered b.dom → IsNumbered c.dom
step_numbered prefix _ _ _ (starts b name attributes from room) d = numbered_appended _ _ b.dom d
step_numbered prefix _ _ _ (ends b inner outer from e) d = d
step_numbered prefix _ _ _ (stands b name attributes from) d = numbered_appended _ _ b.dom d
step_numbered prefix _ _ _ (says b text from) d = numbered_appended _ _ b.dom d
step_numbered prefix _ _ _ (marks b which from) d = numbered_appended _ _ b.dom d
step_numbered prefix _ _ _ (runs b body from i dom s e) d = acted_keeps prefix (ids_of b.opened) i b.dom d dom e

steps_numbered : (prefix : List ℕ) (start end : PageState) (toks : List Token) → Steps prefix start toks end → IsNumbered start.dom → IsNumbered end.dom
steps_numbered prefix start end [] s d = subst (λ b. IsNumbered b.dom) s d
steps_numbered prefix start end (t ∷ ts) s d = steps_numbered prefix s.0 end ts s.2 (step_numbered prefix start s.0 t s.1 d)

pub runs_numbered : (prefix : List ℕ) (start end : PageState) (bytes : List ℕ) → Runs prefix start bytes end → IsNumbered start.dom → IsNumbered end.dom
runs_numbered prefix start end bytes run d = steps_numbered prefix start end (run.toks ++ run.last) run.steps d

-- Where more functions are known at the start, the same is built.

with_more : (a b : SentFunctions) (f : Function) → KnowsMore a b → KnowsMore (with_function a f) (with_function b f)
with_more a b CompleteBoundary k CompleteBoundary h = refl
with_more a b CompleteBoundary k CompleteSegment h = k CompleteSegment h
with_more a b CompleteBoundary k ClientRenderBoundary h = k ClientRenderBoundary h
with_more a b CompleteSegment k CompleteBoundary h = k CompleteBoundary h
with_more a b CompleteSegment k CompleteSegment h = refl
with_more a b CompleteSegment k ClientRenderBoundary h = k ClientRenderBoundary h
with_more a b ClientRenderBoundary k CompleteBoundary h = k CompleteBoundary h
with_more a b ClientRenderBoundary k CompleteSegment h = k CompleteSegment h
with_more a b ClientRenderBoundary k ClientRenderBoundary h = refl

says_more : (prefix body : List ℕ) (a b : SentFunctions) (i : Instruction) → KnowsMore a b → Says prefix body a i → Says prefix body b i
says_more prefix body a b i k s = record { defines = s.defines; body_is = s.body_is; callable = λ e. k (function_of i) (s.callable e) }

record StepKnowing (prefix : List ℕ) (b c : PageState) (t : Token) (known : SentFunctions) : Type 0 where
  later : SentFunctions
  step : Step prefix (with_known known b) t (with_known later c)
  more : KnowsMore c.known later

step_knowing : (prefix : List ℕ) (b c : PageState) (t : Token) → Step prefix b t c → (known : SentFunctions) → KnowsMore b.known known → StepKnowing prefix b c t known
step_knowing prefix _ _ _ (starts b name attributes from room) known k = record { later = known; step = starts (with_known known b) name attributes from room; more = k }
step_knowing prefix _ _ _ (ends b inner outer from e) known k = record { later = known; step = ends (with_known known b) inner outer from e; more = k }
step_knowing prefix _ _ _ (stands b name attributes from) known k = record { later = known; step = stands (with_known known b) name attributes from; more = k }
step_knowing prefix _ _ _ (says b text from) known k = record { later = known; step = says (with_known known b) text from; more = k }
step_knowing prefix _ _ _ (marks b which from) known k = record { later = known; step = marks (with_known known b) which from; more = k }
step_knowing prefix _ _ _ (runs b body from i dom s e) known k = record {
  later = with_function known (function_of i);
  step = runs (with_known known b) body from i dom (says_more prefix body b.known known i k s) e;
  more = with_more b.known known (function_of i) k;
}

record StepsKnowing (prefix : List ℕ) (start end : PageState) (toks : List Token) (known : SentFunctions) : Type 0 where
  later : SentFunctions
  steps : Steps prefix (with_known known start) toks (with_known later end)
  more : KnowsMore end.known later

steps_knowing : (prefix : List ℕ) (start end : PageState) (toks : List Token) → Steps prefix start toks end → (known : SentFunctions) → KnowsMore start.known known
    → StepsKnowing prefix start end toks known
steps_knowing prefix start end [] s known k = record { later = known; steps = ap (with_known known) s; more = subst (λ b. KnowsMore b.known known) s k }
steps_knowing prefix start end (t ∷ ts) s known k =
    let one = step_knowing prefix start s.0 t s.1 known k in
    let rest = steps_knowing prefix s.0 end ts s.2 one.later one.more in
    record { later = rest.later; steps = (with_known one.later s.0, one.step, rest.steps); more = rest.more }

pub runs_knowing : (prefix : List ℕ) (start end : PageState) (bytes : List ℕ) (run : Runs prefix start bytes end) (known : SentFunctions) → KnowsMore start.known known
    → RunsKnowing prefix start bytes end run known
runs_knowing prefix start end bytes run known k =
    let s = steps_knowing prefix start end (run.toks ++ run.last) run.steps known k in
    record {
      later = s.later;
      run = record { toks = run.toks; rest = run.rest; last = run.last; split = run.split; text = run.text; steps = s.steps };
      rest = λ none. none;
      more = s.more;
    }

-- A token that has begun and is no text changes nothing.

pub runs_begun : (prefix : List ℕ) (start middle : PageState) (a rest : List ℕ) (run : Runs prefix start a middle) → LeavesNoRest run → IsBegun rest → begins_tag rest ≡ true
    → Runs prefix start (a ++ rest) middle
runs_begun prefix start middle a rest run none begun tag =
    let later : Runs prefix middle rest middle = record {
      toks = [];
      rest = rest;
      last = [];
      split = record { whole = refl; tokens = tt; begun = inr begun; ended = λ e. absurd (nothing_true e) };
      text = λ t h text spelled. nothing_true (sym (text_no_tag t [] h text) ∙ (ap begins_tag (append-nil (spelling t) ∙ sym spelled) ∙ tag));
      steps = refl;
    } in
    (joined_runs prefix start middle middle a rest run none tag later).0

-- Where bytes run, the first of them do.

text_step : (prefix : List ℕ) (b : PageState) (t : Token) → is_text t ≡ true → (c : PageState) × Step prefix b t c
text_step prefix b (tok.Start name attributes from) h = absurd (nothing_true h)
text_step prefix b (tok.End name from) h = absurd (nothing_true h)
text_step prefix b (tok.Void name attributes from) h = absurd (nothing_true h)
text_step prefix b (tok.Text text from) h = (with_node (Text text) b, says b text from)
text_step prefix b (tok.Comment which from) h = absurd (nothing_true h)
text_step prefix b (tok.Script body from) h = absurd (nothing_true h)

steps_then : (prefix : List ℕ) (start middle end : PageState) (toks : List Token) (t : Token) → Steps prefix start toks middle → Step prefix middle t end → Steps prefix start (toks ++ t ∷ []) end
steps_then prefix start middle end [] t s one = (end, subst (λ b. Step prefix b t end) (sym s) one, refl)
steps_then prefix start middle end (u ∷ us) t s one = (s.0, s.1, steps_then prefix s.0 middle end us t s.2 one)

pub with_rest : (prefix : List ℕ) (start middle : PageState) (a : List ℕ) (toks : List Token) (rest : List ℕ) → Splits a toks rest → Steps prefix start toks middle
    → IsWholeText rest ⊎ (¬ IsWholeText rest) → RunsSomewhere prefix start a
with_rest prefix start middle a toks rest split steps (inl w) =
    let one = text_step prefix middle w.token w.text in
    record {
      end = one.0;
      run = record {
        toks = toks;
        rest = rest;
        last = w.token ∷ [];
        split = split;
        text = (w.is_token, w.text, w.spelled);
        steps = steps_then prefix start middle one.0 toks w.token steps one.1;
      };
    }
with_rest prefix start middle a toks rest split steps (inr none) = record {
  end = middle;
  run = record {
    toks = toks;
    rest = rest;
    last = [];
    split = split;
    text = λ t h text spelled. none (record { token = t; is_token = h; text = text; spelled = spelled });
    steps = subst (λ x. Steps prefix start x middle) (sym (append-nil toks)) steps;
  };
}

pub record RestLaws : Type 0 where
  pub prefix : (prefix more : List ℕ) (toks : List Token) (rest : List ℕ) → Splits (prefix ++ more) toks rest → SplitsBefore prefix toks
  pub text : (bytes : List ℕ) (toks : List Token) (rest : List ℕ) → Splits bytes toks rest → IsWholeText rest ⊎ (¬ IsWholeText rest)

pub runs_prefix : RestLaws → (prefix : List ℕ) (start end : PageState) (a b : List ℕ) → Runs prefix start (a ++ b) end → RunsSomewhere prefix start a
runs_prefix laws prefix start end a b run =
    let first = laws.prefix a b run.toks run.rest run.split in
    let steps : Steps prefix start (first.first ++ (first.further ++ run.last)) end =
    subst (λ x. Steps prefix start x end) (ap (λ x. x ++ run.last) first.all ∙ append_assoc first.first first.further run.last) run.steps in
    let over : StepsOver prefix start first.first (first.further ++ run.last) end = steps_over prefix start first.first (first.further ++ run.last) end steps in
    with_rest prefix start over.middle a first.first first.rest first.split over.first (laws.text a first.first first.rest first.split)
