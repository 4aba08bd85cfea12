-- Bytes run, or have a fault.
use Rattle.std.proofs.Common.{◌≡◌, ◌≢◌, ◌⊎◌, inl, inr, ℕ, ◌+◌, Bool, true, false, Option, Some, None, Ok, Err, if◌then◌else◌, List, [], ◌∷◌, ◌++◌, length, drop, refl, sym, ap, ◌∙◌, subst, append_assoc}
use Rattle.std.specs.Str.{bytes_eq}
use Rattle.std.proofs.lemmas.Bool.{cases_Bool, cases_lt, true≢false}
use Rattle.std.proofs.lemmas.List.{take-append-drop}
use Rattle.std.proofs.lemmas.List.Concat.{flat_map-append}
use Rattle.std.proofs.lemmas.Slice.Eq.{bytes_eq-Decides}
use Rattle.dom_forest.specs.Boundary.{end_of_boundary}
use Rattle.dom_forest.specs.Edits.{DomState, without_node}
use Rattle.dom_forest.specs.Ids.{element_with}
use Rattle.fizz_instructions.specs.Bodies.{boundary_id, function_of, placeholder_id, segment_id}
use Rattle.fizz_instructions.specs.Reading.{HasInstruction, IsBodyOf, IsNoBody, Says}
use Rattle.fizz_instructions.specs.Sending.{has}
use Rattle.fizz_instructions.specs.declared.instruction.Instruction.{Instruction}
use Rattle.fizz_instructions.specs.declared.instruction.Instruction.TheVariants as instruction
use Rattle.html_read.specs.Faults.{HasSplit, Splits}
use Rattle.html_read.specs.Rests.{IsFaulty, IsWholeText}
use Rattle.html_read.specs.Tokens.{AreTokens, AreTokensFrom, is_text, spelling, spellings}
use Rattle.html_read.specs.declared.token.Token.{Token}
use Rattle.html_read.specs.declared.token.Token.TheVariants as tok
use Rattle.document_machine.specs.declared.building.OpenElement.{OpenElement}
use Rattle.document_machine.specs.declared.edits.EditFault.TheVariants.{NoSuchId, NotBoundary, OutOfMemory}
use Rattle.document_machine.specs.declared.fault.MachineFault.{MachineFault}
use Rattle.document_machine.specs.declared.fault.MachineFault.TheVariants as fault
use Rattle.document_machine.specs.Documents.{Step, Steps, ends, marks, most_open, runs, says, stands, starts}
use Rattle.document_machine.specs.Edits.{Edited, client_render_at, client_render_from, closed_with, complete_from, fill_from, fill_with, marker_of, reveal, reveal_at}
use Rattle.document_machine.specs.Faults.{HasSomeFault, Refuses, StopsAtToken, calls_unknown, closes_another, closes_nothing, finds_no_boundary, misses, opens_too_many, says_nothing}
use Rattle.document_machine.specs.Knowing.{RunsSomewhere}
use Rattle.document_machine.specs.Running.{PageState, edit_of, ids_of, with_open}
use Rattle.document_machine.specs.Taking.{StopsIn}
use Rattle.document_machine.proofs.RunsLemmas.{with_rest}

-- An edit wants no memory, as it is defined.
abbrev WantsNoMemory : Edited → Type 0
WantsNoMemory edited = ◌≢◌ {A = Edited} edited (Err OutOfMemory)

no_ok : (dom : DomState) → WantsNoMemory (Ok dom)
no_ok dom e = cc

no_miss : (id : List ℕ) → WantsNoMemory (Err (NoSuchId id))
no_miss id e = cc

no_boundary : WantsNoMemory (Err NotBoundary)
no_boundary e = cc

either : (b : Bool) (x y : Edited) → WantsNoMemory x → WantsNoMemory y → WantsNoMemory (if b then x else y)
either true x y p q = p
either false x y p q = q

reveal_at_wants : (template container : ℕ) (old dom : DomState) (marker end : Option ℕ) → WantsNoMemory (reveal_at template container old dom marker end)
reveal_at_wants template container old dom None end = no_boundary
reveal_at_wants template container old dom (Some marker) None = no_boundary
reveal_at_wants template container old dom (Some marker) (Some end) = no_ok _

reveal_wants : (container : ℕ) (old dom : DomState) (template : Option ℕ) → WantsNoMemory (reveal container old dom template)
reveal_wants container old dom None = no_ok dom
reveal_wants container old dom (Some template) = reveal_at_wants template container old dom (marker_of template dom.forest) (end_of_boundary template dom.forest)

complete_wants : (segment boundary : List ℕ) (dom : DomState) (container : Option ℕ) → WantsNoMemory (complete_from segment boundary dom container)
complete_wants segment boundary dom None = no_miss segment
complete_wants segment boundary dom (Some container) =
    reveal_wants container dom (without_node container dom) (element_with boundary (without_node container dom).forest)

fill_from_wants : (id : List ℕ) (dom : DomState) (container : ℕ) (placeholder : Option ℕ) → WantsNoMemory (fill_from id dom container placeholder)
fill_from_wants id dom container None = no_miss id
fill_from_wants id dom container (Some placeholder) = either _ _ _ (no_miss id) (no_ok _)

fill_wants : (opened : List ℕ) (segment id : List ℕ) (dom : DomState) (container : Option ℕ) → WantsNoMemory (fill_with opened segment id dom container)
fill_wants opened segment id dom None = no_miss segment
fill_wants opened segment id dom (Some container) = fill_from_wants id dom container (closed_with opened id dom.forest)

client_at_wants : (template : ℕ) (digest : List ℕ) (dom : DomState) (marker : Option ℕ) → WantsNoMemory (client_render_at template digest dom marker)
client_at_wants template digest dom None = no_boundary
client_at_wants template digest dom (Some marker) = no_ok _

client_wants : (digest : List ℕ) (dom : DomState) (template : Option ℕ) → WantsNoMemory (client_render_from digest dom template)
client_wants digest dom None = no_ok dom
client_wants digest dom (Some template) = client_at_wants template digest dom (marker_of template dom.forest)

pub edit_wants_no_memory : (prefix opened : List ℕ) (i : Instruction) (dom : DomState) → WantsNoMemory (edit_of prefix opened i dom)
edit_wants_no_memory prefix opened (instruction.Complete boundary segment) dom =
    let id : List ℕ = segment_id prefix segment in complete_wants id (boundary_id prefix boundary) dom (closed_with opened id dom.forest)
edit_wants_no_memory prefix opened (instruction.Segment segment) dom =
    let id : List ℕ = segment_id prefix segment in fill_wants opened id (placeholder_id prefix segment) dom (closed_with opened id dom.forest)
edit_wants_no_memory prefix opened (instruction.ClientRender boundary digest) dom = client_wants digest dom (element_with (boundary_id prefix boundary) dom.forest)

-- A token is followed, or refused.
abbrev IsDecided : List ℕ → PageState → Token → Type 0
IsDecided prefix b t = ((c : PageState) × Step prefix b t c) ⊎ ((f : MachineFault) × Refuses prefix b t f)

start_decided : (prefix : List ℕ) (b : PageState) (name : List ℕ) (attributes : _) (from : ℕ) → IsDecided prefix b (tok.Start name attributes from)
start_decided prefix b name attributes from = elim (cases_lt (length b.opened) most_open) [
  | inl room ↦ inl (with_open name attributes b, starts b name attributes from room)
  | inr full ↦ inr (fault.Html from, opens_too_many b name attributes from full)
]

end_decided : (prefix : List ℕ) (b : PageState) (name : List ℕ) (from : ℕ) (opened : List OpenElement) → b.opened ≡ opened → IsDecided prefix b (tok.End name from)
end_decided prefix b name from [] is = inr (fault.Html from, closes_nothing b name from is)
end_decided prefix b name from (inner ∷ outer) is = elim (cases_Bool (bytes_eq inner.name name)) [
  | inl same ↦ subst (λ (n : List ℕ). IsDecided prefix b (tok.End n from)) ((bytes_eq-Decides inner.name name).0 same) (inl (record b { opened = outer }, ends b inner outer from is))
  | inr not ↦ inr (fault.Html from, closes_another b name inner outer from is (λ e. true≢false (sym ((bytes_eq-Decides inner.name name).1 e) ∙ not)))
]

edit_decided : (prefix : List ℕ) (b : PageState) (body : List ℕ) (from : ℕ) (i : Instruction) → Says prefix body b.known i → (edited : Edited)
    → edit_of prefix (ids_of b.opened) i b.dom ≡ edited → IsDecided prefix b (tok.Script body from)
edit_decided prefix b body from i said (Ok dom) is = inl (_, runs b body from i dom said is)
edit_decided prefix b body from i said (Err (NoSuchId id)) is = inr (_, misses b body from i id said is)
edit_decided prefix b body from i said (Err NotBoundary) is = inr (_, finds_no_boundary b body from i said is)
edit_decided prefix b body from i said (Err OutOfMemory) is = absurd (edit_wants_no_memory prefix (ids_of b.opened) i b.dom is)

said_decided : (prefix : List ℕ) (b : PageState) (body : List ℕ) (from : ℕ) (i : Instruction) → Says prefix body b.known i → IsDecided prefix b (tok.Script body from)
said_decided prefix b body from i said = edit_decided prefix b body from i said (edit_of prefix (ids_of b.opened) i b.dom) refl

defined_decided : (prefix : List ℕ) (b : PageState) (body : List ℕ) (from : ℕ) (h : HasInstruction prefix body) (defines : Bool) → h.defines ≡ defines → IsDecided prefix b (tok.Script body from)
defined_decided prefix b body from h true is =
    said_decided prefix b body from h.instruction (record { defines = h.defines; body_is = h.body_is; callable = λ e. absurd (true≢false (sym is ∙ e)) })
defined_decided prefix b body from h false is = elim (cases_Bool (has b.known (function_of h.instruction))) [
  | inl known ↦ said_decided prefix b body from h.instruction (record { defines = h.defines; body_is = h.body_is; callable = λ e. known })
  | inr not ↦ inr (_, calls_unknown b body from (record { instruction = h.instruction; body_is = subst (IsBodyOf prefix body h.instruction) is h.body_is; unknown = not }))
]

abbrev BodyLaw : Type 0
BodyLaw = (prefix body : List ℕ) → HasInstruction prefix body ⊎ IsNoBody prefix body

script_decided : (prefix : List ℕ) (b : PageState) (body : List ℕ) (from : ℕ) → HasInstruction prefix body ⊎ IsNoBody prefix body → IsDecided prefix b (tok.Script body from)
script_decided prefix b body from (inl h) = defined_decided prefix b body from h h.defines refl
script_decided prefix b body from (inr none) = inr (_, says_nothing b body from none)

step_decided : BodyLaw → (prefix : List ℕ) (b : PageState) (t : Token) → IsDecided prefix b t
step_decided law prefix b (tok.Start name attributes from) = start_decided prefix b name attributes from
step_decided law prefix b (tok.End name from) = end_decided prefix b name from b.opened refl
step_decided law prefix b (tok.Void name attributes from) = inl (_, stands b name attributes from)
step_decided law prefix b (tok.Text text from) = inl (_, says b text from)
step_decided law prefix b (tok.Comment which from) = inl (_, marks b which from)
step_decided law prefix b (tok.Script body from) = script_decided prefix b body from (law prefix body)

-- Tokens are followed, or one of them is refused.
abbrev AreDecided : List ℕ → PageState → List Token → Type 0
AreDecided prefix b toks = ((c : PageState) × Steps prefix b toks c) ⊎ ((f : MachineFault) × StopsIn prefix b toks f)

steps_decided : BodyLaw → (prefix : List ℕ) (b : PageState) (toks : List Token) → AreDecided prefix b toks
steps_decided law prefix b [] = inl (b, refl)
steps_decided law prefix b (t ∷ ts) = first (λ c. steps_decided law prefix c ts) (step_decided law prefix b t) where
  later : (c : PageState) → Step prefix b t c → AreDecided prefix c ts → AreDecided prefix b (t ∷ ts)
  later c one (inl done) = inl (done.0, (c, one, done.1))
  later c one (inr stops) = inr (
    stops.0,
    record {
      before = t ∷ stops.1.before;
      stop = stops.1.stop;
      after = stops.1.after;
      now = stops.1.now;
      are = ap (λ xs. t ∷ xs) stops.1.are;
      steps = (c, one, stops.1.steps);
      refuses = stops.1.refuses;
    },
  )

  first : ((c : PageState) → AreDecided prefix c ts) → IsDecided prefix b t → AreDecided prefix b (t ∷ ts)
  first further (inl one) = later one.0 one.1 (further one.0)
  first further (inr refused) = inr (refused.0, record { before = []; stop = t; after = ts; now = b; are = refl; steps = refl; refuses = refused.1 })

first_tokens : (place : ℕ) (after : Bool) (before : List Token) (stop : Token) (more : List Token) → AreTokensFrom place after (before ++ stop ∷ more) → AreTokensFrom place after (before ++ stop ∷ [])
first_tokens place after [] stop more h = (h.0, h.1, h.2, tt)
first_tokens place after (t ∷ ts) stop more h = (h.0, h.1, h.2, first_tokens (place + length (spelling t)) (is_text t) ts stop more h.3)

stops_at : (prefix : List ℕ) (start : PageState) (bytes : List ℕ) (toks : List Token) (more : List ℕ) (f : MachineFault) → AreTokens toks → bytes ≡ spellings toks ++ more
    → StopsIn prefix start toks f → StopsAtToken prefix start bytes f
stops_at prefix start bytes toks more f tokens are s = record {
  before = s.before;
  stop = s.stop;
  more = spellings s.after ++ more;
  built = s.now;
  tokens = first_tokens 0 false s.before s.stop s.after (subst AreTokens s.are tokens);
  are = are ∙ ap (λ ts. spellings ts ++ more) s.are ∙ ap (λ xs. xs ++ more) (flat_map-append spelling s.before (s.stop ∷ s.after))
      ∙ regroup (spellings s.before) (spelling s.stop) (spellings s.after) more;
  steps = s.steps;
  refuses = s.refuses;
} where
  regroup : (x y z m : List ℕ) → (x ++ (y ++ z)) ++ m ≡ (x ++ y) ++ (z ++ m)
  regroup x y z m = ap (λ l. l ++ m) (sym (append_assoc x y z)) ∙ append_assoc (x ++ y) z m

pub record DecidingLaws : Type 0 where
  pub bytes : (bytes : List ℕ) → HasSplit bytes ⊎ IsFaulty bytes
  pub text : (bytes : List ℕ) (toks : List Token) (rest : List ℕ) → Splits bytes toks rest → IsWholeText rest ⊎ (¬ IsWholeText rest)
  pub body : BodyLaw

pub runs_decided : DecidingLaws → (prefix : List ℕ) (start : PageState) (bytes : List ℕ) → RunsSomewhere prefix start bytes ⊎ HasSomeFault prefix start bytes
runs_decided laws prefix start bytes = by_bytes (laws.bytes bytes) where
  split_runs : (h : HasSplit bytes) → AreDecided prefix start h.toks → RunsSomewhere prefix start bytes ⊎ HasSomeFault prefix start bytes
  split_runs h (inl done) = inl (with_rest prefix start done.0 bytes h.toks h.rest h.split done.1 (laws.text bytes h.toks h.rest h.split))
  split_runs h (inr stops) =
      inr (record { fault = stops.0; has = inl (stops_at prefix start bytes h.toks h.rest stops.0 h.split.tokens h.split.whole stops.1) })

  fault_runs : (h : IsFaulty bytes) → AreDecided prefix start h.toks → HasSomeFault prefix start bytes
  fault_runs h (inl done) = record {
    fault = fault.Html h.at;
    has = inr (record { before = h.toks; at = h.at; kind = h.kind; built = done.0; reader = h.fault; steps = done.1; is = refl });
  }
  fault_runs h (inr stops) = record {
    fault = stops.0;
    has = inl (stops_at prefix start bytes h.toks (h.fault.rest ++ drop h.at bytes) stops.0 h.fault.split.tokens
        (sym (take-append-drop h.at bytes) ∙ ap (λ x. x ++ drop h.at bytes) h.fault.split.whole ∙ append_assoc (spellings h.toks) h.fault.rest (drop h.at bytes))
        stops.1);
  }

  by_bytes : HasSplit bytes ⊎ IsFaulty bytes → RunsSomewhere prefix start bytes ⊎ HasSomeFault prefix start bytes
  by_bytes (inl h) = split_runs h (steps_decided laws.body prefix start h.toks)
  by_bytes (inr h) = inr (fault_runs h (steps_decided laws.body prefix start h.toks))
