-- A token that is refused can't be followed, and is refused for one fault.
use Rattle.std.proofs.Common.{◌≡◌, ◌≢◌, ℕ, ◌≤◌, false, Ok, Err, List, [], ◌∷◌, length, refl, sym, ◌∙◌, ap, subst, arith}
use Rattle.std.specs.Str.{IsUtf8}
use Rattle.std.proofs.lemmas.Bool.{true≢false}
use Rattle.html_read.specs.declared.token.Token.{Token}
use Rattle.html_read.specs.declared.token.Token.TheVariants as tok
use Rattle.html_read.specs.Tokens.{is_text}
use Rattle.dom_forest.specs.Edits.{DomState}
use Rattle.fizz_instructions.specs.Bodies.{function_of}
use Rattle.fizz_instructions.specs.Sending.{has}
use Rattle.fizz_instructions.specs.Reading.{Says, IsNoBody, CallsUnknown}
use Rattle.fizz_instructions.specs.declared.instruction.Instruction.{Instruction}
use Rattle.fizz_instructions.specs.declared.instruction.SentFunctions.{SentFunctions}
use Rattle.document_machine.specs.declared.building.OpenElement.{OpenElement}
use Rattle.document_machine.specs.declared.edits.EditFault.{EditFault}
use Rattle.document_machine.specs.declared.edits.EditFault.TheVariants as edit
use Rattle.document_machine.specs.declared.fault.MachineFault.{MachineFault}
use Rattle.document_machine.specs.declared.fault.MachineFault.TheVariants.{Html, UnknownFunction, NoSuchId, NotBoundary, OutOfMemory}
use Rattle.document_machine.specs.Edits.{Edited}
use Rattle.document_machine.specs.Running.{PageState, ids_of, edit_of}
use Rattle.document_machine.specs.Documents.{most_open, Step}
use Rattle.document_machine.specs.Faults.{Refuses, closes_nothing, closes_another, opens_too_many, says_nothing, calls_unknown, misses, finds_no_boundary}
use Rattle.document_machine.proofs.LowerLaws.{ScriptLaws}
use Rattle.document_machine.proofs.OneStep.{ClosesInnermost, RunsScript, LeadsTo, leads_to, one_said}

abbrev CannotClose : List OpenElement → List ℕ → Type 0
CannotClose [] name = Unit {0}
CannotClose (inner ∷ outer) name = inner.name ≢ name

abbrev fault_of : ℕ → EditFault → MachineFault
fault_of from (edit.NoSuchId id) = NoSuchId from id
fault_of from edit.NotBoundary = NotBoundary from
fault_of from edit.OutOfMemory = OutOfMemory

data ScriptRefused (prefix : List ℕ) (a : PageState) (body : List ℕ) (from : ℕ) (fault : MachineFault) : Type 0 where
  nothing_said : IsNoBody prefix body → fault ≡ Html from → ScriptRefused prefix a body from fault
  unknown_called : CallsUnknown prefix body a.known → fault ≡ UnknownFunction from → ScriptRefused prefix a body from fault
  not_done : (i : Instruction) (e : EditFault) → Says prefix body a.known i → edit_of prefix (ids_of a.opened) i a.dom ≡ Err e → fault ≡ fault_of from e → ScriptRefused prefix a body from fault

-- What a refusal is, by its token.
abbrev IsRefused : List ℕ → PageState → Token → MachineFault → Type 0
IsRefused prefix a (tok.Start name attributes from) fault = (most_open ≤ length a.opened) × (fault ≡ Html from)
IsRefused prefix a (tok.End name from) fault = CannotClose a.opened name × (fault ≡ Html from)
IsRefused prefix a (tok.Void name attributes from) fault = ⊥
IsRefused prefix a (tok.Text text from) fault = ⊥
IsRefused prefix a (tok.Comment which from) fault = ⊥
IsRefused prefix a (tok.Script body from) fault = ScriptRefused prefix a body from fault

is_refused : (prefix : List ℕ) (a : PageState) (t : Token) (fault : MachineFault) → Refuses prefix a t fault → IsRefused prefix a t fault
is_refused prefix a t fault (closes_nothing b name from is) = (subst (λ o. CannotClose o name) (sym is) tt, refl)
is_refused prefix a t fault (closes_another b name inner outer from is other) = (subst (λ o. CannotClose o name) (sym is) other, refl)
is_refused prefix a t fault (opens_too_many b name attributes from full) = (full, refl)
is_refused prefix a t fault (says_nothing b body from none) = nothing_said none refl
is_refused prefix a t fault (calls_unknown b body from calls) = unknown_called calls refl
is_refused prefix a t fault (misses b body from i id said is) = not_done i (edit.NoSuchId id) said is refl
is_refused prefix a t fault (finds_no_boundary b body from i said is) = not_done i edit.NotBoundary said is refl

no_text : (prefix : List ℕ) (a : PageState) (t : Token) (fault : MachineFault) → IsRefused prefix a t fault → is_text t ≡ false
no_text prefix a (tok.Start name attributes from) fault r = refl
no_text prefix a (tok.End name from) fault r = refl
no_text prefix a (tok.Void name attributes from) fault r = refl
no_text prefix a (tok.Text text from) fault r = absurd r
no_text prefix a (tok.Comment which from) fault r = refl
no_text prefix a (tok.Script body from) fault r = refl

pub refused_no_text : (prefix : List ℕ) (a : PageState) (t : Token) (fault : MachineFault) → Refuses prefix a t fault → is_text t ≡ false
refused_no_text prefix a t fault r = no_text prefix a t fault (is_refused prefix a t fault r)

said_is_known : ScriptLaws → (prefix : List ℕ) → IsUtf8 prefix → (body : List ℕ) (known : SentFunctions) (i : Instruction) → Says prefix body known i → CallsUnknown prefix body known → ⊥
said_is_known laws prefix utf8 body known i s u =
    let same : (i ≡ u.instruction) × (s.defines ≡ false) = laws.one prefix i u.instruction s.defines false utf8 s.body_is.valid u.body_is.valid (sym s.body_is.is ∙ u.body_is.is) in
    true≢false (sym (s.callable same.1) ∙ (ap (λ x. has known (function_of x)) same.0 ∙ u.unknown))

done_or_not : (dom : DomState) (e : EditFault) → ◌≡◌ {A = Edited} (Ok dom) (Err e) → ⊥
done_or_not dom e h = cc

faults_same : (e f : EditFault) → ◌≡◌ {A = Edited} (Err e) (Err f) → e ≡ f
faults_same e f h = cc

closes_or_not : (a : PageState) (name : List ℕ) (c : PageState) → ClosesInnermost a name c → CannotClose a.opened name → ⊥
closes_or_not a name c s r = let other : s.inner.name ≢ name = subst (λ o. CannotClose o name) s.are r in other s.names

runs_or_not : ScriptLaws → (prefix : List ℕ) → IsUtf8 prefix → (a : PageState) (body : List ℕ) (from : ℕ) (c : PageState) (fault : MachineFault) → RunsScript prefix a body c → ScriptRefused prefix a body from fault → ⊥
runs_or_not laws prefix utf8 a body from c fault s (nothing_said none is) = none s.instruction s.said.defines s.said.body_is
runs_or_not laws prefix utf8 a body from c fault s (unknown_called calls is) = said_is_known laws prefix utf8 body a.known s.instruction s.said calls
runs_or_not laws prefix utf8 a body from c fault s (not_done i e said acts is) =
    let same : s.instruction ≡ i = one_said laws prefix utf8 body a.known a.known s.instruction i s.said said in
    done_or_not s.dom e (sym s.acts ∙ (ap (λ x. edit_of prefix (ids_of a.opened) x a.dom) same ∙ acts))

leads_or_refused : ScriptLaws → (prefix : List ℕ) → IsUtf8 prefix → (a : PageState) (t : Token) (c : PageState) (fault : MachineFault) → LeadsTo prefix a t c → IsRefused prefix a t fault → ⊥
leads_or_refused laws prefix utf8 a (tok.Start name attributes from) c fault s r = omega (arith, s.0, r.0)
leads_or_refused laws prefix utf8 a (tok.End name from) c fault s r = closes_or_not a name c s r.0
leads_or_refused laws prefix utf8 a (tok.Void name attributes from) c fault s r = r
leads_or_refused laws prefix utf8 a (tok.Text text from) c fault s r = r
leads_or_refused laws prefix utf8 a (tok.Comment which from) c fault s r = r
leads_or_refused laws prefix utf8 a (tok.Script body from) c fault s r = runs_or_not laws prefix utf8 a body from c fault s r

scripts_refused_one : ScriptLaws → (prefix : List ℕ) → IsUtf8 prefix → (a : PageState) (body : List ℕ) (from : ℕ) (f g : MachineFault) → ScriptRefused prefix a body from f → ScriptRefused prefix a body from g → f ≡ g
scripts_refused_one laws prefix utf8 a body from f g (nothing_said none is) (nothing_said others are) = is ∙ sym are
scripts_refused_one laws prefix utf8 a body from f g (nothing_said none is) (unknown_called calls are) = absurd (none calls.instruction false calls.body_is)
scripts_refused_one laws prefix utf8 a body from f g (nothing_said none is) (not_done i e said acts are) = absurd (none i said.defines said.body_is)
scripts_refused_one laws prefix utf8 a body from f g (unknown_called calls is) (nothing_said none are) = absurd (none calls.instruction false calls.body_is)
scripts_refused_one laws prefix utf8 a body from f g (unknown_called calls is) (unknown_called others are) = is ∙ sym are
scripts_refused_one laws prefix utf8 a body from f g (unknown_called calls is) (not_done i e said acts are) = absurd (said_is_known laws prefix utf8 body a.known i said calls)
scripts_refused_one laws prefix utf8 a body from f g (not_done i e said acts is) (nothing_said none are) = absurd (none i said.defines said.body_is)
scripts_refused_one laws prefix utf8 a body from f g (not_done i e said acts is) (unknown_called calls are) = absurd (said_is_known laws prefix utf8 body a.known i said calls)
scripts_refused_one laws prefix utf8 a body from f g (not_done i e said acts is) (not_done j d other does are) =
    let same : i ≡ j = one_said laws prefix utf8 body a.known a.known i j said other in
    let causes : e ≡ d = faults_same e d (sym acts ∙ (ap (λ x. edit_of prefix (ids_of a.opened) x a.dom) same ∙ does)) in
    is ∙ (ap (fault_of from) causes ∙ sym are)

refused_one : ScriptLaws → (prefix : List ℕ) → IsUtf8 prefix → (a : PageState) (t : Token) (f g : MachineFault) → IsRefused prefix a t f → IsRefused prefix a t g → f ≡ g
refused_one laws prefix utf8 a (tok.Start name attributes from) f g r s = r.1 ∙ sym s.1
refused_one laws prefix utf8 a (tok.End name from) f g r s = r.1 ∙ sym s.1
refused_one laws prefix utf8 a (tok.Void name attributes from) f g r s = absurd r
refused_one laws prefix utf8 a (tok.Text text from) f g r s = absurd r
refused_one laws prefix utf8 a (tok.Comment which from) f g r s = absurd r
refused_one laws prefix utf8 a (tok.Script body from) f g r s = scripts_refused_one laws prefix utf8 a body from f g r s

pub one_refusal : ScriptLaws → (prefix : List ℕ) → IsUtf8 prefix → (a : PageState) (t : Token) (f g : MachineFault) → Refuses prefix a t f → Refuses prefix a t g → f ≡ g
one_refusal laws prefix utf8 a t f g r s = refused_one laws prefix utf8 a t f g (is_refused prefix a t f r) (is_refused prefix a t g s)

pub step_or_refusal : ScriptLaws → (prefix : List ℕ) → IsUtf8 prefix → (a : PageState) (t : Token) (c : PageState) (fault : MachineFault) → Step prefix a t c → Refuses prefix a t fault → ⊥
step_or_refusal laws prefix utf8 a t c fault s r = leads_or_refused laws prefix utf8 a t c fault (leads_to prefix a t c s) (is_refused prefix a t fault r)
