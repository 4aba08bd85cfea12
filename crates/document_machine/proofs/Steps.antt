-- One token, by its kind.
use Rattle.std.proofs.Common.{◌≡◌, ℕ, ◌<◌, List, [], ◌∷◌, length, reverse, Result, Ok, Err, OnOk, IfErr, refl, sym, ◌∙◌, subst, true≢false, false}
use Rattle.std.proofs.lemmas.Slice.Eq.{bytes_eq-Decides}
use Rattle.fizz_text.specs.declared.attribute.Attr.{Attr}
use Rattle.html_read.specs.declared.token.Token.{Token}
use Rattle.html_read.specs.declared.token.Token.TheVariants as tok
use Rattle.html_names.specs.declared.comments.CommentKind.{CommentKind}
use Rattle.dom_forest.specs.Edits.{DomState, with_appended}
use Rattle.dom_forest.specs.declared.node.NewNode.TheVariants.{Element, Text, Comment}
use Rattle.fizz_instructions.specs.declared.instruction.SentFunctions.{SentFunctions}
use Rattle.document_machine.specs.declared.building.OpenElement.{OpenElement}
use Rattle.document_machine.specs.declared.fault.MachineFault.{MachineFault}
use Rattle.document_machine.specs.declared.fault.MachineFault.TheVariants.{Html, UnknownFunction, NoSuchId, NotBoundary, OutOfMemory}
use Rattle.document_machine.specs.Documents.{Step, starts, ends, stands, says, marks, runs, most_open}
use Rattle.document_machine.specs.Faults.{Refuses, closes_nothing, closes_another, opens_too_many, says_nothing, calls_unknown, misses, finds_no_boundary}
use Rattle.document_machine.specs.MachineState.{IsStepCause}
use Rattle.document_machine.specs.Paths.{IsOpenDocument}
use Rattle.document_machine.specs.Running.{PageState, ids_of, innermost, mark_of, with_node}
use Rattle.document_machine.specs.Taking.{Closes, Follows, IsCloseRefusal, IsOpenRefusal, IsScriptRefusal, is_innermost}
use Rattle.document_machine.proofs.OpenPaths.{document_closed}

-- What stands on a result that is Ok, or on its fault.
pub on_ok : {A : Type 0} (result : Result A MachineFault) (P Q : Type 0) → (P → Q) → OnOk result P → OnOk result Q
on_ok (Ok v) P Q f p = f p
on_ok (Err e) P Q f p = tt

pub on_err : {A : Type 0} (result : Result A MachineFault) (P Q : MachineFault → Type 0) → ((e : MachineFault) → P e → Q e) → IfErr result P → IfErr result Q
on_err (Ok v) P Q f p = tt
on_err (Err e) P Q f p = f e p

pub ok_three : {A : Type 0} (result : Result A MachineFault) (P Q R S : Type 0) → OnOk result P → OnOk result Q → OnOk result R → (P → Q → R → S) → OnOk result S
ok_three (Ok v) P Q R S p q r f = f p q r
ok_three (Err e) P Q R S p q r f = tt

-- A step of the same state and token under other names.
pub stepped : {A : Type 0} (result : Result A MachineFault) (prefix : List ℕ) (b c : PageState) (t u : Token) (new : PageState) → b ≡ c → u ≡ t
    → OnOk result (Step prefix b t new) → OnOk result (Step prefix c u new)
stepped (Ok v) prefix b c t u new e f h = subst (λ x. Step prefix x u new) e (subst (λ x. Step prefix b x new) (sym f) h)
stepped (Err e') prefix b c t u new e f h = tt

pub caused : {A : Type 0} (result : Result A MachineFault) (prefix : List ℕ) (b c : PageState) (t u : Token) → b ≡ c → u ≡ t
    → IfErr result (IsStepCause prefix b t) → IfErr result (IsStepCause prefix c u)
caused (Ok v) prefix b c t u e f h = tt
caused (Err e') prefix b c t u e f h = subst (λ x. IsStepCause prefix x u e') e (subst (λ x. IsStepCause prefix b x e') (sym f) h)

abbrev pub built : DomState → List OpenElement → SentFunctions → PageState
built dom opened known = record { dom = dom; opened = opened; known = known }

pub opens_step : (prefix : List ℕ) (dom new : DomState) (opened after : List OpenElement) (known : SentFunctions) (name : List ℕ) (attributes : List Attr) (from : ℕ)
    → length opened < most_open → new ≡ with_appended (innermost opened) (Element name attributes) dom
    → after ≡ record { id = record { 0 = dom.next }; name = name } ∷ opened
    → Step prefix (built dom opened known) (tok.Start name attributes from) (built new after known)
opens_step prefix dom new opened after known name attributes from room e f =
    subst (λ d. Step prefix (built dom opened known) (tok.Start name attributes from) (built d after known)) (sym e)
    (subst (λ os. Step prefix (built dom opened known) (tok.Start name attributes from) (built (with_appended (innermost opened) (Element name attributes) dom) os known)) (sym f)
    (starts (built dom opened known) name attributes from room))

pub open_cause : (prefix : List ℕ) (b : PageState) (name : List ℕ) (attributes : List Attr) (from : ℕ) (e : MachineFault)
    → IsOpenRefusal b.opened from e → IsStepCause prefix b (tok.Start name attributes from) e
open_cause prefix b name attributes from (Html at) h =
    subst (λ n. Refuses prefix b (tok.Start name attributes from) (Html n)) (sym h.0) (opens_too_many b name attributes from h.1)
open_cause prefix b name attributes from (UnknownFunction at) h = absurd h
open_cause prefix b name attributes from (NoSuchId at id) h = absurd h
open_cause prefix b name attributes from (NotBoundary at) h = absurd h
open_cause prefix b name attributes from OutOfMemory h = tt

pub ends_step : (prefix : List ℕ) (dom : DomState) (opened after : List OpenElement) (known : SentFunctions) (name : List ℕ) (from : ℕ)
    → Closes name opened after → Step prefix (built dom opened known) (tok.End name from) (built dom after known)
ends_step prefix dom [] after known name from h = absurd (true≢false (sym h.0))
ends_step prefix dom (inner ∷ outer) after known name from h =
    let same : inner.name ≡ name = (bytes_eq-Decides inner.name name).0 h.0 in
    subst (λ os. Step prefix (built dom (inner ∷ outer) known) (tok.End name from) (built dom os known)) (sym h.1)
    (subst (λ n. Step prefix (built dom (inner ∷ outer) known) (tok.End n from) (built dom outer known)) same
    (ends (built dom (inner ∷ outer) known) inner outer from refl))

pub ends_document : (dom : DomState) (opened after : List OpenElement) (name : List ℕ) → IsOpenDocument (ids_of opened) dom → Closes name opened after
    → IsOpenDocument (ids_of after) dom
ends_document dom [] after name h k = absurd (true≢false (sym k.0))
ends_document dom (inner ∷ outer) after name h k =
    subst (λ os. IsOpenDocument (ids_of os) dom) (sym k.1) (document_closed inner outer dom h)

close_refuses : (prefix : List ℕ) (b : PageState) (opened : List OpenElement) (name : List ℕ) (from : ℕ) → b.opened ≡ opened → is_innermost name opened ≡ false
    → Refuses prefix b (tok.End name from) (Html from)
close_refuses prefix b [] name from e h = closes_nothing b name from e
close_refuses prefix b (inner ∷ outer) name from e h = closes_another b name inner outer from e (λ same. true≢false (sym ((bytes_eq-Decides inner.name name).1 same) ∙ h))

pub close_cause : (prefix : List ℕ) (b : PageState) (name : List ℕ) (from : ℕ) (e : MachineFault) → IsCloseRefusal name b.opened from e
    → IsStepCause prefix b (tok.End name from) e
close_cause prefix b name from (Html at) h =
    subst (λ n. Refuses prefix b (tok.End name from) (Html n)) (sym h.0) (close_refuses prefix b b.opened name from refl h.1)
close_cause prefix b name from (UnknownFunction at) h = absurd h
close_cause prefix b name from (NoSuchId at id) h = absurd h
close_cause prefix b name from (NotBoundary at) h = absurd h
close_cause prefix b name from OutOfMemory h = absurd h

pub void_step : (prefix : List ℕ) (b new : PageState) (t : Token) (name : List ℕ) (attributes : List Attr) (from : ℕ)
    → t ≡ tok.Void name attributes from → new ≡ with_node (Element name attributes) b → Step prefix b t new
void_step prefix b new t name attributes from e f =
    subst (λ x. Step prefix b x new) (sym e) (subst (λ x. Step prefix b (tok.Void name attributes from) x) (sym f) (stands b name attributes from))

pub text_step : (prefix : List ℕ) (b new : PageState) (t : Token) (text : List ℕ) (from : ℕ)
    → t ≡ tok.Text text from → new ≡ with_node (Text text) b → Step prefix b t new
text_step prefix b new t text from e f =
    subst (λ x. Step prefix b x new) (sym e) (subst (λ x. Step prefix b (tok.Text text from) x) (sym f) (says b text from))

pub comment_step : (prefix : List ℕ) (b new : PageState) (t : Token) (which : CommentKind) (from : ℕ)
    → t ≡ tok.Comment which from → new ≡ with_node (Comment (mark_of which)) b → Step prefix b t new
comment_step prefix b new t which from e f =
    subst (λ x. Step prefix b x new) (sym e) (subst (λ x. Step prefix b (tok.Comment which from) x) (sym f) (marks b which from))

pub script_step : (prefix : List ℕ) (dom new : DomState) (opened slice : List OpenElement) (known learned : SentFunctions) (body read : List ℕ) (from : ℕ)
    → slice ≡ opened → read ≡ body → Follows prefix read (ids_of (reverse slice)) dom known new learned
    → Step prefix (built dom (reverse opened) known) (tok.Script body from) (built new (reverse opened) learned)
script_step prefix dom new opened slice known learned body read from e r f =
    subst (λ x. Step prefix (built dom (reverse x) known) (tok.Script body from) (built new (reverse x) learned)) e
    (subst (λ x. Step prefix (built dom (reverse slice) known) (tok.Script x from) (built new (reverse slice) learned)) r
    (subst (λ k. Step prefix (built dom (reverse slice) known) (tok.Script read from) (built new (reverse slice) k)) (sym f.learned)
    (runs (built dom (reverse slice) known) read from f.instruction new f.said f.acts)))

script_refuses : (prefix : List ℕ) (b : PageState) (body : List ℕ) (from : ℕ) (e : MachineFault)
    → IsScriptRefusal prefix body (ids_of b.opened) b.dom b.known from e → IsStepCause prefix b (tok.Script body from) e
script_refuses prefix b body from (Html at) h = subst (λ n. Refuses prefix b (tok.Script body from) (Html n)) (sym h.0) (says_nothing b body from h.1)
script_refuses prefix b body from (UnknownFunction at) h = subst (λ n. Refuses prefix b (tok.Script body from) (UnknownFunction n)) (sym h.0) (calls_unknown b body from h.1)
script_refuses prefix b body from (NoSuchId at id) h =
    subst (λ n. Refuses prefix b (tok.Script body from) (NoSuchId n id)) (sym h.0) (misses b body from h.1.instruction id h.1.said h.1.acts)
script_refuses prefix b body from (NotBoundary at) h =
    subst (λ n. Refuses prefix b (tok.Script body from) (NotBoundary n)) (sym h.0) (finds_no_boundary b body from h.1.instruction h.1.said h.1.acts)
script_refuses prefix b body from OutOfMemory h = tt

pub script_cause : (prefix : List ℕ) (dom : DomState) (opened slice : List OpenElement) (known : SentFunctions) (body read : List ℕ) (from : ℕ) → slice ≡ opened → read ≡ body
    → (e : MachineFault) → IsScriptRefusal prefix read (ids_of (reverse slice)) dom known from e
    → IsStepCause prefix (built dom (reverse opened) known) (tok.Script body from) e
script_cause prefix dom opened slice known body read from e r fault h =
    subst (λ x. IsStepCause prefix (built dom (reverse x) known) (tok.Script body from) fault) e
    (subst (λ x. IsStepCause prefix (built dom (reverse slice) known) (tok.Script x from) fault) r
    (script_refuses prefix (built dom (reverse slice) known) read from fault h))
