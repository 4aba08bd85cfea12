-- A step leads to one building.
use Rattle.std.proofs.Common.{◌≡◌, ℕ, ◌<◌, Ok, List, [], ◌∷◌, ◌++◌, length, refl, sym, ◌∙◌, ap, subst}
use Rattle.std.specs.Str.{IsUtf8}
use Rattle.html_read.specs.declared.token.Token.{Token}
use Rattle.html_read.specs.declared.token.Token.TheVariants as tok
use Rattle.dom_forest.specs.Edits.{DomState}
use Rattle.dom_forest.specs.declared.node.NewNode.TheVariants.{Element, Text, Comment}
use Rattle.fizz_instructions.specs.Bodies.{function_of}
use Rattle.fizz_instructions.specs.Sending.{with_function}
use Rattle.fizz_instructions.specs.Reading.{Says}
use Rattle.fizz_instructions.specs.declared.instruction.Instruction.{Instruction}
use Rattle.fizz_instructions.specs.declared.instruction.SentFunctions.{SentFunctions}
use Rattle.document_machine.specs.declared.building.OpenElement.{OpenElement}
use Rattle.document_machine.specs.Edits.{Edited}
use Rattle.document_machine.specs.Running.{PageState, ids_of, mark_of, with_node, with_open, edit_of}
use Rattle.document_machine.specs.Documents.{most_open, Step, starts, ends, stands, says, marks, runs, Steps}
use Rattle.document_machine.proofs.LowerLaws.{ScriptLaws}

pub record ClosesInnermost (a : PageState) (name : List ℕ) (c : PageState) : Type 0 where
  pub inner : OpenElement
  pub outer : List OpenElement
  pub are : a.opened ≡ inner ∷ outer
  pub names : inner.name ≡ name
  pub is : c ≡ record a { opened = outer }

pub record RunsScript (prefix : List ℕ) (a : PageState) (body : List ℕ) (c : PageState) : Type 0 where
  pub instruction : Instruction
  pub dom : DomState
  pub said : Says prefix body a.known instruction
  pub acts : edit_of prefix (ids_of a.opened) instruction a.dom ≡ Ok dom
  pub is : c ≡ record a { dom = dom; known = with_function a.known (function_of instruction) }

-- What a step is, by its token.
abbrev pub LeadsTo : List ℕ → PageState → Token → PageState → Type 0
LeadsTo prefix a (tok.Start name attributes from) c = (length a.opened < most_open) × (c ≡ with_open name attributes a)
LeadsTo prefix a (tok.End name from) c = ClosesInnermost a name c
LeadsTo prefix a (tok.Void name attributes from) c = c ≡ with_node (Element name attributes) a
LeadsTo prefix a (tok.Text text from) c = c ≡ with_node (Text text) a
LeadsTo prefix a (tok.Comment which from) c = c ≡ with_node (Comment (mark_of which)) a
LeadsTo prefix a (tok.Script body from) c = RunsScript prefix a body c

pub leads_to : (prefix : List ℕ) (a : PageState) (t : Token) (c : PageState) → Step prefix a t c → LeadsTo prefix a t c
leads_to prefix a t c (starts b name attributes from room) = (room, refl)
leads_to prefix a t c (ends b inner outer from is) = record { inner = inner; outer = outer; are = is; names = refl; is = refl }
leads_to prefix a t c (stands b name attributes from) = refl
leads_to prefix a t c (says b text from) = refl
leads_to prefix a t c (marks b which from) = refl
leads_to prefix a t c (runs b body from i dom said is) = record { instruction = i; dom = dom; said = said; acts = is; is = refl }

pub one_said : ScriptLaws → (prefix : List ℕ) → IsUtf8 prefix → (body : List ℕ) (known other : SentFunctions) (i j : Instruction) → Says prefix body known i → Says prefix body other j → i ≡ j
one_said laws prefix utf8 body known other i j s t =
    (laws.one prefix i j s.defines t.defines utf8 s.body_is.valid t.body_is.valid (sym s.body_is.is ∙ t.body_is.is)).0

tails_same : (x y : OpenElement) (xs ys : List OpenElement) → x ∷ xs ≡ y ∷ ys → xs ≡ ys
tails_same x y xs ys e = cc

oks_same : (a b : DomState) → ◌≡◌ {A = Edited} (Ok a) (Ok b) → a ≡ b
oks_same a b e = cc

closes_same : (a : PageState) (name : List ℕ) (b c : PageState) → ClosesInnermost a name b → ClosesInnermost a name c → b ≡ c
closes_same a name b c s t =
    s.is ∙ (ap (λ (o : List OpenElement). record a { opened = o }) (tails_same s.inner t.inner s.outer t.outer (sym s.are ∙ t.are)) ∙ sym t.is)

runs_same : ScriptLaws → (prefix : List ℕ) → IsUtf8 prefix → (a : PageState) (body : List ℕ) (b c : PageState) → RunsScript prefix a body b → RunsScript prefix a body c → b ≡ c
runs_same laws prefix utf8 a body b c s t =
    let i : s.instruction ≡ t.instruction = one_said laws prefix utf8 body a.known a.known s.instruction t.instruction s.said t.said in
    let d : s.dom ≡ t.dom = oks_same s.dom t.dom (sym s.acts ∙ (ap (λ x. edit_of prefix (ids_of a.opened) x a.dom) i ∙ t.acts)) in
    s.is ∙ ((λ k. record a { dom = d k; known = with_function a.known (function_of (i k)) }) ∙ sym t.is)

leads_to_one : ScriptLaws → (prefix : List ℕ) → IsUtf8 prefix → (a : PageState) (t : Token) (b c : PageState) → LeadsTo prefix a t b → LeadsTo prefix a t c → b ≡ c
leads_to_one laws prefix utf8 a (tok.Start name attributes from) b c s t = s.1 ∙ sym t.1
leads_to_one laws prefix utf8 a (tok.End name from) b c s t = closes_same a name b c s t
leads_to_one laws prefix utf8 a (tok.Void name attributes from) b c s t = s ∙ sym t
leads_to_one laws prefix utf8 a (tok.Text text from) b c s t = s ∙ sym t
leads_to_one laws prefix utf8 a (tok.Comment which from) b c s t = s ∙ sym t
leads_to_one laws prefix utf8 a (tok.Script body from) b c s t = runs_same laws prefix utf8 a body b c s t

pub one_step : ScriptLaws → (prefix : List ℕ) → IsUtf8 prefix → (a : PageState) (t : Token) (b c : PageState) → Step prefix a t b → Step prefix a t c → b ≡ c
one_step laws prefix utf8 a t b c s u = leads_to_one laws prefix utf8 a t b c (leads_to prefix a t b s) (leads_to prefix a t c u)

pub one_end : ScriptLaws → (prefix : List ℕ) → IsUtf8 prefix → (a : PageState) (toks : List Token) (b c : PageState) → Steps prefix a toks b → Steps prefix a toks c → b ≡ c
one_end laws prefix utf8 a [] b c s u = sym s ∙ u
one_end laws prefix utf8 a (t ∷ ts) b c s u =
    one_end laws prefix utf8 u.0 ts b c (subst (λ m. Steps prefix m ts b) (one_step laws prefix utf8 a t s.0 u.0 s.1 u.1) s.2) u.2

-- Steps along one list and then another.
pub record StepsOver (prefix : List ℕ) (a : PageState) (xs ys : List Token) (c : PageState) : Type 0 where
  pub middle : PageState
  pub first : Steps prefix a xs middle
  pub second : Steps prefix middle ys c

pub steps_over : (prefix : List ℕ) (a : PageState) (xs ys : List Token) (c : PageState) → Steps prefix a (xs ++ ys) c → StepsOver prefix a xs ys c
steps_over prefix a [] ys c s = record { middle = a; first = refl; second = s }
steps_over prefix a (x ∷ xs) ys c s =
    let rest : StepsOver prefix s.0 xs ys c = steps_over prefix s.0 xs ys c s.2 in
    record { middle = rest.middle; first = (s.0, s.1, rest.first); second = rest.second }

pub steps_append : (prefix : List ℕ) (a b c : PageState) (xs ys : List Token) → Steps prefix a xs b → Steps prefix b ys c → Steps prefix a (xs ++ ys) c
steps_append prefix a b c [] ys s u = subst (λ x. Steps prefix x ys c) (sym s) u
steps_append prefix a b c (x ∷ xs) ys s u = (s.0, s.1, steps_append prefix s.0 b c xs ys s.2 u)
