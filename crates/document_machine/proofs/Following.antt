-- Tokens in their order.
use Rattle.std.proofs.Common.{◌≡◌, List, [], ◌∷◌, ◌++◌, ℕ, refl, sym, ap, ◌∙◌}
use Rattle.html_read.specs.declared.token.Token.{Token}
use Rattle.std.proofs.lemmas.List.{append_assoc}
use Rattle.document_machine.specs.Documents.{Step, Steps}
use Rattle.document_machine.specs.MachineState.{IsStepCause}
use Rattle.document_machine.specs.Paths.{IsOpenDocument}
use Rattle.document_machine.specs.Running.{PageState, ids_of}
use Rattle.document_machine.specs.Taking.{IsTakingCause}
use Rattle.document_machine.specs.declared.fault.MachineFault.{MachineFault}
use Rattle.document_machine.specs.declared.fault.MachineFault.TheVariants.{Html, UnknownFunction, NoSuchId, NotBoundary, OutOfMemory}
use Rattle.document_machine.proofs.OneStep.{steps_append}

-- Of the tokens some were followed, and a rest is left.
pub record HasFollowed (prefix : List ℕ) (start : PageState) (toks done rest : List Token) (now : PageState) : Type 0 where
  pub steps : Steps prefix start done now
  pub whole : toks ≡ done ++ rest
  pub document : IsOpenDocument (ids_of now.opened) now.dom

pub steps_push : (prefix : List ℕ) (start now next : PageState) (done : List Token) (tok : Token) → Steps prefix start done now → Step prefix now tok next
    → Steps prefix start (done ++ tok ∷ []) next
steps_push prefix start now next done tok s t = steps_append prefix start now next done (tok ∷ []) s (next, t, refl)

pub follows_one : (prefix : List ℕ) (start now next : PageState) (toks done rest all : List Token) (tok : Token) → HasFollowed prefix start toks done all now
    → all ≡ tok ∷ rest → Step prefix now tok next → IsOpenDocument (ids_of next.opened) next.dom → HasFollowed prefix start toks (done ++ tok ∷ []) rest next
follows_one prefix start now next toks done rest all tok h e s d = record {
  steps = steps_push prefix start now next done tok h.steps s;
  whole = h.whole ∙ ap (λ r. done ++ r) e ∙ sym (append_assoc done (tok ∷ []) rest);
  document = d;
}

pub stops_at : (prefix : List ℕ) (start now : PageState) (toks done rest all : List Token) (tok : Token) (fault : MachineFault) → HasFollowed prefix start toks done all now
    → all ≡ tok ∷ rest → IsStepCause prefix now tok fault → IsTakingCause prefix start toks fault
stops_at prefix start now toks done rest all tok (Html at) h e r =
    record { before = done; stop = tok; after = rest; now = now; are = h.whole ∙ ap (λ x. done ++ x) e; steps = h.steps; refuses = r }
stops_at prefix start now toks done rest all tok (UnknownFunction at) h e r =
    record { before = done; stop = tok; after = rest; now = now; are = h.whole ∙ ap (λ x. done ++ x) e; steps = h.steps; refuses = r }
stops_at prefix start now toks done rest all tok (NoSuchId at id) h e r =
    record { before = done; stop = tok; after = rest; now = now; are = h.whole ∙ ap (λ x. done ++ x) e; steps = h.steps; refuses = r }
stops_at prefix start now toks done rest all tok (NotBoundary at) h e r =
    record { before = done; stop = tok; after = rest; now = now; are = h.whole ∙ ap (λ x. done ++ x) e; steps = h.steps; refuses = r }
stops_at prefix start now toks done rest all tok OutOfMemory h e r = tt
