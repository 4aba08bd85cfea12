-- A piece of a page after the bytes before it.
use Rattle.std.proofs.Common.{◌≡◌, ◌⊎◌, ⊎_elim, ℕ, ◌+◌, Bool, Some, None, List, [], ◌∷◌, ◌++◌, length, drop, inl, inr, refl, sym, ap, ◌∙◌, subst}
use Rattle.std.proofs.lemmas.List.{append_assoc, append-nil}
use Rattle.std.proofs.Common.{take-append-drop}
use Rattle.std.proofs.lemmas.List.Concat.{flat_map-append}
use Rattle.html_read.specs.declared.token.Token.{Token}
use Rattle.html_read.specs.declared.fault.ReadKind.{ReadKind}
use Rattle.html_read.specs.Tokens.{AreTokensFrom, AreTokens, spelling, spellings, is_text}
use Rattle.html_read.specs.Faults.{HasFault}
use Rattle.html_read.specs.Reading.{ReaderState, HasRead, MeetsFault, MetFault}
use Rattle.document_machine.specs.declared.fault.MachineFault.{MachineFault}
use Rattle.document_machine.specs.declared.fault.MachineFault.TheVariants.{Html, UnknownFunction, NoSuchId, NotBoundary, OutOfMemory}
use Rattle.document_machine.specs.Documents.{Steps}
use Rattle.document_machine.specs.Faults.{HasMachineFault, StopsAtToken}
use Rattle.document_machine.specs.Running.{PageState, at_first}
use Rattle.document_machine.specs.Taking.{Finds, IsPieceCause, IsTakingCause, StopsIn, Went}
use Rattle.document_machine.specs.MachineState.{FeedRefusal, MachineState, IsStopped}
use Rattle.document_machine.specs.declared.stop.Stop.TheVariants.{GoesOn}
use Rattle.document_machine.proofs.OneStep.{steps_append}

pub goes_on : (prefix bytes piece : List ℕ) (old new : ReaderState) (start end : PageState) (toks : List Token)
    → ((bytes : List ℕ) (before : List Token) → HasRead bytes before old → HasRead (bytes ++ piece) (before ++ toks) new)
    → Steps prefix start toks end → Went prefix bytes old start → Went prefix (bytes ++ piece) new end
goes_on prefix bytes piece old new start end toks reads steps w = record {
  toks = w.toks ++ toks;
  read = reads bytes w.toks w.read;
  steps = steps_append prefix at_first start end w.toks toks w.steps steps;
}

-- Tokens that begin others are tokens.
first_tokens : (place : ℕ) (after : Bool) (front more : List Token) → AreTokensFrom place after (front ++ more) → AreTokensFrom place after front
first_tokens place after [] more h = tt
first_tokens place after (t ∷ front) more h = (h.0, h.1, h.2, first_tokens (place + length (spelling t)) (is_text t) front more h.3)

split_at : (before done after : List Token) (stop : Token) → before ++ (done ++ stop ∷ after) ≡ ((before ++ done) ++ stop ∷ []) ++ after
split_at before done after stop =
    sym (append_assoc before done (stop ∷ after)) ∙ sym (append_assoc (before ++ done) (stop ∷ []) after)

-- The first token that can't be followed, of tokens that begin the bytes.
pub stops_token : (prefix bytes rest : List ℕ) (start : PageState) (before toks : List Token) (fault : MachineFault)
    → AreTokens (before ++ toks) → bytes ≡ spellings (before ++ toks) ++ rest → Steps prefix at_first before start → StopsIn prefix start toks fault
    → StopsAtToken prefix at_first bytes fault
stops_token prefix bytes rest start before toks fault are is steps s =
    let split : before ++ toks ≡ ((before ++ s.before) ++ s.stop ∷ []) ++ s.after = ap (λ ts. before ++ ts) s.are ∙ split_at before s.before s.after s.stop in
    let spelled : spellings (before ++ toks) ≡ spellings (before ++ s.before) ++ (spelling s.stop ++ spellings s.after) =
    ap spellings split
    ∙ flat_map-append spelling ((before ++ s.before) ++ s.stop ∷ []) s.after
    ∙ ap (λ x. x ++ spellings s.after) (flat_map-append spelling (before ++ s.before) (s.stop ∷ []) ∙ ap (λ x. spellings (before ++ s.before) ++ x) (append-nil (spelling s.stop)))
    ∙ append_assoc (spellings (before ++ s.before)) (spelling s.stop) (spellings s.after) in
    record {
      before = before ++ s.before;
      stop = s.stop;
      more = spellings s.after ++ rest;
      built = s.now;
      tokens = first_tokens 0 _ ((before ++ s.before) ++ s.stop ∷ []) s.after (subst AreTokens split are);
      are = is ∙ ap (λ x. x ++ rest) spelled ∙ append_assoc (spellings (before ++ s.before)) (spelling s.stop ++ spellings s.after) rest
          ∙ ap (λ x. spellings (before ++ s.before) ++ x) (append_assoc (spelling s.stop) (spellings s.after) rest)
          ∙ sym (append_assoc (spellings (before ++ s.before)) (spelling s.stop) (spellings s.after ++ rest));
      steps = steps_append prefix at_first start s.now before s.before steps s.steps;
      refuses = s.refuses;
    }

stops_read : (prefix bytes piece : List ℕ) (old new : ReaderState) (start : PageState) (toks : List Token) (fault : MachineFault)
    → ((bytes : List ℕ) (before : List Token) → HasRead bytes before old → HasRead (bytes ++ piece) (before ++ toks) new)
    → StopsIn prefix start toks fault → Went prefix bytes old start → HasMachineFault prefix at_first (bytes ++ piece) fault
stops_read prefix bytes piece old new start toks fault reads s w =
    let r = reads bytes w.toks w.read in
    inl (stops_token prefix (bytes ++ piece) new.rest start w.toks toks fault r.split.tokens r.split.whole w.steps s)

-- A token of the piece stops the machine.
pub read_cause : (prefix piece : List ℕ) (old new : ReaderState) (start : PageState) (toks : List Token) (fault : MachineFault)
    → ((bytes : List ℕ) (before : List Token) → HasRead bytes before old → HasRead (bytes ++ piece) (before ++ toks) new)
    → IsTakingCause prefix start toks fault → IsPieceCause prefix old start piece fault
read_cause prefix piece old new start toks (Html at) reads s = λ bytes. stops_read prefix bytes piece old new start toks (Html at) reads s
read_cause prefix piece old new start toks (UnknownFunction at) reads s = λ bytes. stops_read prefix bytes piece old new start toks (UnknownFunction at) reads s
read_cause prefix piece old new start toks (NoSuchId at id) reads s = λ bytes. stops_read prefix bytes piece old new start toks (NoSuchId at id) reads s
read_cause prefix piece old new start toks (NotBoundary at) reads s = λ bytes. stops_read prefix bytes piece old new start toks (NotBoundary at) reads s
read_cause prefix piece old new start toks OutOfMemory reads s = tt

met_none : (old : ReaderState) (at : ℕ) (kind : ReadKind) → old.fault ≡ Some (at, kind) → old.fault ≡ None → ⊥
met_none old at kind e f = cc

-- The reader's fault, for a reader that had met none.
meets : (old new : ReaderState) (piece bytes : List ℕ) (before toks : List Token) (at : ℕ) (kind : ReadKind)
    → (((old.fault ≡ None) × MeetsFault old piece toks at kind new) ⊎ MetFault old toks at kind new) → HasRead bytes before old
    → HasFault (bytes ++ piece) (before ++ toks) at kind
meets old new piece bytes before toks at kind cause r =
    ⊎_elim (λ m. m.1.cause bytes before r) (λ m. absurd (met_none old at kind m.fault_is r.sound)) cause

stops_before : (prefix bytes piece : List ℕ) (old : ReaderState) (start : PageState) (toks : List Token) (at : ℕ) (kind : ReadKind) (fault : MachineFault)
    → ((bytes : List ℕ) (before : List Token) → HasRead bytes before old → HasFault (bytes ++ piece) (before ++ toks) at kind)
    → StopsIn prefix start toks fault → Went prefix bytes old start → HasMachineFault prefix at_first (bytes ++ piece) fault
stops_before prefix bytes piece old start toks at kind fault cause s w =
    let h = cause bytes w.toks w.read in
    let all : bytes ++ piece ≡ spellings (w.toks ++ toks) ++ (h.rest ++ drop at (bytes ++ piece)) =
    sym (take-append-drop at (bytes ++ piece)) ∙ ap (λ x. x ++ drop at (bytes ++ piece)) h.split.whole
    ∙ append_assoc (spellings (w.toks ++ toks)) h.rest (drop at (bytes ++ piece)) in
    inl (stops_token prefix (bytes ++ piece) (h.rest ++ drop at (bytes ++ piece)) start w.toks toks fault h.split.tokens all w.steps s)

-- A token before the reader's fault stops the machine.
pub before_cause : (prefix piece : List ℕ) (old new : ReaderState) (start : PageState) (toks : List Token) (at : ℕ) (kind : ReadKind) (fault : MachineFault)
    → (((old.fault ≡ None) × MeetsFault old piece toks at kind new) ⊎ MetFault old toks at kind new)
    → IsTakingCause prefix start toks fault → IsPieceCause prefix old start piece fault
before_cause prefix piece old new start toks at kind (Html n) cause s = λ bytes. stops_before prefix bytes piece old start toks at kind (Html n) (λ b ts r. meets old new piece b ts toks at kind cause r) s
before_cause prefix piece old new start toks at kind (UnknownFunction n) cause s = λ bytes. stops_before prefix bytes piece old start toks at kind (UnknownFunction n) (λ b ts r. meets old new piece b ts toks at kind cause r) s
before_cause prefix piece old new start toks at kind (NoSuchId n id) cause s = λ bytes. stops_before prefix bytes piece old start toks at kind (NoSuchId n id) (λ b ts r. meets old new piece b ts toks at kind cause r) s
before_cause prefix piece old new start toks at kind (NotBoundary n) cause s = λ bytes. stops_before prefix bytes piece old start toks at kind (NotBoundary n) (λ b ts r. meets old new piece b ts toks at kind cause r) s
before_cause prefix piece old new start toks at kind OutOfMemory cause s = tt

-- The reader's fault itself.
pub fault_cause : (prefix piece : List ℕ) (old new : ReaderState) (start end : PageState) (toks : List Token) (at : ℕ) (kind : ReadKind)
    → (((old.fault ≡ None) × MeetsFault old piece toks at kind new) ⊎ MetFault old toks at kind new)
    → Steps prefix start toks end → Finds prefix old start piece (Html at)
fault_cause prefix piece old new start end toks at kind cause steps bytes w =
    inr record {
      before = w.toks ++ toks;
      at = at;
      kind = kind;
      built = end;
      reader = meets old new piece bytes w.toks toks at kind cause w.read;
      steps = steps_append prefix at_first start end w.toks toks w.steps steps;
      is = refl;
    }

-- A machine that has stopped answers again, and was fed nothing that it followed.
pub refused_again : (old new : MachineState) (piece : List ℕ) (fault : MachineFault) → IsStopped new.stop fault → (old.stop ≡ GoesOn → ⊥) → FeedRefusal old piece new fault
refused_again old new piece (Html at) s n = record { stopped = s; cause = λ bytes h. absurd (n h.goes_on) }
refused_again old new piece (UnknownFunction at) s n = record { stopped = s; cause = λ bytes h. absurd (n h.goes_on) }
refused_again old new piece (NoSuchId at id) s n = record { stopped = s; cause = λ bytes h. absurd (n h.goes_on) }
refused_again old new piece (NotBoundary at) s n = record { stopped = s; cause = λ bytes h. absurd (n h.goes_on) }
refused_again old new piece OutOfMemory s n = s
