-- Where a page ends.
use Rattle.std.proofs.Common.{◌≡◌, ◌≢◌, ℕ, ◌+◌, ◌==◌, Bool, true, false, if◌then◌else◌, List, [], ◌∷◌, ◌++◌, length, Some, None, Result, Ok, Err, IfOk, nat_lt, refl, sym, ap, ◌∙◌, subst, arith, true≢false}
use Rattle.std.proofs.Common.{length-append}
use Rattle.std.proofs.lemmas.List.{append-nil, nil_from_length}
use Rattle.std.proofs.lemmas.Bool.{ltb-false}
use Rattle.html_names.specs.Escape.{escape_of, spelling_of}
use Rattle.html_read.specs.declared.token.Token.{Token}
use Rattle.html_read.specs.declared.token.Token.TheVariants as tok
use Rattle.html_read.specs.Tokens.{IsToken, is_text, spelling, spellings}
use Rattle.html_read.specs.Reading.{ReaderState, HasRead, IsOpenText, IsTextSoFar, IsUnfinished}
use Rattle.dom_forest.specs.declared.node.NewNode.TheVariants.{Text}
use Rattle.document_machine.specs.declared.building.OpenElement.{OpenElement}
use Rattle.document_machine.specs.Documents.{Runs, Step, Steps, says}
use Rattle.document_machine.specs.Faults.{EndsEarly, IsEndingAt}
use Rattle.document_machine.specs.Running.{PageState, at_first, with_node}
use Rattle.document_machine.specs.declared.fault.MachineFault.{MachineFault}
use Rattle.document_machine.specs.declared.fault.MachineFault.TheVariants.{Html, UnknownFunction, NoSuchId, NotBoundary, OutOfMemory}
use Rattle.document_machine.specs.declared.view.View.{View as Seen}
use Rattle.document_machine.specs.MachineState.{FinishRefusal, HasRun, MachineState, Sees, SeesWhole}
use Rattle.document_machine.specs.Ready.{GoesWell, IsReady}
use Rattle.document_machine.specs.Shown.{view_of_parts}
use Rattle.document_machine.specs.Views.{view_of}
use Rattle.document_machine.specs.Taking.{IsEndCause, IsTextNow, LeavesRest, RunsToEnd, Went}
use Rattle.document_machine.proofs.Following.{steps_push}

Some≢nil : (x : ℕ) (xs : List ℕ) → x ∷ xs ≢ []
Some≢nil x xs e = cc

some_tok : (t : Token) (ts : List Token) → ◌≢◌ {A = List Token} (t ∷ ts) []
some_tok t ts e = cc

pick : (c : Bool) (xs ys : List ℕ) → xs ≢ [] → ys ≢ [] → (if c then xs else ys) ≢ []
pick true xs ys h k = h
pick false xs ys h k = k

spelled_some : (b : ℕ) → spelling_of b ≢ []
spelled_some b =
    pick (b == 34) _ _ (Some≢nil _ _) (pick (b == 38) _ _ (Some≢nil _ _) (pick (b == 39) _ _ (Some≢nil _ _) (pick (b == 60) _ _ (Some≢nil _ _) (pick (b == 62) _ _ (Some≢nil _ _) (Some≢nil _ _)))))

front_some : (xs ys : List ℕ) → xs ≢ [] → xs ++ ys ≢ []
front_some [] ys h = absurd (h refl)
front_some (x ∷ xs) ys h = Some≢nil x (xs ++ ys)

escaped_some : (text : List ℕ) → text ≢ [] → escape_of text ≢ []
escaped_some [] h = absurd (h refl)
escaped_some (b ∷ text) h = front_some (spelling_of b) (escape_of text) (spelled_some b)

-- A text has bytes.
text_some : (t : Token) → IsToken t → is_text t ≡ true → spelling t ≢ []
text_some (tok.Start name attributes from) is e = absurd (true≢false (sym e))
text_some (tok.End name from) is e = absurd (true≢false (sym e))
text_some (tok.Void name attributes from) is e = absurd (true≢false (sym e))
text_some (tok.Text text from) is e = escaped_some text is.0
text_some (tok.Comment which from) is e = absurd (true≢false (sym e))
text_some (tok.Script body from) is e = absurd (true≢false (sym e))

-- The page ends with its last token, or with an open text.
pub ends_whole : (prefix bytes : List ℕ) (reader : ReaderState) (built : PageState) → reader.rest ≡ [] → Went prefix bytes reader built → RunsToEnd prefix bytes built
ends_whole prefix bytes reader built none w = record {
  run = record {
    toks = w.toks;
    rest = reader.rest;
    last = [];
    split = w.read.split;
    text = λ t is e r. text_some t is e (sym r ∙ none);
    steps = subst (λ ts. Steps prefix at_first ts built) (sym (append-nil w.toks)) w.steps;
  };
  no_rest = λ _. none;
}

pub ends_text : (prefix bytes : List ℕ) (reader : ReaderState) (built end : PageState) (t : Token) → IsOpenText reader t → Step prefix built t end
    → Went prefix bytes reader built → RunsToEnd prefix bytes end
ends_text prefix bytes reader built end t o s w = record {
  run = record {
    toks = w.toks;
    rest = reader.rest;
    last = t ∷ [];
    split = w.read.split;
    text = (o.is_token, o.text, o.spelled);
    steps = steps_push prefix at_first built end w.toks t w.steps s;
  };
  no_rest = λ e. absurd (some_tok t [] e);
}

pub ends_torn : (prefix bytes : List ℕ) (reader : ReaderState) (built : PageState) (at : ℕ) → IsUnfinished reader at → Went prefix bytes reader built
    → LeavesRest prefix bytes at
ends_torn prefix bytes reader built at u w = record {
  built = built;
  run = record {
    toks = w.toks;
    rest = reader.rest;
    last = [];
    split = w.read.split;
    text = λ t is e r. u.no_token t is r;
    steps = subst (λ ts. Steps prefix at_first ts built) (sym (append-nil w.toks)) w.steps;
  };
  no_text = refl;
  some = u.some;
  place = omega (arith, u.place_is, w.read.place_is, ap length w.read.split.whole, length-append (spellings w.toks) reader.rest);
}

-- A rest is where the page ends early.
torn_early : (prefix bytes : List ℕ) (at : ℕ) (built : PageState) (run : Runs prefix at_first bytes built) (rest : List ℕ) (last : List Token)
    → run.rest ≡ rest → run.last ≡ last → last ≡ [] → rest ≢ [] → at + length rest ≡ length bytes → IsEndingAt rest last built.opened (length bytes) at
torn_early prefix bytes at built run [] last r l none some p = absurd (some refl)
torn_early prefix bytes at built run (b ∷ rest) [] r l none some p = p
torn_early prefix bytes at built run (b ∷ rest) (t ∷ last) r l none some p = absurd (some_tok t last none)

pub leaves_early : (prefix bytes : List ℕ) (at : ℕ) → LeavesRest prefix bytes at → EndsEarly prefix at_first bytes at
leaves_early prefix bytes at h = record {
  toks = h.run.toks;
  rest = h.run.rest;
  last = h.run.last;
  built = h.built;
  split = h.run.split;
  text = h.run.text;
  steps = h.run.steps;
  is = torn_early prefix bytes at h.built h.run h.run.rest h.run.last refl refl h.no_text h.some h.place;
}

-- So is the end of the bytes where an element is open.
open_early : (rest : List ℕ) (last : List Token) (opened : List OpenElement) (size at : ℕ) → (last ≡ [] → rest ≡ []) → opened ≢ [] → at ≡ size → IsEndingAt rest last opened size at
open_early [] last opened size at whole some is = (some, is)
open_early (b ∷ rest) [] opened size at whole some is = absurd (Some≢nil b rest (whole refl))
open_early (b ∷ rest) (t ∷ last) opened size at whole some is = (some, is)

pub ends_open : (prefix bytes : List ℕ) (built : PageState) (at : ℕ) → RunsToEnd prefix bytes built → built.opened ≢ [] → at ≡ length bytes
    → EndsEarly prefix at_first bytes at
ends_open prefix bytes built at h some is = record {
  toks = h.run.toks;
  rest = h.run.rest;
  last = h.run.last;
  built = built;
  split = h.run.split;
  text = h.run.text;
  steps = h.run.steps;
  is = open_early h.run.rest h.run.last built.opened (length bytes) at h.no_rest some is;
}

-- How many bytes a reader was fed.
pub fed_length : (bytes : List ℕ) (toks : List Token) (reader : ReaderState) → HasRead bytes toks reader → reader.place + length reader.rest ≡ length bytes
fed_length bytes toks reader r = omega (arith, r.place_is, ap length r.split.whole, length-append (spellings toks) reader.rest)

-- The text so far, at its place.
text_here : (reader : ReaderState) (t : Token) → reader.fault ≡ None → IsToken t → is_text t ≡ true → reader.rest ≡ spelling t → IsTextSoFar reader None → ⊥
text_here reader (tok.Start name attributes from) f is e r n = absurd (true≢false (sym e))
text_here reader (tok.End name from) f is e r n = absurd (true≢false (sym e))
text_here reader (tok.Void name attributes from) f is e r n = absurd (true≢false (sym e))
text_here reader (tok.Text text from) f is e r n =
    n (tok.Text text reader.place) (record { sound = f; text = refl; is_token = is; place_is = refl; spelled = r })
text_here reader (tok.Comment which from) f is e r n = absurd (true≢false (sym e))
text_here reader (tok.Script body from) f is e r n = absurd (true≢false (sym e))

pub run_so_far : (prefix bytes : List ℕ) (reader : ReaderState) (built : PageState) → IsTextSoFar reader None → Went prefix bytes reader built → Runs prefix at_first bytes built
run_so_far prefix bytes reader built none w = record {
  toks = w.toks;
  rest = reader.rest;
  last = [];
  split = w.read.split;
  text = λ t is e r. text_here reader t w.read.sound is e r none;
  steps = subst (λ ts. Steps prefix at_first ts built) (sym (append-nil w.toks)) w.steps;
}

pub run_with_text : (prefix bytes : List ℕ) (reader : ReaderState) (built : PageState) (text : List ℕ) (from : ℕ) → IsOpenText reader (tok.Text text from)
    → Went prefix bytes reader built → Runs prefix at_first bytes (with_node (Text text) built)
run_with_text prefix bytes reader built text from o w =
    (ends_text prefix bytes reader built (with_node (Text text) built) (tok.Text text from) o (says built text from) w).run

-- An open text is a text.
pub no_other_text : (reader : ReaderState) (t : Token) → is_text t ≡ false → IsOpenText reader t → ⊥
no_other_text reader t e o = true≢false (sym o.text ∙ e)

went : (bytes : List ℕ) (m : MachineState) → HasRun bytes m → Went m.prefix bytes m.reader m.built
went bytes m h = record { toks = h.toks; read = h.read; steps = h.steps }

pub if_ok : {A E : Type 0} (result : Result A E) (P Q : A → Type 0) → ((v : A) → P v → Q v) → IfOk result P → IfOk result Q
if_ok (Ok v) P Q f p = f v p
if_ok (Err e) P Q f p = tt

-- A machine that goes on, as it is seen from outside.

pub sees : (inside self : MachineState) (view : Seen) → inside ≡ self → IsTextNow inside.reader None → view_of_parts view.parts ≡ view_of inside.prefix inside.built.dom.forest
    → (bytes : List ℕ) → HasRun bytes self → Sees self bytes view
sees inside self view e none v bytes h =
    let k = subst (HasRun bytes) (sym e) h in
    subst (λ m. Sees m bytes view) e (record { built = inside.built; run = run_so_far inside.prefix bytes inside.reader inside.built none (went bytes inside k); is = v })

pub sees_text : (inside self : MachineState) (view : Seen) (text : List ℕ) → inside ≡ self → IsTextNow inside.reader (Some text)
    → view_of_parts view.parts ≡ view_of inside.prefix (with_node (Text text) inside.built).dom.forest → (bytes : List ℕ) → HasRun bytes self → Sees self bytes view
sees_text inside self view text e o v bytes h =
    let k = subst (HasRun bytes) (sym e) h in
    subst (λ m. Sees m bytes view) e
    (record { built = with_node (Text text) inside.built; run = run_with_text inside.prefix bytes inside.reader inside.built text o.0 o.1 (went bytes inside k); is = v })

end_cause : (m : MachineState) (bytes : List ℕ) (fault : MachineFault) → IsEndCause m.prefix bytes fault → FinishRefusal m bytes fault
end_cause m bytes (Html at) h = leaves_early m.prefix bytes at h
end_cause m bytes (UnknownFunction at) h = h
end_cause m bytes (NoSuchId at id) h = h
end_cause m bytes (NotBoundary at) h = h
end_cause m bytes OutOfMemory h = tt

pub end_refusal : (inside self : MachineState) (fault : MachineFault) → inside ≡ self
    → ((bytes : List ℕ) → Went inside.prefix bytes inside.reader inside.built → IsEndCause inside.prefix bytes fault)
    → (bytes : List ℕ) → HasRun bytes self → FinishRefusal self bytes fault
end_refusal inside self fault e cause bytes h =
    let k = subst (HasRun bytes) (sym e) h in
    subst (λ m. FinishRefusal m bytes fault) e (end_cause inside bytes fault (cause bytes (went bytes inside k)))

ready_length : (m : MachineState) (size : ℕ) (bytes : List ℕ) → IsReady m.reader size m.built m.stop → HasRun bytes m → size ≡ length bytes
ready_length m size bytes r h =
    let g : GoesWell m.reader size m.built = subst (IsReady m.reader size m.built) h.goes_on r in
    g.counts ∙ fed_length bytes h.toks m.reader h.read

has_open : (opened : List OpenElement) → nat_lt 0 (length opened) ≡ true → opened ≢ []
has_open opened h e = true≢false (sym h ∙ ap (λ (os : List OpenElement). nat_lt 0 (length os)) e)

has_none : (opened : List OpenElement) → nat_lt 0 (length opened) ≡ false → opened ≡ []
has_none opened h = nil_from_length opened (omega (arith, ltb-false 0 (length opened) h))

pub open_refusal : (inside self : MachineState) (size : ℕ) (new : PageState) → inside ≡ self → IsReady inside.reader size inside.built inside.stop
    → ((bytes : List ℕ) → Went inside.prefix bytes inside.reader inside.built → RunsToEnd inside.prefix bytes new) → nat_lt 0 (length new.opened) ≡ true
    → (bytes : List ℕ) → HasRun bytes self → EndsEarly self.prefix at_first bytes size
open_refusal inside self size new e ready ended some bytes h =
    let k = subst (HasRun bytes) (sym e) h in
    subst (λ m. EndsEarly m.prefix at_first bytes size) e
    (ends_open inside.prefix bytes new size (ended bytes (went bytes inside k)) (has_open new.opened some) (ready_length inside size bytes ready k))

pub sees_whole : (inside self : MachineState) (new : PageState) (view : Seen) → inside ≡ self
    → ((bytes : List ℕ) → Went inside.prefix bytes inside.reader inside.built → RunsToEnd inside.prefix bytes new) → nat_lt 0 (length new.opened) ≡ false
    → view_of_parts view.parts ≡ view_of inside.prefix new.dom.forest → (bytes : List ℕ) → HasRun bytes self → SeesWhole self bytes view
sees_whole inside self new view e ended none v bytes h =
    let k = subst (HasRun bytes) (sym e) h in
    let r = ended bytes (went bytes inside k) in
    subst (λ m. SeesWhole m bytes view) e
    (record { built = new; run = record { run = r.run; no_rest = r.no_rest; closed = has_none new.opened none }; is = v })
