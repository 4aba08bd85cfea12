-- What `show` makes of a page: its pieces are the page, and what stops it is what the page is refused for.
use Rattle.std.proofs.Common.{◌≡◌, ◌≢◌, ℕ, ◌+◌, ◌==◌, false, if◌then◌else◌, List, [], ◌++◌, length, take, Some, None, Err, refl, sym, ◌∙◌, ap, subst, inl, inr, arith, append_assoc, append-nil, length-append, drop}
use Rattle.std.proofs.lemmas.List.{take-append-drop, take-append-le, get_or_append_left}
use Rattle.std.proofs.lemmas.Bool.Decides.{nat_tests}
use Rattle.html_read.specs.declared.fault.ReadKind.{ReadKind}
use Rattle.html_read.specs.Faults.{HasFault, HasKind, IsAlive, Splits}
use Rattle.html_read.specs.Tokens.{spelling, spellings}
use Rattle.dom_forest.specs.Printing.{printed_nodes}
use Rattle.dom_forest.specs.declared.document.DocNode.{DocNode}
use Rattle.document_machine.specs.Running.{PageState, at_first}
use Rattle.document_machine.specs.Documents.{Runs, RunsWhole}
use Rattle.document_machine.specs.Faults.{EndsEarly, HasMachineFault}
use Rattle.document_machine.specs.MachineState.{FeedRefusal, FinishRefusal, HasRun, MachineState, SeesWhole, Stops, bytes_fed, nothing_run}
use Rattle.document_machine.specs.Settled.{is_pending, nodes_of, number_of, settled_of}
use Rattle.document_machine.specs.Shown.{view_of_parts}
use Rattle.document_machine.specs.Views.{View, view_of}
use Rattle.document_machine.specs.declared.fault.MachineFault.{MachineFault}
use Rattle.document_machine.specs.declared.fault.MachineFault.TheVariants as fault
use Rattle.document_machine.specs.declared.view.View.{View as Seen}
use Rattle.page_laws.specs.PrintedDocuments.{IsDocument}
use Rattle.fizz_cli.specs.PageFiles.{RefusesPageBytes, ShowsDocument, StaysPending}
use Rattle.fizz_cli.specs.Feeding.{IsFedCause, IsPendingView, fault_of}
use Rattle.fizz_cli.specs.Steps.{AcceptsOrRefuses}
use Rattle.fizz_cli.specs.declared.stop.OrMemory.{OrMemory}
use Rattle.fizz_cli.specs.declared.refusal.PageFault.{PageFault}
use Rattle.fizz_cli.specs.declared.refusal.PageFault.TheVariants.{Html, UnknownFunction, NoSuchId, NotBoundary, StillPending}

-- a fault of a front is one of the bytes

fault_before : (bytes more : List ℕ) (at : ℕ) (toks : _) (kind : ReadKind) → HasFault bytes toks at kind → HasFault (bytes ++ more) toks at kind
fault_before bytes more at toks kind f =
    let here : take at (bytes ++ more) ≡ take at bytes = take-append-le at bytes more (omega (arith, f.first.within)) in
    let next : take (at + 1) (bytes ++ more) ≡ take (at + 1) bytes = take-append-le (at + 1) bytes more (omega (arith, f.first.within)) in
    record {
      rest = f.rest;
      first = record {
        within = omega (arith, f.first.within, length-append bytes more);
        alive = subst IsAlive (sym here) f.first.alive;
        dead = λ alive. f.first.dead (subst IsAlive next alive);
      };
      split = subst (λ (bs : List ℕ). Splits bs toks f.rest) (sym here) f.split;
      kind_is = subst (λ (b : ℕ). HasKind f.rest b kind) (sym (get_or_append_left bytes more 0 at f.first.within)) f.kind_is;
    }

pub fault_goes_on : (prefix : List ℕ) (start : PageState) (bytes more : List ℕ) (met : MachineFault) → HasMachineFault prefix start bytes met → HasMachineFault prefix start (bytes ++ more) met
fault_goes_on prefix start bytes more met (inl t) = inl (record {
  before = t.before;
  stop = t.stop;
  more = t.more ++ more;
  built = t.built;
  tokens = t.tokens;
  are = ap (λ bs. bs ++ more) t.are ∙ joined (spellings t.before) (spelling t.stop) t.more;
  steps = t.steps;
  refuses = t.refuses;
})
  where
    joined : (a b c : List ℕ) → (a ++ b ++ c) ++ more ≡ a ++ b ++ (c ++ more)
    joined a b c = simp append_assoc
fault_goes_on prefix start bytes more met (inr b) = inr (record {
  before = b.before;
  at = b.at;
  kind = b.kind;
  built = b.built;
  reader = fault_before bytes more b.at b.before b.kind b.reader;
  steps = b.steps;
  is = b.is;
})

-- What is known in the loop over pieces: what was fed is the front, and the machine has run it.
pub record Feeding (old : MachineState) (bytes : List ℕ) (machine : MachineState) (rest : List ℕ) : Type 0 where
  pub front : List ℕ
  pub split : bytes ≡ front ++ rest
  pub kept : machine.prefix ≡ old.prefix
  pub ran : HasRun [] old → HasRun front machine
  pub room : bytes_fed machine + length rest ≡ bytes_fed old + length bytes

pub parted : (rest piece more : List ℕ) (n : ℕ) → piece ≡ take n rest → more ≡ drop n rest → rest ≡ piece ++ more
parted rest piece more n front back = rw (front, back) (sym (take-append-drop n rest))

pub feeding_begins : (old : MachineState) (bytes : List ℕ) → Feeding old bytes old bytes
feeding_begins old bytes = record { front = []; split = refl; kept = refl; ran = λ r. r; room = refl }

pub feeds_on : (old : MachineState) (bytes : List ℕ) (machine new : MachineState) (rest piece more : List ℕ) → Feeding old bytes machine rest → rest ≡ piece ++ more →
    ((front : List ℕ) → HasRun front machine → HasRun (front ++ piece) new) → bytes_fed new ≡ bytes_fed machine + length piece → new.prefix ≡ machine.prefix →
    Feeding old bytes new more
feeds_on old bytes machine new rest piece more f parts ran counted kept =
    let sizes : length rest ≡ length piece + length more = ap length parts ∙ length-append piece more in
    record {
      front = f.front ++ piece;
      split = f.split ∙ ap (λ bs. f.front ++ bs) parts ∙ sym (append_assoc f.front piece more);
      kept = kept ∙ f.kept;
      ran = λ r. ran f.front (f.ran r);
      room = omega (arith, f.room, counted, sizes);
    }

pub feeding_ends : (old : MachineState) (bytes : List ℕ) (machine : MachineState) (rest : List ℕ) → Feeding old bytes machine rest → rest ≡ [] → HasRun [] old → HasRun bytes machine
feeding_ends old bytes machine rest f none r =
    subst (λ (bs : List ℕ). HasRun bs machine) (sym (f.split ∙ ap (λ bs. f.front ++ bs) none ∙ append-nil f.front)) (f.ran r)

stops_cause : (old : MachineState) (bytes : List ℕ) (machine new : MachineState) (rest piece more : List ℕ) (met : MachineFault) → Feeding old bytes machine rest → rest ≡ piece ++ more →
    Stops machine piece new met → HasRun [] old → HasMachineFault old.prefix at_first bytes met
stops_cause old bytes machine new rest piece more met f parts s r =
    subst (λ (p : List ℕ). HasMachineFault p at_first bytes met) f.kept
    (subst (λ (bs : List ℕ). HasMachineFault machine.prefix at_first bs met)
    (append_assoc f.front piece more ∙ sym (f.split ∙ ap (λ bs. f.front ++ bs) parts))
    (fault_goes_on machine.prefix at_first (f.front ++ piece) more met (s.cause f.front (f.ran r))))

-- what a piece is refused for, the bytes are refused for
pub feeding_stops : (old : MachineState) (bytes : List ℕ) (machine new : MachineState) (rest piece more : List ℕ) (met : MachineFault) → Feeding old bytes machine rest → rest ≡ piece ++ more →
    FeedRefusal machine piece new met → HasRun [] old → IsFedCause old.prefix bytes met
feeding_stops old bytes machine new rest piece more (fault.Html at) f parts s r = stops_cause old bytes machine new rest piece more (fault.Html at) f parts s r
feeding_stops old bytes machine new rest piece more (fault.UnknownFunction at) f parts s r = stops_cause old bytes machine new rest piece more (fault.UnknownFunction at) f parts s r
feeding_stops old bytes machine new rest piece more (fault.NoSuchId at id) f parts s r = stops_cause old bytes machine new rest piece more (fault.NoSuchId at id) f parts s r
feeding_stops old bytes machine new rest piece more (fault.NotBoundary at) f parts s r = stops_cause old bytes machine new rest piece more (fault.NotBoundary at) f parts s r
feeding_stops old bytes machine new rest piece more fault.OutOfMemory f parts s r = tt

-- what stops the machine, the page is refused for

pub fed_stops : {A : Type 0} (accepts : A → Type 0) (prefix bytes : List ℕ) (met : MachineFault) (stop : OrMemory PageFault) → stop ≡ fault_of met → IsFedCause prefix bytes met →
    AcceptsOrRefuses accepts (RefusesPageBytes prefix bytes) (Err stop)
fed_stops accepts prefix bytes met stop is cause = subst (λ (s : OrMemory PageFault). AcceptsOrRefuses accepts (RefusesPageBytes prefix bytes) (Err s)) (sym is) (by_cases met cause)
  where
    by_cases : (met : MachineFault) → IsFedCause prefix bytes met → AcceptsOrRefuses accepts (RefusesPageBytes prefix bytes) (Err (fault_of met))
    by_cases (fault.Html at) cause = inl cause
    by_cases (fault.UnknownFunction at) cause = cause
    by_cases (fault.NoSuchId at id) cause = cause
    by_cases (fault.NotBoundary at) cause = cause
    by_cases fault.OutOfMemory cause = tt

pub finish_stops : {A : Type 0} (accepts : A → Type 0) (machine : MachineState) (prefix bytes : List ℕ) (met : MachineFault) (stop : OrMemory PageFault) → stop ≡ fault_of met → machine.prefix ≡ prefix →
    FinishRefusal machine bytes met → AcceptsOrRefuses accepts (RefusesPageBytes prefix bytes) (Err stop)
finish_stops accepts machine prefix bytes met stop is kept cause =
    subst (λ (s : OrMemory PageFault). AcceptsOrRefuses accepts (RefusesPageBytes prefix bytes) (Err s)) (sym is)
    (subst (λ (p : List ℕ). AcceptsOrRefuses accepts (RefusesPageBytes p bytes) (Err (fault_of met))) kept (by_cases met cause))
  where
    by_cases : (met : MachineFault) → FinishRefusal machine bytes met → AcceptsOrRefuses accepts (RefusesPageBytes machine.prefix bytes) (Err (fault_of met))
    by_cases (fault.Html at) cause = inr cause
    by_cases (fault.UnknownFunction at) cause = absurd cause
    by_cases (fault.NoSuchId at id) cause = absurd cause
    by_cases (fault.NotBoundary at) cause = absurd cause
    by_cases fault.OutOfMemory cause = tt

pub seen_whole : (machine : MachineState) (prefix bytes : List ℕ) (view : Seen) → machine.prefix ≡ prefix → SeesWhole machine bytes view → SeesWhole (nothing_run prefix) bytes view
seen_whole machine prefix bytes view kept s = record {
  built = s.built;
  run = subst (λ (p : List ℕ). RunsWhole p at_first bytes s.built) kept s.run;
  is = s.is ∙ ap (λ (p : List ℕ). view_of p s.built.dom.forest) kept;
}

-- the settled document of the view is that of the page
pub shows : (prefix bytes : List ℕ) (view : Seen) (nodes : List DocNode) (out : List ℕ) → SeesWhole (nothing_run prefix) bytes view → settled_of (view_of_parts view.parts) ≡ Some nodes →
    out ≡ printed_nodes nodes → ShowsDocument prefix bytes out
shows prefix bytes view nodes out s settled printed =
    (nodes, record { built = s.built; run = s.run; settled = ap settled_of (sym s.is) ∙ settled }, printed)

-- what is pending in the view is pending in the page
pub pending_page : (prefix bytes : List ℕ) (view : Seen) (found : PageFault) → SeesWhole (nothing_run prefix) bytes view → IsPendingView (view_of_parts view.parts) found →
    RefusesPageBytes prefix bytes found
pending_page prefix bytes view found s p =
    let q : IsPendingView (view_of prefix s.built.dom.forest) found = subst (λ (v : View). IsPendingView v found) s.is p in
    subst (λ (f : PageFault). RefusesPageBytes prefix bytes f) (sym q.1) (record { built = s.built; whole = s.run; some = q.2; counts = q.3 })

-- a page that has a settled document is not refused

pub record MachineLaws (prefix : List ℕ) : Type 0 where
  pub one : (a b : PageState) (bytes : List ℕ) → Runs prefix at_first bytes a → Runs prefix at_first bytes b → a ≡ b
  pub sound : (end : PageState) (bytes : List ℕ) → Runs prefix at_first bytes end → (met : MachineFault) → HasMachineFault prefix at_first bytes met → ⊥
  pub whole : (end : PageState) (bytes : List ℕ) (at : ℕ) → RunsWhole prefix at_first bytes end → EndsEarly prefix at_first bytes at → ⊥

no_value : {A : Type 0} (a : A) → None ≡ Some a → ⊥
no_value a h = cc

some_pending : (n : ℕ) → n ≢ 0 → (n == 0) ≡ false
some_pending n some = grind (arith, nat_tests)

unsettled : (n : ℕ) (a b : List DocNode) → n ≢ 0 → (if n == 0 then Some a else None) ≡ Some b → ⊥
unsettled n a b some h =
    let none : None ≡ Some b = rw (some_pending n some) at h in
    no_value b none

not_pending : (prefix : List ℕ) → MachineLaws prefix → (bytes : List ℕ) (nodes : List DocNode) (count : ℕ) → IsDocument prefix bytes nodes → StaysPending prefix bytes count → ⊥
not_pending prefix laws bytes nodes count d p =
    let same : p.built ≡ d.built = laws.one p.built d.built bytes p.whole.run d.run.run in
    unsettled (number_of is_pending (view_of prefix d.built.dom.forest)) (nodes_of (view_of prefix d.built.dom.forest)) nodes
    (subst (λ (b : PageState). number_of is_pending (view_of prefix b.dom.forest) ≢ 0) same p.some) d.settled

pub shown_sound : (prefix : List ℕ) → MachineLaws prefix → (bytes out : List ℕ) (refusal : PageFault) → ShowsDocument prefix bytes out → RefusesPageBytes prefix bytes refusal → ⊥
shown_sound prefix laws bytes out (Html at) s (inl f) = laws.sound s.1.built bytes s.1.run.run (fault.Html at) f
shown_sound prefix laws bytes out (Html at) s (inr e) = laws.whole s.1.built bytes at s.1.run e
shown_sound prefix laws bytes out (UnknownFunction at) s f = laws.sound s.1.built bytes s.1.run.run (fault.UnknownFunction at) f
shown_sound prefix laws bytes out (NoSuchId at id) s f = laws.sound s.1.built bytes s.1.run.run (fault.NoSuchId at id) f
shown_sound prefix laws bytes out (NotBoundary at) s f = laws.sound s.1.built bytes s.1.run.run (fault.NotBoundary at) f
shown_sound prefix laws bytes out (StillPending count) s p = not_pending prefix laws bytes s.0 count s.1 p
