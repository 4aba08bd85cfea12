-- Facts about refusals: what is accepted is not refused, and files are refused for one thing at most.
use Rattle.std.proofs.Common.{◌≡◌, ℕ, ◌<◌, ◌≤◌, ◌⊎◌, List, length, Option, Result, Ok, Err, refl, sym, ◌∙◌, ap, subst, inl, inr, arith}
use Rattle.std.proofs.lemmas.Bool.{cases_lt}
use Rattle.std.proofs.lemmas.List.{take_all}
use Rattle.std.specs.Str.{IsUtf8, IsValidUpTo}
use Rattle.fizz_outside.specs.FileContents.{Contents}
use Rattle.document_machine.specs.Running.{PageState, at_first}
use Rattle.document_machine.specs.Documents.{Runs}
use Rattle.document_machine.specs.Faults.{EndsEarly, HasMachineFault}
use Rattle.document_machine.specs.Settled.{bounded_count, is_pending}
use Rattle.document_machine.specs.Views.{view_of}
use Rattle.document_machine.specs.declared.fault.MachineFault.{MachineFault}
use Rattle.document_machine.specs.declared.fault.MachineFault.TheVariants as fault
use Rattle.fizz_cli.specs.PageFiles.{RefusesPage, RefusesPageBytes, ShowsFile, StaysPending, most_page_bytes}
use Rattle.fizz_cli.specs.ProgramFiles.{RefusesProgramBytes, most_program_bytes}
use Rattle.settle_script.specs.Scripts.{IsScript, script_of}
use Rattle.settle_script.specs.declared.event.Event.{Event}
use Rattle.settle_script.specs.declared.fault.ScriptFault as settle
use Rattle.settle_script.specs.declared.fault.ScriptFault.TheVariants as settled
use Rattle.serde_json.specs.Read.{read}
use Rattle.fizz_cli.specs.ScriptFiles.{AcceptsScript, RefusesScript, RefusesScriptBytes, most_script_bytes}
use Rattle.fizz_cli.specs.Serving.{Refuses}
use Rattle.fizz_cli.specs.Sources.{RefusesSources}
use Rattle.fizz_words.specs.declared.command.Command.{Command}
use Rattle.fizz_words.specs.declared.command.Command.TheVariants.{Render, Show, Tree, Gen}
use Rattle.fizz_cli.specs.declared.refusal.FileFault.TheVariants.{Program, Script, Page}
use Rattle.fizz_cli.specs.declared.refusal.PageFault.{PageFault}
use Rattle.fizz_cli.specs.declared.refusal.PageFault.TheVariants.{Html, UnknownFunction, NoSuchId, NotBoundary, StillPending}
use Rattle.fizz_cli.specs.declared.refusal.Refusal.{Refusal}
use Rattle.fizz_cli.specs.declared.refusal.ScriptFault.{ScriptFault}
use Rattle.fizz_cli.specs.declared.refusal.ScriptFault.TheVariants as script
use Rattle.fizz_cli.proofs.Pages.{MachineLaws, shown_sound}
use Rattle.fizz_cli.proofs.StepsLemmas.{file_excludes, one_file_refusal, refuses_quiet, same_bytes as same_contents}

-- UTF-8

pub not_cut : (bytes : List ℕ) (valid : ℕ) → IsUtf8 bytes → IsValidUpTo bytes valid → ⊥
not_cut bytes valid utf8 cut =
    cut.longest (length bytes) cut.short (subst IsUtf8 (sym (take_all (length bytes) bytes (omega arith))) utf8)

pub same_valid : (bytes : List ℕ) (m n : ℕ) → IsValidUpTo bytes m → IsValidUpTo bytes n → m ≡ n
same_valid bytes m n p q = by_order (cases_lt m n) (cases_lt n m)
  where
    by_order : (m < n) ⊎ (n ≤ m) → (n < m) ⊎ (m ≤ n) → m ≡ n
    by_order (inl less) more = absurd (p.longest n less q.front)
    by_order (inr le) (inl more) = absurd (q.longest m more p.front)
    by_order (inr le) (inr ge) = omega (arith, le, ge)

-- scripts

apart_results : {A E : Type 0} (r : Result A E) (a : A) (e : E) → r ≡ Ok a → r ≡ Err e → ⊥
apart_results r a e p q = cc

same_results : {A E : Type 0} (r : Result A E) (a b : A) → r ≡ Ok a → r ≡ Ok b → a ≡ b
same_results r a b p q = cc

same_errors : {A E : Type 0} (r : Result A E) (a b : E) → r ≡ Err a → r ≡ Err b → a ≡ b
same_errors r a b p q = cc

-- what the reader of scripts calls a fault
abbrev found_as : ScriptFault → settle.ScriptFault
found_as script.NotJson = settled.NotJson
found_as (script.TooManyEvents count) = settled.TooManyEvents count
found_as (script.NotEvent index) = settled.NotEvent index
found_as (script.DigestTooLong index size) = settled.DigestTooLong index size
found_as (script.BadValue index) = settled.BadValue index
found_as (script.SettledTwice index first) = settled.SettledTwice index first

abbrev back : settle.ScriptFault → ScriptFault
back settled.NotJson = script.NotJson
back (settled.TooManyEvents count) = script.TooManyEvents count
back (settled.NotEvent index) = script.NotEvent index
back (settled.DigestTooLong index size) = script.DigestTooLong index size
back (settled.BadValue index) = script.BadValue index
back (settled.SettledTwice index first) = script.SettledTwice index first
back settled.OutOfMemory = script.NotJson

back-found_as : (f : ScriptFault) → back (found_as f) ≡ f
back-found_as script.NotJson = refl
back-found_as (script.TooManyEvents count) = refl
back-found_as (script.NotEvent index) = refl
back-found_as (script.DigestTooLong index size) = refl
back-found_as (script.BadValue index) = refl
back-found_as (script.SettledTwice index first) = refl

record ScriptCause (bytes : List ℕ) (f : ScriptFault) : Type 0 where
  pub given : IsUtf8 bytes → script_of (read bytes) ≡ Err (found_as f)
  pub known : (f ≡ script.NotJson) ⊎ IsUtf8 bytes

script_cause : (bytes : List ℕ) (f : ScriptFault) → RefusesScriptBytes bytes f → ScriptCause bytes f
script_cause bytes script.NotJson r = record { given = r; known = inl refl }
script_cause bytes (script.TooManyEvents count) r = record { given = λ utf8. r.1; known = inr r.0 }
script_cause bytes (script.NotEvent index) r = record { given = λ utf8. r.1; known = inr r.0 }
script_cause bytes (script.DigestTooLong index size) r = record { given = λ utf8. r.1; known = inr r.0 }
script_cause bytes (script.BadValue index) r = record { given = λ utf8. r.1; known = inr r.0 }
script_cause bytes (script.SettledTwice index first) r = record { given = λ utf8. r.1; known = inr r.0 }

script_sound : (bytes : List ℕ) (lines : List Event) (f : ScriptFault) → IsScript bytes lines → RefusesScriptBytes bytes f → ⊥
script_sound bytes lines f s r = apart_results _ lines (found_as f) s.lines ((script_cause bytes f r).given s.text)

pub script_excludes : (name : List ℕ) (file : Option (List ℕ)) (lines : List Event) (refusal : Refusal) → AcceptsScript file lines →
    RefusesScript ⊥ name file refusal → ⊥
script_excludes name file lines refusal a r =
    file_excludes Script RefusesScriptBytes most_script_bytes name file a.bytes refusal a.is_file
    (λ f. script_sound a.bytes lines f a.is_script) r

one_script_fault : (bytes : List ℕ) (a b : ScriptFault) → RefusesScriptBytes bytes a → RefusesScriptBytes bytes b → a ≡ b
one_script_fault bytes a b p q = by_known (script_cause bytes a p) (script_cause bytes b q) (script_cause bytes a p).known (script_cause bytes b q).known
  where
    told : ScriptCause bytes a → ScriptCause bytes b → IsUtf8 bytes → a ≡ b
    told c d utf8 = sym (back-found_as a) ∙ (ap back (same_errors _ (found_as a) (found_as b) (c.given utf8) (d.given utf8)) ∙ back-found_as b)

    by_known : ScriptCause bytes a → ScriptCause bytes b → (a ≡ script.NotJson) ⊎ IsUtf8 bytes → (b ≡ script.NotJson) ⊎ IsUtf8 bytes → a ≡ b
    by_known c d (inl x) (inl y) = x ∙ sym y
    by_known c d (inl x) (inr utf8) = told c d utf8
    by_known c d (inr utf8) more = told c d utf8

-- a script has one list of lines
pub one_lines : (file : Option (List ℕ)) (a b : List Event) → AcceptsScript file a → AcceptsScript file b → a ≡ b
one_lines file a b p q =
    let same : q.bytes ≡ p.bytes = same_contents file q.bytes p.bytes q.is_file.found p.is_file.found in
    same_results _ a b p.is_script.lines (ap (λ (bs : List ℕ). script_of (read bs)) (sym same) ∙ q.is_script.lines)

pub one_script : (name : List ℕ) (file : Option (List ℕ)) (a b : Refusal) → RefusesScript ⊥ name file a → RefusesScript ⊥ name file b → a ≡ b
one_script name file a b p q = one_file_refusal Script RefusesScriptBytes most_script_bytes name file a b one_script_fault p q

-- page files

pub page_excludes : (prefix : List ℕ) → MachineLaws prefix → (name : List ℕ) (file : Option (List ℕ)) (out : List ℕ) (refusal : Refusal) →
    ShowsFile prefix file out → RefusesPage prefix ⊥ name file refusal → ⊥
page_excludes prefix laws name file out refusal s r =
    file_excludes Page (RefusesPageBytes prefix) most_page_bytes name file s.bytes refusal s.is_file
    (λ f. shown_sound prefix laws s.bytes out f s.shows) r

-- what a fault of the machine is as a page's
abbrev fault_as : MachineFault → Option PageFault
fault_as (fault.Html at) = Option.Some (Html at)
fault_as (fault.UnknownFunction at) = Option.Some (UnknownFunction at)
fault_as (fault.NoSuchId at id) = Option.Some (NoSuchId at id)
fault_as (fault.NotBoundary at) = Option.Some (NotBoundary at)
fault_as fault.OutOfMemory = Option.None

data PageCause (prefix bytes : List ℕ) (f : PageFault) : Type 0 where
  faults : (met : MachineFault) → fault_as met ≡ Option.Some f → HasMachineFault prefix at_first bytes met → PageCause prefix bytes f
  ends : (at : ℕ) → f ≡ Html at → EndsEarly prefix at_first bytes at → PageCause prefix bytes f
  waits : (count : ℕ) → f ≡ StillPending count → StaysPending prefix bytes count → PageCause prefix bytes f

page_cause : (prefix bytes : List ℕ) (f : PageFault) → RefusesPageBytes prefix bytes f → PageCause prefix bytes f
page_cause prefix bytes (Html at) (inl f) = faults (fault.Html at) refl f
page_cause prefix bytes (Html at) (inr e) = ends at refl e
page_cause prefix bytes (UnknownFunction at) f = faults (fault.UnknownFunction at) refl f
page_cause prefix bytes (NoSuchId at id) f = faults (fault.NoSuchId at id) refl f
page_cause prefix bytes (NotBoundary at) f = faults (fault.NotBoundary at) refl f
page_cause prefix bytes (StillPending count) p = waits count refl p

-- bytes that end early run
ends_run : (prefix bytes : List ℕ) (at : ℕ) (e : EndsEarly prefix at_first bytes at) → Runs prefix at_first bytes e.built
ends_run prefix bytes at e = record { toks = e.toks; rest = e.rest; last = e.last; split = e.split; text = e.text; steps = e.steps }

same_count : (prefix : List ℕ) → MachineLaws prefix → (bytes : List ℕ) (m n : ℕ) → StaysPending prefix bytes m → StaysPending prefix bytes n → m ≡ n
same_count prefix laws bytes m n p q =
    p.counts ∙ ap (λ (b : PageState). bounded_count is_pending (view_of prefix b.dom.forest)) (laws.one p.built q.built bytes p.whole.run q.whole.run) ∙ sym q.counts

same_fault : (x y : Option PageFault) (a b : PageFault) → x ≡ y → x ≡ Option.Some a → y ≡ Option.Some b → a ≡ b
same_fault x y a b e p q = cc

pub record FaultLaws (prefix : List ℕ) : Type 0 where
  pub one_fault : (bytes : List ℕ) (f g : MachineFault) → HasMachineFault prefix at_first bytes f → HasMachineFault prefix at_first bytes g → f ≡ g
  pub one_end : (bytes : List ℕ) (m n : ℕ) → EndsEarly prefix at_first bytes m → EndsEarly prefix at_first bytes n → m ≡ n

one_cause : (prefix : List ℕ) → MachineLaws prefix → FaultLaws prefix → (bytes : List ℕ) (a b : PageFault) → PageCause prefix bytes a → PageCause prefix bytes b → a ≡ b
one_cause prefix laws ones bytes a b (faults f x p) (faults g y q) = same_fault _ _ a b (ap fault_as (ones.one_fault bytes f g p q)) x y
one_cause prefix laws ones bytes a b (faults f x p) (ends n y q) = absurd (laws.sound q.built bytes (ends_run prefix bytes n q) f p)
one_cause prefix laws ones bytes a b (faults f x p) (waits n y q) = absurd (laws.sound q.built bytes q.whole.run f p)
one_cause prefix laws ones bytes a b (ends m x p) (faults g y q) = absurd (laws.sound p.built bytes (ends_run prefix bytes m p) g q)
one_cause prefix laws ones bytes a b (ends m x p) (ends n y q) = x ∙ ap Html (ones.one_end bytes m n p q) ∙ sym y
one_cause prefix laws ones bytes a b (ends m x p) (waits n y q) = absurd (laws.whole q.built bytes m q.whole p)
one_cause prefix laws ones bytes a b (waits m x p) (faults g y q) = absurd (laws.sound p.built bytes p.whole.run g q)
one_cause prefix laws ones bytes a b (waits m x p) (ends n y q) = absurd (laws.whole p.built bytes n p.whole q)
one_cause prefix laws ones bytes a b (waits m x p) (waits n y q) = x ∙ ap StillPending (same_count prefix laws bytes m n p q) ∙ sym y

pub one_page_refusal : (prefix : List ℕ) → MachineLaws prefix → FaultLaws prefix → (name : List ℕ) (file : Option (List ℕ)) (a b : Refusal) →
    RefusesPage prefix ⊥ name file a → RefusesPage prefix ⊥ name file b → a ≡ b
one_page_refusal prefix laws ones name file a b p q =
    one_file_refusal Page (RefusesPageBytes prefix) most_page_bytes name file a b
    (λ bytes f g r s. one_cause prefix laws ones bytes f g (page_cause prefix bytes f r) (page_cause prefix bytes g s)) p q

-- commands

-- where the files counted no fault, what they hold is the cause
sources_at_rest : (at : Contents) (app script_name : List ℕ) (faulted : Type 0) (refusal : Refusal) → (faulted → ⊥) →
    RefusesSources at app script_name faulted refusal → RefusesSources at app script_name ⊥ refusal
sources_at_rest at app script_name faulted refusal quiet (inl r) =
    inl (refuses_quiet Program RefusesProgramBytes faulted most_program_bytes app (at app) refusal quiet r)
sources_at_rest at app script_name faulted refusal quiet (inr (program, a, r)) =
    inr (program, a, refuses_quiet Script RefusesScriptBytes faulted most_script_bytes script_name (at script_name) refusal quiet r)

pub refuses_at_rest : (at : Contents) (command : Command) (faulted : Type 0) (refusal : Refusal) → (faulted → ⊥) →
    Refuses at command faulted refusal → Refuses at command ⊥ refusal
refuses_at_rest at (Render app script_name options workers) faulted refusal quiet (inl r) = inl (sources_at_rest at app script_name faulted refusal quiet r)
refuses_at_rest at (Render app script_name options workers) faulted refusal quiet (inr r) = inr r
refuses_at_rest at (Tree app script_name prefix) faulted refusal quiet (inl r) = inl (sources_at_rest at app script_name faulted refusal quiet r)
refuses_at_rest at (Tree app script_name prefix) faulted refusal quiet (inr r) = inr r
refuses_at_rest at (Show file prefix) faulted refusal quiet r =
    refuses_quiet Page (RefusesPageBytes prefix) faulted most_page_bytes file (at file) refusal quiet r
refuses_at_rest at (Gen seed size workers) faulted refusal quiet r = r
