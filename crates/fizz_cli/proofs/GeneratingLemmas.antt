-- `gen`: its files are there, and its line counts what is seen.
use Rattle.std.proofs.Common.{◌≡◌, ℕ, ◌+◌, List, [], ◌∷◌, ◌++◌, length, Option, Some, Result, Ok, Err, IfOk, refl, sym, ◌∙◌, ap, subst, inl, inr, arith}
use Rattle.document_machine.specs.MachineState.{SeesWhole, nothing_run}
use Rattle.document_machine.specs.Settled.{counts_of, settled_of}
use Rattle.document_machine.specs.Shown.{view_of_parts, view_parts}
use Rattle.document_machine.specs.Views.{View, end, text, element, boundary}
use Rattle.document_machine.specs.declared.view.Counts.{Counts}
use Rattle.document_machine.specs.declared.view.View.{View as Seen}
use Rattle.document_machine.specs.declared.view.ViewPart.{ViewPart}
use Rattle.document_machine.specs.declared.view.ViewPart.TheVariants as part
use Rattle.dom_forest.specs.Printing.{printed_nodes}
use Rattle.dom_forest.specs.declared.document.DocNode.{DocNode}
use Rattle.fizz_outside.specs.FileContents.{Contents}
use Rattle.page_generator.specs.Pages.{program, script_of}
use Rattle.fizz_words.specs.Commands.{standard_options}
use Rattle.fizz_words.specs.declared.command.Command.TheVariants.{Render}
use Rattle.fizz_words.specs.declared.command.Options.{Options}
use Rattle.fizz_cli.specs.Ends.{EndsAs, Serves}
use Rattle.fizz_cli.specs.Generating.{IsSummary, RefusesGenerated, app_name, generated_files, line_of, script_name, summary_line, texts_in}
use Rattle.fizz_cli.specs.Rendering.{RendersFiles}
use Rattle.fizz_cli.specs.Reports.{Change, FilesReport, HasFilesFault, files_change, sink_change}
use Rattle.fizz_cli.specs.Steps.{AcceptsOrRefuses, HasBadBytes, IsNotRead, ReadsFiles}
use Rattle.fizz_cli.specs.Summaries.{text_parts}
use Rattle.fizz_cli.specs.Trees.{RefusesTree, settled_page}
use Rattle.fizz_cli.specs.declared.refusal.FileFault.{FileFault}
use Rattle.fizz_cli.specs.declared.refusal.Refusal.{Refusal}
use Rattle.fizz_cli.specs.declared.refusal.Refusal.TheVariants.{CannotRead, File}
use Rattle.fizz_cli.specs.declared.stop.OrMemory.{OrMemory}
use Rattle.fizz_cli.specs.declared.stop.OrMemory.TheVariants.{Fault, NoMemory}
use Rattle.fizz_cli.specs.declared.stop.Stop.{Stop}
use Rattle.fizz_cli.specs.declared.stop.Stop.TheVariants.{Refused}
use Rattle.fizz_cli.proofs.RefusalsLemmas.{refuses_at_rest}
use Rattle.fizz_cli.proofs.TreesLemmas.{was_read}

-- its files are there

file_there : (most : ℕ) (name other : List ℕ) (file : Option (List ℕ)) (bytes : List ℕ) → file ≡ Some bytes →
    IsNotRead ⊥ most name file (CannotRead other) → ⊥
file_there most name other file bytes found (IsNotRead.unread is (inl never)) = never
file_there most name other file bytes found (IsNotRead.unread is (inr none)) = cc
file_there most name other file bytes found (IsNotRead.too_long is long) = cc

bytes_there : {F : Type 0} (most : ℕ) (fault_of : F → FileFault) (refuses : List ℕ → F → Type 0) (name other : List ℕ)
    (file : Option (List ℕ)) → HasBadBytes most fault_of refuses name file (CannotRead other) → ⊥
bytes_there most fault_of refuses name other file bad = never _ bad.says
  where
    never : (fault : FileFault) → CannotRead other ≡ File name fault → ⊥
    never fault e = cc

pub always_read : (seed size : ℕ) (other : List ℕ) → RefusesGenerated seed size (CannotRead other) → ⊥
always_read seed size other (inl (inl (inl not_read))) = file_there _ app_name other _ program refl not_read
always_read seed size other (inl (inl (inr bad))) = bytes_there _ _ _ app_name other _ bad
always_read seed size other (inl (inr (app, accepted, inl not_read))) =
    file_there _ script_name other _ (script_of seed size) refl not_read
always_read seed size other (inl (inr (app, accepted, inr bad))) = bytes_there _ _ _ script_name other _ bad
always_read seed size other (inr (sources, accepted, refused)) =
    was_read app_name other (settled_page sources []) refused

-- What reads no file of the caller's accepts or refuses whatever they hold.
pub reads_nothing : {A : Type 0} (accepts : A → Type 0) (refuses : Refusal → Type 0) (files : Change FilesReport)
    (result : Result A (OrMemory Refusal)) → files.after ≡ files.before →
    ((name : List ℕ) → refuses (CannotRead name) → ⊥) → AcceptsOrRefuses accepts refuses result →
    ReadsFiles (λ at. accepts) (λ at faulted. refuses) files result
reads_nothing accepts refuses files result same read is = record {
  same = ap (λ (report : FilesReport). report.contents) same;
  later = let e = ap (λ (report : FilesReport). report.faults) same in omega (arith, e);
  told = λ at told. is;
  untold = λ none name e. absurd (read name (subst (AcceptsOrRefuses accepts refuses) e is));
}

-- its line counts what is seen

text_parts-view_parts : (v : View) (more : List ViewPart) → text_parts (view_parts v more) ≡ texts_in v + text_parts more
text_parts-view_parts end more = omega arith
text_parts-view_parts (text t later) more =
    let e = text_parts-view_parts later more in omega (arith, e)
text_parts-view_parts (element name attributes items later) more =
    let e = text_parts-view_parts items (part.EndOfElement ∷ view_parts later more) in
    let f = text_parts-view_parts later more in
    omega (arith, e, f)
text_parts-view_parts (boundary kind digest items later) more =
    let e = text_parts-view_parts items (part.EndOfBoundary ∷ view_parts later more) in
    let f = text_parts-view_parts later more in
    omega (arith, e, f)

pub texts_of_parts : (v : View) (parts : List ViewPart) → parts ≡ view_parts v [] → text_parts parts ≡ texts_in v
texts_of_parts v parts is =
    let e : text_parts parts ≡ text_parts (view_parts v []) = ap text_parts is in
    let f = text_parts-view_parts v [] in
    omega (arith, e, f)

pub is_summary : (page : List ℕ) (view : Seen) (document : List DocNode) (line : List ℕ) → SeesWhole (nothing_run []) page view →
    settled_of (view_of_parts view.parts) ≡ Some document → line ≡ summary_line (view_of_parts view.parts) document →
    IsSummary page line
is_summary page view document line s settled says = record {
  built = s.built;
  whole = s.run;
  document = document;
  settles = ap settled_of (sym s.is) ∙ settled;
  says = says ∙ ap (λ (v : View). summary_line v document) s.is;
}

pub if_ok_more : {A E : Type 0} (result : Result A E) {P Q : A → Type 0} → IfOk result P → ((a : A) → P a → Q a) → IfOk result Q
if_ok_more (Ok a) holds more = more a holds
if_ok_more (Err e) holds more = tt

pub refuses_as : {A B F : Type 0} (accepts : A → Type 0) (accepts_other : B → Type 0) (refuses refuses_other : F → Type 0) (stop : OrMemory F) →
    ((fault : F) → refuses fault → refuses_other fault) → AcceptsOrRefuses accepts refuses (Err stop) →
    AcceptsOrRefuses accepts_other refuses_other (Err stop)
refuses_as accepts accepts_other refuses refuses_other (Fault fault) next refused = next fault refused
refuses_as accepts accepts_other refuses refuses_other NoMemory next refused = tt

pub says_all : (view : View) (document : List DocNode) (counts : Counts) (texts size : ℕ) (printed line : List ℕ) →
    counts ≡ counts_of view → texts ≡ texts_in view → printed ≡ printed_nodes document → size ≡ length printed →
    line ≡ line_of counts.boundaries counts.failed texts size → line ≡ summary_line view document
says_all view document counts texts size printed line c t p s is =
    is ∙ (ap (λ (x : Counts). line_of x.boundaries x.failed texts size) c
    ∙ (ap (λ (n : ℕ). line_of (counts_of view).boundaries (counts_of view).failed n size) t
    ∙ ap (λ (n : ℕ). line_of (counts_of view).boundaries (counts_of view).failed (texts_in view) n) (s ∙ ap length p)))

-- its page is rendered from files that meet no fault

-- the report of files that stay and count no fault, and that of a sink in memory
module _ {T : Type 0} (at now : Contents) (app script : List ℕ) (options : Options) (before after : List ℕ) (old new : ℕ)
    (result : Result T Stop)
    (serves : Serves (Render app script options 0) (files_change (Some at) 0 (Some now) 0)
    (sink_change (Some before) old (Some after) new) result) where
  pub renders_to : (done : T) → result ≡ Ok done → before ≡ [] → RendersFiles at app script options after
  renders_to done is empty =
      let ends : EndsAs (Render app script options 0) (files_change (Some at) 0 (Some now) 0)
      (sink_change (Some before) old (Some after) new) (Ok done) =
      subst (λ (r : Result T Stop). EndsAs (Render app script options 0) (files_change (Some at) 0 (Some now) 0)
      (sink_change (Some before) old (Some after) new) r) is serves.ends in
      let sent = ends at now refl refl in
      let all : after ≡ sent.0 = sent.2 ∙ ap (λ (bs : List ℕ). bs ++ sent.0) empty in
      subst (λ (bs : List ℕ). RendersFiles at app script options bs) (sym all) sent.1

  pub refuses_for : (refusal : Refusal) → result ≡ Err (Refused refusal) → RefusesTree at app script options.prefix ⊥ refusal
  refuses_for refusal is =
      let ends : EndsAs {T = T} (Render app script options 0) (files_change (Some at) 0 (Some now) 0)
      (sink_change (Some before) old (Some after) new) (Err (Refused refusal)) =
      subst (λ (r : Result T Stop). EndsAs (Render app script options 0) (files_change (Some at) 0 (Some now) 0)
      (sink_change (Some before) old (Some after) new) r) is serves.ends in
      refuses_at_rest at (Render app script options 0) (HasFilesFault (files_change (Some at) 0 (Some now) 0)) refusal quiet
      (ends.0.told at refl)
    where
      quiet : HasFilesFault (files_change (Some at) 0 (Some now) 0) → ⊥
      quiet fault = omega (arith, fault)

pub refuses_generated : (seed size : ℕ) (files : Contents) (app script : List ℕ) (options : Options) (refusal : Refusal) →
    files ≡ generated_files seed size → app ≡ app_name → script ≡ script_name → options ≡ standard_options →
    RefusesTree files app script options.prefix ⊥ refusal → RefusesGenerated seed size refusal
refuses_generated seed size files app script options refusal f a s o r =
    subst (λ (x : Contents). RefusesTree x app_name script_name [] ⊥ refusal) f
    (subst (λ (x : List ℕ). RefusesTree files x script_name [] ⊥ refusal) a
    (subst (λ (x : List ℕ). RefusesTree files app x [] ⊥ refusal) s
    (subst (λ (x : Options). RefusesTree files app script x.prefix ⊥ refusal) o r)))
