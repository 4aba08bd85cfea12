-- Facts about calls: how what a call does follows from how its parts end.
use Rattle.std.proofs.Common.{◌≡◌, ◌≢◌, ℕ, ◌⊎◌, List, [], length, take, Option, Some, None, Result, Ok, Err, Vec, Global, refl, sym, ◌∙◌, ap, subst, inl, inr, arith}
use Rattle.std.proofs.KnownBytes.{Appends-nil}
use Rattle.std.proofs.lemmas.List.{take_all}
use Rattle.std.specs.Io.KnownBytes.{Appends, Keeps}
use Rattle.fizz_outside.specs.FileContents.{Contents}
use Rattle.fizz_cli.specs.Calls.{AnswersWords, IsCause, IsClapText, IsCutOff, IsDone, IsKept, IsRefusalStatus, KeepsOthers, RefusesWords, ServesCommand, ServesWords}
use Rattle.fizz_cli.specs.Ends.{EndsAs, SendsAll, Serves, WritesAll}
use Rattle.fizz_cli.specs.Notes.{note_of, prefix_note}
use Rattle.fizz_cli.specs.Refusals.{status_of}
use Rattle.fizz_cli.specs.Reports.{AppendsPrefix, Change, FilesReport, HasFilesFault, HasSinkFault, SinkReport}
use Rattle.fizz_cli.specs.Serving.{Accepts, Completes, IsPart, IsPrefixOf, Leaves, MayWrite, Refuses}
use Rattle.fizz_cli.specs.Steps.{ReadsFiles, stop_of}
use Rattle.fizz_cli.specs.Words.{Reading, means, has_long_prefix, asks_for_text, is_wrong}
use Rattle.fizz_words.specs.declared.command.Command.{Command}
use Rattle.fizz_words.specs.declared.command.Command.TheVariants.{Render, Show, Tree, Gen}
use Rattle.fizz_cli.specs.declared.refusal.Refusal.{Refusal}
use Rattle.fizz_cli.specs.declared.refusal.Refusal.TheVariants.{CannotRead, File, ShellFailed, ShellPostponed, CannotWrite, StateTooLong}
use Rattle.fizz_cli.specs.declared.stop.OrMemory.{OrMemory}
use Rattle.fizz_cli.specs.declared.stop.OrMemory.TheVariants.{Fault, NoMemory}
use Rattle.fizz_cli.specs.declared.stop.Stop.{Stop}
use Rattle.fizz_cli.specs.declared.stop.Stop.TheVariants.{Refused, SinkFailed, OutOfMemory}
use Rattle.fizz_cli.proofs.RefusalsLemmas.{refuses_at_rest}

pub keeps_all : (held : Option (List ℕ)) → Keeps held held
keeps_all None = tt
keeps_all (Some bytes) = refl

keeps_others_all : (may_write : List ℕ → Type 0) (contents : Option Contents) → KeepsOthers may_write contents contents
keeps_others_all may_write None = tt
keeps_others_all may_write (Some at) = λ name other. refl

pub keeps_others : (may_write : List ℕ → Type 0) (before after : Option Contents) → after ≡ before → KeepsOthers may_write before after
keeps_others may_write before after same =
    subst (λ (now : Option Contents). KeepsOthers may_write before now) (sym same) (keeps_others_all may_write before)

-- files that report what they hold still do
still_told : (may_write : List ℕ → Type 0) (before after : Option Contents) (at : Contents) → KeepsOthers may_write before after → before ≡ Some at →
    (now : Contents) × (after ≡ Some now)
still_told may_write (Some at') (Some now) at kept told = (now, refl)
still_told may_write (Some at') None at kept told = absurd kept
still_told may_write None after at kept told = absurd (none_told at told)
  where
    none_told : (at : Contents) → None ≡ Some at → ⊥
    none_told at e = cc

-- serving

pub accepts_output : (at : Contents) (command : Command) (now : Contents) (written : List ℕ) → Completes at command now written → Accepts at command
accepts_output at (Render app script options workers) now written is = (is.sources, is.accepted)
accepts_output at (Show file prefix) now written is = (written, is)
accepts_output at (Tree app script prefix) now written is = (written, is)
accepts_output at (Gen seed size workers) now written is = (is.renders.sources, is.renders.accepted)

nothing_written : (at : Contents) (command : Command) → IsPart at command []
nothing_written at (Render app script options workers) = inl refl
nothing_written at (Show file prefix) = inl refl
nothing_written at (Tree app script prefix) = inl refl
nothing_written at (Gen seed size workers) = inl refl

leaves_all : (command : Command) (refusal : Refusal) (held : Option (List ℕ)) → Leaves command refusal held held
leaves_all (Render app script options workers) refusal held = keeps_all held
leaves_all (Show file prefix) refusal held = keeps_all held
leaves_all (Tree app script prefix) refusal held = keeps_all held
leaves_all (Gen seed size workers) refusal held = keeps_all held

cut_at_once : (command : Command) (files : Change FilesReport) (out : Change SinkReport) → out.after ≡ out.before → IsCutOff command files out
cut_at_once command files out same = λ at told.
    ([], nothing_written at command, subst (λ (r : SinkReport). Appends out.before.held r.held []) (sym same) (Appends-nil out.before.held))

-- a command whose files gave no output
pub stops : {A T : Type 0} (accepts : Contents → A → Type 0) (command : Command) (files : Change FilesReport) (out : Change SinkReport)
    (stop : OrMemory Refusal) → out.after ≡ out.before → ReadsFiles accepts (λ at. Refuses at command) files (Err stop) →
    Serves {T = T} command files out (Err (stop_of stop))
stops {A} {T} accepts command files out stop same r =
    record { others = keeps_others (MayWrite command) files.before.contents files.after.contents r.same; ends = by_cases stop r }
  where
    by_cases : (stop : OrMemory Refusal) → ReadsFiles accepts (λ at. Refuses at command) files (Err stop) →
        EndsAs {T = T} command files out (Err (stop_of stop))
    by_cases (Fault refusal) r = (
      record { told = λ at told. r.told at told; untold = λ none name is. r.untold none name (ap (λ (x : Refusal). Err (Fault x)) is) },
      subst (λ (report : SinkReport). Leaves command refusal out.before.held report.held) (sym same) (leaves_all command refusal out.before.held),
    )
    by_cases NoMemory r = cut_at_once command files out same

pub stops_as : {A T : Type 0} (accepts : Contents → A → Type 0) (command : Command) (files : Change FilesReport) (out : Change SinkReport)
    (refused : OrMemory Refusal) (stop : Stop) (result : Result T Stop) → out.after ≡ out.before → result ≡ Err stop → stop ≡ stop_of refused →
    ReadsFiles accepts (λ at. Refuses at command) files (Err refused) → Serves command files out result
stops_as {A} {T} accepts command files out refused stop result same is made r =
    subst (λ (x : Result T Stop). Serves command files out x) (sym (is ∙ ap Err made)) (stops {A = A} accepts command files out refused same r)

-- the output of accepted files is written
pub writes : {T : Type 0} (outputs : Contents → List ℕ → Type 0) (command : Command) (files : Change FilesReport) (out : Change SinkReport)
    (output : Vec ℕ Global) (result : Result T Stop) →
    ((at now : Contents) (written : List ℕ) → outputs at written → Completes at command now written) →
    ((at : Contents) (written : List ℕ) → IsPrefixOf (outputs at) written → IsPart at command written) →
    ReadsFiles (λ at (o : Vec ℕ Global). outputs at o.items) (λ at. Refuses at command) files (Ok output) → WritesAll output.items out result →
    Serves command files out result
writes {T} outputs command files out output result completes part r w =
    record { others = keeps_others (MayWrite command) files.before.contents files.after.contents r.same; ends = by_cases result w }
  where
    cut : AppendsPrefix out.before.held out.after.held output.items → IsCutOff command files out
    cut p = λ at told. (take p.0 output.items, part at (take p.0 output.items) (inr (output.items, p.0, r.told at told, refl)), p.1)

    by_cases : (result : Result T Stop) → WritesAll output.items out result → EndsAs command files out result
    by_cases (Ok done) w = λ at now told still. (output.items, completes at now output.items (r.told at told), w)
    by_cases (Err (Refused refusal)) w = absurd w
    by_cases (Err SinkFailed) w = (w.0, cut w.1, λ at told. accepts_output at command at output.items (completes at at output.items (r.told at told)))
    by_cases (Err OutOfMemory) w = cut w

-- statuses

status_apart : (n : ℕ) → (n ≡ 0) ⊎ ((n ≡ 7) ⊎ (n ≡ 8)) → IsRefusalStatus n → ⊥
status_apart n h r = by_cases r.0 h r.1
  where
    by_cases : (refusal : Refusal) → (n ≡ 0) ⊎ ((n ≡ 7) ⊎ (n ≡ 8)) → n ≡ status_of refusal → ⊥
    by_cases (CannotRead name) h is = omega (arith, h, is)
    by_cases (File name fault) h is = omega (arith, h, is)
    by_cases (ShellFailed digest) h is = omega (arith, h, is)
    by_cases (ShellPostponed resource) h is = omega (arith, h, is)
    by_cases (CannotWrite name) h is = omega (arith, h, is)
    by_cases (StateTooLong size) h is = omega (arith, h, is)

-- what is known of a command's refusals
pub record CommandLaws (command : Command) : Type 0 where
  pub accepted : (at : Contents) (refusal : Refusal) → Accepts at command → Refuses at command ⊥ refusal → ⊥
  pub one : (at : Contents) (a b : Refusal) → Refuses at command ⊥ a → Refuses at command ⊥ b →
      a ≡ b

-- the command is done

pub call_done : {T : Type 0} (command : Command) (files : Change FilesReport) (out notes : Change SinkReport) (result : Result T Stop) (done : T) →
    CommandLaws command → result ≡ Ok done → Serves command files out result → notes.after ≡ notes.before → ServesCommand command files out notes 0
call_done {T} command files out notes result done laws is s same = by_result (subst (λ (r : Result T Stop). EndsAs command files out r) is s.ends)
  where
    kept : IsKept notes
    kept = subst (λ (report : SinkReport). Keeps notes.before.held report.held) (sym same) (keeps_all notes.before.held)

    by_result : IsDone command files out → ServesCommand command files out notes 0
    by_result ends = record {
      others = s.others;
      done = λ zero. (ends, kept);
      refused = λ r. absurd (status_apart 0 (inl refl) r);
      failed = λ seven. absurd (omega (arith, seven));
      cut = λ h. absurd (omega (arith, h));
      only = inl refl;
      accepted = λ at told quiet silent memory a. refl;
      called_for = λ at told quiet silent memory refusal r.
          let still = still_told (MayWrite command) files.before.contents files.after.contents at s.others told in
          let written = ends at still.0 told still.1 in
          absurd (laws.accepted at refusal (accepts_output at command still.0 written.0 written.1) r);
    }

-- the output failed

pub call_failed : {T : Type 0} (command : Command) (files : Change FilesReport) (out notes : Change SinkReport) (result : Result T Stop) →
    CommandLaws command → result ≡ Err SinkFailed → Serves command files out result → notes.after ≡ notes.before → ServesCommand command files out notes 7
call_failed {T} command files out notes result laws is s same = by_result (subst (λ (r : Result T Stop). EndsAs command files out r) is s.ends)
  where
    kept : IsKept notes
    kept = subst (λ (report : SinkReport). Keeps notes.before.held report.held) (sym same) (keeps_all notes.before.held)

    by_result : EndsAs {T = T} command files out (Err SinkFailed) → ServesCommand command files out notes 7
    by_result ends = record {
      others = s.others;
      done = λ zero. absurd (omega (arith, zero));
      refused = λ r. absurd (status_apart 7 (inr (inl refl)) r);
      failed = λ seven. inl ends.0;
      cut = λ h. inl (ends.1, kept);
      only = inr (inl refl);
      accepted = λ at told quiet silent memory a. absurd (silent ends.0);
      called_for = λ at told quiet silent memory refusal r. absurd (laws.accepted at refusal (ends.2 at told) r);
    }

-- there was no memory

pub call_without_memory : (command : Command) (files : Change FilesReport) (out notes : Change SinkReport) →
    KeepsOthers (MayWrite command) files.before.contents files.after.contents → IsCutOff command files out → notes.after ≡ notes.before →
    ServesCommand command files out notes 8
call_without_memory command files out notes others cut same = record {
  others = others;
  done = λ zero. absurd (omega (arith, zero));
  refused = λ r. absurd (status_apart 8 (inr (inr refl)) r);
  failed = λ seven. absurd (omega (arith, seven));
  cut = λ h. inl (cut, subst (λ (report : SinkReport). Keeps notes.before.held report.held) (sym same) (keeps_all notes.before.held));
  only = inr (inr (inl refl));
  accepted = λ at told quiet silent memory a. absurd (memory refl);
  called_for = λ at told quiet silent memory refusal r. absurd (memory refl);
}

pub call_stopped : {T : Type 0} (command : Command) (files : Change FilesReport) (out notes : Change SinkReport) (result : Result T Stop) →
    result ≡ Err OutOfMemory → Serves command files out result → notes.after ≡ notes.before → ServesCommand command files out notes 8
call_stopped {T} command files out notes result is s same =
    call_without_memory command files out notes s.others (subst (λ (r : Result T Stop). EndsAs command files out r) is s.ends) same

-- a refusal was told

whole_prefix : (old new : Option (List ℕ)) (bytes : List ℕ) → Appends old new bytes → AppendsPrefix old new bytes
whole_prefix old new bytes a = (length bytes, subst (λ (b : List ℕ). Appends old new b) (sym (take_all (length bytes) bytes (omega arith))) a)

-- whatever sending ends with, a prefix was appended
sent_prefix : (status : ℕ) (bytes : List ℕ) (sink : Change SinkReport) (result : ℕ) → SendsAll status bytes sink result →
    AppendsPrefix sink.before.held sink.after.held bytes
sent_prefix status bytes sink result (inl s) = whole_prefix _ _ bytes s.1
sent_prefix status bytes sink result (inr (inl s)) = s.2
sent_prefix status bytes sink result (inr (inr s)) = s.1

-- where nothing failed, sending ends with its status
sent_status : (status : ℕ) (bytes : List ℕ) (sink : Change SinkReport) (result : ℕ) → SendsAll status bytes sink result →
    (HasSinkFault sink → ⊥) → result ≢ 8 → result ≡ status
sent_status status bytes sink result (inl s) quiet memory = s.0
sent_status status bytes sink result (inr (inl s)) quiet memory = absurd (quiet s.1)
sent_status status bytes sink result (inr (inr s)) quiet memory = absurd (memory s.0)

pub call_told : {T : Type 0} (command : Command) (files : Change FilesReport) (out notes : Change SinkReport) (served : Result T Stop)
    (refusal : Refusal) (status : ℕ) → CommandLaws command → served ≡ Err (Refused refusal) → Serves command files out served →
    SendsAll (status_of refusal) (note_of refusal) notes status → ServesCommand command files out notes status
call_told {T} command files out notes served refusal status laws is s sent =
    by_result (subst (λ (r : Result T Stop). EndsAs command files out r) is s.ends) sent
  where
    at_rest : IsCause command files refusal → (at : Contents) → files.before.contents ≡ Some at → (HasFilesFault files → ⊥) → Refuses at command ⊥ refusal
    at_rest cause at told quiet = refuses_at_rest at command (HasFilesFault files) refusal quiet (cause.told at told)

    refused_status : (status ≡ 0) ⊎ ((status ≡ 7) ⊎ (status ≡ 8)) → status ≡ status_of refusal → ⊥
    refused_status h is = status_apart status h (refusal, is)

    is_no_refusal : (status ≡ 7) ⊎ (status ≡ 8) → IsRefusalStatus status → ⊥
    is_no_refusal h r = status_apart status (inr h) r

    by_result : EndsAs {T = T} command files out (Err (Refused refusal)) → SendsAll (status_of refusal) (note_of refusal) notes status →
        ServesCommand command files out notes status
    by_result ends (inl all) = record {
      others = s.others;
      done = λ zero. absurd (refused_status (inl zero) all.0);
      refused = λ r. (refusal, all.0, record { cause = ends.0; note = all.1; output = ends.1 });
      failed = λ seven. absurd (refused_status (inr (inl seven)) all.0);
      cut = λ h. absurd (refused_status (inr h) all.0);
      only = inr (inr (inr (refusal, all.0)));
      accepted = λ at told quiet silent memory a. absurd (laws.accepted at refusal a (at_rest ends.0 at told quiet));
      called_for = λ at told quiet silent memory other r. all.0 ∙ ap status_of (laws.one at refusal other (at_rest ends.0 at told quiet) r);
    }
    by_result ends (inr (inl failed)) = record {
      others = s.others;
      done = λ zero. absurd (omega (arith, zero, failed.0));
      refused = λ r. absurd (is_no_refusal (inl failed.0) r);
      failed = λ seven. inr failed.1;
      cut = λ h. inr (refusal, record { cause = ends.0; note = failed.2; output = ends.1 });
      only = inr (inl failed.0);
      accepted = λ at told quiet silent memory a. absurd (laws.accepted at refusal a (at_rest ends.0 at told quiet));
      called_for = λ at told quiet silent memory other r. absurd (silent failed.1);
    }
    by_result ends (inr (inr cut)) = record {
      others = s.others;
      done = λ zero. absurd (omega (arith, zero, cut.0));
      refused = λ r. absurd (is_no_refusal (inr cut.0) r);
      failed = λ seven. absurd (omega (arith, seven, cut.0));
      cut = λ h. inr (refusal, record { cause = ends.0; note = cut.1; output = ends.1 });
      only = inr (inr (inl cut.0));
      accepted = λ at told quiet silent memory a. absurd (memory cut.0);
      called_for = λ at told quiet silent memory other r. absurd (memory cut.0);
    }

-- words

-- words that are refused, however the note was sent
pub words_refused : (is_note : List ℕ → Type 0) (files : Change FilesReport) (out notes : Change SinkReport) (note : List ℕ) (status : ℕ) →
    is_note note → files.after ≡ files.before → out.after ≡ out.before → SendsAll 2 note notes status → RefusesWords is_note files out notes status
words_refused is_note files out notes note status is files_same out_same sent = by_sent sent
  where
    kept : IsKept out
    kept = subst (λ (report : SinkReport). Keeps out.before.held report.held) (sym out_same) (keeps_all out.before.held)

    files_kept : files.after.contents ≡ files.before.contents
    files_kept = ap (λ (report : FilesReport). report.contents) files_same

    by_sent : SendsAll 2 note notes status → RefusesWords is_note files out notes status
    by_sent (inl all) = record {
      files_kept = files_kept;
      output = kept;
      usage = λ two. (note, is, all.1);
      failed = λ seven. absurd (omega (arith, seven, all.0));
      cut = (note, is, whole_prefix _ _ note all.1);
      only = inl all.0;
      refused = λ silent memory. all.0;
    }
    by_sent (inr (inl failed)) = record {
      files_kept = files_kept;
      output = kept;
      usage = λ two. absurd (omega (arith, two, failed.0));
      failed = λ seven. failed.1;
      cut = (note, is, failed.2);
      only = inr (inl failed.0);
      refused = λ silent memory. absurd (silent failed.1);
    }
    by_sent (inr (inr cut)) = record {
      files_kept = files_kept;
      output = kept;
      usage = λ two. absurd (omega (arith, two, cut.0));
      failed = λ seven. absurd (omega (arith, seven, cut.0));
      cut = (note, is, cut.1);
      only = inr (inr cut.0);
      refused = λ silent memory. absurd (memory cut.0);
    }

-- words that ask for a text, however it was sent
pub words_answered : (files : Change FilesReport) (out notes : Change SinkReport) (answer : List ℕ) (status : ℕ) →
    files.after ≡ files.before → notes.after ≡ notes.before → SendsAll 0 answer out status → AnswersWords files out notes status
words_answered files out notes answer status files_same notes_same sent = by_sent sent
  where
    kept : IsKept notes
    kept = subst (λ (report : SinkReport). Keeps notes.before.held report.held) (sym notes_same) (keeps_all notes.before.held)

    files_kept : files.after.contents ≡ files.before.contents
    files_kept = ap (λ (report : FilesReport). report.contents) files_same

    by_sent : SendsAll 0 answer out status → AnswersWords files out notes status
    by_sent (inl all) = record {
      files_kept = files_kept;
      quiet = kept;
      answered = λ zero. (answer, tt, all.1);
      failed = λ seven. absurd (omega (arith, seven, all.0));
      cut = (answer, tt, whole_prefix _ _ answer all.1);
      only = inl all.0;
      done = λ silent memory. all.0;
    }
    by_sent (inr (inl failed)) = record {
      files_kept = files_kept;
      quiet = kept;
      answered = λ zero. absurd (omega (arith, zero, failed.0));
      failed = λ seven. failed.1;
      cut = (answer, tt, failed.2);
      only = inr (inl failed.0);
      done = λ silent memory. absurd (silent failed.1);
    }
    by_sent (inr (inr cut)) = record {
      files_kept = files_kept;
      quiet = kept;
      answered = λ zero. absurd (omega (arith, zero, cut.0));
      failed = λ seven. absurd (omega (arith, seven, cut.0));
      cut = (answer, tt, cut.1);
      only = inr (inr cut.0);
      done = λ silent memory. absurd (memory cut.0);
    }

-- words for which there was no memory

none_appended : (sink : Change SinkReport) (bytes : List ℕ) → sink.after ≡ sink.before → AppendsPrefix sink.before.held sink.after.held bytes
none_appended sink bytes same =
    (0, subst (λ (report : SinkReport). Appends sink.before.held report.held []) (sym same) (Appends-nil sink.before.held))

pub words_without_memory : (reading : Reading) (files : Change FilesReport) (out notes : Change SinkReport) →
    files.after ≡ files.before → out.after ≡ out.before → notes.after ≡ notes.before → ServesWords reading files out notes 8
words_without_memory (means command) files out notes files_same out_same notes_same =
    call_without_memory command files out notes
    (keeps_others (MayWrite command) files.before.contents files.after.contents (ap (λ (report : FilesReport). report.contents) files_same))
    (cut_at_once command files out out_same) notes_same
words_without_memory has_long_prefix files out notes files_same out_same notes_same =
    words_refused (λ note. note ≡ prefix_note) files out notes prefix_note 8 refl files_same out_same (inr (inr (refl, none_appended notes prefix_note notes_same)))
words_without_memory asks_for_text files out notes files_same out_same notes_same =
    words_answered files out notes [] 8 files_same notes_same (inr (inr (refl, none_appended out [] out_same)))
words_without_memory is_wrong files out notes files_same out_same notes_same =
    words_refused IsClapText files out notes [] 8 tt files_same out_same (inr (inr (refl, none_appended notes [] notes_same)))
