-- The two files of a page: they are accepted or refused, and for one thing at most.
use Rattle.std.proofs.Common.{◌≡◌, ℕ, ◌≤◌, List, inl, inr, Option, Result, Ok, Err, refl, ◌∙◌, ap, ap₂, subst, arith}
use Rattle.fizz_outside.specs.FileContents.{Contents}
use Rattle.fizz_outside.specs.Faults.{FaultCounted}
use Rattle.jsx_syntax.specs.declared.file.File.{File}
use Rattle.settle_script.specs.declared.event.Event.{Event}
use Rattle.fizz_cli.specs.ProgramFiles.{AcceptsProgram, RefusesProgram, RefusesProgramBytes, most_program_bytes}
use Rattle.fizz_cli.specs.Reports.{files_change}
use Rattle.fizz_cli.specs.ScriptFiles.{AcceptsScript, RefusesScript, RefusesScriptBytes, most_script_bytes}
use Rattle.fizz_cli.specs.Sources.{AcceptsSources, RefusesSources}
use Rattle.fizz_cli.specs.Steps.{AcceptsOrRefuses, FirstOrNext, ReadsFiles}
use Rattle.fizz_cli.specs.declared.refusal.FileFault.TheVariants.{Program, Script}
use Rattle.fizz_cli.specs.declared.refusal.Refusal.{Refusal}
use Rattle.fizz_cli.specs.declared.refusal.Refusal.TheVariants.{CannotRead}
use Rattle.fizz_cli.specs.declared.steps.sources.Sources.{Sources}
use Rattle.fizz_cli.specs.declared.stop.OrMemory.{OrMemory}
use Rattle.fizz_cli.specs.declared.stop.OrMemory.TheVariants.{Fault, NoMemory}
use Rattle.fizz_cli.proofs.ProgramsLemmas.{ProgramLaws, one_program, one_program_fault, program_excludes}
use Rattle.fizz_cli.proofs.RefusalsLemmas.{one_lines, one_script, script_excludes}
use Rattle.fizz_cli.proofs.StepsLemmas.{one_file_refusal, refuses_more}

-- a fault that was counted later was counted from the beginning
fault_from : (a b c : ℕ) → a ≤ b → FaultCounted b c → FaultCounted a c
fault_from a b c later counted = grind (arith, later, counted)

same_stop : {A : Type 0} (s r : OrMemory Refusal) (x y : Result A (OrMemory Refusal)) → x ≡ Err s → y ≡ Err r → x ≡ y → s ≡ r
same_stop s r x y p q e = cc

-- the component file was read, and the script was not
pub script_refused : (app script : List ℕ) (program : File) (c0 c1 c2 : Option Contents) (f0 f1 f2 : ℕ) (stop : OrMemory Refusal) →
    ReadsFiles (λ at (p : File). AcceptsProgram (at app) p) (λ at faulted. RefusesProgram faulted app (at app)) (files_change c0 f0 c1 f1) (Ok program) →
    ReadsFiles (λ at (l : List Event). AcceptsScript (at script) l) (λ at faulted. RefusesScript faulted script (at script)) (files_change c1 f1 c2 f2) (Err stop) →
    ReadsFiles (λ at (s : Sources). AcceptsSources at app script s) (λ at. RefusesSources at app script) (files_change c0 f0 c2 f2) (Err stop)
script_refused app script program c0 c1 c2 f0 f1 f2 stop first second = record {
  same = second.same ∙ first.same;
  later = omega (arith, first.later, second.later);
  told = λ at told. by_cases at stop (first.told at told) (second.told at (first.same ∙ told));
  untold = λ none name is. fault_from f0 f1 f2 first.later
      (second.untold (first.same ∙ none) name (ap Err (same_stop {A = Sources} stop (Fault (CannotRead name)) _ _ refl refl is)));
}
  where
    by_cases : (at : Contents) (stop : OrMemory Refusal) → AcceptsProgram (at app) program →
        AcceptsOrRefuses {A = List Event} (λ l. AcceptsScript (at script) l) (RefusesScript (FaultCounted f1 f2) script (at script)) (Err stop) →
        AcceptsOrRefuses {A = Sources} (λ s. AcceptsSources at app script s) (RefusesSources at app script (FaultCounted f0 f2)) (Err stop)
    by_cases at (Fault refusal) a r =
        inr (
          program,
          a,
          refuses_more Script RefusesScriptBytes (FaultCounted f1 f2) (FaultCounted f0 f2) most_script_bytes script (at script) refusal
              (fault_from f0 f1 f2 first.later) r,
        )
    by_cases at NoMemory a r = tt

module _ (laws : ProgramLaws) (at : Contents) (app script : List ℕ) where
  sources_exclude : (sources : Sources) (refusal : Refusal) → AcceptsSources at app script sources → RefusesSources at app script ⊥ refusal → ⊥
  sources_exclude sources refusal a (inl r) = program_excludes laws app (at app) sources.program refusal a.is_app r
  sources_exclude sources refusal a (inr (program, p, r)) = script_excludes script (at script) sources.script refusal a.is_script r

  one_sources : (a b : Sources) → AcceptsSources at app script a → AcceptsSources at app script b → a ≡ b
  one_sources a b p q =
      ap₂ (λ (program : File) (script : List Event). record { program = program; script = script })
      (one_program laws (at app) a.program b.program p.is_app q.is_app) (one_lines (at script) a.script b.script p.is_script q.is_script)

  one_refusal : (a b : Refusal) → RefusesSources at app script ⊥ a → RefusesSources at app script ⊥ b → a ≡ b
  one_refusal a b (inl p) (inl q) =
      one_file_refusal Program RefusesProgramBytes most_program_bytes app (at app) a b (one_program_fault laws) p q
  one_refusal a b (inl p) (inr (program, x, q)) = absurd (program_excludes laws app (at app) program a x p)
  one_refusal a b (inr (program, x, p)) (inl q) = absurd (program_excludes laws app (at app) program b x q)
  one_refusal a b (inr (f, x, p)) (inr (g, y, q)) = one_script script (at script) a b p q

  -- and then what is made of the two
  pub next_excludes : (next : Sources → Refusal → Type 0) (sources : Sources) (refusal : Refusal) → AcceptsSources at app script sources →
      (next sources refusal → ⊥) → FirstOrNext (RefusesSources at app script ⊥) (AcceptsSources at app script) next refusal → ⊥
  next_excludes next sources refusal a sound (inl r) = sources_exclude sources refusal a r
  next_excludes next sources refusal a sound (inr (other, b, r)) =
      sound (subst (λ (s : Sources). next s refusal) (one_sources other sources b a) r)

  pub one_next : (next : Sources → Refusal → Type 0) (a b : Refusal) → ((sources : Sources) → next sources a → next sources b → a ≡ b) →
      FirstOrNext (RefusesSources at app script ⊥) (AcceptsSources at app script) next a →
      FirstOrNext (RefusesSources at app script ⊥) (AcceptsSources at app script) next b → a ≡ b
  one_next next a b one (inl p) (inl q) = one_refusal a b p q
  one_next next a b one (inl p) (inr (s, x, q)) = absurd (sources_exclude s a x p)
  one_next next a b one (inr (s, x, p)) (inl q) = absurd (sources_exclude s b x q)
  one_next next a b one (inr (s, x, p)) (inr (t, y, q)) =
      one s p (subst (λ (u : Sources). next u b) (one_sources t s y x) q)
