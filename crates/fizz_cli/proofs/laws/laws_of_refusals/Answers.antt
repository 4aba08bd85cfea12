use Rattle.std.proofs.Common.{ℕ, List, [], sym, subst}
use Rattle.fizz_cli.specs.Generating.{app_name, generated_files, script_name}
use Rattle.fizz_cli.specs.PageFiles.{RefusesPage, ShowsFile}
use Rattle.fizz_cli.proofs.laws.laws_of_refusals.Goals as goal

pub returns-in-Render-clause-accepted : goal.returns-in-Render-clause-accepted
returns-in-Render-clause-accepted c = rw c.in-Render.is (λ at refusal a r.
    c.laws_of_programs.ensures.accepted at c.in-Render.app c.in-Render.script c.in-Render.options.prefix a.0 refusal a.1 r)

pub returns-in-Render-clause-one : goal.returns-in-Render-clause-one
returns-in-Render-clause-one c = rw c.in-Render.is (λ at a b p q.
    c.laws_of_programs.ensures.one_tree at c.in-Render.app c.in-Render.script c.in-Render.options.prefix a b p q)

pub returns-in-Show-clause-accepted : goal.returns-in-Show-clause-accepted
returns-in-Show-clause-accepted c = rw c.in-Show.is (λ at refusal a r.
    c.laws_of_pages.ensures.accepted c.in-Show.file (at c.in-Show.file) a.0 refusal
    (subst (λ (p : List ℕ). ShowsFile p (at c.in-Show.file) a.0) (sym c.as_str.ensures.value) a.1)
    (subst (λ (p : List ℕ). RefusesPage p ⊥ c.in-Show.file (at c.in-Show.file) refusal) (sym c.as_str.ensures.value) r))

pub returns-in-Show-clause-one : goal.returns-in-Show-clause-one
returns-in-Show-clause-one c = rw c.in-Show.is (λ at a b p q.
    c.laws_of_pages.ensures.one c.in-Show.file (at c.in-Show.file) a b
    (subst (λ (x : List ℕ). RefusesPage x ⊥ c.in-Show.file (at c.in-Show.file) a) (sym c.as_str.ensures.value) p)
    (subst (λ (x : List ℕ). RefusesPage x ⊥ c.in-Show.file (at c.in-Show.file) b) (sym c.as_str.ensures.value) q))

pub returns-in-Tree-clause-accepted : goal.returns-in-Tree-clause-accepted
returns-in-Tree-clause-accepted c = rw c.in-Tree.is (λ at refusal a r.
    c.laws_of_programs-in-Tree.ensures.shown at c.in-Tree.app c.in-Tree.script c.in-Tree.prefix a.0 refusal a.1 r)

pub returns-in-Tree-clause-one : goal.returns-in-Tree-clause-one
returns-in-Tree-clause-one c = rw c.in-Tree.is (λ at a b p q.
    c.laws_of_programs-in-Tree.ensures.one_tree at c.in-Tree.app c.in-Tree.script c.in-Tree.prefix a b p q)

pub returns-in-Gen-clause-accepted : goal.returns-in-Gen-clause-accepted
returns-in-Gen-clause-accepted c = rw c.in-Gen.is (λ at refusal a r.
    c.laws_of_programs-in-Gen.ensures.accepted (generated_files c.in-Gen.seed c.in-Gen.size) app_name script_name [] a.0 refusal a.1 r)

pub returns-in-Gen-clause-one : goal.returns-in-Gen-clause-one
returns-in-Gen-clause-one c = rw c.in-Gen.is (λ at a b p q.
    c.laws_of_programs-in-Gen.ensures.one_tree (generated_files c.in-Gen.seed c.in-Gen.size) app_name script_name [] a b p q)
