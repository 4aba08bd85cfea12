-- Statements one after another.
use Rattle.std.proofs.Common.{◌≡◌, ℕ, ◌+◌, ◌<◌, Option, List, [], ◌∷◌, length, drop, get_or, refl, sym, ap, ◌∙◌}
use Rattle.std.proofs.lemmas.List.{drop_more}
use Rattle.settle_script.specs.declared.outcome.Outcome.{Outcome}
use Rattle.jsx_syntax.specs.declared.file.Stmt.{Stmt}
use Rattle.jsx_syntax.specs.declared.file.Stmt.TheVariants.{Fetch, Bind, Throw}
use Rattle.jsx_value.specs.Expressions.{Names}
use Rattle.jsx_value.specs.Positions.{Opened, Place, run}
use Rattle.jsx_value.specs.SeenPlaces.{ended}
use Rattle.jsx_value.specs.declared.statements.Ended.{Ended}

pub run-cons : {K : Type 0} (known : List ℕ → Option Outcome) (stmt : Stmt) (more : List Stmt) (go : Names → Opened K) (scope : Names)
    → run known (stmt ∷ more) go scope ≡ run known (stmt ∷ []) (run known more go) scope
run-cons known (Fetch name resource) more go scope = refl
run-cons known (Bind name expr) more go scope = refl
run-cons known (Throw test digest) more go scope = refl

pub goes_on : (known : List ℕ → Option Outcome) (stmts : List Stmt) (i : ℕ) (stmt : Stmt) (scope : Names) (end : Ended)
    → i < length stmts → stmt ≡ get_or stmts i stmt → ((go : Names → Opened Place) → ended end go ≡ run known (stmt ∷ []) go scope)
    → (go : Names → Opened Place) → ended end (run known (drop (i + 1) stmts) go) ≡ run known (drop i stmts) go scope
goes_on known stmts i stmt scope end less is ends go =
    ends (run known (drop (i + 1) stmts) go)
    ∙ sym (run-cons known stmt (drop (i + 1) stmts) go scope)
    ∙ ap (λ (s : Stmt). run known (s ∷ drop (i + 1) stmts) go scope) is
    ∙ ap (λ (ss : List Stmt). run known ss go scope) (sym (drop_more stmts i stmt less))
