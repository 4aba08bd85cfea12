use Rattle.std.proofs.Common.{◌≡◌, ℕ, List, drop, map, find}
use Rattle.jsx_lex.specs.Characters.{begins}
use Rattle.jsx_lex.specs.ReferenceRows.{row_of}
use Rattle.jsx_lex.proofs.reference.first_name.Given as goal

abbrev pub invariant-loop-name : goal.invariant-loop-name
invariant-loop-name l = find (λ (r : List ℕ × ℕ). begins r.0 l.rest) (map row_of l.names) ≡ find (λ (r : List ℕ × ℕ). begins r.0 l.rest) (map row_of (drop l.name-index l.names))
