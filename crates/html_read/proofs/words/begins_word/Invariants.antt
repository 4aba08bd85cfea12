use Rattle.std.proofs.Common.{◌≡◌, map, drop, List, ℕ, Bor}
use Rattle.html_read.specs.Machine.{begins_word}
use Rattle.html_read.proofs.words.begins_word.Given as goal

-- what is left gives the answer
abbrev pub invariant-loop-word : goal.invariant-loop-word
invariant-loop-word l = begins_word (map (λ (w : Bor (List ℕ)). w.now) (drop l.word-index l.words)) l.bytes ≡ begins_word (map (λ (w : Bor (List ℕ)). w.now) l.words) l.bytes
