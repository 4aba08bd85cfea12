-- What a page weighs once all of its outcomes are known.
use Rattle.std.specs.Prelude.{ℕ, List, length}
use Rattle.settle_script.specs.declared.value.Entry.{Entry}
use Rattle.settle_script.specs.declared.outcome.Outcome.{Outcome}
use Rattle.jsx_syntax.specs.declared.file.File.{File}
use Rattle.jsx_value.specs.SeenPlaces.{page_with}
use Rattle.jsx_value.specs.Weights.{page_weight}

abbrev pub settled_weight : File → List (Entry Outcome) → List ℕ → ℕ
settled_weight file outcomes prefix = page_weight (page_with file outcomes (length outcomes) prefix)

-- the most bytes that a prefix of ids may have
abbrev pub longest_prefix : ℕ
longest_prefix = 64
