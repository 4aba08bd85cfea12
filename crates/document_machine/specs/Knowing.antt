-- Runs that start with more functions known, and runs of the first bytes alone.
use Rattle.std.specs.Prelude.{◌≡◌, true, List, ℕ}
use Rattle.fizz_instructions.specs.Sending.{has}
use Rattle.fizz_instructions.specs.declared.functions.Function.{Function}
use Rattle.fizz_instructions.specs.declared.instruction.SentFunctions.{SentFunctions}
use Rattle.document_machine.specs.Documents.{LeavesNoRest, Runs}
use Rattle.document_machine.specs.Running.{PageState}

-- Each function of the one is one of the other.
abbrev pub KnowsMore : SentFunctions → SentFunctions → Type 0
KnowsMore known more = (function : Function) → has known function ≡ true → has more function ≡ true

-- The page with other functions known.
abbrev pub with_known : SentFunctions → PageState → PageState
with_known known page = record page { known = known }

-- A run that starts with these functions known builds the same document, and ends with no function fewer known.
pub record RunsKnowing (prefix : List ℕ) (start : PageState) (bytes : List ℕ) (end : PageState) (old : Runs prefix start bytes end)
    (known : SentFunctions) : Type 0 where
  pub later : SentFunctions
  pub run : Runs prefix (with_known known start) bytes (with_known later end)
  pub rest : LeavesNoRest old → LeavesNoRest run
  pub more : KnowsMore end.known later

-- The bytes run to some page.
pub record RunsSomewhere (prefix : List ℕ) (start : PageState) (bytes : List ℕ) : Type 0 where
  pub end : PageState
  pub run : Runs prefix start bytes end
