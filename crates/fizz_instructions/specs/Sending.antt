-- Which functions a page has.
use Rattle.std.specs.Prelude.{Bool, true, false}
use Rattle.fizz_instructions.specs.declared.functions.Function.{Function}
use Rattle.fizz_instructions.specs.declared.functions.Function.TheVariants.{CompleteBoundary, CompleteSegment, ClientRenderBoundary}
use Rattle.fizz_instructions.specs.declared.instruction.SentFunctions.{SentFunctions}

abbrev pub no_function_sent : SentFunctions
no_function_sent = record { rc = false; rs = false; rx = false }

abbrev pub has : SentFunctions → Function → Bool
has sent CompleteBoundary = sent.rc
has sent CompleteSegment = sent.rs
has sent ClientRenderBoundary = sent.rx

-- The same and this function.
abbrev pub with_function : SentFunctions → Function → SentFunctions
with_function sent CompleteBoundary = record sent { rc = true }
with_function sent CompleteSegment = record sent { rs = true }
with_function sent ClientRenderBoundary = record sent { rx = true }
