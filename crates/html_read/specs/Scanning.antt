-- How the reader goes through a piece. No public clause rests on this file.
use Rattle.std.specs.Prelude.{◌≡◌, ◌+◌, ◌≤◌, ℕ, Option, Some, None, Result, Ok, Err, List, ◌++◌, length, take, drop, slice_index, slice_range, option_to_list}
use Rattle.html_read.specs.declared.fault.ReadKind.{ReadKind}
use Rattle.html_read.specs.declared.machine.Mode.{Mode}
use Rattle.html_read.specs.declared.machine.Mode.TheVariants.{Text, Name}
use Rattle.html_read.specs.declared.machine.Transition.{Transition}
use Rattle.html_read.specs.declared.machine.Transition.TheVariants.{Goes, Ends, Cuts, Fails}
use Rattle.html_read.specs.declared.place.Place.TheVariants.{Whole}
use Rattle.html_read.specs.declared.walk.At.{At}
use Rattle.html_read.specs.declared.walk.Walked.{Walked}
use Rattle.html_read.specs.declared.token.Token.{Token}
use Rattle.html_read.specs.Building.{IsTokenOf}
use Rattle.html_read.specs.Faults.{Splits, HasFault}
use Rattle.html_read.specs.Machine.{transition_of, mode_of}
use Rattle.html_read.specs.Tokens.{spellings}

-- A token is added where the bytes are one.
abbrev pub AddsToken : List Token → List ℕ → ℕ → List Token → Type 0
AddsToken old bytes from new = (found : Option Token) × IsTokenOf bytes from found × (new ≡ old ++ option_to_list found)

-- What one byte does, by its turn.
abbrev pub IsStepBy : Transition → List Token → List ℕ → At → ℕ → ℕ → List Token → Result At ReadKind → Type 0
IsStepBy (Goes mode) old bytes at i place new result = (new ≡ old) × (result ≡ Ok (record { from = at.from; mode = mode }))
IsStepBy Ends old bytes at i place new result =
    AddsToken old (slice_range bytes at.from (i + 1)) (place + at.from) new × (result ≡ Ok (record { from = i + 1; mode = Text Whole }))
IsStepBy Cuts old bytes at i place new result =
    AddsToken old (slice_range bytes at.from i) (place + at.from) new × (result ≡ Ok (record { from = i; mode = Name }))
IsStepBy (Fails kind) old bytes at i place new result = (new ≡ old) × (result ≡ Err kind)

abbrev pub IsStep : List Token → List ℕ → At → ℕ → ℕ → List Token → Result At ReadKind → Type 0
IsStep old bytes at i place new result =
    IsStepBy (transition_of at.mode (slice_range bytes at.from i) (slice_range bytes at.from (i + 1)) (slice_index bytes i)) old bytes at i place new result

-- What a walk finds, where these tokens were given before its bytes.
abbrev pub Finds : List Token → List ℕ → ℕ → List Token → ℕ → Option (ℕ × ReadKind) → Type 0
Finds toks bytes place tokens from None =
    Splits (spellings toks ++ bytes) (toks ++ tokens) (drop from bytes) × (length (spellings (toks ++ tokens)) ≡ place + from)
Finds toks bytes place tokens from (Some (at, kind)) = HasFault (spellings toks ++ bytes) (toks ++ tokens) at kind

pub record IsWalked (bytes : List ℕ) (start : ℕ) (mode : Mode) (place : ℕ) (walked : Walked) : Type 0 where
  pub within : walked.from ≤ length bytes
  pub mode_is : mode_of (take start bytes) ≡ Some mode → walked.fault ≡ None → mode_of (drop walked.from bytes) ≡ Some walked.mode
  pub finds : mode_of (take start bytes) ≡ Some mode → (toks : List Token) → Splits (spellings toks ++ take start bytes) toks (take start bytes)
      → length (spellings toks) ≡ place → Finds toks bytes place walked.tokens.items walked.from walked.fault
