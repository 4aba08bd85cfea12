-- What a call sends.
use Rattle.std.specs.Prelude.{◌≡◌, ℕ, List, ◌++◌}
use Rattle.request_state.specs.Core.{Core}

-- Nothing is sent: transcript and marks stay.
pub record SendsNothing (old new : Core) : Type 0 where
  pub transcript : new.transcript ≡ old.transcript
  pub marks : new.marks ≡ old.marks

-- These bytes are sent after all that was.
abbrev pub Sends : List ℕ → Core → Core → Type 0
Sends bytes old new = new.transcript ≡ old.transcript ++ bytes
