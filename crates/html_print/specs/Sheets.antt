-- A sheet is what is printed in order, with the places where something is cut out of it. Each part has what follows it,
-- so that a printing is said with its continuation: nothing is joined.
use Rattle.std.specs.Prelude.{ℕ, List, [], ◌∷◌, ◌++◌, length}

pub data Sheet (A : Type 0) : Type 0 where
  done : Sheet A
  bytes : List ℕ → Sheet A → Sheet A
  cut : A → Sheet A → Sheet A

-- Something that was cut out: its place is a number of bytes before it.
pub record CutAt (A : Type 0) : Type 0 where
  pub place : ℕ
  pub cut_out : A

-- What a sheet comes to: its bytes, and what was cut out of them, in order.
pub record Printed (A : Type 0) : Type 0 where
  pub out : List ℕ
  pub cuts : List (CutAt A)

abbrev pub nothing_printed : {A : Type 0} → Printed A
nothing_printed = record { out = []; cuts = [] }

abbrev pub with_bytes : {A : Type 0} → List ℕ → Printed A → Printed A
with_bytes more printed = record printed { out = printed.out ++ more }

abbrev pub with_cut : {A : Type 0} → A → Printed A → Printed A
with_cut x printed = record printed { cuts = printed.cuts ++ record { place = length printed.out; cut_out = x } ∷ [] }

-- The sheet after what is printed.
abbrev pub printed_after : {A : Type 0} → Sheet A → Printed A → Printed A
printed_after done printed = printed
printed_after (bytes more sheet) printed = printed_after sheet (with_bytes more printed)
printed_after (cut x sheet) printed = printed_after sheet (with_cut x printed)

abbrev pub printed_of : {A : Type 0} → Sheet A → Printed A
printed_of sheet = printed_after sheet nothing_printed
