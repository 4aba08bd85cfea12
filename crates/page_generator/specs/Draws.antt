-- The draws that decide what a page is: a linear congruential generator modulo 2^64 with the multiplier and the increment
-- of Donald Knuth's MMIX, of whose state the upper 31 bits are drawn.
use Rattle.std.specs.Prelude.{ℕ, zero, suc, ◌+◌, ◌*◌, ◌/◌, ◌%◌, ◌^◌, List, [], ◌∷◌}

-- the state after a draw
unfoldable pub next_state : ℕ → ℕ
next_state x = (x * 6364136223846793005 + 1442695040888963407) % 2 ^ 64

-- what is drawn at this state
unfoldable pub draw_of : ℕ → ℕ
draw_of x = next_state x / 2 ^ 33

-- so many draws, from this state on
abbrev pub drawn : ℕ → ℕ → List ℕ
drawn zero x = []
drawn (suc n) x = draw_of x ∷ drawn n (next_state x)

-- the state after so many draws
abbrev pub state_after : ℕ → ℕ → ℕ
state_after zero x = x
state_after (suc n) x = state_after n (next_state x)
