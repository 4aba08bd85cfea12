-- A draw, by arithmetic that wraps twice.
use Rattle.std.proofs.Common.{◌≡◌, ap, ℕ, ◌+◌, ◌*◌, ◌/◌, ◌%◌}
use Rattle.std.proofs.Math.Nat.{mod-add-mod}
use Rattle.page_generator.specs.Draws.{draw_of, next_state}

pub state_step : (x : ℕ) → (x * 6364136223846793005 % 18446744073709551616 + 1442695040888963407) % 18446744073709551616 ≡ next_state x
unfolding next_state
state_step x = mod-add-mod (x * 6364136223846793005) 18446744073709551616 1442695040888963407

pub draw_step : (x : ℕ) → (x * 6364136223846793005 % 18446744073709551616 + 1442695040888963407) % 18446744073709551616 / 8589934592 ≡ draw_of x
unfolding draw_of
draw_step x = ap (λ s. s / 8589934592) (state_step x)
