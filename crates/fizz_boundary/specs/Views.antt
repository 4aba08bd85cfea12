-- What a look at a boundary tells.
use Rattle.std.specs.Prelude.{◌≡◌, ℕ, Option, Some, None}
use Rattle.fizz_boundary.specs.declared.boundary.State.{State}
use Rattle.fizz_boundary.specs.declared.boundary.State.TheVariants.{Pending, Complete, Failed}
use Rattle.fizz_boundary.specs.declared.boundary.Status.{Status}
use Rattle.fizz_boundary.specs.declared.boundary.Status.TheVariants.{Pending as PendingShown, Complete as CompleteShown, Failed as FailedShown}
use Rattle.fizz_boundary.specs.declared.boundary.Bound.{Bound}
use Rattle.fizz_boundary.specs.declared.boundary.BoundaryView.{BoundaryView}
use Rattle.fizz_boundary.specs.Bounds.{Bounds, bound_at, mark_at}

-- how far a boundary is; of a pending one not its bytes
abbrev pub Shows : Status → State → Type 0
Shows (PendingShown count) (Pending tasks bytes) = count ≡ tasks
Shows (PendingShown count) (Complete bytes) = ⊥
Shows (PendingShown count) (Failed digest) = ⊥
Shows (CompleteShown size) (Pending tasks bytes) = ⊥
Shows (CompleteShown size) (Complete bytes) = size ≡ bytes
Shows (CompleteShown size) (Failed digest) = ⊥
Shows (FailedShown text) (Pending tasks bytes) = ⊥
Shows (FailedShown text) (Complete bytes) = ⊥
Shows (FailedShown text) (Failed digest) = text.now ≡ digest

abbrev pub OfBound : (Bound → Type 0) → Option Bound → Type 0
OfBound fact None = ⊥
OfBound fact (Some bound) = fact bound

pub record IsLook (all : Bounds) (id : ℕ) (view : BoundaryView) : Type 0 where
  pub bound : OfBound (λ b. (view.parent ≡ b.parent) × (view.root ≡ b.root) × (view.site ≡ b.site)) (bound_at all.bounds id)
  pub mark : mark_at all.marks id ≡ record { drawn = view.drawn; revealed = view.revealed }
