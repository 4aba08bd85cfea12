-- Whether an element is open.
use Rattle.std.proofs.Common.{◌≡◌, ℕ, ◌==◌, Bool, ◌||◌, List, [], ◌∷◌, reverse, refl, sym, ap, ◌∙◌}
use Rattle.std.specs.List.{list_any}
use Rattle.document_machine.specs.declared.building.OpenElement.{OpenElement}
use Rattle.document_machine.specs.Running.{ids_of}
use Rattle.document_machine.proofs.Opens.{list_any_reverse}

abbrev pub has_number : ℕ → OpenElement → Bool
has_number n e = e.id.0 == n

any_id : (n : ℕ) (os : List OpenElement) → list_any (λ m. m == n) (ids_of os) ≡ list_any (has_number n) os
any_id n [] = refl
any_id n (o ∷ os) = ap (λ b. (o.id.0 == n) || b) (any_id n os)

pub open_any : (n : ℕ) (os : List OpenElement) → list_any (has_number n) os ≡ list_any (λ m. m == n) (ids_of (reverse os))
open_any n os = sym (any_id n (reverse os) ∙ list_any_reverse (has_number n) os)
