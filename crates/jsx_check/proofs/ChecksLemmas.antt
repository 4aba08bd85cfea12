-- What a file is refused for, and accepted.
use Rattle.std.proofs.Common.{◌≡◌, ℕ, ◌<◌, ◌≤◌, Bool, true, false, Option, Some, None, length, refl, sym, ◌∙◌, subst, arith}
use Rattle.std.specs.Prelude.{IsTrue, ◌↔◌}
use Rattle.jsx_syntax.specs.Rules.{HasApp, IsApp, app_depth, most_components, most_depth}
use Rattle.jsx_syntax.specs.declared.file.File.{File}
use Rattle.jsx_check.specs.Checks.{told_as}
use Rattle.jsx_check.specs.Firsts.{Decides}
use Rattle.jsx_check.specs.declared.found.Found.{Found}

-- A file with a broken rule is no app.
pub found_no_app : (file : File) (o : Option Found) (f : Found) → o ≡ Some f → Decides file o → IsApp file → ⊥
found_no_app file o f is d app = app.sound f.rule f.at (d.broken f is).broken

pub is_none : {X : Type 0} (o : Option X) → ((x : X) → o ≡ Some x → ⊥) → o ≡ None
is_none None h = refl
is_none (Some x) h = absurd (h x refl)

pub few_enough : (n : ℕ) → n ≤ 1000 → n ≤ most_components
unfolding most_components
few_enough n h = h

pub too_deep : (n : ℕ) → 256 < told_as n → most_depth < n
unfolding most_depth
too_deep n h = omega (arith, h)

shallow_enough : (n : ℕ) → told_as n ≤ 256 → n ≤ most_depth
unfolding most_depth
shallow_enough n h = omega (arith, h)

pub no_app : (file : File) (b : Bool) → (IsTrue b ↔ HasApp file) → b ≡ false → HasApp file → ⊥
no_app file b h e app = let t : true ≡ false = sym (h.1 app) ∙ e in absurd (cc)

pub met : (file : File) (o : Option Found) (b : Bool) (n : ℕ) → n ≡ told_as (app_depth file) → length file.components ≤ 1000
    → o ≡ None → Decides file o → (IsTrue b ↔ HasApp file) → b ≡ true → n ≤ 256 → IsApp file
met file o b n depth few none d h e l = record {
  few = few_enough (length file.components) few;
  sound = d.sound none;
  app = h.0 e;
  shallow = shallow_enough (app_depth file) (subst (λ k. k ≤ 256) depth l);
}
