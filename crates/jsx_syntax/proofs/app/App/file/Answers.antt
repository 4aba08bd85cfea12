-- What is kept of the rules without saying how they were met: they are met.
use Rattle.std.proofs.Common.{◌≡◌, ℕ, ◌≤◌, List, [], ◌∷◌, Option, Some, None, length, refl, codes}
use Rattle.std.proofs.Math.Logic.{∥∥₁_elim}
use Rattle.std.proofs.Props.{props}
use Rattle.jsx_syntax.specs.declared.file.File.{File}
use Rattle.jsx_syntax.specs.declared.name.Name.{Name}
use Rattle.jsx_syntax.specs.Rules.{HasApp, IsApp, IsSound, app_depth, most_components, most_depth, properties_of}
use Rattle.jsx_syntax.proofs.app.App.file.Goals as goal

never_none : (xs : List Name) → None ≡ Some xs → ⊥
never_none xs e = cc

never_more : (x : Name) (xs : List Name) → Some (x ∷ xs) ≡ Some [] → ⊥
never_more x xs e = cc

without_properties : (o : Option (List Name)) → ∥ o ≡ Some [] ∥₁ → o ≡ Some []
without_properties None h = absurd (∥∥₁_elim h (hlevel) (never_none []))
without_properties (Some []) h = refl
without_properties (Some (x ∷ xs)) h = absurd (∥∥₁_elim h (hlevel) (never_more x xs))

met : (file : File) → ∥ IsApp file ∥₁ → IsApp file
met file h = record {
  few = ∥∥₁_elim h (search props) (λ a. a.few);
  sound = λ rule at_ broken. ∥∥₁_elim h (hlevel) (λ a. a.sound rule at_ broken);
  app = without_properties (properties_of (codes "App") file.components) (∥∥₁_elim h squash₁ (λ a. ∣ a.app ∣₁));
  shallow = ∥∥₁_elim h (search props) (λ a. a.shallow);
}

pub returns-clause-app : goal.returns-clause-app
returns-clause-app c = met c.self.inside.file c.self.invariant
