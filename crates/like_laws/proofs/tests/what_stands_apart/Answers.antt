use Rattle.std.proofs.Common.{◌≡◌, ◌||◌, Bool, true, false, [], codes, refl, sym, ap, ◌∙◌}
use Rattle.std.specs.Str.{bytes_eq}
use Rattle.fizz_instructions.specs.Bodies.{placeholder_id, segment_id}
use Rattle.page_laws.proofs.IdsLemmas.{boundary_no_placeholder, boundary_no_segment, placeholder_no_segment}
use Rattle.like_laws.proofs.tests.what_stands_apart.Goals as goal

no : {A : Type 0} (b : Bool) → b ≡ false → b ≡ true → A
no b e f = absurd (let z : false ≡ true = sym e ∙ f in cc)

true_false : true ≡ false → ⊥
true_false e = cc

pub returns : goal.returns
returns c = record {
  own = (
    (λ h e. no false refl e),
    (λ h e. no false refl e),
    tt,
    (
      (λ h e. no (bytes_eq (codes "B:1") (segment_id [] h) || false) (ap (λ b. b || false) (boundary_no_segment [] 1 h)) e),
      (λ h e. no (bytes_eq (codes "B:1") (placeholder_id [] h) || false) (ap (λ b. b || false) (boundary_no_placeholder [] 1 h)) e),
      tt,
      tt,
    ),
  );
  placeholder = λ a. true_false (a.3.1 1 refl);
  after_end = (
    (λ h e. no false refl e),
    (λ h e. no false refl e),
    tt,
    (
      (λ h e. no (bytes_eq (codes "P:1") (segment_id [] h) || false) (ap (λ b. b || false) (placeholder_no_segment [] 1 h)) e),
      (λ h e. refl),
      tt,
      tt,
    ),
  );
  last = λ a. true_false ((a.0 1 refl).1);
  in_it =
      ((λ h e. (refl, refl)), (λ h e. refl), ((λ h e. no false refl e), (λ h e. no false refl e), tt, ((λ h e. no false refl e), (λ h e. no false refl e), tt, tt)), tt);
}
