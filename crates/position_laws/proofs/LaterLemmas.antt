-- What stands at a path, once more was settled.
use Rattle.std.proofs.Common.{◌≡◌, ◌≢◌, ℕ, zero, suc, Bool, true, false, List, [], ◌∷◌, Option, Some, None, refl, ap, ◌∙◌, subst}
use Rattle.std.specs.Prelude.{option_and_then}
use Rattle.jsx_value.specs.Spots.{Label, nothing, text, element, array, boundary, wait, fail, One, Spots, nth, inside, at}
use Rattle.position_laws.specs.Later.{Later, ends, stays, opens, LaterOne, stays_one, opens_one}
use Rattle.position_laws.specs.Paths.{Under}

module _ (known : List ℕ → Bool) where
  -- Two options: both there and one later than the other, or none.
  pub data MetHere (x y : Option One) : Type 0 where
    both : (a b : One) → x ≡ Some a → y ≡ Some b → LaterOne known a b → MetHere x y
    neither : x ≡ None → y ≡ None → MetHere x y

  pub met_nth : (n : ℕ) (s t : Spots) → Later known s t → MetHere (nth s n) (nth t n)
  met_nth n _ _ ends = neither refl refl
  met_nth zero _ _ (stays label kids other later kids' other' later' k o l) =
      both _ _ refl refl (stays_one label kids other kids' other' k o)
  met_nth (suc n) _ _ (stays label kids other later kids' other' later' k o l) = met_nth n later later' l
  met_nth zero _ _ (opens resource label' kids other later kids' other' later' k l) =
      both _ _ refl refl (opens_one resource label' kids other kids' other' k)
  met_nth (suc n) _ _ (opens resource label' kids other later kids' other' later' k l) = met_nth n later later' l

  pub met_inside : (label : Label) (kids other kids' other' : Spots) (n : ℕ) → Later known kids kids' → Later known other other'
      → MetHere (inside label kids other n) (inside label kids' other' n)
  met_inside nothing kids other kids' other' n k o = neither refl refl
  met_inside (text t) kids other kids' other' n k o = neither refl refl
  met_inside (element name attributes) kids other kids' other' n k o = met_nth n kids kids' k
  met_inside array kids other kids' other' n k o = met_nth n kids kids' k
  met_inside boundary kids other kids' other' zero k o = met_nth 0 kids kids' k
  met_inside boundary kids other kids' other' (suc zero) k o = met_nth 0 other other' o
  met_inside boundary kids other kids' other' (suc (suc n)) k o = neither refl refl
  met_inside (wait resource) kids other kids' other' n k o = neither refl refl
  met_inside (fail digest) kids other kids' other' n k o = neither refl refl

  -- What stands at a path before and after: both, one later than the other; nothing; or what has opened since stands
  -- above it.
  pub data Met (a b : One) (path : List ℕ) : Type 0 where
    both_stand : (x y : One) → at a path ≡ Some x → at b path ≡ Some y → LaterOne known x y → Met a b path
    none_stands : at a path ≡ None → at b path ≡ None → Met a b path
    has_opened : (above : List ℕ) (x : One) (resource : List ℕ) → at a above ≡ Some x → x.label ≡ wait resource
        → known resource ≡ true → Under above path → at a path ≡ None → Met a b path

  below : (a x : One) (n : ℕ) (path : List ℕ) → inside a.label a.kids a.other n ≡ Some x → at a (n ∷ path) ≡ at x path
  below a x n path e = ap (option_and_then (λ o. at o path)) e

  below_none : (a : One) (n : ℕ) (path : List ℕ) → inside a.label a.kids a.other n ≡ None → at a (n ∷ path) ≡ None
  below_none a n path e = ap (option_and_then (λ o. at o path)) e

  met_below : (a b x y : One) (n : ℕ) (path : List ℕ) → inside a.label a.kids a.other n ≡ Some x
      → inside b.label b.kids b.other n ≡ Some y → Met x y path → Met a b (n ∷ path)
  met_below a b x y n path e f (both_stand v w g h l) = both_stand v w (below a x n path e ∙ g) (below b y n path f ∙ h) l
  met_below a b x y n path e f (none_stands g h) = none_stands (below a x n path e ∙ g) (below b y n path f ∙ h)
  met_below a b x y n path e f (has_opened above v resource g w k u h) =
      has_opened (n ∷ above) v resource (below a x n above e ∙ g) w k (record { rest = u.rest; is = ap (λ p. n ∷ p) u.is }) (below a x n path e ∙ h)

  pub met : (path : List ℕ) (a b : One) → LaterOne known a b → Met a b path
  met [] a b l = both_stand a b refl refl l
  met (n ∷ path) _ _ (opens_one resource label' kids other kids' other' k) =
      has_opened [] _ resource refl refl k (record { rest = n ∷ path; is = refl }) refl
  met (n ∷ path) _ _ (stays_one label kids other kids' other' k o) =
      onward (met_inside label kids other kids' other' n k o) (λ x y l. met path x y l)
    where
      onward : MetHere (inside label kids other n) (inside label kids' other' n) → ((x y : One) → LaterOne known x y → Met x y path)
          → Met (record { label = label; kids = kids; other = other }) (record { label = label; kids = kids'; other = other' }) (n ∷ path)
      onward (both x y e f l) go = met_below _ _ x y n path e f (go x y l)
      onward (neither e f) go = none_stands (below_none _ n path e) (below_none _ n path f)

  some_one : (o : Option One) (x y : One) → o ≡ Some x → o ≡ Some y → x ≡ y
  some_one o x y e f = cc

  none_some : (o : Option One) (x : One) → o ≡ None → o ≡ Some x → ⊥
  none_some o x e f = cc

  apart : (b : Bool) → b ≡ true → b ≡ false → ⊥
  apart b e f = cc

  same_resource : (l : Label) (q r : List ℕ) → l ≡ wait q → l ≡ wait r → q ≡ r
  same_resource l q r e f = cc

  -- One that doesn't wait, later.
  grown_one : (x y : One) → LaterOne known x y → ((resource : List ℕ) → x.label ≢ wait resource)
      → (x.label ≡ y.label) × Later known x.kids y.kids × Later known x.other y.other
  grown_one _ _ (stays_one label kids other kids' other' k o) w = (refl, k, o)
  grown_one _ _ (opens_one resource label' kids other kids' other' k) w = absurd (w resource refl)

  pub grows : (a b x : One) (path : List ℕ) → LaterOne known a b → at a path ≡ Some x
      → ((resource : List ℕ) → x.label ≢ wait resource)
      → (y : One) × (at b path ≡ Some y) × (x.label ≡ y.label) × Later known x.kids y.kids × Later known x.other y.other
  grows a b x path l e w = by_cases (met path a b l)
    where
      by_cases : Met a b path
          → (y : One) × (at b path ≡ Some y) × (x.label ≡ y.label) × Later known x.kids y.kids × Later known x.other y.other
      by_cases (both_stand v y g h m) =
          let is : v ≡ x = some_one _ v x g e in
          let same = grown_one x y (subst (λ (z : One). LaterOne known z y) is m) w in (y, h, same.0, same.1, same.2)
      by_cases (none_stands g h) = absurd (none_some _ x g e)
      by_cases (has_opened above v resource g w2 k u h) = absurd (none_some _ x h e)

  still_waits : (x y : One) (resource : List ℕ) → LaterOne known x y → x.label ≡ wait resource → known resource ≡ false
      → y.label ≡ wait resource
  still_waits _ _ resource (stays_one label kids other kids' other' k o) e n = e
  still_waits _ _ resource (opens_one r label' kids other kids' other' k) e n =
      absurd (apart _ (subst (λ q. known q ≡ true) (same_resource _ r resource refl e) k) n)

  pub waits_on : (a b x : One) (path resource : List ℕ) → LaterOne known a b → at a path ≡ Some x → x.label ≡ wait resource
      → known resource ≡ false → (y : One) × (at b path ≡ Some y) × (y.label ≡ wait resource)
  waits_on a b x path resource l e w n = by_cases (met path a b l)
    where
      by_cases : Met a b path → (y : One) × (at b path ≡ Some y) × (y.label ≡ wait resource)
      by_cases (both_stand v y g h m) =
          let is : v ≡ x = some_one _ v x g e in
          (y, h, still_waits x y resource (subst (λ (z : One). LaterOne known z y) is m) w n)
      by_cases (none_stands g h) = absurd (none_some _ x g e)
      by_cases (has_opened above v r g w2 k u h) = absurd (none_some _ x h e)
