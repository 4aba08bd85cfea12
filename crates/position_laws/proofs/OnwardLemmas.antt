-- What is later than what is later is later, and the settled tree is later than all.
use Rattle.std.proofs.Common.{◌≡◌, ℕ, Bool, true, List, refl, sym, ap, subst}
use Rattle.jsx_value.specs.Spots.{Label, nothing, text, element, array, boundary, wait, fail, Spots, none, spot, One, settled, settled_label}
use Rattle.position_laws.specs.Later.{Later, ends, stays, opens, LaterOne, stays_one, opens_one, settled_one}

pub later_refl : (known : List ℕ → Bool) (s : Spots) → Later known s s
later_refl known none = ends
later_refl known (spot label kids other later) =
    stays label kids other later kids other later (later_refl known kids) (later_refl known other) (later_refl known later)

pub later_one_refl : (known : List ℕ → Bool) (a : One) → LaterOne known a a
later_one_refl known a = stays_one a.label a.kids a.other a.kids a.other (later_refl known a.kids) (later_refl known a.other)

module _ (first second both : List ℕ → Bool) (in_first : (r : List ℕ) → first r ≡ true → both r ≡ true)
    (in_second : (r : List ℕ) → second r ≡ true → both r ≡ true) where
  same_label : (l m : Label) (a b c d e f : Spots) → spot l a b c ≡ spot m d e f → l ≡ m
  same_label l m a b c d e f h = cc

  same_kids : (l m : Label) (a b c d e f : Spots) → spot l a b c ≡ spot m d e f → a ≡ d
  same_kids l m a b c d e f h = cc

  same_other : (l m : Label) (a b c d e f : Spots) → spot l a b c ≡ spot m d e f → b ≡ e
  same_other l m a b c d e f h = cc

  same_later : (l m : Label) (a b c d e f : Spots) → spot l a b c ≡ spot m d e f → c ≡ f
  same_later l m a b c d e f h = cc

  apart_spots : (m : Label) (d e f : Spots) → none ≡ spot m d e f → ⊥
  apart_spots m d e f h = cc

  none_later : (t u : Spots) → Later second t u → t ≡ none → Later both none u
  none_later _ _ ends e = ends
  none_later _ _ (stays label kids other later kids' other' later' k o l) e = absurd (apart_spots label kids other later (sym e))
  none_later _ _ (opens resource label' kids other later kids' other' later' k l) e = absurd (apart_spots (wait resource) kids other later (sym e))

  -- stayed, and then
  stayed : (label : Label) (kids other later kids1 other1 later1 : Spots) (t u : Spots) → Later second t u → t ≡ spot label kids1 other1 later1
      → ((v : Spots) → Later second kids1 v → Later both kids v) → ((v : Spots) → Later second other1 v → Later both other v)
      → ((v : Spots) → Later second later1 v → Later both later v) → Later both (spot label kids other later) u
  stayed label kids other later kids1 other1 later1 _ _ ends e f g h = absurd (apart_spots label kids1 other1 later1 e)
  stayed label kids other later kids1 other1 later1 _ _ (stays m a b c a' b' c' k o l) e f g h =
      subst (λ (x : Label). Later both (spot label kids other later) (spot x a' b' c')) (sym (same_label m label a b c kids1 other1 later1 e))
      (stays label kids other later a' b' c'
      (f a' (subst (λ (x : Spots). Later second x a') (same_kids m label a b c kids1 other1 later1 e) k))
      (g b' (subst (λ (x : Spots). Later second x b') (same_other m label a b c kids1 other1 later1 e) o))
      (h c' (subst (λ (x : Spots). Later second x c') (same_later m label a b c kids1 other1 later1 e) l)))
  stayed label kids other later kids1 other1 later1 _ _ (opens r m a b c a' b' c' k l) e f g h =
      subst (λ (x : Label). Later both (spot x kids other later) (spot m a' b' c')) (same_label (wait r) label a b c kids1 other1 later1 e)
      (opens r m kids other later a' b' c' (in_second r k)
      (h c' (subst (λ (x : Spots). Later second x c') (same_later (wait r) label a b c kids1 other1 later1 e) l)))

  -- opened, and then
  opened_then : (r : List ℕ) (label : Label) (kids other later kids1 other1 later1 : Spots) (t u : Spots) → Later second t u → t ≡ spot label kids1 other1 later1
      → first r ≡ true → ((v : Spots) → Later second later1 v → Later both later v) → Later both (spot (wait r) kids other later) u
  opened_then r label kids other later kids1 other1 later1 _ _ ends e k h = absurd (apart_spots label kids1 other1 later1 e)
  opened_then r label kids other later kids1 other1 later1 _ _ (stays m a b c a' b' c' ks o l) e k h =
      opens r m kids other later a' b' c' (in_first r k)
      (h c' (subst (λ (x : Spots). Later second x c') (same_later m label a b c kids1 other1 later1 e) l))
  opened_then r label kids other later kids1 other1 later1 _ _ (opens q m a b c a' b' c' kn l) e k h =
      opens r m kids other later a' b' c' (in_first r k)
      (h c' (subst (λ (x : Spots). Later second x c') (same_later (wait q) label a b c kids1 other1 later1 e) l))

  pub later_trans : (s t u : Spots) → Later first s t → Later second t u → Later both s u
  later_trans _ _ u ends m = none_later none u m refl
  later_trans _ _ u (stays label kids other later kids' other' later' k o l) m =
      stayed label kids other later kids' other' later' (spot label kids' other' later') u m refl
      (λ v n. later_trans kids kids' v k n) (λ v n. later_trans other other' v o n) (λ v n. later_trans later later' v l n)
  later_trans _ _ u (opens resource label' kids other later kids' other' later' k l) m =
      opened_then resource label' kids other later kids' other' later' (spot label' kids' other' later') u m refl k
      (λ v n. later_trans later later' v l n)

  pub later_one_trans : (a b c : One) → LaterOne first a b → LaterOne second b c → LaterOne both a c
  later_one_trans _ _ c (stays_one label kids other kids' other' k o) m = after (record { label = label; kids = kids'; other = other' }) c m refl
    where
      one_label : (x y : One) → x ≡ y → x.label ≡ y.label
      one_label x y e = ap (λ (z : One). z.label) e

      after : (b2 c2 : One) → LaterOne second b2 c2 → b2 ≡ record { label = label; kids = kids'; other = other' }
          → LaterOne both (record { label = label; kids = kids; other = other }) c2
      after _ _ (stays_one l a b a' b' x y) e =
          subst (λ (z : Label). LaterOne both (record { label = label; kids = kids; other = other }) (record { label = z; kids = a'; other = b' }))
          (sym (ap (λ (z : One). z.label) e))
          (stays_one label kids other a' b'
          (later_trans kids kids' a' k (subst (λ (z : Spots). Later second z a') (ap (λ (z : One). z.kids) e) x))
          (later_trans other other' b' o (subst (λ (z : Spots). Later second z b') (ap (λ (z : One). z.other) e) y)))
      after _ _ (opens_one r l a b a' b' x) e =
          subst (λ (z : Label). LaterOne both (record { label = z; kids = kids; other = other }) (record { label = l; kids = a'; other = b' }))
          (ap (λ (z : One). z.label) e)
          (opens_one r l kids other a' b' (in_second r x))
  later_one_trans _ _ c (opens_one resource label' kids other kids' other' k) m =
      opens_one resource c.label kids other c.kids c.other (in_first resource k)

pub settled_later : (s : Spots) → Later (λ r. true) s (settled s)
settled_later none = ends
settled_later (spot label kids other later) = by_label label (settled_later kids) (settled_later other) (settled_later later)
  where
    by_label : (l : Label) → Later (λ r. true) kids (settled kids) → Later (λ r. true) other (settled other) → Later (λ r. true) later (settled later)
        → Later (λ r. true) (spot l kids other later) (spot (settled_label l) (settled kids) (settled other) (settled later))
    by_label nothing k o m = stays nothing kids other later (settled kids) (settled other) (settled later) k o m
    by_label (text t) k o m = stays (text t) kids other later (settled kids) (settled other) (settled later) k o m
    by_label (element name attributes) k o m = stays (element name attributes) kids other later (settled kids) (settled other) (settled later) k o m
    by_label array k o m = stays array kids other later (settled kids) (settled other) (settled later) k o m
    by_label boundary k o m = stays boundary kids other later (settled kids) (settled other) (settled later) k o m
    by_label (wait r) k o m = opens r _ kids other later (settled kids) (settled other) (settled later) refl m
    by_label (fail d) k o m = stays (fail d) kids other later (settled kids) (settled other) (settled later) k o m

pub settled_one_later : (one : One) → LaterOne (λ r. true) one (settled_one one)
settled_one_later one = by_label one.label one.kids one.other
  where
    by_label : (l : Label) (kids other : Spots)
        → LaterOne (λ r. true) (record { label = l; kids = kids; other = other }) (record { label = settled_label l; kids = settled kids; other = settled other })
    by_label nothing kids other = stays_one nothing kids other (settled kids) (settled other) (settled_later kids) (settled_later other)
    by_label (text t) kids other = stays_one (text t) kids other (settled kids) (settled other) (settled_later kids) (settled_later other)
    by_label (element name attributes) kids other =
        stays_one (element name attributes) kids other (settled kids) (settled other) (settled_later kids) (settled_later other)
    by_label array kids other = stays_one array kids other (settled kids) (settled other) (settled_later kids) (settled_later other)
    by_label boundary kids other = stays_one boundary kids other (settled kids) (settled other) (settled_later kids) (settled_later other)
    by_label (wait r) kids other = opens_one r _ kids other (settled kids) (settled other) refl
    by_label (fail d) kids other = stays_one (fail d) kids other (settled kids) (settled other) (settled_later kids) (settled_later other)
