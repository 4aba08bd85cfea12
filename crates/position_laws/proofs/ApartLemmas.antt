-- No gap of a piece leads to another.
use Rattle.std.proofs.Common.{◌≡◌, ℕ, suc, ◌+◌, ◌<◌, List, [], ◌∷◌, ◌++◌, refl, sym, ◌∙◌, subst, append_assoc, inl, inr, length, arith}
use Rattle.std.specs.Prelude.{Contains, AllPairs, ◌⊎◌}
use Rattle.std.proofs.lemmas.List.{append_cancel_left}
use Rattle.std.proofs.lemmas.List.Elements.{Contains-append_cases, Contains-get_or}
use Rattle.std.proofs.lemmas.List.Kept.{AllPairs-cons}
use Rattle.jsx_value.specs.Spots.{Label, nothing, text, element, array, boundary, wait, fail, Spots, none, spot, One}
use Rattle.position_laws.specs.Paths.{Under, Apart}
use Rattle.position_laws.specs.Gaps.{Gap, gap_path, gaps_below, gaps_of, label_gaps}
use Rattle.position_laws.proofs.GapsLemmas.{found_in, found_below, no_gap}

abbrev GapsApart : Gap → Gap → Type 0
GapsApart g h = Apart (gap_path g) (gap_path h)

-- each is apart from each later one
abbrev AreApart : List Gap → Type 0
AreApart [] = Unit {0}
AreApart (g ∷ gs) = ((h : Gap) → Contains gs h → GapsApart g h) × AreApart gs

joined : (gs hs : List Gap) → AreApart gs → AreApart hs → ((g h : Gap) → Contains gs g → Contains hs h → GapsApart g h) → AreApart (gs ++ hs)
joined [] hs x y z = y
joined (g ∷ gs) hs x y z = (
  λ h c. first (Contains-append_cases gs hs h c) h x.0 (λ k. z g k (front_member g gs)),
  joined gs hs x.1 y (λ a b c d. z a b (later_member g gs a c) d),
)
  where
    front_member : (k : Gap) (ks : List Gap) → Contains (k ∷ ks) k
    front_member k ks = (0, omega arith, refl)

    later_member : (k : Gap) (ks : List Gap) (a : Gap) → Contains ks a → Contains (k ∷ ks) a
    later_member k ks a c = let less : c.0 < length ks = c.1 in (suc c.0, omega arith, c.2)

    first : {h2 : Gap} → Contains gs h2 ⊎ Contains hs h2 → (h : Gap) → ((k : Gap) → Contains gs k → GapsApart g k)
        → ((k : Gap) → Contains hs k → GapsApart g k) → GapsApart g h2
    first (inl c) h f k = f _ c
    first (inr c) h f k = k _ c

same_head : (n m : ℕ) (xs ys : List ℕ) → n ∷ xs ≡ m ∷ ys → n ≡ m
same_head n m xs ys e = cc

not_under : (above : List ℕ) (n m : ℕ) (r q : List ℕ) → (n ≡ m → ⊥) → Under (above ++ n ∷ r) (above ++ m ∷ q) → ⊥
not_under above n m r q apart u =
    apart (same_head n m (r ++ u.rest) q (append_cancel_left above (n ∷ r ++ u.rest) (m ∷ q) (sym (append_assoc above (n ∷ r) u.rest) ∙ u.is)))

numbers_apart : (above : List ℕ) (n m : ℕ) (r q a b : List ℕ) → n < m → a ≡ above ++ n ∷ r → b ≡ above ++ m ∷ q → Apart a b
numbers_apart above n m r q a b less e f = record {
  first = λ u. not_under above n m r q (λ is. omega arith) (subst (λ (x : List ℕ). Under x (above ++ m ∷ q)) e (subst (Under a) f u));
  second = λ u. not_under above m n q r (λ is. omega arith) (subst (λ (x : List ℕ). Under x (above ++ n ∷ r)) f (subst (Under b) e u));
}

apart_here : (label : Label) (path : List ℕ) (kids : Spots) → AreApart (gaps_below path 0 kids) → AreApart (label_gaps label path (gaps_below path 0 kids))
apart_here nothing path kids h = tt
apart_here (text t) path kids h = tt
apart_here (element name attributes) path kids h = h
apart_here array path kids h = h
apart_here boundary path kids h = (λ g c. absurd (no_gap g c), tt)
apart_here (wait resource) path kids h = (λ g c. absurd (no_gap g c), tt)
apart_here (fail digest) path kids h = tt

apart_below : (spots : Spots) (above : List ℕ) (n : ℕ) → AreApart (gaps_below above n spots)
apart_below none above n = tt
apart_below (spot label kids other later) above n =
    joined (label_gaps label (above ++ n ∷ []) (gaps_below (above ++ n ∷ []) 0 kids)) (gaps_below above (n + 1) later)
    (apart_here label (above ++ n ∷ []) kids (apart_below kids (above ++ n ∷ []) 0)) (apart_below later above (n + 1))
    (λ g h c d.
    let f = found_in label (above ++ n ∷ []) kids other g (found_below kids (above ++ n ∷ []) 0 g) c in
    let l = found_below later above (n + 1) h d in
    numbers_apart above n (n + 1 + l.k) f.rest l.rest (gap_path g) (gap_path h) (omega arith) (f.is ∙ append_assoc above (n ∷ []) f.rest) l.path)

as_pairs : (gs : List Gap) → AreApart gs → AllPairs GapsApart gs
as_pairs [] h = λ i j d less within. absurd (omega arith)
as_pairs (g ∷ gs) h = AllPairs-cons GapsApart g gs (λ k d less. h.0 _ (Contains-get_or gs k d less)) (as_pairs gs h.1)

pub gaps_apart : (path : List ℕ) (one : One) → AllPairs GapsApart (gaps_of path one)
gaps_apart path one = as_pairs (gaps_of path one) (apart_here one.label path one.kids (apart_below one.kids path 0))
