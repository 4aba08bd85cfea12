-- The kids of a segment, when segments are added, completed and forgotten.
use Rattle.std.proofs.Common.{◌≡◌, ℕ, zero, suc, ◌+◌, ◌≤◌, ◌<◌, Bool, true, false, not, cond, eqb, Option, Some, None, List, [], ◌∷◌, ◌++◌, length, filter, take, drop, get_or, slice_set, inl, inr, refl, sym, ap, ◌∙◌, subst, arith}
use Rattle.std.proofs.lemmas.Bool.{cases_Bool, cases_lt, cond-false, cond-true, eq-eqb, false≢true, ne_eqb}
use Rattle.std.proofs.lemmas.List.{get_or_past, set_past}
use Rattle.fizz_segment.specs.declared.segment.Part.{Part}
use Rattle.fizz_segment.specs.Calls.{with_bytes}
use Rattle.fizz_segment.proofs.Kids.{inside}
use Rattle.fizz_segment.specs.Tree.{IsKidThere, after, is_kid, is_parent, kids_from, kids_of, part_at}

plus_suc : (n m : ℕ) → n + 1 + m ≡ n + suc m
plus_suc n m = omega arith

none_plus : (n : ℕ) → 0 + n ≡ n
none_plus n = omega arith

no_item : (n : ℕ) (ns : List ℕ) → [] ≡ n ∷ ns → ⊥
no_item n ns h = cc

one_more : (b : Bool) (n : ℕ) (all rest last : List ℕ) → all ≡ rest ++ last → cond b (n ∷ all) all ≡ cond b (n ∷ rest) rest ++ last
one_more true n all rest last e = ap (λ (l : List ℕ). n ∷ l) e
one_more false n all rest last e = e

kept : (b : Bool) (n m : ℕ) (rest : List ℕ) → eqb n m ≡ false → filter (λ k. not (eqb k m)) rest ≡ rest
    → filter (λ k. not (eqb k m)) (cond b (n ∷ rest) rest) ≡ cond b (n ∷ rest) rest
kept true n m rest other e = ap (λ (t : Bool). cond (not t) (n ∷ filter (λ k. not (eqb k m)) rest) (filter (λ k. not (eqb k m)) rest)) other ∙ ap (λ (l : List ℕ). n ∷ l) e
kept false n m rest other e = e

lost : (b : Bool) (n m : ℕ) (rest : List ℕ) → eqb n m ≡ true → filter (λ k. not (eqb k m)) rest ≡ rest
    → filter (λ k. not (eqb k m)) (cond b (n ∷ rest) rest) ≡ rest
lost true n m rest same e = ap (λ (t : Bool). cond (not t) (n ∷ filter (λ k. not (eqb k m)) rest) (filter (λ k. not (eqb k m)) rest)) same ∙ e
lost false n m rest same e = e

by_tests : (b : Bool) (n m : ℕ) (now was : List ℕ) → eqb n m ≡ false → now ≡ filter (λ k. not (eqb k m)) was
    → cond b (n ∷ now) now ≡ filter (λ k. not (eqb k m)) (cond b (n ∷ was) was)
by_tests true n m now was other e =
    ap (λ (l : List ℕ). n ∷ l) e ∙ sym (ap (λ (t : Bool). cond (not t) (n ∷ filter (λ k. not (eqb k m)) was) (filter (λ k. not (eqb k m)) was)) other)
by_tests false n m now was other e = e

behind : (b : Bool) (n m : ℕ) (rest : List ℕ) → (before : List ℕ) × (later : List ℕ) × (rest ≡ before ++ m ∷ later)
    → (before : List ℕ) × (later : List ℕ) × (cond b (n ∷ rest) rest ≡ before ++ m ∷ later)
behind true n m rest found = (n ∷ found.0, found.1, ap (λ (l : List ℕ). n ∷ l) found.2)
behind false n m rest found = found

kids-append : (id first : ℕ) (parts : List (Option Part)) (part : Option Part)
    → kids_from id first (parts ++ part ∷ []) ≡ kids_from id first parts ++ (cond (is_kid id part) ((first + length parts) ∷ []) [])
kids-append id first [] part = by_test (is_kid id part)
  where
    by_test : (b : Bool) → cond b (first ∷ []) [] ≡ cond b ((first + 0) ∷ []) []
    by_test true = ap (λ n. n ∷ []) (omega arith)
    by_test false = refl
kids-append id first (own ∷ parts) part = one_more (is_kid id own) first (kids_from id (first + 1) (parts ++ part ∷ []))
    (kids_from id (first + 1) parts) (cond (is_kid id part) ((first + suc (length parts)) ∷ []) [])
    (kids-append id (first + 1) parts part ∙ ap (λ n. kids_from id (first + 1) parts ++ (cond (is_kid id part) (n ∷ []) [])) (plus_suc first (length parts)))

pub kids_added : (parts : List (Option Part)) (part : Part) (id : ℕ)
    → kids_of (parts ++ Some part ∷ []) id ≡ kids_of parts id ++ (cond (is_parent id part.parent) (length parts ∷ []) [])
kids_added parts part id =
    kids-append id 0 parts (Some part)
    ∙ ap (λ n. kids_of parts id ++ (cond (is_parent id part.parent) (n ∷ []) [])) (none_plus (length parts))

kids_set : (id first : ℕ) (parts : List (Option Part)) (k : ℕ) (part : Option Part) → is_kid id part ≡ is_kid id (get_or parts k None)
    → kids_from id first (slice_set parts k part) ≡ kids_from id first parts
kids_set id first [] k part same = refl
kids_set id first (own ∷ parts) zero part same = ap (λ (b : Bool). cond b (first ∷ kids_from id (first + 1) parts) (kids_from id (first + 1) parts)) same
kids_set id first (own ∷ parts) (suc k) part same =
    ap (λ (l : List ℕ). cond (is_kid id own) (first ∷ l) l) (kids_set id (first + 1) parts k part same)

same_kid : (id : ℕ) (bytes : List ℕ) (part : Option Part) → is_kid id (with_bytes bytes part) ≡ is_kid id part
same_kid id bytes None = refl
same_kid id bytes (Some part) = refl

pub kids_completed : (parts : List (Option Part)) (other id : ℕ) (bytes : List ℕ)
    → kids_of (slice_set parts other (with_bytes bytes (part_at parts other))) id ≡ kids_of parts id
kids_completed parts other id bytes =
    kids_set id 0 parts other (with_bytes bytes (part_at parts other)) (same_kid id bytes (part_at parts other))

-- numbers below the first one are no kids
kids_above : (id first : ℕ) (parts : List (Option Part)) (m : ℕ) → m < first
    → filter (λ k. not (eqb k m)) (kids_from id first parts) ≡ kids_from id first parts
kids_above id first [] m below = refl
kids_above id first (part ∷ parts) m below = kept (is_kid id part) first m (kids_from id (first + 1) parts)
    (ne_eqb first m (λ e. omega (arith, e, below))) (kids_above id (first + 1) parts m (omega (arith, below)))

kids_gone : (id first : ℕ) (parts : List (Option Part)) (k : ℕ)
    → kids_from id first (slice_set parts k None) ≡ filter (λ n. not (eqb n (first + k))) (kids_from id first parts)
kids_gone id first [] k = refl
kids_gone id first (part ∷ parts) zero =
    sym (lost (is_kid id part) first (first + 0) (kids_from id (first + 1) parts) (eq-eqb first (first + 0) (omega arith))
    (kids_above id (first + 1) parts (first + 0) (omega arith)))
kids_gone id first (part ∷ parts) (suc k) =
    let later : kids_from id (first + 1) (slice_set parts k None) ≡ filter (λ n. not (eqb n (first + suc k))) (kids_from id (first + 1) parts) =
    kids_gone id (first + 1) parts k ∙ ap (λ m. filter (λ n. not (eqb n m)) (kids_from id (first + 1) parts)) (plus_suc first k) in
    by_tests (is_kid id part) first (first + suc k) (kids_from id (first + 1) (slice_set parts k None)) (kids_from id (first + 1) parts)
    (ne_eqb first (first + suc k) (λ e. omega (arith, e))) later

pub kids_forgotten : (parts : List (Option Part)) (other id : ℕ)
    → kids_of (slice_set parts other None) id ≡ filter (λ k. not (eqb k other)) (kids_of parts id)
kids_forgotten parts other id =
    kids_gone id 0 parts other ∙ ap (λ m. filter (λ n. not (eqb n m)) (kids_of parts id)) (none_plus other)

-- a kid stands among the kids of its parent
kid_among : (id first : ℕ) (parts : List (Option Part)) (i : ℕ) → i < length parts → is_kid id (get_or parts i None) ≡ true
    → (before : List ℕ) × (later : List ℕ) × (kids_from id first parts ≡ before ++ (first + i) ∷ later)
kid_among id first [] i inside kid = absurd (omega arith)
kid_among id first (part ∷ parts) zero inside kid = (
  [],
  kids_from id (first + 1) parts,
  cond-true (is_kid id part) _ _ kid ∙ ap (λ n. n ∷ kids_from id (first + 1) parts) (omega arith),
)
kid_among id first (part ∷ parts) (suc i) inside kid =
    behind (is_kid id part) first (first + suc i) (kids_from id (first + 1) parts)
    (let found : (before : List ℕ) × (later : List ℕ) × (kids_from id (first + 1) parts ≡ before ++ (first + 1 + i) ∷ later) =
    kid_among id (first + 1) parts i (omega (arith, inside)) kid in
    (found.0, found.1, found.2 ∙ ap (λ n. found.0 ++ n ∷ found.1) (plus_suc first i)))

pub kid_stands : (parts : List (Option Part)) (kid id : ℕ) (part : Part) → part_at parts kid ≡ Some part → part.parent ≡ Some id
    → (before : List ℕ) × (later : List ℕ) × (kids_of parts id ≡ before ++ kid ∷ later)
kid_stands parts kid id part live own =
    let found : (before : List ℕ) × (later : List ℕ) × (kids_of parts id ≡ before ++ (0 + kid) ∷ later) =
    kid_among id 0 parts kid (inside parts kid part live) (ap (is_kid id) live ∙ ap (is_parent id) own ∙ eq-eqb id id refl) in
    (found.0, found.1, found.2 ∙ ap (λ n. found.0 ++ n ∷ found.1) (none_plus kid))

head_same : (n m : ℕ) (ns ms : List ℕ) → n ∷ ns ≡ m ∷ ms → n ≡ m
head_same n m ns ms h = cc

tail_same : (n m : ℕ) (ns ms : List ℕ) → n ∷ ns ≡ m ∷ ms → ns ≡ ms
tail_same n m ns ms h = cc

record IsKidFrom (id first : ℕ) (parts : List (Option Part)) (kid : ℕ) (all later : List ℕ) : Type 0 where
  is_later : after kid all ≡ later
  above : first ≤ kid
  is_one : (i : ℕ) → first + i ≡ kid → is_kid id (get_or parts i None) ≡ true

further : (id first : ℕ) (part : Option Part) (parts : List (Option Part)) (kid : ℕ) → first + 1 ≤ kid
    → ((i : ℕ) → first + 1 + i ≡ kid → is_kid id (get_or parts i None) ≡ true)
    → (i : ℕ) → first + i ≡ kid → is_kid id (get_or (part ∷ parts) i None) ≡ true
further id first part parts kid above later zero e = absurd (omega (arith, above, e))
further id first part parts kid above later (suc i) e = later i (omega (arith, e))

with_head : (id first : ℕ) (part : Option Part) (parts : List (Option Part)) (before later : List ℕ) (kid : ℕ) → is_kid id part ≡ true
    → first ∷ kids_from id (first + 1) parts ≡ before ++ kid ∷ later
    → ((front : List ℕ) → kids_from id (first + 1) parts ≡ front ++ kid ∷ later → IsKidFrom id (first + 1) parts kid (kids_from id (first + 1) parts) later)
    → IsKidFrom id first (part ∷ parts) kid (kids_from id first (part ∷ parts)) later
with_head id first part parts [] later kid one is again =
    let same : kid ≡ first = cc in
    let rest : kids_from id (first + 1) parts ≡ later = cc in
    record {
      is_later = ap (after kid) (cond-true (is_kid id part) _ _ one) ∙ cond-true (eqb kid first) _ _ (eq-eqb kid first same) ∙ rest;
      above = omega (arith, same);
      is_one = here;
    }
  where
    here : (i : ℕ) → first + i ≡ kid → is_kid id (get_or (part ∷ parts) i None) ≡ true
    here zero e = one
    here (suc i) e = absurd (omega (arith, e, head_same first kid (kids_from id (first + 1) parts) later is))
with_head id first part parts (b ∷ before) later kid one is again =
    let rest : IsKidFrom id (first + 1) parts kid (kids_from id (first + 1) parts) later = again before (tail_same first b (kids_from id (first + 1) parts) (before ++ kid ∷ later) is) in
    record {
      is_later = ap (after kid) (cond-true (is_kid id part) _ _ one)
          ∙ cond-false (eqb kid first) _ _ (ne_eqb kid first (λ e. omega (arith, e, rest.above))) ∙ rest.is_later;
      above = omega (arith, rest.above);
      is_one = further id first part parts kid rest.above rest.is_one;
    }

split_from : (id first : ℕ) (parts : List (Option Part)) (before later : List ℕ) (kid : ℕ) → kids_from id first parts ≡ before ++ kid ∷ later
    → IsKidFrom id first parts kid (kids_from id first parts) later
split_from id first [] [] later kid is = absurd (no_item kid later is)
split_from id first [] (b ∷ before) later kid is = absurd (no_item b (before ++ kid ∷ later) is)
split_from id first (part ∷ parts) before later kid is = elim (cases_Bool (is_kid id part)) [
  | inl one ↦ with_head id first part parts before later kid one (sym (cond-true (is_kid id part) _ _ one) ∙ is)
      (λ front e. split_from id (first + 1) parts front later kid e)
  | inr none ↦
      let rest : IsKidFrom id (first + 1) parts kid (kids_from id (first + 1) parts) later =
      split_from id (first + 1) parts before later kid (sym (cond-false (is_kid id part) _ _ none) ∙ is) in
      record {
        is_later = ap (after kid) (cond-false (is_kid id part) _ _ none) ∙ rest.is_later;
        above = omega (arith, rest.above);
        is_one = further id first part parts kid rest.above rest.is_one;
      }
]

pub kid_there : (parts : List (Option Part)) (id kid : ℕ) (before later : List ℕ) → kids_of parts id ≡ before ++ kid ∷ later
    → IsKidThere parts id kid (kids_of parts id) later
kid_there parts id kid before later is =
    let found : IsKidFrom id 0 parts kid (kids_of parts id) later = split_from id 0 parts before later kid is in
    record { is_later = found.is_later; is_one = found.is_one kid (omega arith) }
