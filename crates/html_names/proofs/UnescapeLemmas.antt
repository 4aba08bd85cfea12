-- Where bytes are refused, and that an accepted text has no bad place.
use Rattle.std.proofs.Common.{◌≡◌, ℕ, ◌-◌, ◌<◌, ◌≤◌, Bool, true, false, List, [], ◌++◌, ◌==◌, ◌⊎◌, drop, length, sym, ◌∙◌, ap, subst, ⊎_elim, arith, append-nil, length-append}
use Rattle.std.proofs.lemmas.Bool.{cases_lt, eqb-true, eqb-false}
use Rattle.std.proofs.lemmas.List.{drop_all, nil_from_length}
use Rattle.std.proofs.Math.Seq.{drop-append_seam}
use Rattle.html_names.specs.Escape.{escape_of, begins_badly, IsClean, IsFirstBad}
use Rattle.html_names.proofs.EscapeLemmas.{escaped_clean}

pub clean_when_escaped : (text bytes : List ℕ) → escape_of text ≡ bytes → IsClean bytes
clean_when_escaped text bytes e k =
    let past : length bytes ≤ k → begins_badly (drop k bytes) ≡ false = λ h. ap begins_badly (drop_all k bytes h) in
    let inside : k < length bytes → begins_badly (drop k bytes) ≡ false = λ h.
    let l : k < length (escape_of text) = subst (λ bs. k < length bs) (sym e) h in
    subst (λ bs. begins_badly (drop k bs) ≡ false) (append-nil (escape_of text) ∙ e) (escaped_clean text [] k l) in
    ⊎_elim inside past (cases_lt k (length bytes))

pub first_bad_after : (text rest bytes : List ℕ) → escape_of text ++ rest ≡ bytes → begins_badly rest ≡ true →
    IsFirstBad bytes (length bytes - length rest)
first_bad_after text rest bytes e bad =
    let place : length bytes - length rest ≡ length (escape_of text) = omega (arith, length-append (escape_of text) rest, ap length e) in
    let first : IsFirstBad (escape_of text ++ rest) (length (escape_of text)) = record {
      here = ap begins_badly (drop-append_seam (escape_of text) rest) ∙ bad;
      before = λ k l. escaped_clean text rest k l;
    } in
    rw place (subst (λ bs. IsFirstBad bs (length (escape_of text))) e first)

-- Where nothing is left, what was read spells all bytes.
pub all_spelled : (front rest bytes : List ℕ) (r : Bool) → front ++ rest ≡ bytes → r ≡ (length rest == 0) → r ≡ true → front ≡ bytes
all_spelled front rest bytes r e is empty =
    let none : rest ≡ [] = nil_from_length rest (eqb-true (length rest) 0 (sym is ∙ empty)) in
    sym (append-nil front) ∙ (ap (λ bs. front ++ bs) (sym none) ∙ e)

-- Where something is left that no spelling begins, a bad place stands there.
pub bad_left : (rest : List ℕ) (r : Bool) → r ≡ (length rest == 0) → r ≡ false → (rest ≡ []) ⊎ (begins_badly rest ≡ true) → begins_badly rest ≡ true
bad_left rest r is some = ⊎_elim (λ e. absurd (eqb-false (length rest) 0 (sym is ∙ some) (ap length e))) (λ h. h)
