-- Escaping keeps UTF-8: it changes ASCII bytes alone.
use Rattle.std.proofs.Common.{◌≡◌, ℕ, ◌<◌, ◌≤◌, Bool, true, false, ◌==◌, if◌then◌else◌, List, [], ◌∷◌, ◌++◌, codes, refl, sym, subst, ⊎_elim, arith, append_assoc}
use Rattle.std.specs.Str.{IsUtf8}
use Rattle.std.proofs.lemmas.Bool.{cases_lt, ne_eqb}
use Rattle.std.proofs.lemmas.Str.{IsUtf8-append}
use Rattle.html_names.proofs.Utf8Lemmas.{cut_at_ascii, utf8_ascii}
use Rattle.jsx_print.specs.Spelling.{escaped, escaped_byte}

low_byte : (x y z : Bool) (b : ℕ) → b < 128 → IsUtf8 (if x then codes "\\\"" else if y then codes "\\\\" else if z then codes "\\n" else b ∷ [])
low_byte true y z b l = utf8_ascii (92 ∷ 34 ∷ []) (omega arith, (omega arith, tt))
low_byte false true z b l = utf8_ascii (92 ∷ 92 ∷ []) (omega arith, (omega arith, tt))
low_byte false false true b l = utf8_ascii (92 ∷ 110 ∷ []) (omega arith, (omega arith, tt))
low_byte false false false b l = utf8_ascii (b ∷ []) (l, tt)

no_test : (x y z : Bool) (b : ℕ) → x ≡ false → y ≡ false → z ≡ false
    → (if x then codes "\\\"" else if y then codes "\\\\" else if z then codes "\\n" else b ∷ []) ≡ b ∷ []
no_test x y z b e f h = rw (e, f, h) refl

high_byte : (b : ℕ) → 128 ≤ b → escaped_byte b ≡ b ∷ []
high_byte b h =
    no_test (b == 34) (b == 92) (b == 10) b (ne_eqb b 34 (λ e. omega arith)) (ne_eqb b 92 (λ e. omega arith)) (ne_eqb b 10 (λ e. omega arith))

-- Bytes that stand before the text are carried along, so that a character of several bytes may be cut.
escaped_after : (front text : List ℕ) → IsUtf8 (front ++ text) → IsUtf8 (front ++ escaped text)
escaped_after front [] u = u
escaped_after front (b ∷ text) u =
    let low : b < 128 → IsUtf8 (front ++ escaped (b ∷ text)) = λ l.
    let cut : IsUtf8 front × IsUtf8 text = cut_at_ascii front b text l u in
    IsUtf8-append front _ cut.0 (IsUtf8-append (escaped_byte b) _ (low_byte (b == 34) (b == 92) (b == 10) b l) (escaped_after [] text cut.1)) in
    let high : 128 ≤ b → IsUtf8 (front ++ escaped (b ∷ text)) = λ h.
    let more : IsUtf8 (front ++ b ∷ [] ++ escaped text) = escaped_after (front ++ b ∷ []) text (subst IsUtf8 (sym (append_assoc front (b ∷ []) text)) u) in
    subst (λ bs. IsUtf8 (front ++ (bs ++ escaped text))) (sym (high_byte b h)) (subst IsUtf8 (append_assoc front (b ∷ []) (escaped text)) more) in
    ⊎_elim low high (cases_lt b 128)

pub escaped_utf8 : (text : List ℕ) → IsUtf8 text → IsUtf8 (escaped text)
escaped_utf8 text u = escaped_after [] text u
