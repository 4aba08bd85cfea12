-- The replacement of references, step by step.
use Rattle.std.proofs.Common.{◌≡◌, ℕ, zero, suc, ◌-◌, ◌<◌, Bool, true, false, nat_eq, List, [], ◌∷◌, ◌++◌, length, drop, get_or, Option, Some, None, encode_utf8, refl, ap, sym, ◌∙◌, arith}
use Rattle.std.proofs.lemmas.Bool.{cond-true, cond-false, eq-eqb, ne_eqb}
use Rattle.std.specs.Option.{option_map_or}
use Rattle.jsx_lex.specs.References.{reference_at, decoded_text_after, decoded_text}

passed : (k : ℕ) (bs : List ℕ) → decoded_text_after k bs ≡ decoded_text (drop k bs)
passed zero bs = refl
passed (suc k) [] = refl
passed (suc k) (b ∷ bs) = passed k bs

drop-less : (n : ℕ) (b : ℕ) (bs : List ℕ) → 0 < n → drop n (b ∷ bs) ≡ drop (n - 1) bs
drop-less zero b bs h = absurd (omega arith)
drop-less (suc n) b bs h = ap (λ k. drop k bs) (omega arith)

-- a reference
pub decoded-reference : (text : List ℕ) (r : ℕ × ℕ) → 0 < length text → get_or text 0 0 ≡ 38 → reference_at (drop 1 text) ≡ Some r → 0 < r.1 → decoded_text text ≡ encode_utf8 r.0 ++ decoded_text (drop r.1 text)
decoded-reference [] r l b e some = absurd (omega arith)
decoded-reference (c ∷ cs) r l b e some =
    cond-true (nat_eq c 38) _ (c ∷ decoded_text_after 0 cs) (eq-eqb c 38 b)
    ∙ (ap (λ (o : Option (ℕ × ℕ)). option_map_or (λ (r : ℕ × ℕ). encode_utf8 r.0 ++ decoded_text_after (r.1 - 1) cs) o (c ∷ decoded_text_after 0 cs)) e
    ∙ ap (λ (zs : List ℕ). encode_utf8 r.0 ++ zs) (passed (r.1 - 1) cs ∙ ap decoded_text (sym (drop-less r.1 c cs some))))

-- an `&` that begins no reference
pub decoded-own : (text : List ℕ) → 0 < length text → reference_at (drop 1 text) ≡ None → decoded_text text ≡ get_or text 0 0 ∷ decoded_text (drop 1 text)
decoded-own [] l e = absurd (omega arith)
decoded-own (c ∷ cs) l e = by_mark (nat_eq c 38) refl
  where
    by_mark : (t : Bool) → nat_eq c 38 ≡ t → decoded_text (c ∷ cs) ≡ c ∷ decoded_text cs
    by_mark true t =
        cond-true (nat_eq c 38) _ (c ∷ decoded_text_after 0 cs) t
        ∙ ap (λ (o : Option (ℕ × ℕ)). option_map_or (λ (r : ℕ × ℕ). encode_utf8 r.0 ++ decoded_text_after (r.1 - 1) cs) o (c ∷ decoded_text_after 0 cs)) e
    by_mark false t = cond-false (nat_eq c 38) _ (c ∷ decoded_text_after 0 cs) t

-- any other byte
pub decoded-plain : (text : List ℕ) → 0 < length text → (get_or text 0 0 ≡ 38 → ⊥) → decoded_text text ≡ get_or text 0 0 ∷ decoded_text (drop 1 text)
decoded-plain [] l b = absurd (omega arith)
decoded-plain (c ∷ cs) l b = cond-false (nat_eq c 38) _ (c ∷ decoded_text_after 0 cs) (ne_eqb c 38 b)
