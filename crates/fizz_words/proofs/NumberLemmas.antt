-- The numbers that texts write.
use Rattle.std.proofs.Common.{◌≡◌, ◌∙◌, ◌≤◌, ℕ, Bool, cond, true, false, refl, sym, ap, arith, List, [], ◌∷◌, Option, Some, None, Result, Ok, drop}
use Rattle.std.specs.Prelude.{◌==◌, pos, option_map, unwrap_or}
use Rattle.std.specs.Str.Parse.{IsNumeral, ParsesUnsigned, digits_value, starts_with_minus, without_leading_plus}
use Rattle.std.proofs.lemmas.Bool.{ne_eqb}
use Rattle.std.proofs.lemmas.Int.{ints}
use Rattle.std.proofs.lemmas.Str.Parse.{digit_from_value}
use Rattle.clap.specs.Lexer.{without_minus}
use Rattle.clap.specs.Matches.{ReadsOne}
use Rattle.clap.specs.Values.{IsSignedIn}

nothing : (n : ℕ) → ◌≡◌ {A = Option ℕ} (Some n) None → ⊥
nothing n e = cc

pub number_read : {E : Type 0} (G : List ℕ → Result ℕ E → Type 0) (k : ℕ) (o : Option (List ℕ)) (n : ℕ) → (o ≡ None → Some n ≡ None)
    → ((t : List ℕ) → o ≡ Some t → ReadsOne G t (Some n)) → ((t : List ℕ) (x : Result ℕ E) → G t x → ParsesUnsigned k 10 t x)
    → option_map (λ t. digits_value 10 (without_leading_plus t)) o ≡ Some n
number_read G k None n none value only = absurd (nothing n (none refl))
number_read G k (Some t) n none value only = ap Some (sym (only t (Ok n) (value t refl)).1)

without_minus-cond : (t : List ℕ) → without_minus t ≡ cond (starts_with_minus t) (drop 1 t) t
without_minus-cond [] = refl
without_minus-cond (x ∷ xs) = go (x == 45)
  where
    go : (b : Bool) → unwrap_or (cond b (Some xs) None) (x ∷ xs) ≡ cond b xs (x ∷ xs)
    go true = refl
    go false = refl

no_plus : (ds : List ℕ) → IsNumeral 10 ds → without_leading_plus ds ≡ ds
no_plus [] h = refl
no_plus (d ∷ ds) h =
    let plus : (d == 43) ≡ false = ne_eqb _ _ (λ e. omega (arith, digit_from_value d h.1.0)) in
    ap (λ (b : Bool). drop (cond b 1 0) (d ∷ ds)) plus

-- the number of a text that passed a range with no negative number lies in it
pub in_range : (low high : ℕ) (t : List ℕ) → IsSignedIn (pos low) (pos high) t
    → (low ≤ digits_value 10 (without_leading_plus (without_minus t))) × (digits_value 10 (without_leading_plus (without_minus t)) ≤ high)
in_range low high t passed = go (starts_with_minus t) refl
  where
    go : (b : Bool) → starts_with_minus t ≡ b
        → (low ≤ digits_value 10 (without_leading_plus (without_minus t))) × (digits_value 10 (without_leading_plus (without_minus t)) ≤ high)
    go true minus =
        let low_ok = rw minus at passed.2 in
        let numeral : IsNumeral 10 (drop 1 t) = rw minus at passed.0 in
        let bare : without_minus t ≡ drop 1 t = without_minus-cond t ∙ ap (λ (b : Bool). cond b (drop 1 t) t) minus in
        rw (bare, no_plus (drop 1 t) numeral) (omega (arith, ints), omega (arith, ints))
    go false minus =
        let low_ok = rw minus at passed.2 in
        let high_ok = rw minus at passed.3 in
        let bare : without_minus t ≡ t = without_minus-cond t ∙ ap (λ (b : Bool). cond b (drop 1 t) t) minus in
        rw bare (omega (arith, ints), omega (arith, ints))
