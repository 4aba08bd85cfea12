-- The bytes of a character, by their number.
use Rattle.std.proofs.Common.{◌≡◌, ℕ, ◌+◌, ◌-◌, ◌*◌, ◌/◌, ◌<◌, ◌≤◌, Bool, true, false, cond, nat_lt, List, [], ◌∷◌, refl, ◌∙◌, arith, append-nil}
use Rattle.std.specs.Str.{IsUtf8}
use Rattle.std.proofs.lemmas.Bool.{cond-true, cond-false, lt-ltb, le-ltb, le-leb, and_from}
use Rattle.std.proofs.Math.Utf8.{encode, next, scalar, low_scalar}

taken : {X : Type 0} (m n : ℕ) (a b : X) → m < n → cond (nat_lt m n) a b ≡ a
taken m n a b l = cond-true (nat_lt m n) a b (lt-ltb m n l)

passed : {X : Type 0} (m n : ℕ) (a b : X) → n ≤ m → cond (nat_lt m n) a b ≡ b
passed m n a b l = cond-false (nat_lt m n) a b (le-ltb m n l)

pub two : (c : ℕ) → 128 ≤ c → c < 2048 → encode c ≡ (192 + c / 64) ∷ next c ∷ []
unfolding encode
two c l h = passed c 128 _ _ l ∙ taken c 2048 _ _ h

pub three : (c : ℕ) → 2048 ≤ c → c < 65536 → encode c ≡ (224 + c / 4096) ∷ next (c / 64) ∷ next c ∷ []
unfolding encode
three c l h = passed c 128 _ _ (omega arith) ∙ (passed c 2048 _ _ l ∙ taken c 65536 _ _ h)

pub four : (c : ℕ) → 65536 ≤ c → encode c ≡ (240 + c / 262144) ∷ next (c / 4096) ∷ next (c / 64) ∷ next c ∷ []
unfolding encode
four c l = passed c 128 _ _ (omega arith) ∙ (passed c 2048 _ _ (omega arith) ∙ passed c 65536 _ _ l)

or_else : (x y : Bool) → y ≡ true → cond x true y ≡ true
or_else true y e = refl
or_else false y e = e

high_scalar : (c : ℕ) → 57344 ≤ c → c < 1114112 → scalar c ≡ true
high_scalar c l h = or_else (nat_lt c 55296) _ (and_from _ _ (le-leb 57344 c l) (lt-ltb c 1114112 h))

utf8_of : (c : ℕ) (bytes : List ℕ) → scalar c ≡ true → encode c ≡ bytes → IsUtf8 bytes
utf8_of c bytes s e = (c ∷ [], (and_from _ _ s refl, append-nil (encode c) ∙ e))

cons_two : (a b x y : ℕ) → a ≡ x → b ≡ y → a ∷ b ∷ [] ≡ x ∷ y ∷ []
cons_two a b x y e f = cc

cons_three : (a b c x y z : ℕ) → a ≡ x → b ≡ y → c ≡ z → a ∷ b ∷ c ∷ [] ≡ x ∷ y ∷ z ∷ []
cons_three a b c x y z e f g = cc

cons_four : (a b c d w x y z : ℕ) → a ≡ w → b ≡ x → c ≡ y → d ≡ z → a ∷ b ∷ c ∷ d ∷ [] ≡ w ∷ x ∷ y ∷ z ∷ []
cons_four a b c d w x y z e f g h = cc

pub two_bytes : (a b : ℕ) → 194 ≤ a → a < 224 → 128 ≤ b → b < 192 → IsUtf8 (a ∷ b ∷ [])
two_bytes a b l h m n =
    let c : ℕ = (a - 192) * 64 + (b - 128) in
    utf8_of c _ (low_scalar c (omega arith)) (two c (omega arith) (omega arith) ∙ cons_two _ _ _ _ (omega arith) (omega arith))

three_at : (a b d c : ℕ) → c ≡ (a - 224) * 4096 + (b - 128) * 64 + (d - 128) → 224 ≤ a → a < 240 → 128 ≤ b → b < 192 → 128 ≤ d → d < 192
    → 2048 ≤ c → scalar c ≡ true → IsUtf8 (a ∷ b ∷ d ∷ [])
three_at a b d c e l h m n p q least s =
    utf8_of c _ s (three c least (omega arith) ∙ cons_three _ _ _ _ _ _ (omega arith) (omega arith) (omega arith))

pub three_low : (a b d : ℕ) → 224 ≤ a → a < 240 → 128 ≤ b → b < 192 → 128 ≤ d → d < 192
    → 2048 ≤ (a - 224) * 4096 + (b - 128) * 64 + (d - 128) → (a - 224) * 4096 + (b - 128) * 64 + (d - 128) < 55296 → IsUtf8 (a ∷ b ∷ d ∷ [])
three_low a b d l h m n p q least most = three_at a b d _ refl l h m n p q least (low_scalar _ most)

pub three_high : (a b d : ℕ) → 224 ≤ a → a < 240 → 128 ≤ b → b < 192 → 128 ≤ d → d < 192
    → 57344 ≤ (a - 224) * 4096 + (b - 128) * 64 + (d - 128) → IsUtf8 (a ∷ b ∷ d ∷ [])
three_high a b d l h m n p q least = three_at a b d _ refl l h m n p q (omega arith) (high_scalar _ least (omega arith))

four_at : (a b d e c : ℕ) → c ≡ (a - 240) * 262144 + (b - 128) * 4096 + (d - 128) * 64 + (e - 128) → 240 ≤ a → 128 ≤ b → b < 192 → 128 ≤ d → d < 192 → 128 ≤ e → e < 192
    → 65536 ≤ c → c < 1114112 → IsUtf8 (a ∷ b ∷ d ∷ e ∷ [])
four_at a b d e c is l m n p q r s least most =
    utf8_of c _ (high_scalar c (omega arith) most) (four c least ∙ cons_four _ _ _ _ _ _ _ _ (omega arith) (omega arith) (omega arith) (omega arith))

pub four_bytes : (a b d e : ℕ) → 240 ≤ a → 128 ≤ b → b < 192 → 128 ≤ d → d < 192 → 128 ≤ e → e < 192
    → 65536 ≤ (a - 240) * 262144 + (b - 128) * 4096 + (d - 128) * 64 + (e - 128)
    → (a - 240) * 262144 + (b - 128) * 4096 + (d - 128) * 64 + (e - 128) < 1114112 → IsUtf8 (a ∷ b ∷ d ∷ e ∷ [])
four_bytes a b d e l m n p q r s least most = four_at a b d e _ refl l m n p q r s least most
