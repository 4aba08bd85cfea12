-- The reader's places over the bytes of a character, and that UTF-8 passes them.
use Rattle.std.proofs.Common.{◌≡◌, ℕ, ◌+◌, ◌/◌, ◌<◌, ◌≤◌, true, false, if◌then◌else◌, nat_lt, ◌==◌, Result, Ok, Err, List, [], ◌∷◌, ◌++◌, length, refl, sym, ◌∙◌, ap, subst, ⊎_elim, arith, append-nil, append_assoc}
use Rattle.std.specs.Str.{IsUtf8}
use Rattle.std.proofs.lemmas.Bool.{cases_lt, cases_eq, lt-ltb, le-ltb, le-leb, ne_eqb, and_parts}
use Rattle.std.proofs.lemmas.Str.{encode_ascii}
use Rattle.std.proofs.Math.Utf8.{encode, encodes, next, scalar, scalars, scalar_cases}
use Rattle.html_read.specs.declared.place.Tail.{Tail}
use Rattle.html_read.specs.declared.place.Tail.TheVariants.{One, Two, Three, AfterE0, AfterEd, AfterF0, AfterF4}
use Rattle.html_read.specs.declared.place.Place.{Place}
use Rattle.html_read.specs.declared.place.Place.TheVariants.{Whole, Char, Entity}
use Rattle.html_read.specs.declared.place.RunFault.{RunFault}
use Rattle.html_read.specs.declared.place.RunFault.TheVariants as faults
use Rattle.html_read.specs.Machine.{char_start, next_within, tail_after, start_after, place_after}
use Rattle.html_read.proofs.EncodeUtf8Lemmas.{two, three, four}

abbrev pub char_step : Place → ℕ → Result Place RunFault
char_step Whole b = char_start b
char_step (Char tail) b = tail_after tail b
char_step (Entity start) b = Err faults.Utf8

-- Bytes from 128 on lead from one place to another.
abbrev pub Path : Place → List ℕ → Place → Type 0
Path p [] q = p ≡ q
Path p (b ∷ bs) q = (r : Place) × (128 ≤ b) × (char_step p b ≡ Ok r) × Path r bs q

-- the same, over any bytes
abbrev pub on_place : Result Place RunFault → (Place → Result Place RunFault) → Result Place RunFault
on_place (Ok p) f = f p
on_place (Err fault) f = Err fault

abbrev pub char_after : Place → ℕ → Result Place RunFault
char_after Whole b = if nat_lt b 128 then Ok Whole else char_start b
char_after (Char tail) b = tail_after tail b
char_after (Entity start) b = Err faults.Utf8

abbrev pub chars_through : Place → List ℕ → Result Place RunFault
chars_through p [] = Ok p
chars_through p (b ∷ bs) = on_place (char_after p b) (λ q. chars_through q bs)

-- over the bytes of a token that has begun
abbrev pub place_through : Place → List ℕ → List ℕ → Result Place RunFault
place_through p token [] = Ok p
place_through p token (b ∷ bs) = on_place (place_after p (token ++ b ∷ []) b) (λ q. place_through q (token ++ b ∷ []) bs)

pub ok_same : (p q : Place) → ◌≡◌ {A = Result Place RunFault} (Ok p) (Ok q) → p ≡ q
ok_same p q e = cc

pub err_ok : (f : RunFault) (q : Place) → ◌≡◌ {A = Result Place RunFault} (Err f) (Ok q) → ⊥
err_ok f q e = cc

pub chars_append : (p : Place) (xs ys : List ℕ) → chars_through p (xs ++ ys) ≡ on_place (chars_through p xs) (λ q. chars_through q ys)
chars_append p [] ys = refl
chars_append p (b ∷ xs) ys =
    elim (char_after p b) as (λ r. on_place r (λ q. chars_through q (xs ++ ys)) ≡ on_place (on_place r (λ q. chars_through q xs)) (λ q. chars_through q ys))
    [ Ok q ↦ chars_append q xs ys | Err f ↦ refl ]

pub place_append : (p : Place) (token xs ys : List ℕ) (q : Place) → place_through p token xs ≡ Ok q → place_through p token (xs ++ ys) ≡ place_through q (token ++ xs) ys
place_append p token [] ys q e =
    let same : p ≡ q = ok_same p q e in
    ap (λ r. place_through r token ys) same ∙ ap (λ t. place_through q t ys) (sym (append-nil token))
place_append p token (b ∷ xs) ys q e =
    let go : (r : Result Place RunFault) → on_place r (λ s. place_through s (token ++ b ∷ []) xs) ≡ Ok q
    → on_place r (λ s. place_through s (token ++ b ∷ []) (xs ++ ys)) ≡ place_through q (token ++ b ∷ xs) ys = λ r.
    elim r as (λ r. on_place r (λ s. place_through s (token ++ b ∷ []) xs) ≡ Ok q
    → on_place r (λ s. place_through s (token ++ b ∷ []) (xs ++ ys)) ≡ place_through q (token ++ b ∷ xs) ys)
    [ Ok s ↦ λ h. place_append s (token ++ b ∷ []) xs ys q h ∙ ap (λ t. place_through q t ys) (append_assoc token (b ∷ []) xs) | Err f ↦ λ h. absurd (err_ok f q h) ] in
    go (place_after p (token ++ b ∷ []) b) e

high_not : (b n : ℕ) → 128 ≤ b → n < 128 → (b == n) ≡ false
high_not b n h l = ne_eqb b n (λ e. omega arith)

pub start_high : (len b : ℕ) → 128 ≤ b → start_after len b ≡ char_start b
start_high len b h = rw (high_not b 38 h (omega arith), high_not b 34 h (omega arith), high_not b 39 h (omega arith), high_not b 60 h (omega arith), high_not b 62 h (omega arith), le-ltb b 128 h) refl

pub after_high : (b : ℕ) → 128 ≤ b → char_after Whole b ≡ char_start b
after_high b h = rw (le-ltb b 128 h) refl

step_place : (p : Place) (token : List ℕ) (b : ℕ) (q : Place) → 128 ≤ b → char_step p b ≡ Ok q → place_after p token b ≡ Ok q
step_place Whole token b q h e = start_high (length token) b h ∙ e
step_place (Char tail) token b q h e = e
step_place (Entity start) token b q h e = absurd (err_ok faults.Utf8 q e)

step_char : (p : Place) (b : ℕ) (q : Place) → 128 ≤ b → char_step p b ≡ Ok q → char_after p b ≡ Ok q
step_char Whole b q h e = after_high b h ∙ e
step_char (Char tail) b q h e = e
step_char (Entity start) b q h e = absurd (err_ok faults.Utf8 q e)

pub path_place : (p : Place) (token bs : List ℕ) (q : Place) → Path p bs q → place_through p token bs ≡ Ok q
path_place p token [] q h = ap (λ r. Ok r) h
path_place p token (b ∷ bs) q h =
    ap (λ r. on_place r (λ s. place_through s (token ++ b ∷ []) bs)) (step_place p (token ++ b ∷ []) b h.0 h.1 h.2) ∙ path_place h.0 (token ++ b ∷ []) bs q h.3

pub path_chars : (p : Place) (bs : List ℕ) (q : Place) → Path p bs q → chars_through p bs ≡ Ok q
path_chars p [] q h = ap (λ r. Ok r) h
path_chars p (b ∷ bs) q h = ap (λ r. on_place r (λ s. chars_through s bs)) (step_char p b h.0 h.1 h.2) ∙ path_chars h.0 bs q h.3

-- The bytes of each character from 128 on lead from a whole place to a whole place.
within : (low high b : ℕ) (p : Place) → low ≤ b → b < high → next_within low high b p ≡ Ok p
within low high b p l h = rw (le-leb low b l, lt-ltb b high h) refl

lead_two : (a : ℕ) → 194 ≤ a → a < 224 → char_start a ≡ Ok (Char One)
lead_two a l h = rw (le-ltb a 194 l, lt-ltb a 224 h) refl

lead_three : (a : ℕ) → 225 ≤ a → a < 240 → (a ≡ 237 → ⊥) → char_start a ≡ Ok (Char Two)
lead_three a l h n = rw (le-ltb a 194 (omega arith), le-ltb a 224 (omega arith), ne_eqb a 224 (λ e. omega arith), ne_eqb a 237 n, lt-ltb a 240 h) refl

lead_four : (a : ℕ) → 241 ≤ a → a < 244 → char_start a ≡ Ok (Char Three)
lead_four a l h = rw (le-ltb a 194 (omega arith), le-ltb a 224 (omega arith), ne_eqb a 224 (λ e. omega arith), ne_eqb a 237 (λ e. omega arith), le-ltb a 240 (omega arith), ne_eqb a 240 (λ e. omega arith), lt-ltb a 244 h) refl

two_path : (c : ℕ) → 128 ≤ c → c < 2048 → Path Whole ((192 + c / 64) ∷ next c ∷ []) Whole
two_path c l h =
    (Char One, omega arith, lead_two (192 + c / 64) (omega arith) (omega arith), (Whole, omega arith, within 128 192 (next c) Whole (omega arith) (omega arith), refl))

path_three : (a x y low high : ℕ) (tail : Tail) → 128 ≤ a → char_start a ≡ Ok (Char tail) → ((b : ℕ) → low ≤ b → b < high → tail_after tail b ≡ Ok (Char One))
    → 128 ≤ low → low ≤ x → x < high → 128 ≤ y → y < 192 → Path Whole (a ∷ x ∷ y ∷ []) Whole
path_three a x y low high tail l e f m p q r s =
    (Char tail, l, e, (Char One, omega arith, f x p q, (Whole, r, within 128 192 y Whole r s, refl)))

three_path : (c : ℕ) → 2048 ≤ c → c < 65536 → scalar c ≡ true → Path Whole ((224 + c / 4096) ∷ next (c / 64) ∷ next c ∷ []) Whole
three_path c l h s =
    let a : ℕ = 224 + c / 4096 in
    let first : a ≡ 224 → Path Whole (a ∷ next (c / 64) ∷ next c ∷ []) Whole = λ e.
    path_three a _ _ 160 192 AfterE0 (omega arith) (ap char_start e) (λ b p q. within 160 192 b (Char One) p q) (omega arith) (omega arith) (omega arith) (omega arith) (omega arith) in
    let second : a ≡ 237 → Path Whole (a ∷ next (c / 64) ∷ next c ∷ []) Whole = λ e.
    let low : c < 55296 = ⊎_elim (λ k. k) (λ k. absurd (omega arith)) (scalar_cases c s) in
    path_three a _ _ 128 160 AfterEd (omega arith) (ap char_start e) (λ b p q. within 128 160 b (Char One) p q) (omega arith) (omega arith) (omega arith) (omega arith) (omega arith) in
    let other : (a ≡ 224 → ⊥) → (a ≡ 237 → ⊥) → Path Whole (a ∷ next (c / 64) ∷ next c ∷ []) Whole = λ m n.
    path_three a _ _ 128 192 Two (omega arith) (lead_three a (omega arith) (omega arith) n) (λ b p q. within 128 192 b (Char One) p q) (omega arith) (omega arith) (omega arith) (omega arith) (omega arith) in
    ⊎_elim first (λ m. ⊎_elim second (λ n. other m n) (cases_eq a 237)) (cases_eq a 224)

path_four : (a x y z low high : ℕ) (tail : Tail) → 128 ≤ a → char_start a ≡ Ok (Char tail) → ((b : ℕ) → low ≤ b → b < high → tail_after tail b ≡ Ok (Char Two))
    → 128 ≤ low → low ≤ x → x < high → 128 ≤ y → y < 192 → 128 ≤ z → z < 192 → Path Whole (a ∷ x ∷ y ∷ z ∷ []) Whole
path_four a x y z low high tail l e f m p q r s t u =
    (Char tail, l, e, (Char Two, omega arith, f x p q, (Char One, r, within 128 192 y (Char One) r s, (Whole, t, within 128 192 z Whole t u, refl))))

four_path : (c : ℕ) → 65536 ≤ c → c < 1114112 → Path Whole ((240 + c / 262144) ∷ next (c / 4096) ∷ next (c / 64) ∷ next c ∷ []) Whole
four_path c l h =
    let a : ℕ = 240 + c / 262144 in
    let first : a ≡ 240 → Path Whole (a ∷ next (c / 4096) ∷ next (c / 64) ∷ next c ∷ []) Whole = λ e.
    path_four a _ _ _ 144 192 AfterF0 (omega arith) (ap char_start e) (λ b p q. within 144 192 b (Char Two) p q) (omega arith) (omega arith) (omega arith) (omega arith) (omega arith) (omega arith) (omega arith) in
    let last : a ≡ 244 → Path Whole (a ∷ next (c / 4096) ∷ next (c / 64) ∷ next c ∷ []) Whole = λ e.
    path_four a _ _ _ 128 144 AfterF4 (omega arith) (ap char_start e) (λ b p q. within 128 144 b (Char Two) p q) (omega arith) (omega arith) (omega arith) (omega arith) (omega arith) (omega arith) (omega arith) in
    let other : (a ≡ 240 → ⊥) → (a ≡ 244 → ⊥) → Path Whole (a ∷ next (c / 4096) ∷ next (c / 64) ∷ next c ∷ []) Whole = λ m n.
    path_four a _ _ _ 128 192 Three (omega arith) (lead_four a (omega arith) (omega arith)) (λ b p q. within 128 192 b (Char Two) p q) (omega arith) (omega arith) (omega arith) (omega arith) (omega arith) (omega arith) (omega arith) in
    ⊎_elim first (λ m. ⊎_elim last (λ n. other m n) (cases_eq a 244)) (cases_eq a 240)

pub char_path : (c : ℕ) → 128 ≤ c → scalar c ≡ true → Path Whole (encode c) Whole
char_path c l s =
    let most : c < 1114112 = ⊎_elim (λ k. omega arith) (λ k. k.1) (scalar_cases c s) in
    ⊎_elim (λ h. subst (λ bs. Path Whole bs Whole) (sym (two c l h)) (two_path c l h)) (λ m.
    ⊎_elim (λ h. subst (λ bs. Path Whole bs Whole) (sym (three c m h)) (three_path c m h s)) (λ n.
    subst (λ bs. Path Whole bs Whole) (sym (four c n)) (four_path c n most)) (cases_lt c 65536)) (cases_lt c 2048)

-- UTF-8 leads from a whole place to a whole place.
char_through : (c : ℕ) → scalar c ≡ true → chars_through Whole (encode c) ≡ Ok Whole
char_through c s =
    ⊎_elim (λ l. ap (chars_through Whole) (encode_ascii c l) ∙ rw (lt-ltb c 128 l) refl) (λ h. path_chars Whole (encode c) Whole (char_path c h s)) (cases_lt c 128)

encodes_through : (cs : List ℕ) → scalars cs ≡ true → chars_through Whole (encodes cs) ≡ Ok Whole
encodes_through [] s = refl
encodes_through (c ∷ cs) s =
    let parts : (scalar c ≡ true) × (scalars cs ≡ true) = and_parts _ _ s in
    chars_append Whole (encode c) (encodes cs) ∙ (ap (λ r. on_place r (λ q. chars_through q (encodes cs))) (char_through c parts.0) ∙ encodes_through cs parts.1)

pub utf8_through : (bs : List ℕ) → IsUtf8 bs → chars_through Whole bs ≡ Ok Whole
utf8_through bs u = ap (chars_through Whole) (sym u.1.1) ∙ encodes_through u.0 u.1.0
