-- The words of a text in UTF-8, and what they mean, are UTF-8.
use Rattle.std.proofs.Common.{◌≡◌, ℕ, ◌+◌, ◌-◌, ◌<◌, Bool, true, false, nat_eq, List, [], ◌∷◌, ◌++◌, length, take, drop, slice_range, Option, Some, None, IsSome, unwrap_or, encode_utf8, refl, ap, sym, ◌∙◌, arith, subst, append_assoc, All}
use Rattle.std.specs.Str.{IsUtf8}
use Rattle.std.specs.List.{flat_map}
use Rattle.std.specs.Char.{IsScalar, digit_value}
use Rattle.std.proofs.lemmas.Bool.{eqb-true}
use Rattle.std.proofs.lemmas.Bool.Decides.{nat_tests}
use Rattle.std.proofs.lemmas.List.{append-nil, length-append, take_at, drop_at}
use Rattle.std.proofs.lemmas.List.Elements.{All-nil, All-cons, All-append, All-head, All-tail}
use Rattle.std.proofs.lemmas.Str.{IsUtf8-append, IsUtf8-encode}
use Rattle.jsx_lex.specs.ModeStack.{ModesAt, first_modes, modes_after}
use Rattle.jsx_lex.specs.StringParts.{StringPart, plain, escaped, unicode, spelling_of, meaning_of, escape_value, hex_value, IsPart}
use Rattle.jsx_lex.specs.Lexemes.{Lexeme, spellings, Leads}
use Rattle.jsx_lex.specs.TokenLists.{token_at, tokens_from, AreTokens}
use Rattle.jsx_lex.specs.Meanings.{IsStringText}
use Rattle.jsx_lex.specs.declared.token.Token.{Token}
use Rattle.jsx_lex.specs.declared.token.TokenKind.{TokenKind}
use Rattle.jsx_lex.proofs.Cutting.{cut_at_ascii, one_ascii, quote_low, cut_lexeme}

-- the words of a text
abbrev HasText : List ℕ → Token → Type 0
HasText text t = IsUtf8 (slice_range text t.from t.to)

one_text : (text : List ℕ) (from : ℕ) (kind : Option TokenKind) (word : List ℕ) → slice_range text from (from + length word) ≡ word → IsUtf8 word → All (HasText text) (token_at from kind (length word))
one_text text from None word e u = All-nil (HasText text)
one_text text from (Some k) word e u =
    All-cons (HasText text) (record { kind = k; from = from; to = from + length word }) [] (subst IsUtf8 (sym e) u) (All-nil (HasText text))

texts_from : (front : List ℕ) (from : ℕ) (modes : ModesAt) (xs : List Lexeme) (rest : List ℕ) (last : ModesAt) → from ≡ length front → Leads modes xs rest last → IsUtf8 (spellings xs ++ rest) → All (HasText (front ++ (spellings xs ++ rest))) (tokens_from from xs)
texts_from front from modes [] rest last f h u = All-nil (HasText (front ++ ([] ++ rest)))
texts_from front from modes (x ∷ xs) rest last f h u =
    let text : List ℕ = front ++ (spellings (x ∷ xs) ++ rest) in
    let inner : spellings (x ∷ xs) ++ rest ≡ x.bytes ++ (spellings xs ++ rest) = append_assoc x.bytes (spellings xs) rest in
    let at_word : drop from text ≡ x.bytes ++ (spellings xs ++ rest) = drop_at front (spellings (x ∷ xs) ++ rest) from (sym f) ∙ inner in
    let word : slice_range text from (from + length x.bytes) ≡ x.bytes =
    ap (λ (zs : List ℕ). take ((from + length x.bytes) - from) zs) at_word ∙ take_at x.bytes (spellings xs ++ rest) ((from + length x.bytes) - from) (omega arith) in
    let same : (front ++ x.bytes) ++ (spellings xs ++ rest) ≡ text = append_assoc front x.bytes (spellings xs ++ rest) ∙ ap (λ (zs : List ℕ). front ++ zs) (sym inner) in
    let l = length-append front x.bytes in
    let c = cut_lexeme modes x (spellings xs ++ rest) h.0 (subst IsUtf8 inner u) in
    All-append (HasText text) (token_at from x.kind (length x.bytes)) (tokens_from (from + length x.bytes) xs)
    (one_text text from x.kind x.bytes word c.0)
    (subst (λ (zs : List ℕ). All (HasText zs) (tokens_from (from + length x.bytes) xs)) same
    (texts_from (front ++ x.bytes) (from + length x.bytes) (modes_after x.change modes) xs rest last (omega arith) h.1 c.1))

pub all_texts : (text : List ℕ) (tokens : List Token) → IsUtf8 text → AreTokens text tokens → All (λ (t : Token). IsUtf8 (slice_range text t.from t.to)) tokens
all_texts text tokens u h =
    let e : spellings h.lexemes ++ [] ≡ text = append-nil (spellings h.lexemes) ∙ sym h.split in
    let w : All (HasText (spellings h.lexemes ++ [])) (tokens_from 0 h.lexemes) = texts_from [] 0 first_modes h.lexemes [] first_modes refl h.leads (subst IsUtf8 (sym e) u) in
    subst (λ (ts : List Token). All (HasText text) ts) (sym h.tokens_are) (subst (λ (zs : List ℕ). All (HasText zs) (tokens_from 0 h.lexemes)) e w)

-- a character
pub character_utf8 : (c : ℕ) → IsScalar c → IsUtf8 (encode_utf8 c)
character_utf8 c h = IsUtf8-encode c h

-- strings of Code
low_value : (c : ℕ) → IsSome (escape_value c) → (c < 128) × (unwrap_or (escape_value c) 0 < 128)
low_value c h = by_value (nat_eq c 92) refl
  where
    by_t : nat_eq c 92 ≡ false → nat_eq c 34 ≡ false → nat_eq c 39 ≡ false → nat_eq c 110 ≡ false → nat_eq c 114 ≡ false → (t : Bool) → nat_eq c 116 ≡ t → (c < 128) × (unwrap_or (escape_value c) 0 < 128)
    by_t a b d e f true t = let i = eqb-true c 116 t in subst (λ (x : ℕ). (x < 128) × (unwrap_or (escape_value x) 0 < 128)) (sym i) (omega arith, omega arith)
    by_t a b d e f false t = let n : escape_value c ≡ None = rw (a, b, d, e, f, t) in let k : IsSome {T = ℕ} None = subst (λ (o : Option ℕ). IsSome o) n h in let j : false ≡ true = k in absurd cc

    by_r : nat_eq c 92 ≡ false → nat_eq c 34 ≡ false → nat_eq c 39 ≡ false → nat_eq c 110 ≡ false → (t : Bool) → nat_eq c 114 ≡ t → (c < 128) × (unwrap_or (escape_value c) 0 < 128)
    by_r a b d e true t = let i = eqb-true c 114 t in subst (λ (x : ℕ). (x < 128) × (unwrap_or (escape_value x) 0 < 128)) (sym i) (omega arith, omega arith)
    by_r a b d e false t = by_t a b d e t (nat_eq c 116) refl

    by_n : nat_eq c 92 ≡ false → nat_eq c 34 ≡ false → nat_eq c 39 ≡ false → (t : Bool) → nat_eq c 110 ≡ t → (c < 128) × (unwrap_or (escape_value c) 0 < 128)
    by_n a b d true t = let i = eqb-true c 110 t in subst (λ (x : ℕ). (x < 128) × (unwrap_or (escape_value x) 0 < 128)) (sym i) (omega arith, omega arith)
    by_n a b d false t = by_r a b d t (nat_eq c 114) refl

    by_single : nat_eq c 92 ≡ false → nat_eq c 34 ≡ false → (t : Bool) → nat_eq c 39 ≡ t → (c < 128) × (unwrap_or (escape_value c) 0 < 128)
    by_single a b true t = let i = eqb-true c 39 t in subst (λ (x : ℕ). (x < 128) × (unwrap_or (escape_value x) 0 < 128)) (sym i) (omega arith, omega arith)
    by_single a b false t = by_n a b t (nat_eq c 110) refl

    by_double : nat_eq c 92 ≡ false → (t : Bool) → nat_eq c 34 ≡ t → (c < 128) × (unwrap_or (escape_value c) 0 < 128)
    by_double a true t = let i = eqb-true c 34 t in subst (λ (x : ℕ). (x < 128) × (unwrap_or (escape_value x) 0 < 128)) (sym i) (omega arith, omega arith)
    by_double a false t = by_single a t (nat_eq c 39) refl

    by_value : (t : Bool) → nat_eq c 92 ≡ t → (c < 128) × (unwrap_or (escape_value c) 0 < 128)
    by_value true t = let i = eqb-true c 92 t in subst (λ (x : ℕ). (x < 128) × (unwrap_or (escape_value x) 0 < 128)) (sym i) (omega arith, omega arith)
    by_value false t = by_double t (nat_eq c 34) refl

digit_ascii : (b : ℕ) → digit_value b < 16 → b < 128
digit_ascii b h = grind (arith, nat_tests)

-- What stands before the parts may end within a character.
parts_utf8 : (quote : ℕ) (parts : List StringPart) (front : List ℕ) → All (IsPart quote) parts → IsUtf8 (front ++ flat_map spelling_of parts) → IsUtf8 (front ++ flat_map meaning_of parts)
parts_utf8 quote [] front h u = u
parts_utf8 quote (plain b ∷ ps) front h u =
    let one : (zs : List ℕ) → front ++ (b ∷ zs) ≡ (front ++ b ∷ []) ++ zs = λ zs. sym (append_assoc front (b ∷ []) zs) in
    subst IsUtf8 (sym (one (flat_map meaning_of ps)))
    (parts_utf8 quote ps (front ++ b ∷ []) (All-tail (IsPart quote) (plain b) ps h) (subst IsUtf8 (one (flat_map spelling_of ps)) u))
parts_utf8 quote (escaped c ∷ ps) front h u =
    let v = low_value c (All-head (IsPart quote) (escaped c) ps h) in
    let a = cut_at_ascii front 92 (c ∷ flat_map spelling_of ps) (omega arith) u in
    let b = cut_at_ascii [] c (flat_map spelling_of ps) v.0 a.1 in
    let more = parts_utf8 quote ps [] (All-tail (IsPart quote) (escaped c) ps h) b.1 in
    IsUtf8-append front (unwrap_or (escape_value c) 0 ∷ flat_map meaning_of ps) a.0
    (IsUtf8-append (unwrap_or (escape_value c) 0 ∷ []) (flat_map meaning_of ps) (one_ascii (unwrap_or (escape_value c) 0) v.1) more)
parts_utf8 quote (unicode a b c d ∷ ps) front h u =
    let v = All-head (IsPart quote) (unicode a b c d) ps h in
    let rest : List ℕ = flat_map spelling_of ps in
    let u0 = cut_at_ascii front 92 (117 ∷ a ∷ b ∷ c ∷ d ∷ rest) (omega arith) u in
    let u1 = cut_at_ascii [] 117 (a ∷ b ∷ c ∷ d ∷ rest) (omega arith) u0.1 in
    let u2 = cut_at_ascii [] a (b ∷ c ∷ d ∷ rest) (digit_ascii a v.0.0) u1.1 in
    let u3 = cut_at_ascii [] b (c ∷ d ∷ rest) (digit_ascii b v.0.1.0) u2.1 in
    let u4 = cut_at_ascii [] c (d ∷ rest) (digit_ascii c v.0.1.1.0) u3.1 in
    let u5 = cut_at_ascii [] d rest (digit_ascii d v.0.1.1.1.0) u4.1 in
    let more = parts_utf8 quote ps [] (All-tail (IsPart quote) (unicode a b c d) ps h) u5.1 in
    IsUtf8-append front (encode_utf8 (hex_value a b c d) ++ flat_map meaning_of ps) u0.0
    (IsUtf8-append (encode_utf8 (hex_value a b c d)) (flat_map meaning_of ps) (character_utf8 (hex_value a b c d) v.1) more)

-- between the quotes
pub inside : (q : ℕ) (body : List ℕ) → q < 128 → IsUtf8 (q ∷ (body ++ q ∷ [])) → IsUtf8 body
inside q body l u = let a = cut_at_ascii [] q (body ++ q ∷ []) l u in let b = cut_at_ascii body q [] l a.1 in b.0

pub string_utf8 : (word text : List ℕ) → IsStringText word text → IsUtf8 word → IsUtf8 text
string_utf8 word text h u =
    let s = h.0 in
    let body = inside s.quote (flat_map spelling_of s.parts) (quote_low s.quote s.quoted) (subst IsUtf8 s.spelled u) in
    subst IsUtf8 (sym h.1) (parts_utf8 s.quote s.parts [] s.valid body)
