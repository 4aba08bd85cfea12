-- The text of a string, read from the left.
use Rattle.std.proofs.Common.{◌≡◌, ◌≢◌, ℕ, ◌-◌, ◌==◌, Bool, true, false, if◌then◌else◌, List, [], ◌∷◌, ◌++◌, length, take, drop, Some, None, IsSome, unwrap_or, All, refl, sym, ◌∙◌, ap, subst, append_assoc, arith, length-append}
use Rattle.std.specs.List.{flat_map}
use Rattle.std.proofs.lemmas.Bool.{ne_eqb}
use Rattle.std.proofs.lemmas.List.{take_at, append-nil}
use Rattle.std.proofs.lemmas.List.Elements.{All-head, All-tail}
use Rattle.jsx_lex.specs.Meanings.{Escape, none, begun, digits, IsStringText, between_quotes, last_meaning, string_text_of, text_after}
use Rattle.jsx_lex.specs.StringParts.{StringPart, plain, escaped, unicode, spelling_of, meaning_of, escape_value, IsPart}
use Rattle.jsx_lex.specs.Words.{IsStr}

at_false : {A : Type 0} (b : Bool) (x y : A) → b ≡ false → (if b then x else y) ≡ y
at_false b x y e = rw e refl

-- a byte that stands for itself
text_after-plain : (b : ℕ) (more : List ℕ) → b ≢ 92 → text_after none (b ∷ more) ≡ b ∷ text_after none more
text_after-plain b more apart =
    let e : (b == 92) ≡ false = ne_eqb b 92 apart in
    rw e refl

no_unicode : (c : ℕ) → IsSome (escape_value c) → c ≢ 117
no_unicode c some is = none_at (subst (λ (n : ℕ). IsSome (escape_value n)) is some)
  where
    none_at : IsSome (escape_value 117) → ⊥
    none_at h = cc

text_after-escaped : (c : ℕ) (more : List ℕ) → IsSome (escape_value c) → text_after none (92 ∷ c ∷ more) ≡ unwrap_or (escape_value c) 0 ∷ text_after none more
text_after-escaped c more some =
    let e : (c == 117) ≡ false = ne_eqb c 117 (no_unicode c some) in
    rw e refl

text_after-part : (quote : ℕ) (p : StringPart) (more : List ℕ) → IsPart quote p → text_after none (spelling_of p ++ more) ≡ meaning_of p ++ text_after none more
text_after-part quote (plain b) more h = text_after-plain b more h.1
text_after-part quote (escaped c) more h = text_after-escaped c more h
text_after-part quote (unicode a b c d) more h = refl

text_after-parts : (quote : ℕ) (ps : List StringPart) → All (IsPart quote) ps → text_after none (flat_map spelling_of ps) ≡ flat_map meaning_of ps
text_after-parts quote [] h = refl
text_after-parts quote (p ∷ ps) h =
    text_after-part quote p (flat_map spelling_of ps) (All-head (IsPart quote) p ps h)
    ∙ ap (λ (zs : List ℕ). meaning_of p ++ zs) (text_after-parts quote ps (All-tail (IsPart quote) p ps h))

pub between_quotes-quoted : (quote : ℕ) (body : List ℕ) → between_quotes (quote ∷ (body ++ quote ∷ [])) ≡ body
between_quotes-quoted quote body =
    take_at body (quote ∷ []) (length (quote ∷ (body ++ quote ∷ [])) - 2) (omega (arith, length-append body (quote ∷ [])))

pub string_text_of-is : (word text : List ℕ) → IsStringText word text → text ≡ string_text_of word
string_text_of-is word text h =
    let s = h.0 in
    h.1 ∙ sym (text_after-parts s.quote s.parts s.valid)
    ∙ ap (λ (zs : List ℕ). text_after none zs) (sym (between_quotes-quoted s.quote (flat_map spelling_of s.parts)) ∙ ap between_quotes (sym s.spelled))
