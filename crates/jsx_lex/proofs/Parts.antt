-- The parts of strings that the lexer finds are the parts of strings.
use Rattle.std.proofs.Common.{◌≡◌, ◌≢◌, ℕ, ◌<◌, Bool, true, false, ◌&&◌, ◌||◌, nat_eq, List, [], ◌∷◌, ◌++◌, length, Option, Some, None, IsSome, unwrap_or, option_map, option_and_then, refl, ap, sym, ◌∙◌, subst}
use Rattle.std.proofs.lemmas.Bool.{and_parts, or_parts, eqb-true, eqb-false, ne_eqb, lt-ltb, ltb-true, cond-false, cond-true}
use Rattle.std.specs.Char.{is_digit, digit_value}
use lib.Utf8.{scalar}
use Rattle.jsx_lex.specs.StringParts.{StringPart, plain, escaped, unicode, spelling_of, escape_value, hex_value, IsPart}
use Rattle.jsx_lex.specs.Reading.{part, character_part, hex_at, unicode_at, escape_at, part_at}
use Rattle.jsx_lex.specs.declared.string.Part.{Part}
use Rattle.jsx_lex.specs.declared.string.Meaning.TheVariants.{Byte, Character}

-- what the lexer keeps of a part
abbrev pub part_of : StringPart → Part
part_of (plain b) = part 1 (Byte b)
part_of (escaped c) = part 2 (Byte (unwrap_or (escape_value c) 0))
part_of (unicode a b c d) = part 6 (Character (hex_value a b c d))

pub length-part_of : (p : StringPart) → (part_of p).length ≡ length (spelling_of p)
length-part_of (plain b) = refl
length-part_of (escaped c) = refl
length-part_of (unicode a b c d) = refl

map-some : (F : ℕ → Part) (o : Option ℕ) → IsSome o → option_map F o ≡ Some (F (unwrap_or o 0))
map-some F None h = let k : false ≡ true = h in absurd cc
map-some F (Some v) h = refl

no_u : (c : ℕ) → IsSome (escape_value c) → c ≢ 117
no_u c h = λ e. let no : IsSome (escape_value 117) = subst (λ (x : ℕ). IsSome (escape_value x)) e h in let k : false ≡ true = no in absurd cc

-- every part of a string is found, whatever follows
pub part_at-complete : (quote : ℕ) (p : StringPart) (more : List ℕ) → quote ≢ 92 → IsPart quote p → part_at quote (spelling_of p ++ more) ≡ Some (part_of p)
part_at-complete quote (plain b) more q h = rw (ne_eqb b quote h.0, ne_eqb b 10 h.2, ne_eqb b 92 h.1)
part_at-complete quote (escaped c) more q h =
    let no : nat_eq 92 quote ≡ false = ne_eqb 92 quote (λ e. q (sym e)) in
    let u : nat_eq c 117 ≡ false = ne_eqb c 117 (no_u c h) in
    rw (no, u) (map-some (λ v. part 2 (Byte v)) (escape_value c) h)
part_at-complete quote (unicode a b c d) more q h =
    let no : nat_eq 92 quote ≡ false = ne_eqb 92 quote (λ e. q (sym e)) in
    rw no (ap (λ (o : Option ℕ). option_and_then character_part o) (hex a b c d h.0.0 h.0.1.0 h.0.1.1.0 h.0.1.1.1.0) ∙ cond-true (scalar (hex_value a b c d)) (Some (part 6 (Character (hex_value a b c d)))) None h.1)
  where
    hex : (a b c d : ℕ) → digit_value a < 16 → digit_value b < 16 → digit_value c < 16 → digit_value d < 16 → hex_at a b c d ≡ Some (hex_value a b c d)
    hex a b c d ha hb hc hd = rw (lt-ltb (digit_value a) 16 ha, lt-ltb (digit_value b) 16 hb, lt-ltb (digit_value c) 16 hc, lt-ltb (digit_value d) 16 hd)

-- and what is found is one
pub record FindsPart (quote : ℕ) (text : List ℕ) (found : Part) : Type 0 where
  pub part : StringPart
  pub more : List ℕ
  pub valid : IsPart quote part
  pub split : text ≡ spelling_of part ++ more
  pub part_is : part_of part ≡ found

some-map : (F : ℕ → Part) (o : Option ℕ) (r : Part) → option_map F o ≡ Some r → (v : ℕ) × (o ≡ Some v) × (F v ≡ r)
some-map F None r e = absurd cc
some-map F (Some v) r e = (v, refl, cc)

unicode-sound : (quote : ℕ) (text : List ℕ) (p : Part) → unicode_at text ≡ Some p → FindsPart quote (92 ∷ 117 ∷ text) p
unicode-sound quote [] p e = absurd cc
unicode-sound quote (a ∷ []) p e = absurd cc
unicode-sound quote (a ∷ b ∷ []) p e = absurd cc
unicode-sound quote (a ∷ b ∷ c ∷ []) p e = absurd cc
unicode-sound quote (a ∷ b ∷ c ∷ d ∷ more) p e = by_digits (((is_digit a 16 && is_digit b 16) && is_digit c 16) && is_digit d 16) refl
  where
    by_scalar : (((is_digit a 16 && is_digit b 16) && is_digit c 16) && is_digit d 16) ≡ true → (t : Bool) → scalar (hex_value a b c d) ≡ t → FindsPart quote (92 ∷ 117 ∷ a ∷ b ∷ c ∷ d ∷ more) p
    by_scalar all true s =
        let h = and_parts ((is_digit a 16 && is_digit b 16) && is_digit c 16) (is_digit d 16) all in
        let h' = and_parts (is_digit a 16 && is_digit b 16) (is_digit c 16) h.0 in
        let h'' = and_parts (is_digit a 16) (is_digit b 16) h'.0 in
        let f : unicode_at (a ∷ b ∷ c ∷ d ∷ more) ≡ Some (part 6 (Character (hex_value a b c d))) = rw (all, s) in
        record {
          part = unicode a b c d;
          more = more;
          valid = ((ltb-true (digit_value a) 16 h''.0, (ltb-true (digit_value b) 16 h''.1, (ltb-true (digit_value c) 16 h'.1, (ltb-true (digit_value d) 16 h.1, tt)))), s);
          split = refl;
          part_is = cc;
        }
    by_scalar all false s =
        let f : unicode_at (a ∷ b ∷ c ∷ d ∷ more) ≡ None = rw (all, s) in absurd cc

    by_digits : (t : Bool) → (((is_digit a 16 && is_digit b 16) && is_digit c 16) && is_digit d 16) ≡ t → FindsPart quote (92 ∷ 117 ∷ a ∷ b ∷ c ∷ d ∷ more) p
    by_digits true all = by_scalar all (scalar (hex_value a b c d)) refl
    by_digits false all = let f : unicode_at (a ∷ b ∷ c ∷ d ∷ more) ≡ None = rw all in absurd cc

escape-sound : (quote : ℕ) (text : List ℕ) (p : Part) → escape_at text ≡ Some p → FindsPart quote (92 ∷ text) p
escape-sound quote [] p e = absurd cc
escape-sound quote (c ∷ cs) p e = by_u (nat_eq c 117) refl
  where
    by_u : (t : Bool) → nat_eq c 117 ≡ t → FindsPart quote (92 ∷ c ∷ cs) p
    by_u true u =
        let f : unicode_at cs ≡ Some p = sym (cond-true (nat_eq c 117) (unicode_at cs) (option_map (λ v. part 2 (Byte v)) (escape_value c)) u) ∙ e in
        subst (λ (x : ℕ). FindsPart quote (92 ∷ x ∷ cs) p) (sym (eqb-true c 117 u)) (unicode-sound quote cs p f)
    by_u false u =
        let f : option_map (λ v. part 2 (Byte v)) (escape_value c) ≡ Some p = sym (cond-false (nat_eq c 117) (unicode_at cs) (option_map (λ v. part 2 (Byte v)) (escape_value c)) u) ∙ e in
        let v = some-map (λ v. part 2 (Byte v)) (escape_value c) p f in
        record {
          part = escaped c;
          more = cs;
          valid = subst (λ (o : Option ℕ). IsSome o) (sym v.1) refl;
          split = refl;
          part_is = ap (λ (o : Option ℕ). part 2 (Byte (unwrap_or o 0))) v.1 ∙ v.2;
        }

pub part_at-sound : (quote : ℕ) (text : List ℕ) (p : Part) → part_at quote text ≡ Some p → FindsPart quote text p
part_at-sound quote [] p e = absurd cc
part_at-sound quote (b ∷ bs) p e = by_end (nat_eq b quote || nat_eq b 10) refl
  where
    by_backslash : (nat_eq b quote || nat_eq b 10) ≡ false → (t : Bool) → nat_eq b 92 ≡ t → FindsPart quote (b ∷ bs) p
    by_backslash plain_b true k =
        let f : part_at quote (b ∷ bs) ≡ escape_at bs = rw (plain_b, k) in
        subst (λ (x : ℕ). FindsPart quote (x ∷ bs) p) (sym (eqb-true b 92 k)) (escape-sound quote bs p (sym f ∙ e))
    by_backslash plain_b false k =
        let f : part_at quote (b ∷ bs) ≡ Some (part 1 (Byte b)) = rw (plain_b, k) in
        let n = or_parts (nat_eq b quote) (nat_eq b 10) plain_b in
        record {
          part = plain b;
          more = bs;
          valid = (eqb-false b quote n.0, eqb-false b 92 k, eqb-false b 10 n.1);
          split = refl;
          part_is = cc;
        }

    by_end : (t : Bool) → (nat_eq b quote || nat_eq b 10) ≡ t → FindsPart quote (b ∷ bs) p
    by_end true plain_b = let f : part_at quote (b ∷ bs) ≡ None = rw plain_b in absurd cc
    by_end false plain_b = by_backslash plain_b (nat_eq b 92) refl
