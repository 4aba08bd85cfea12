-- The strings of Code that the lexer finds are the strings of Code.
use Rattle.std.proofs.Common.{◌≡◌, ◌≢◌, ℕ, zero, suc, ◌+◌, ◌-◌, ◌<◌, ◌≤◌, Bool, true, false, nat_eq, List, [], ◌∷◌, ◌++◌, length, drop, Option, Some, None, option_and_then, refl, ap, sym, ◌∙◌, arith, subst, All, append_assoc}
use Rattle.std.proofs.lemmas.Bool.{eqb-true, eq-eqb, cond-true, cond-false}
use Rattle.std.proofs.lemmas.List.{drop_at, length-append}
use Rattle.std.proofs.lemmas.List.Elements.{All-nil, All-cons, All-head, All-tail}
use Rattle.std.specs.List.{flat_map}
use Rattle.jsx_lex.specs.Characters.{is_quote}
use Rattle.jsx_lex.specs.StringParts.{StringPart, plain, escaped, unicode, spelling_of, IsPart}
use Rattle.jsx_lex.specs.Reading.{offset_by, part_at, string_len}
use Rattle.jsx_lex.specs.declared.string.Part.{Part}
use Rattle.jsx_lex.proofs.Scanning.{string_len-part}
use Rattle.jsx_lex.proofs.Parts.{part_of, length-part_of, part_at-complete, FindsPart, part_at-sound}

pub some_spelling : (p : StringPart) → 0 < length (spelling_of p)
some_spelling (plain b) = omega arith
some_spelling (escaped c) = omega arith
some_spelling (unicode a b c d) = omega arith

-- a quote is no backslash
pub quote_apart : (q : ℕ) → is_quote q ≡ true → q ≢ 92
quote_apart q h = λ e. let k : is_quote 92 ≡ true = subst (λ (x : ℕ). is_quote x ≡ true) e h in let f : false ≡ true = k in absurd cc

-- parts up to the quote
pub string_len-complete : (quote : ℕ) (parts : List StringPart) (after : List ℕ) → quote ≢ 92 → All (IsPart quote) parts → string_len quote 0 (flat_map spelling_of parts ++ quote ∷ after) ≡ Some (length (flat_map spelling_of parts) + 1)
string_len-complete quote [] after q h = cond-true (nat_eq quote quote) (Some 1) _ (eq-eqb quote quote refl)
string_len-complete quote (p ∷ ps) after q h =
    let rest : List ℕ = flat_map spelling_of ps ++ quote ∷ after in
    let found : part_at quote (spelling_of p ++ rest) ≡ Some (part_of p) = part_at-complete quote p rest q (All-head (IsPart quote) p ps h) in
    let some : 0 < (part_of p).length = rw (length-part_of p) (some_spelling p) in
    let within : (part_of p).length ≤ length (spelling_of p ++ rest) = rw (length-part_of p, length-append (spelling_of p) rest) (omega arith) in
    let goes : drop (part_of p).length (spelling_of p ++ rest) ≡ rest = drop_at (spelling_of p) rest (part_of p).length (sym (length-part_of p)) in
    let more : string_len quote 0 rest ≡ Some (length (flat_map spelling_of ps) + 1) = string_len-complete quote ps after q (All-tail (IsPart quote) p ps h) in
    ap (λ (xs : List ℕ). string_len quote 0 xs) (append_assoc (spelling_of p) (flat_map spelling_of ps) (quote ∷ after))
    ∙ (string_len-part quote (spelling_of p ++ rest) (part_of p) found some within
    ∙ (ap (λ (xs : List ℕ). offset_by (part_of p).length (string_len quote 0 xs)) goes
    ∙ (ap (λ (o : Option ℕ). offset_by (part_of p).length o) more
    ∙ ap Some (rw (length-part_of p, length-append (spelling_of p) (flat_map spelling_of ps)) (omega arith)))))

-- what is found: parts, and the quote
pub record FindsBody (quote : ℕ) (text : List ℕ) (n : ℕ) : Type 0 where
  pub parts : List StringPart
  pub after : List ℕ
  pub valid : All (IsPart quote) parts
  pub split : text ≡ flat_map spelling_of parts ++ quote ∷ after
  pub length_is : n ≡ length (flat_map spelling_of parts) + 1

some-shifted : (k : ℕ) (o : Option ℕ) (n : ℕ) → offset_by k o ≡ Some n → (m : ℕ) × (o ≡ Some m) × (k + m ≡ n)
some-shifted k None n e = absurd cc
some-shifted k (Some m) n e = (m, refl, cc)

one_part : (quote n m : ℕ) (text : List ℕ) (p : Part) (f : FindsPart quote text p) → p.length + m ≡ n → FindsBody quote f.more m → FindsBody quote text n
one_part quote n m text p f e b = record {
  parts = f.part ∷ b.parts;
  after = b.after;
  valid = All-cons (IsPart quote) f.part b.parts f.valid b.valid;
  split = f.split ∙ (ap (λ (xs : List ℕ). spelling_of f.part ++ xs) b.split ∙ sym (append_assoc (spelling_of f.part) (flat_map spelling_of b.parts) (quote ∷ b.after)));
  length_is =
      let l : p.length ≡ length (spelling_of f.part) = ap (λ (x : Part). x.length) (sym f.part_is) ∙ length-part_of f.part in
      let s = length-append (spelling_of f.part) (flat_map spelling_of b.parts) in
      let k = b.length_is in
      rw s (omega arith);
}

pub string_len-sound : (k : ℕ) (quote : ℕ) (text : List ℕ) (n : ℕ) → length text ≤ k → string_len quote 0 text ≡ Some n → FindsBody quote text n
string_len-sound k quote [] n h e = absurd cc
string_len-sound zero quote (b ∷ bs) n h e = absurd (omega arith)
string_len-sound (suc k) quote (b ∷ bs) n h e = by_quote (nat_eq b quote) refl (λ text. string_len-sound k quote text)
  where
    by_part : nat_eq b quote ≡ false → (o : Option Part) → part_at quote (b ∷ bs) ≡ o → ((text : List ℕ) (n : ℕ) → length text ≤ k → string_len quote 0 text ≡ Some n → FindsBody quote text n) → FindsBody quote (b ∷ bs) n
    by_part q None o_is ih = let f : string_len quote 0 (b ∷ bs) ≡ None = cond-false (nat_eq b quote) (Some 1) (option_and_then (λ (r : Part). offset_by 1 (string_len quote (r.length - 1) bs)) (part_at quote (b ∷ bs))) q ∙ ap (λ (o : Option Part). option_and_then (λ (r : Part). offset_by 1 (string_len quote (r.length - 1) bs)) o) o_is in absurd cc
    by_part q (Some p) o_is ih =
        let f : FindsPart quote (b ∷ bs) p = part_at-sound quote (b ∷ bs) p o_is in
        let l : p.length ≡ length (spelling_of f.part) = ap (λ (x : Part). x.length) (sym f.part_is) ∙ length-part_of f.part in
        let some : 0 < p.length = rw l (some_spelling f.part) in
        let size : length (b ∷ bs) ≡ length (spelling_of f.part) + length f.more = ap length f.split ∙ length-append (spelling_of f.part) f.more in
        let within : p.length ≤ length (b ∷ bs) = omega arith in
        let goes : drop p.length (b ∷ bs) ≡ f.more = ap (λ (xs : List ℕ). drop p.length xs) f.split ∙ drop_at (spelling_of f.part) f.more p.length (sym l) in
        let step : offset_by p.length (string_len quote 0 f.more) ≡ Some n = ap (λ (xs : List ℕ). offset_by p.length (string_len quote 0 xs)) (sym goes) ∙ (sym (string_len-part quote (b ∷ bs) p o_is some within) ∙ e) in
        let m = some-shifted p.length (string_len quote 0 f.more) n step in
        one_part quote n m.0 (b ∷ bs) p f m.2 (ih f.more m.0 (omega arith) m.1)

    by_quote : (t : Bool) → nat_eq b quote ≡ t → ((text : List ℕ) (n : ℕ) → length text ≤ k → string_len quote 0 text ≡ Some n → FindsBody quote text n) → FindsBody quote (b ∷ bs) n
    by_quote true q ih =
        let f : string_len quote 0 (b ∷ bs) ≡ Some 1 = cond-true (nat_eq b quote) (Some 1) _ q in
        record {
          parts = [];
          after = bs;
          valid = All-nil (IsPart quote);
          split = ap (λ (x : ℕ). x ∷ bs) (eqb-true b quote q);
          length_is = let s : Some 1 ≡ Some n = sym f ∙ e in let i : 1 ≡ n = cc in sym i;
        }
    by_quote false q ih = by_part q (part_at quote (b ∷ bs)) refl ih
