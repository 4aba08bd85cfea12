-- The replacement of escapes, part by part.
use Rattle.std.proofs.Common.{◌≡◌, ◌≢◌, ℕ, ◌+◌, ◌-◌, ◌≤◌, List, [], ◌∷◌, ◌++◌, length, drop, take, get_or, Some, None, All, refl, ap, sym, ◌∙◌, arith, subst, append_assoc}
use Rattle.std.proofs.lemmas.List.{append-nil, drop_at, drop-drop, take_rest, length-drop}
use Rattle.std.proofs.lemmas.List.Elements.{All-head, All-tail}
use Rattle.std.proofs.lemmas.Bool.{eq-eqb}
use Rattle.std.specs.List.{flat_map}
use Rattle.jsx_lex.specs.StringParts.{StringPart, plain, escaped, unicode, spelling_of, meaning_of, IsPart}
use Rattle.jsx_lex.specs.Words.{IsStr}
use Rattle.jsx_lex.specs.Meanings.{IsStringText}
use Rattle.jsx_lex.specs.PartBytes.{bytes_of}
use Rattle.jsx_lex.specs.Reading.{part_at}
use Rattle.jsx_lex.specs.declared.string.Part.{Part}
use Rattle.jsx_lex.proofs.Parts.{part_of, length-part_of, part_at-complete}
use Rattle.jsx_lex.proofs.Strings.{quote_apart}

-- What is written is the meaning of the parts before a place. Those from there on are left.
pub record Decodes (whole word : List ℕ) (quote at : ℕ) (out : List ℕ) : Type 0 where
  pub string : IsStr whole
  pub left : List StringPart
  pub same : word ≡ whole
  pub quote_is : quote ≡ string.quote
  pub within : at ≤ length word
  pub valid : All (IsPart quote) left
  pub rest : drop at word ≡ flat_map spelling_of left ++ quote ∷ []
  pub text : out ++ flat_map meaning_of left ≡ flat_map meaning_of string.parts

pub decodes-first : (word : List ℕ) (quote : ℕ) (out : List ℕ) → IsStr word → quote ≡ get_or word 0 0 → out ≡ [] → Decodes word word quote 1 out
decodes-first word quote out s q e =
    let body : List ℕ = flat_map spelling_of s.parts in
    let k : quote ≡ s.quote = q ∙ ap (λ (zs : List ℕ). get_or zs 0 0) s.spelled in
    let l = ap length s.spelled in
    record {
      string = s;
      left = s.parts;
      same = refl;
      quote_is = k;
      within = omega arith;
      valid = subst (λ (x : ℕ). All (IsPart x) s.parts) (sym k) s.valid;
      rest = ap (λ (zs : List ℕ). drop 1 zs) s.spelled ∙ ap (λ (x : ℕ). body ++ x ∷ []) (sym k);
      text = ap (λ (zs : List ℕ). zs ++ flat_map meaning_of s.parts) e;
    }

bytes_of-part : (p : StringPart) → bytes_of (part_of p).meaning ≡ meaning_of p
bytes_of-part (plain b) = refl
bytes_of-part (escaped c) = refl
bytes_of-part (unicode a b c d) = refl

no_quote : (quote : ℕ) → part_at quote (quote ∷ []) ≡ None
no_quote quote = rw (eq-eqb quote quote refl)

some-is : (whole word : List ℕ) (quote at : ℕ) (out : List ℕ) (d : Decodes whole word quote at out) → quote ≢ 92
some-is whole word quote at out d = let q = quote_apart d.string.quote d.string.quoted in λ e. q (sym d.quote_is ∙ e)

pub decodes-more : (whole word : List ℕ) (quote at : ℕ) (out new : List ℕ) (p : Part) → Decodes whole word quote at out → Some p ≡ part_at quote (take (length word - at) (drop at word)) → p.length ≤ length (take (length word - at) (drop at word)) → new ≡ out ++ bytes_of p.meaning → Decodes whole word quote (at + p.length) new
decodes-more whole word quote at out new p d e w n = by_left d.left d.valid d.rest d.text
  where
    by_left : (left : List StringPart) → All (IsPart quote) left → drop at word ≡ flat_map spelling_of left ++ quote ∷ [] → out ++ flat_map meaning_of left ≡ flat_map meaning_of d.string.parts → Decodes whole word quote (at + p.length) new
    by_left [] valid rest text =
        let e' : Some p ≡ part_at quote (drop at word) = rw (take_rest word at) at e in
        let f : part_at quote (drop at word) ≡ None = ap (λ (zs : List ℕ). part_at quote zs) rest ∙ no_quote quote in
        absurd cc
    by_left (q ∷ qs) valid rest text =
        let e' : Some p ≡ part_at quote (drop at word) = rw (take_rest word at) at e in
        let more : List ℕ = flat_map spelling_of qs ++ quote ∷ [] in
        let split : drop at word ≡ spelling_of q ++ more = rest ∙ append_assoc (spelling_of q) (flat_map spelling_of qs) (quote ∷ []) in
        let f : part_at quote (drop at word) ≡ Some (part_of q) = ap (λ (zs : List ℕ). part_at quote zs) split ∙ part_at-complete quote q more (some-is whole word quote at out d) (All-head (IsPart quote) q qs valid) in
        let i : p ≡ part_of q = cc in
        let l : p.length ≡ length (spelling_of q) = ap (λ (x : Part). x.length) i ∙ length-part_of q in
        let m : bytes_of p.meaning ≡ meaning_of q = ap (λ (x : Part). bytes_of x.meaning) i ∙ bytes_of-part q in
        let w' : p.length ≤ length (drop at word) = rw (take_rest word at) at w in
        let size = length-drop at word in
        let old = d.within in
        record {
          string = d.string;
          left = qs;
          same = d.same;
          quote_is = d.quote_is;
          within = omega arith;
          valid = All-tail (IsPart quote) q qs valid;
          rest = sym (drop-drop p.length at word) ∙ (ap (λ (zs : List ℕ). drop p.length zs) split ∙ drop_at (spelling_of q) more p.length (sym l));
          text = ap (λ (zs : List ℕ). zs ++ flat_map meaning_of qs) (n ∙ ap (λ (zs : List ℕ). out ++ zs) m)
              ∙ (append_assoc out (meaning_of q) (flat_map meaning_of qs) ∙ text);
        }

pub decodes-end : (whole word : List ℕ) (quote at : ℕ) (out : List ℕ) → Decodes whole word quote at out → None ≡ part_at quote (take (length word - at) (drop at word)) → IsStringText whole out
decodes-end whole word quote at out d e = by_left d.left d.valid d.rest d.text
  where
    by_left : (left : List StringPart) → All (IsPart quote) left → drop at word ≡ flat_map spelling_of left ++ quote ∷ [] → out ++ flat_map meaning_of left ≡ flat_map meaning_of d.string.parts → IsStringText whole out
    by_left [] valid rest text = (d.string, sym (append-nil out) ∙ text)
    by_left (q ∷ qs) valid rest text =
        let e' : None ≡ part_at quote (drop at word) = rw (take_rest word at) at e in
        let more : List ℕ = flat_map spelling_of qs ++ quote ∷ [] in
        let split : drop at word ≡ spelling_of q ++ more = rest ∙ append_assoc (spelling_of q) (flat_map spelling_of qs) (quote ∷ []) in
        let f : part_at quote (drop at word) ≡ Some (part_of q) = ap (λ (zs : List ℕ). part_at quote zs) split ∙ part_at-complete quote q more (some-is whole word quote at out d) (All-head (IsPart quote) q qs valid) in
        absurd cc

-- one word, one list of parts
pub same_parts : (quote : ℕ) (ps qs : List StringPart) → quote ≢ 92 → All (IsPart quote) ps → All (IsPart quote) qs → flat_map spelling_of ps ++ quote ∷ [] ≡ flat_map spelling_of qs ++ quote ∷ [] → flat_map meaning_of ps ≡ flat_map meaning_of qs
same_parts quote [] [] n h k e = refl
same_parts quote [] (q ∷ qs) n h k e =
    let more : List ℕ = flat_map spelling_of qs ++ quote ∷ [] in
    let split : quote ∷ [] ≡ spelling_of q ++ more = e ∙ append_assoc (spelling_of q) (flat_map spelling_of qs) (quote ∷ []) in
    let f : part_at quote (quote ∷ []) ≡ Some (part_of q) = ap (λ (zs : List ℕ). part_at quote zs) split ∙ part_at-complete quote q more n (All-head (IsPart quote) q qs k) in
    let g : part_at quote (quote ∷ []) ≡ None = no_quote quote in
    absurd cc
same_parts quote (p ∷ ps) [] n h k e =
    let more : List ℕ = flat_map spelling_of ps ++ quote ∷ [] in
    let split : quote ∷ [] ≡ spelling_of p ++ more = sym e ∙ append_assoc (spelling_of p) (flat_map spelling_of ps) (quote ∷ []) in
    let f : part_at quote (quote ∷ []) ≡ Some (part_of p) = ap (λ (zs : List ℕ). part_at quote zs) split ∙ part_at-complete quote p more n (All-head (IsPart quote) p ps h) in
    let g : part_at quote (quote ∷ []) ≡ None = no_quote quote in
    absurd cc
same_parts quote (p ∷ ps) (q ∷ qs) n h k e =
    let a : List ℕ = flat_map spelling_of ps ++ quote ∷ [] in
    let b : List ℕ = flat_map spelling_of qs ++ quote ∷ [] in
    let split : spelling_of p ++ a ≡ spelling_of q ++ b = sym (append_assoc (spelling_of p) (flat_map spelling_of ps) (quote ∷ [])) ∙ (e ∙ append_assoc (spelling_of q) (flat_map spelling_of qs) (quote ∷ [])) in
    let f : part_at quote (spelling_of p ++ a) ≡ Some (part_of p) = part_at-complete quote p a n (All-head (IsPart quote) p ps h) in
    let g : part_at quote (spelling_of q ++ b) ≡ Some (part_of q) = part_at-complete quote q b n (All-head (IsPart quote) q qs k) in
    let s : Some (part_of p) ≡ Some (part_of q) = sym f ∙ (ap (λ (zs : List ℕ). part_at quote zs) split ∙ g) in
    let i : part_of p ≡ part_of q = cc in
    let m : meaning_of p ≡ meaning_of q = sym (bytes_of-part p) ∙ (ap (λ (x : Part). bytes_of x.meaning) i ∙ bytes_of-part q) in
    let l : length (spelling_of p) ≡ length (spelling_of q) = sym (length-part_of p) ∙ (ap (λ (x : Part). x.length) i ∙ length-part_of q) in
    let r : a ≡ b = sym (drop_at (spelling_of p) a (length (spelling_of q)) l) ∙ (ap (λ (zs : List ℕ). drop (length (spelling_of q)) zs) split ∙ drop_at (spelling_of q) b (length (spelling_of q)) refl) in
    let t = same_parts quote ps qs n (All-tail (IsPart quote) p ps h) (All-tail (IsPart quote) q qs k) r in
    ap (λ (zs : List ℕ). zs ++ flat_map meaning_of ps) m ∙ ap (λ (zs : List ℕ). meaning_of q ++ zs) t

pub one_text : (word text other : List ℕ) → IsStringText word text → IsStringText word other → text ≡ other
one_text word text other h k =
    let s = h.0 in
    let t = k.0 in
    let e : s.quote ∷ (flat_map spelling_of s.parts ++ s.quote ∷ []) ≡ t.quote ∷ (flat_map spelling_of t.parts ++ t.quote ∷ []) = sym s.spelled ∙ t.spelled in
    let q : s.quote ≡ t.quote = ap (λ (zs : List ℕ). get_or zs 0 0) e in
    let e' : flat_map spelling_of s.parts ++ s.quote ∷ [] ≡ flat_map spelling_of t.parts ++ s.quote ∷ [] = ap (λ (zs : List ℕ). drop 1 zs) e ∙ ap (λ (x : ℕ). flat_map spelling_of t.parts ++ x ∷ []) (sym q) in
    h.1 ∙ (same_parts s.quote s.parts t.parts (quote_apart s.quote s.quoted) s.valid (subst (λ (x : ℕ). All (IsPart x) t.parts) (sym q) t.valid) e' ∙ sym k.1)
