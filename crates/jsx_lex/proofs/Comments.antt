-- The comments that the lexer finds are the comments.
use Rattle.std.proofs.Common.{◌≡◌, ℕ, ◌+◌, Bool, true, false, ◌&&◌, nat_eq, List, [], ◌∷◌, ◌++◌, length, drop, codes, Option, Some, None, refl, ap, sym, ◌∙◌, arith}
use Rattle.std.proofs.lemmas.Bool.{or_parts, or_from, cond-true, cond-false}
use Rattle.std.proofs.lemmas.Bool.Decides.{Decides-eqb}
use Rattle.std.proofs.lemmas.Slice.Eq.{starts_is}
use Rattle.jsx_lex.specs.Characters.{begins}
use Rattle.jsx_lex.specs.Words.{has_comment_end}
use Rattle.jsx_lex.specs.Reading.{offset_by, comment_end}

-- a text that begins so
pub begins-split : (front text : List ℕ) → begins front text ≡ true → text ≡ front ++ drop (length front) text
begins-split front text e = (starts_is Decides-eqb text front (begins front text) refl).0 e

pub begins-front : (front more : List ℕ) → begins front (front ++ more) ≡ true
begins-front front more = (starts_is Decides-eqb (front ++ more) front (begins front (front ++ more)) refl).1 more refl

-- what follows a byte of a comment's body is body or the end, and doesn't begin an end with it
begins-body : (b : ℕ) (body after : List ℕ) → begins (codes "*/") (b ∷ body) ≡ false → begins (codes "*/") (b ∷ (body ++ 42 ∷ 47 ∷ after)) ≡ false
begins-body b [] after e = by_star (nat_eq 42 b)
  where
    by_star : (t : Bool) → (t && (false && true)) ≡ false
    by_star true = refl
    by_star false = refl
begins-body b (c ∷ cs) after e = e

body-begins : (b : ℕ) (body after : List ℕ) → begins (codes "*/") (b ∷ (body ++ 42 ∷ 47 ∷ after)) ≡ false → begins (codes "*/") (b ∷ body) ≡ false
body-begins b [] after e = by_star (nat_eq 42 b)
  where
    by_star : (t : Bool) → (t && false) ≡ false
    by_star true = refl
    by_star false = refl
body-begins b (c ∷ cs) after e = e

some-shifted : (k : ℕ) (o : Option ℕ) (n : ℕ) → offset_by k o ≡ Some n → (m : ℕ) × (o ≡ Some m) × (k + m ≡ n)
some-shifted k None n e = absurd cc
some-shifted k (Some m) n e = (m, refl, cc)

pub comment_end-complete : (body after : List ℕ) → has_comment_end body ≡ false → comment_end (body ++ 42 ∷ 47 ∷ after) ≡ Some (length body + 2)
comment_end-complete [] after h = refl
comment_end-complete (b ∷ bs) after h =
    let p = or_parts (begins (codes "*/") (b ∷ bs)) (has_comment_end bs) h in
    cond-false (begins (codes "*/") (b ∷ (bs ++ 42 ∷ 47 ∷ after))) (Some 2) (offset_by 1 (comment_end (bs ++ 42 ∷ 47 ∷ after))) (begins-body b bs after p.0)
    ∙ (ap (λ (o : Option ℕ). offset_by 1 o) (comment_end-complete bs after p.1)
    ∙ ap Some (omega arith))

pub record FindsEnd (text : List ℕ) (n : ℕ) : Type 0 where
  pub body : List ℕ
  pub after : List ℕ
  pub split : text ≡ body ++ 42 ∷ 47 ∷ after
  pub first_end : has_comment_end body ≡ false
  pub length_is : n ≡ length body + 2

one_byte : (b : ℕ) (bs : List ℕ) (n m : ℕ) → begins (codes "*/") (b ∷ bs) ≡ false → 1 + m ≡ n → FindsEnd bs m → FindsEnd (b ∷ bs) n
one_byte b bs n m no_end e f = record {
  body = b ∷ f.body;
  after = f.after;
  split = ap (λ (xs : List ℕ). b ∷ xs) f.split;
  first_end =
      let k : begins (codes "*/") (b ∷ (f.body ++ 42 ∷ 47 ∷ f.after)) ≡ false = ap (λ (xs : List ℕ). begins (codes "*/") (b ∷ xs)) (sym f.split) ∙ no_end in
      or_from (begins (codes "*/") (b ∷ f.body)) (has_comment_end f.body) (body-begins b f.body f.after k) f.first_end;
  length_is = let l = f.length_is in omega arith;
}

pub comment_end-sound : (text : List ℕ) (n : ℕ) → comment_end text ≡ Some n → FindsEnd text n
comment_end-sound [] n e = absurd cc
comment_end-sound (b ∷ bs) n e = by_end (begins (codes "*/") (b ∷ bs)) refl (comment_end-sound bs)
  where
    by_end : (t : Bool) → begins (codes "*/") (b ∷ bs) ≡ t → ((m : ℕ) → comment_end bs ≡ Some m → FindsEnd bs m) → FindsEnd (b ∷ bs) n
    by_end true t ih =
        let f : comment_end (b ∷ bs) ≡ Some 2 = cond-true (begins (codes "*/") (b ∷ bs)) (Some 2) (offset_by 1 (comment_end bs)) t in
        record {
          body = [];
          after = drop 2 (b ∷ bs);
          split = begins-split (codes "*/") (b ∷ bs) t;
          first_end = refl;
          length_is = let s : Some 2 ≡ Some n = sym f ∙ e in let i : 2 ≡ n = cc in sym i;
        }
    by_end false t ih =
        let f : offset_by 1 (comment_end bs) ≡ Some n = sym (cond-false (begins (codes "*/") (b ∷ bs)) (Some 2) (offset_by 1 (comment_end bs)) t) ∙ e in
        let m = some-shifted 1 (comment_end bs) n f in
        one_byte b bs n m.0 t m.2 (ih m.0 m.1)
