-- Tokens are refused at one place, for one thing.
use Rattle.std.proofs.Common.{◌≡◌, ℕ, Bool, true, false, List, [], ◌∷◌, ◌++◌, refl, sym, ap, subst, ◌∙◌, append_assoc}
use Rattle.std.proofs.lemmas.List.{map-append}
use Rattle.jsx_lex.specs.TokenMeanings.{word_at, words_of}
use Rattle.jsx_lex.specs.declared.token.Token.{Token}
use Rattle.jsx_lex.specs.declared.word.Word.{Word}
use Rattle.jsx_syntax.specs.declared.fault.Wanted.{Wanted}
use Rattle.jsx_syntax.specs.declared.fault.SyntaxFault.TheVariants.{Bad}
use Rattle.jsx_syntax.specs.Grammar.{SpellsFile}
use Rattle.jsx_syntax.specs.Refusals.{IsAlive, IsDead}
use Rattle.jsx_syntax.specs.Parsing.{IsRefusedAt, HasCause, place_of}
use Rattle.jsx_syntax.specs.Marks.{marks_of}
use Rattle.jsx_syntax.specs.Kinds.{IsWanted, IsWantedFor, wanted_of}
use Rattle.jsx_syntax.proofs.Closings.{ap2}

-- Two splits of one list: the same, or one of them later.
data Splits (b a b' a' : List Token) : Type 0 where
  same : b ≡ b' → a ≡ a' → Splits b a b' a'
  later : (t : Token) (mid : List Token) → a ≡ t ∷ (mid ++ a') → b' ≡ b ++ t ∷ mid → Splits b a b' a'
  earlier : (t : Token) (mid : List Token) → a' ≡ t ∷ (mid ++ a) → b ≡ b' ++ t ∷ mid → Splits b a b' a'

same_head : (x y : Token) (xs ys : List Token) → x ∷ xs ≡ y ∷ ys → x ≡ y
same_head x y xs ys e = cc

same_tail : (x y : Token) (xs ys : List Token) → x ∷ xs ≡ y ∷ ys → xs ≡ ys
same_tail x y xs ys e = cc

one_more : (x y : Token) (b a b' a' : List Token) → x ≡ y → Splits b a b' a' → Splits (x ∷ b) a (y ∷ b') a'
one_more x y b a b' a' h (same p q) = same (ap2 (λ (z : Token) (zs : List Token). z ∷ zs) h p) q
one_more x y b a b' a' h (later t mid p q) = later t mid p (ap2 (λ (z : Token) (zs : List Token). z ∷ zs) (sym h) q)
one_more x y b a b' a' h (earlier t mid p q) = earlier t mid p (ap2 (λ (z : Token) (zs : List Token). z ∷ zs) h q)

splits : (b a b' a' : List Token) → b ++ a ≡ b' ++ a' → Splits b a b' a'
splits [] a [] a' e = same refl e
splits [] a (y ∷ b') a' e = later y b' e refl
splits (x ∷ b) a [] a' e = earlier x b (sym e) refl
splits (x ∷ b) a (y ∷ b') a' e =
    one_more x y b a b' a' (same_head x y (b ++ a) (b' ++ a') e) (splits b a b' a' (same_tail x y (b ++ a) (b' ++ a') e))

-- After the first word that no file has there, no words are those of a file's beginning.
regrouped : (text : List ℕ) (b mid : List Token) (t : Token) (more : List Word)
    → words_of text (b ++ t ∷ mid) ++ more ≡ words_of text b ++ word_at text t ∷ (words_of text mid ++ more)
regrouped text b mid t more =
    ap (λ (ws : List Word). ws ++ more) (map-append (word_at text) b (t ∷ mid))
    ∙ append_assoc (words_of text b) (word_at text t ∷ words_of text mid) more

dead_later : (text : List ℕ) (b a b' a' mid : List Token) (t : Token) → a ≡ t ∷ (mid ++ a') → b' ≡ b ++ t ∷ mid
    → IsDead (words_of text b) (words_of text a) → IsAlive (words_of text b') → ⊥
dead_later text b a b' a' mid t e f dead alive =
    let now : IsDead (words_of text b) (word_at text t ∷ words_of text (mid ++ a')) =
    subst (λ (ts : List Token). IsDead (words_of text b) (words_of text ts)) e dead in
    now (words_of text mid ++ alive.more) alive.file
    (subst (λ (ws : List Word). SpellsFile ws alive.file)
    (ap (λ (ts : List Token). words_of text ts ++ alive.more) f ∙ regrouped text b mid t alive.more) alive.spells)

one_flag : (x y : Bool) → (x ≡ true → y ≡ true) → (y ≡ true → x ≡ true) → x ≡ y
one_flag true y h k = sym (h refl)
one_flag false true h k = k refl
one_flag false false h k = refl

one_wanted : (before after : List Word) (v w : Wanted) → IsWanted before after v → IsWanted before after w → v ≡ w
one_wanted before [] v w a b = a ∙ sym b
one_wanted before (word ∷ after) v w a b =
    let may = one_flag a.value_may b.value_may (λ h. b.value_may_not (a.value_may_be h)) (λ h. a.value_may_not (b.value_may_be h)) in
    a.wanted_is ∙ ap (λ (x : Bool). wanted_of x (marks_of before) word) may ∙ sym b.wanted_is

pub one_refusal : (text : List ℕ) (tokens : List Token) (m n : ℕ) (v w : Wanted) → HasCause text tokens (Bad m v) → HasCause text tokens (Bad n w)
    → (m ≡ n) × (v ≡ w)
one_refusal text tokens m n v w p q = by_splits (splits p.0.before p.0.after q.0.before q.0.after (sym p.0.split ∙ q.0.split))
  where
    by_splits : Splits p.0.before p.0.after q.0.before q.0.after → (m ≡ n) × (v ≡ w)
    by_splits (same e f) = (
      p.0.place_is ∙ ap (place_of text) f ∙ sym q.0.place_is,
      one_wanted (words_of text q.0.before) (words_of text q.0.after) v w
          (subst (λ (ts : List Token). IsWanted (words_of text ts) (words_of text q.0.after) v) e
          (subst (λ (ts : List Token). IsWanted (words_of text p.0.before) (words_of text ts) v) f p.1)) q.1,
    )
    by_splits (later t mid e f) = absurd (dead_later text p.0.before p.0.after q.0.before q.0.after mid t e f p.0.refused.dead q.0.refused.alive)
    by_splits (earlier t mid e f) = absurd (dead_later text q.0.before q.0.after p.0.before p.0.after mid t e f q.0.refused.dead p.0.refused.alive)
