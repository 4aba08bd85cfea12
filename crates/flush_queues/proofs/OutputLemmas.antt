-- What is written in parts.
use Rattle.std.proofs.Common.{◌≡◌, ℕ, List, ◌∷◌, ◌++◌, ◌∙◌, ap, subst, sym, refl}
use Rattle.std.specs.Prelude.{codes}
use Rattle.html_names.specs.Escape.{escape_of}
use Rattle.flush_queues.specs.Flows.{digest_template}
use Rattle.std.proofs.lemmas.List.{append_assoc}

pub append_three : (out a b c : List ℕ) → out ++ a ++ b ++ c ≡ out ++ (a ++ (b ++ c))
append_three out a b c = append_assoc (out ++ a) b c ∙ append_assoc out a (b ++ c)

pub append_four : (out a b c d : List ℕ) → out ++ a ++ b ++ c ++ d ≡ out ++ (a ++ (b ++ (c ++ d)))
append_four out a b c d = append_three (out ++ a) b c d ∙ append_assoc out a (b ++ (c ++ d))

-- what was written in three parts, of which the last is still to come
pub three_parts : (out a b c one two : List ℕ) → one ≡ out ++ a → two ≡ one ++ b → two ++ c ≡ out ++ (a ++ (b ++ c))
three_parts out a b c one two first second =
    ap (λ (x : List ℕ). x ++ c) (second ∙ ap (λ (x : List ℕ). x ++ b) first) ∙ append_three out a b c

pub four_parts : (out a b c d one two three : List ℕ) → one ≡ out ++ a → two ≡ one ++ b → three ≡ two ++ c
    → three ++ d ≡ out ++ (a ++ (b ++ (c ++ d)))
four_parts out a b c d one two three first second third =
    ap (λ (x : List ℕ). x ++ d) (third ∙ ap (λ (x : List ℕ). x ++ c) (second ∙ ap (λ (x : List ℕ). x ++ b) first))
    ∙ append_four out a b c d

pub digest_template-cons : (digest : List ℕ) (first : ℕ) (rest : List ℕ) → digest ≡ first ∷ rest
    → codes "<template data-dgst=\"" ++ (escape_of digest ++ codes "\"></template>") ≡ digest_template digest
digest_template-cons digest first rest is =
    subst (λ (d : List ℕ). codes "<template data-dgst=\"" ++ (escape_of d ++ codes "\"></template>") ≡ digest_template d)
    (sym is) refl
