use Rattle.std.proofs.Common.{◌≡◌, ℕ, Bool, not, List, [], ◌∷◌, ◌++◌, take, drop, filter, inl, inr, one-add, refl, sym, ap, ◌∙◌}
use Rattle.std.proofs.lemmas.Bool.{cases_Bool, cond-true, cond-false}
use Rattle.std.proofs.lemmas.List.{append_assoc}
use Rattle.std.proofs.lemmas.List.Sums.{prefix_len-le-length}
use Rattle.std.specs.List.{prefix_len}
use Rattle.fizz_text.specs.declared.attribute.Attr.{Attr}
use Rattle.dom_forest.specs.Edits.{is_digest, with_digest, digest_attribute}
use Rattle.dom_forest.proofs.digest.with_digest.Goals as goal

abbrev other : Attr → Bool
other a = not (is_digest a)

-- The digest stands between the others before the first of its name and the others after it.
split_digest : (digest : List ℕ) (attributes : List Attr)
    → filter other (take (prefix_len other attributes) attributes) ++ digest_attribute digest ∷ filter other (drop (prefix_len other attributes) attributes) ≡ with_digest digest attributes
split_digest digest [] = refl
split_digest digest (a ∷ rest) = elim (cases_Bool (is_digest a)) [
  | inl here ↦
      ap (λ n. filter other (take n (a ∷ rest)) ++ digest_attribute digest ∷ filter other (drop n (a ∷ rest))) (cond-false (other a) _ _ (ap not here))
      ∙ ap (λ xs. digest_attribute digest ∷ xs) (cond-false (other a) _ _ (ap not here))
      ∙ sym (cond-true (is_digest a) _ _ here)
  | inr there ↦
      ap (λ n. filter other (take n (a ∷ rest)) ++ digest_attribute digest ∷ filter other (drop n (a ∷ rest))) (cond-true (other a) _ _ (ap not there) ∙ one-add (prefix_len other rest))
      ∙ ap (λ xs. xs ++ digest_attribute digest ∷ filter other (drop (prefix_len other rest) rest)) (cond-true (other a) _ _ (ap not there))
      ∙ ap (λ xs. a ∷ xs) (split_digest digest rest)
      ∙ sym (cond-false (is_digest a) _ _ there)
]

pub split_at-requires : goal.split_at-requires
split_at-requires c = rw c.others_before.ensures (prefix_len-le-length other c.args.attributes.now)

-- one step of the code after another
written : (digest : Attr) (all before after none first second third : List Attr) (n : ℕ) → n ≡ prefix_len other all → before ≡ take n all → after ≡ drop n all
    → none ≡ [] → first ≡ none ++ filter other before → second ≡ first ++ digest ∷ [] → third ≡ second ++ filter other after
    → third ≡ filter other (take (prefix_len other all) all) ++ digest ∷ filter other (drop (prefix_len other all) all)
written digest all before after none first second third n count front back start one two three =
    three ∙ ap (λ xs. xs ++ filter other after) (two ∙ ap (λ xs. xs ++ digest ∷ []) (one ∙ ap (λ xs. xs ++ filter other before) start))
    ∙ append_assoc (filter other before) (digest ∷ []) (filter other after)
    ∙ ap (λ xs. filter other xs ++ digest ∷ filter other after) (front ∙ ap (λ k. take k all) count)
    ∙ ap (λ xs. filter other (take (prefix_len other all) all) ++ digest ∷ filter other xs) (back ∙ ap (λ k. drop k all) count)

pub returns : goal.returns
returns c =
    let digest = digest_attribute c.args.digest in
    let pushed : c.push.new.self ≡ c.push_others.new.set ++ digest ∷ [] = c.in_ok-push.ensures.ok ∙ ap (λ a. c.push_others.new.set ++ a ∷ []) c.attribute_of.ensures in
    written digest c.args.attributes.now c.split_at.result.0.now c.split_at.result.1.now c.new-set.result c.push_others.new.set c.push.new.self c.push_others-2.new.set c.others_before.result
    c.others_before.ensures c.split_at.ensures.front c.split_at.ensures.back c.new-set.ensures c.in_ok-push_others.ensures pushed c.in_ok-push_others-2.ensures
    ∙ split_digest c.args.digest c.args.attributes.now
