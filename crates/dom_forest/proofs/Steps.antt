-- Steps along a chain.
use Rattle.std.proofs.Common.{◌≡◌, ℕ, zero, suc, ◌+◌, ◌≤◌, ◌<◌, false, eqb, ltb, inl, inr, Option, Some, None, List, [], ◌∷◌, ◌++◌, length, drop, refl, sym, ap, ◌∙◌, arith}
use Rattle.std.specs.List.{prefix_len}
use Rattle.std.proofs.lemmas.Bool.{cond-true, cond-false, cases_eq, eq-eqb, ne_eqb, lt-ltb}
use Rattle.std.proofs.lemmas.List.{length-append, length-drop}
use Rattle.dom_forest.specs.declared.entry.Entry.{Entry}
use Rattle.dom_forest.specs.Chain.{entry_times, head_id, last_id, rest_from, up_to}
use Rattle.dom_forest.specs.Forest.{Forest, empty, tree, first_id}
use Rattle.dom_forest.specs.Flat.{flat}
use Rattle.dom_forest.specs.Runs.{below_at, id_after}
use Rattle.dom_forest.proofs.Flattening.{counts_one}
use Rattle.dom_forest.proofs.Focus.{id_after-append}

pub not_deeper : (depth : ℕ) (es : List Entry) (e : Entry) (rest : List Entry) → es ≡ e ∷ rest → ltb depth e.depth ≡ false → prefix_len (below_at depth) es ≡ 0
not_deeper depth es e rest is h = ap (prefix_len (below_at depth)) is ∙ cond-false (ltb depth e.depth) _ _ h

pub one_deeper : (depth : ℕ) (es : List Entry) (e : Entry) (rest : List Entry) → es ≡ e ∷ rest → depth < e.depth → prefix_len (below_at depth) es ≡ 1 + prefix_len (below_at depth) rest
one_deeper depth es e rest is h = ap (prefix_len (below_at depth)) is ∙ cond-true (ltb depth e.depth) _ _ (lt-ltb depth e.depth h)

pub length-rest : (id : Option ℕ) (es : List Entry) → length (rest_from id es) ≤ length es
length-rest None es = omega arith
length-rest (Some id) [] = omega arith
length-rest (Some id) (e ∷ es) = elim (cases_eq e.id id) [
  | inl same ↦ omega (arith, ap length (cond-true (eqb e.id id) (e ∷ es) (rest_from (Some id) es) (eq-eqb e.id id same)))
  | inr other ↦ omega (arith, ap length (cond-false (eqb e.id id) (e ∷ es) (rest_from (Some id) es) (ne_eqb e.id id other)), length-rest (Some id) es)
]

plus_suc : (n : ℕ) → suc n + 1 ≡ suc (n + 1)
plus_suc n = omega arith

pub drop_one : (n : ℕ) (es : List Entry) (e : Entry) (rest : List Entry) → drop n es ≡ e ∷ rest → drop (n + 1) es ≡ rest
drop_one zero [] e rest h = cc
drop_one (suc n) [] e rest h = cc
drop_one zero (x ∷ es) e rest h = ap (drop 1) h
drop_one (suc n) (x ∷ es) e rest h = ap (λ k. drop k (x ∷ es)) (plus_suc n) ∙ drop_one n es e rest h

up_gone : (id : ℕ) (es : List Entry) → entry_times id es ≡ 0 → up_to (Some id) es ≡ es
up_gone id [] h = refl
up_gone id (e ∷ es) h = elim (cases_eq e.id id) [
  | inl same ↦ absurd (omega (arith, h, counts_one e.id id same))
  | inr other ↦ cond-false (eqb e.id id) _ _ (ne_eqb e.id id other) ∙ ap (λ l. e ∷ l) (up_gone id es (omega arith))
]

last-there : (before : Option ℕ) (e : Entry) (es : List Entry) (id : ℕ) → Some id ≡ last_id before (e ∷ es) → 1 ≤ entry_times id (e ∷ es)
last-there before e [] id h = let same : e.id ≡ id = cc in omega (arith, counts_one e.id id same)
last-there before e (x ∷ es) id h = omega (arith, last-there (Some e.id) x es id h)

last_there : (es : List Entry) (id : ℕ) → Some id ≡ last_id None es → 1 ≤ entry_times id es
last_there [] id h = cc
last_there (e ∷ es) id h = last-there None e es id h

-- What comes before is there.
pub before_there : (es : List Entry) (id : ℕ) → Some id ≡ last_id None (up_to (Some id) es) → entry_times id es ≡ 0 → ⊥
before_there es id last gone = omega (arith, gone, last_there es id (last ∙ ap (last_id None) (up_gone id es gone)))

pub kept_last : (step : Entry → Option ℕ → Option ℕ) (es front : List Entry) (e : Entry) → es ≡ front ++ e ∷ [] → id_after step None es ≡ step e (id_after step None front)
kept_last step es front e is = ap (id_after step None) is ∙ id_after-append step None front (e ∷ [])

pub shorter_last : (es front : List Entry) (e : Entry) → es ≡ front ++ e ∷ [] → length front < length es
shorter_last es front e is = omega (arith, ap length is, length-append front (e ∷ []))

pub head_forest : (forest : Forest) → head_id (flat 0 forest []) None ≡ first_id forest
head_forest empty = refl
head_forest (tree i content kids later) = refl

none_head : (es : List Entry) → None ≡ head_id es None → length es ≡ 0
none_head [] h = refl
none_head (e ∷ es) h = cc

head_none : (es : List Entry) → length es ≡ 0 → None ≡ head_id es None
head_none [] h = refl
head_none (e ∷ es) h = absurd (omega arith)

-- All are passed exactly where nothing comes after them.
pub all_passed : (n : ℕ) (es rest : List Entry) (next : Option ℕ) → next ≡ head_id rest None → rest ≡ drop n es → n ≤ length es → next ≡ None → n ≡ length es
all_passed n es rest next head left h none =
    omega (arith, none_head rest (sym none ∙ head), ap length left, length-drop n es)

pub passed_all : (n : ℕ) (es rest : List Entry) (next : Option ℕ) → next ≡ head_id rest None → rest ≡ drop n es → n ≡ length es → next ≡ None
passed_all n es rest next head left h =
    head ∙ sym (head_none rest (omega (arith, ap length left, length-drop n es)))

pub none_after : (n : ℕ) (es : List Entry) → n ≡ length es → None ≡ head_id (drop n es) None
none_after n es h = head_none (drop n es) (omega (arith, length-drop n es))
