-- What edits of pages keep: no placeholder, boundaries shown whole, clean elements; and how they change the ids.
use Rattle.std.proofs.Common.{◌≡◌, ℕ, ◌+◌, ◌≤◌, ◌==◌, eqb, Bool, true, false, if◌then◌else◌, inl, inr, List, Some, refl, sym, ap, ◌∙◌, subst, arith}
use Rattle.std.proofs.lemmas.Bool.{cond-true, cond-false, eq-eqb}
use Rattle.page_laws.specs.Pages.{Page, nothing, text, element, separator, placeholder, complete, pending, client, joined_pages, HasNoPlaceholder, IsCleanPage, RevealsWholePage, one_at, zero_at, weight_of_ids, placeholder_count, pending_count}
use Rattle.page_laws.specs.PageEdits.{with_replacements, filled_at, completed_at, failed_at, with_placeholder_filled, with_boundary_completed, with_boundary_failed}
use Rattle.page_laws.proofs.PageEditsLemmas.{at_none, at_one, with_replacements-none, zero_or_none}
use Rattle.page_laws.proofs.Turned.{split_one}

-- A choice between two pages with a property has it.
either_has : (P : Page → Type 0) (b : Bool) (x y : Page) → P x → P y → P (if b then x else y)
either_has P true x y px py = px
either_has P false x y px py = py

-- Joins

pub no_placeholder-joined : (a b : Page) → HasNoPlaceholder a → HasNoPlaceholder b → HasNoPlaceholder (joined_pages a b)
no_placeholder-joined nothing b x y = y
no_placeholder-joined (text t l) b x y = no_placeholder-joined l b x y
no_placeholder-joined (element n attrs k l) b x y = (x.0, no_placeholder-joined l b x.1 y)
no_placeholder-joined (separator l) b x y = no_placeholder-joined l b x y
no_placeholder-joined (placeholder i l) b x y = absurd x
no_placeholder-joined (complete k l) b x y = (x.0, no_placeholder-joined l b x.1 y)
no_placeholder-joined (pending i k l) b x y = (x.0, no_placeholder-joined l b x.1 y)
no_placeholder-joined (client i d k l) b x y = (x.0, no_placeholder-joined l b x.1 y)

pub reveals-joined : (a b : Page) → RevealsWholePage a → RevealsWholePage b → RevealsWholePage (joined_pages a b)
reveals-joined nothing b x y = y
reveals-joined (text t l) b x y = reveals-joined l b x y
reveals-joined (element n attrs k l) b x y = (x.0, reveals-joined l b x.1 y)
reveals-joined (separator l) b x y = reveals-joined l b x y
reveals-joined (placeholder i l) b x y = reveals-joined l b x y
reveals-joined (complete k l) b x y = (x.0, x.1, reveals-joined l b x.2 y)
reveals-joined (pending i k l) b x y = (x.0, reveals-joined l b x.1 y)
reveals-joined (client i d k l) b x y = (x.0, reveals-joined l b x.1 y)

pub clean-joined : (prefix : List ℕ) (a b : Page) → IsCleanPage prefix a → IsCleanPage prefix b → IsCleanPage prefix (joined_pages a b)
clean-joined prefix nothing b x y = y
clean-joined prefix (text t l) b x y = clean-joined prefix l b x y
clean-joined prefix (element n attrs k l) b x y = (x.0, x.1, x.2, clean-joined prefix l b x.3 y)
clean-joined prefix (separator l) b x y = clean-joined prefix l b x y
clean-joined prefix (placeholder i l) b x y = clean-joined prefix l b x y
clean-joined prefix (complete k l) b x y = (x.0, clean-joined prefix l b x.1 y)
clean-joined prefix (pending i k l) b x y = (x.0, clean-joined prefix l b x.1 y)
clean-joined prefix (client i d k l) b x y = (x.0, clean-joined prefix l b x.1 y)

pub weight-joined : (p b c : ℕ → ℕ) (x y : Page) → weight_of_ids p b c (joined_pages x y) ≡ weight_of_ids p b c x + weight_of_ids p b c y
weight-joined p b c nothing y = omega arith
weight-joined p b c (text t l) y = weight-joined p b c l y
weight-joined p b c (element n attrs k l) y = omega (arith, weight-joined p b c l y)
weight-joined p b c (separator l) y = weight-joined p b c l y
weight-joined p b c (placeholder i l) y = omega (arith, weight-joined p b c l y)
weight-joined p b c (complete k l) y = omega (arith, weight-joined p b c l y)
weight-joined p b c (pending i k l) y = omega (arith, weight-joined p b c l y)
weight-joined p b c (client i d k l) y = omega (arith, weight-joined p b c l y)

-- Replacements

module _ (f : ℕ → Page → Page) (g : ℕ → Page → Page → Page) (g_none : (i : ℕ) (k l : Page) → HasNoPlaceholder k → HasNoPlaceholder l → HasNoPlaceholder (g i k l)) where
  pub no_placeholder-replaced : (page : Page) → HasNoPlaceholder page → HasNoPlaceholder (with_replacements f g page)
  no_placeholder-replaced nothing h = tt
  no_placeholder-replaced (text t l) h = no_placeholder-replaced l h
  no_placeholder-replaced (element n attrs k l) h = (no_placeholder-replaced k h.0, no_placeholder-replaced l h.1)
  no_placeholder-replaced (separator l) h = no_placeholder-replaced l h
  no_placeholder-replaced (placeholder i l) h = absurd h
  no_placeholder-replaced (complete k l) h = (no_placeholder-replaced k h.0, no_placeholder-replaced l h.1)
  no_placeholder-replaced (pending i k l) h = g_none i _ _ (no_placeholder-replaced k h.0) (no_placeholder-replaced l h.1)
  no_placeholder-replaced (client i d k l) h = (no_placeholder-replaced k h.0, no_placeholder-replaced l h.1)

  module _ (f_whole : (i : ℕ) (l : Page) → RevealsWholePage l → RevealsWholePage (f i l))
      (g_whole : (i : ℕ) (k l : Page) → RevealsWholePage k → RevealsWholePage l → RevealsWholePage (g i k l)) where
    pub reveals-replaced : (page : Page) → RevealsWholePage page → RevealsWholePage (with_replacements f g page)
    reveals-replaced nothing h = tt
    reveals-replaced (text t l) h = reveals-replaced l h
    reveals-replaced (element n attrs k l) h = (reveals-replaced k h.0, reveals-replaced l h.1)
    reveals-replaced (separator l) h = reveals-replaced l h
    reveals-replaced (placeholder i l) h = f_whole i _ (reveals-replaced l h)
    reveals-replaced (complete k l) h = (no_placeholder-replaced k h.0, reveals-replaced k h.1, reveals-replaced l h.2)
    reveals-replaced (pending i k l) h = g_whole i _ _ (reveals-replaced k h.0) (reveals-replaced l h.1)
    reveals-replaced (client i d k l) h = (reveals-replaced k h.0, reveals-replaced l h.1)

module _ (prefix : List ℕ) (f : ℕ → Page → Page) (g : ℕ → Page → Page → Page)
    (f_clean : (i : ℕ) (l : Page) → IsCleanPage prefix l → IsCleanPage prefix (f i l))
    (g_clean : (i : ℕ) (k l : Page) → IsCleanPage prefix k → IsCleanPage prefix l → IsCleanPage prefix (g i k l)) where
  pub clean-replaced : (page : Page) → IsCleanPage prefix page → IsCleanPage prefix (with_replacements f g page)
  clean-replaced nothing h = tt
  clean-replaced (text t l) h = clean-replaced l h
  clean-replaced (element n attrs k l) h = (h.0, h.1, clean-replaced k h.2, clean-replaced l h.3)
  clean-replaced (separator l) h = clean-replaced l h
  clean-replaced (placeholder i l) h = f_clean i _ (clean-replaced l h)
  clean-replaced (complete k l) h = (clean-replaced k h.0, clean-replaced l h.1)
  clean-replaced (pending i k l) h = g_clean i _ _ (clean-replaced k h.0) (clean-replaced l h.1)
  clean-replaced (client i d k l) h = (clean-replaced k h.0, clean-replaced l h.1)

-- The three edits

pub fill_reveals : (h : ℕ) (new page : Page) → RevealsWholePage new → RevealsWholePage page → RevealsWholePage (with_placeholder_filled h new page)
fill_reveals h new page n =
    reveals-replaced (filled_at h new) pending (λ i k l x y. (x, y)) (λ i l x. either_has RevealsWholePage (i == h) (joined_pages new l) (placeholder i l) (reveals-joined new l n x) x)
    (λ i k l x y. (x, y)) page

pub complete_reveals : (h : ℕ) (new page : Page) → HasNoPlaceholder new → RevealsWholePage new → RevealsWholePage page → RevealsWholePage (with_boundary_completed h new page)
complete_reveals h new page none_in n =
    reveals-replaced placeholder (completed_at h new) (λ i k l x y. either_has HasNoPlaceholder (i == h) (complete new l) (pending i k l) (none_in, y) (x, y)) (λ i l x. x)
    (λ i k l x y. either_has RevealsWholePage (i == h) (complete new l) (pending i k l) (none_in, n, y) (x, y)) page

pub fail_reveals : (h : ℕ) (error : List ℕ) (page : Page) → RevealsWholePage page → RevealsWholePage (with_boundary_failed h error page)
fail_reveals h error page =
    reveals-replaced placeholder (failed_at h error) (λ i k l x y. either_has HasNoPlaceholder (i == h) (client (Some i) error k l) (pending i k l) (x, y) (x, y)) (λ i l x. x)
    (λ i k l x y. either_has RevealsWholePage (i == h) (client (Some i) error k l) (pending i k l) (x, y) (x, y)) page

pub fill_clean : (prefix : List ℕ) (h : ℕ) (new page : Page) → IsCleanPage prefix new → IsCleanPage prefix page → IsCleanPage prefix (with_placeholder_filled h new page)
fill_clean prefix h new page n =
    clean-replaced prefix (filled_at h new) pending (λ i l x. either_has (IsCleanPage prefix) (i == h) (joined_pages new l) (placeholder i l) (clean-joined prefix new l n x) x) (λ i k l x y. (x, y)) page

pub complete_clean : (prefix : List ℕ) (h : ℕ) (new page : Page) → IsCleanPage prefix new → IsCleanPage prefix page → IsCleanPage prefix (with_boundary_completed h new page)
complete_clean prefix h new page n =
    clean-replaced prefix placeholder (completed_at h new) (λ i l x. x) (λ i k l x y. either_has (IsCleanPage prefix) (i == h) (complete new l) (pending i k l) (n, y) (x, y)) page

pub fail_clean : (prefix : List ℕ) (h : ℕ) (error : List ℕ) (page : Page) → IsCleanPage prefix page → IsCleanPage prefix (with_boundary_failed h error page)
fail_clean prefix h error page =
    clean-replaced prefix placeholder (failed_at h error) (λ i l x. x) (λ i k l x y. either_has (IsCleanPage prefix) (i == h) (client (Some i) error k l) (pending i k l) (x, y) (x, y)) page

-- Ids after an edit

-- At the one place of an id the sum of weights loses `minus` and gains `plus`, or gains less where not `Exact`.
record Changes (Exact : Type 0) (before after minus plus : ℕ) : Type 0 where
  most : after + minus ≤ before + plus
  least : Exact → before + plus ≤ after + minus

module _ (p0 b0 p b c : ℕ → ℕ) (f : ℕ → Page → Page) (g : ℕ → Page → Page → Page) (Exact : Type 0) (minus plus : ℕ)
    (f_stays : (i : ℕ) (l : Page) → p0 i ≡ 0 → f i l ≡ placeholder i l)
    (g_stays : (i : ℕ) (k l : Page) → b0 i ≡ 0 → g i k l ≡ pending i k l)
    (f_changes : (i : ℕ) (l : Page) → p0 i ≡ 1 → Changes Exact (weight_of_ids p b c (placeholder i l)) (weight_of_ids p b c (f i l)) minus plus)
    (g_changes : (i : ℕ) (k l : Page) → b0 i ≡ 1 → Changes Exact (weight_of_ids p b c (pending i k l)) (weight_of_ids p b c (g i k l)) minus plus) where
  abbrev place : Page → ℕ
  place = weight_of_ids p0 b0 zero_at

  abbrev sum : Page → ℕ
  sum = weight_of_ids p b c

  abbrev new : Page → Page
  new = with_replacements f g

  abbrev Good : Page → Type 0
  Good page = place page ≡ 1 → Changes Exact (sum page) (sum (new page)) minus plus

  same : (page : Page) → place page ≡ 0 → sum (new page) ≡ sum page
  same page z = ap sum (with_replacements-none p0 b0 f g f_stays g_stays page z)

  more : (x before after : ℕ) → Changes Exact before after minus plus → Changes Exact (x + before) (x + after) minus plus
  more x before after d = record { most = omega (arith, d.most); least = λ e. omega (arith, d.least e) }

  two : (k l : Page) → place k + place l ≡ 1 → Good k → Good l → Changes Exact (sum k + sum l) (sum (new k) + sum (new l)) minus plus
  two k l h gk gl = elim (split_one (place k) (place l) h) [
    | inl e ↦ let d = gk e.0 in record { most = omega (arith, d.most, same l e.1); least = λ x. omega (arith, d.least x, same l e.1) }
    | inr e ↦ let d = gl e.1 in record { most = omega (arith, d.most, same k e.0); least = λ x. omega (arith, d.least x, same k e.0) }
  ]

  placeholder_changes : (i : ℕ) (l : Page) → p0 i + place l ≡ 1 → Good l → Changes Exact (p i + sum l) (sum (f i (new l))) minus plus
  placeholder_changes i l h gl = elim (split_one (p0 i) (place l) h) [
    | inl e ↦ subst (λ m. Changes Exact (p i + sum l) (sum (f i m)) minus plus) (sym (with_replacements-none p0 b0 f g f_stays g_stays l e.1)) (f_changes i l e.0)
    | inr e ↦ subst (λ m. Changes Exact (p i + sum l) (sum m) minus plus) (sym (f_stays i (new l) e.0)) (more (p i) (sum l) (sum (new l)) (gl e.1))
  ]

  pending_changes : (i : ℕ) (k l : Page) → b0 i + place k + place l ≡ 1 → Good k → Good l → Changes Exact (b i + sum k + sum l) (sum (g i (new k) (new l))) minus plus
  pending_changes i k l h gk gl = elim (split_one (b0 i) (place k + place l) (omega arith)) [
    | inl e ↦ subst (λ m. Changes Exact (b i + sum k + sum l) (sum (g i m (new l))) minus plus) (sym (with_replacements-none p0 b0 f g f_stays g_stays k (omega (arith, e.1))))
        (subst (λ m. Changes Exact (b i + sum k + sum l) (sum (g i k m)) minus plus) (sym (with_replacements-none p0 b0 f g f_stays g_stays l (omega (arith, e.1)))) (g_changes i k l e.0))
    | inr e ↦ let d = two k l e.1 gk gl in
        subst (λ m. Changes Exact (b i + sum k + sum l) (sum m) minus plus) (sym (g_stays i (new k) (new l) e.0))
        (record { most = omega (arith, d.most); least = λ x. omega (arith, d.least x) })
  ]

  weight-replaced : (page : Page) → Good page
  weight-replaced nothing h = absurd (omega arith)
  weight-replaced (text t l) h = weight-replaced l h
  weight-replaced (element n attrs k l) h = two k l h (weight-replaced k) (weight-replaced l)
  weight-replaced (separator l) h = weight-replaced l h
  weight-replaced (placeholder i l) h = placeholder_changes i l h (weight-replaced l)
  weight-replaced (complete k l) h = two k l h (weight-replaced k) (weight-replaced l)
  weight-replaced (pending i k l) h = pending_changes i k l h (weight-replaced k) (weight-replaced l)
  weight-replaced (client i x k l) h =
      let d = two k l (omega (arith, zero_or_none i)) (weight-replaced k) (weight-replaced l) in
      record { most = omega (arith, d.most); least = λ e. omega (arith, d.least e) }

pub fill_weight : (p b c : ℕ → ℕ) (h : ℕ) (new page : Page) → placeholder_count h page ≡ 1
    → weight_of_ids p b c (with_placeholder_filled h new page) + p h ≡ weight_of_ids p b c page + weight_of_ids p b c new
fill_weight p b c h new page o =
    let d : Changes (Unit {0}) (weight_of_ids p b c page) (weight_of_ids p b c (with_placeholder_filled h new page)) (p h) (weight_of_ids p b c new) =
    weight-replaced (one_at h) zero_at p b c (filled_at h new) pending (Unit {0}) (p h) (weight_of_ids p b c new)
    (λ i l z. cond-false (eqb i h) _ _ (at_none h i (i == h) refl z)) (λ i k l z. refl)
    (λ i l z. let is : i ≡ h = at_one h i (i == h) refl z in
    let shape : weight_of_ids p b c (filled_at h new i l) ≡ weight_of_ids p b c new + weight_of_ids p b c l =
    ap (weight_of_ids p b c) (cond-true (eqb i h) (joined_pages new l) (placeholder i l) (eq-eqb i h is)) ∙ weight-joined p b c new l in
    record { most = omega (arith, shape, ap p is); least = λ x. omega (arith, shape, ap p is) })
    (λ i k l z. absurd (omega arith)) page o in
    omega (arith, d.most, d.least tt)

pub complete_weight : (p b c : ℕ → ℕ) (h : ℕ) (new page : Page) → pending_count h page ≡ 1
    → weight_of_ids p b c (with_boundary_completed h new page) + b h ≤ weight_of_ids p b c page + weight_of_ids p b c new
complete_weight p b c h new page o =
    let d : Changes ⊥ (weight_of_ids p b c page) (weight_of_ids p b c (with_boundary_completed h new page)) (b h) (weight_of_ids p b c new) =
    weight-replaced zero_at (one_at h) p b c placeholder (completed_at h new) ⊥ (b h) (weight_of_ids p b c new)
    (λ i l z. refl) (λ i k l z. cond-false (eqb i h) _ _ (at_none h i (i == h) refl z))
    (λ i l z. absurd (omega arith))
    (λ i k l z. let is : i ≡ h = at_one h i (i == h) refl z in
    let shape : weight_of_ids p b c (completed_at h new i k l) ≡ weight_of_ids p b c new + weight_of_ids p b c l =
    ap (weight_of_ids p b c) (cond-true (eqb i h) (complete new l) (pending i k l) (eq-eqb i h is)) in
    record { most = omega (arith, shape, ap b is); least = λ x. absurd x }) page o in
    d.most

pub fail_weight : (p b c : ℕ → ℕ) (h : ℕ) (error : List ℕ) (page : Page) → pending_count h page ≡ 1
    → weight_of_ids p b c (with_boundary_failed h error page) + b h ≡ weight_of_ids p b c page + c h
fail_weight p b c h error page o =
    let d : Changes (Unit {0}) (weight_of_ids p b c page) (weight_of_ids p b c (with_boundary_failed h error page)) (b h) (c h) =
    weight-replaced zero_at (one_at h) p b c placeholder (failed_at h error) (Unit {0}) (b h) (c h)
    (λ i l z. refl) (λ i k l z. cond-false (eqb i h) _ _ (at_none h i (i == h) refl z))
    (λ i l z. absurd (omega arith))
    (λ i k l z. let is : i ≡ h = at_one h i (i == h) refl z in
    let shape : weight_of_ids p b c (failed_at h error i k l) ≡ c i + weight_of_ids p b c k + weight_of_ids p b c l =
    ap (weight_of_ids p b c) (cond-true (eqb i h) (client (Some i) error k l) (pending i k l) (eq-eqb i h is)) in
    record { most = omega (arith, shape, ap b is, ap c is); least = λ x. omega (arith, shape, ap b is, ap c is) }) page o in
    omega (arith, d.most, d.least tt)
