-- Leaves and their lines, one after the other.
use Rattle.std.proofs.Common.{◌≡◌, refl, sym, ap, ◌∙◌, ℕ, zero, suc, ◌+◌, ◌-◌, ◌%◌, ◌<◌, ◌≤◌, List, [], ◌∷◌, ◌++◌, length, arith, append_assoc, append-nil}
use Rattle.page_generator.specs.Draws.{draw_of, next_state}
use Rattle.page_generator.specs.Pages.{picks_from}
use Rattle.page_generator.specs.Parts.{leaf_lines}

-- what is left of the picks begins with the next draw
picks_step : (x i count : ℕ) → i < count → picks_from x (count - i) ≡ (draw_of x % 64) ∷ picks_from (next_state x) (count - (i + 1))
picks_step x i count h =
    let more : count - i ≡ suc (count - (i + 1)) = omega (arith, h) in
    ap (picks_from x) more

pub picks_more : (old new whole : List ℕ) (x y draw i count : ℕ) → i < count →
    new ≡ old ++ (draw % 64) ∷ [] →
    draw ≡ draw_of x →
    y ≡ next_state x →
    old ++ picks_from x (count - i) ≡ whole →
    new ++ picks_from y (count - (i + 1)) ≡ whole
picks_more old new whole x y draw i count h put draw_is drawn_is e =
    ap (λ bytes. bytes ++ picks_from y (count - (i + 1))) (put ∙ ap (λ d. old ++ (d % 64) ∷ []) draw_is)
    ∙ (ap (λ s. (old ++ (draw_of x % 64) ∷ []) ++ picks_from s (count - (i + 1))) drawn_is
    ∙ (append_assoc old ((draw_of x % 64) ∷ []) (picks_from (next_state x) (count - (i + 1)))
    ∙ (ap (λ ps. old ++ ps) (sym (picks_step x i count h)) ∙ e)))

length-picks_from : (x count : ℕ) → length (picks_from x count) ≡ count
length-picks_from x zero = refl
length-picks_from x (suc count) = ap suc (length-picks_from (next_state x) count)

-- the picks are as many as the leaves
pub picks_few : (bytes picks : List ℕ) (x size : ℕ) → bytes ≡ picks → picks ≡ picks_from x size → size ≤ 50000 → length bytes ≤ 50000
picks_few bytes picks x size same is few =
    let many : length bytes ≡ size = ap length (same ∙ is) ∙ length-picks_from x size in
    omega (arith, many, few)

-- both halves
pub both_halves : (old middle new : List ℕ) (first second : List (ℕ × ℕ)) (count total : ℕ) →
    ((later : List (ℕ × ℕ)) → middle ++ leaf_lines count later ≡ old ++ leaf_lines 0 (first ++ later)) →
    ((later : List (ℕ × ℕ)) → new ++ leaf_lines total later ≡ middle ++ leaf_lines count (second ++ later)) →
    new ≡ old ++ leaf_lines 0 (first ++ second)
both_halves old middle new first second count total odd even =
    sym (append-nil new) ∙ (even [] ∙ (ap (λ ls. middle ++ leaf_lines count ls) (append-nil second) ∙ odd second))
