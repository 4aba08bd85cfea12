-- Groups, one after the other.
use Rattle.std.proofs.Common.{◌≡◌, refl, sym, ap, subst, ◌∙◌, ℕ, zero, suc, ◌+◌, ◌-◌, ◌%◌, ◌<◌, ◌≤◌, min, List, [], ◌∷◌, ◌++◌, length, take, drop, codes, decimal, arith, append_assoc, length-drop, add-one}
use Rattle.std.proofs.Math.Nat.{zero-min, min-zero, suc-min-suc, min-le_right, sub-zero}
use Rattle.std.specs.List.{range_with_len}
use Rattle.std.proofs.lemmas.List.FromFn.{length-range_with_len}
use Rattle.page_generator.specs.Draws.{draw_of, drawn, next_state, state_after}
use Rattle.page_generator.specs.Pages.{groups_of, page_groups, group_text, groups_line}
use Rattle.page_generator.specs.Parts.{numbers_from, group_size, groups_from, later_groups, later_numbers}

-- the numbers up to a later one begin with the first, and there are none up to the first
pub numbers_step : (first past : ℕ) → first < past → numbers_from first past ≡ first ∷ numbers_from (first + 1) past
numbers_step first past h =
    let more : past - first ≡ suc (past - (first + 1)) = omega (arith, h) in
    ap (range_with_len first) more

pub numbers_done : (first past : ℕ) → past ≤ first → numbers_from first past ≡ []
numbers_done first past h =
    let none : past - first ≡ 0 = omega (arith, h) in
    ap (range_with_len first) none

-- one number more in the loop that appends them
pub numbers_more : (old new whole : List ℕ) (first past : ℕ) → first < past →
    new ≡ old ++ (codes "," ++ decimal first) →
    old ++ later_numbers (numbers_from first past) ≡ whole →
    new ++ later_numbers (numbers_from (first + 1) past) ≡ whole
numbers_more old new whole first past h put e =
    ap (λ bytes. bytes ++ later_numbers (numbers_from (first + 1) past)) put
    ∙ (append_assoc old (codes "," ++ decimal first) (later_numbers (numbers_from (first + 1) past))
    ∙ (ap (λ ns. old ++ later_numbers ns) (sym (numbers_step first past h)) ∙ e))

-- a group as it is appended
group_regrouped : (old number later : List ℕ) →
    (((old ++ codes "{\"items\":[") ++ number) ++ later) ++ codes "]}"
    ≡ old ++ (codes "{\"items\":" ++ ((codes "[" ++ ((number ++ later) ++ codes "]")) ++ codes "}"))
group_regrouped old number later = simp append_assoc

pub group_appended : (old opened numbered filled new : List ℕ) (first past : ℕ) → first < past →
    opened ≡ old ++ codes "{\"items\":[" →
    numbered ≡ opened ++ decimal first →
    filled ≡ numbered ++ later_numbers (numbers_from (first + 1) past) →
    new ≡ filled ++ codes "]}" →
    new ≡ old ++ group_text (numbers_from first past)
group_appended old opened numbered filled new first past h a b c d =
    d ∙ (ap (λ bytes. bytes ++ codes "]}") (c ∙ ap (λ bytes. bytes ++ later_numbers (numbers_from (first + 1) past)) (b ∙ ap (λ bytes. bytes ++ decimal first) a))
    ∙ (group_regrouped old (decimal first) (later_numbers (numbers_from (first + 1) past))
    ∙ ap (λ ns. old ++ group_text ns) (sym (numbers_step first past h))))

-- the first numbers of a range, and those after them
same_range : (a b k l : ℕ) → a ≡ b → k ≡ l → range_with_len a k ≡ range_with_len b l
same_range a b k l e f = ap (λ n. range_with_len n k) e ∙ ap (range_with_len b) f

take_range : (n a k : ℕ) → take n (range_with_len a k) ≡ range_with_len a (min n k)
take_range zero a k = ap (range_with_len a) (sym (zero-min k))
take_range (suc n) a zero = ap (range_with_len a) (sym (min-zero (suc n)))
take_range (suc n) a (suc k) = ap (λ xs. a ∷ xs) (take_range n (a + 1) k) ∙ ap (range_with_len a) (sym (suc-min-suc n k))

drop_range : (n a k : ℕ) → drop n (range_with_len a k) ≡ range_with_len (a + min n k) (k - min n k)
drop_range zero a k = same_range a (a + min zero k) k (k - min zero k) (omega (arith, zero-min k)) (omega (arith, zero-min k))
drop_range (suc n) a zero =
    let none : zero - min (suc n) zero ≡ zero = omega arith in
    sym (ap (range_with_len (a + min (suc n) zero)) none)
drop_range (suc n) a (suc k) =
    drop_range n (a + 1) k
    ∙ same_range ((a + 1) + min n k) (a + min (suc n) (suc k)) (k - min n k) (suc k - min (suc n) (suc k))
    (omega (arith, suc-min-suc n k)) (omega (arith, suc-min-suc n k))

-- draws beyond the number of leaves change nothing, since each group takes a leaf
enough : (j k x : ℕ) (leaves : List ℕ) → length leaves ≤ j → length leaves ≤ k →
    groups_of (drawn j x) leaves ≡ groups_of (drawn k x) leaves
enough zero zero x leaves h i = refl
enough zero (suc k) x [] h i = refl
enough zero (suc k) x (leaf ∷ leaves) h i = absurd (omega (arith, h))
enough (suc j) zero x [] h i = refl
enough (suc j) zero x (leaf ∷ leaves) h i = absurd (omega (arith, i))
enough (suc j) (suc k) x [] h i = refl
enough (suc j) (suc k) x (leaf ∷ leaves) h i =
    let fewer : length (drop (draw_of x % 8 + 1) (leaf ∷ leaves)) ≡ length (leaf ∷ leaves) - (draw_of x % 8 + 1) =
    length-drop (draw_of x % 8 + 1) (leaf ∷ leaves) in
    ap (λ gs. take (draw_of x % 8 + 1) (leaf ∷ leaves) ∷ gs)
    (enough j k (next_state x) (drop (draw_of x % 8 + 1) (leaf ∷ leaves)) (omega (arith, h, fewer)) (omega (arith, i, fewer)))

-- the first of the groups, and those after it
groups_split : (x first size k count : ℕ) → size - first ≡ suc k → count ≡ min (draw_of x % 8 + 1) (suc k) →
    groups_of (drawn (suc k) x) (range_with_len first (suc k))
    ≡ numbers_from first (first + count) ∷ groups_from (next_state x) (first + count) size
groups_split x first size k count left is =
    let one : min (draw_of x % 8 + 1) (suc k) ≡ suc (min (draw_of x % 8) k) =
    ap (λ w. min w (suc k)) (add-one (draw_of x % 8)) ∙ suc-min-suc (draw_of x % 8) k in
    let most : min (draw_of x % 8 + 1) (suc k) ≤ suc k = min-le_right (draw_of x % 8 + 1) (suc k) in
    let as_many : min (draw_of x % 8 + 1) (suc k) ≡ (first + count) - first = omega (arith, is) in
    let later : suc k - min (draw_of x % 8 + 1) (suc k) ≡ size - (first + count) = omega (arith, is, left) in
    let start : first + min (draw_of x % 8 + 1) (suc k) ≡ first + count = omega (arith, is) in
    let room : size - (first + count) ≤ k = omega (arith, one, is, left) in
    let taken : take (draw_of x % 8 + 1) (range_with_len first (suc k)) ≡ numbers_from first (first + count) =
    take_range (draw_of x % 8 + 1) first (suc k) ∙ ap (range_with_len first) as_many in
    let rest : drop (draw_of x % 8 + 1) (range_with_len first (suc k)) ≡ numbers_from (first + count) size =
    drop_range (draw_of x % 8 + 1) first (suc k)
    ∙ same_range (first + min (draw_of x % 8 + 1) (suc k)) (first + count) (suc k - min (draw_of x % 8 + 1) (suc k)) (size - (first + count)) start later in
    let many : length (numbers_from (first + count) size) ≡ size - (first + count) =
    length-range_with_len (first + count) (size - (first + count)) in
    ap (λ g. g ∷ groups_of (drawn k (next_state x)) (drop (draw_of x % 8 + 1) (range_with_len first (suc k)))) taken
    ∙ (ap (λ ns. numbers_from first (first + count) ∷ groups_of (drawn k (next_state x)) ns) rest
    ∙ ap (λ gs. numbers_from first (first + count) ∷ gs)
    (enough k (size - (first + count)) (next_state x) (numbers_from (first + count) size) (omega (arith, many, room)) (omega (arith, many))))

pub groups_step : (x first past size : ℕ) → first < size → past ≡ first + group_size x (size - first) →
    groups_from x first size ≡ numbers_from first past ∷ groups_from (next_state x) past size
groups_step x first past size h is =
    let left : size - first ≡ suc (size - (first + 1)) = omega (arith, h) in
    let count : group_size x (size - first) ≡ min (draw_of x % 8 + 1) (suc (size - (first + 1))) =
    ap (min (draw_of x % 8 + 1)) left in
    let split : groups_from x first size
    ≡ numbers_from first (first + group_size x (size - first)) ∷ groups_from (next_state x) (first + group_size x (size - first)) size =
    ap (λ l. groups_of (drawn l x) (range_with_len first l)) left
    ∙ groups_split x first size (size - (first + 1)) (group_size x (size - first)) left count in
    subst (λ (p : ℕ). groups_from x first size ≡ numbers_from first p ∷ groups_from (next_state x) p size) (sym is) split

pub groups_done : (x first size : ℕ) → size ≤ first → groups_from x first size ≡ []
groups_done x first size h =
    let none : size - first ≡ 0 = omega (arith, h) in
    ap (λ l. groups_of (drawn l x) (range_with_len first l)) none

-- one group more in the loop that appends them
regroup_group : (old comma group later : List ℕ) → ((old ++ comma) ++ group) ++ later ≡ old ++ ((comma ++ group) ++ later)
regroup_group old comma group later = simp append_assoc

pub groups_more : (old opened new whole : List ℕ) (x y first past size : ℕ) → first < size → past ≡ first + group_size x (size - first) →
    opened ≡ old ++ codes "," →
    new ≡ opened ++ group_text (numbers_from first past) →
    y ≡ next_state x →
    old ++ later_groups (groups_from x first size) ≡ whole →
    new ++ later_groups (groups_from y past size) ≡ whole
groups_more old opened new whole x y first past size h is a b drawn_is e =
    ap (λ bytes. bytes ++ later_groups (groups_from y past size)) (b ∙ ap (λ bytes. bytes ++ group_text (numbers_from first past)) a)
    ∙ (ap (λ s. ((old ++ codes ",") ++ group_text (numbers_from first past)) ++ later_groups (groups_from s past size)) drawn_is
    ∙ (regroup_group old (codes ",") (group_text (numbers_from first past)) (later_groups (groups_from (next_state x) past size))
    ∙ (ap (λ gs. old ++ later_groups gs) (sym (groups_step x first past size h is)) ∙ e)))

pub groups_state : (x y first past size end : ℕ) → first < size → past ≡ first + group_size x (size - first) →
    y ≡ next_state x →
    state_after (length (groups_from x first size)) x ≡ end →
    state_after (length (groups_from y past size)) y ≡ end
groups_state x y first past size end h is drawn_is e =
    ap (λ s. state_after (length (groups_from s past size)) s) drawn_is
    ∙ (ap (λ gs. state_after (length gs) x) (sym (groups_step x first past size h is)) ∙ e)

pub groups_within : (x first past size : ℕ) → first < size → past ≡ first + group_size x (size - first) → past ≤ size
groups_within x first past size h is =
    let most : min (draw_of x % 8 + 1) (size - first) ≤ size - first = min-le_right (draw_of x % 8 + 1) (size - first) in
    omega (arith, h, is, most)

-- all groups, in the line that resolves them
whole_step : (x past size : ℕ) → 0 < size → past ≡ 0 + group_size x (size - 0) →
    page_groups x size ≡ numbers_from 0 past ∷ groups_from (next_state x) past size
whole_step x past size some is =
    ap (λ l. groups_of (drawn l x) (range_with_len 0 l)) (sym (sub-zero size)) ∙ groups_step x 0 past size some is

line_regrouped : (old group later : List ℕ) →
    (((old ++ codes "{\"resolve\":\"all\",\"value\":[") ++ group) ++ later) ++ codes "]}"
    ≡ old ++ (codes "{\"resolve\":\"all\",\"value\":" ++ ((codes "[" ++ ((group ++ later) ++ codes "]")) ++ codes "}"))
line_regrouped old group later = simp append_assoc

pub line_appended : (old opened grouped filled new : List ℕ) (x y past size : ℕ) → 0 < size → past ≡ 0 + group_size x (size - 0) →
    opened ≡ old ++ codes "{\"resolve\":\"all\",\"value\":[" →
    grouped ≡ opened ++ group_text (numbers_from 0 past) →
    y ≡ next_state x →
    filled ≡ grouped ++ later_groups (groups_from y past size) →
    new ≡ filled ++ codes "]}" →
    new ≡ old ++ groups_line (page_groups x size)
line_appended old opened grouped filled new x y past size some is a b drawn_is c d =
    d ∙ (ap (λ bytes. bytes ++ codes "]}") (c ∙ ap (λ bytes. bytes ++ later_groups (groups_from y past size)) (b ∙ ap (λ bytes. bytes ++ group_text (numbers_from 0 past)) a))
    ∙ (line_regrouped old (group_text (numbers_from 0 past)) (later_groups (groups_from y past size))
    ∙ (ap (λ s. old ++ groups_line (numbers_from 0 past ∷ groups_from s past size)) drawn_is
    ∙ ap (λ gs. old ++ groups_line gs) (sym (whole_step x past size some is)))))

pub line_state : (x y end past size : ℕ) → 0 < size → past ≡ 0 + group_size x (size - 0) →
    y ≡ next_state x →
    end ≡ state_after (length (groups_from y past size)) y →
    end ≡ state_after (length (page_groups x size)) x
line_state x y end past size some is drawn_is e =
    e ∙ (ap (λ s. state_after (length (groups_from s past size)) s) drawn_is
    ∙ ap (λ gs. state_after (length gs) x) (sym (whole_step x past size some is)))
