-- Entries that get other ids or depths.
use Rattle.std.proofs.Common.{◌≡◌, ℕ, suc, ◌+◌, ◌<◌, ◌≤◌, List, [], ◌∷◌, ◌++◌, length, map, refl, sym, ap, ◌∙◌, arith, add-zero, inl, inr, ◌^◌}
use Rattle.std.specs.List.{AllByRecursion}
use Rattle.dom_forest.specs.declared.entry.Entry.{Entry}
use Rattle.dom_forest.specs.Forest.{Forest, empty, tree, count}
use Rattle.dom_forest.specs.Edits.{numbered_from}
use Rattle.dom_forest.specs.Flat.{flat, shifted_entry, renumbered_entries, CanShift}
use Rattle.std.proofs.lemmas.Bool.{cases_eq}
use Rattle.dom_forest.proofs.Flattening.{entry_times, counts_one, counts_none}

abbrev pub with_id : ℕ → Entry → Entry
with_id id e = record { depth = e.depth; id = id; node = e.node }

pub renumbered_entries-push : (next : ℕ) (es : List Entry) (e : Entry) → renumbered_entries next (es ++ e ∷ []) ≡ renumbered_entries next es ++ with_id (next + length es) e ∷ []
renumbered_entries-push next [] e = ap (λ n. with_id n e ∷ []) (sym (add-zero next))
renumbered_entries-push next (f ∷ es) e =
    ap (λ rest. with_id next f ∷ rest) (renumbered_entries-push (next + 1) es e ∙ ap (λ n. renumbered_entries (next + 1) es ++ with_id n e ∷ []) (omega arith))

pub length-renumbered_entries : (next : ℕ) (es : List Entry) → length (renumbered_entries next es) ≡ length es
length-renumbered_entries next [] = refl
length-renumbered_entries next (e ∷ es) = ap suc (length-renumbered_entries (next + 1) es)

-- A forest's flat list keeps its shape.
pub numbered_from-flat : (next depth : ℕ) (forest : Forest) (more : List Entry)
    → renumbered_entries next (flat depth forest more) ≡ flat depth (numbered_from next forest) (renumbered_entries (next + count forest) more)
numbered_from-flat next depth empty more = ap (λ n. renumbered_entries n more) (sym (add-zero next))
numbered_from-flat next depth (tree i content kids later) more =
    ap (λ es. record { depth = depth; id = next; node = content } ∷ es)
    (numbered_from-flat (next + 1) (depth + 1) kids (flat depth later more)
    ∙ ap (flat (depth + 1) (numbered_from (next + 1) kids))
    (numbered_from-flat (next + 1 + count kids) depth later more
    ∙ ap (λ n. flat depth (numbered_from (next + 1 + count kids) later) (renumbered_entries n more)) (omega arith)))

pub shifted_entry-flat : (up down depth : ℕ) (forest : Forest) (more : List Entry)
    → map (shifted_entry up down) (flat (up + depth) forest more) ≡ flat (depth + down) forest (map (shifted_entry up down) more)
shifted_entry-flat up down depth empty more = refl
shifted_entry-flat up down depth (tree i content kids later) more =
    ap (λ n. record { depth = n; id = i; node = content } ∷ map (shifted_entry up down) (flat (up + depth + 1) kids (flat (up + depth) later more))) (omega arith)
    ∙ ap (λ es. record { depth = depth + down; id = i; node = content } ∷ es)
    (ap (λ n. map (shifted_entry up down) (flat n kids (flat (up + depth) later more))) (omega arith)
    ∙ shifted_entry-flat up down (depth + 1) kids (flat (up + depth) later more)
    ∙ ap (λ n. flat n kids (map (shifted_entry up down) (flat (up + depth) later more))) (omega arith)
    ∙ ap (flat (depth + down + 1) kids) (shifted_entry-flat up down depth later more))

-- Ids that ascend stand once each, from the first on.
pub renumbered_times-below : (next : ℕ) (es : List Entry) (id : ℕ) → id < next → entry_times id (renumbered_entries next es) ≡ 0
renumbered_times-below next [] id h = refl
renumbered_times-below next (e ∷ es) id h = omega (arith, counts_none next id (λ same. omega arith), renumbered_times-below (next + 1) es id (omega arith))

pub renumbered_times-past : (next : ℕ) (es : List Entry) (id : ℕ) → next + length es ≤ id → entry_times id (renumbered_entries next es) ≡ 0
renumbered_times-past next [] id h = refl
renumbered_times-past next (e ∷ es) id h = omega (arith, counts_none next id (λ same. omega arith), renumbered_times-past (next + 1) es id (omega arith))

pub renumbered_times-once : (next : ℕ) (es : List Entry) (id : ℕ) → entry_times id (renumbered_entries next es) ≤ 1
renumbered_times-once next [] id = omega arith
renumbered_times-once next (e ∷ es) id = elim (cases_eq next id) [
  | inl same ↦ omega (arith, counts_one next id same, renumbered_times-below (next + 1) es id (omega arith))
  | inr other ↦ omega (arith, counts_none next id other, renumbered_times-once (next + 1) es id)
]

-- The times of an id stay where entries are moved.
pub shifted_times : (up down : ℕ) (es : List Entry) (id : ℕ) → entry_times id (map (shifted_entry up down) es) ≡ entry_times id es
shifted_times up down [] id = refl
shifted_times up down (e ∷ es) id = omega (arith, shifted_times up down es id)

-- How deep the nodes of a forest stand.
abbrev pub WithinDepths : ℕ → ℕ → Entry → Type 0
WithinDepths least most e = (least ≤ e.depth) × (e.depth < most)

pub depths-flat : (least most depth : ℕ) (forest : Forest) (more : List Entry) → least ≤ depth → depth + count forest ≤ most
    → AllByRecursion (WithinDepths least most) more → AllByRecursion (WithinDepths least most) (flat depth forest more)
depths-flat least most depth empty more low high h = h
depths-flat least most depth (tree i content kids later) more low high h =
    ((low, omega arith), depths-flat least most (depth + 1) kids (flat depth later more) (omega arith) (omega arith) (depths-flat least most depth later more low (omega arith) h))

pub can_shift : (least most up down : ℕ) (es : List Entry) → up ≤ least → most + down ≤ 2 ^ 64 → AllByRecursion (WithinDepths least most) es → AllByRecursion (CanShift up down) es
can_shift least most up down [] low high h = tt
can_shift least most up down (e ∷ es) low high h = ((omega (arith, h.0.0), omega (arith, h.0.1)), can_shift least most up down es low high h.1)
