-- Entries that are moved from one chain to another one.
use Rattle.std.proofs.Common.{◌≡◌, ℕ, zero, suc, ◌+◌, ◌-◌, ◌<◌, Option, Some, None, List, [], ◌∷◌, ◌++◌, All, length, take, drop, map, refl, sym, ap, ◌∙◌, subst, arith, add-zero}
use Rattle.std.proofs.lemmas.List.{append_assoc, drop_all, length-map, length-take-le, take_all}
use Rattle.std.proofs.lemmas.List.Elements.{All-head, All-tail}
use Rattle.dom_forest.specs.declared.entry.Entry.{Entry}
use Rattle.dom_forest.specs.declared.chain.Chain.{Chain}
use Rattle.dom_forest.specs.Chain.{IsChainOf, head_id}
use Rattle.dom_forest.specs.Flat.{CanShift, renumbered_entries, shifted_entry}
use Rattle.dom_forest.specs.Moves.{Moved}
use Rattle.dom_forest.proofs.Renumbering.{renumbered_entries-push}

-- The entry at a place.
record There (run : List Entry) (k : ℕ) : Type 0 where
  pub entry : Entry
  pub rest : drop k run ≡ entry ∷ drop (k + 1) run
  pub front : take (k + 1) run ≡ take k run ++ entry ∷ []

more : (x : Entry) (run : List Entry) (k : ℕ) → There run k → There (x ∷ run) (suc k)
more x run k t =
    let next : suc k + 1 ≡ suc (k + 1) = omega arith in
    record {
      entry = t.entry;
      rest = t.rest ∙ ap (λ n. t.entry ∷ drop n (x ∷ run)) (sym next);
      front = ap (λ n. take n (x ∷ run)) next ∙ ap (λ l. x ∷ l) t.front;
    }

there : (run : List Entry) (k : ℕ) → k < length run → There run k
there [] k h = absurd (omega arith)
there (x ∷ run) zero h = record { entry = x; rest = refl; front = refl }
there (x ∷ run) (suc k) h = more x run k (there run k (omega arith))

all_at : (P : Entry → Type 0) (run : List Entry) (k : ℕ) (e : Entry) (rest : List Entry) → drop k run ≡ e ∷ rest → All P run → P e
all_at P [] zero e rest is all = cc
all_at P [] (suc k) e rest is all = cc
all_at P (x ∷ run) zero e rest is all = let same : x ≡ e = cc in subst P same (All-head P x run all)
all_at P (x ∷ run) (suc k) e rest is all = all_at P run k e rest is (All-tail P x run all)

map-push : (f : Entry → Entry) (es : List Entry) (e : Entry) → map f (es ++ e ∷ []) ≡ map f es ++ f e ∷ []
map-push f [] e = refl
map-push f (x ∷ es) e = ap (λ l. f x ∷ l) (map-push f es e)

moved_push : (first up down : ℕ) (es : List Entry) (e : Entry) (k : ℕ) → length es ≡ k
    → renumbered_entries first (map (shifted_entry up down) (es ++ e ∷ []))
    ≡ renumbered_entries first (map (shifted_entry up down) es) ++ record { depth = e.depth - up + down; id = first + k; node = e.node } ∷ []
moved_push first up down es e k size =
    ap (renumbered_entries first) (map-push (shifted_entry up down) es e)
    ∙ renumbered_entries-push first (map (shifted_entry up down) es) (shifted_entry up down e)
    ∙ ap (λ n. renumbered_entries first (map (shifted_entry up down) es) ++ record { depth = e.depth - up + down; id = first + n; node = e.node } ∷ [])
    (length-map es (shifted_entry up down) ∙ size)

pub moved_none : (part chain : Chain) (first next : Option ℕ) (many up down : ℕ) → Moved part chain part chain first first next many 0 up down
moved_none part chain first next many up down = record {
  left = λ before run after whole head size. (whole, head);
  moved = λ before run after whole head size fits front back links next. (links, sym (add-zero (length chain.slots.items)));
  ids = refl;
}

pub moved_one : (old_part old_chain part chain part' chain' : Chain) (first id next result : Option ℕ) (many k up down : ℕ) → k < many
    → Moved old_part old_chain part chain first id next many k up down
    → ((before after : List Entry) (e : Entry) → IsChainOf part (before ++ e ∷ after) → id ≡ Some e.id → IsChainOf part' (before ++ after) × (result ≡ head_id after None))
    → ((before after : List Entry) (e : Entry) → IsChainOf part (before ++ e ∷ after) → id ≡ Some e.id → CanShift up down e
    → (front back : List Entry) → IsChainOf chain (front ++ back) → next ≡ head_id back None
    → IsChainOf chain' (front ++ record { depth = e.depth - up + down; id = length chain.slots.items; node = e.node } ∷ back)
    × (length chain'.slots.items ≡ length chain.slots.items + 1))
    → length part'.slots.items ≡ length part.slots.items
    → Moved old_part old_chain part' chain' first result next many (k + 1) up down
moved_one old_part old_chain part chain part' chain' first id next result many k up down h m taken put same = record {
  left = λ before run after whole head size.
      let t = there run k (omega (arith, h, size)) in
      let l = m.left before run after whole head size in
      taken before (drop (k + 1) run ++ after) t.entry (subst (λ es. IsChainOf part (before ++ (es ++ after))) t.rest l.0) (l.1 ∙ ap (λ es. head_id (es ++ after) None) t.rest);
  moved = λ before run after whole head size fits front back links is.
      let t = there run k (omega (arith, h, size)) in
      let l = m.left before run after whole head size in
      let n = length old_chain.slots.items in
      let done = renumbered_entries n (map (shifted_entry up down) (take k run)) in
      let now = m.moved before run after whole head size fits front back links is in
      let new = put before (drop (k + 1) run ++ after) t.entry (subst (λ es. IsChainOf part (before ++ (es ++ after))) t.rest l.0) (l.1 ∙ ap (λ es. head_id (es ++ after) None) t.rest)
      (all_at (CanShift up down) run k t.entry (drop (k + 1) run) t.rest fits)
      (front ++ done) back (subst (IsChainOf chain) (sym (append_assoc front done back)) now.0) is in
      let row : ℕ → Entry = λ i. record { depth = t.entry.depth - up + down; id = i; node = t.entry.node } in
      let whole_is : (front ++ done) ++ row (length chain.slots.items) ∷ back ≡ front ++ (renumbered_entries n (map (shifted_entry up down) (take (k + 1) run)) ++ back) =
      append_assoc front done (row (length chain.slots.items) ∷ back)
      ∙ ap (λ i. front ++ (done ++ row i ∷ back)) now.1
      ∙ ap (λ es. front ++ es) (sym (append_assoc done (row (n + k) ∷ []) back))
      ∙ ap (λ es. front ++ (es ++ back)) (sym (ap (λ es. renumbered_entries n (map (shifted_entry up down) es)) t.front ∙ moved_push n up down (take k run) t.entry k (length-take-le k run (omega (arith, h, size))))) in
      (subst (IsChainOf chain') whole_is new.0, omega (arith, new.1, now.1));
  ids = same ∙ m.ids;
}

pub moved_part : (old_part old_chain part chain : Chain) (first id next : Option ℕ) (many up down : ℕ) → Moved old_part old_chain part chain first id next many many up down
    → (before run after : List Entry) → IsChainOf old_part (before ++ (run ++ after)) → first ≡ head_id (run ++ after) None → length run ≡ many → IsChainOf part (before ++ after)
moved_part old_part old_chain part chain first id next many up down m before run after whole head size =
    subst (λ es. IsChainOf part (before ++ (es ++ after))) (drop_all many run (omega (arith, size))) (m.left before run after whole head size).0

pub moved_chain : (old_part old_chain part chain : Chain) (first id next : Option ℕ) (many up down : ℕ) → Moved old_part old_chain part chain first id next many many up down
    → (before run after : List Entry) → IsChainOf old_part (before ++ (run ++ after)) → first ≡ head_id (run ++ after) None → length run ≡ many
    → All (CanShift up down) run → (front back : List Entry) → IsChainOf old_chain (front ++ back) → next ≡ head_id back None
    → IsChainOf chain (front ++ (renumbered_entries (length old_chain.slots.items) (map (shifted_entry up down) run) ++ back))
    × (length chain.slots.items ≡ length old_chain.slots.items + many)
moved_chain old_part old_chain part chain first id next many up down m before run after whole head size fits front back links is =
    subst (λ es. IsChainOf chain (front ++ (renumbered_entries (length old_chain.slots.items) (map (shifted_entry up down) es) ++ back)) × (length chain.slots.items ≡ length old_chain.slots.items + many))
    (take_all many run (omega (arith, size))) (m.moved before run after whole head size fits front back links is)
