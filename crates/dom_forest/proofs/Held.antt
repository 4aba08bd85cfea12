-- Edits of a document that is held by a chain.
use Rattle.std.proofs.Common.{◌≡◌, ℕ, ◌+◌, ◌-◌, ◌^◌, ◌≤◌, Option, Some, None, List, [], ◌∷◌, ◌++◌, All, length, take, drop, map, reverse, one-add, refl, sym, ap, ◌∙◌, subst, arith}
use Rattle.std.proofs.lemmas.List.{drop_at, drop-drop}
use Rattle.dom_forest.specs.declared.node.NewNode.{NewNode}
use Rattle.dom_forest.specs.declared.node.NodeId.{NodeId}
use Rattle.dom_forest.specs.declared.entry.Entry.{Entry}
use Rattle.dom_forest.specs.declared.chain.Chain.{Chain}
use Rattle.dom_forest.specs.Chain.{IsChainOf, entries_of, entry_times, head_id, rest_from}
use Rattle.dom_forest.specs.Edits.{with_change, numbered_from, with_last}
use Rattle.dom_forest.specs.Flat.{CanShift, IsDocument, flat, forest_of, renumbered_entries, shifted_entry}
use Rattle.dom_forest.specs.Forest.{Forest, IsThere, count, empty, first_kids, first_tree, from, joined_forests, tree}
use Rattle.dom_forest.specs.Spine.{IsHeld, IsSpine, IsSpineOf, with_last_id}
use Rattle.dom_forest.proofs.Chains.{Split, entries_are, rest_head, split_id}
use Rattle.dom_forest.proofs.Documents.{Appended, document_from, forest_from, given_in, inserted_document, once_in}
use Rattle.dom_forest.proofs.Flattening.{entry_times-append}
use Rattle.dom_forest.proofs.Located.{known, times_of}
use Rattle.dom_forest.proofs.Parts.{Spanned, cut_part, cut_rest, halves, inner, inner_size, node_on, one_size, outer, part_document, part_forest, part_shifts, put, put_document, put_entries, put_forest, put_shifts, rest_document, rest_forest, root_document, root_forest, root_rest}
use Rattle.dom_forest.proofs.Spines.{spine-push, spine-put, spine-run, spine-set, spine-without_node}

-- A chain with its entries and their forest.
pub record Holding (chain : Chain) (entries : List Entry) (forest : Forest) : Type 0 where
  pub held : IsHeld chain
  pub forest_is : forest_of (entries_of chain) ≡ forest
  pub entries_is : entries_of chain ≡ entries

pub holding : (chain : Chain) (entries : List Entry) (forest : Forest) → IsChainOf chain entries → IsDocument entries (length chain.slots.items) → forest_of entries ≡ forest
    → Holding chain entries forest
holding chain entries forest links doc is =
    let same = entries_are chain.slots.items chain.first chain.last entries links in
    record {
      held = record { links = subst (IsChainOf chain) (sym same) links; document = subst (λ es. IsDocument es (length chain.slots.items)) (sym same) doc };
      forest_is = ap forest_of same ∙ is;
      entries_is = same;
    }

-- A node that is there, with its entries before and after it.
pub split_there : (id : ℕ) (entries : List Entry) (next : ℕ) → IsDocument entries next → IsThere id (forest_of entries) → Split entries id
split_there id entries next doc there = split_id id entries (omega (arith, there, times_of id entries next doc))

pub set_held : (entries : List Entry) (next id : ℕ) (node : NewNode) (chain : Chain) → IsDocument entries next → (x : Split entries id) → length chain.slots.items ≡ next
    → IsChainOf chain (x.front ++ record { depth = x.entry.depth; id = x.entry.id; node = node } ∷ x.back)
    → Holding chain (x.front ++ record { depth = x.entry.depth; id = x.entry.id; node = node } ∷ x.back) (with_change id (λ content kids later. tree id node kids later) (forest_of entries))
set_held entries next id node chain doc x size links =
    let e = x.entry in
    let new : Entry = record { depth = e.depth; id = e.id; node = node } in
    let k = known entries x.front x.back e id next doc x.whole x.same in
    let forest = with_change id (λ content kids later. tree id node kids later) (forest_of entries) in
    let written : flat 0 forest [] ≡ x.front ++ new ∷ x.back =
    k.edited (λ content kids later. tree id node kids later)
    ∙ ap (λ i. x.front ++ record { depth = e.depth; id = i; node = node } ∷ flat (e.depth + 1) k.kids (flat e.depth k.later k.back)) (sym x.same)
    ∙ ap (λ es. x.front ++ new ∷ es) (sym k.shape) in
    let same_times : (j : ℕ) → entry_times j (x.front ++ new ∷ x.back) ≡ entry_times j entries = λ j.
    omega (arith, entry_times-append j x.front (new ∷ x.back), entry_times-append j x.front (e ∷ x.back), ap (entry_times j) x.whole) in
    holding chain (x.front ++ new ∷ x.back) forest links
    (document_from (x.front ++ new ∷ x.back) forest (length chain.slots.items) written
    (λ j. omega (arith, same_times j, once_in entries next doc j))
    (λ j h. same_times j ∙ given_in entries next doc j (omega (arith, h, size))))
    (forest_from _ _ written)

pub set_spine : (entries : List Entry) (id next : ℕ) (node : NewNode) (chain : Chain) (x : Split entries id)
    → entries_of chain ≡ x.front ++ record { depth = x.entry.depth; id = x.entry.id; node = node } ∷ x.back
    → (spine : List ℕ) → IsSpineOf entries next spine → IsSpineOf (entries_of chain) next spine
set_spine entries id next node chain x is spine s =
    let new : Entry = record { depth = x.entry.depth; id = x.entry.id; node = node } in
    subst (λ es. IsSpineOf es next spine) (sym is)
    (s.0, spine-set x.front x.back x.entry new next _ s.0 refl refl (subst (λ es. IsSpine es next (reverse spine) s.0) x.whole s.1))

-- A new last child.
pub append_held : (entries : List Entry) (next : ℕ) (parent : Option NodeId) (node : NewNode) (place depth : ℕ) (chain : Chain) → IsDocument entries next
    → (x : Appended entries next parent node place depth) → length chain.slots.items ≡ next + 1
    → IsChainOf chain (x.front ++ record { depth = depth; id = next; node = node } ∷ x.back)
    → Holding chain (x.front ++ record { depth = depth; id = next; node = node } ∷ x.back) (with_last parent (tree next node empty empty) (forest_of entries))
append_held entries next parent node place depth chain doc x size links =
    let new : Entry = record { depth = depth; id = next; node = node } in
    holding chain (x.front ++ new ∷ x.back) (with_last parent (tree next node empty empty) (forest_of entries)) links
    (subst (λ n. IsDocument (x.front ++ new ∷ x.back) n) (sym size)
    (inserted_document x.front x.back new next (with_last parent (tree next node empty empty) (forest_of entries)) (subst (λ es. IsDocument es next) x.whole doc) refl x.written))
    (forest_from _ _ x.written)

pub head_after : (entries : List Entry) (next : ℕ) (parent : Option NodeId) (node : NewNode) (place depth : ℕ) (x : Appended entries next parent node place depth)
    → head_id (drop place entries) None ≡ head_id x.back None
head_after entries next parent node place depth x = ap (λ es. head_id (drop place es) None) x.whole ∙ ap (λ es. head_id es None) (drop_at x.front x.back place x.place)

-- A part that is taken out, and one that is put in.
module _ (entries : List Entry) (place many depth id next : ℕ) (doc : IsDocument entries next) (x : Spanned entries place (place + many) depth id) where
  abbrev pub part_run : List Entry
  part_run = inner entries place (place + many) depth id next doc x

  abbrev pub part_after : List Entry
  part_after = outer entries place (place + many) depth id next doc x

  pub part_halves : entries ≡ x.front ++ (part_run ++ part_after)
  part_halves = halves entries place (place + many) depth id next doc x

  pub part_size : length part_run ≡ many
  part_size = omega (arith, inner_size entries place (place + many) depth id next doc x)

  run_is : take (place + many - place) (drop place entries) ≡ part_run
  run_is = cut_part entries place (place + many) depth id next doc x

  pub part_fits : (most : ℕ) → length entries ≤ most → most ≤ 2 ^ 64 → All (CanShift depth 0) part_run
  part_fits most h small = subst (All (CanShift depth 0)) run_is (part_shifts entries place (place + many) depth id next doc x most h small)

  pub rest_held : (chain : Chain) → length chain.slots.items ≡ next → IsChainOf chain (x.front ++ part_after)
      → Holding chain (x.front ++ part_after) (with_change id (λ content kids later. later) (forest_of entries))
  rest_held chain size links =
      let is = cut_rest entries place (place + many) depth id next doc x in
      holding chain (x.front ++ part_after) (with_change id (λ content kids later. later) (forest_of entries)) links
      (subst (IsDocument (x.front ++ part_after)) (sym size) (subst (λ es. IsDocument es next) is (rest_document entries place (place + many) depth id next doc x)))
      (ap forest_of (sym is) ∙ rest_forest entries place (place + many) depth id next doc x)

  pub part_held : (chain : Chain) → length chain.slots.items ≡ many → IsChainOf chain (renumbered_entries 0 (map (shifted_entry depth 0) part_run))
      → Holding chain (renumbered_entries 0 (map (shifted_entry depth 0) part_run)) (numbered_from 0 (first_tree (from id (forest_of entries))))
  part_held chain size links =
      let new = renumbered_entries 0 (map (shifted_entry depth 0) part_run) in
      holding chain new (numbered_from 0 (first_tree (from id (forest_of entries)))) links
      (subst (IsDocument new) (omega (arith, size)) (subst (λ es. IsDocument (renumbered_entries 0 (map (shifted_entry depth 0) es)) (place + many - place)) run_is (part_document entries place (place + many) depth id next doc x)))
      (ap (λ es. forest_of (renumbered_entries 0 (map (shifted_entry depth 0) es))) (sym run_is) ∙ part_forest entries place (place + many) depth id next doc x)

  pub part_count : many ≡ count (first_tree (from id (forest_of entries)))
  part_count = omega (arith, one_size entries place (place + many) depth id next doc x)

  pub rest_spine : (chain : Chain) → entries_of chain ≡ x.front ++ part_after → (spine : List ℕ) → IsSpineOf entries next spine → IsSpineOf (entries_of chain) next spine
  rest_spine chain is spine s =
      subst (λ es. IsSpineOf es next spine) (sym is) (
        s.0,
        spine-without_node x.front part_run part_after next _ s.0 (λ i. subst (λ es. entry_times i es ≤ 1) part_halves (once_in entries next doc i))
            (subst (λ es. IsSpine es next (reverse spine) s.0) part_halves s.1),
      )

  module _ (part : List Entry) (its : flat 0 (forest_of part) [] ≡ part) where
    abbrev pub put_run : List Entry
    put_run = put entries place (place + many) depth id next part doc x its

    abbrev pub put_after : List Entry
    put_after = node_on entries place (place + many) depth id next part doc x its

    pub put_held : (chain : Chain) → length chain.slots.items ≡ next + length part → IsChainOf chain (x.front ++ (put_run ++ put_after))
        → Holding chain (x.front ++ (put_run ++ put_after)) (with_change id (λ content kids later. joined_forests (numbered_from next (forest_of part)) (tree id content kids later)) (forest_of entries))
    put_held chain size links =
        let is = put_entries entries place (place + many) depth id next part doc x its in
        holding chain (x.front ++ (put_run ++ put_after)) _ links
        (subst (λ es. IsDocument es (length chain.slots.items)) is (put_document entries place (place + many) depth id next part doc x its (length chain.slots.items) size))
        (ap forest_of (sym is) ∙ put_forest entries place (place + many) depth id next part doc x its)

    pub put_fits : length part + depth ≤ 2 ^ 64 → All (CanShift 0 depth) part
    put_fits = put_shifts entries place (place + many) depth id next part doc x its

    pub put_spine : (chain : Chain) → length chain.slots.items ≡ next + length part → entries_of chain ≡ x.front ++ (put_run ++ put_after)
        → (spine : List ℕ) → IsSpineOf entries next spine → IsSpineOf (entries_of chain) (length chain.slots.items) spine
    put_spine chain size is spine s =
        subst (λ n. IsSpineOf (entries_of chain) n spine) (sym size)
        (subst (λ es. IsSpineOf es (next + length part) spine) (sym is)
        (s.0, spine-run x.front part put_after depth next _ s.0 (λ d h. h.0) (subst (λ es. IsSpine es next (reverse spine) s.0) x.whole s.1)))

-- The end of what stands below a node.
pub end_place : (entries front rest : List Entry) (e : Entry) (n : ℕ) → entries ≡ front ++ e ∷ rest → drop (length front + 1 + n) entries ≡ drop n rest
end_place entries front rest e n whole =
    ap (drop (length front + 1 + n)) whole ∙ past front where
      past : (front : List Entry) → drop (length front + 1 + n) (front ++ e ∷ rest) ≡ drop n rest
      past front =
          ap (λ k. drop k (front ++ e ∷ rest)) (omega arith) ∙ sym (drop-drop (1 + n) (length front) (front ++ e ∷ rest))
          ∙ ap (drop (1 + n)) (drop_at front (e ∷ rest) (length front) refl) ∙ ap (λ k. drop k (e ∷ rest)) (one-add n)

back_none : (back : List Entry) → None ≡ head_id back None → back ≡ []
back_none [] h = refl
back_none (e ∷ es) h = cc

pub noted_spine : (front back : List Entry) (new : Entry) (size : ℕ) (next : Option ℕ) (spine : List ℕ) → next ≡ head_id back None → new.id ≡ size
    → ((i : ℕ) → entry_times i (front ++ new ∷ back) ≤ 1)
    → IsSpine (front ++ back) size (reverse spine) new.depth → IsSpineOf (front ++ new ∷ back) (size + 1) (with_last_id next size spine)
noted_spine front back new size (Some place) spine is same once s =
    (new.depth, spine-put front back new size (reverse spine) new.depth same (λ d less below. less) s)
noted_spine front back new size None spine is same once s =
    let none = back_none back is in
    spine-push (front ++ new ∷ back) (size + 1) size spine new
    (ap (λ i. rest_from (Some i) (front ++ new ∷ back)) (sym same) ∙ rest_head front (new ∷ back) once ∙ ap (λ es. new ∷ es) none) (omega arith)
    (spine-put front back new size (reverse spine) new.depth same (λ d less below. less) s)

pub root_held : (entries : List Entry) (next : ℕ) (chain : Chain) (first : Entry) → IsDocument entries next
    → (whole : entries ≡ first ∷ flat 1 (first_kids (forest_of entries)) []) → length chain.slots.items ≡ next
    → IsChainOf chain (map (shifted_entry 1 0) (flat 1 (first_kids (forest_of entries)) []))
    → Holding chain (map (shifted_entry 1 0) (flat 1 (first_kids (forest_of entries)) [])) (first_kids (forest_of entries))
root_held entries next chain first doc whole size links =
    let is = root_rest entries next doc first whole in
    holding chain (map (shifted_entry 1 0) (flat 1 (first_kids (forest_of entries)) [])) (first_kids (forest_of entries)) links
    (subst (IsDocument (map (shifted_entry 1 0) (flat 1 (first_kids (forest_of entries)) []))) (sym size)
    (subst (λ es. IsDocument (map (shifted_entry 1 0) es) next) is (root_document entries next doc first whole)))
    (ap (λ es. forest_of (map (shifted_entry 1 0) es)) (sym is) ∙ root_forest entries next doc first whole)

pub first_same : (o : Option ℕ) (i j : ℕ) → o ≡ Some i → o ≡ Some j → i ≡ j
first_same o i j h k = cc
