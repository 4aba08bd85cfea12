-- Parts that are taken out of a document, and parts that are put in.
use Rattle.std.proofs.Common.{◌≡◌, ℕ, ◌+◌, ◌-◌, ◌^◌, ◌≤◌, inl, inr, List, [], ◌∷◌, ◌++◌, All, length, take, drop, map, sym, ap, ◌∙◌, subst, arith, add-zero}
use Rattle.std.proofs.lemmas.Bool.{cases_lt}
use Rattle.std.proofs.lemmas.List.{append_assoc, take_at, drop_at, length-append, length-map}
use Rattle.std.proofs.lemmas.List.Elements.{All-from_recursion}
use Rattle.dom_forest.specs.declared.node.NewNode.{NewNode}
use Rattle.dom_forest.specs.declared.entry.Entry.{Entry}
use Rattle.dom_forest.specs.Forest.{Forest, empty, tree, count, joined_forests, from, first_tree, first_kids, IsOneElement}
use Rattle.dom_forest.specs.Edits.{with_change, numbered_from}
use Rattle.dom_forest.specs.Flat.{flat, forest_of, shifted_entry, renumbered_entries, CanShift, IsDocument, IsSpan}
use Rattle.dom_forest.proofs.Flattening.{flat-append, flat-joined_forests, length-flat, entry_times, entry_times-append}
use Rattle.dom_forest.proofs.Located.{Known, known}
use Rattle.dom_forest.proofs.Documents.{document_from, forest_from, once_in, given_in, span_kids}
use Rattle.dom_forest.proofs.Renumbering.{numbered_from-flat, shifted_entry-flat, renumbered_times-below, renumbered_times-past, renumbered_times-once, depths-flat, can_shift, shifted_times}

-- A node, with its entries before, below and after it.
pub record Spanned (entries : List Entry) (at end depth id : ℕ) : Type 0 where
  pub front : List Entry
  pub content : NewNode
  pub kids : Forest
  pub later : Forest
  pub back : List Entry
  pub place : length front ≡ at
  pub past : end ≡ at + 1 + count kids
  pub whole : entries ≡ front ++ flat depth (tree id content kids later) back
  pub found : from id (forest_of entries) ≡ tree id content kids later
  pub edited : (change : NewNode → Forest → Forest → Forest) → flat 0 (with_change id change (forest_of entries)) [] ≡ front ++ flat depth (change content kids later) back
  pub deep : depth ≤ at

spanned_known : (entries : List Entry) (at end depth id : ℕ) (span : IsSpan entries at end depth id) → Known span.front span.entry span.after id (forest_of entries) → Spanned entries at end depth id
spanned_known entries at end depth id span x =
    let e = span.entry in
    subst (λ d. Spanned entries at end d id) (sym span.level)
    (record {
      front = span.front;
      content = e.node;
      kids = x.kids;
      later = x.later;
      back = x.back;
      place = sym span.place;
      past = span.past ∙ ap (λ n. at + 1 + n) (span_kids entries at end depth id (forest_of entries) span x);
      whole = span.whole ∙ ap (λ i. span.front ++ record { depth = e.depth; id = i; node = e.node } ∷ span.after) span.same
          ∙ ap (λ es. span.front ++ record { depth = e.depth; id = id; node = e.node } ∷ es) x.shape;
      found = x.found;
      edited = x.edited;
      deep = omega (arith, x.deep, span.place);
    })

pub spanned : (entries : List Entry) (at end depth id next : ℕ) → IsDocument entries next → IsSpan entries at end depth id → Spanned entries at end depth id
spanned entries at end depth id next doc span =
    spanned_known entries at end depth id span (known entries span.front span.after span.entry id next doc span.whole span.same)

pub spanned_rest : (entries : List Entry) (at end depth id : ℕ) → (x : Spanned entries at end depth id)
    → drop at entries ≡ record { depth = depth; id = id; node = x.content } ∷ flat (depth + 1) x.kids (flat depth x.later x.back)
spanned_rest entries at end depth id x = ap (drop at) x.whole ∙ drop_at x.front (flat depth (tree id x.content x.kids x.later) x.back) at x.place

module _ (entries : List Entry) (at end depth id next : ℕ) (doc : IsDocument entries next) (x : Spanned entries at end depth id) where
  abbrev pub outer : List Entry
  outer = flat depth x.later x.back

  abbrev pub one : Forest
  one = tree id x.content x.kids empty

  -- the node with all below it
  abbrev pub inner : List Entry
  inner = flat depth one []

  pub halves : entries ≡ x.front ++ (inner ++ outer)
  halves = x.whole ∙ ap (λ es. x.front ++ es) (flat-append depth one [] outer)

  pub inner_size : length inner ≡ end - at
  inner_size = omega (arith, length-flat depth one [], x.past)

  pub cut_part : take (end - at) (drop at entries) ≡ inner
  cut_part =
      ap (λ es. take (end - at) (drop at es)) halves
      ∙ ap (take (end - at)) (drop_at x.front (inner ++ outer) at x.place)
      ∙ take_at inner outer (end - at) inner_size

  pub cut_rest : take at entries ++ drop end entries ≡ x.front ++ outer
  cut_rest =
      ap (λ es. take at es ++ drop end es) halves
      ∙ ap (λ es. es ++ drop end (x.front ++ (inner ++ outer))) (take_at x.front (inner ++ outer) at x.place)
      ∙ ap (λ es. x.front ++ drop end es) (sym (append_assoc x.front inner outer))
      ∙ ap (λ es. x.front ++ es) (drop_at (x.front ++ inner) outer end (omega (arith, length-append x.front inner, inner_size, x.place, x.past)))

  rest_times : (j : ℕ) → entry_times j (x.front ++ outer) ≤ entry_times j entries
  rest_times j = omega (arith, ap (entry_times j) halves, entry_times-append j x.front (inner ++ outer), entry_times-append j inner outer, entry_times-append j x.front outer)

  pub rest_document : IsDocument (take at entries ++ drop end entries) next
  rest_document =
      subst (λ es. IsDocument es next) (sym cut_rest)
      (document_from (x.front ++ outer) (with_change id (λ content kids later. later) (forest_of entries)) next (x.edited (λ content kids later. later))
      (λ j. omega (arith, rest_times j, once_in entries next doc j))
      (λ j h. omega (arith, rest_times j, given_in entries next doc j h)))

  pub rest_forest : forest_of (take at entries ++ drop end entries) ≡ with_change id (λ content kids later. later) (forest_of entries)
  rest_forest = forest_from _ _ (x.edited (λ content kids later. later) ∙ sym cut_rest)

  pub one_is : one ≡ first_tree (from id (forest_of entries))
  one_is = ap first_tree (sym x.found)

  pub one_size : end - at ≡ count (first_tree (from id (forest_of entries)))
  one_size = omega (arith, x.past, ap count one_is)

  -- the part as a document of its own
  part_is : renumbered_entries 0 (map (shifted_entry depth 0) inner) ≡ flat 0 (numbered_from 0 one) []
  part_is =
      ap (λ n. renumbered_entries 0 (map (shifted_entry depth 0) (flat n one []))) (sym (add-zero depth))
      ∙ ap (renumbered_entries 0) (shifted_entry-flat depth 0 0 one [])
      ∙ numbered_from-flat 0 0 one []

  pub part_written : flat 0 (numbered_from 0 one) [] ≡ renumbered_entries 0 (map (shifted_entry depth 0) (take (end - at) (drop at entries)))
  part_written = sym part_is ∙ ap (λ es. renumbered_entries 0 (map (shifted_entry depth 0) es)) (sym cut_part)

  pub part_document : IsDocument (renumbered_entries 0 (map (shifted_entry depth 0) (take (end - at) (drop at entries)))) (end - at)
  part_document =
      document_from _ (numbered_from 0 one) (end - at) part_written
      (λ j. renumbered_times-once 0 _ j)
      (λ j h. renumbered_times-past 0 _ j (omega (arith, length-map (take (end - at) (drop at entries)) (shifted_entry depth 0), ap length cut_part, inner_size)))

  pub part_forest : forest_of (renumbered_entries 0 (map (shifted_entry depth 0) (take (end - at) (drop at entries)))) ≡ numbered_from 0 (first_tree (from id (forest_of entries)))
  part_forest = forest_from _ _ part_written ∙ ap (numbered_from 0) one_is

  pub part_shifts : (most : ℕ) → length entries ≤ most → most ≤ 2 ^ 64 → All (CanShift depth 0) (take (end - at) (drop at entries))
  part_shifts most fits small =
      subst (All (CanShift depth 0)) (sym cut_part)
      (All-from_recursion (CanShift depth 0) inner
      (can_shift depth most depth 0 inner (omega arith) (omega (arith, small))
      (depths-flat depth most depth one [] (omega arith)
      (omega (arith, fits, ap length halves, length-append x.front (inner ++ outer), length-append inner outer, length-flat depth one [], x.deep, x.place)) tt)))

module _ (entries : List Entry) (at end depth id first : ℕ) (part : List Entry) (doc : IsDocument entries first) (x : Spanned entries at end depth id) (its : flat 0 (forest_of part) [] ≡ part) where
  abbrev put_change : NewNode → Forest → Forest → Forest
  put_change content kids later = joined_forests (numbered_from first (forest_of part)) (tree id content kids later)

  abbrev pub put : List Entry
  put = renumbered_entries first (map (shifted_entry 0 depth) part)

  put_is : put ≡ flat depth (numbered_from first (forest_of part)) []
  put_is =
      ap (λ es. renumbered_entries first (map (shifted_entry 0 depth) es)) (sym its)
      ∙ ap (renumbered_entries first) (shifted_entry-flat 0 depth 0 (forest_of part) [] ∙ ap (λ n. flat n (forest_of part) []) (omega arith))
      ∙ numbered_from-flat first depth (forest_of part) []

  abbrev pub node_on : List Entry
  node_on = flat depth (tree id x.content x.kids x.later) x.back

  pub put_entries : take at entries ++ (put ++ drop at entries) ≡ x.front ++ (put ++ node_on)
  put_entries =
      ap (λ es. take at es ++ (put ++ drop at es)) x.whole
      ∙ ap (λ es. es ++ (put ++ drop at (x.front ++ node_on))) (take_at x.front node_on at x.place)
      ∙ ap (λ es. x.front ++ (put ++ es)) (drop_at x.front node_on at x.place)

  put_written : flat 0 (with_change id put_change (forest_of entries)) [] ≡ take at entries ++ (put ++ drop at entries)
  put_written =
      x.edited put_change
      ∙ ap (λ es. x.front ++ es) (flat-joined_forests depth (numbered_from first (forest_of part)) (tree id x.content x.kids x.later) x.back
      ∙ flat-append depth (numbered_from first (forest_of part)) [] node_on ∙ ap (λ es. es ++ node_on) (sym put_is))
      ∙ sym put_entries

  put_size : length (map (shifted_entry 0 depth) part) ≡ length part
  put_size = length-map part (shifted_entry 0 depth)

  put_times : (j : ℕ) → entry_times j (take at entries ++ (put ++ drop at entries)) ≡ entry_times j put + entry_times j entries
  put_times j =
      omega (arith, ap (entry_times j) put_entries, entry_times-append j x.front (put ++ node_on), entry_times-append j put node_on, ap (entry_times j) x.whole, entry_times-append j x.front node_on)

  put_once : (j : ℕ) → entry_times j (take at entries ++ (put ++ drop at entries)) ≤ 1
  put_once j = elim (cases_lt j first) [
    | inl old ↦ omega (arith, put_times j, once_in entries first doc j, renumbered_times-below first (map (shifted_entry 0 depth) part) j old)
    | inr new ↦ omega (arith, put_times j, given_in entries first doc j new, renumbered_times-once first (map (shifted_entry 0 depth) part) j)
  ]

  pub put_document : (next : ℕ) → next ≡ first + length part → IsDocument (take at entries ++ (put ++ drop at entries)) next
  put_document next is =
      document_from _ (with_change id put_change (forest_of entries)) next put_written put_once
      (λ j h. omega (
        arith,
        is,
        put_times j,
        given_in entries first doc j (omega (arith, is)),
        put_size,
        renumbered_times-past first (map (shifted_entry 0 depth) part) j (omega (arith, is, put_size)),
      ))

  pub put_forest : forest_of (take at entries ++ (put ++ drop at entries)) ≡ with_change id put_change (forest_of entries)
  put_forest = forest_from _ _ put_written

  pub put_shifts : length part + depth ≤ 2 ^ 64 → All (CanShift 0 depth) part
  put_shifts small =
      subst (All (CanShift 0 depth)) its
      (All-from_recursion (CanShift 0 depth) (flat 0 (forest_of part) [])
      (can_shift 0 (length part) 0 depth (flat 0 (forest_of part) []) (omega arith) small
      (depths-flat 0 (length part) 0 (forest_of part) [] (omega arith) (omega (arith, ap length its, length-flat 0 (forest_of part) [])) tt)))

-- The children of the one node at the top.
pub root_whole : (entries : List Entry) (next : ℕ) → IsDocument entries next → IsOneElement (forest_of entries)
    → (first : Entry) × (entries ≡ first ∷ flat 1 (first_kids (forest_of entries)) [])
root_whole entries next doc one = root_of (forest_of entries) one entries doc.whole where
  root_of : (forest : Forest) → IsOneElement forest → (entries : List Entry) → flat 0 forest [] ≡ entries → (first : Entry) × (entries ≡ first ∷ flat 1 (first_kids forest) [])
  root_of empty one entries whole = absurd one
  root_of (tree i content kids empty) one entries whole = (record { depth = 0; id = i; node = content }, sym whole)
  root_of (tree i content kids (tree j other below later)) one entries whole = absurd one

module _ (entries : List Entry) (next : ℕ) (doc : IsDocument entries next) (first : Entry) (whole : entries ≡ first ∷ flat 1 (first_kids (forest_of entries)) []) where
  pub root_rest : drop 1 entries ≡ flat 1 (first_kids (forest_of entries)) []
  root_rest = ap (drop 1) whole

  pub root_written : flat 0 (first_kids (forest_of entries)) [] ≡ map (shifted_entry 1 0) (drop 1 entries)
  root_written = sym (shifted_entry-flat 1 0 0 (first_kids (forest_of entries)) []) ∙ ap (map (shifted_entry 1 0)) (sym root_rest)

  root_times : (j : ℕ) → entry_times j (map (shifted_entry 1 0) (drop 1 entries)) ≤ entry_times j entries
  root_times j = omega (arith, shifted_times 1 0 (drop 1 entries) j, ap (entry_times j) whole, ap (entry_times j) root_rest)

  pub root_document : IsDocument (map (shifted_entry 1 0) (drop 1 entries)) next
  root_document =
      document_from _ (first_kids (forest_of entries)) next root_written
      (λ j. omega (arith, root_times j, once_in entries next doc j))
      (λ j h. omega (arith, root_times j, given_in entries next doc j h))

  pub root_forest : forest_of (map (shifted_entry 1 0) (drop 1 entries)) ≡ first_kids (forest_of entries)
  root_forest = forest_from _ _ root_written

  pub root_shifts : length entries ≤ 2 ^ 64 → All (CanShift 1 0) (drop 1 entries)
  root_shifts small =
      subst (All (CanShift 1 0)) (sym root_rest)
      (All-from_recursion (CanShift 1 0) (flat 1 (first_kids (forest_of entries)) [])
      (can_shift 1 (length entries) 1 0 (flat 1 (first_kids (forest_of entries)) []) (omega arith) (omega arith)
      (depths-flat 1 (length entries) 1 (first_kids (forest_of entries)) [] (omega arith)
      (omega (arith, ap length whole, length-flat 1 (first_kids (forest_of entries)) [])) tt)))
