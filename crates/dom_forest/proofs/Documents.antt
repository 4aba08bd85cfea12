-- Documents made of entries.
use Rattle.std.proofs.Common.{◌≡◌, ℕ, ◌+◌, ◌≤◌, ◌==◌, if◌then◌else◌, inl, inr, Option, Some, None, List, [], ◌∷◌, ◌++◌, length, sym, ap, ◌∙◌, subst, arith, add-zero}
use Rattle.std.proofs.lemmas.Bool.{cases_eq}
use Rattle.std.proofs.lemmas.List.{append_assoc, append-nil, length-append}
use Rattle.dom_forest.specs.declared.node.NewNode.{NewNode}
use Rattle.dom_forest.specs.declared.entry.Entry.{Entry}
use Rattle.dom_forest.specs.Forest.{Forest, empty, tree, times, count, joined_forests}
use Rattle.dom_forest.specs.declared.node.NodeId.{NodeId}
use Rattle.std.specs.List.{prefix_len}
use Rattle.dom_forest.specs.Runs.{below_at}
use Rattle.dom_forest.specs.Edits.{with_last}
use Rattle.dom_forest.specs.Flat.{flat, forest_of, IsDocument, IsSpan, IsEndOfKids}
use Rattle.dom_forest.proofs.Flattening.{flat-append, flat-joined_forests, length-flat, forest_of-flat, entry_times, entry_times-append, entry_times-flat, counts_one, counts_none}
use Rattle.dom_forest.proofs.Located.{times_of, Known, known, past_kids}

-- Entries that are a forest's flat list, with each id once and below the next one, are a document of it.
pub document_from : (entries : List Entry) (forest : Forest) (next : ℕ) → flat 0 forest [] ≡ entries
    → ((id : ℕ) → entry_times id entries ≤ 1) → ((id : ℕ) → next ≤ id → entry_times id entries ≡ 0) → IsDocument entries next
document_from entries forest next written once given =
    let same : forest_of entries ≡ forest = ap forest_of (sym written) ∙ forest_of-flat forest in
    let counted : (id : ℕ) → entry_times id entries ≡ times id (forest_of entries) = λ id.
    ap (entry_times id) (sym written) ∙ entry_times-flat id 0 forest [] ∙ add-zero (times id forest) ∙ ap (times id) (sym same) in
    record {
      whole = ap (λ f. flat 0 f []) same ∙ written;
      numbered = record {
        once = λ id. subst (λ n. n ≤ 1) (counted id) (once id);
        given = λ id h. sym (counted id) ∙ given id h;
      };
    }

pub forest_from : (entries : List Entry) (forest : Forest) → flat 0 forest [] ≡ entries → forest_of entries ≡ forest
forest_from entries forest written = ap forest_of (sym written) ∙ forest_of-flat forest

pub once_in : (entries : List Entry) (next : ℕ) → IsDocument entries next → (id : ℕ) → entry_times id entries ≤ 1
once_in entries next doc id = subst (λ n. n ≤ 1) (sym (times_of id entries next doc)) (doc.numbered.once id)

pub given_in : (entries : List Entry) (next : ℕ) → IsDocument entries next → (id : ℕ) → next ≤ id → entry_times id entries ≡ 0
given_in entries next doc id h = times_of id entries next doc ∙ doc.numbered.given id h

-- One more node, with the next id.
inserted_times : (front back : List Entry) (new : Entry) (id : ℕ) → entry_times id (front ++ new ∷ back) ≡ (if new.id == id then 1 else 0) + entry_times id (front ++ back)
inserted_times front back new id = omega (arith, entry_times-append id front (new ∷ back), entry_times-append id front back)

pub inserted_document : (front back : List Entry) (new : Entry) (next : ℕ) (forest : Forest) → IsDocument (front ++ back) next → new.id ≡ next
    → flat 0 forest [] ≡ front ++ new ∷ back → IsDocument (front ++ new ∷ back) (next + 1)
inserted_document front back new next forest doc same written =
    document_from (front ++ new ∷ back) forest (next + 1) written
    (λ id. elim (cases_eq new.id id) [
      | inl here ↦ omega (arith, inserted_times front back new id, counts_one new.id id here, given_in (front ++ back) next doc id (omega (arith, same, here)))
      | inr other ↦ omega (arith, inserted_times front back new id, counts_none new.id id other, once_in (front ++ back) next doc id)
    ])
    (λ id h. omega (arith, inserted_times front back new id, counts_none new.id id (λ here. omega (arith, same, here)), given_in (front ++ back) next doc id (omega arith)))

-- A new node as the last child, or as the last node at the top.
pub record Appended (entries : List Entry) (next : ℕ) (parent : Option NodeId) (node : NewNode) (at depth : ℕ) : Type 0 where
  pub front : List Entry
  pub back : List Entry
  pub whole : entries ≡ front ++ back
  pub place : length front ≡ at
  pub written : flat 0 (with_last parent (tree next node empty empty) (forest_of entries)) [] ≡ front ++ record { depth = depth; id = next; node = node } ∷ back

-- The place past all below a node is that past its children and theirs.
pub span_kids : (entries : List Entry) (at end depth id : ℕ) (forest : Forest) → (span : IsSpan entries at end depth id) → (x : Known span.front span.entry span.after id forest)
    → prefix_len (below_at depth) span.after ≡ count x.kids
span_kids entries at end depth id forest span x =
    ap (λ l. prefix_len (below_at l) span.after) span.level ∙ ap (prefix_len (below_at span.entry.depth)) x.shape ∙ past_kids span.entry.depth x.kids x.later x.back x.ends

appended_under : (entries : List Entry) (next : ℕ) (parent : NodeId) (node : NewNode) (at depth here level : ℕ) → IsDocument entries next
    → IsSpan entries here at level parent.0 → depth ≡ level + 1 → Appended entries next (Some parent) node at depth
appended_under entries next parent node at depth here level doc span deeper =
    let e = span.entry in
    let x = known entries span.front span.after e parent.0 next doc span.whole span.same in
    let leaf : Forest = tree next node empty empty in
    let later = flat e.depth x.later x.back in
    let row : Entry = record { depth = e.depth; id = parent.0; node = e.node } in
    let front : List Entry = span.front ++ row ∷ flat (e.depth + 1) x.kids [] in
    let new : Entry = record { depth = depth; id = next; node = node } in
    record {
      front = front;
      back = later;
      whole = span.whole ∙ ap (λ i. span.front ++ record { depth = e.depth; id = i; node = e.node } ∷ span.after) span.same
          ∙ ap (λ es. span.front ++ row ∷ es) (x.shape ∙ flat-append (e.depth + 1) x.kids [] later)
          ∙ sym (append_assoc span.front (row ∷ flat (e.depth + 1) x.kids []) later);
      place = omega (
        arith,
        length-append span.front (row ∷ flat (e.depth + 1) x.kids []),
        length-flat (e.depth + 1) x.kids [],
        span.past,
        span.place,
        span_kids entries here at level parent.0 (forest_of entries) span x,
      );
      written = x.edited (λ content kids after. tree parent.0 content (joined_forests kids leaf) after)
          ∙ ap (λ es. span.front ++ row ∷ es) (flat-joined_forests (e.depth + 1) x.kids leaf later ∙ flat-append (e.depth + 1) x.kids [] (flat (e.depth + 1) leaf later)
          ∙ ap (λ n. flat (e.depth + 1) x.kids [] ++ record { depth = n; id = next; node = node } ∷ later) (omega (arith, span.level)))
          ∙ sym (append_assoc span.front (row ∷ flat (e.depth + 1) x.kids []) (new ∷ later));
    }

pub appended_at : (entries : List Entry) (next : ℕ) (parent : Option NodeId) (node : NewNode) (at depth : ℕ) → IsDocument entries next
    → IsEndOfKids entries parent at depth → Appended entries next parent node at depth
appended_at entries next None node at depth doc end = record {
  front = entries;
  back = [];
  whole = sym (append-nil entries);
  place = sym end.0;
  written = flat-joined_forests 0 (forest_of entries) (tree next node empty empty) []
      ∙ flat-append 0 (forest_of entries) [] (record { depth = 0; id = next; node = node } ∷ [])
      ∙ ap (λ es. es ++ record { depth = 0; id = next; node = node } ∷ []) doc.whole
      ∙ ap (λ n. entries ++ record { depth = n; id = next; node = node } ∷ []) (sym end.1);
}
appended_at entries next (Some parent) node at depth doc end = appended_under entries next parent node at depth end.0 end.1 doc end.2 end.3
