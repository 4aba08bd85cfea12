-- An index of ids, as a document is edited.
use Rattle.std.proofs.Common.{◌≡◌, ◌≢◌, ℕ, suc, ◌+◌, ◌<◌, ◌≤◌, ◌^◌, ◌==◌, ◌&&◌, ◌||◌, eqb, nat_lt, not, inl, inr, ◌⊎◌, Bool, true, false, if◌then◌else◌, Option, Some, None, is_some, filter, String, List, [], ◌∷◌, ◌++◌, length, take, get_or, codes, refl, sym, ap, ◌∙◌, subst, arith, append-nil, append_assoc, length-append}
use Rattle.std.specs.BTreeMap.{BTreeMap, Updates, get_by_text}
use Rattle.std.specs.Bool.{then_some}
use Rattle.std.specs.List.{list_any}
use Rattle.std.specs.Map.{update}
use Rattle.std.specs.Str.{bytes_eq}
use Rattle.std.specs.String.{string_bytes, string_cmp}
use Rattle.std.specs.declared.alloc.Global.{Global}
use Rattle.std.proofs.lemmas.Bool.{cases_Bool, cases_eq, cond-false, cond-true, eq-eqb, eqb-true, ne_eqb, true≢false}
use Rattle.std.proofs.lemmas.Map.Text.{btree_map_updates_text}
use Rattle.std.proofs.lemmas.Slice.Eq.{bytes_eq-Decides}
use Rattle.fizz_text.specs.declared.attribute.Attr.{Attr}
use Rattle.dom_forest.specs.declared.chain.Chain.{Chain}
use Rattle.dom_forest.specs.declared.chain.Slot.{Slot}
use Rattle.dom_forest.specs.declared.entry.Entry.{Entry}
use Rattle.dom_forest.specs.declared.ids.Holder.{Holder}
use Rattle.dom_forest.specs.declared.ids.Holder.TheVariants.{Many, One}
use Rattle.dom_forest.specs.declared.node.NodeId.{NodeId}
use Rattle.dom_forest.specs.declared.node.NewNode.{NewNode}
use Rattle.dom_forest.specs.declared.node.NewNode.TheVariants.{Comment, Element, Text}
use Rattle.dom_forest.specs.Chain.{IsChain, IsChainOf, entries_of, entry_in, entry_times, rest_from, slot_at}
use Rattle.dom_forest.specs.Edits.{DomState, digest_attribute, digest_set, is_digest, numbered_from, with_change, with_digest, with_last}
use Rattle.dom_forest.specs.Flat.{IsDocument, flat, forest_of, renumbered_entries}
use Rattle.dom_forest.specs.Forest.{Forest, content_of, count, empty, first_content, from, joined_forests, or_else, or_id, times, tree}
use Rattle.dom_forest.specs.Ids.{element_with, gives_id, has_id, is_value}
use Rattle.dom_forest.specs.Index.{HasNoted, IsIndexOf, KnowsAll, KnowsEntries, KnowsNode, Known, LeadsTo, StaysKnown, holder_with, is_content, is_gone, known_by}
use Rattle.dom_forest.specs.Spine.{IsHeld}
use Rattle.dom_forest.proofs.Chains.{not_there, within_lt}
use Rattle.dom_forest.proofs.Flattening.{counts_one}
use Rattle.dom_forest.proofs.Located.{times_of}
use Rattle.dom_forest.proofs.Renumbering.{numbered_from-flat, renumbered_entries-push, with_id}

nothing_true : false ≡ true → ⊥
nothing_true e = cc

-- One more node

one_with : (same gone : Bool) (node other m : ℕ) → (same ≡ true → other ≡ node) → gone ≡ false → m ≡ other → LeadsTo (Some (if same || gone then One node else Many)) m
one_with true gone node other m is there e = e ∙ is refl
one_with false true node other m is there e = absurd (nothing_true (sym there))
one_with false false node other m is there e = tt

leads_with : (slots : List (Option Slot)) (node : ℕ) (known : Option Holder) (m : ℕ) → is_gone m slots ≡ false → LeadsTo known m → LeadsTo (Some (holder_with slots node known)) m
leads_with slots node None m there h = absurd h
leads_with slots node (Some (One other)) m there h =
    one_with (other == node) (is_gone other slots) node other m (λ e. eqb-true other node e) (ap (λ n. is_gone n slots) (sym h) ∙ there) h
leads_with slots node (Some Many) m there h = tt

updated : (same : Bool) (new old : Option Holder) (m : ℕ) → (same ≡ true → LeadsTo old m → LeadsTo new m) → LeadsTo old m → LeadsTo (if same then new else old) m
updated true new old m to h = to refl h
updated false new old m to h = h

pub note_keeps : (m n : BTreeMap (String Global) Holder) (slots : List (Option Slot)) (id : List ℕ) (key : String Global) (node : ℕ) (holder : Holder) → string_bytes key ≡ id
    → Updates string_cmp m n key (Some holder) → holder ≡ holder_with slots node (get_by_text m id) → StaysKnown slots (get_by_text m) (get_by_text n)
note_keeps m n slots id key node holder key_is updates is other at there h =
    subst (λ o. LeadsTo o at) (sym (btree_map_updates_text (string_bytes key) m n (Some holder) updates other))
    (updated (bytes_eq (string_bytes key) other) (Some holder) (get_by_text m other) at to h) where
      to : bytes_eq (string_bytes key) other ≡ true → LeadsTo (get_by_text m other) at → LeadsTo (Some holder) at
      to same old =
          let is_other : id ≡ other = sym key_is ∙ (bytes_eq-Decides (string_bytes key) other).0 same in
          subst (λ (x : Holder). LeadsTo (Some x) at) (sym (is ∙ ap (λ x. holder_with slots node (get_by_text m x)) is_other)) (leads_with slots node (get_by_text m other) at there old)

pub stays_same : (slots : List (Option Slot)) (old : Known) → StaysKnown slots old old
stays_same slots old id node there h = h

pub stays_twice : (slots : List (Option Slot)) (a b c : Known) → StaysKnown slots a b → StaysKnown slots b c → StaysKnown slots a c
stays_twice slots a b c h k id node there l = k id node there (h id node there l)

-- All nodes

pub no_index : (forest : Forest) → KnowsAll (known_by None) forest
no_index empty = tt
no_index (tree i content kids later) = (λ id h. tt, no_index kids, no_index later)

abbrev AreThere : List (Option Slot) → Forest → Type 0
AreThere slots forest = (id : ℕ) → 1 ≤ times id forest → is_gone id slots ≡ false

stays_all : (slots : List (Option Slot)) (old new : Known) (forest : Forest) → AreThere slots forest → StaysKnown slots old new → KnowsAll old forest → KnowsAll new forest
stays_all slots old new empty there stays h = tt
stays_all slots old new (tree i content kids later) there stays h = (
  λ id is. stays id i (there i (omega (arith, counts_one i i refl))) (h.0 id is),
  stays_all slots old new kids (λ id some. there id (omega arith)) stays h.1,
  stays_all slots old new later (λ id some. there id (omega arith)) stays h.2,
)

not_gone : (id : ℕ) (slots : List (Option Slot)) (slot : Option Slot) → slot_at slots id ≡ slot → (slot ≡ None → ⊥) → is_gone id slots ≡ false
not_gone id slots None is some = absurd (some refl)
not_gone id slots (Some slot) is some = ap (λ o. nat_lt id (length slots) && not (is_some o)) is ∙ and_false (nat_lt id (length slots)) where
  and_false : (b : Bool) → (b && false) ≡ false
  and_false true = refl
  and_false false = refl

pub are_there : (chain : Chain) → IsHeld chain → AreThere chain.slots.items (forest_of (entries_of chain))
are_there chain held id some =
    not_gone id chain.slots.items (slot_at chain.slots.items id) refl
    (λ none. omega (
      arith,
      some,
      times_of id (entries_of chain) (length chain.slots.items) held.document,
      not_there chain.slots.items chain.first chain.last (entries_of chain) id held.links (sym none),
    ))

pub stays_held : (chain : Chain) (old new : Known) → IsHeld chain → StaysKnown chain.slots.items old new → KnowsAll old (forest_of (entries_of chain)) → KnowsAll new (forest_of (entries_of chain))
stays_held chain old new held stays h = stays_all chain.slots.items old new (forest_of (entries_of chain)) (are_there chain held) stays h

pub past_not_gone : (id : ℕ) (slots : List (Option Slot)) → length slots ≤ id → is_gone id slots ≡ false
past_not_gone id slots h = ap (λ b. b && not (is_some (slot_at slots id))) (not_less id (length slots) h) where
  not_less : (a b : ℕ) → b ≤ a → nat_lt a b ≡ false
  not_less a b h = elim (cases_Bool (nat_lt a b)) [ inl less ↦ absurd (omega (arith, within_lt a b (sym less))) | inr more ↦ more ]

-- Entries that are to get the next ids

knows_append : (known : Known) (es fs : List Entry) → KnowsEntries known es → KnowsEntries known fs → KnowsEntries known (es ++ fs)
knows_append known [] fs h k = k
knows_append known (e ∷ es) fs h k = (h.0, knows_append known es fs h.1 k)

pub stays_entries : (slots : List (Option Slot)) (old new : Known) (next : ℕ) (es : List Entry) → length slots ≤ next → StaysKnown slots old new
    → KnowsEntries old (renumbered_entries next es) → KnowsEntries new (renumbered_entries next es)
stays_entries slots old new next [] past stays h = tt
stays_entries slots old new next (e ∷ es) past stays h =
    (λ id is. stays id next (past_not_gone next slots past) (h.0 id is), stays_entries slots old new (next + 1) es (omega arith) stays h.1)

pub knows_push : (known : Known) (next : ℕ) (es : List Entry) (e : Entry) → KnowsEntries known (renumbered_entries next es) → KnowsNode known (next + length es) e.node
    → KnowsEntries known (renumbered_entries next (es ++ e ∷ []))
knows_push known next es e h k =
    subst (KnowsEntries known) (sym (renumbered_entries-push next es e))
    (knows_append known (renumbered_entries next es) (with_id (next + length es) e ∷ []) h (k, tt))

knows_flat : (known : Known) (depth : ℕ) (forest : Forest) (more : List Entry) → KnowsEntries known (flat depth forest more) → KnowsAll known forest × KnowsEntries known more
knows_flat known depth empty more h = (tt, h)
knows_flat known depth (tree i content kids later) more h =
    let first = knows_flat known (depth + 1) kids (flat depth later more) h.1 in
    let second = knows_flat known depth later more first.1 in
    ((h.0, first.0, second.0), second.1)

pub knows_part : (known : Known) (next size : ℕ) (entries : List Entry) → IsDocument entries size → KnowsEntries known (renumbered_entries next entries)
    → KnowsAll known (numbered_from next (forest_of entries))
knows_part known next size entries document h =
    (knows_flat known 0 (numbered_from next (forest_of entries)) (renumbered_entries (next + count (forest_of entries)) [])
    (subst (KnowsEntries known) (ap (renumbered_entries next) (sym document.whole) ∙ numbered_from-flat next 0 (forest_of entries) []) h)).0

-- Edits

pub knows_joined : (known : Known) (a b : Forest) → KnowsAll known a → KnowsAll known b → KnowsAll known (joined_forests a b)
knows_joined known empty b h k = k
knows_joined known (tree i content kids later) b h k = (h.0, h.1, knows_joined known later b h.2 k)

abbrev Changes : Known → ℕ → (NewNode → Forest → Forest → Forest) → Type 0
Changes known id change = (content : NewNode) (kids later : Forest) → KnowsNode known id content → KnowsAll known kids → KnowsAll known later → KnowsAll known (change content kids later)

pub knows_changed : (known : Known) (id : ℕ) (change : NewNode → Forest → Forest → Forest) (forest : Forest) → Changes known id change → KnowsAll known forest → KnowsAll known (with_change id change forest)
knows_changed known id change empty changes h = tt
knows_changed known id change (tree i content kids later) changes h = elim (cases_eq i id) [
  | inl same ↦ subst (KnowsAll known) (sym (cond-true (eqb i id) _ _ (eq-eqb i id same)))
      (changes content kids later (subst (λ n. KnowsNode known n content) same h.0) h.1 h.2)
  | inr other ↦ subst (KnowsAll known) (sym (cond-false (eqb i id) _ _ (ne_eqb i id other)))
      (h.0, knows_changed known id change kids changes h.1, knows_changed known id change later changes h.2)
]

pub knows_last : (known : Known) (parent : Option NodeId) (next : ℕ) (node : NewNode) (forest : Forest) → KnowsNode known next node → KnowsAll known forest
    → KnowsAll known (with_last parent (tree next node empty empty) forest)
knows_last known None next node forest k h = knows_joined known forest (tree next node empty empty) h (k, tt, tt)
knows_last known (Some parent) next node forest k h =
    knows_changed known parent.0 (λ content kids later. tree parent.0 content (joined_forests kids (tree next node empty empty)) later) forest
    (λ content kids later c below after. (c, knows_joined known kids (tree next node empty empty) below (k, tt, tt), after)) h

pub knows_without : (known : Known) (id : ℕ) (forest : Forest) → KnowsAll known forest → KnowsAll known (with_change id (λ content kids later. later) forest)
knows_without known id forest h = knows_changed known id (λ content kids later. later) forest (λ content kids later c below after. after) h

pub knows_before : (known : Known) (id : ℕ) (part forest : Forest) → KnowsAll known part → KnowsAll known forest
    → KnowsAll known (with_change id (λ content kids later. joined_forests part (tree id content kids later)) forest)
knows_before known id part forest k h =
    knows_changed known id (λ content kids later. joined_forests part (tree id content kids later)) forest
    (λ content kids later c below after. knows_joined known part (tree id content kids later) k (c, below, after)) h

pub knows_content : (known : Known) (id : ℕ) (node : NewNode) (forest : Forest) → KnowsNode known id node → KnowsAll known forest
    → KnowsAll known (with_change id (λ content kids later. tree id node kids later) forest)
knows_content known id node forest k h =
    knows_changed known id (λ content kids later. tree id node kids later) forest (λ content kids later c below after. (k, below, after)) h

pub knows_comment : (known : Known) (id : ℕ) (mark : _) → KnowsNode known id (Comment mark)
knows_comment known id mark q h = absurd (nothing_true h)

-- What is found

found_node : (a b : Forest) (content : NewNode) → first_content a ≡ Some content → first_content (or_else a b) ≡ Some content
found_node empty b content e = absurd (let z : None ≡ Some content = e in cc)
found_node (tree i other kids later) b content e = e

-- The first node of a number that is there.
abbrev IsAt : ℕ → Forest → (ℕ → NewNode → Type 0) → Type 0
IsAt id forest P = (content : NewNode) → content_of id forest ≡ Some content → P id content

either_content : (a b : Forest) (content : NewNode) → first_content (or_else a b) ≡ Some content → (first_content a ≡ Some content) ⊎ (first_content b ≡ Some content)
either_content empty b content e = inr e
either_content (tree i other kids later) b content e = inl e

pub knows_at : (known : Known) (id : ℕ) (forest : Forest) (content : NewNode) → KnowsAll known forest → content_of id forest ≡ Some content → KnowsNode known id content
knows_at known id empty content h e = absurd (let z : None ≡ Some content = e in cc)
knows_at known id (tree i other kids later) content h e = elim (cases_eq i id) [
  | inl same ↦
      let is : other ≡ content = some_same other content (sym (ap first_content (cond-true (eqb i id) (tree i other kids later) (or_else (from id kids) (from id later)) (eq-eqb i id same))) ∙ e) in
      subst (KnowsNode known id) is (subst (λ n. KnowsNode known n other) same h.0)
  | inr apart ↦
      let below = sym (ap first_content (cond-false (eqb i id) (tree i other kids later) (or_else (from id kids) (from id later)) (ne_eqb i id apart))) ∙ e in
      elim (either_content (from id kids) (from id later) content below) [
        | inl in_kids ↦ knows_at known id kids content h.1 in_kids
        | inr in_later ↦ knows_at known id later content h.2 in_later
      ]
] where
  some_same : (a b : NewNode) → Some a ≡ Some b → a ≡ b
  some_same a b e = cc

either_found : (a b : Option ℕ) (n : ℕ) → or_id a b ≡ Some n → (a ≡ Some n) ⊎ (b ≡ Some n)
either_found None b n e = inr e
either_found (Some m) b n e = inl e

pub knows_found : (known : Known) (id : List ℕ) (forest : Forest) (n : ℕ) → KnowsAll known forest → element_with id forest ≡ Some n → LeadsTo (known id) n
knows_found known id empty n h e = absurd (let z : None ≡ Some n = e in cc)
knows_found known id (tree i content kids later) n h e = elim (cases_Bool (has_id id content)) [
  | inl has ↦
      let here : Some i ≡ Some n = sym (cond-true (has_id id content) (Some i) (or_id (element_with id kids) (element_with id later)) has) ∙ e in
      let same : i ≡ n = cc in
      subst (LeadsTo (known id)) same (h.0 id has)
  | inr not ↦
      elim (either_found (element_with id kids) (element_with id later) n (sym (cond-false (has_id id content) (Some i) (or_id (element_with id kids) (element_with id later)) not) ∙ e)) [
        | inl in_kids ↦ knows_found known id kids n h.1 in_kids
        | inr in_later ↦ knows_found known id later n h.2 in_later
      ]
]

some_found : (a b : Option ℕ) → is_some b ≡ true → is_some (or_id a b) ≡ true
some_found None b e = e
some_found (Some n) b e = refl

first_found : (a b : Option ℕ) → is_some a ≡ true → is_some (or_id a b) ≡ true
first_found None b e = absurd (nothing_true e)
first_found (Some n) b e = refl

-- A node that has the id is there, so one is found.
pub found_some : (id : List ℕ) (n : ℕ) (forest : Forest) (content : NewNode) → content_of n forest ≡ Some content → has_id id content ≡ true → is_some (element_with id forest) ≡ true
found_some id n empty content e has = absurd (let z : None ≡ Some content = e in cc)
found_some id n (tree i other kids later) content e has = elim (cases_Bool (has_id id other)) [
  | inl here ↦ ap is_some (cond-true (has_id id other) (Some i) (or_id (element_with id kids) (element_with id later)) here)
  | inr not ↦
      ap is_some (cond-false (has_id id other) (Some i) (or_id (element_with id kids) (element_with id later)) not)
      ∙ (elim (cases_eq i n) [
        | inl same ↦
            let is : Some other ≡ Some content = sym (ap first_content (cond-true (eqb i n) (tree i other kids later) (or_else (from n kids) (from n later)) (eq-eqb i n same))) ∙ e in
            let contents : other ≡ content = cc in
            absurd (nothing_true (sym not ∙ ap (has_id id) contents ∙ has))
        | inr apart ↦
            let below = sym (ap first_content (cond-false (eqb i n) (tree i other kids later) (or_else (from n kids) (from n later)) (ne_eqb i n apart))) ∙ e in
            elim (either_content (from n kids) (from n later) content below) [
              | inl in_kids ↦ first_found (element_with id kids) (element_with id later) (found_some id n kids content in_kids has)
              | inr in_later ↦ some_found (element_with id kids) (element_with id later) (found_some id n later content in_later has)
            ]
      ])
]

pub noted_more : (es rest more : List Entry) (next id : ℕ) (slots : List (Option Slot)) (old new : Known) (e : Entry) → HasNoted es rest next id old → rest ≡ e ∷ more
    → length slots ≤ next → StaysKnown slots old new → KnowsNode new id e.node → HasNoted es more next (id + 1) new
noted_more es rest more next id slots old new e h is past stays k = record {
  done = h.done ++ e ∷ [];
  all = h.all ∙ ap (λ xs. h.done ++ xs) is ∙ sym (append_assoc h.done (e ∷ []) more);
  place = omega (arith, h.place, length-append h.done (e ∷ []));
  known = knows_push new next h.done e (stays_entries slots old new next h.done past stays h.known) (subst (λ n. KnowsNode new n e.node) h.place k);
}

pub noted_all : (es rest : List Entry) (next id : ℕ) (found : Known) → HasNoted es rest next id found → rest ≡ [] → KnowsEntries found (renumbered_entries next es)
noted_all es rest next id found h none =
    subst (λ xs. KnowsEntries found (renumbered_entries next xs)) (sym (h.all ∙ ap (λ xs. h.done ++ xs) none ∙ append-nil h.done)) h.known

-- The node that was found has the id.

content_first : (test : NewNode → Bool) (a b : Forest) → is_content test (first_content a) ≡ true → is_content test (first_content (or_else a b)) ≡ true
content_first test empty b e = absurd (nothing_true e)
content_first test (tree i content kids later) b e = e

found_times : (id : List ℕ) (forest : Forest) (n : ℕ) → element_with id forest ≡ Some n → 1 ≤ times n forest
found_times id empty n e = absurd (let z : None ≡ Some n = e in cc)
found_times id (tree i content kids later) n e = elim (cases_Bool (has_id id content)) [
  | inl has ↦
      let here : Some i ≡ Some n = sym (cond-true (has_id id content) (Some i) (or_id (element_with id kids) (element_with id later)) has) ∙ e in
      let same : i ≡ n = cc in
      omega (arith, counts_one i n same)
  | inr not ↦
      elim (either_found (element_with id kids) (element_with id later) n (sym (cond-false (has_id id content) (Some i) (or_id (element_with id kids) (element_with id later)) not) ∙ e)) [
        | inl in_kids ↦ omega (arith, found_times id kids n in_kids)
        | inr in_later ↦ omega (arith, found_times id later n in_later)
      ]
]

absent : (id : ℕ) (forest : Forest) → times id forest ≡ 0 → from id forest ≡ empty
absent id empty none = refl
absent id (tree i content kids later) none =
    let other : i ≢ id = λ same. omega (arith, counts_one i id same) in
    cond-false (eqb i id) _ _ (ne_eqb i id other)
    ∙ ap (λ f. or_else f (from id later)) (absent id kids (omega arith)) ∙ absent id later (omega arith)

found_content : (id : List ℕ) (forest : Forest) (n : ℕ) → ((j : ℕ) → times j forest ≤ 1) → element_with id forest ≡ Some n → is_content (has_id id) (content_of n forest) ≡ true
found_content id empty n once e = absurd (let z : None ≡ Some n = e in cc)
found_content id (tree i content kids later) n once e = elim (cases_Bool (has_id id content)) [
  | inl has ↦
      let here : Some i ≡ Some n = sym (cond-true (has_id id content) (Some i) (or_id (element_with id kids) (element_with id later)) has) ∙ e in
      let same : i ≡ n = cc in
      ap (λ f. is_content (has_id id) (first_content f)) (cond-true (eqb i n) (tree i content kids later) (or_else (from n kids) (from n later)) (eq-eqb i n same)) ∙ has
  | inr not ↦
      elim (either_found (element_with id kids) (element_with id later) n (sym (cond-false (has_id id content) (Some i) (or_id (element_with id kids) (element_with id later)) not) ∙ e)) [
        | inl in_kids ↦
            let other : i ≢ n = λ same. omega (arith, once n, counts_one i n same, found_times id kids n in_kids) in
            ap (λ f. is_content (has_id id) (first_content f)) (cond-false (eqb i n) (tree i content kids later) (or_else (from n kids) (from n later)) (ne_eqb i n other))
            ∙ content_first (has_id id) (from n kids) (from n later) (found_content id kids n (λ j. omega (arith, once j)) in_kids)
        | inr in_later ↦
            let there : 1 ≤ times n later = found_times id later n in_later in
            let other : i ≢ n = λ same. omega (arith, once n, counts_one i n same, there) in
            ap (λ f. is_content (has_id id) (first_content f)) (cond-false (eqb i n) (tree i content kids later) (or_else (from n kids) (from n later)) (ne_eqb i n other))
            ∙ ap (λ f. is_content (has_id id) (first_content (or_else f (from n later)))) (absent n kids (omega (arith, once n, there)))
            ∙ found_content id later n (λ j. omega (arith, once j)) in_later
      ]
]

pub find_none : (known : Known) (id : List ℕ) (forest : Forest) → KnowsAll known forest → ((n : ℕ) → LeadsTo (known id) n → ⊥) → None ≡ element_with id forest
find_none known id forest h none = by_found (element_with id forest) refl where
  by_found : (o : Option ℕ) → element_with id forest ≡ o → None ≡ o
  by_found None e = refl
  by_found (Some n) e = absurd (none n (knows_found known id forest n h e))

pub find_one : (known : Known) (id : List ℕ) (forest : Forest) (m : ℕ) → ((j : ℕ) → times j forest ≤ 1) → KnowsAll known forest → ((n : ℕ) → LeadsTo (known id) n → n ≡ m)
    → then_some (is_content (has_id id) (content_of m forest)) m ≡ element_with id forest
find_one known id forest m once h one = some_if (is_content (has_id id) (content_of m forest)) m ∙ by_found (element_with id forest) refl where
  some_if : (b : Bool) (k : ℕ) → then_some b k ≡ (if b then Some k else None)
  some_if true k = refl
  some_if false k = refl

  holds : (o : Option NewNode) → content_of m forest ≡ o → is_content (has_id id) o ≡ true → is_some (element_with id forest) ≡ true
  holds None e is = absurd (nothing_true is)
  holds (Some content) e is = found_some id m forest content e is

  by_test : (b : Bool) → is_content (has_id id) (content_of m forest) ≡ b → element_with id forest ≡ None → (if b then Some m else None) ≡ None
  by_test true is none = absurd (nothing_true (sym (ap is_some none) ∙ holds (content_of m forest) refl is))
  by_test false is none = refl

  by_found : (o : Option ℕ) → element_with id forest ≡ o → (if is_content (has_id id) (content_of m forest) then Some m else None) ≡ o
  by_found None e = by_test (is_content (has_id id) (content_of m forest)) refl e
  by_found (Some n) e =
      let same : n ≡ m = one n (knows_found known id forest n h e) in
      let has : is_content (has_id id) (content_of m forest) ≡ true = subst (λ k. is_content (has_id id) (content_of k forest) ≡ true) same (found_content id forest n once e) in
      cond-true (is_content (has_id id) (content_of m forest)) (Some m) None has ∙ ap (λ k. Some k) (sym same)

pub index_knows : (holders : Option (BTreeMap (String Global) Holder)) (forest : Forest) → IsIndexOf holders forest → KnowsAll (known_by holders) forest
index_knows None forest h = no_index forest
index_knows (Some holders) forest h = h

pub knows_index : (holders : Option (BTreeMap (String Global) Holder)) (forest : Forest) → KnowsAll (known_by holders) forest → IsIndexOf holders forest
knows_index None forest h = tt
knows_index (Some holders) forest h = h

-- The index of an edited document.

pub index_last : (holders : Option (BTreeMap (String Global) Holder)) (parent : Option NodeId) (next : ℕ) (node : NewNode) (forest after : Forest) → KnowsNode (known_by holders) next node
    → IsIndexOf holders forest → after ≡ with_last parent (tree next node empty empty) forest → IsIndexOf holders after
index_last holders parent next node forest after k h is =
    subst (IsIndexOf holders) (sym is)
    (knows_index holders (with_last parent (tree next node empty empty) forest) (knows_last (known_by holders) parent next node forest k (index_knows holders forest h)))

pub index_without : (holders : Option (BTreeMap (String Global) Holder)) (id : ℕ) (forest after : Forest) → IsIndexOf holders forest
    → after ≡ with_change id (λ content kids later. later) forest → IsIndexOf holders after
index_without holders id forest after h is =
    subst (IsIndexOf holders) (sym is) (knows_index holders (with_change id (λ content kids later. later) forest) (knows_without (known_by holders) id forest (index_knows holders forest h)))

pub index_before : (holders : Option (BTreeMap (String Global) Holder)) (id : ℕ) (part forest after : Forest) → IsIndexOf holders part → IsIndexOf holders forest
    → after ≡ with_change id (λ content kids later. joined_forests part (tree id content kids later)) forest → IsIndexOf holders after
index_before holders id part forest after k h is =
    subst (IsIndexOf holders) (sym is)
    (knows_index holders (with_change id (λ content kids later. joined_forests part (tree id content kids later)) forest)
    (knows_before (known_by holders) id part forest (index_knows holders part k) (index_knows holders forest h)))

pub index_comment : (holders : Option (BTreeMap (String Global) Holder)) (id : ℕ) (mark : _) (forest after : Forest) → IsIndexOf holders forest
    → after ≡ with_change id (λ content kids later. tree id (Comment mark) kids later) forest → IsIndexOf holders after
index_comment holders id mark forest after h is =
    subst (IsIndexOf holders) (sym is)
    (knows_index holders (with_change id (λ content kids later. tree id (Comment mark) kids later) forest)
    (knows_content (known_by holders) id (Comment mark) forest (knows_comment (known_by holders) id mark) (index_knows holders forest h)))

-- The attribute of a digest gives no id.

any_either : (a b : Bool) → (a || b) ≡ true → (a ≡ true) ⊎ (b ≡ true)
any_either true b e = inl refl
any_either false b e = inr e

any_second : (a b : Bool) → b ≡ true → (a || b) ≡ true
any_second true b e = refl
any_second false b e = e

any_first : (a b : Bool) → a ≡ true → (a || b) ≡ true
any_first true b e = refl
any_first false b e = absurd (nothing_true e)

filter_gives : (id : List ℕ) (test : Attr → Bool) (as' : List Attr) → list_any (gives_id id) (filter test as') ≡ true → list_any (gives_id id) as' ≡ true
filter_gives id test [] e = e
filter_gives id test (a ∷ rest) e = by_test (λ f. filter_gives id test rest f) (test a) e where
  by_test : (list_any (gives_id id) (filter test rest) ≡ true → list_any (gives_id id) rest ≡ true) → (b : Bool) → list_any (gives_id id) (if b then a ∷ filter test rest else filter test rest) ≡ true → (gives_id id a || list_any (gives_id id) rest) ≡ true
  by_test further true e = elim (any_either (gives_id id a) (list_any (gives_id id) (filter test rest)) e) [
    | inl here ↦ any_first (gives_id id a) (list_any (gives_id id) rest) here
    | inr later ↦ any_second (gives_id id a) (list_any (gives_id id) rest) (further later)
  ]
  by_test further false e = any_second (gives_id id a) (list_any (gives_id id) rest) (further e)

with_digest_gives : (id digest : List ℕ) (as' : List Attr) → list_any (gives_id id) (with_digest digest as') ≡ true → list_any (gives_id id) as' ≡ true
with_digest_gives id digest [] e = e
with_digest_gives id digest (a ∷ rest) e = by_test (λ f. with_digest_gives id digest rest f) (is_digest a) refl e where
  by_test : (list_any (gives_id id) (with_digest digest rest) ≡ true → list_any (gives_id id) rest ≡ true) → (b : Bool) → is_digest a ≡ b
      → list_any (gives_id id) (if b then digest_attribute digest ∷ filter (λ c. not (is_digest c)) rest else a ∷ with_digest digest rest) ≡ true
      → (gives_id id a || list_any (gives_id id) rest) ≡ true
  by_test further true is e = any_second (gives_id id a) (list_any (gives_id id) rest) (filter_gives id (λ c. not (is_digest c)) rest e)
  by_test further false is e = elim (any_either (gives_id id a) (list_any (gives_id id) (with_digest digest rest)) e) [
    | inl here ↦ any_first (gives_id id a) (list_any (gives_id id) rest) here
    | inr later ↦ any_second (gives_id id a) (list_any (gives_id id) rest) (further later)
  ]

digest_keeps_id : (id digest : List ℕ) (content : NewNode) → has_id id (digest_set digest content) ≡ true → has_id id content ≡ true
digest_keeps_id id digest (Element name attributes) e = with_digest_gives id digest attributes e
digest_keeps_id id digest (Text text) e = e
digest_keeps_id id digest (Comment mark) e = e

pub index_digest : (holders : Option (BTreeMap (String Global) Holder)) (id : ℕ) (digest : List ℕ) (content node : NewNode) (forest after : Forest) → IsIndexOf holders forest
    → content_of id forest ≡ Some content → node ≡ digest_set digest content → after ≡ with_change id (λ content kids later. tree id node kids later) forest → IsIndexOf holders after
index_digest holders id digest content node forest after h at set is =
    let known = known_by holders in
    let here : KnowsNode known id content = knows_at known id forest content (index_knows holders forest h) at in
    let node_known : KnowsNode known id node = λ q has. here q (digest_keeps_id q digest content (ap (has_id q) (sym set) ∙ has)) in
    subst (IsIndexOf holders) (sym is)
    (knows_index holders (with_change id (λ content kids later. tree id node kids later) forest) (knows_content known id node forest node_known (index_knows holders forest h)))
