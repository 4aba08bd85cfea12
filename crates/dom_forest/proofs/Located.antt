-- A node of a document, found at its place.
use Rattle.std.proofs.Common.{◌≡◌, ℕ, zero, suc, ◌+◌, ◌-◌, ◌<◌, ◌≤◌, ◌==◌, eqb, ltb, Bool, true, false, if◌then◌else◌, Option, Some, None, List, [], ◌∷◌, ◌++◌, length, take, drop, refl, sym, ap, ◌∙◌, subst, arith, add-zero}
use Rattle.std.specs.List.{find, prefix_len}
use Rattle.std.proofs.lemmas.Bool.{cond-true, cond-false, eq-eqb, ne_eqb, lt-ltb, le-ltb}
use Rattle.std.proofs.lemmas.List.{take_at, drop_at}
use Rattle.dom_forest.specs.declared.node.NewNode.{NewNode}
use Rattle.dom_forest.specs.declared.entry.Entry.{Entry}
use Rattle.dom_forest.specs.Forest.{Forest, empty, tree, times, count, from, or_id, parent_of, previous_of, next_of, first_id, first_kids, first_later}
use Rattle.dom_forest.specs.Edits.{with_change}
use Rattle.dom_forest.specs.Flat.{flat, forest_of, IsDocument, IsPlace}
use Rattle.dom_forest.proofs.Flattening.{drop-flat, entry_times, entry_times-append, entry_times-flat, counts_one, EndsAbove, EndsAbove-later, prefix_len-flat, prefix_len-above}
use Rattle.dom_forest.specs.Runs.{id_after, parent_step, previous_step, level_id, deeper_id, below_at, closing_in, entry_id}
use Rattle.dom_forest.specs.declared.boundary.Turn.{Turn}
use Rattle.dom_forest.specs.declared.boundary.Turn.TheVariants.{Opens, Closes, Stays}
use Rattle.dom_forest.specs.Boundary.{searched_past, turn_of, closing_mark, end_of_boundary}
use Rattle.dom_forest.specs.Ids.{has_id, element_with}
use Rattle.dom_forest.proofs.Focus.{Focus, focus, or_id-none}

pub times_of : (id : ℕ) (entries : List Entry) (next : ℕ) → IsDocument entries next → entry_times id entries ≡ times id (forest_of entries)
times_of id entries next doc = ap (entry_times id) (sym doc.whole) ∙ entry_times-flat id 0 (forest_of entries) [] ∙ add-zero (times id (forest_of entries))

pub none_there : (id : ℕ) (entries : List Entry) (next : ℕ) → IsDocument entries next → entry_times id entries ≡ 0 → times id (forest_of entries) ≡ 0
none_there id entries next doc h = sym (times_of id entries next doc) ∙ h

entry_times-here : (id : ℕ) (e : Entry) (es : List Entry) → e.id ≡ id → 1 ≤ entry_times id (e ∷ es)
entry_times-here id e es h = omega (arith, counts_one e.id id h)

entry_times-place : (id : ℕ) (entries : List Entry) (at : ℕ) → IsPlace entries at id → 1 ≤ entry_times id entries
entry_times-place id [] at h = absurd h
entry_times-place id (e ∷ es) zero h = entry_times-here id e es h
entry_times-place id (e ∷ es) (suc at) h = omega (arith, entry_times-place id es at h)

-- A node stands at one place.
one_place : (id : ℕ) (front : List Entry) (e : Entry) (rest : List Entry) (at : ℕ) → entry_times id (front ++ e ∷ rest) ≤ 1 → e.id ≡ id → IsPlace (front ++ e ∷ rest) at id → length front ≡ at
one_place id [] e rest zero once same h = refl
one_place id [] e rest (suc at) once same h = absurd (omega (arith, counts_one e.id id same, entry_times-place id rest at h))
one_place id (f ∷ front) e rest zero once same h =
    absurd (omega (arith, counts_one f.id id h, entry_times-append id front (e ∷ rest), entry_times-here id e rest same))
one_place id (f ∷ front) e rest (suc at) once same h = ap suc (one_place id front e rest at (omega arith) same h)

-- A node of a document at its place.
pub record Located (entries : List Entry) (at id : ℕ) : Type 0 where
  pub front : List Entry
  pub depth : ℕ
  pub content : NewNode
  pub kids : Forest
  pub later : Forest
  pub back : List Entry
  pub place : length front ≡ at
  pub found : from id (forest_of entries) ≡ tree id content kids later
  pub whole : entries ≡ front ++ flat depth (tree id content kids later) back
  pub edited : (change : NewNode → Forest → Forest → Forest) → flat 0 (with_change id change (forest_of entries)) [] ≡ front ++ flat depth (change content kids later) back
  pub ends : EndsAbove depth back
  pub deep : depth ≤ at
  pub parent : parent_of id (forest_of entries) ≡ id_after (parent_step depth) None front
  pub previous : previous_of id (forest_of entries) ≡ id_after (previous_step depth) None front

located_at : (entries : List Entry) (at id next : ℕ) → IsDocument entries next → IsPlace entries at id → Focus id 0 (forest_of entries) [] None None → Located entries at id
located_at entries at id next doc here x =
    let whole : entries ≡ x.front ++ flat x.depth (tree id x.content x.kids x.later) x.back = sym doc.whole ∙ x.whole in
    let once : entry_times id entries ≤ 1 = omega (arith, times_of id entries next doc, doc.numbered.once id) in
    let place : length x.front ≡ at = one_place id x.front _ _ at (subst (λ (es : List Entry). entry_times id es ≤ 1) whole once) refl (subst (λ (es : List Entry). IsPlace es at id) whole here) in
    record {
      front = x.front;
      depth = x.depth;
      content = x.content;
      kids = x.kids;
      later = x.later;
      back = x.back;
      place = place;
      found = x.found;
      whole = whole;
      edited = x.edited;
      ends = x.ends;
      deep = omega (arith, x.deep);
      parent = x.parent;
      previous = x.previous;
    }

pub located : (entries : List Entry) (at id next : ℕ) → IsDocument entries next → IsPlace entries at id → Located entries at id
located entries at id next doc here =
    let few : times id (forest_of entries) ≤ 1 = doc.numbered.once id in
    located_at entries at id next doc here
    (focus id 0 (forest_of entries) [] None None (omega (arith, few, times_of id entries next doc, entry_times-place id entries at here)) tt)

-- A node of a document, whose entries are cut at it.
pub record Known (front : List Entry) (entry : Entry) (after : List Entry) (id : ℕ) (forest : Forest) : Type 0 where
  pub kids : Forest
  pub later : Forest
  pub back : List Entry
  pub shape : after ≡ flat (entry.depth + 1) kids (flat entry.depth later back)
  pub found : from id forest ≡ tree id entry.node kids later
  pub edited : (change : NewNode → Forest → Forest → Forest) → flat 0 (with_change id change forest) [] ≡ front ++ flat entry.depth (change entry.node kids later) back
  pub ends : EndsAbove entry.depth back
  pub deep : entry.depth ≤ length front
  pub parent : parent_of id forest ≡ id_after (parent_step entry.depth) None front
  pub previous : previous_of id forest ≡ id_after (previous_step entry.depth) None front

pub place_in : (front : List Entry) (e : Entry) (after : List Entry) (id : ℕ) → e.id ≡ id → IsPlace (front ++ e ∷ after) (length front) id
place_in [] e after id h = h
place_in (f ∷ front) e after id h = place_in front e after id h

abbrev pub head_or : Entry → List Entry → Entry
head_or e [] = e
head_or e (f ∷ fs) = f

abbrev pub tail_of : List Entry → List Entry
tail_of [] = []
tail_of (f ∷ fs) = fs

known_of : (entries front after : List Entry) (e : Entry) (id : ℕ) → entries ≡ front ++ e ∷ after → Located entries (length front) id → Known front e after id (forest_of entries)
known_of entries front after e id cut x =
    let row : Entry = record { depth = x.depth; id = id; node = x.content } in
    let tail = flat (x.depth + 1) x.kids (flat x.depth x.later x.back) in
    let whole : x.front ++ row ∷ tail ≡ front ++ e ∷ after = sym x.whole ∙ cut in
    let same_front : x.front ≡ front = sym (take_at x.front (row ∷ tail) (length front) x.place) ∙ ap (take (length front)) whole ∙ take_at front (e ∷ after) (length front) refl in
    let same_rest : row ∷ tail ≡ e ∷ after = sym (drop_at x.front (row ∷ tail) (length front) x.place) ∙ ap (drop (length front)) whole ∙ drop_at front (e ∷ after) (length front) refl in
    let row_known : Known x.front row tail id (forest_of entries) = record {
      kids = x.kids;
      later = x.later;
      back = x.back;
      shape = refl;
      found = x.found;
      edited = x.edited;
      ends = x.ends;
      deep = omega (arith, x.deep, x.place);
      parent = x.parent;
      previous = x.previous;
    } in
    subst (λ f. Known f e after id (forest_of entries)) same_front
    (subst (λ es. Known x.front e es id (forest_of entries)) (ap tail_of same_rest)
    (subst (λ r. Known x.front r tail id (forest_of entries)) (ap (head_or row) same_rest) row_known))

pub known : (entries front after : List Entry) (e : Entry) (id next : ℕ) → IsDocument entries next → entries ≡ front ++ e ∷ after → e.id ≡ id → Known front e after id (forest_of entries)
known entries front after e id next doc cut same =
    known_of entries front after e id cut
    (located entries (length front) id next doc (subst (λ es. IsPlace es (length front) id) (sym cut) (place_in front e after id same)))

level_id-flat : (depth : ℕ) (later : Forest) (back : List Entry) → EndsAbove depth back → level_id depth (flat depth later back) ≡ first_id later
level_id-flat depth (tree i content kids later) back ends = cond-true (eqb depth depth) _ _ (eq-eqb depth depth refl)
level_id-flat depth empty [] ends = refl
level_id-flat depth empty (e ∷ es) ends = cond-false (eqb e.depth depth) _ _ (ne_eqb e.depth depth (λ same. omega arith))

deeper_id-later : (depth : ℕ) (later : Forest) (back : List Entry) → EndsAbove depth back → deeper_id depth (flat depth later back) ≡ None
deeper_id-later depth (tree i content kids later) back ends = cond-false (ltb depth depth) _ _ (le-ltb depth depth (omega arith))
deeper_id-later depth empty [] ends = refl
deeper_id-later depth empty (e ∷ es) ends = cond-false (ltb depth e.depth) _ _ (le-ltb depth e.depth (omega arith))

deeper_id-flat : (depth : ℕ) (kids later : Forest) (back : List Entry) → EndsAbove depth back → deeper_id depth (flat (depth + 1) kids (flat depth later back)) ≡ first_id kids
deeper_id-flat depth empty later back ends = deeper_id-later depth later back ends
deeper_id-flat depth (tree i content kids next) later back ends = cond-true (ltb depth (depth + 1)) _ _ (lt-ltb depth (depth + 1) (omega arith))

-- The entries past a node's children.
pub past_kids : (depth : ℕ) (kids later : Forest) (back : List Entry) → EndsAbove depth back
    → prefix_len (below_at depth) (flat (depth + 1) kids (flat depth later back)) ≡ count kids
past_kids depth kids later back ends =
    prefix_len-flat depth (depth + 1) kids (flat depth later back) (omega arith)
    ∙ ap (λ n. count kids + n) (prefix_len-above depth (flat depth later back) (EndsAbove-later depth later back ends)) ∙ add-zero (count kids)

pub next_id : (front : List Entry) (e : Entry) (after : List Entry) (id : ℕ) (forest : Forest) → Known front e after id forest
    → level_id e.depth (drop (prefix_len (below_at e.depth) after) after) ≡ next_of id forest
next_id front e after id forest x =
    ap (λ es. level_id e.depth (drop (prefix_len (below_at e.depth) es) es)) x.shape
    ∙ ap (λ n. level_id e.depth (drop n (flat (e.depth + 1) x.kids (flat e.depth x.later x.back)))) (past_kids e.depth x.kids x.later x.back x.ends)
    ∙ ap (level_id e.depth) (drop-flat (e.depth + 1) x.kids (flat e.depth x.later x.back))
    ∙ level_id-flat e.depth x.later x.back x.ends
    ∙ ap (λ f. first_id (first_later f)) (sym x.found)

pub child_id : (front : List Entry) (e : Entry) (after : List Entry) (id : ℕ) (forest : Forest) → Known front e after id forest
    → deeper_id e.depth after ≡ first_id (first_kids (from id forest))
child_id front e after id forest x =
    ap (deeper_id e.depth) x.shape ∙ deeper_id-flat e.depth x.kids x.later x.back x.ends ∙ ap (λ f. first_id (first_kids f)) (sym x.found)

searched_past-same : (turn : Turn) (id : ℕ) (f g : ℕ → Option ℕ) (inner : ℕ) → ((n : ℕ) → f n ≡ g n) → searched_past turn id f inner ≡ searched_past turn id g inner
searched_past-same Opens id f g inner same = same (inner + 1)
searched_past-same Closes id f g inner same = ap (λ (o : Option ℕ). if inner == 0 then Some id else o) (same (inner - 1))
searched_past-same Stays id f g inner same = same inner

-- What stands deeper is passed over.
closing_in-below : (top depth : ℕ) (forest : Forest) (more : List Entry) (inner : ℕ) → top < depth → closing_in top (flat depth forest more) inner ≡ closing_in top more inner
closing_in-below top depth empty more inner h = refl
closing_in-below top depth (tree i content kids later) more inner h =
    cond-false (ltb depth top) _ _ (le-ltb depth top (omega arith)) ∙ cond-false (eqb depth top) _ _ (ne_eqb depth top (omega arith))
    ∙ closing_in-below top (depth + 1) kids (flat depth later more) inner (omega arith) ∙ closing_in-below top depth later more inner h

closing_in-later : (depth : ℕ) (later : Forest) (back : List Entry) (inner : ℕ) → EndsAbove depth back → closing_in depth (flat depth later back) inner ≡ closing_mark later inner
closing_in-later depth empty [] inner ends = refl
closing_in-later depth empty (e ∷ es) inner ends = cond-true (ltb e.depth depth) _ _ (lt-ltb e.depth depth ends)
closing_in-later depth (tree i content kids later) back inner ends =
    cond-false (ltb depth depth) _ _ (le-ltb depth depth (omega arith)) ∙ cond-true (eqb depth depth) _ _ (eq-eqb depth depth refl)
    ∙ searched_past-same (turn_of content) i _ _ inner
    (λ n. closing_in-below depth (depth + 1) kids (flat depth later back) n (omega arith) ∙ closing_in-later depth later back n ends)

pub closing_id : (front : List Entry) (e : Entry) (after : List Entry) (id : ℕ) (forest : Forest) → Known front e after id forest
    → closing_in e.depth after 0 ≡ end_of_boundary id forest
closing_id front e after id forest x =
    ap (λ es. closing_in e.depth es 0) x.shape
    ∙ closing_in-below e.depth (e.depth + 1) x.kids (flat e.depth x.later x.back) 0 (omega arith)
    ∙ closing_in-later e.depth x.later x.back 0 x.ends
    ∙ ap (λ f. closing_mark (first_later f) 0) (sym x.found)

-- The first element with an id comes first in the flat list.
abbrev named : List ℕ → Entry → Bool
named id e = has_id id e.node

or_id_assoc : (a b c : Option ℕ) → or_id (or_id a b) c ≡ or_id a (or_id b c)
or_id_assoc None b c = refl
or_id_assoc (Some a) b c = refl

entry_id-cond : (b : Bool) (e : Entry) (o : Option Entry) → entry_id (if b then Some e else o) ≡ (if b then Some e.id else entry_id o)
entry_id-cond true e o = refl
entry_id-cond false e o = refl

or_id-cond : (b : Bool) (i : ℕ) (a c : Option ℕ) → or_id (if b then Some i else a) c ≡ (if b then Some i else or_id a c)
or_id-cond true i a c = refl
or_id-cond false i a c = refl

pub element_with-flat : (id : List ℕ) (depth : ℕ) (forest : Forest) (more : List Entry)
    → entry_id (find (named id) (flat depth forest more)) ≡ or_id (element_with id forest) (entry_id (find (named id) more))
element_with-flat id depth empty more = refl
element_with-flat id depth (tree i content kids later) more =
    entry_id-cond (has_id id content) _ (find (named id) (flat (depth + 1) kids (flat depth later more)))
    ∙ ap (λ (o : Option ℕ). if has_id id content then Some i else o)
    (element_with-flat id (depth + 1) kids (flat depth later more) ∙ ap (or_id (element_with id kids)) (element_with-flat id depth later more)
    ∙ sym (or_id_assoc (element_with id kids) (element_with id later) (entry_id (find (named id) more))))
    ∙ sym (or_id-cond (has_id id content) i (or_id (element_with id kids) (element_with id later)) (entry_id (find (named id) more)))

pub element_with-entries : (id : List ℕ) (entries : List Entry) (next : ℕ) → IsDocument entries next
    → entry_id (find (λ (e : Entry). has_id id e.node) entries) ≡ element_with id (forest_of entries)
element_with-entries id entries next doc =
    ap (λ es. entry_id (find (named id) es)) (sym doc.whole) ∙ element_with-flat id 0 (forest_of entries) [] ∙ or_id-none (element_with id (forest_of entries))
