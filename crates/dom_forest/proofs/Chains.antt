-- Chains of slots.
use Rattle.std.proofs.Common.{◌≡◌, ◌≢◌, ℕ, zero, suc, ◌+◌, ◌-◌, map, add-zero, ◌<◌, ◌≤◌, ◌==◌, eqb, nat_lt, if◌then◌else◌, true, false, inl, inr, Option, Some, None, List, [], ◌∷◌, ◌++◌, length, set, get_or, slice_get, refl, sym, ap, ◌∙◌, subst, arith}
use Rattle.std.proofs.lemmas.Bool.{cases_eq, cases_lt, cond-true, cond-false, eq-eqb, ne_eqb, lt-ltb, le-ltb}
use Rattle.std.proofs.lemmas.List.{append_assoc, length-append, length-map}
use Rattle.dom_forest.specs.declared.node.NewNode.{NewNode}
use Rattle.dom_forest.specs.declared.entry.Entry.{Entry}
use Rattle.dom_forest.specs.declared.chain.Slot.{Slot}
use Rattle.dom_forest.specs.declared.chain.Chain.{Chain}
use Rattle.dom_forest.specs.Chain.{IsChain, IsChainOf, IsSlotOf, Run, end_set, entry_in, entry_times, head_id, last_id, first_entries, first_entries_at, slot_above, slot_with, with_next, previous_at, previous_in, with_previous, rest_from, slot_at, slot_for, to_next, to_node, to_previous, up_to}
use Rattle.dom_forest.specs.Flat.{shifted_entry}
use Rattle.dom_forest.proofs.Flattening.{entry_times-append, counts_one, counts_none}

abbrev Slots : Type 0
Slots = ℕ → Option Slot

abbrev pub flattened : Option (Option Slot) → Option Slot
flattened None = None
flattened (Some s) = s

pub slot_at-get : (ss : List (Option Slot)) (id : ℕ) → slot_at ss id ≡ flattened (slice_get ss id)
slot_at-get [] id = refl
slot_at-get (s ∷ ss) zero = refl
slot_at-get (s ∷ ss) (suc id) = slot_at-get ss id

pub slot_at-past : (ss : List (Option Slot)) (id : ℕ) → length ss ≤ id → slot_at ss id ≡ None
slot_at-past [] id h = refl
slot_at-past (s ∷ ss) zero h = absurd (omega arith)
slot_at-past (s ∷ ss) (suc id) h = slot_at-past ss id (omega arith)

pub slot_at-read : (ss : List (Option Slot)) (id : ℕ) (x : Option Slot) → id < length ss → x ≡ get_or ss id x → slot_at ss id ≡ x
slot_at-read [] id x h is = absurd (omega arith)
slot_at-read (s ∷ ss) zero x h is = sym is
slot_at-read (s ∷ ss) (suc id) x h is = slot_at-read ss id x (omega arith) is

slot_at-set_same : (ss : List (Option Slot)) (id : ℕ) (x : Option Slot) → id < length ss → slot_at (set ss id x) id ≡ x
slot_at-set_same [] id x h = absurd (omega arith)
slot_at-set_same (s ∷ ss) zero x h = refl
slot_at-set_same (s ∷ ss) (suc id) x h = slot_at-set_same ss id x (omega arith)

slot_at-set_other : (ss : List (Option Slot)) (id : ℕ) (x : Option Slot) (i : ℕ) → i ≢ id → slot_at (set ss id x) i ≡ slot_at ss i
slot_at-set_other [] id x i other = refl
slot_at-set_other (s ∷ ss) zero x zero other = absurd (other refl)
slot_at-set_other (s ∷ ss) zero x (suc i) other = refl
slot_at-set_other (s ∷ ss) (suc id) x zero other = refl
slot_at-set_other (s ∷ ss) (suc id) x (suc i) other = slot_at-set_other ss id x i (λ same. other (ap suc same))

slot_at-push_same : (ss : List (Option Slot)) (x : Option Slot) → slot_at (ss ++ x ∷ []) (length ss) ≡ x
slot_at-push_same [] x = refl
slot_at-push_same (s ∷ ss) x = slot_at-push_same ss x

slot_at-push_other : (ss : List (Option Slot)) (x : Option Slot) (i : ℕ) → i ≢ length ss → slot_at (ss ++ x ∷ []) i ≡ slot_at ss i
slot_at-push_other [] x zero other = absurd (other refl)
slot_at-push_other [] x (suc i) other = refl
slot_at-push_other (s ∷ ss) x zero other = refl
slot_at-push_other (s ∷ ss) x (suc i) other = slot_at-push_other ss x i (λ same. other (ap suc same))

pub slot_at-set : (ss : List (Option Slot)) (id : ℕ) (x : Option Slot) → id < length ss → (i : ℕ) → slot_at (set ss id x) i ≡ (if i == id then x else slot_at ss i)
slot_at-set ss id x h i = elim (cases_eq i id) [
  | inl same ↦ ap (slot_at (set ss id x)) same ∙ slot_at-set_same ss id x h ∙ sym (cond-true (eqb i id) _ _ (eq-eqb i id same))
  | inr other ↦ slot_at-set_other ss id x i other ∙ sym (cond-false (eqb i id) _ _ (ne_eqb i id other))
]

pub slot_at-push : (ss : List (Option Slot)) (x : Option Slot) (i : ℕ) → slot_at (ss ++ x ∷ []) i ≡ (if i == length ss then x else slot_at ss i)
slot_at-push ss x i = elim (cases_eq i (length ss)) [
  | inl same ↦ ap (slot_at (ss ++ x ∷ [])) same ∙ slot_at-push_same ss x ∙ sym (cond-true (eqb i (length ss)) _ _ (eq-eqb i (length ss) same))
  | inr other ↦ slot_at-push_other ss x i other ∙ sym (cond-false (eqb i (length ss)) _ _ (ne_eqb i (length ss) other))
]

pub within_lt : (n m : ℕ) → true ≡ nat_lt n m → n < m
within_lt n m h = elim (cases_lt n m) [ inl less ↦ less | inr le ↦ absurd (let e : true ≡ false = h ∙ le-ltb n m le in cc) ]

pub past_lt : (n m : ℕ) → false ≡ nat_lt n m → m ≤ n
past_lt n m h = elim (cases_lt n m) [ inl less ↦ absurd (let e : false ≡ true = h ∙ lt-ltb n m less in cc) | inr le ↦ le ]

pub past_from : (n m : ℕ) → (n < m → false ≡ true) → m ≤ n
past_from n m h = elim (cases_lt n m) [ inl less ↦ absurd (let e : false ≡ true = h less in cc) | inr le ↦ le ]

-- One slot is changed.
pub changed_slot : (ss : List (Option Slot)) (id : ℕ) (x y : Option Slot) (f : Option Slot → Option Slot) → id < length ss → x ≡ get_or ss id x → y ≡ f x
    → (i : ℕ) → slot_at (set ss id y) i ≡ (if i == id then f (slot_at ss i) else slot_at ss i)
changed_slot ss id x y f h is to i = elim (cases_eq i id) [
  | inl same ↦
      slot_at-set ss id y h i ∙ cond-true (eqb i id) _ _ (eq-eqb i id same)
      ∙ to ∙ ap f (sym (slot_at-read ss id x h is)) ∙ ap (λ n. f (slot_at ss n)) (sym same)
      ∙ sym (cond-true (eqb i id) (f (slot_at ss i)) (slot_at ss i) (eq-eqb i id same))
  | inr other ↦
      slot_at-set ss id y h i ∙ cond-false (eqb i id) _ _ (ne_eqb i id other)
      ∙ sym (cond-false (eqb i id) (f (slot_at ss i)) (slot_at ss i) (ne_eqb i id other))
]

-- No slot is there to be changed.
pub changed_none : (ss : List (Option Slot)) (id : ℕ) (f : Option Slot → Option Slot) → f None ≡ None → length ss ≤ id → (i : ℕ) → slot_at ss i ≡ (if i == id then f (slot_at ss i) else slot_at ss i)
changed_none ss id f none h i = elim (cases_eq i id) [
  | inl same ↦
      let past : slot_at ss i ≡ None = slot_at-past ss i (omega arith) in
      past ∙ sym none ∙ ap f (sym past) ∙ sym (cond-true (eqb i id) (f (slot_at ss i)) (slot_at ss i) (eq-eqb i id same))
  | inr other ↦ sym (cond-false (eqb i id) (f (slot_at ss i)) (slot_at ss i) (ne_eqb i id other))
]

-- Entries of which none has the id.
not_first : (id : ℕ) (e : Entry) (es : List Entry) → entry_times id (e ∷ es) ≡ 0 → e.id ≢ id
not_first id e es h same = omega (arith, counts_one e.id id same)

not_later : (id : ℕ) (e : Entry) (es : List Entry) → entry_times id (e ∷ es) ≡ 0 → entry_times id es ≡ 0
not_later id e es h = omega arith

here_once : (e : Entry) (es : List Entry) → entry_times e.id (e ∷ es) ≤ 1 → entry_times e.id es ≡ 0
here_once e es h = omega (arith, counts_one e.id e.id refl)

pub later_once : (e : Entry) (es : List Entry) → ((i : ℕ) → entry_times i (e ∷ es) ≤ 1) → (i : ℕ) → entry_times i es ≤ 1
later_once e es h i = omega (arith, h i)

-- Runs depend on the slots of their entries alone.
pub run-same : (f g : Slots) (before : Option ℕ) (es : List Entry) (stop : Option ℕ) → ((i : ℕ) → 1 ≤ entry_times i es → g i ≡ f i) → Run f before es stop → Run g before es stop
run-same f g before [] stop same r = tt
run-same f g before (e ∷ es) stop same r =
    (same e.id (omega (arith, counts_one e.id e.id refl)) ∙ r.0, run-same f g (Some e.id) es stop (λ i h. same i (omega (arith, h))) r.1)

pub head-append : (es fs : List Entry) (stop : Option ℕ) → head_id (es ++ fs) stop ≡ head_id es (head_id fs stop)
head-append [] fs stop = refl
head-append (e ∷ es) fs stop = refl

pub last-append : (before : Option ℕ) (es fs : List Entry) → last_id before (es ++ fs) ≡ last_id (last_id before es) fs
last-append before [] fs = refl
last-append before (e ∷ es) fs = last-append (Some e.id) es fs

pub run-split : (f : Slots) (before : Option ℕ) (es fs : List Entry) (stop : Option ℕ) → Run f before (es ++ fs) stop
    → Run f before es (head_id fs stop) × Run f (last_id before es) fs stop
run-split f before [] fs stop r = (tt, r)
run-split f before (e ∷ es) fs stop r =
    let both = run-split f (Some e.id) es fs stop r.1 in
    ((r.0 ∙ ap (λ n. Some (slot_for e before n)) (head-append es fs stop), both.0), both.1)

pub run-join : (f : Slots) (before : Option ℕ) (es fs : List Entry) (stop : Option ℕ) → Run f before es (head_id fs stop) → Run f (last_id before es) fs stop
    → Run f before (es ++ fs) stop
run-join f before [] fs stop r s = s
run-join f before (e ∷ es) fs stop r s =
    (r.0 ∙ ap (λ n. Some (slot_for e before n)) (sym (head-append es fs stop)), run-join f (Some e.id) es fs stop r.1 s)

apart : (o : Option Slot) (s : Slot) → o ≡ Some s → o ≡ None → ⊥
apart o s h k = cc

-- What has no slot is not in a run.
pub run-there : (f : Slots) (before : Option ℕ) (es : List Entry) (stop : Option ℕ) (id : ℕ) → f id ≡ None → Run f before es stop → entry_times id es ≡ 0
run-there f before [] stop id none r = refl
run-there f before (e ∷ es) stop id none r =
    let other : e.id ≢ id = λ same. apart (f e.id) _ r.0 (ap f same ∙ none) in
    omega (arith, counts_none e.id id other, run-there f (Some e.id) es stop id none r.1)

-- A link to another id leaves a slot.
last-other : (f : Slots) (next : Option ℕ) (before : Option ℕ) (e : Entry) (es : List Entry) (i : ℕ) → entry_times i (e ∷ es) ≡ 0
    → with_next (last_id before (e ∷ es)) next f i ≡ f i
last-other f next before e [] i h = cond-false (eqb i e.id) _ _ (ne_eqb i e.id (λ same. not_first i e [] h (sym same)))
last-other f next before e (x ∷ es) i h = last-other f next (Some e.id) x es i (not_later i e (x ∷ es) h)

pub last_other : (f : Slots) (next : Option ℕ) (es : List Entry) (i : ℕ) → entry_times i es ≡ 0 → with_next (last_id None es) next f i ≡ f i
last_other f next [] i h = refl
last_other f next (e ∷ es) i h = last-other f next None e es i h

pub head_other : (f : Slots) (previous : Option ℕ) (es : List Entry) (i : ℕ) → entry_times i es ≡ 0 → with_previous (head_id es None) previous f i ≡ f i
head_other f previous [] i h = refl
head_other f previous (e ∷ es) i h = cond-false (eqb i e.id) _ _ (ne_eqb i e.id (λ same. not_first i e es h (sym same)))

-- The last entry of a run gets another next one.
run-stop : (f : Slots) (before : Option ℕ) (e : Entry) (es : List Entry) (stop next : Option ℕ) → ((i : ℕ) → entry_times i (e ∷ es) ≤ 1) → Run f before (e ∷ es) stop
    → Run (with_next (last_id before (e ∷ es)) next f) before (e ∷ es) next
run-stop f before e [] stop next once r =
    (cond-true (eqb e.id e.id) _ _ (eq-eqb e.id e.id refl) ∙ ap (slot_with (to_next next)) r.0, tt)
run-stop f before e (x ∷ es) stop next once r = (
  last-other f next (Some e.id) x es e.id (here_once e (x ∷ es) (once e.id)) ∙ r.0,
  run-stop f (Some e.id) x es stop next (later_once e (x ∷ es) once) r.1,
)

pub run_stop : (f : Slots) (es : List Entry) (stop next : Option ℕ) → ((i : ℕ) → entry_times i es ≤ 1) → Run f None es stop → Run (with_next (last_id None es) next f) None es next
run_stop f [] stop next once r = tt
run_stop f (e ∷ es) stop next once r = run-stop f None e es stop next once r

-- The first entry of a run gets another previous one.
pub run_start : (f : Slots) (before previous : Option ℕ) (es : List Entry) → ((i : ℕ) → entry_times i es ≤ 1) → Run f before es None → Run (with_previous (head_id es None) previous f) previous es None
run_start f before previous [] once r = tt
run_start f before previous (e ∷ es) once r = (
  cond-true (eqb e.id e.id) _ _ (eq-eqb e.id e.id refl) ∙ ap (slot_with (to_previous previous)) r.0,
  run-same f _ (Some e.id) es None
      (λ i h. cond-false (eqb i e.id) _ _ (ne_eqb i e.id (λ same. omega (arith, h, here_once e es (once e.id), ap (λ n. entry_times n es) same)))) r.1,
)

-- Two runs of different entries, whose ends are linked to others.
pub record Linked (f g : Slots) (before after : List Entry) (next previous : Option ℕ) : Type 0 where
  pub front : Run g None before next
  pub back : Run g previous after None
  pub same : (i : ℕ) → entry_times i (before ++ after) ≡ 0 → g i ≡ f i

pub linked : (f g : Slots) (before after : List Entry) (stop start next previous : Option ℕ) → ((i : ℕ) → entry_times i (before ++ after) ≤ 1)
    → Run f None before stop → Run f start after None
    → ((i : ℕ) → g i ≡ with_previous (head_id after None) previous (with_next (last_id None before) next f) i) → Linked f g before after next previous
linked f g before after stop start next previous once front back is =
    let mid : Slots = with_next (last_id None before) next f in
    let parts : (i : ℕ) → entry_times i (before ++ after) ≡ entry_times i before + entry_times i after = λ i. entry_times-append i before after in
    record {
      front = run-same mid g None before next
          (λ i h. is i ∙ head_other mid previous after i (omega (arith, h, once i, parts i)))
          (run_stop f before stop next (λ i. omega (arith, once i, parts i)) front);
      back = run-same (with_previous (head_id after None) previous mid) g previous after None (λ i h. is i)
          (run_start mid start previous after (λ i. omega (arith, once i, parts i))
          (run-same f mid start after None (λ i h. last_other f next before i (omega (arith, h, once i, parts i))) back));
      same = λ i h. is i ∙ head_other mid previous after i (omega (arith, h, parts i)) ∙ last_other f next before i (omega (arith, h, parts i));
    }

-- How often an id stands around an entry.
times_with : (before after : List Entry) (e : Entry) (i : ℕ) → entry_times i (before ++ e ∷ after) ≡ (if e.id == i then 1 else 0) + entry_times i (before ++ after)
times_with before after e i = omega (arith, entry_times-append i before (e ∷ after), entry_times-append i before after)

first_set : (before : List Entry) (stop next : Option ℕ) → end_set (last_id None before) next (head_id before stop) ≡ head_id before next
first_set [] stop next = refl
first_set (e ∷ es) stop next = set_some e es where
  set_some : (e : Entry) (es : List Entry) → end_set (last_id (Some e.id) es) next (Some e.id) ≡ Some e.id
  set_some e es = pick (Some e.id) es where
    pick : (o : Option ℕ) (es : List Entry) → end_set (last_id (Some e.id) es) next o ≡ o
    pick o es = last_some e.id es where
      last_some : (i : ℕ) (es : List Entry) → end_set (last_id (Some i) es) next o ≡ o
      last_some i [] = refl
      last_some i (x ∷ es) = last_some x.id es

last_set : (after : List Entry) (start previous : Option ℕ) → end_set (head_id after None) previous (last_id start after) ≡ last_id previous after
last_set [] start previous = refl
last_set (e ∷ es) start previous = refl

-- A new entry comes in.
pub put_chain : (ss tt' : List (Option Slot)) (first last first' last' : Option ℕ) (before after : List Entry) (e : Entry)
    → IsChain ss first last (before ++ after) → e.id ≡ length ss → length tt' ≡ length ss + 1
    → ((i : ℕ) → slot_at tt' i ≡ with_previous (head_id after None) (Some e.id) (with_next (last_id None before) (Some e.id)
    (λ j. if j == length ss then Some (slot_for e (last_id None before) (head_id after None)) else slot_at ss j)) i)
    → first' ≡ end_set (last_id None before) (Some e.id) first → last' ≡ end_set (head_id after None) (Some e.id) last
    → IsChain tt' first' last' (before ++ e ∷ after)
put_chain ss tt' first last first' last' before after e chain new longer slots head end =
    let old : Slots = slot_at ss in
    let mid : Slots = λ j. if j == length ss then Some (slot_for e (last_id None before) (head_id after None)) else old j in
    let none : entry_times e.id (before ++ after) ≡ 0 = run-there old None (before ++ after) None e.id (slot_at-past ss e.id (omega (arith, new))) chain.run in
    let mid_old : (i : ℕ) → i ≢ e.id → mid i ≡ old i = λ i other. cond-false (eqb i (length ss)) _ _ (ne_eqb i (length ss) (λ same. other (same ∙ sym new))) in
    let runs = run-split old None before after None chain.run in
    let x = linked mid (slot_at tt') before after (head_id after None) (last_id None before) (Some e.id) (Some e.id) chain.once
    (run-same old mid None before (head_id after None) (λ i h. mid_old i (λ same. omega (arith, h, none, entry_times-append i before after, ap (λ n. entry_times n (before ++ after)) same))) runs.0)
    (run-same old mid (last_id None before) after None (λ i h. mid_old i (λ same. omega (arith, h, none, entry_times-append i before after, ap (λ n. entry_times n (before ++ after)) same))) runs.1)
    slots in
    record {
      run = run-join (slot_at tt') None before (e ∷ after) None x.front (x.same e.id none ∙ cond-true (eqb e.id (length ss)) _ _ (eq-eqb e.id (length ss) new), x.back);
      head = head ∙ ap (end_set (last_id None before) (Some e.id)) (chain.head ∙ head-append before after None) ∙ first_set before (head_id after None) (Some e.id)
          ∙ sym (head-append before (e ∷ after) None);
      end = end ∙ ap (end_set (head_id after None) (Some e.id)) (chain.end ∙ last-append None before after) ∙ last_set after (last_id None before) (Some e.id)
          ∙ sym (last-append None before (e ∷ after));
      once = λ i. elim (cases_eq e.id i) [
        | inl same ↦ omega (arith, times_with before after e i, counts_one e.id i same, none, ap (λ n. entry_times n (before ++ after)) same)
        | inr other ↦ omega (arith, times_with before after e i, counts_none e.id i other, chain.once i)
      ];
      gone = λ i h.
          let other : e.id ≢ i = λ same. omega (arith, h, times_with before after e i, counts_one e.id i same) in
          let out : entry_times i (before ++ after) ≡ 0 = omega (arith, h, times_with before after e i) in
          x.same i out ∙ mid_old i (λ same. other (sym same)) ∙ chain.gone i out;
      within = omega (arith, chain.within, longer, length-append before after, length-append before (e ∷ after));
    }

-- An entry goes out.
pub take_slot_is : (ss : List (Option Slot)) (first last : Option ℕ) (before after : List Entry) (e : Entry) → IsChain ss first last (before ++ e ∷ after)
    → slot_at ss e.id ≡ Some (slot_for e (last_id None before) (head_id after None))
take_slot_is ss first last before after e chain = (run-split (slot_at ss) None before (e ∷ after) None chain.run).1.0

pub take_chain : (ss tt' : List (Option Slot)) (first last first' last' : Option ℕ) (before after : List Entry) (e : Entry)
    → IsChain ss first last (before ++ e ∷ after) → length tt' ≡ length ss
    → ((i : ℕ) → slot_at tt' i ≡ with_previous (head_id after None) (last_id None before) (with_next (last_id None before) (head_id after None)
    (λ j. if j == e.id then None else slot_at ss j)) i)
    → first' ≡ end_set (last_id None before) (head_id after None) first → last' ≡ end_set (head_id after None) (last_id None before) last
    → IsChain tt' first' last' (before ++ after)
take_chain ss tt' first last first' last' before after e chain longer slots head end =
    let old : Slots = slot_at ss in
    let mid : Slots = λ j. if j == e.id then None else old j in
    let none : entry_times e.id (before ++ after) ≡ 0 = omega (arith, chain.once e.id, times_with before after e e.id, counts_one e.id e.id refl) in
    let mid_old : (i : ℕ) → i ≢ e.id → mid i ≡ old i = λ i other. cond-false (eqb i e.id) _ _ (ne_eqb i e.id other) in
    let once : (i : ℕ) → entry_times i (before ++ after) ≤ 1 = λ i. omega (arith, chain.once i, times_with before after e i) in
    let runs = run-split old None before (e ∷ after) None chain.run in
    let x = linked mid (slot_at tt') before after (Some e.id) (Some e.id) (head_id after None) (last_id None before) once
    (run-same old mid None before (Some e.id) (λ i h. mid_old i (λ same. omega (arith, h, none, entry_times-append i before after, ap (λ n. entry_times n (before ++ after)) same))) runs.0)
    (run-same old mid (Some e.id) after None (λ i h. mid_old i (λ same. omega (arith, h, none, entry_times-append i before after, ap (λ n. entry_times n (before ++ after)) same))) runs.1.1)
    slots in
    record {
      run = run-join (slot_at tt') None before after None x.front x.back;
      head = head ∙ ap (end_set (last_id None before) (head_id after None)) (chain.head ∙ head-append before (e ∷ after) None) ∙ first_set before (Some e.id) (head_id after None)
          ∙ sym (head-append before after None);
      end = end ∙ ap (end_set (head_id after None) (last_id None before)) (chain.end ∙ last-append None before (e ∷ after)) ∙ last_set after (Some e.id) (last_id None before)
          ∙ sym (last-append None before after);
      once = once;
      gone = λ i h. elim (cases_eq i e.id) [
        | inl same ↦ x.same i h ∙ cond-true (eqb i e.id) _ _ (eq-eqb i e.id same)
        | inr other ↦ x.same i h ∙ mid_old i other ∙ chain.gone i (omega (arith, h, times_with before after e i, counts_none e.id i (λ same. other (sym same))))
      ];
      within = omega (arith, chain.within, longer, length-append before after, length-append before (e ∷ after));
    }

-- The entries of a chain are those that its links meet.
first_entries-run : (f : List (Option Slot)) (n : ℕ) (before : Option ℕ) (es : List Entry) → length es ≤ n → Run (slot_at f) before es None → first_entries f n (head_id es None) ≡ es
first_entries-run f zero before [] h r = refl
first_entries-run f (suc n) before [] h r = refl
first_entries-run f zero before (e ∷ es) h r = absurd (omega arith)
first_entries-run f (suc n) before (e ∷ es) h r =
    ap (first_entries_at e.id (first_entries f n)) r.0 ∙ ap (λ xs. e ∷ xs) (first_entries-run f n (Some e.id) es (omega arith) r.1)

pub entries_are : (ss : List (Option Slot)) (first last : Option ℕ) (entries : List Entry) → IsChain ss first last entries → first_entries ss (length ss) first ≡ entries
entries_are ss first last entries chain = ap (first_entries ss (length ss)) chain.head ∙ first_entries-run ss (length ss) None entries chain.within chain.run

with_previous-same : (id previous : Option ℕ) (f g : Slots) → ((i : ℕ) → f i ≡ g i) → (i : ℕ) → with_previous id previous f i ≡ with_previous id previous g i
with_previous-same None previous f g same i = same i
with_previous-same (Some id) previous f g same i = ap (λ o. if i == id then slot_with (to_previous previous) o else o) (same i)

with_next-same : (id next : Option ℕ) (f g : Slots) → ((i : ℕ) → f i ≡ g i) → (i : ℕ) → with_next id next f i ≡ with_next id next g i
with_next-same None next f g same i = same i
with_next-same (Some id) next f g same i = ap (λ o. if i == id then slot_with (to_next next) o else o) (same i)

pub previous_is : (chain : Chain) (before after : List Entry) → IsChainOf chain (before ++ after)
    → previous_at chain (head_id after None) ≡ last_id None before
previous_is chain before [] is = is.end ∙ last-append None before []
previous_is chain before (e ∷ after) is = ap previous_in (take_slot_is chain.slots.items chain.first chain.last before after e is)

-- The steps that put an entry in.
pub put_whole : (ss pushed nexts done : List (Option Slot)) (first last first' last' : Option ℕ) (before after : List Entry) (depth id : ℕ) (node : NewNode) (next previous : Option ℕ)
    → IsChain ss first last (before ++ after) → next ≡ head_id after None → previous ≡ last_id None before → id ≡ length ss
    → pushed ≡ ss ++ Some (record { depth = depth; node = node; previous = previous; next = next }) ∷ []
    → ((i : ℕ) → slot_at nexts i ≡ with_next previous (Some id) (slot_at pushed) i)
    → ((i : ℕ) → slot_at done i ≡ with_previous next (Some id) (slot_at nexts) i)
    → length done ≡ length ss + 1
    → first' ≡ end_set previous (Some id) first → last' ≡ end_set next (Some id) last
    → IsChain done first' last' (before ++ record { depth = depth; id = length ss; node = node } ∷ after)
put_whole ss pushed nexts done first last first' last' before after depth id node next previous chain next_is previous_is id_is push one two longer head end =
    let e : Entry = record { depth = depth; id = length ss; node = node } in
    let new : Option ℕ → Option ℕ → Option Slot = λ p n. Some (record { depth = depth; node = node; previous = p; next = n }) in
    let mid : Option ℕ → Option ℕ → Slots = λ p n j. if j == length ss then new p n else slot_at ss j in
    put_chain ss done first last first' last' before after e chain refl longer
    (λ i. two i
    ∙ with_previous-same next (Some id) (slot_at nexts) (with_next previous (Some id) (mid previous next))
    (λ j. one j ∙ with_next-same previous (Some id) (slot_at pushed) (mid previous next) (λ k. ap (λ l. slot_at l k) push ∙ slot_at-push ss (new previous next) k) j) i
    ∙ ap (λ n. with_previous n (Some id) (with_next previous (Some id) (mid previous n)) i) next_is
    ∙ ap (λ p. with_previous (head_id after None) (Some id) (with_next p (Some id) (mid p (head_id after None))) i) previous_is
    ∙ ap (λ n. with_previous (head_id after None) (Some n) (with_next (last_id None before) (Some n) (mid (last_id None before) (head_id after None))) i) id_is)
    (head ∙ ap (λ p. end_set p (Some id) first) previous_is ∙ ap (λ n. end_set (last_id None before) (Some n) first) id_is)
    (end ∙ ap (λ p. end_set p (Some id) last) next_is ∙ ap (λ n. end_set (head_id after None) (Some n) last) id_is)

-- The steps that take an entry out.
pub taken_is : (ss : List (Option Slot)) (first last : Option ℕ) (before after : List Entry) (e : Entry) (id : ℕ) → IsChain ss first last (before ++ e ∷ after) → e.id ≡ id
    → slot_at ss id ≡ Some (slot_for e (last_id None before) (head_id after None))
taken_is ss first last before after e id chain same = ap (slot_at ss) (sym same) ∙ take_slot_is ss first last before after e chain

pub taken_some : (ss : List (Option Slot)) (first last : Option ℕ) (before after : List Entry) (e : Entry) (id : ℕ) → IsChain ss first last (before ++ e ∷ after) → e.id ≡ id
    → slot_at ss id ≡ None → ⊥
taken_some ss first last before after e id chain same none = apart (slot_at ss id) _ (taken_is ss first last before after e id chain same) none

same_slot : (s t : Slot) → ◌≡◌ {A = Option Slot} (Some s) (Some t) → s ≡ t
same_slot s t h = ap (slot_or s) h where
  slot_or : Slot → Option Slot → Slot
  slot_or s None = s
  slot_or s (Some t) = t

pub take_whole : (ss without nexts done : List (Option Slot)) (first last first' last' : Option ℕ) (before after : List Entry) (e : Entry) (id : ℕ) (slot : Slot)
    → IsChain ss first last (before ++ e ∷ after) → e.id ≡ id → Some slot ≡ slot_at ss id
    → ((i : ℕ) → slot_at without i ≡ (if i == id then None else slot_at ss i))
    → ((i : ℕ) → slot_at nexts i ≡ with_next slot.previous slot.next (slot_at without) i)
    → ((i : ℕ) → slot_at done i ≡ with_previous slot.next slot.previous (slot_at nexts) i)
    → length done ≡ length ss
    → first' ≡ end_set slot.previous slot.next first → last' ≡ end_set slot.next slot.previous last
    → IsChain done first' last' (before ++ after)
take_whole ss without nexts done first last first' last' before after e id slot chain same is gone one two longer head end =
    let p = last_id None before in
    let n = head_id after None in
    let slot_is : slot ≡ slot_for e p n = same_slot slot (slot_for e p n) (is ∙ taken_is ss first last before after e id chain same) in
    let mid : ℕ → Slots = λ k j. if j == k then None else slot_at ss j in
    take_chain ss done first last first' last' before after e chain longer
    (λ i. two i
    ∙ with_previous-same slot.next slot.previous (slot_at nexts) (with_next slot.previous slot.next (mid id))
    (λ j. one j ∙ with_next-same slot.previous slot.next (slot_at without) (mid id) gone j) i
    ∙ ap (λ (s : Slot). with_previous s.next s.previous (with_next s.previous s.next (mid id)) i) slot_is
    ∙ ap (λ k. with_previous n p (with_next p n (mid k)) i) (sym same))
    (head ∙ ap (λ (s : Slot). end_set s.previous s.next first) slot_is)
    (end ∙ ap (λ (s : Slot). end_set s.next s.previous last) slot_is)

-- An entry with what stands around it.
pub record Split (entries : List Entry) (id : ℕ) : Type 0 where
  pub front : List Entry
  pub entry : Entry
  pub back : List Entry
  pub whole : entries ≡ front ++ entry ∷ back
  pub same : entry.id ≡ id

pub split_id : (id : ℕ) (entries : List Entry) → 1 ≤ entry_times id entries → Split entries id
split_id id [] h = absurd (omega arith)
split_id id (e ∷ es) h = elim (cases_eq e.id id) [
  | inl same ↦ record { front = []; entry = e; back = es; whole = refl; same = same }
  | inr other ↦ further e es (split_id id es (omega (arith, h, counts_none e.id id other)))
] where
  further : (e : Entry) (es : List Entry) → Split es id → Split (e ∷ es) id
  further e es x = record { front = e ∷ x.front; entry = x.entry; back = x.back; whole = ap (λ l. e ∷ l) x.whole; same = x.same }

pub rest_at : (id : ℕ) (front : List Entry) (e : Entry) (back : List Entry) → e.id ≡ id → entry_times id front ≡ 0 → rest_from (Some id) (front ++ e ∷ back) ≡ e ∷ back
rest_at id [] e back same h = cond-true (eqb e.id id) _ _ (eq-eqb e.id id same)
rest_at id (x ∷ front) e back same h =
    cond-false (eqb x.id id) _ _ (ne_eqb x.id id (not_first id x front h)) ∙ rest_at id front e back same (not_later id x front h)

pub rest_gone : (id : ℕ) (entries : List Entry) → entry_times id entries ≡ 0 → rest_from (Some id) entries ≡ []
rest_gone id [] h = refl
rest_gone id (e ∷ es) h = cond-false (eqb e.id id) _ _ (ne_eqb e.id id (not_first id e es h)) ∙ rest_gone id es (not_later id e es h)

-- The entries from an id on that follow others.
pub rest_head : (front back : List Entry) → ((i : ℕ) → entry_times i (front ++ back) ≤ 1) → rest_from (head_id back None) (front ++ back) ≡ back
rest_head front [] once = refl
rest_head front (e ∷ es) once =
    rest_at e.id front e es refl (omega (arith, once e.id, entry_times-append e.id front (e ∷ es), counts_one e.id e.id refl))

up_at : (id : ℕ) (front : List Entry) (e : Entry) (back : List Entry) → e.id ≡ id → entry_times id front ≡ 0 → up_to (Some id) (front ++ e ∷ back) ≡ front ++ e ∷ []
up_at id [] e back same h = cond-true (eqb e.id id) _ _ (eq-eqb e.id id same)
up_at id (x ∷ front) e back same h =
    cond-false (eqb x.id id) _ _ (ne_eqb x.id id (not_first id x front h)) ∙ ap (λ l. x ∷ l) (up_at id front e back same (not_later id x front h))

up_skip : (before : Option ℕ) (y : Entry) (ys : List Entry) (x : Entry) (rest : List Entry) → entry_times x.id (y ∷ ys) ≡ 0
    → up_to (last_id before (y ∷ ys)) (x ∷ rest) ≡ x ∷ up_to (last_id before (y ∷ ys)) rest
up_skip before y [] x rest h = cond-false (eqb x.id y.id) _ _ (ne_eqb x.id y.id (λ same. not_first x.id y [] h (sym same)))
up_skip before y (z ∷ zs) x rest h = up_skip (Some y.id) z zs x rest (not_later x.id y (z ∷ zs) h)

up-last : (before : Option ℕ) (x : Entry) (xs back : List Entry) → ((i : ℕ) → entry_times i (x ∷ (xs ++ back)) ≤ 1) → up_to (last_id before (x ∷ xs)) (x ∷ (xs ++ back)) ≡ x ∷ xs
up-last before x [] back once = cond-true (eqb x.id x.id) _ _ (eq-eqb x.id x.id refl)
up-last before x (y ∷ ys) back once =
    up_skip (Some x.id) y ys x (y ∷ (ys ++ back)) (omega (arith, here_once x (y ∷ (ys ++ back)) (once x.id), entry_times-append x.id (y ∷ ys) back))
    ∙ ap (λ l. x ∷ l) (up-last (Some x.id) y ys back (later_once x (y ∷ (ys ++ back)) once))

pub up_last : (front back : List Entry) → ((i : ℕ) → entry_times i (front ++ back) ≤ 1) → up_to (last_id None front) (front ++ back) ≡ front
up_last [] back once = refl
up_last (x ∷ xs) back once = up-last None x xs back once

slot_of_split : (ss : List (Option Slot)) (first last : Option ℕ) (entries : List Entry) (id : ℕ) (slot : Slot) → IsChain ss first last entries → Some slot ≡ slot_at ss id
    → Split entries id → IsSlotOf entries id slot
slot_of_split ss first last entries id slot chain is x =
    let own = subst (IsChain ss first last) x.whole chain in
    let slot_is : slot ≡ slot_for x.entry (last_id None x.front) (head_id x.back None) =
    same_slot slot _ (is ∙ taken_is ss first last x.front x.back x.entry id own x.same) in
    let entry_is : x.entry ≡ entry_in id slot = ap (λ i. entry_in i (slot_for x.entry (last_id None x.front) (head_id x.back None))) x.same ∙ ap (entry_in id) (sym slot_is) in
    let rest_is : rest_from slot.next entries ≡ x.back =
    ap (λ (s : Slot). rest_from s.next entries) slot_is ∙ ap (rest_from (head_id x.back None)) (x.whole ∙ sym (append_assoc x.front (x.entry ∷ []) x.back))
    ∙ rest_head (x.front ++ x.entry ∷ []) x.back (λ i. subst (λ l. entry_times i l ≤ 1) (x.whole ∙ sym (append_assoc x.front (x.entry ∷ []) x.back)) (chain.once i)) in
    let up_is : up_to slot.previous entries ≡ x.front =
    ap (λ (s : Slot). up_to s.previous entries) slot_is ∙ ap (up_to (last_id None x.front)) x.whole ∙ up_last x.front (x.entry ∷ x.back) own.once in
    let none : entry_times id x.front ≡ 0 = omega (arith, own.once id, entry_times-append id x.front (x.entry ∷ x.back), counts_one x.entry.id id x.same) in
    record {
      whole = x.whole ∙ ap (λ l. l ++ x.entry ∷ x.back) (sym up_is) ∙ ap (λ e. up_to slot.previous entries ++ e ∷ x.back) entry_is
          ∙ ap (λ l. up_to slot.previous entries ++ entry_in id slot ∷ l) (sym rest_is);
      from = ap (rest_from (Some id)) x.whole ∙ rest_at id x.front x.entry x.back x.same none ∙ ap (λ e. e ∷ x.back) entry_is ∙ ap (λ l. entry_in id slot ∷ l) (sym rest_is);
      to = ap (up_to (Some id)) x.whole ∙ up_at id x.front x.entry x.back x.same none ∙ ap (λ l. l ++ x.entry ∷ []) (sym up_is)
          ∙ ap (λ e. up_to slot.previous entries ++ e ∷ []) entry_is;
      before = ap (λ (s : Slot). s.previous) slot_is ∙ ap (last_id None) (sym up_is);
      after = ap (λ (s : Slot). s.next) slot_is ∙ ap (λ l. head_id l None) (sym rest_is);
    }

pub is_there : (ss : List (Option Slot)) (first last : Option ℕ) (entries : List Entry) (id : ℕ) (slot : Slot) → IsChain ss first last entries → Some slot ≡ slot_at ss id → 1 ≤ entry_times id entries
is_there ss first last entries id slot chain is = elim (cases_eq (entry_times id entries) 0) [
  | inl none ↦ absurd (apart (slot_at ss id) slot (sym is) (chain.gone id none))
  | inr some ↦ omega arith
]

pub slot_is_of : (ss : List (Option Slot)) (first last : Option ℕ) (entries : List Entry) (id : ℕ) (slot : Slot) → IsChain ss first last entries → Some slot ≡ slot_at ss id
    → IsSlotOf entries id slot
slot_is_of ss first last entries id slot chain is =
    slot_of_split ss first last entries id slot chain is (split_id id entries (is_there ss first last entries id slot chain is))

pub not_there : (ss : List (Option Slot)) (first last : Option ℕ) (entries : List Entry) (id : ℕ) → IsChain ss first last entries → None ≡ slot_at ss id → entry_times id entries ≡ 0
not_there ss first last entries id chain none = run-there (slot_at ss) None entries None id (sym none) chain.run

-- A node gets another content.
pub set_chain : (ss done : List (Option Slot)) (first last : Option ℕ) (before after : List Entry) (e : Entry) (id : ℕ) (node : NewNode)
    → IsChain ss first last (before ++ e ∷ after) → e.id ≡ id → length done ≡ length ss
    → ((i : ℕ) → slot_at done i ≡ (if i == id then slot_with (to_node node) (slot_at ss i) else slot_at ss i))
    → IsChain done first last (before ++ record { depth = e.depth; id = e.id; node = node } ∷ after)
set_chain ss done first last before after e id node chain same longer slots =
    let new : Entry = record { depth = e.depth; id = e.id; node = node } in
    let runs = run-split (slot_at ss) None before (e ∷ after) None chain.run in
    let none : entry_times e.id (before ++ after) ≡ 0 = omega (arith, chain.once e.id, times_with before after e e.id, counts_one e.id e.id refl) in
    let others : (i : ℕ) → i ≢ e.id → slot_at done i ≡ slot_at ss i = λ i other.
    slots i ∙ cond-false (eqb i id) _ _ (ne_eqb i id (λ is. other (is ∙ sym same))) in
    let apart_from : (i : ℕ) → 1 ≤ entry_times i (before ++ after) → i ≢ e.id = λ i h is. omega (arith, h, none, ap (λ n. entry_times n (before ++ after)) is) in
    let times : (i : ℕ) → entry_times i (before ++ new ∷ after) ≡ entry_times i (before ++ e ∷ after) = λ i.
    omega (arith, entry_times-append i before (new ∷ after), entry_times-append i before (e ∷ after)) in
    record {
      run = run-join (slot_at done) None before (new ∷ after) None
          (run-same (slot_at ss) (slot_at done) None before (Some e.id) (λ i h. others i (apart_from i (omega (arith, h, entry_times-append i before after)))) runs.0) (
            slots e.id ∙ cond-true (eqb e.id id) _ _ (eq-eqb e.id id same) ∙ ap (slot_with (to_node node)) runs.1.0,
            run-same (slot_at ss) (slot_at done) (Some e.id) after None (λ i h. others i (apart_from i (omega (arith, h, entry_times-append i before after)))) runs.1.1,
          );
      head = chain.head ∙ head-append before (e ∷ after) None ∙ sym (head-append before (new ∷ after) None);
      end = chain.end ∙ last-append None before (e ∷ after) ∙ sym (last-append None before (new ∷ after));
      once = λ i. omega (arith, chain.once i, times i);
      gone = λ i h.
          let out : entry_times i (before ++ e ∷ after) ≡ 0 = omega (arith, h, times i) in
          others i (λ is. omega (arith, out, times_with before after e i, counts_one e.id i (sym is))) ∙ chain.gone i out;
      within = omega (arith, chain.within, longer, length-append before (new ∷ after), length-append before (e ∷ after));
    }

-- All nodes one level higher.
abbrev slot_some : ℕ → NewNode → Option ℕ → Option ℕ → Option Slot
slot_some depth node before next = Some (record { depth = depth; node = node; previous = before; next = next })

slot_at-slot_above : (ss : List (Option Slot)) (i : ℕ) → slot_at (map (slot_with slot_above) ss) i ≡ slot_with slot_above (slot_at ss i)
slot_at-slot_above [] i = refl
slot_at-slot_above (s ∷ ss) zero = refl
slot_at-slot_above (s ∷ ss) (suc i) = slot_at-slot_above ss i

head-slot_above : (es : List Entry) (stop : Option ℕ) → head_id (map (shifted_entry 1 0) es) stop ≡ head_id es stop
head-slot_above [] stop = refl
head-slot_above (e ∷ es) stop = refl

last-slot_above : (before : Option ℕ) (es : List Entry) → last_id before (map (shifted_entry 1 0) es) ≡ last_id before es
last-slot_above before [] = refl
last-slot_above before (e ∷ es) = last-slot_above (Some e.id) es

times-slot_above : (i : ℕ) (es : List Entry) → entry_times i (map (shifted_entry 1 0) es) ≡ entry_times i es
times-slot_above i [] = refl
times-slot_above i (e ∷ es) = omega (arith, times-slot_above i es)

run-slot_above : (ss done : List (Option Slot)) (before : Option ℕ) (es : List Entry) (stop : Option ℕ) → done ≡ map (slot_with slot_above) ss → Run (slot_at ss) before es stop
    → Run (slot_at done) before (map (shifted_entry 1 0) es) stop
run-slot_above ss done before [] stop is r = tt
run-slot_above ss done before (e ∷ es) stop is r = (
  ap (λ l. slot_at l e.id) is ∙ slot_at-slot_above ss e.id ∙ ap (slot_with slot_above) r.0
      ∙ ap (λ n. slot_some (e.depth - 1) e.node before n) (sym (head-slot_above es stop))
      ∙ ap (λ d. slot_some d e.node before (head_id (map (shifted_entry 1 0) es) stop)) (sym (add-zero (e.depth - 1))),
  run-slot_above ss done (Some e.id) es stop is r.1,
)

pub raise_chain : (ss done : List (Option Slot)) (first last : Option ℕ) (es : List Entry) → IsChain ss first last es → done ≡ map (slot_with slot_above) ss
    → IsChain done first last (map (shifted_entry 1 0) es)
raise_chain ss done first last es chain is = record {
  run = run-slot_above ss done None es None is chain.run;
  head = chain.head ∙ sym (head-slot_above es None);
  end = chain.end ∙ sym (last-slot_above None es);
  once = λ i. omega (arith, chain.once i, times-slot_above i es);
  gone = λ i h. ap (λ l. slot_at l i) is ∙ slot_at-slot_above ss i ∙ ap (slot_with slot_above) (chain.gone i (omega (arith, h, times-slot_above i es)));
  within = omega (arith, chain.within, ap length is, length-map ss (slot_with slot_above), length-map es (shifted_entry 1 0));
}
