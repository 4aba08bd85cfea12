-- Nodes that stay on the spine of a document that is edited.
use Rattle.std.proofs.Common.{◌≡◌, ◌≢◌, ℕ, ◌+◌, ◌-◌, ◌<◌, ◌≤◌, true, false, eqb, ltb, inl, inr, Option, Some, None, List, [], ◌∷◌, ◌++◌, length, take, drop, map, reverse, one-add, refl, sym, ap, ◌∙◌, subst, arith}
use Rattle.std.specs.List.{prefix_len}
use Rattle.std.proofs.lemmas.Bool.{cond-true, cond-false, cases_Bool, cases_eq, cases_lt, eq-eqb, ne_eqb, lt-ltb}
use Rattle.std.proofs.lemmas.List.{append_assoc, drop_at, take-append-drop, reverse-append, length-drop, length-reverse}
use Rattle.dom_forest.specs.declared.entry.Entry.{Entry}
use Rattle.dom_forest.specs.declared.chain.Slot.{Slot}
use Rattle.dom_forest.specs.Chain.{IsChain, entry_in, entry_times, rest_from, slot_at}
use Rattle.dom_forest.specs.Flat.{shifted_entry, renumbered_entries}
use Rattle.dom_forest.specs.Runs.{below_at}
use Rattle.dom_forest.specs.Spine.{AllBelow, IsSpine, IsSpineOf, OnSpine, first_place, is_late}
use Rattle.dom_forest.proofs.Flattening.{entry_times-append, counts_one}
use Rattle.dom_forest.proofs.Chains.{rest_gone, slot_is_of}

below-right : (depth : ℕ) (xs ys : List Entry) → AllBelow depth (xs ++ ys) → AllBelow depth ys
below-right depth [] ys h = h
below-right depth (x ∷ xs) ys h = below-right depth xs ys h.1

below-in : (depth : ℕ) (front back : List Entry) (new : Entry) → depth < new.depth → AllBelow depth (front ++ back) → AllBelow depth (front ++ new ∷ back)
below-in depth [] back new h k = (h, k)
below-in depth (x ∷ front) back new h k = (k.0, below-in depth front back new h k.1)

below-out : (depth : ℕ) (front back : List Entry) (e : Entry) → AllBelow depth (front ++ e ∷ back) → AllBelow depth (front ++ back)
below-out depth [] back e h = h.1
below-out depth (x ∷ front) back e h = (h.0, below-out depth front back e h.1)

below-swap : (depth : ℕ) (front back : List Entry) (e new : Entry) → new.depth ≡ e.depth → AllBelow depth (front ++ e ∷ back) → AllBelow depth (front ++ new ∷ back)
below-swap depth [] back e new same h = (omega (arith, h.0), h.1)
below-swap depth (x ∷ front) back e new same h = (h.0, below-swap depth front back e new same h.1)

-- Entries of which all others at the end are less deep.
pub counts-all : (depth : ℕ) (xs : List Entry) → AllBelow depth xs → prefix_len (below_at depth) xs ≡ length xs
counts-all depth [] h = refl
counts-all depth (x ∷ xs) h = cond-true (ltb depth x.depth) _ _ (lt-ltb depth x.depth h.0) ∙ omega (arith, counts-all depth xs h.1)

pub reverse_take : (count : ℕ) (places : List ℕ) → count ≤ length places → reverse (take (length places - count) places) ≡ drop count (reverse places)
reverse_take count places h =
    let n : ℕ = length places - count in
    sym (drop_at (reverse (drop n places)) (reverse (take n places)) count (omega (arith, length-reverse (drop n places), length-drop n places)))
    ∙ ap (drop count) (sym (reverse-append (take n places) (drop n places)) ∙ ap reverse (take-append-drop n places))

-- What is above may change and the bound grow.
on-map : (es : List Entry) (bound : ℕ) (above other : ℕ → Type 0) → ((b : ℕ) → b ≤ bound → above b → other b) → OnSpine es bound above → OnSpine es bound other
on-map [] bound above other f o = f bound (omega arith) o
on-map (e ∷ es) bound above other f o = (o.0, o.1, f e.depth (omega (arith, o.0)) o.2)

on-wider : (es : List Entry) (bound wide : ℕ) (above : ℕ → Type 0) → bound ≤ wide → ((b : ℕ) → b ≤ wide → above b → above wide) → OnSpine es bound above → OnSpine es wide above
on-wider [] bound wide above h f o = f bound h o
on-wider (e ∷ es) bound wide above h f o = (omega (arith, o.0), o.1, o.2)

pub spine-wider : (entries : List Entry) (next : ℕ) (ids : List ℕ) (bound wide : ℕ) → bound ≤ wide → IsSpine entries next ids bound → IsSpine entries next ids wide
spine-wider entries next [] bound wide h s = tt
spine-wider entries next (id ∷ ids) bound wide h s =
    (s.0, on-wider (rest_from (Some id) entries) bound wide (IsSpine entries next ids) h (λ b k a. spine-wider entries next ids b wide k a) s.1)

-- An entry comes in.
put_one : (id : ℕ) (front back : List Entry) (new : Entry) (bound : ℕ) (above other : ℕ → Type 0) → new.id ≢ id
    → ((depth : ℕ) → depth < bound → AllBelow depth back → depth < new.depth) → ((b : ℕ) → b ≤ bound → above b → other b)
    → OnSpine (rest_from (Some id) (front ++ back)) bound above → OnSpine (rest_from (Some id) (front ++ new ∷ back)) bound other
put_one id [] back new bound above other fresh deep f o =
    subst (λ es. OnSpine es bound other) (sym (cond-false (eqb new.id id) (new ∷ back) (rest_from (Some id) back) (ne_eqb new.id id fresh)))
    (on-map (rest_from (Some id) back) bound above other f o)
put_one id (x ∷ front) back new bound above other fresh deep f o = elim (cases_eq x.id id) [
  | inl same ↦
      let is = subst (λ es. OnSpine es bound above) (cond-true (eqb x.id id) (x ∷ (front ++ back)) (rest_from (Some id) (front ++ back)) (eq-eqb x.id id same)) o in
      subst (λ es. OnSpine es bound other) (sym (cond-true (eqb x.id id) (x ∷ (front ++ new ∷ back)) (rest_from (Some id) (front ++ new ∷ back)) (eq-eqb x.id id same)))
      (is.0, below-in x.depth front back new (deep x.depth is.0 (below-right x.depth front back is.1)) is.1, f x.depth (omega (arith, is.0)) is.2)
  | inr differs ↦
      subst (λ es. OnSpine es bound other) (sym (cond-false (eqb x.id id) (x ∷ (front ++ new ∷ back)) (rest_from (Some id) (front ++ new ∷ back)) (ne_eqb x.id id differs)))
      (put_one id front back new bound above other fresh deep f
      (subst (λ es. OnSpine es bound above) (cond-false (eqb x.id id) (x ∷ (front ++ back)) (rest_from (Some id) (front ++ back)) (ne_eqb x.id id differs)) o))
]

pub spine-put : (front back : List Entry) (new : Entry) (next : ℕ) (ids : List ℕ) (bound : ℕ) → new.id ≡ next
    → ((depth : ℕ) → depth < bound → AllBelow depth back → depth < new.depth)
    → IsSpine (front ++ back) next ids bound → IsSpine (front ++ new ∷ back) (next + 1) ids bound
spine-put front back new next [] bound is deep s = tt
spine-put front back new next (id ∷ ids) bound is deep s = (
  omega (arith, s.0),
  put_one id front back new bound (IsSpine (front ++ back) next ids) (IsSpine (front ++ new ∷ back) (next + 1) ids)
      (λ same. omega (arith, s.0, is, same)) deep
      (λ b le a. spine-put front back new next ids b is (λ depth less below. deep depth (omega (arith, le, less)) below) a) s.1,
)

-- Entries come in that are no less deep than the one before which they stand.
pub spine-run : (front es back : List Entry) (level first : ℕ) (ids : List ℕ) (bound : ℕ) → ((depth : ℕ) → AllBelow depth back → depth < level)
    → IsSpine (front ++ back) first ids bound → IsSpine (front ++ (renumbered_entries first (map (shifted_entry 0 level) es) ++ back)) (first + length es) ids bound
spine-run front [] back level first ids bound deep s = subst (λ n. IsSpine (front ++ back) n ids bound) (omega arith) s
spine-run front (e ∷ es) back level first ids bound deep s =
    let new : Entry = record { depth = e.depth - 0 + level; id = first; node = e.node } in
    let rest = renumbered_entries (first + 1) (map (shifted_entry 0 level) es) in
    subst (λ n. IsSpine (front ++ new ∷ (rest ++ back)) n ids bound) (omega arith)
    (subst (λ l. IsSpine l (first + 1 + length es) ids bound) (append_assoc front (new ∷ []) (rest ++ back))
    (spine-run (front ++ new ∷ []) es back level (first + 1) ids bound deep
    (subst (λ l. IsSpine l (first + 1) ids bound) (sym (append_assoc front (new ∷ []) back))
    (spine-put front back new first ids bound refl (λ depth less below. omega (arith, deep depth below)) s))))

-- An entry goes out.
take_one : (id : ℕ) (front back : List Entry) (e : Entry) (bound : ℕ) (above other : ℕ → Type 0) → entry_times id (front ++ e ∷ back) ≤ 1
    → ((b c : ℕ) → b ≤ c → above b → other c)
    → OnSpine (rest_from (Some id) (front ++ e ∷ back)) bound above → OnSpine (rest_from (Some id) (front ++ back)) bound other
take_one id [] back e bound above other once f o = elim (cases_eq e.id id) [
  | inl same ↦
      let is = subst (λ es. OnSpine es bound above) (cond-true (eqb e.id id) (e ∷ back) (rest_from (Some id) back) (eq-eqb e.id id same)) o in
      subst (λ es. OnSpine es bound other) (sym (rest_gone id back (omega (arith, once, counts_one e.id id same)))) (f e.depth bound (omega (arith, is.0)) is.2)
  | inr differs ↦
      on-map (rest_from (Some id) back) bound above other (λ b le a. f b b (omega arith) a)
      (subst (λ es. OnSpine es bound above) (cond-false (eqb e.id id) (e ∷ back) (rest_from (Some id) back) (ne_eqb e.id id differs)) o)
]
take_one id (x ∷ front) back e bound above other once f o = elim (cases_eq x.id id) [
  | inl same ↦
      let is = subst (λ es. OnSpine es bound above) (cond-true (eqb x.id id) (x ∷ (front ++ e ∷ back)) (rest_from (Some id) (front ++ e ∷ back)) (eq-eqb x.id id same)) o in
      subst (λ es. OnSpine es bound other) (sym (cond-true (eqb x.id id) (x ∷ (front ++ back)) (rest_from (Some id) (front ++ back)) (eq-eqb x.id id same)))
      (is.0, below-out x.depth front back e is.1, f x.depth x.depth (omega arith) is.2)
  | inr differs ↦
      subst (λ es. OnSpine es bound other) (sym (cond-false (eqb x.id id) (x ∷ (front ++ back)) (rest_from (Some id) (front ++ back)) (ne_eqb x.id id differs)))
      (take_one id front back e bound above other (omega (arith, once)) f
      (subst (λ es. OnSpine es bound above) (cond-false (eqb x.id id) (x ∷ (front ++ e ∷ back)) (rest_from (Some id) (front ++ e ∷ back)) (ne_eqb x.id id differs)) o))
]

pub spine-take : (front back : List Entry) (e : Entry) (next : ℕ) (ids : List ℕ) (bound : ℕ) → ((i : ℕ) → entry_times i (front ++ e ∷ back) ≤ 1)
    → IsSpine (front ++ e ∷ back) next ids bound → IsSpine (front ++ back) next ids bound
spine-take front back e next [] bound once s = tt
spine-take front back e next (id ∷ ids) bound once s = (
  s.0,
  take_one id front back e bound (IsSpine (front ++ e ∷ back) next ids) (IsSpine (front ++ back) next ids) (once id)
      (λ b c le a. spine-wider (front ++ back) next ids b c le (spine-take front back e next ids b once a)) s.1,
)

pub spine-without_node : (front run back : List Entry) (next : ℕ) (ids : List ℕ) (bound : ℕ) → ((i : ℕ) → entry_times i (front ++ (run ++ back)) ≤ 1)
    → IsSpine (front ++ (run ++ back)) next ids bound → IsSpine (front ++ back) next ids bound
spine-without_node front [] back next ids bound once s = s
spine-without_node front (e ∷ run) back next ids bound once s =
    spine-without_node front run back next ids bound
    (λ i. omega (arith, once i, entry_times-append i front (e ∷ (run ++ back)), entry_times-append i front (run ++ back)))
    (spine-take front (run ++ back) e next ids bound once s)

-- An entry is replaced by one of its depth.
set_one : (id : ℕ) (front back : List Entry) (e new : Entry) (bound : ℕ) (above other : ℕ → Type 0) → new.id ≡ e.id → new.depth ≡ e.depth
    → ((b : ℕ) → b ≤ bound → above b → other b)
    → OnSpine (rest_from (Some id) (front ++ e ∷ back)) bound above → OnSpine (rest_from (Some id) (front ++ new ∷ back)) bound other
set_one id [] back e new bound above other same level f o = elim (cases_eq e.id id) [
  | inl here ↦
      let is = subst (λ es. OnSpine es bound above) (cond-true (eqb e.id id) (e ∷ back) (rest_from (Some id) back) (eq-eqb e.id id here)) o in
      subst (λ es. OnSpine es bound other) (sym (cond-true (eqb new.id id) (new ∷ back) (rest_from (Some id) back) (eq-eqb new.id id (same ∙ here))))
      (omega (arith, is.0, level), subst (λ d. AllBelow d back) (sym level) is.1, subst other (sym level) (f e.depth (omega (arith, is.0)) is.2))
  | inr differs ↦
      subst (λ es. OnSpine es bound other) (sym (cond-false (eqb new.id id) (new ∷ back) (rest_from (Some id) back) (ne_eqb new.id id (λ here. differs (sym same ∙ here)))))
      (on-map (rest_from (Some id) back) bound above other f
      (subst (λ es. OnSpine es bound above) (cond-false (eqb e.id id) (e ∷ back) (rest_from (Some id) back) (ne_eqb e.id id differs)) o))
]
set_one id (x ∷ front) back e new bound above other same level f o = elim (cases_eq x.id id) [
  | inl here ↦
      let is = subst (λ es. OnSpine es bound above) (cond-true (eqb x.id id) (x ∷ (front ++ e ∷ back)) (rest_from (Some id) (front ++ e ∷ back)) (eq-eqb x.id id here)) o in
      subst (λ es. OnSpine es bound other) (sym (cond-true (eqb x.id id) (x ∷ (front ++ new ∷ back)) (rest_from (Some id) (front ++ new ∷ back)) (eq-eqb x.id id here)))
      (is.0, below-swap x.depth front back e new level is.1, f x.depth (omega (arith, is.0)) is.2)
  | inr differs ↦
      subst (λ es. OnSpine es bound other) (sym (cond-false (eqb x.id id) (x ∷ (front ++ new ∷ back)) (rest_from (Some id) (front ++ new ∷ back)) (ne_eqb x.id id differs)))
      (set_one id front back e new bound above other same level f
      (subst (λ es. OnSpine es bound above) (cond-false (eqb x.id id) (x ∷ (front ++ e ∷ back)) (rest_from (Some id) (front ++ e ∷ back)) (ne_eqb x.id id differs)) o))
]

pub spine-set : (front back : List Entry) (e new : Entry) (next : ℕ) (ids : List ℕ) (bound : ℕ) → new.id ≡ e.id → new.depth ≡ e.depth
    → IsSpine (front ++ e ∷ back) next ids bound → IsSpine (front ++ new ∷ back) next ids bound
spine-set front back e new next [] bound same level s = tt
spine-set front back e new next (id ∷ ids) bound same level s = (
  s.0,
  set_one id front back e new bound (IsSpine (front ++ e ∷ back) next ids) (IsSpine (front ++ new ∷ back) next ids) same level
      (λ b le a. spine-set front back e new next ids b same level a) s.1,
)

-- Nodes that are gone or too deep are left out.
on-any : (es : List Entry) (bound : ℕ) (above : ℕ → Type 0) → OnSpine es bound above → (b : ℕ) × above b
on-any [] bound above o = (bound, o)
on-any (e ∷ es) bound above o = (e.depth, o.2)

on-bound : (es : List Entry) (e : Entry) (rest : List Entry) (bound wide : ℕ) (above : ℕ → Type 0) → es ≡ e ∷ rest → e.depth < wide → OnSpine es bound above → OnSpine es wide above
on-bound es e rest bound wide above is h o =
    let here = subst (λ l. OnSpine l bound above) is o in
    subst (λ l. OnSpine l wide above) (sym is) (h, here.1, here.2)

not_late : (depth : ℕ) (o : Option Slot) → is_late depth o ≡ false → (s : Slot) × (Some s ≡ o) × (s.depth ≤ depth)
not_late depth None h = absurd (let e : true ≡ false = h in cc)
not_late depth (Some s) h = (
  s,
  refl,
  elim (cases_lt depth s.depth) [ inl less ↦ absurd (let e : true ≡ false = sym (lt-ltb depth s.depth less) ∙ h in cc) | inr le ↦ le ],
)

pub spine-shorter : (ss : List (Option Slot)) (first last : Option ℕ) (entries : List Entry) (next depth : ℕ) (ids : List ℕ) (bound : ℕ) → IsChain ss first last entries
    → IsSpine entries next ids bound → IsSpine entries next (drop (prefix_len (λ id. is_late depth (slot_at ss id)) ids) ids) (depth + 1)
spine-shorter ss first last entries next depth [] bound chain s = tt
spine-shorter ss first last entries next depth (id ∷ ids) bound chain s = elim (cases_Bool (is_late depth (slot_at ss id))) [
  | inl late ↦
      let some = on-any (rest_from (Some id) entries) bound (IsSpine entries next ids) s.1 in
      subst (λ n. IsSpine entries next (drop n (id ∷ ids)) (depth + 1)) (sym (cond-true (is_late depth (slot_at ss id)) _ _ late ∙ one-add _))
      (spine-shorter ss first last entries next depth ids some.0 chain some.1)
  | inr not ↦
      let x = not_late depth (slot_at ss id) not in
      let here = slot_is_of ss first last entries id x.0 chain x.1 in
      subst (λ n. IsSpine entries next (drop n (id ∷ ids)) (depth + 1)) (sym (cond-false (is_late depth (slot_at ss id)) _ _ not))
      (s.0, on-bound (rest_from (Some id) entries) (entry_in id x.0) (rest_from x.0.next entries) bound (depth + 1) (IsSpine entries next ids) here.from (omega (arith, x.2)) s.1)
]

-- The first node on the spine reaches to the end.
pub spine-first : (entries : List Entry) (next id : ℕ) (ids : List ℕ) (bound : ℕ) (e : Entry) (rest : List Entry) → first_place ids ≡ Some id → IsSpine entries next ids bound
    → rest_from (Some id) entries ≡ e ∷ rest → AllBelow e.depth rest
spine-first entries next id [] bound e rest first s is = cc
spine-first entries next id (x ∷ ids) bound e rest first s is =
    let here = subst (λ es. OnSpine es bound (IsSpine entries next ids)) (ap (λ o. rest_from o entries) first ∙ is) s.1 in
    here.1

-- A new last node comes onto the spine.
pub spine-push : (entries : List Entry) (next id : ℕ) (ids : List ℕ) (e : Entry) → rest_from (Some id) entries ≡ e ∷ [] → id < next → IsSpine entries next (reverse ids) e.depth
    → IsSpineOf entries next (ids ++ id ∷ [])
spine-push entries next id ids e is given s = (
  e.depth + 1,
  subst (λ l. IsSpine entries next l (e.depth + 1)) (sym (reverse-append ids (id ∷ [])))
      (given, subst (λ es. OnSpine es (e.depth + 1) (IsSpine entries next (reverse ids))) (sym is) (omega arith, tt, s)),
)
