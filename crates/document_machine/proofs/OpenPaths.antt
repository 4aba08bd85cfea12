-- The open elements as a page grows.
use Rattle.std.proofs.Common.{◌≡◌, ◌≢◌, ℕ, ◌≤◌, ◌==◌, eqb, if◌then◌else◌, List, Option, Some, [], ◌∷◌, ◌++◌, reverse, refl, sym, ap, ◌∙◌, subst, arith}
use Rattle.std.proofs.lemmas.Bool.{cond-true, cond-false, eq-eqb, ne_eqb}
use Rattle.std.proofs.lemmas.List.{append_assoc, reverse-append}
use Rattle.dom_forest.specs.declared.node.NewNode.{NewNode}
use Rattle.dom_forest.specs.declared.node.NodeId.{NodeId}
use Rattle.dom_forest.specs.Forest.{Forest, empty, tree, times, joined_forests, from, or_else, first_content, content_of, IsElement, MayHaveChildren}
use Rattle.dom_forest.specs.Edits.{DomState, IsNumbered, with_change, with_last, with_appended}
use Rattle.document_machine.specs.declared.building.OpenElement.{OpenElement}
use Rattle.document_machine.specs.Paths.{IsPath, IsOpenDocument}
use Rattle.document_machine.specs.Running.{ids_of, innermost}

abbrev pub Once : Forest → Type 0
Once forest = (id : ℕ) → times id forest ≤ 1

counts_one : (i id : ℕ) → i ≡ id → ◌≡◌ {A = ℕ} (if i == id then 1 else 0) 1
counts_one i id same = cond-true (eqb i id) 1 0 (eq-eqb i id same)

once_kids : (i : ℕ) (content : NewNode) (kids later : Forest) → Once (tree i content kids later) → Once kids
once_kids i content kids later once id = omega (arith, once id)

once_later : (i : ℕ) (content : NewNode) (kids later : Forest) → Once (tree i content kids later) → Once later
once_later i content kids later once id = omega (arith, once id)

-- A node that stands below or after the first one is another.
other_below : (i p : ℕ) (content : NewNode) (kids later : Forest) → Once (tree i content kids later) → 1 ≤ times p kids → i ≢ p
other_below i p content kids later once there same = omega (arith, once p, counts_one i p same, there)

other_after : (i p : ℕ) (content : NewNode) (kids later : Forest) → Once (tree i content kids later) → 1 ≤ times p later → i ≢ p
other_after i p content kids later once there same = omega (arith, once p, counts_one i p same, there)

-- Earlier siblings don't count for a path.
pub skips : (x : ℕ) (xs : List ℕ) (i : ℕ) (content : NewNode) (kids later : Forest) → IsPath (x ∷ xs) later → IsPath (x ∷ xs) (tree i content kids later)
skips x xs i content kids empty path = absurd path
skips x xs i content kids (tree j other below later) path = path

-- A new node at the end of siblings is a path by itself.
pub ends_with : (id : ℕ) (node : NewNode) → IsElement (Some node) → (forest : Forest) → IsPath (id ∷ []) (joined_forests forest (tree id node empty empty))
ends_with id node is empty = (refl, is, tt)
ends_with id node is (tree i content kids later) = skips id [] i content kids (joined_forests later (tree id node empty empty)) (ends_with id node is later)

-- The last of a path is there.
pub path_there : (os : List ℕ) (p : ℕ) (forest : Forest) → IsPath (os ++ p ∷ []) forest → 1 ≤ times p forest
path_there [] p empty path = absurd path
path_there [] p (tree i content kids empty) path = omega (arith, counts_one i p path.0)
path_there [] p (tree i content kids (tree j other below later)) path = omega (arith, path_there [] p (tree j other below later) path)
path_there (o ∷ os) p empty path = absurd path
path_there (o ∷ os) p (tree i content kids empty) path = omega (arith, path_there os p kids path.2)
path_there (o ∷ os) p (tree i content kids (tree j other below later)) path = omega (arith, path_there (o ∷ os) p (tree j other below later) path)

-- More nodes at the end of the last element of a path, where they go on with it.
abbrev with_kids : ℕ → Forest → Forest → Forest
with_kids p more forest = with_change p (λ content kids later. tree p content (joined_forests kids more) later) forest

changed_here : (i p : ℕ) (content : NewNode) (kids later more : Forest) → i ≡ p → with_kids p more (tree i content kids later) ≡ tree p content (joined_forests kids more) later
changed_here i p content kids later more same = cond-true (eqb i p) _ _ (eq-eqb i p same)

changed_past : (i p : ℕ) (content : NewNode) (kids later more : Forest) → i ≢ p
    → with_kids p more (tree i content kids later) ≡ tree i content (with_kids p more kids) (with_kids p more later)
changed_past i p content kids later more other = cond-false (eqb i p) _ _ (ne_eqb i p other)

grows_after : (x : ℕ) (xs : List ℕ) (i p : ℕ) (content : NewNode) (kids later more : Forest) → i ≢ p → IsPath (x ∷ xs) (with_kids p more later)
    → IsPath (x ∷ xs) (with_kids p more (tree i content kids later))
grows_after x xs i p content kids later more other path =
    subst (IsPath (x ∷ xs)) (sym (changed_past i p content kids later more other)) (skips x xs i content (with_kids p more kids) (with_kids p more later) path)

pub grows : (os : List ℕ) (p : ℕ) (qs : List ℕ) (more : Forest) → ((kids : Forest) → IsPath qs (joined_forests kids more)) → (forest : Forest)
    → Once forest → IsPath (os ++ p ∷ []) forest → IsPath (os ++ p ∷ qs) (with_kids p more forest)
grows [] p qs more goes empty once path = absurd path
grows [] p qs more goes (tree i content kids empty) once path =
    subst (IsPath (p ∷ qs)) (sym (changed_here i p content kids empty more path.0)) (refl, path.1, goes kids)
grows [] p qs more goes (tree i content kids (tree j other below later)) once path =
    grows_after p qs i p content kids (tree j other below later) more (other_after i p content kids (tree j other below later) once (path_there [] p (tree j other below later) path))
    (grows [] p qs more goes (tree j other below later) (once_later i content kids (tree j other below later) once) path)
grows (o ∷ os) p qs more goes empty once path = absurd path
grows (o ∷ os) p qs more goes (tree i content kids empty) once path =
    subst (IsPath (o ∷ (os ++ p ∷ qs))) (sym (changed_past i p content kids empty more (other_below i p content kids empty once (path_there os p kids path.2))))
    (path.0, path.1, grows os p qs more goes kids (once_kids i content kids empty once) path.2)
grows (o ∷ os) p qs more goes (tree i content kids (tree j other below later)) once path =
    grows_after o (os ++ p ∷ qs) i p content kids (tree j other below later) more (other_after i p content kids (tree j other below later) once (path_there (o ∷ os) p (tree j other below later) path))
    (grows (o ∷ os) p qs more goes (tree j other below later) (once_later i content kids (tree j other below later) once) path)

-- The last of a path is an element.
absent : (id : ℕ) (forest : Forest) → times id forest ≡ 0 → from id forest ≡ empty
absent id empty none = refl
absent id (tree i content kids later) none =
    let other : i ≢ id = λ same. omega (arith, counts_one i id same) in
    cond-false (eqb i id) _ _ (ne_eqb i id other)
    ∙ ap (λ f. or_else f (from id later)) (absent id kids (omega arith)) ∙ absent id later (omega arith)

found_kids : (kids later : Forest) → IsElement (first_content kids) → IsElement (first_content (or_else kids later))
found_kids empty later is = absurd is
found_kids (tree i content kids rest) later is = is

path_element_after : (i p : ℕ) (content : NewNode) (kids later : Forest) → Once (tree i content kids later) → 1 ≤ times p later
    → IsElement (content_of p later) → IsElement (content_of p (tree i content kids later))
path_element_after i p content kids later once there is =
    let shape : from p (tree i content kids later) ≡ from p later = cond-false (eqb i p) _ _ (ne_eqb i p (other_after i p content kids later once there))
    ∙ ap (λ f. or_else f (from p later)) (absent p kids (omega (arith, once p, there))) in
    subst (λ f. IsElement (first_content f)) (sym shape) is

pub path_element : (os : List ℕ) (p : ℕ) (forest : Forest) → Once forest → IsPath (os ++ p ∷ []) forest → IsElement (content_of p forest)
path_element [] p empty once path = absurd path
path_element [] p (tree i content kids empty) once path =
    subst (λ f. IsElement (first_content f)) (sym (cond-true (eqb i p) (tree i content kids empty) _ (eq-eqb i p path.0))) path.1
path_element [] p (tree i content kids (tree j other below later)) once path =
    path_element_after i p content kids (tree j other below later) once (path_there [] p (tree j other below later) path) (path_element [] p (tree j other below later) (once_later i content kids (tree j other below later) once) path)
path_element (o ∷ os) p empty once path = absurd path
path_element (o ∷ os) p (tree i content kids empty) once path =
    let shape : from p (tree i content kids empty) ≡ or_else (from p kids) empty =
    cond-false (eqb i p) _ _ (ne_eqb i p (other_below i p content kids empty once (path_there os p kids path.2))) in
    subst (λ f. IsElement (first_content f)) (sym shape) (found_kids (from p kids) empty (path_element os p kids (once_kids i content kids empty once) path.2))
path_element (o ∷ os) p (tree i content kids (tree j other below later)) once path =
    path_element_after i p content kids (tree j other below later) once (path_there (o ∷ os) p (tree j other below later) path) (path_element (o ∷ os) p (tree j other below later) (once_later i content kids (tree j other below later) once) path)

-- A path without its last element.
pub shorter : (os : List ℕ) (p : ℕ) (forest : Forest) → IsPath (os ++ p ∷ []) forest → IsPath os forest
shorter [] p forest path = tt
shorter (o ∷ os) p empty path = absurd path
shorter (o ∷ os) p (tree i content kids empty) path = (path.0, path.1, shorter os p kids path.2)
shorter (o ∷ os) p (tree i content kids (tree j other below later)) path = shorter (o ∷ os) p (tree j other below later) path

-- The same of the open elements, the innermost first.

regroup : (xs : List ℕ) (x y : ℕ) → (xs ++ x ∷ []) ++ y ∷ [] ≡ xs ++ x ∷ (y ∷ [])
regroup xs x y = append_assoc xs (x ∷ []) (y ∷ [])

outermost_first : (x : ℕ) (xs : List ℕ) → reverse (x ∷ xs) ≡ reverse xs ++ x ∷ []
outermost_first x xs = reverse-append (x ∷ []) xs

path_of : (o : OpenElement) (os : List OpenElement) (dom : DomState) → IsOpenDocument (ids_of (o ∷ os)) dom → IsPath (reverse (ids_of os) ++ o.id.0 ∷ []) dom.forest
path_of o os dom h = subst (λ xs. IsPath xs dom.forest) (outermost_first o.id.0 (ids_of os)) h.path

pub may_append : (opened : List OpenElement) (dom : DomState) → IsOpenDocument (ids_of opened) dom → MayHaveChildren (innermost opened) dom.forest
may_append [] dom h = tt
may_append (o ∷ os) dom h = path_element (reverse (ids_of os)) o.id.0 dom.forest h.numbered.once (path_of o os dom h)

pub document_appended : (opened : List OpenElement) (node : NewNode) (dom : DomState) → IsOpenDocument (ids_of opened) dom
    → IsNumbered (with_appended (innermost opened) node dom) → IsOpenDocument (ids_of opened) (with_appended (innermost opened) node dom)
document_appended [] node dom h n = record { numbered = n; path = tt }
document_appended (o ∷ os) node dom h n = record {
  numbered = n;
  path = subst (λ xs. IsPath xs (with_last (Some o.id) (tree dom.next node empty empty) dom.forest)) (sym (outermost_first o.id.0 (ids_of os)))
      (grows (reverse (ids_of os)) o.id.0 [] (tree dom.next node empty empty) (λ kids. tt) dom.forest h.numbered.once (path_of o os dom h));
}

pub document_added : (opened : List OpenElement) (parent : Option NodeId) (node : NewNode) (dom new : DomState) → IsOpenDocument (ids_of opened) dom
    → parent ≡ innermost opened → new ≡ with_appended parent node dom → IsNumbered new → IsOpenDocument (ids_of opened) new
document_added opened parent node dom new h p e n =
    let is : new ≡ with_appended (innermost opened) node dom = e ∙ ap (λ (o : Option NodeId). with_appended o node dom) p in
    subst (IsOpenDocument (ids_of opened)) (sym is) (document_appended opened node dom h (subst IsNumbered is n))

pub document_opened : (opened : List OpenElement) (node : NewNode) (name : List ℕ) (dom : DomState) → IsElement (Some node) → IsOpenDocument (ids_of opened) dom
    → IsNumbered (with_appended (innermost opened) node dom)
    → IsOpenDocument (ids_of (record { id = record { 0 = dom.next }; name = name } ∷ opened)) (with_appended (innermost opened) node dom)
document_opened [] node name dom is h n = record { numbered = n; path = ends_with dom.next node is dom.forest }
document_opened (o ∷ os) node name dom is h n = record {
  numbered = n;
  path = subst (λ xs. IsPath xs (with_last (Some o.id) (tree dom.next node empty empty) dom.forest))
      (sym (outermost_first dom.next (ids_of (o ∷ os)) ∙ ap (λ xs. xs ++ dom.next ∷ []) (outermost_first o.id.0 (ids_of os)) ∙ regroup (reverse (ids_of os)) o.id.0 dom.next))
      (grows (reverse (ids_of os)) o.id.0 (dom.next ∷ []) (tree dom.next node empty empty) (ends_with dom.next node is) dom.forest h.numbered.once (path_of o os dom h));
}

pub document_closed : (o : OpenElement) (os : List OpenElement) (dom : DomState) → IsOpenDocument (ids_of (o ∷ os)) dom → IsOpenDocument (ids_of os) dom
document_closed o os dom h = record { numbered = h.numbered; path = shorter (reverse (ids_of os)) o.id.0 dom.forest (path_of o os dom h) }

pub document_pushed : (old now : List OpenElement) (parent : Option NodeId) (id : NodeId) (node : NewNode) (name : List ℕ) (dom new : DomState) → IsElement (Some node)
    → IsOpenDocument (ids_of (reverse old)) dom → parent ≡ innermost (reverse old) → new ≡ with_appended parent node dom → IsNumbered new → id.0 ≡ dom.next
    → now ≡ old ++ record { id = id; name = name } ∷ [] → IsOpenDocument (ids_of (reverse now)) new
document_pushed old now parent id node name dom new is h p e n i items =
    let opened = reverse old in
    let new_is : new ≡ with_appended (innermost opened) node dom = e ∙ ap (λ (o : Option NodeId). with_appended o node dom) p in
    let stack : reverse now ≡ record { id = record { 0 = dom.next }; name = name } ∷ opened =
    ap (λ xs. reverse xs) items ∙ reverse-append old (record { id = id; name = name } ∷ []) ∙ ap (λ k. record { id = record { 0 = k }; name = name } ∷ reverse old) i in
    subst (λ os. IsOpenDocument (ids_of os) new) (sym stack)
    (subst (IsOpenDocument (ids_of (record { id = record { 0 = dom.next }; name = name } ∷ opened))) (sym new_is) (document_opened opened node name dom is h (subst IsNumbered new_is n)))
