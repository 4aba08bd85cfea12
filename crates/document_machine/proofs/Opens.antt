-- The edits keep the open elements of a document.
use Rattle.std.proofs.Common.{◌≡◌, ℕ, ◌+◌, ◌<◌, ◌≤◌, ◌==◌, Bool, true, false, if◌then◌else◌, ◌||◌, inl, inr, Some, List, [], ◌∷◌, reverse, refl, sym, ap, ◌∙◌, subst, arith}
use Rattle.std.specs.List.{list_any}
use Rattle.std.proofs.lemmas.Bool.{eq-eqb, cases_eq}
use Rattle.std.proofs.lemmas.List.{reverse-append}
use Rattle.std.proofs.lemmas.List.Folds.{list_any-append}
use Rattle.dom_forest.specs.declared.node.NewNode.{NewNode}
use Rattle.dom_forest.specs.declared.node.NewNode.TheVariants.{Element, Text, Comment}
use Rattle.dom_forest.specs.Forest.{Forest, empty, tree, times, joined_forests, from, first_content, first_later, content_of, later_of, IsThere, IsElement, IsComment}
use Rattle.dom_forest.specs.Edits.{DomState, with_change, numbered_from, without_node, with_before, with_content, with_digest_at, digest_set}
use Rattle.document_machine.specs.Edits.{from_sibling, without_range}
use Rattle.document_machine.specs.Paths.{IsPath, IsOpenDocument}
use Rattle.document_machine.proofs.Spots.{Change, absent, spot, path_past}
use Rattle.document_machine.proofs.Shapes.{tops}
use Rattle.document_machine.proofs.Finding.{element_not_comment, stands_from}
use Rattle.document_machine.proofs.Numbering.{numbered_without, numbered_range, numbered_content, numbered_digest, numbered_before}

any_swap : (a b : Bool) → (a || (b || false)) ≡ (b || a)
any_swap true true = refl
any_swap true false = refl
any_swap false true = refl
any_swap false false = refl

pub list_any_reverse : {X : Type 0} (p : X → Bool) (xs : List X) → list_any p (reverse xs) ≡ list_any p xs
list_any_reverse p [] = refl
list_any_reverse p (x ∷ xs) =
    ap (list_any p) (reverse-append (x ∷ []) xs) ∙ list_any-append p (reverse xs) (x ∷ []) ∙ any_swap (list_any p (reverse xs)) (p x)
    ∙ ap (λ b. p x || b) (list_any_reverse p xs)

abbrev nobody : ℕ → Bool
nobody o = false

list_any_nobody : (os : List ℕ) → list_any nobody os ≡ false
list_any_nobody [] = refl
list_any_nobody (o ∷ os) = list_any_nobody os

-- The change of a node keeps a path if it keeps what follows from the node on.
path_changed : (id : ℕ) (change : Change) (os : List ℕ) (test : ℕ → Bool) (forest : Forest) → times id forest ≤ 1 → IsPath os forest → list_any test os ≡ false
    → ((content : NewNode) (kids later : Forest) → from id forest ≡ tree id content kids later → (o : ℕ) (rest : List ℕ) → test o ≡ false
    → IsPath (o ∷ rest) (tree id content kids later) → IsPath (o ∷ rest) (change content kids later)) → IsPath os (with_change id change forest)
path_changed id change os test forest once p none keeps = elim (cases_eq (times id forest) 0) [
  | inl gone ↦ subst (IsPath os) (sym ((absent id forest gone).same change)) p
  | inr some ↦ let s = spot id forest (omega arith) in
      subst (IsPath os) (sym (s.edited change)) (s.keeps os test (change s.content s.kids s.later) p none (keeps s.content s.kids s.later s.found))
]

last_goes : (id : ℕ) (content : NewNode) (kids later : Forest) (o : ℕ) (rest : List ℕ) → (o == id) ≡ false → IsPath (o ∷ rest) (tree id content kids later) → IsPath (o ∷ rest) later
last_goes id content kids empty o rest other p = let same : (o == id) ≡ true = eq-eqb o id (sym p.0) in absurd cc
last_goes id content kids (tree j below lower after) o rest other p = p

last_said : (id : ℕ) (content node : NewNode) (kids later : Forest) (o : ℕ) (rest : List ℕ) → IsComment (Some content) → IsPath (o ∷ rest) (tree id content kids later) → IsPath (o ∷ rest) (tree id node kids later)
last_said id content node kids empty o rest is p = absurd (element_not_comment (Some content) p.1 is)
last_said id content node kids (tree j below lower after) o rest is p = p

digest_element : (digest : List ℕ) (content : NewNode) → IsElement (Some content) → IsElement (Some (digest_set digest content))
digest_element digest (Element name attributes) h = tt
digest_element digest (Text text) h = h
digest_element digest (Comment mark) h = h

last_dressed : (id : ℕ) (digest : List ℕ) (content : NewNode) (kids later : Forest) (o : ℕ) (rest : List ℕ) → IsPath (o ∷ rest) (tree id content kids later)
    → IsPath (o ∷ rest) (tree id (digest_set digest content) kids later)
last_dressed id digest content kids empty o rest p = (p.0, digest_element digest content p.1, p.2)
last_dressed id digest content kids (tree j below lower after) o rest p = p

last_after : (o : ℕ) (rest : List ℕ) (part forest : Forest) → IsPath (o ∷ rest) forest → IsPath (o ∷ rest) (joined_forests part forest)
last_after o rest empty forest p = p
last_after o rest (tree i content kids later) forest p = path_past o rest i content kids (joined_forests later forest) (last_after o rest later forest p)

last_of : (o : ℕ) (rest : List ℕ) (i : ℕ) (content : NewNode) (kids later : Forest) (end : ℕ) → 0 < tops end later → IsPath (o ∷ rest) (tree i content kids later) → IsPath (o ∷ rest) later
last_of o rest i content kids empty end h p = absurd (omega arith)
last_of o rest i content kids (tree j below lower after) end h p = p

last_from : (o : ℕ) (rest : List ℕ) (end : ℕ) (forest : Forest) → 0 < tops end forest → IsPath (o ∷ rest) forest → IsPath (o ∷ rest) (from_sibling end forest)
last_from o rest end empty h p = absurd p
last_from o rest end (tree i content kids later) h p = suffix (i == end) h p (last_from o rest end later) where
  suffix : (b : Bool) → 0 < (if b then 1 else 0) + tops end later → IsPath (o ∷ rest) (tree i content kids later)
      → (0 < tops end later → IsPath (o ∷ rest) later → IsPath (o ∷ rest) (from_sibling end later))
      → IsPath (o ∷ rest) (if b then tree i content kids later else from_sibling end later)
  suffix true h p after = p
  suffix false h p after = after (omega arith) (last_of o rest i content kids later end (omega arith) p)

module _ (opened : List ℕ) (dom : DomState) (d : IsOpenDocument opened dom) where
  pub open_without : (id : ℕ) → list_any (λ n. n == id) opened ≡ false → IsOpenDocument opened (without_node id dom)
  open_without id closed = record {
    numbered = numbered_without id dom d.numbered;
    path = path_changed id _ (reverse opened) (λ n. n == id) dom.forest (d.numbered.once id) d.path (list_any_reverse (λ n. n == id) opened ∙ closed)
        (λ content kids later found o rest other p. last_goes id content kids later o rest other p);
  }

  pub open_said : (id : ℕ) (node : NewNode) → IsComment (content_of id dom.forest) → IsOpenDocument opened (with_content id node dom)
  open_said id node is = record {
    numbered = numbered_content id node dom d.numbered;
    path = path_changed id _ (reverse opened) nobody dom.forest (d.numbered.once id) d.path (list_any_nobody (reverse opened))
        (λ content kids later found o rest other p. last_said id content node kids later o rest (subst (λ f. IsComment (first_content f)) found is) p);
  }

  pub open_dressed : (id : ℕ) (digest : List ℕ) → IsOpenDocument opened (with_digest_at id digest dom)
  open_dressed id digest = record {
    numbered = numbered_digest id digest dom d.numbered;
    path = path_changed id _ (reverse opened) nobody dom.forest (d.numbered.once id) d.path (list_any_nobody (reverse opened))
        (λ content kids later found o rest other p. last_dressed id digest content kids later o rest p);
  }

  pub open_before : (id : ℕ) (part : DomState) → IsOpenDocument opened (with_before id part dom)
  open_before id part = record {
    numbered = numbered_before id part dom d.numbered;
    path = path_changed id _ (reverse opened) nobody dom.forest (d.numbered.once id) d.path (list_any_nobody (reverse opened))
        (λ content kids later found o rest other p. last_after o rest (numbered_from dom.next part.forest) (tree id content kids later) p);
  }

  pub open_range : (first end : ℕ) → IsThere end (from_sibling end (later_of first dom.forest)) → IsOpenDocument opened (without_range first end dom)
  open_range first end stands = record {
    numbered = numbered_range first end dom d.numbered;
    path = path_changed first _ (reverse opened) nobody dom.forest (d.numbered.once first) d.path (list_any_nobody (reverse opened))
        (λ content kids later found o rest other p.
        let after : 0 < tops end later = omega (arith, stands_from end (later_of first dom.forest) stands, ap (λ f. tops end (first_later f)) found) in
        last_from o rest end later after (last_of o rest first content kids later end after p));
  }
