-- The first kid of a segment, and the one after a kid.
use Rattle.std.proofs.Common.{◌≡◌, ℕ, true, List, [], ◌∷◌, ◌++◌, Option, Some, None, sym, ◌∙◌, ap, subst, refl}
use Rattle.std.proofs.lemmas.List.{append_assoc}
use Rattle.std.proofs.lemmas.Bool.{eqb-true}
use Rattle.fizz_segment.specs.Tree.{IsKidThere, after, first_of, is_kid, is_parent, kids_of, next_of, part_at}
use Rattle.fizz_segment.specs.declared.segment.Part.{Part}
use Rattle.flush_queues.specs.Frames.{IsKidIf, kids_from}

-- what the laws of kids say of one list of segments
pub record KidLaws (parts : List (Option Part)) : Type 0 where
  pub stands : (kid id : ℕ) (part : Part) → part_at parts kid ≡ Some part → part.parent ≡ Some id
      → (before : List ℕ) × (later : List ℕ) × (kids_of parts id ≡ before ++ kid ∷ later)
  pub there : (id kid : ℕ) (before later : List ℕ) → kids_of parts id ≡ before ++ kid ∷ later
      → IsKidThere parts id kid (kids_of parts id) later

module _ (parts : List (Option Part)) (laws : KidLaws parts) where
  pub IsKidIf-first_of : (id : ℕ) (kids : List ℕ) → kids_of parts id ≡ kids → IsKidIf parts id (first_of kids)
  IsKidIf-first_of id [] is = tt
  IsKidIf-first_of id (kid ∷ later) is = (laws.there id kid [] later is).is_one

  -- what stands after some kids of a segment: their kids, from the first on
  kids_from-later : (id : ℕ) (before later : List ℕ) → kids_of parts id ≡ before ++ later
      → kids_from parts id (first_of later) ≡ later
  kids_from-later id before [] is = refl
  kids_from-later id before (kid ∷ later) is = ap (λ ks. kid ∷ ks) (laws.there id kid before later is).is_later

  IsKidIf-later : (id : ℕ) (before later : List ℕ) → kids_of parts id ≡ before ++ later → IsKidIf parts id (first_of later)
  IsKidIf-later id before [] is = tt
  IsKidIf-later id before (kid ∷ later) is = (laws.there id kid before later is).is_one

  pub record IsNextOf (id kid : ℕ) (next : Option ℕ) : Type 0 where
    pub kids : kids_from parts id next ≡ after kid (kids_of parts id)
    pub is_kid : IsKidIf parts id next

  next_after : (id kid : ℕ) (before later : List ℕ) → kids_of parts id ≡ before ++ kid ∷ later
      → IsNextOf id kid (first_of (after kid (kids_of parts id)))
  next_after id kid before later is =
      let is_later : after kid (kids_of parts id) ≡ later = (laws.there id kid before later is).is_later in
      let joined : kids_of parts id ≡ (before ++ kid ∷ []) ++ later = is ∙ sym (append_assoc before (kid ∷ []) later) in
      record {
        kids = subst (λ ks. kids_from parts id (first_of ks) ≡ ks) (sym is_later)
            (kids_from-later id (before ++ kid ∷ []) later joined);
        is_kid = subst (λ ks. IsKidIf parts id (first_of ks)) (sym is_later)
            (IsKidIf-later id (before ++ kid ∷ []) later joined);
      }

  next_of_part : (id kid : ℕ) (part : Part) → part_at parts kid ≡ Some part → part.parent ≡ Some id
      → IsNextOf id kid (next_of parts part.parent kid)
  next_of_part id kid part stands parent_is =
      let found = laws.stands kid id part stands parent_is in
      subst (λ (p : Option ℕ). IsNextOf id kid (next_of parts p kid)) (sym parent_is)
      (next_after id kid found.0 found.1 found.2)

  -- a parent by the test is one
  parent_of_test : (id : ℕ) (parent : Option ℕ) → is_parent id parent ≡ true → parent ≡ Some id
  parent_of_test id None passes = absurd cc
  parent_of_test id (Some p) passes = ap Some (sym (eqb-true id p passes))

  pub next_of-IsNextOf : (id kid : ℕ) (part : Part) (next : Option ℕ) → part_at parts kid ≡ Some part
      → next ≡ next_of parts part.parent kid → is_kid id (part_at parts kid) ≡ true → IsNextOf id kid next
  next_of-IsNextOf id kid part next stands is passes =
      let tested : is_kid id (Some part) ≡ true = subst (λ p. is_kid id p ≡ true) stands passes in
      subst (λ n. IsNextOf id kid n) (sym is)
      (next_of_part id kid part stands (parent_of_test id part.parent tested))
