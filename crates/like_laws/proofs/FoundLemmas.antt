-- What is found by an id before and after a part of a forest, and where a part of it goes.
use Rattle.std.proofs.Common.{◌≡◌, ℕ, ◌+◌, ◌≤◌, ◌==◌, ◌&&◌, Bool, true, false, if◌then◌else◌, Option, Some, None, List, refl, sym, ap, ◌∙◌, subst, arith}
use Rattle.dom_forest.specs.Forest.{Forest, empty, tree, times, or_id}
use Rattle.dom_forest.specs.Ids.{element_with, has_id}
use Rattle.dom_forest.specs.declared.node.NewNode.{NewNode}
use Rattle.document_machine.specs.Edits.{waits}
use Rattle.page_laws.specs.Nodes.{node, nodes_of, none}
use Rattle.page_laws.proofs.Contexts as context
use Rattle.page_laws.proofs.Contexts.{Context, plug}
use Rattle.page_laws.proofs.MachineEdits.{one_self}
use Rattle.page_laws.proofs.NodesLemmas.{or_id-assoc}
use Rattle.page_laws.proofs.PagesLemmas.{one}
use Rattle.like_laws.specs.Alike.{AgreesAfter, Alike, both, ends, left, right, content_without_digest}
use Rattle.like_laws.specs.Apart.{StandApart, ends_after}
use Rattle.like_laws.proofs.AlikeBoundaries.{stands_after}
use Rattle.like_laws.proofs.AlikeContexts.{AlikeContext, after, aside, before, here, not_found, under}
use Rattle.like_laws.proofs.ContentLemmas.{same_ids}

-- The other way round.

agrees_flipped : (c d : NewNode) (m n : Bool) → content_without_digest c ≡ content_without_digest d → AgreesAfter c m n → AgreesAfter d n m
agrees_flipped c d m n s a id h = sym (a id (same_ids id c d s ∙ h))

pub flipped : (m n : Bool) (f g : Forest) → Alike m n f g → Alike n m g f
flipped _ _ _ _ (ends m) = ends m
flipped _ _ _ _ (left m n i f g r) = right n m i g f (flipped false n f g r)
flipped _ _ _ _ (right m n j f g r) = left n m j g f (flipped m false f g r)
flipped _ _ _ _ (both m n i j c d kids others f g s a k l) =
    both n m j i d c others kids g f (sym s) (agrees_flipped c d m n s a) (flipped false false kids others k) (flipped (waits (Some c)) (waits (Some d)) f g l)

-- What is found before the part, and after it.
abbrev found_before : List ℕ → Context → Option ℕ
found_before id context.here = None
found_before id (context.under i x C l) = if has_id id x then Some i else found_before id C
found_before id (context.after i x k C) = if has_id id x then Some i else or_id (element_with id k) (found_before id C)

abbrev found_after : List ℕ → Context → Option ℕ
found_after id context.here = None
found_after id (context.under i x C l) = or_id (found_after id C) (element_with id l)
found_after id (context.after i x k C) = found_after id C

or_none : (a : Option ℕ) → a ≡ or_id a None
or_none None = refl
or_none (Some n) = refl

found-plug : (id : List ℕ) (C : Context) (f : Forest) → element_with id (plug C f) ≡ or_id (found_before id C) (or_id (element_with id f) (found_after id C))
found-plug id context.here f = or_none (element_with id f)
found-plug id (context.under i x C l) f =
    ap (λ o. if has_id id x then Some i else or_id o (element_with id l)) (found-plug id C f)
    ∙ grouped (has_id id x) i (found_before id C) (element_with id f) (found_after id C) (element_with id l) where
      grouped : (t : Bool) (i : ℕ) (a b c d : Option ℕ) → (if t then Some i else or_id (or_id a (or_id b c)) d) ≡ or_id (if t then Some i else a) (or_id b (or_id c d))
      grouped true i a b c d = refl
      grouped false i a b c d = or_id-assoc a (or_id b c) d ∙ ap (or_id a) (or_id-assoc b c d)
found-plug id (context.after i x k C) f =
    ap (λ o. if has_id id x then Some i else or_id (element_with id k) o) (found-plug id C f)
    ∙ grouped (has_id id x) i (element_with id k) (found_before id C) (or_id (element_with id f) (found_after id C)) where
      grouped : (t : Bool) (i : ℕ) (a b c : Option ℕ) → (if t then Some i else or_id a (or_id b c)) ≡ or_id (if t then Some i else or_id a b) c
      grouped true i a b c = refl
      grouped false i a b c = sym (or_id-assoc a b c)

nothing_some : (n : ℕ) → Some n ≡ None → ⊥
nothing_some n e = cc

none_before : (id : List ℕ) (m n x y : Bool) (C D : Context) → AlikeContext m n C D x y → found_before id D ≡ None → found_before id C ≡ None
none_before id _ _ _ _ _ _ (here m n) e = refl
none_before id _ _ _ _ _ _ (under m n x y i j c d C D f g s a r l) e =
    by (has_id id c) (has_id id d) (same_ids id c d s) e (none_before id false false x y C D r) where
      by : (p q : Bool) → p ≡ q → (if q then Some j else found_before id D) ≡ None → (found_before id D ≡ None → found_before id C ≡ None) → (if p then Some i else found_before id C) ≡ None
      by p true same e h = absurd (nothing_some j e)
      by true false same e h = absurd (let z : true ≡ false = same in cc)
      by false false same e h = h e
none_before id _ _ _ _ _ _ (after m n x y i j c d kids others C D s a k r) e =
    by (has_id id c) (has_id id d) (same_ids id c d s) (element_with id others) refl e (none_before id (waits (Some c)) (waits (Some d)) x y C D r) where
      by : (p q : Bool) → p ≡ q → (o : Option ℕ) → element_with id others ≡ o → (if q then Some j else or_id o (found_before id D)) ≡ None → (found_before id D ≡ None → found_before id C ≡ None)
          → (if p then Some i else or_id (element_with id kids) (found_before id C)) ≡ None
      by p true same o is e h = absurd (nothing_some j e)
      by true false same o is e h = absurd (let z : true ≡ false = same in cc)
      by false false same None is e h =
          ap (λ t. or_id t (found_before id C)) (not_found false false others kids id (flipped false false kids others k) is) ∙ h e
      by false false same (Some z) is e h = absurd (nothing_some z e)
none_before id _ _ _ _ _ _ (before m n x y i C D r) e = none_before id false n x y C D r e
none_before id _ _ _ _ _ _ (aside m n x y j C D r) e = none_before id m false x y C D r e

-- What is found is there.
pub found_there : (id : List ℕ) (n : ℕ) (f : Forest) → element_with id f ≡ Some n → 1 ≤ times n f
found_there id n empty e = absurd (let z : None ≡ Some n = e in cc)
found_there id n (tree i x k l) e = by (has_id id x) (element_with id k) refl e (found_there id n k) (found_there id n l) where
  by : (t : Bool) (o : Option ℕ) → element_with id k ≡ o → (if t then Some i else or_id o (element_with id l)) ≡ Some n → (element_with id k ≡ Some n → 1 ≤ times n k)
      → (element_with id l ≡ Some n → 1 ≤ times n l) → 1 ≤ one (i == n) + times n k + times n l
  by true o is e h g = let same : i ≡ n = (let z : Some i ≡ Some n = e in cc) in omega (arith, ap (λ m. one (m == n)) same, one_self n)
  by false None is e h g = omega (arith, g e)
  by false (Some z) is e h g = omega (arith, h (is ∙ e))

-- A first element that is found by an id outside a container is found where the container goes, in both of two alike
-- forests.
pub record StaysFound (id : List ℕ) (p : ℕ) (C D : Context) (later rest whole : Forest) : Type 0 where
  pub first : element_with id (plug C later) ≡ Some p
  pub second : element_with id whole ≡ element_with id (plug D rest)

module _ (id : List ℕ) (p c c' : ℕ) (x x' : NewNode) (kids kids' later rest : Forest) (apart : times p (tree c x kids empty) ≡ 0) where
  not_inside : (o : Option ℕ) → or_id (element_with id (tree c x kids later)) o ≡ Some p → (has_id id x ≡ false) × (element_with id kids ≡ None)
  not_inside o e = by (has_id id x) refl (element_with id kids) refl e where
    by : (t : Bool) → has_id id x ≡ t → (k : Option ℕ) → element_with id kids ≡ k → or_id (if t then Some c else or_id k (element_with id later)) o ≡ Some p
        → (has_id id x ≡ false) × (element_with id kids ≡ None)
    by true h k is e = let same : c ≡ p = (let z : Some c ≡ Some p = e in cc) in absurd (omega (arith, ap (λ m. one (m == p)) same, one_self p))
    by false h None is e = (h, is)
    by false h (Some z) is e = absurd (omega (arith, found_there id p kids (is ∙ e)))

  passed : (t : ℕ) (w : NewNode) (below l : Forest) → has_id id w ≡ false → element_with id below ≡ None → element_with id (tree t w below l) ≡ element_with id l
  passed t w below l h gone = ap (λ b. if b then Some t else or_id (element_with id below) (element_with id l)) h ∙ ap (λ o. or_id o (element_with id l)) gone

  pub stays_found : (m n y y' : Bool) (C D : Context) → AlikeContext m n C D y y' → content_without_digest x ≡ content_without_digest x' → Alike false false kids kids'
      → element_with id (plug C (tree c x kids later)) ≡ Some p → StaysFound id p C D later rest (plug D (tree c' x' kids' rest))
  stays_found m n y y' C D r s k e = record {
    first = first_by (found_before id C) refl (sym (found-plug id C (tree c x kids later)) ∙ e);
    second = found-plug id D (tree c' x' kids' rest) ∙ second_by (found_before id D) refl ∙ sym (found-plug id D rest);
  } where
    first_by : (o : Option ℕ) → found_before id C ≡ o → or_id (found_before id C) (or_id (element_with id (tree c x kids later)) (found_after id C)) ≡ Some p → element_with id (plug C later) ≡ Some p
    first_by None is e =
        let e' : or_id (element_with id (tree c x kids later)) (found_after id C) ≡ Some p =
        ap (λ o. or_id o (or_id (element_with id (tree c x kids later)) (found_after id C))) (sym is) ∙ e in
        let none = not_inside (found_after id C) e' in
        found-plug id C later ∙ ap (λ o. or_id o (or_id (element_with id later) (found_after id C))) is
        ∙ ap (λ o. or_id o (found_after id C)) (sym (passed c x kids later none.0 none.1)) ∙ e'
    first_by (Some q) is e =
        found-plug id C later ∙ ap (λ o. or_id o (or_id (element_with id later) (found_after id C))) is
        ∙ (ap (λ o. or_id o (or_id (element_with id (tree c x kids later)) (found_after id C))) (sym is) ∙ e)

    second_by : (o : Option ℕ) → found_before id D ≡ o → or_id (found_before id D) (or_id (element_with id (tree c' x' kids' rest)) (found_after id D))
        ≡ or_id (found_before id D) (or_id (element_with id rest) (found_after id D))
    second_by None is =
        let none_first : found_before id C ≡ None = none_before id m n y y' C D r is in
        let e' : or_id (element_with id (tree c x kids later)) (found_after id C) ≡ Some p =
        ap (λ o. or_id o (or_id (element_with id (tree c x kids later)) (found_after id C))) (sym none_first) ∙ (sym (found-plug id C (tree c x kids later)) ∙ e) in
        let none = not_inside (found_after id C) e' in
        ap (λ o. or_id (found_before id D) (or_id o (found_after id D)))
        (passed c' x' kids' rest (sym (same_ids id x x' s) ∙ none.0) (not_found false false kids kids' id k none.1))
    second_by (Some q) is =
        ap (λ o. or_id o (or_id (element_with id (tree c' x' kids' rest)) (found_after id D))) is
        ∙ sym (ap (λ o. or_id o (or_id (element_with id rest) (found_after id D))) is)

-- What stands apart from markers.

pub apart_at : (prefix : List ℕ) (m : Bool) (C : Context) (f : Forest) → StandApart prefix m (plug C f) → StandApart prefix (stands_after m C) f
apart_at prefix m context.here f a = a
apart_at prefix m (context.under i x C l) f a = apart_at prefix false C f a.2
apart_at prefix m (context.after i x k C) f a = apart_at prefix (waits (Some x)) C f a.3

-- A container that goes leaves the others apart.
module _ (prefix : List ℕ) (n : ℕ) (c : NewNode) (k l : Forest) (plain : waits (Some c) ≡ false) where
  ends_without : (m : Bool) (C : Context) → stands_after m C ≡ false → ends_after m (plug C l) ≡ ends_after m (plug C (tree n c k l))
  ends_without m context.here e = ap (λ b. ends_after b l) (e ∙ sym plain)
  ends_without m (context.under i x C f) e = refl
  ends_without m (context.after i x below C) e = ends_without (waits (Some x)) C e

  pub apart_without : (m : Bool) (C : Context) → stands_after m C ≡ false → StandApart prefix m (plug C (tree n c k l)) → StandApart prefix m (plug C l)
  apart_without m context.here e a = subst (λ b. StandApart prefix b l) (plain ∙ sym e) a.3
  apart_without m (context.under i x C f) e a = ((λ h is. ((a.0 h is).0, ends_without false C e ∙ (a.0 h is).1)), a.1, apart_without false C e a.2, a.3)
  apart_without m (context.after i x below C) e a = (a.0, a.1, a.2, apart_without (waits (Some x)) C e a.3)

-- The same nodes, whatever their ids.
pub nodes_alike : (m : Bool) (f g : Forest) → nodes_of f ≡ nodes_of g → Alike m m f g
nodes_alike m empty empty e = ends m
nodes_alike m empty (tree j d others g) e = absurd (let z : none ≡ node d (nodes_of others) (nodes_of g) = e in cc)
nodes_alike m (tree i c kids f) empty e = absurd (let z : node c (nodes_of kids) (nodes_of f) ≡ none = e in cc)
nodes_alike m (tree i c kids f) (tree j d others g) e =
    let z : node c (nodes_of kids) (nodes_of f) ≡ node d (nodes_of others) (nodes_of g) = e in
    let same : c ≡ d = cc in
    let inner : nodes_of kids ≡ nodes_of others = cc in
    let later : nodes_of f ≡ nodes_of g = cc in
    both m m i j c d kids others f g (ap content_without_digest same) (λ id h. refl) (nodes_alike false kids others inner)
    (subst (λ x. Alike (waits (Some c)) (waits (Some x)) f g) same (nodes_alike (waits (Some c)) f g later))

-- What two alike forests have both: as many elements with an id directly after a marker, the same last node, and the same
-- first one.

abbrev pub count_after : List ℕ → Bool → Forest → ℕ
count_after id m empty = 0
count_after id m (tree i c kids later) = one (has_id id c && m) + count_after id false kids + count_after id (waits (Some c)) later

same_one : (p q m n : Bool) → p ≡ q → (p ≡ true → m ≡ n) → one (p && m) ≡ one (q && n)
same_one true q m n e h = ap (λ b. one (true && b)) (h refl) ∙ ap (λ b. one (b && n)) e
same_one false q m n e h = ap (λ b. one (b && n)) e

pub count_after-alike : (id : List ℕ) (m n : Bool) (f g : Forest) → Alike m n f g → count_after id m f ≡ count_after id n g
count_after-alike id _ _ _ _ (ends m) = refl
count_after-alike id _ _ _ _ (left m n i f g r) = omega (arith, count_after-alike id false n f g r)
count_after-alike id _ _ _ _ (right m n j f g r) = omega (arith, count_after-alike id m false f g r)
count_after-alike id _ _ _ _ (both m n i j c d kids others f g s a k l) =
    omega (arith, same_one (has_id id c) (has_id id d) m n (same_ids id c d s) (a id), count_after-alike id false false kids others k, count_after-alike id (waits (Some c)) (waits (Some d)) f g l)

pub ends_after-alike : (m n : Bool) (f g : Forest) → Alike m n f g → ends_after m f ≡ ends_after n g
ends_after-alike _ _ _ _ (ends m) = refl
ends_after-alike _ _ _ _ (left m n i f g r) = ends_after-alike false n f g r
ends_after-alike _ _ _ _ (right m n j f g r) = ends_after-alike m false f g r
ends_after-alike _ _ _ _ (both m n i j c d kids others f g s a k l) = ends_after-alike (waits (Some c)) (waits (Some d)) f g l
