-- The open elements of alike forests.
use Rattle.std.proofs.Common.{◌≡◌, ℕ, ◌≤◌, ◌==◌, Bool, true, false, ◌||◌, List, [], ◌∷◌, ◌++◌, length, Some, refl, sym, ap, ◌∙◌, subst, arith}
use Rattle.std.specs.List.{list_any}
use Rattle.std.proofs.lemmas.Bool.{eq-eqb}
use Rattle.dom_forest.specs.Forest.{Forest, empty, tree, times}
use Rattle.dom_forest.specs.declared.node.Mark.TheVariants.{Space}
use Rattle.dom_forest.specs.declared.node.NewNode.{NewNode}
use Rattle.dom_forest.specs.declared.node.NewNode.TheVariants.{Comment}
use Rattle.document_machine.specs.Edits.{waits}
use Rattle.document_machine.specs.Paths.{IsPath}
use Rattle.page_laws.proofs.Contexts as context
use Rattle.page_laws.proofs.Contexts.{Context, plug, times-plug}
use Rattle.page_laws.proofs.MachineEdits.{one_self, one_zero}
use Rattle.like_laws.specs.Alike.{Alike, both, ends, left, right}
use Rattle.like_laws.proofs.AlikeContexts.{AlikeContext, Pair, after, aside, before, here, pair_after, pair_here, pair_left, pair_right, pair_under, under}

-- Separators alone have no open element.
spaces_left : (m n : Bool) (f g : Forest) → Alike m n f g → g ≡ empty → (o : ℕ) (os : List ℕ) → IsPath (o ∷ os) f → ⊥
spaces_left _ _ _ _ (ends m) e o os p = p
spaces_left _ _ _ _ (left m n i empty g r) e o os p = p.1
spaces_left _ _ _ _ (left m n i (tree k c kids later) g r) e o os p = spaces_left false n (tree k c kids later) g r e o os p
spaces_left _ _ _ _ (right m n j f g r) e o os p = absurd (let z : tree j (Comment Space) empty g ≡ empty = e in cc)
spaces_left _ _ _ _ (both m n i j c d kids others f g s a k l) e o os p = absurd (let z : tree j d others g ≡ empty = e in cc)

spaces_right : (m n : Bool) (f g : Forest) → Alike m n f g → f ≡ empty → (o : ℕ) (os : List ℕ) → IsPath (o ∷ os) g → ⊥
spaces_right _ _ _ _ (ends m) e o os p = p
spaces_right _ _ _ _ (left m n i f g r) e o os p = absurd (let z : tree i (Comment Space) empty f ≡ empty = e in cc)
spaces_right _ _ _ _ (right m n j f empty r) e o os p = p.1
spaces_right _ _ _ _ (right m n j f (tree k c kids later) r) e o os p = spaces_right m false f (tree k c kids later) r e o os p
spaces_right _ _ _ _ (both m n i j c d kids others f g s a k l) e o os p = absurd (let z : tree i c kids f ≡ empty = e in cc)

-- What is on a path is there.
path_absent : (n : ℕ) (os : List ℕ) (f : Forest) → IsPath os f → times n f ≡ 0 → list_any (λ o. o == n) os ≡ false
path_absent n [] f p z = refl
path_absent n (o ∷ os) empty p z = absurd p
path_absent n (o ∷ os) (tree i c kids empty) p z =
    ap (λ b. b || list_any (λ o. o == n) os) (ap (λ k. k == n) (sym p.0) ∙ one_zero (i == n) (omega arith)) ∙ path_absent n os kids p.2 (omega arith)
path_absent n (o ∷ os) (tree i c kids (tree j d below later)) p z = path_absent n (o ∷ os) (tree j d below later) p (omega arith)

-- Past an earlier sibling of the part.
path_rest : (o : ℕ) (os : List ℕ) (i : ℕ) (c : NewNode) (k : Forest) (C : Context) (n : ℕ) (x : NewNode) (kids later : Forest) → IsPath (o ∷ os) (tree i c k (plug C (tree n x kids later)))
    → IsPath (o ∷ os) (plug C (tree n x kids later))
path_rest o os i c k context.here n x kids later p = p
path_rest o os i c k (context.under j d C l) n x kids later p = p
path_rest o os i c k (context.after j d below C) n x kids later p = p

not_open : (o n : ℕ) (os : List ℕ) → list_any (λ m. m == n) (o ∷ os) ≡ false → ((o == n) ≡ false) × (list_any (λ m. m == n) os ≡ false)
not_open o n os e = by (o == n) e where
  by : (b : Bool) → (b || list_any (λ m. m == n) os) ≡ false → (b ≡ false) × (list_any (λ m. m == n) os ≡ false)
  by true e = absurd (let z : true ≡ false = e in cc)
  by false e = (refl, e)

not_first : (o n : ℕ) (os : List ℕ) (i : ℕ) → i ≡ o → i ≡ n → list_any (λ m. m == n) (o ∷ os) ≡ false → ⊥
not_first o n os i p q e =
    let apart : (o == n) ≡ false = (not_open o n os e).0 in
    let same : (o == n) ≡ true = eq-eqb o n (sym p ∙ q) in
    cc

-- An element that is not open in one forest is not open in the other.
module _ (n n' : ℕ) (x x' : NewNode) (kids kids' l l' : Forest) where
  closed_both : (m m' y y' : Bool) (C D : Context) → AlikeContext m m' C D y y' → Alike (waits (Some x)) (waits (Some x')) l l'
      → ((j : ℕ) → times j (plug D (tree n' x' kids' l')) ≤ 1) → (os os' : List ℕ) → length os ≡ length os'
      → IsPath os (plug C (tree n x kids l)) → IsPath os' (plug D (tree n' x' kids' l')) → list_any (λ o. o == n) os ≡ false → list_any (λ o. o == n') os' ≡ false
  closed_both m m' y y' C D r later once os [] size p q none = refl
  closed_both m m' y y' C D r later once [] (o' ∷ os') size p q none = absurd (omega arith)
  closed_both _ _ _ _ _ _ (here m m') later once (o ∷ os) (o' ∷ os') size p q none = by l l' later p q once where
    by : (l l' : Forest) → Alike (waits (Some x)) (waits (Some x')) l l' → IsPath (o ∷ os) (tree n x kids l) → IsPath (o' ∷ os') (tree n' x' kids' l')
        → ((j : ℕ) → times j (tree n' x' kids' l') ≤ 1) → list_any (λ o. o == n') (o' ∷ os') ≡ false
    by empty l' r p q once = absurd (not_first o n os n p.0 refl none)
    by (tree k c below rest) empty r p q once = absurd (spaces_left (waits (Some x)) (waits (Some x')) (tree k c below rest) empty r refl o os p)
    by (tree k c below rest) (tree k' c' below' rest') r p q once = path_absent n' (o' ∷ os') (tree k' c' below' rest') q (omega (arith, once n', one_self n'))
  closed_both _ _ _ _ _ _ (under m m' y y' i j c d C D f g e a r s) later once (o ∷ os) (o' ∷ os') size p q none =
      by f g s p q once (λ once' size' p' q' none'. closed_both false false y y' C D r later once' os os' size' p' q' none') where
        there : 1 ≤ times n' (plug D (tree n' x' kids' l'))
        there = omega (arith, times-plug n' D (tree n' x' kids' l'), one_self n')

        by : (f g : Forest) → Alike (waits (Some c)) (waits (Some d)) f g → IsPath (o ∷ os) (tree i c (plug C (tree n x kids l)) f)
            → IsPath (o' ∷ os') (tree j d (plug D (tree n' x' kids' l')) g) → ((k : ℕ) → times k (tree j d (plug D (tree n' x' kids' l')) g) ≤ 1)
            → (((k : ℕ) → times k (plug D (tree n' x' kids' l')) ≤ 1) → length os ≡ length os' → IsPath os (plug C (tree n x kids l)) → IsPath os' (plug D (tree n' x' kids' l'))
            → list_any (λ o. o == n) os ≡ false → list_any (λ o. o == n') os' ≡ false) → list_any (λ o. o == n') (o' ∷ os') ≡ false
        by empty empty s p q once inside =
            let apart : (j == n') ≡ false = one_zero (j == n') (omega (arith, once n', there)) in
            ap (λ k. (k == n') || list_any (λ o. o == n') os') (sym q.0) ∙ ap (λ b. b || list_any (λ o. o == n') os') apart
            ∙ inside (λ k. omega (arith, once k)) (omega arith) p.2 q.2 (not_open o n os none).1
        by empty (tree k c' below rest) s p q once inside = absurd (spaces_right (waits (Some c)) (waits (Some d)) empty (tree k c' below rest) s refl o' os' q)
        by (tree k c' below rest) empty s p q once inside = absurd (spaces_left (waits (Some c)) (waits (Some d)) (tree k c' below rest) empty s refl o os p)
        by (tree k c' below rest) (tree k' c'' below' rest') s p q once inside = path_absent n' (o' ∷ os') (tree k' c'' below' rest') q (omega (arith, once n', there))
  closed_both _ _ _ _ _ _ (after m m' y y' i j c d above beside C D e a k r) later once (o ∷ os) (o' ∷ os') size p q none =
      closed_both (waits (Some c)) (waits (Some d)) y y' C D r later (λ b. omega (arith, once b)) (o ∷ os) (o' ∷ os') size (path_rest o os i c above C n x kids l p) (path_rest o' os' j d beside D n' x' kids' l' q) none
  closed_both _ _ _ _ _ _ (before m m' y y' i C D r) later once (o ∷ os) (o' ∷ os') size p q none =
      closed_both false m' y y' C D r later once (o ∷ os) (o' ∷ os') size (path_rest o os i (Comment Space) empty C n x kids l p) q none
  closed_both _ _ _ _ _ _ (aside m m' y y' i C D r) later once (o ∷ os) (o' ∷ os') size p q none =
      closed_both m false y y' C D r later (λ b. omega (arith, once b)) (o ∷ os) (o' ∷ os') size p (path_rest o' os' i (Comment Space) empty D n' x' kids' l' q) none

pub closed_pair : (f g : Forest) (n n' : ℕ) → Pair false false f g n n' → ((j : ℕ) → times j g ≤ 1) → (os os' : List ℕ) → length os ≡ length os' → IsPath os f → IsPath os' g
    → list_any (λ o. o == n) os ≡ false → list_any (λ o. o == n') os' ≡ false
closed_pair f g n n' r once os os' size p q none =
    closed_both n n' r.c r.d r.kids r.others r.later r.rest false false r.x r.y r.C r.D r.contexts r.outer (λ j. subst (λ h. times j h ≤ 1) r.second_is (once j)) os os' size
    (subst (IsPath os) r.first_is p) (subst (IsPath os') r.second_is q) none

-- The innermost open elements are the same.

pub last_pair : (o o' : ℕ) (m n : Bool) (f g : Forest) → Alike m n f g → (os os' : List ℕ) → length os ≡ length os' → IsPath (os ++ o ∷ []) f → IsPath (os' ++ o' ∷ []) g → Pair m n f g o o'
last_pair o o' _ _ _ _ (ends m) [] os' size p q = absurd p
last_pair o o' _ _ _ _ (ends m) (x ∷ os) os' size p q = absurd p
last_pair o o' _ _ _ _ (left m n i empty g r) [] os' size p q = absurd p.1
last_pair o o' _ _ _ _ (left m n i empty g r) (x ∷ os) os' size p q = absurd p.1
last_pair o o' _ _ _ _ (left m n i (tree k c kids f) g r) [] os' size p q =
    let s = last_pair o o' false n (tree k c kids f) g r [] os' size p q in
    pair_left m n i o o' (tree k c kids f) g s
last_pair o o' _ _ _ _ (left m n i (tree k c kids f) g r) (x ∷ os) os' size p q =
    let s = last_pair o o' false n (tree k c kids f) g r (x ∷ os) os' size p q in
    pair_left m n i o o' (tree k c kids f) g s
last_pair o o' _ _ _ _ (right m n i f empty r) os [] size p q = absurd q.1
last_pair o o' _ _ _ _ (right m n i f empty r) os (x ∷ os') size p q = absurd q.1
last_pair o o' _ _ _ _ (right m n i f (tree k c kids g) r) os [] size p q =
    let s = last_pair o o' m false f (tree k c kids g) r os [] size p q in
    pair_right m n i o o' f (tree k c kids g) s
last_pair o o' _ _ _ _ (right m n i f (tree k c kids g) r) os (x ∷ os') size p q =
    let s = last_pair o o' m false f (tree k c kids g) r os (x ∷ os') size p q in
    pair_right m n i o o' f (tree k c kids g) s
last_pair o o' _ _ _ _ (both m n i j c d kids others f g s a k l) os os' size p q =
    by f g l os os' size p q (λ ys ys' e u v. last_pair o o' false false kids others k ys ys' e u v) (λ ys ys' e u v. last_pair o o' (waits (Some c)) (waits (Some d)) f g l ys ys' e u v) where
      by : (f g : Forest) → Alike (waits (Some c)) (waits (Some d)) f g → (os os' : List ℕ) → length os ≡ length os' → IsPath (os ++ o ∷ []) (tree i c kids f) → IsPath (os' ++ o' ∷ []) (tree j d others g)
          → ((ys ys' : List ℕ) → length ys ≡ length ys' → IsPath (ys ++ o ∷ []) kids → IsPath (ys' ++ o' ∷ []) others → Pair false false kids others o o')
          → ((ys ys' : List ℕ) → length ys ≡ length ys' → IsPath (ys ++ o ∷ []) f → IsPath (ys' ++ o' ∷ []) g → Pair (waits (Some c)) (waits (Some d)) f g o o')
          → Pair m n (tree i c kids f) (tree j d others g) o o'
      by empty empty l [] (y ∷ ys) size p q down on = absurd (omega arith)
      by empty empty l (y ∷ ys) [] size p q down on = absurd (omega arith)
      by empty empty l [] [] size p q down on =
          subst (λ t. Pair m n (tree i c kids empty) (tree j d others empty) t o') p.0
          (subst (λ t. Pair m n (tree i c kids empty) (tree j d others empty) i t) q.0 (pair_here m n i j c d kids others empty empty s a k l))
      by empty empty l (y ∷ ys) (y' ∷ ys') size p q down on =
          let t = down ys ys' (omega arith) p.2 q.2 in
          pair_under m n i j o o' c d kids others empty empty s a l t
      by empty (tree b x below rest) l os [] size p q down on = absurd (spaces_right (waits (Some c)) (waits (Some d)) empty (tree b x below rest) l refl o' [] q)
      by empty (tree b x below rest) l os (y ∷ ys) size p q down on = absurd (spaces_right (waits (Some c)) (waits (Some d)) empty (tree b x below rest) l refl y (ys ++ o' ∷ []) q)
      by (tree b x below rest) empty l [] os' size p q down on = absurd (spaces_left (waits (Some c)) (waits (Some d)) (tree b x below rest) empty l refl o [] p)
      by (tree b x below rest) empty l (y ∷ ys) os' size p q down on = absurd (spaces_left (waits (Some c)) (waits (Some d)) (tree b x below rest) empty l refl y (ys ++ o ∷ []) p)
      by (tree b x below rest) (tree b' x' below' rest') l [] [] size p q down on =
          let t = on [] [] refl p q in
          pair_after m n i j o o' c d kids others (tree b x below rest) (tree b' x' below' rest') s a k t
      by (tree b x below rest) (tree b' x' below' rest') l [] (y ∷ ys) size p q down on = absurd (omega arith)
      by (tree b x below rest) (tree b' x' below' rest') l (y ∷ ys) [] size p q down on = absurd (omega arith)
      by (tree b x below rest) (tree b' x' below' rest') l (y ∷ ys) (y' ∷ ys') size p q down on =
          let t = on (y ∷ ys) (y' ∷ ys') size p q in
          pair_after m n i j o o' c d kids others (tree b x below rest) (tree b' x' below' rest') s a k t
