-- Edits at the same places of alike forests leave alike forests.
use Rattle.std.proofs.Common.{◌≡◌, ℕ, ◌+◌, ◌<◌, ◌≤◌, ◌==◌, eqb, Bool, true, false, if◌then◌else◌, Some, List, refl, sym, ap, ◌∙◌, subst, arith}
use Rattle.std.proofs.lemmas.Bool.{cond-true, cond-false, eq-eqb}
use Rattle.dom_forest.specs.Edits.{digest_set, numbered_from, with_change}
use Rattle.dom_forest.specs.Forest.{Forest, count, empty, tree, times, joined_forests}
use Rattle.dom_forest.specs.declared.node.Mark.TheVariants.{Complete, Client, End}
use Rattle.dom_forest.specs.declared.node.NewNode.{NewNode}
use Rattle.dom_forest.specs.declared.node.NewNode.TheVariants.{Comment}
use Rattle.document_machine.specs.Edits.{from_sibling, waits}
use Rattle.document_machine.proofs.Spots.{absent}
use Rattle.page_laws.proofs.Contexts.{Context, plug, around, times-plug, with_change-plug}
use Rattle.page_laws.proofs.MachineEdits.{changed_first, first_once, one_self, one_zero, times-numbered_from, with_change-past}
use Rattle.page_laws.proofs.PagesLemmas.{one}
use Rattle.like_laws.specs.Alike.{AgreesAfter, Alike, both, ends, left, right, content_without_digest}
use Rattle.like_laws.specs.Apart.{ends_after}
use Rattle.like_laws.proofs.AlikeContexts.{AlikeContext, joined_alike, plugged}

-- Other numbers
pub numbered_alike : (m n : Bool) (f g : Forest) → Alike m n f g → (p q : ℕ) → Alike m n (numbered_from p f) (numbered_from q g)
numbered_alike _ _ _ _ (ends m) p q = ends m
numbered_alike _ _ _ _ (left m n i f g r) p q = left m n p (numbered_from (p + 1 + count empty) f) (numbered_from q g) (numbered_alike false n f g r (p + 1 + count empty) q)
numbered_alike _ _ _ _ (right m n j f g r) p q = right m n q (numbered_from p f) (numbered_from (q + 1 + count empty) g) (numbered_alike m false f g r p (q + 1 + count empty))
numbered_alike _ _ _ _ (both m n i j c d kids others f g s o k l) p q =
    both m n p q c d (numbered_from (p + 1) kids) (numbered_from (q + 1) others) (numbered_from (p + 1 + count kids) f) (numbered_from (q + 1 + count others) g) s o
    (numbered_alike false false kids others k (p + 1) (q + 1)) (numbered_alike (waits (Some c)) (waits (Some d)) f g l (p + 1 + count kids) (q + 1 + count others))

pub ends_after-numbered : (m : Bool) (n : ℕ) (f : Forest) → ends_after m (numbered_from n f) ≡ ends_after m f
ends_after-numbered m n empty = refl
ends_after-numbered m n (tree i c kids later) = ends_after-numbered (waits (Some c)) (n + 1 + count kids) later

-- A node that stands once, after another and below nothing of it.
change_after : (p m : ℕ) (g : NewNode → Forest → Forest → Forest) (c : NewNode) (below f : Forest) → (m == p) ≡ false → times p below ≡ 0
    → with_change p g (tree m c below f) ≡ tree m c below (with_change p g f)
change_after p m g c below f e z = cond-false (eqb m p) _ _ e ∙ ap (λ k. tree m c k (with_change p g f)) ((absent p below z).same g)

changed_here : (n : ℕ) (g : NewNode → Forest → Forest → Forest) (c : NewNode) (k l : Forest) → with_change n g (tree n c k l) ≡ g c k l
changed_here n g c k l = cond-true (eqb n n) _ _ (eq-eqb n n refl)

times-from_sibling : (j e : ℕ) (f : Forest) → times j (from_sibling e f) ≤ times j f
times-from_sibling j e empty = omega arith
times-from_sibling j e (tree i c kids later) = by (i == e) (times-from_sibling j e later) where
  by : (b : Bool) → times j (from_sibling e later) ≤ times j later → times j (if b then tree i c kids later else from_sibling e later) ≤ times j (tree i c kids later)
  by true h = omega arith
  by false h = omega (arith, h)

-- A marker, with an element directly after it, and after that the end of the boundary.
module _ (E : Context) (m t e : ℕ) (w x : NewNode) (below kids later z r : Forest)
    (once : (j : ℕ) → times j (plug E (tree m w below (tree t x kids later))) ≤ 1)
    (end_is : from_sibling e later ≡ tree e (Comment End) z r) where
  all_times : (j : ℕ) → times j (plug E (tree m w below (tree t x kids later))) ≡ around j E + (one (m == j) + times j below + (one (t == j) + times j kids + times j later))
  all_times j = times-plug j E (tree m w below (tree t x kids later)) ∙ omega arith

  end_there : 1 ≤ times e later
  end_there =
      let all : times e (from_sibling e later) ≡ one (e == e) + times e z + times e r = ap (times e) end_is in
      omega (arith, all, one_self e, times-from_sibling e e later)

  pub revealed : (put : Forest) → with_change e (λ content k l. joined_forests put (tree e content k l)) (with_change t (λ content k l. from_sibling e l)
      (with_change m (λ content k l. tree m (Comment Complete) k l) (plug E (tree m w below (tree t x kids later)))))
      ≡ plug E (tree m (Comment Complete) below (joined_forests put (tree e (Comment End) z r)))
  revealed put =
      let dress : NewNode → Forest → Forest → Forest = λ content k l. tree m (Comment Complete) k l in
      let cut : NewNode → Forest → Forest → Forest = λ content k l. from_sibling e l in
      let insert : NewNode → Forest → Forest → Forest = λ content k l. joined_forests put (tree e content k l) in
      ap (λ f. with_change e insert (with_change t cut f)) (changed_first E m w below (tree t x kids later) once dress)
      ∙ ap (with_change e insert)
      (with_change-plug t cut E (tree m (Comment Complete) below (tree t x kids later)) (omega (arith, all_times t, once t, one_self t))
      ∙ ap (plug E) (change_after t m cut (Comment Complete) below (tree t x kids later) (one_zero (m == t) (omega (arith, all_times t, once t, one_self t))) (omega (arith, all_times t, once t, one_self t))
      ∙ ap (tree m (Comment Complete) below) (changed_here t cut x kids later ∙ end_is)))
      ∙ (with_change-plug e insert E (tree m (Comment Complete) below (tree e (Comment End) z r)) (omega (arith, all_times e, once e, end_there))
      ∙ ap (plug E) (change_after e m insert (Comment Complete) below (tree e (Comment End) z r) (one_zero (m == e) (omega (arith, all_times e, once e, end_there))) (omega (arith, all_times e, once e, end_there))
      ∙ ap (tree m (Comment Complete) below) (changed_here e insert (Comment End) z r)))

-- The same marker as another one, with the digest at the element.
module _ (E : Context) (m t : ℕ) (w x : NewNode) (below kids later : Forest)
    (once : (j : ℕ) → times j (plug E (tree m w below (tree t x kids later))) ≤ 1) where
  both_times : (j : ℕ) → times j (plug E (tree m w below (tree t x kids later))) ≡ around j E + (one (m == j) + times j below + (one (t == j) + times j kids + times j later))
  both_times j = times-plug j E (tree m w below (tree t x kids later)) ∙ omega arith

  pub failed : with_change m (λ content k l. tree m (Comment Client) k l) (plug E (tree m w below (tree t x kids later))) ≡ plug E (tree m (Comment Client) below (tree t x kids later))
  failed = changed_first E m w below (tree t x kids later) once (λ content k l. tree m (Comment Client) k l)

  pub failed_with : (digest : List ℕ) → with_change t (λ content k l. tree t (digest_set digest content) k l)
      (with_change m (λ content k l. tree m (Comment Client) k l) (plug E (tree m w below (tree t x kids later))))
      ≡ plug E (tree m (Comment Client) below (tree t (digest_set digest x) kids later))
  failed_with digest =
      let set : NewNode → Forest → Forest → Forest = λ content k l. tree t (digest_set digest content) k l in
      ap (with_change t set) failed
      ∙ (with_change-plug t set E (tree m (Comment Client) below (tree t x kids later)) (omega (arith, both_times t, once t, one_self t))
      ∙ ap (plug E) (change_after t m set (Comment Client) below (tree t x kids later) (one_zero (m == t) (omega (arith, both_times t, once t, one_self t))) (omega (arith, both_times t, once t, one_self t))
      ∙ ap (tree m (Comment Client) below) (changed_here t set x kids later)))

-- What stands before a node, which then goes.
pub filled : (D : Context) (p next : ℕ) (y : NewNode) (k l moved : Forest) → ((j : ℕ) → times j (plug D (tree p y k l)) ≤ 1) → p < next
    → with_change p (λ content kids later. later) (with_change p (λ content kids later. joined_forests (numbered_from next moved) (tree p content kids later)) (plug D (tree p y k l)))
    ≡ plug D (joined_forests (numbered_from next moved) l)
filled D p next y k l moved once old =
    let put : Forest = numbered_from next moved in
    let insert : NewNode → Forest → Forest → Forest = λ content kids later. joined_forests put (tree p content kids later) in
    let delete : NewNode → Forest → Forest → Forest = λ content kids later. later in
    ap (with_change p delete) (changed_first D p y k l once insert)
    ∙ (with_change-plug p delete D (joined_forests put (tree p y k l)) (first_once D p y k l once).0
    ∙ ap (plug D) (with_change-past p delete put y k l (times-numbered_from p next moved old)))

-- Alike forests in which the same is put.

pub marker_none : (m n : Bool) (mark : _) → AgreesAfter (Comment mark) m n
marker_none m n mark id h = absurd (let z : false ≡ true = h in cc)

pub reveals_alike : (m n x y : Bool) (E F : Context) (i j e e' : ℕ) (below under put put' z z' r r' : Forest) → AlikeContext m n E F x y → Alike false false below under
    → Alike false false put put' → Alike false false z z' → Alike false false r r'
    → Alike m n (plug E (tree i (Comment Complete) below (joined_forests put (tree e (Comment End) z r)))) (plug F (tree j (Comment Complete) under (joined_forests put' (tree e' (Comment End) z' r'))))
reveals_alike m n x y E F i j e e' below under put put' z z' r r' c b p a q =
    plugged m n x y E F _ _ c
    (both x y i j (Comment Complete) (Comment Complete) below under _ _ refl (marker_none x y Complete) b
    (joined_alike false false put put' _ _ p (λ s _. both s s e e' (Comment End) (Comment End) z z' r r' refl (λ id h. refl) a q)))

pub fails_alike : (m n x y : Bool) (E F : Context) (i j t t' : ℕ) (c d : NewNode) (below under kids others f g : Forest) → AlikeContext m n E F x y → Alike false false below under
    → content_without_digest c ≡ content_without_digest d → Alike false false kids others → Alike (waits (Some c)) (waits (Some d)) f g
    → Alike m n (plug E (tree i (Comment Client) below (tree t c kids f))) (plug F (tree j (Comment Client) under (tree t' d others g)))
fails_alike m n x y E F i j t t' c d below under kids others f g r b s k l =
    plugged m n x y E F _ _ r
    (both x y i j (Comment Client) (Comment Client) below under _ _ refl (marker_none x y Client) b
    (both true true t t' c d kids others f g s (λ id h. refl) k l))

pub fills_alike : (m n : Bool) (C D : Context) (put put' f g : Forest) → AlikeContext m n C D false false → Alike false false put put' → ends_after false put ≡ false → Alike false false f g
    → Alike m n (plug C (joined_forests put f)) (plug D (joined_forests put' g))
fills_alike m n C D put put' f g c p none l =
    plugged m n false false C D _ _ c (joined_alike false false put put' f g p (λ s e. subst (λ t. Alike t t f g) (sym (e ∙ none)) l))
