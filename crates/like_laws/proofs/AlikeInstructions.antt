-- An instruction that can be followed in a document can be in an alike one, and leaves alike ones.
use Rattle.std.proofs.Common.{◌≡◌, ℕ, ◌≤◌, ◌==◌, nat_lt, Bool, true, false, if◌then◌else◌, Option, Some, None, Ok, Err, List, [], ◌∷◌, length, reverse, refl, sym, ap, ◌∙◌, subst, arith}
use Rattle.std.specs.List.{list_any}
use Rattle.std.proofs.lemmas.Bool.{ltb-false}
use Rattle.std.proofs.lemmas.List.{length-reverse}
use Rattle.dom_forest.specs.Boundary.{closing_mark, end_of_boundary}
use Rattle.dom_forest.specs.Edits.{DomState, digest_set, numbered_from, with_change, with_content, without_node}
use Rattle.dom_forest.specs.Forest.{Forest, empty, tree, times, first_kids, first_later, first_tree, from, joined_forests}
use Rattle.dom_forest.specs.Ids.{element_with}
use Rattle.dom_forest.specs.declared.node.Mark.TheVariants.{Client, Complete, End}
use Rattle.dom_forest.specs.declared.node.NewNode.{NewNode}
use Rattle.dom_forest.specs.declared.node.NewNode.TheVariants.{Comment, Element, Text}
use Rattle.fizz_instructions.specs.Bodies.{boundary_id, placeholder_id, segment_id}
use Rattle.document_machine.specs.Edits.{Edited, from_sibling, client_render_at, client_render_from, closed_with, complete_from, fill_at, fill_from, fill_with, marker_of, reveal, reveal_at, unless_open, waits, with_children_before, with_content_revealed, with_digest_unless_empty}
use Rattle.document_machine.specs.Paths.{IsOpenDocument}
use Rattle.document_machine.proofs.Keeping.{closed_found}
use Rattle.document_machine.proofs.Opens.{list_any_reverse}
use Rattle.page_laws.proofs.Contexts.{Context, plug, times-plug}
use Rattle.page_laws.proofs.Filling.{given_below}
use Rattle.page_laws.proofs.MachineEdits.{changed_first, fewer, from_first}
use Rattle.like_laws.specs.Alike.{Alike, AreAlike, content_without_digest}
use Rattle.like_laws.specs.Apart.{StandApart, ends_after}
use Rattle.like_laws.proofs.AlikeBoundaries.{Marked, end_pair, marked_both, marker_is, modes, no_marker, stands_after}
use Rattle.like_laws.proofs.AlikeContexts.{AlikeContext, Found, Pair, found_pair, not_found, plugged}
use Rattle.like_laws.proofs.AlikeEdits.{ends_after-numbered, failed, failed_with, fails_alike, filled, fills_alike, numbered_alike, revealed, reveals_alike}
use Rattle.like_laws.proofs.AlikePaths.{closed_pair}
use Rattle.like_laws.proofs.ContentLemmas.{id_no_marker, same_digest_set, same_waits}
use Rattle.like_laws.proofs.FoundLemmas.{StaysFound, apart_at, apart_without, found_there, stays_found}

-- The edit is made, and leaves a document alike to this one.
pub record LeavesAlike (edited : Edited) (f : Forest) : Type 0 where
  pub after : DomState
  pub is : edited ≡ Ok after
  pub alike : AreAlike f after.forest

abbrev IsMade : Edited → Type 0
IsMade (Ok after) = Unit {0}
IsMade (Err fault) = ⊥

refused : {A : Type 0} (edited : Edited) (after : DomState) → edited ≡ Ok after → (IsMade edited → ⊥) → A
refused edited after e none = absurd (none (subst IsMade (sym e) tt))

done_is : (a b : DomState) → ◌≡◌ {A = Edited} (Ok a) (Ok b) → a ≡ b
done_is a b e = cc

abbrev Once : Forest → Type 0
Once f = (j : ℕ) → times j f ≤ 1

once_by : (f g : Forest) → f ≡ g → Once f → Once g
once_by f g e once = subst Once e once

-- the children of a container that was taken out, as they are put in
abbrev pub moved : ℕ → Forest → Forest
moved container forest = first_kids (numbered_from 0 (first_tree (from container forest)))

-- A container goes from both.
module _ (f g : Forest) (c c' : ℕ) (r : Pair false false f g c c') (once : Once f) (once' : Once g) where
  first_once : Once (plug r.C (tree c r.c r.kids r.later))
  first_once = once_by f (plug r.C (tree c r.c r.kids r.later)) r.first_is once

  second_once : Once (plug r.D (tree c' r.d r.others r.rest))
  second_once = once_by g (plug r.D (tree c' r.d r.others r.rest)) r.second_is once'

  removed_first : with_change c (λ content kids later. later) f ≡ plug r.C r.later
  removed_first = ap (with_change c (λ content kids later. later)) r.first_is ∙ changed_first r.C c r.c r.kids r.later first_once (λ content kids later. later)

  removed_second : with_change c' (λ content kids later. later) g ≡ plug r.D r.rest
  removed_second = ap (with_change c' (λ content kids later. later)) r.second_is ∙ changed_first r.D c' r.d r.others r.rest second_once (λ content kids later. later)

  first_from : from c f ≡ tree c r.c r.kids r.later
  first_from = ap (from c) r.first_is ∙ from_first r.C c r.c r.kids r.later first_once

  second_from : from c' g ≡ tree c' r.d r.others r.rest
  second_from = ap (from c') r.second_is ∙ from_first r.D c' r.d r.others r.rest second_once

  removed_alike : waits (Some r.c) ≡ false → r.x ≡ false → r.y ≡ false → AreAlike (plug r.C r.later) (plug r.D r.rest)
  removed_alike plain x_is y_is =
      plugged false false r.x r.y r.C r.D r.later r.rest r.contexts
      (subst (λ m. Alike m r.y r.later r.rest) (sym x_is) (subst (λ n. Alike false n r.later r.rest) (sym y_is)
      (subst (λ m. Alike m false r.later r.rest) plain (subst (λ n. Alike (waits (Some r.c)) n r.later r.rest) (sym (same_waits r.c r.d r.same) ∙ plain) r.outer))))

  moved_first : moved c f ≡ numbered_from 1 r.kids
  moved_first = ap (λ t. first_kids (numbered_from 0 (first_tree t))) first_from

  moved_second : moved c' g ≡ numbered_from 1 r.others
  moved_second = ap (λ t. first_kids (numbered_from 0 (first_tree t))) second_from

  moved_alike : (p q : ℕ) → Alike false false (numbered_from p (moved c f)) (numbered_from q (moved c' g))
  moved_alike p q = numbered_alike false false (moved c f) (moved c' g)
      (subst (λ t. Alike false false t (moved c' g)) (sym moved_first) (subst (Alike false false (numbered_from 1 r.kids)) (sym moved_second) (numbered_alike false false r.kids r.others r.inner 1 1))) p q

later_once : (C : Context) (n : ℕ) (x : NewNode) (k l : Forest) → Once (plug C (tree n x k l)) → Once l
later_once C n x k l once j = omega (arith, once j, times-plug j C (tree n x k l))

same_some : (a b : ℕ) → Some a ≡ Some b → a ≡ b
same_some a b e = cc

bool_of : (b : Bool) {A : Type 0} → (b ≡ true → A) → (b ≡ false → A) → A
bool_of true yes_case no_case = yes_case refl
bool_of false yes_case no_case = no_case refl

-- Where the template is found, a marker stands before it in both.
module _ (f g : Forest) (t t' : ℕ) (r : Pair false false f g t t') (once : Once f) (once' : Once g) where
  pub no_marker_first : r.x ≡ false → marker_of t f ≡ None
  no_marker_first x_is =
      ap (marker_of t) r.first_is ∙ no_marker r.C t r.c r.kids r.later (first_once f g t t' r once once') (sym (modes false false r.x r.y r.C r.D r.contexts).0 ∙ x_is)

  module _ (k : Marked false false r.C r.D) where
    abbrev first_part : Forest
    first_part = plug k.E (tree k.i k.c k.kids (tree t r.c r.kids r.later))

    abbrev second_part : Forest
    second_part = plug k.F (tree k.j k.d k.others (tree t' r.d r.others r.rest))

    pub first_is : f ≡ first_part
    first_is = r.first_is ∙ k.first_is (tree t r.c r.kids r.later)

    pub second_is : g ≡ second_part
    second_is = r.second_is ∙ k.second_is (tree t' r.d r.others r.rest)

    pub marked_once : Once first_part
    marked_once = once_by f first_part first_is once

    pub other_once : Once second_part
    other_once = once_by g second_part second_is once'

    pub marker_first : marker_of t f ≡ Some k.i
    marker_first = ap (marker_of t) first_is ∙ marker_is k.E k.i t k.c r.c k.kids r.kids r.later marked_once ∙ ap (λ b. if b then Some k.i else None) k.waiting

    pub marker_second : marker_of t' g ≡ Some k.j
    marker_second =
        ap (marker_of t') second_is ∙ marker_is k.F k.j t' k.d r.d k.others r.others r.rest other_once
        ∙ ap (λ b. if b then Some k.j else None) (sym (same_waits k.c k.d k.same) ∙ k.waiting)

-- What is left of a document by `$RC` in which the marker, the template and the end are found.
pub revealed_is : (c t m e : ℕ) (old dom : DomState) (E : Context) (w x : NewNode) (below kids later z r : Forest) → dom.forest ≡ plug E (tree m w below (tree t x kids later))
    → Once (plug E (tree m w below (tree t x kids later))) → from_sibling e later ≡ tree e (Comment End) z r
    → (with_content_revealed t m e c old dom).forest ≡ plug E (tree m (Comment Complete) below (joined_forests (numbered_from dom.next (moved c old.forest)) (tree e (Comment End) z r)))
revealed_is c t m e old dom E w x below kids later z r is once end_is =
    let dress : NewNode → Forest → Forest → Forest = λ content k l. tree m (Comment Complete) k l in
    let cut : NewNode → Forest → Forest → Forest = λ content k l. from_sibling e l in
    let insert : NewNode → Forest → Forest → Forest = λ content k l. joined_forests (numbered_from dom.next (moved c old.forest)) (tree e content k l) in
    ap (λ h. with_change e insert (with_change t cut (with_change m dress h))) is ∙ revealed E m t e w x below kids later z r once end_is (numbered_from dom.next (moved c old.forest))

-- `$RC` after its container has gone.
module _ (c c' : ℕ) (old old' dom dom' : DomState) (whole : Pair false false old.forest old'.forest c c') (old_once : Once old.forest) (old_once' : Once old'.forest)
    (alike : AreAlike dom.forest dom'.forest) (once : Once dom.forest) (once' : Once dom'.forest) where
  reveal_marked : (t t' : ℕ) (r : Pair false false dom.forest dom'.forest t t') (k : Marked false false r.C r.D) (after : DomState) (e : Option ℕ) → end_of_boundary t dom.forest ≡ e
      → reveal_at t c old dom (Some k.i) e ≡ Ok after → LeavesAlike (reveal_at t' c' old' dom' (Some k.j) (end_of_boundary t' dom'.forest)) after.forest
  reveal_marked t t' r k after None e_is is = refused (reveal_at t c old dom (Some k.i) None) after is (λ z. z)
  reveal_marked t t' r k after (Some e) e_is is =
      let inner_end : closing_mark r.later 0 ≡ Some e = ap (λ h. closing_mark (first_later h) 0) (sym (first_from dom.forest dom'.forest t t' r once once')) ∙ e_is in
      let q = end_pair (waits (Some r.c)) (waits (Some r.d)) r.later r.rest r.outer
      (later_once r.C t r.c r.kids r.later (first_once dom.forest dom'.forest t t' r once once'))
      (later_once r.D t' r.d r.others r.rest (second_once dom.forest dom'.forest t t' r once once')) 0 e inner_end in
      let put = moved_alike old.forest old'.forest c c' whole old_once old_once' dom.next dom'.next in
      record {
        after = with_content_revealed t' k.j q.j c' old' dom';
        is = ap (reveal_at t' c' old' dom' (Some k.j)) (ap (λ h. closing_mark (first_later h) 0) (second_from dom.forest dom'.forest t t' r once once') ∙ q.found);
        alike = subst (λ (d : DomState). AreAlike d.forest (with_content_revealed t' k.j q.j c' old' dom').forest) (done_is (with_content_revealed t k.i e c old dom) after is)
            (subst (λ h. AreAlike h (with_content_revealed t' k.j q.j c' old' dom').forest)
            (sym (revealed_is c t k.i e old dom k.E k.c r.c k.kids r.kids r.later q.z q.r (first_is dom.forest dom'.forest t t' r once once' k) (marked_once dom.forest dom'.forest t t' r once once' k) q.first_is))
            (subst (AreAlike (plug k.E (tree k.i (Comment Complete) k.kids (joined_forests (numbered_from dom.next (moved c old.forest)) (tree e (Comment End) q.z q.r)))))
            (sym (revealed_is c' t' k.j q.j old' dom' k.F k.d r.d k.others r.others r.rest q.z' q.r' (second_is dom.forest dom'.forest t t' r once once' k) (other_once dom.forest dom'.forest t t' r once once' k) q.second_is))
            (reveals_alike false false k.x k.y k.E k.F k.i k.j e q.j k.kids k.others (numbered_from dom.next (moved c old.forest)) (numbered_from dom'.next (moved c' old'.forest)) q.z q.z' q.r q.r' k.contexts k.inner put q.inner q.outer)));
      }

  reveal_found : (id : List ℕ) (o : Option ℕ) (after : DomState) → element_with id dom.forest ≡ o → reveal c old dom o ≡ Ok after
      → LeavesAlike (reveal c' old' dom' (element_with id dom'.forest)) after.forest
  reveal_found id None after o_is is = record {
    after = dom';
    is = ap (reveal c' old' dom') (not_found false false dom.forest dom'.forest id alike o_is);
    alike = subst (λ (d : DomState). AreAlike d.forest dom'.forest) (done_is dom after is) alike;
  }
  reveal_found id (Some t) after o_is is =
      let s = found_pair id t false false dom.forest dom'.forest alike o_is in
      let r = s.pair in
      subst (λ o. LeavesAlike (reveal c' old' dom' o) after.forest) (sym s.found)
      (bool_of r.x
      (λ x_is.
      let k = marked_both r.x r.y r.C r.D r.contexts x_is (sym (r.agrees id s.has) ∙ x_is) in
      subst (λ o. LeavesAlike (reveal_at s.j c' old' dom' o (end_of_boundary s.j dom'.forest)) after.forest) (sym (marker_second dom.forest dom'.forest t s.j r once once' k))
      (reveal_marked t s.j r k after (end_of_boundary t dom.forest) refl
      (ap (λ o. reveal_at t c old dom o (end_of_boundary t dom.forest)) (sym (marker_first dom.forest dom'.forest t s.j r once once' k)) ∙ is)))
      (λ x_is. refused (reveal_at t c old dom None (end_of_boundary t dom.forest)) after
      (ap (λ o. reveal_at t c old dom o (end_of_boundary t dom.forest)) (sym (no_marker_first dom.forest dom'.forest t s.j r once once' x_is)) ∙ is) (λ z. z)))

-- `$RX`
abbrev digested : List ℕ → NewNode → NewNode
digested [] c = c
digested (b ∷ bs) c = digest_set (b ∷ bs) c

client_first : (t m : ℕ) (digest : List ℕ) (dom : DomState) (E : Context) (w x : NewNode) (below kids later : Forest) → dom.forest ≡ plug E (tree m w below (tree t x kids later))
    → Once (plug E (tree m w below (tree t x kids later)))
    → (with_digest_unless_empty t digest (with_content m (Comment Client) dom)).forest ≡ plug E (tree m (Comment Client) below (tree t (digested digest x) kids later))
client_first t m [] dom E w x below kids later is once =
    ap (with_change m (λ content k l. tree m (Comment Client) k l)) is ∙ failed E m t w x below kids later once
client_first t m (b ∷ bs) dom E w x below kids later is once =
    ap (λ h. with_change t (λ content k l. tree t (digest_set (b ∷ bs) content) k l) (with_change m (λ content k l. tree m (Comment Client) k l) h)) is
    ∙ failed_with E m t w x below kids later once (b ∷ bs)

same_digested : (digest : List ℕ) (c d : NewNode) → content_without_digest c ≡ content_without_digest d → content_without_digest (digested digest c) ≡ content_without_digest (digested digest d)
same_digested [] c d e = e
same_digested (b ∷ bs) c d e = same_digest_set (b ∷ bs) c d e

waits_digested : (digest : List ℕ) (c : NewNode) → waits (Some (digested digest c)) ≡ waits (Some c)
waits_digested [] c = refl
waits_digested (b ∷ bs) (Element name attributes) = refl
waits_digested (b ∷ bs) (Text t) = refl
waits_digested (b ∷ bs) (Comment m) = refl

module _ (dom dom' : DomState) (alike : AreAlike dom.forest dom'.forest) (once : Once dom.forest) (once' : Once dom'.forest) where
  client_marked : (digest : List ℕ) (t t' : ℕ) (r : Pair false false dom.forest dom'.forest t t') (k : Marked false false r.C r.D) (after : DomState)
      → client_render_at t digest dom (Some k.i) ≡ Ok after → LeavesAlike (client_render_at t' digest dom' (Some k.j)) after.forest
  client_marked digest t t' r k after is =
      let made : DomState = with_digest_unless_empty t digest (with_content k.i (Comment Client) dom) in
      let made' : DomState = with_digest_unless_empty t' digest (with_content k.j (Comment Client) dom') in
      record {
        after = made';
        is = refl;
        alike = subst (λ (d : DomState). AreAlike d.forest made'.forest) (done_is made after is)
            (subst (λ h. AreAlike h made'.forest)
            (sym (client_first t k.i digest dom k.E k.c r.c k.kids r.kids r.later (first_is dom.forest dom'.forest t t' r once once' k) (marked_once dom.forest dom'.forest t t' r once once' k)))
            (subst (AreAlike (plug k.E (tree k.i (Comment Client) k.kids (tree t (digested digest r.c) r.kids r.later))))
            (sym (client_first t' k.j digest dom' k.F k.d r.d k.others r.others r.rest (second_is dom.forest dom'.forest t t' r once once' k) (other_once dom.forest dom'.forest t t' r once once' k)))
            (fails_alike false false k.x k.y k.E k.F k.i k.j t t' (digested digest r.c) (digested digest r.d) k.kids k.others r.kids r.others r.later r.rest k.contexts k.inner
            (same_digested digest r.c r.d r.same) r.inner
            (subst (λ m. Alike m (waits (Some (digested digest r.d))) r.later r.rest) (sym (waits_digested digest r.c))
            (subst (λ m. Alike (waits (Some r.c)) m r.later r.rest) (sym (waits_digested digest r.d)) r.outer)))));
      }

  client_found : (digest id : List ℕ) (o : Option ℕ) (after : DomState) → element_with id dom.forest ≡ o → client_render_from digest dom o ≡ Ok after
      → LeavesAlike (client_render_from digest dom' (element_with id dom'.forest)) after.forest
  client_found digest id None after o_is is = record {
    after = dom';
    is = ap (client_render_from digest dom') (not_found false false dom.forest dom'.forest id alike o_is);
    alike = subst (λ (d : DomState). AreAlike d.forest dom'.forest) (done_is dom after is) alike;
  }
  client_found digest id (Some t) after o_is is =
      let s = found_pair id t false false dom.forest dom'.forest alike o_is in
      let r = s.pair in
      subst (λ o. LeavesAlike (client_render_from digest dom' o) after.forest) (sym s.found)
      (bool_of r.x
      (λ x_is.
      let k = marked_both r.x r.y r.C r.D r.contexts x_is (sym (r.agrees id s.has) ∙ x_is) in
      subst (λ o. LeavesAlike (client_render_at s.j digest dom' o) after.forest) (sym (marker_second dom.forest dom'.forest t s.j r once once' k))
      (client_marked digest t s.j r k after
      (ap (client_render_at t digest dom) (sym (marker_first dom.forest dom'.forest t s.j r once once' k)) ∙ is)))
      (λ x_is. refused (client_render_at t digest dom None) after
      (ap (client_render_at t digest dom) (sym (no_marker_first dom.forest dom'.forest t s.j r once once' x_is)) ∙ is) (λ z. z)))

not_inside : (n : ℕ) (missed done : Edited) → n ≡ 0 → (if nat_lt 0 n then missed else done) ≡ done
not_inside n missed done e = ap (λ m. if nat_lt 0 m then missed else done) e

-- Both documents with their open elements, of which there are as many.
module _ (prefix : List ℕ) (opened opened' : List ℕ) (dom dom' : DomState) (open_now : IsOpenDocument opened dom) (open_now' : IsOpenDocument opened' dom')
    (size : length opened ≡ length opened') (alike : AreAlike dom.forest dom'.forest) where
  -- What is found and not open
  record ClosedFound (id : List ℕ) (n : ℕ) : Type 0 where
    found : Found false false dom.forest dom'.forest id n
    first : element_with id dom.forest ≡ Some n
    second : closed_with opened' id dom'.forest ≡ Some found.j

  closed_alike : (id : List ℕ) (n : ℕ) → closed_with opened id dom.forest ≡ Some n → ClosedFound id n
  closed_alike id n e =
      let c = closed_found opened (element_with id dom.forest) n e in
      let s = found_pair id n false false dom.forest dom'.forest alike c.0 in
      let none : list_any (λ o. o == s.j) (reverse opened') ≡ false =
      closed_pair dom.forest dom'.forest n s.j s.pair open_now'.numbered.once (reverse opened) (reverse opened')
      (length-reverse opened ∙ size ∙ sym (length-reverse opened')) open_now.path open_now'.path (list_any_reverse (λ o. o == n) opened ∙ c.1) in
      record {
        found = s;
        first = c.0;
        second = ap (unless_open opened') s.found ∙ ap (λ b. if b then None else Some s.j) (sym (list_any_reverse (λ o. o == s.j) opened') ∙ none);
      }

  -- the container of a segment, which stands apart
  module _ (h : ℕ) (apart : StandApart prefix false dom.forest) (c : ℕ) (s : ClosedFound (segment_id prefix h) c) where
    abbrev r : Pair false false dom.forest dom'.forest c s.found.j
    r = s.found.pair

    stands : StandApart prefix (stands_after false r.C) (tree c r.c r.kids r.later)
    stands = apart_at prefix false r.C (tree c r.c r.kids r.later) (subst (StandApart prefix false) r.first_is apart)

    x_is : r.x ≡ false
    x_is = (modes false false r.x r.y r.C r.D r.contexts).0 ∙ (stands.0 h s.found.has).0

    y_is : r.y ≡ false
    y_is = sym (r.agrees (segment_id prefix h) s.found.has) ∙ x_is

    no_marker_last : ends_after false r.kids ≡ false
    no_marker_last = (stands.0 h s.found.has).1

    once : Once dom.forest
    once = open_now.numbered.once

    once' : Once dom'.forest
    once' = open_now'.numbered.once

    left_is : (without_node c dom).forest ≡ plug r.C r.later
    left_is = removed_first dom.forest dom'.forest c s.found.j r once once'

    left_is' : (without_node s.found.j dom').forest ≡ plug r.D r.rest
    left_is' = removed_second dom.forest dom'.forest c s.found.j r once once'

    left_alike : AreAlike (plug r.C r.later) (plug r.D r.rest)
    left_alike = removed_alike dom.forest dom'.forest c s.found.j r once once' (id_no_marker (segment_id prefix h) r.c s.found.has) x_is y_is

    left_once : Once (plug r.C r.later)
    left_once = fewer r.C c r.c r.kids r.later (first_once dom.forest dom'.forest c s.found.j r once once')

    left_once' : Once (plug r.D r.rest)
    left_once' = fewer r.D s.found.j r.d r.others r.rest (second_once dom.forest dom'.forest c s.found.j r once once')

    removed_both : AreAlike (without_node c dom).forest (without_node s.found.j dom').forest
    removed_both = subst (λ f. AreAlike f (without_node s.found.j dom').forest) (sym left_is) (subst (AreAlike (plug r.C r.later)) (sym left_is') left_alike)

    complete_found : (id : List ℕ) (after : DomState) → complete_from (segment_id prefix h) id dom (Some c) ≡ Ok after
        → LeavesAlike (complete_from (segment_id prefix h) id dom' (closed_with opened' (segment_id prefix h) dom'.forest)) after.forest
    complete_found id after is =
        subst (λ o. LeavesAlike (complete_from (segment_id prefix h) id dom' o) after.forest) (sym s.second)
        (reveal_found c s.found.j dom dom' (without_node c dom) (without_node s.found.j dom') r once once' removed_both
        (once_by (plug r.C r.later) (without_node c dom).forest (sym left_is) left_once) (once_by (plug r.D r.rest) (without_node s.found.j dom').forest (sym left_is') left_once')
        id (element_with id (without_node c dom).forest) after refl is)

    -- `$RS`: the placeholder is found outside the container.
    module _ (p : ℕ) (q : ClosedFound (placeholder_id prefix h) p) (outside : times p (first_tree (from c dom.forest)) ≡ 0) where
      abbrev id : List ℕ
      id = placeholder_id prefix h

      outside_it : times p (tree c r.c r.kids empty) ≡ 0
      outside_it = ap (λ f. times p (first_tree f)) (sym (first_from dom.forest dom'.forest c s.found.j r once once')) ∙ outside

      kept : StaysFound id p r.C r.D r.later r.rest (plug r.D (tree s.found.j r.d r.others r.rest))
      kept = stays_found id p c s.found.j r.c r.d r.kids r.others r.later r.rest outside_it false false r.x r.y r.C r.D r.contexts r.same r.inner
          (ap (element_with id) (sym r.first_is) ∙ q.first)

      left_found : Found false false (plug r.C r.later) (plug r.D r.rest) id p
      left_found = found_pair id p false false (plug r.C r.later) (plug r.D r.rest) left_alike kept.first

      abbrev t : Pair false false (plug r.C r.later) (plug r.D r.rest) p left_found.j
      t = left_found.pair

      found_second : element_with id dom'.forest ≡ Some left_found.j
      found_second = ap (element_with id) r.second_is ∙ kept.second ∙ left_found.found

      second_found : closed_with opened' id dom'.forest ≡ Some left_found.j
      second_found = q.second ∙ ap Some (same_some q.found.j left_found.j (sym q.found.found ∙ found_second))

      placed : StandApart prefix (stands_after false t.C) (tree p t.c t.kids t.later)
      placed = apart_at prefix false t.C (tree p t.c t.kids t.later)
          (subst (StandApart prefix false) t.first_is
          (apart_without prefix c r.c r.kids r.later (id_no_marker (segment_id prefix h) r.c s.found.has) false r.C
          (sym (modes false false r.x r.y r.C r.D r.contexts).0 ∙ x_is) (subst (StandApart prefix false) r.first_is apart)))

      t_is : t.x ≡ false
      t_is = (modes false false t.x t.y t.C t.D t.contexts).0 ∙ placed.1 h left_found.has

      t_is' : t.y ≡ false
      t_is' = sym (t.agrees id left_found.has) ∙ t_is

      t_plain : waits (Some t.c) ≡ false
      t_plain = id_no_marker id t.c left_found.has

      t_once : Once (plug t.C (tree p t.c t.kids t.later))
      t_once = once_by (plug r.C r.later) (plug t.C (tree p t.c t.kids t.later)) t.first_is left_once

      t_once' : Once (plug t.D (tree left_found.j t.d t.others t.rest))
      t_once' = once_by (plug r.D r.rest) (plug t.D (tree left_found.j t.d t.others t.rest)) t.second_is left_once'

      abbrev filled_dom : DomState
      filled_dom = without_node p (with_children_before p c dom (without_node c dom))

      abbrev filled_dom' : DomState
      filled_dom' = without_node left_found.j (with_children_before left_found.j s.found.j dom' (without_node s.found.j dom'))

      first_filled : filled_dom.forest ≡ plug t.C (joined_forests (numbered_from dom.next (moved c dom.forest)) t.later)
      first_filled =
          ap (λ f. with_change p (λ content kids later. later) (with_change p (λ content kids later. joined_forests (numbered_from dom.next (moved c dom.forest)) (tree p content kids later)) f)) (left_is ∙ t.first_is)
          ∙ filled t.C p dom.next t.c t.kids t.later (moved c dom.forest) t_once (given_below dom p open_now.numbered (omega (arith, found_there id p dom.forest q.first)))

      second_filled : filled_dom'.forest ≡ plug t.D (joined_forests (numbered_from dom'.next (moved s.found.j dom'.forest)) t.rest)
      second_filled =
          ap (λ f. with_change left_found.j (λ content kids later. later) (with_change left_found.j (λ content kids later. joined_forests (numbered_from dom'.next (moved s.found.j dom'.forest)) (tree left_found.j content kids later)) f)) (left_is' ∙ t.second_is)
          ∙ filled t.D left_found.j dom'.next t.d t.others t.rest (moved s.found.j dom'.forest) t_once' (given_below dom' left_found.j open_now'.numbered (omega (arith, found_there id left_found.j dom'.forest found_second)))

      no_marker_moved : ends_after false (numbered_from dom.next (moved c dom.forest)) ≡ false
      no_marker_moved =
          ends_after-numbered false dom.next (moved c dom.forest)
          ∙ ap (ends_after false) (moved_first dom.forest dom'.forest c s.found.j r once once') ∙ ends_after-numbered false 1 r.kids ∙ no_marker_last

      both_filled : AreAlike filled_dom.forest filled_dom'.forest
      both_filled =
          subst (λ f. AreAlike f filled_dom'.forest) (sym first_filled)
          (subst (AreAlike (plug t.C (joined_forests (numbered_from dom.next (moved c dom.forest)) t.later))) (sym second_filled)
          (fills_alike false false t.C t.D (numbered_from dom.next (moved c dom.forest)) (numbered_from dom'.next (moved s.found.j dom'.forest)) t.later t.rest
          (subst (λ m. AlikeContext false false t.C t.D m false) t_is (subst (AlikeContext false false t.C t.D t.x) t_is' t.contexts))
          (moved_alike dom.forest dom'.forest c s.found.j r once once' dom.next dom'.next) no_marker_moved
          (subst (λ m. Alike m false t.later t.rest) t_plain (subst (λ n. Alike (waits (Some t.c)) n t.later t.rest) (sym (same_waits t.c t.d t.same) ∙ t_plain) t.outer))))

      outside_second : times left_found.j (first_tree (from s.found.j dom'.forest)) ≡ 0
      outside_second =
          ap (λ f. times left_found.j (first_tree f)) (second_from dom.forest dom'.forest c s.found.j r once once')
          ∙ (let all = times-plug left_found.j r.D (tree s.found.j r.d r.others r.rest) in
          let less = times-plug left_found.j r.D r.rest in
          omega (arith, all, less, second_once dom.forest dom'.forest c s.found.j r once once' left_found.j, found_there id left_found.j (plug r.D r.rest) left_found.found))

      filled_at : (after : DomState) → ◌≡◌ {A = Edited} (Ok filled_dom) (Ok after) → LeavesAlike (fill_at id left_found.j s.found.j dom') after.forest
      filled_at after is = record {
        after = filled_dom';
        is = not_inside (times left_found.j (first_tree (from s.found.j dom'.forest))) _ (Ok filled_dom') outside_second;
        alike = subst (λ (d : DomState). AreAlike d.forest filled_dom'.forest) (done_is filled_dom after is) both_filled;
      }

    fill_found : (after : DomState) (o : Option ℕ) → closed_with opened (placeholder_id prefix h) dom.forest ≡ o → fill_from (placeholder_id prefix h) dom c o ≡ Ok after
        → LeavesAlike (fill_from (placeholder_id prefix h) dom' s.found.j (closed_with opened' (placeholder_id prefix h) dom'.forest)) after.forest
    fill_found after None o_is is = refused (fill_from (placeholder_id prefix h) dom c None) after is (λ z. z)
    fill_found after (Some p) o_is is = by (nat_lt 0 (times p (first_tree (from c dom.forest)))) refl _ is (λ z. z) where
      by : (b : Bool) → nat_lt 0 (times p (first_tree (from c dom.forest))) ≡ b → (missed : Edited)
          → ◌≡◌ {A = Edited} (if b then missed else Ok (without_node p (with_children_before p c dom (without_node c dom)))) (Ok after) → (IsMade missed → ⊥)
          → LeavesAlike (fill_from (placeholder_id prefix h) dom' s.found.j (closed_with opened' (placeholder_id prefix h) dom'.forest)) after.forest
      by true inside missed is none = refused missed after is none
      by false inside missed is none =
          let q = closed_alike (placeholder_id prefix h) p o_is in
          let outside : times p (first_tree (from c dom.forest)) ≡ 0 = omega (arith, ltb-false 0 (times p (first_tree (from c dom.forest))) inside) in
          subst (λ o. LeavesAlike (fill_from (placeholder_id prefix h) dom' s.found.j o) after.forest) (sym (second_found p q outside)) (filled_at p q outside after is)

  pub complete_alike : (h b : ℕ) → StandApart prefix false dom.forest → (after : DomState) (o : Option ℕ) → closed_with opened (segment_id prefix h) dom.forest ≡ o
      → complete_from (segment_id prefix h) (boundary_id prefix b) dom o ≡ Ok after
      → LeavesAlike (complete_from (segment_id prefix h) (boundary_id prefix b) dom' (closed_with opened' (segment_id prefix h) dom'.forest)) after.forest
  complete_alike h b apart after None o_is is = refused (complete_from (segment_id prefix h) (boundary_id prefix b) dom None) after is (λ z. z)
  complete_alike h b apart after (Some c) o_is is = complete_found h apart c (closed_alike (segment_id prefix h) c o_is) (boundary_id prefix b) after is

  pub fill_alike : (h : ℕ) → StandApart prefix false dom.forest → (after : DomState) (o : Option ℕ) → closed_with opened (segment_id prefix h) dom.forest ≡ o
      → fill_with opened (segment_id prefix h) (placeholder_id prefix h) dom o ≡ Ok after
      → LeavesAlike (fill_with opened' (segment_id prefix h) (placeholder_id prefix h) dom' (closed_with opened' (segment_id prefix h) dom'.forest)) after.forest
  fill_alike h apart after None o_is is = refused (fill_with opened (segment_id prefix h) (placeholder_id prefix h) dom None) after is (λ z. z)
  fill_alike h apart after (Some c) o_is is =
      let s = closed_alike (segment_id prefix h) c o_is in
      subst (λ o. LeavesAlike (fill_with opened' (segment_id prefix h) (placeholder_id prefix h) dom' o) after.forest) (sym s.second)
      (fill_found h apart c s after (closed_with opened (placeholder_id prefix h) dom.forest) refl is)

  pub client_alike : (b : ℕ) (digest : List ℕ) (after : DomState) → client_render_from digest dom (element_with (boundary_id prefix b) dom.forest) ≡ Ok after
      → LeavesAlike (client_render_from digest dom' (element_with (boundary_id prefix b) dom'.forest)) after.forest
  client_alike b digest after is =
      client_found dom dom' alike open_now.numbered.once open_now'.numbered.once digest (boundary_id prefix b) (element_with (boundary_id prefix b) dom.forest) after refl is
