-- The links as they are kept, when a segment is added or forgotten, and what they tell of kids.
use Rattle.std.proofs.Common.{◌≡◌, ℕ, ◌+◌, ◌≤◌, ◌<◌, true, Option, Some, None, List, [], ◌∷◌, ◌++◌, length, drop, slice_set, inl, inr, refl, sym, ap, ◌∙◌, subst, arith}
use Rattle.std.specs.Option.{is_some}
use Rattle.std.proofs.lemmas.Bool.{cases_eq, cases_lt, eq-eqb, false≢true}
use Rattle.std.proofs.lemmas.List.{get_or-drop, get_or-set_other, get_or-set_same, length-set, set_past}
use Rattle.fizz_segment.specs.declared.segment.Part.{Part}
use Rattle.fizz_segment.specs.declared.links.Links.{Links}
use Rattle.fizz_segment.specs.declared.segment.Mark.{Mark}
use Rattle.fizz_segment.specs.Tree.{IsTree, first_of, is_kid, is_parent, kids_of, next_of, part_at}
use Rattle.fizz_segment.specs.Calls.{with_bytes}
use Rattle.fizz_segment.specs.Nearest.{IsLinked, kid_test, link_at, set_if, set_unless}
use Rattle.fizz_segment.specs.Linked.{AreLinked, AreSameLinks, HasLinkRoom, IsAppended, IsPushed, IsSameRoom, IsUnlinked}
use Rattle.fizz_segment.proofs.Kids.{following, inside}
use Rattle.fizz_segment.proofs.Kinship.{kids_least, least_is, link_push, linked_child, linked_gone, linked_orphan, linked_root, linked_same}

linked_eq : (parts : List (Option Part)) (f f' l l' p p' n n' : List (Option ℕ)) → IsLinked parts f l p n
    → f' ≡ f → l' ≡ l → p' ≡ p → n' ≡ n → IsLinked parts f' l' p' n'
linked_eq parts f f' l l' p p' n n' linked ef el ep en = rw (ef, el, ep, en) linked

pub added_root : (parts : List (Option Part)) (part : Part) (old new : Links) → part.parent ≡ None → AreLinked parts old → IsPushed old new
    → AreLinked (parts ++ Some part ∷ []) new
added_root parts part old new orphan linked pushed =
    linked_eq _ _ _ _ _ _ _ _ _ (linked_root parts part _ _ _ _ orphan linked) pushed.first pushed.last pushed.previous pushed.next

pub added_child : (parts : List (Option Part)) (part : Part) (old mid new : Links) (q id : ℕ) → part.parent ≡ Some q → length parts ≡ id → q < id
    → AreLinked parts old → IsPushed old mid → IsAppended q id mid new → AreLinked (parts ++ Some part ∷ []) new
added_child parts part old mid new q id own long live linked pushed appended =
    linked_eq _ _ _ _ _ _ _ _ _ (linked_child parts part old.first.items old.last.items old.previous.items old.next.items q own (omega (arith, live, long)) linked)
    (appended.first ∙ ap (λ (o : Option ℕ). set_unless o q (Some id) mid.first.items) tail ∙ ap (set_unless (link_at old.last.items q) q (Some id)) pushed.first
    ∙ ap (λ n. set_unless (link_at old.last.items q) q (Some n) (old.first.items ++ None ∷ [])) (sym long))
    (appended.last ∙ ap (λ (l : List (Option ℕ)). slice_set l q (Some id)) pushed.last ∙ ap (λ n. slice_set (old.last.items ++ None ∷ []) q (Some n)) (sym long))
    (appended.previous ∙ ap (slice_set mid.previous.items id) tail ∙ ap (λ (l : List (Option ℕ)). slice_set l id (link_at old.last.items q)) pushed.previous
    ∙ ap (λ n. slice_set (old.previous.items ++ None ∷ []) n (link_at old.last.items q)) (sym long))
    (appended.next ∙ ap (λ (o : Option ℕ). set_if o (Some id) mid.next.items) tail ∙ ap (set_if (link_at old.last.items q) (Some id)) pushed.next
    ∙ ap (λ n. set_if (link_at old.last.items q) (Some n) (old.next.items ++ None ∷ [])) (sym long))
  where
    tail : link_at mid.last.items q ≡ link_at old.last.items q
    tail = ap (λ (l : List (Option ℕ)). link_at l q) pushed.last ∙ link_push old.last.items q

own_kid : (parts : List (Option Part)) (id q : ℕ) (part : Part) → part_at parts id ≡ Some part → part.parent ≡ Some q → kid_test parts q id ≡ true
own_kid parts id q part live own = ap (is_kid q) live ∙ ap (is_parent q) own ∙ eq-eqb q q refl

pub removed_kid : (parts : List (Option Part)) (id q : ℕ) (part : Part) (old new : Links) → part_at parts id ≡ Some part → part.parent ≡ Some q
    → AreLinked parts old → IsUnlinked q id old new → AreLinked (slice_set parts id None) new
removed_kid parts id q part old new live own linked unlinked =
    linked_eq _ _ _ _ _ _ _ _ _ (linked_gone parts old.first.items old.last.items old.previous.items old.next.items id q (own_kid parts id q part live own) linked)
    unlinked.first unlinked.last unlinked.previous unlinked.next

pub removed_orphan : (parts : List (Option Part)) (id : ℕ) (part : Part) (old : Links) → part_at parts id ≡ Some part → part.parent ≡ None
    → AreLinked parts old → AreLinked (slice_set parts id None) old
removed_orphan parts id part old live orphan linked =
    linked_orphan parts id _ _ _ _ (inside parts id part live) (λ p. ap (is_kid p) live ∙ ap (is_parent p) orphan) linked

pub first_linked : (parts : List (Option Part)) (links : Links) (id : ℕ) → AreLinked parts links → link_at links.first.items id ≡ first_of (kids_of parts id)
first_linked parts links id linked = least_is (kid_test parts id) 0 _ _ (linked.firsts id)
    (kids_least id 0 parts (kid_test parts id) (λ j. ap (kid_test parts id) (omega arith)))

pub next_linked : (parts : List (Option Part)) (links : Links) (id q : ℕ) (part : Part) → part_at parts id ≡ Some part → part.parent ≡ Some q
    → AreLinked parts links → link_at links.next.items id ≡ next_of parts (Some q) id
next_linked parts links id q part live own linked =
    least_is (kid_test parts q) (id + 1) _ _ (linked.nexts id q (own_kid parts id q part live own))
    (kids_least q (id + 1) (drop (id + 1) parts) (kid_test parts q) (λ j. sym (ap (is_kid q) (get_or-drop (id + 1) parts j None))))
    ∙ following parts id q part live own

pub completed_links : (parts : List (Option Part)) (id : ℕ) (bytes : List ℕ) (links : Links) → AreLinked parts links
    → AreLinked (slice_set parts id (with_bytes bytes (part_at parts id))) links
completed_links parts id bytes links linked =
    linked_same parts _ _ _ _ _ (length-set parts id (with_bytes bytes (part_at parts id))) same linked
  where
    by_part : (p : ℕ) (part : Option Part) → is_kid p (with_bytes bytes part) ≡ is_kid p part
    by_part p None = refl
    by_part p (Some part) = refl

    same : (p j : ℕ) → kid_test (slice_set parts id (with_bytes bytes (part_at parts id))) p j ≡ kid_test parts p j
    same p j = elim (cases_lt id (length parts)) [
      | inl below ↦ elim (cases_eq j id) [
        | inl e ↦ ap (kid_test (slice_set parts id (with_bytes bytes (part_at parts id))) p) e
            ∙ ap (is_kid p) (get_or-set_same parts id (with_bytes bytes (part_at parts id)) None below)
            ∙ by_part p (part_at parts id) ∙ sym (ap (kid_test parts p) e)
        | inr other ↦ ap (is_kid p) (get_or-set_other parts id j (with_bytes bytes (part_at parts id)) None other)
      ]
      | inr past ↦ ap (λ (ps : List (Option Part)). kid_test ps p j) (set_past parts id (with_bytes bytes (part_at parts id)) past)
    ]

pub forgotten_links : (parts : List (Option Part)) (id : ℕ) (parent : Option ℕ) (old new : Links) → is_some (part_at parts id) ≡ true
    → ((own : Part) → part_at parts id ≡ Some own → parent ≡ own.parent)
    → ((parts' : List (Option Part)) (part : Part) → part_at parts' id ≡ Some part → part.parent ≡ parent → AreLinked parts' old → AreLinked (slice_set parts' id None) new)
    → AreLinked parts old → AreLinked (slice_set parts id None) new
forgotten_links parts id parent old new live told removed linked = by_part (part_at parts id) refl live
  where
    by_part : (o : Option Part) → part_at parts id ≡ o → is_some o ≡ true → AreLinked (slice_set parts id None) new
    by_part None is some = absurd (false≢true some)
    by_part (Some part) is some = removed parts part is (sym (told part is)) linked

pub room_moved : (places places' : ℕ) (old new : Links) → HasLinkRoom places old → IsSameRoom old new → places' ≤ places → HasLinkRoom places' new
room_moved places places' old new room same fewer = record {
  for_first = omega (arith, room.for_first, same.same_first, fewer);
  for_last = omega (arith, room.for_last, same.same_last, fewer);
  for_previous = omega (arith, room.for_previous, same.same_previous, fewer);
  for_next = omega (arith, room.for_next, same.same_next, fewer);
}

pub same_links : (parts : List (Option Part)) (old new : Links) → AreLinked parts old → AreSameLinks old new → AreLinked parts new
same_links parts old new linked same =
    linked_eq _ _ _ _ _ _ _ _ _ linked same.same_first same.same_last same.same_previous same.same_next

pub tree_set : (parts : List (Option Part)) (marks marks' : List Mark) (spare id : ℕ) (part : Option Part)
    → IsTree (record { parts = parts; marks = marks; spare = spare }) → length marks' ≡ length marks
    → IsTree (record { parts = slice_set parts id part; marks = marks'; spare = spare })
tree_set parts marks marks' spare id part tree same = record {
  marked = omega (arith, tree.marked, same, length-set parts id part);
  few = omega (arith, tree.few, length-set parts id part);
}

pub room_fewer : (places places' : ℕ) (links : Links) → HasLinkRoom places links → places' ≤ places → HasLinkRoom places' links
room_fewer places places' links room fewer = record {
  for_first = omega (arith, room.for_first, fewer);
  for_last = omega (arith, room.for_last, fewer);
  for_previous = omega (arith, room.for_previous, fewer);
  for_next = omega (arith, room.for_next, fewer);
}

pub reserved_tree : (parts parts' : List (Option Part)) (marks marks' : List Mark) (spare : ℕ) → parts' ≡ parts → marks' ≡ marks
    → IsTree (record { parts = parts; marks = marks; spare = spare }) → IsTree (record { parts = parts'; marks = marks'; spare = spare })
reserved_tree parts parts' marks marks' spare ep em tree = rw (ep, em) tree

pub reserved_links : (parts parts' : List (Option Part)) (old new : Links) → parts' ≡ parts → AreLinked parts old → AreSameLinks old new
    → AreLinked parts' new
reserved_links parts parts' old new ep linked same =
    subst (λ (ps : List (Option Part)). AreLinked ps new) (sym ep) (same_links parts old new linked same)
