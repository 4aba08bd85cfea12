-- Alike forests around alike parts, and where an element that has an id stands in both.
use Rattle.std.proofs.Common.{◌≡◌, ℕ, Bool, true, false, if◌then◌else◌, Option, Some, None, List, refl, sym, ap, ◌∙◌, subst}
use Rattle.dom_forest.specs.Forest.{Forest, empty, tree, joined_forests, or_id}
use Rattle.dom_forest.specs.Ids.{has_id, element_with}
use Rattle.dom_forest.specs.declared.node.Mark.TheVariants.{Space}
use Rattle.dom_forest.specs.declared.node.NewNode.{NewNode}
use Rattle.dom_forest.specs.declared.node.NewNode.TheVariants.{Comment}
use Rattle.document_machine.specs.Edits.{waits}
use Rattle.page_laws.proofs.Contexts as context
use Rattle.page_laws.proofs.Contexts.{Context, plug}
use Rattle.like_laws.specs.Alike.{AgreesAfter, Alike, both, ends, left, right, content_without_digest}
use Rattle.like_laws.specs.Apart.{ends_after}
use Rattle.like_laws.proofs.ContentLemmas.{same_ids}

-- Contexts that are alike: a forest of which the first nodes stand after a marker or not, and then the part.
pub data AlikeContext : Bool → Bool → Context → Context → Bool → Bool → Type 0 where
  here : (m n : Bool) → AlikeContext m n context.here context.here m n
  under : (m n x y : Bool) (i j : ℕ) (c d : NewNode) (C D : Context) (f g : Forest) → content_without_digest c ≡ content_without_digest d → AgreesAfter c m n
      → AlikeContext false false C D x y → Alike (waits (Some c)) (waits (Some d)) f g → AlikeContext m n (context.under i c C f) (context.under j d D g) x y
  after : (m n x y : Bool) (i j : ℕ) (c d : NewNode) (kids others : Forest) (C D : Context) → content_without_digest c ≡ content_without_digest d → AgreesAfter c m n
      → Alike false false kids others → AlikeContext (waits (Some c)) (waits (Some d)) C D x y → AlikeContext m n (context.after i c kids C) (context.after j d others D) x y
  before : (m n x y : Bool) (i : ℕ) (C D : Context) → AlikeContext false n C D x y → AlikeContext m n (context.after i (Comment Space) empty C) D x y
  aside : (m n x y : Bool) (j : ℕ) (C D : Context) → AlikeContext m false C D x y → AlikeContext m n C (context.after j (Comment Space) empty D) x y

pub plugged : (m n x y : Bool) (C D : Context) (f g : Forest) → AlikeContext m n C D x y → Alike x y f g → Alike m n (plug C f) (plug D g)
plugged _ _ _ _ _ _ f g (here m n) a = a
plugged _ _ _ _ _ _ f g (under m n x y i j c d C D one other e o r alike) a = both m n i j c d (plug C f) (plug D g) one other e o (plugged false false x y C D f g r a) alike
plugged _ _ _ _ _ _ f g (after m n x y i j c d kids others C D e o k r) a =
    both m n i j c d kids others (plug C f) (plug D g) e o k (plugged (waits (Some c)) (waits (Some d)) x y C D f g r a)
plugged _ _ _ _ _ _ f g (before m n x y i C D r) a = left m n i (plug C f) (plug D g) (plugged false n x y C D f g r a)
plugged _ _ _ _ _ _ f g (aside m n x y j C D r) a = right m n j (plug C f) (plug D g) (plugged m false x y C D f g r a)

-- A node of one forest and the same of the other.
pub record Pair (m n : Bool) (f g : Forest) (i j : ℕ) : Type 0 where
  pub x : Bool
  pub y : Bool
  pub C : Context
  pub D : Context
  pub c : NewNode
  pub d : NewNode
  pub kids : Forest
  pub others : Forest
  pub later : Forest
  pub rest : Forest
  pub first_is : f ≡ plug C (tree i c kids later)
  pub second_is : g ≡ plug D (tree j d others rest)
  pub contexts : AlikeContext m n C D x y
  pub same : content_without_digest c ≡ content_without_digest d
  pub agrees : AgreesAfter c x y
  pub inner : Alike false false kids others
  pub outer : Alike (waits (Some c)) (waits (Some d)) later rest

-- a pair that stands below or after a node
abbrev pub pair_under : (m n : Bool) (i j p q : ℕ) (c d : NewNode) (kids others f g : Forest) → content_without_digest c ≡ content_without_digest d → AgreesAfter c m n
    → Alike (waits (Some c)) (waits (Some d)) f g → Pair false false kids others p q → Pair m n (tree i c kids f) (tree j d others g) p q
pair_under m n i j p q c d kids others f g e o l r = record {
  x = r.x;
  y = r.y;
  C = context.under i c r.C f;
  D = context.under j d r.D g;
  c = r.c;
  d = r.d;
  kids = r.kids;
  others = r.others;
  later = r.later;
  rest = r.rest;
  first_is = ap (λ k. tree i c k f) r.first_is;
  second_is = ap (λ k. tree j d k g) r.second_is;
  contexts = under m n r.x r.y i j c d r.C r.D f g e o r.contexts l;
  same = r.same;
  agrees = r.agrees;
  inner = r.inner;
  outer = r.outer;
}

abbrev pub pair_after : (m n : Bool) (i j p q : ℕ) (c d : NewNode) (kids others f g : Forest) → content_without_digest c ≡ content_without_digest d → AgreesAfter c m n
    → Alike false false kids others → Pair (waits (Some c)) (waits (Some d)) f g p q → Pair m n (tree i c kids f) (tree j d others g) p q
pair_after m n i j p q c d kids others f g e o k r = record {
  x = r.x;
  y = r.y;
  C = context.after i c kids r.C;
  D = context.after j d others r.D;
  c = r.c;
  d = r.d;
  kids = r.kids;
  others = r.others;
  later = r.later;
  rest = r.rest;
  first_is = ap (tree i c kids) r.first_is;
  second_is = ap (tree j d others) r.second_is;
  contexts = after m n r.x r.y i j c d kids others r.C r.D e o k r.contexts;
  same = r.same;
  agrees = r.agrees;
  inner = r.inner;
  outer = r.outer;
}

abbrev pub pair_left : (m n : Bool) (i p q : ℕ) (f g : Forest) → Pair false n f g p q → Pair m n (tree i (Comment Space) empty f) g p q
pair_left m n i p q f g r = record {
  x = r.x;
  y = r.y;
  C = context.after i (Comment Space) empty r.C;
  D = r.D;
  c = r.c;
  d = r.d;
  kids = r.kids;
  others = r.others;
  later = r.later;
  rest = r.rest;
  first_is = ap (tree i (Comment Space) empty) r.first_is;
  second_is = r.second_is;
  contexts = before m n r.x r.y i r.C r.D r.contexts;
  same = r.same;
  agrees = r.agrees;
  inner = r.inner;
  outer = r.outer;
}

abbrev pub pair_right : (m n : Bool) (j p q : ℕ) (f g : Forest) → Pair m false f g p q → Pair m n f (tree j (Comment Space) empty g) p q
pair_right m n j p q f g r = record {
  x = r.x;
  y = r.y;
  C = r.C;
  D = context.after j (Comment Space) empty r.D;
  c = r.c;
  d = r.d;
  kids = r.kids;
  others = r.others;
  later = r.later;
  rest = r.rest;
  first_is = r.first_is;
  second_is = ap (tree j (Comment Space) empty) r.second_is;
  contexts = aside m n r.x r.y j r.C r.D r.contexts;
  same = r.same;
  agrees = r.agrees;
  inner = r.inner;
  outer = r.outer;
}

abbrev pub pair_here : (m n : Bool) (i j : ℕ) (c d : NewNode) (kids others f g : Forest) → content_without_digest c ≡ content_without_digest d → AgreesAfter c m n
    → Alike false false kids others → Alike (waits (Some c)) (waits (Some d)) f g → Pair m n (tree i c kids f) (tree j d others g) i j
pair_here m n i j c d kids others f g e o k l = record {
  x = m;
  y = n;
  C = context.here;
  D = context.here;
  c = c;
  d = d;
  kids = kids;
  others = others;
  later = f;
  rest = g;
  first_is = refl;
  second_is = refl;
  contexts = here m n;
  same = e;
  agrees = o;
  inner = k;
  outer = l;
}

-- What is found by an id in one is found in the other.
pub not_found : (m n : Bool) (f g : Forest) (id : List ℕ) → Alike m n f g → element_with id f ≡ None → element_with id g ≡ None
not_found _ _ _ _ id (ends m) e = refl
not_found _ _ _ _ id (left m n i f g r) e = not_found false n f g id r e
not_found _ _ _ _ id (right m n j f g r) e = not_found m false f g id r e
not_found _ _ _ _ id (both m n i j c d kids others f g s o k l) e =
    none_of (has_id id c) (has_id id d) (same_ids id c d s) i j (element_with id kids) (element_with id f) (element_with id others) (element_with id g) e
    (not_found false false kids others id k) (not_found (waits (Some c)) (waits (Some d)) f g id l) where
      none_of : (p q : Bool) → p ≡ q → (i j : ℕ) (a b c d : Option ℕ) → (if p then Some i else or_id a b) ≡ None → (a ≡ None → c ≡ None) → (b ≡ None → d ≡ None)
          → (if q then Some j else or_id c d) ≡ None
      none_of true q s i j a b c d e h g = absurd (let z : Some i ≡ None = e in cc)
      none_of false true s i j a b c d e h g = absurd (let z : false ≡ true = s in cc)
      none_of false false s i j None b c d e h g = ap (λ o. or_id o d) (h refl) ∙ g e
      none_of false false s i j (Some n) b c d e h g = absurd (let z : Some n ≡ None = e in cc)

pub record Found (m n : Bool) (f g : Forest) (id : List ℕ) (i : ℕ) : Type 0 where
  pub j : ℕ
  pub found : element_with id g ≡ Some j
  pub pair : Pair m n f g i j
  pub has : has_id id pair.c ≡ true

module _ (id : List ℕ) (p : ℕ) where
  found_tree : (m n : Bool) (i j : ℕ) (c d : NewNode) (kids others f g : Forest) (s : content_without_digest c ≡ content_without_digest d) (o : AgreesAfter c m n)
      (k : Alike false false kids others) (l : Alike (waits (Some c)) (waits (Some d)) f g)
      (b q : Bool) → has_id id c ≡ b → has_id id d ≡ q → b ≡ q → (in_kids : Option ℕ) → element_with id kids ≡ in_kids
      → (if b then Some i else or_id in_kids (element_with id f)) ≡ Some p
      → (element_with id kids ≡ Some p → Found false false kids others id p)
      → (element_with id f ≡ Some p → Found (waits (Some c)) (waits (Some d)) f g id p)
      → Found m n (tree i c kids f) (tree j d others g) id p
  found_tree m n i j c d kids others f g s o k l true q h h' same in_kids is e down on =
      let one : Some i ≡ Some p = e in
      let number : i ≡ p = cc in
      subst (Found m n (tree i c kids f) (tree j d others g) id) number (record {
        j = j;
        found = ap (λ t. if t then Some j else or_id (element_with id others) (element_with id g)) (h' ∙ sym same);
        pair = pair_here m n i j c d kids others f g s o k l;
        has = h;
      })
  found_tree m n i j c d kids others f g s o k l false true h h' same in_kids is e down on = absurd (let z : false ≡ true = same in cc)
  found_tree m n i j c d kids others f g s o k l false false h h' same None is e down on =
      let r = on e in
      record {
        j = r.j;
        found = ap (λ t. if t then Some j else or_id (element_with id others) (element_with id g)) h' ∙ ap (λ t. or_id t (element_with id g)) (not_found false false kids others id k is) ∙ r.found;
        pair = pair_after m n i j p r.j c d kids others f g s o k r.pair;
        has = r.has;
      }
  found_tree m n i j c d kids others f g s o k l false false h h' same (Some z) is e down on =
      let r = down (is ∙ e) in
      record {
        j = r.j;
        found = ap (λ t. if t then Some j else or_id (element_with id others) (element_with id g)) h' ∙ ap (λ t. or_id t (element_with id g)) r.found;
        pair = pair_under m n i j p r.j c d kids others f g s o l r.pair;
        has = r.has;
      }

  pub found_pair : (m n : Bool) (f g : Forest) → Alike m n f g → element_with id f ≡ Some p → Found m n f g id p
  found_pair _ _ _ _ (ends m) e = absurd (let z : None ≡ Some p = e in cc)
  found_pair _ _ _ _ (left m n i f g r) e = let s = found_pair false n f g r e in record { j = s.j; found = s.found; pair = pair_left m n i p s.j f g s.pair; has = s.has }
  found_pair _ _ _ _ (right m n j f g r) e = let s = found_pair m false f g r e in record { j = s.j; found = s.found; pair = pair_right m n j p s.j f g s.pair; has = s.has }
  found_pair _ _ _ _ (both m n i j c d kids others f g s o k l) e =
      found_tree m n i j c d kids others f g s o k l (has_id id c) (has_id id d) refl refl (same_ids id c d s) (element_with id kids) refl e
      (found_pair false false kids others k) (found_pair (waits (Some c)) (waits (Some d)) f g l)

-- What is joined at the end of alike siblings. The last of them may be a marker.
pub joined_alike : (m n : Bool) (a b f g : Forest) → Alike m n a b → ((s : Bool) → s ≡ ends_after m a → Alike s s f g) → Alike m n (joined_forests a f) (joined_forests b g)
joined_alike _ _ _ _ f g (ends m) h = h m refl
joined_alike _ _ _ _ f g (left m n i a b r) h = left m n i (joined_forests a f) (joined_forests b g) (joined_alike false n a b f g r h)
joined_alike _ _ _ _ f g (right m n j a b r) h = right m n j (joined_forests a f) (joined_forests b g) (joined_alike m false a b f g r h)
joined_alike _ _ _ _ f g (both m n i j c d kids others a b s o k l) h =
    both m n i j c d kids others (joined_forests a f) (joined_forests b g) s o k (joined_alike (waits (Some c)) (waits (Some d)) a b f g l h)
