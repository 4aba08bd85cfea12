-- The marker before an element and the end of its boundary, in alike forests.
use Rattle.std.proofs.Common.{◌≡◌, ◌⊎◌, inl, inr, ℕ, ◌+◌, ◌-◌, ◌≤◌, ◌==◌, eqb, Bool, true, false, if◌then◌else◌, Option, Some, None, refl, sym, ap, ◌∙◌, subst, arith}
use Rattle.std.proofs.lemmas.Bool.{cond-true, cond-false, eq-eqb}
use Rattle.dom_forest.specs.Boundary.{closing_mark}
use Rattle.dom_forest.specs.Forest.{Forest, empty, tree, times, first_content, or_id, previous_after}
use Rattle.dom_forest.specs.declared.node.Mark.TheVariants.{Complete, Pending, Client, End, Space}
use Rattle.dom_forest.specs.declared.node.NewNode.{NewNode}
use Rattle.dom_forest.specs.declared.node.NewNode.TheVariants.{Element, Text, Comment}
use Rattle.document_machine.specs.Edits.{from_sibling, marker_of, waiting, waits}
use Rattle.page_laws.proofs.Contexts as context
use Rattle.page_laws.proofs.Contexts.{Context, plug, around, from-plug, previous-plug, previous_after-none, times-plug}
use Rattle.page_laws.proofs.MachineEdits.{from_first, one_self, one_zero}
use Rattle.page_laws.proofs.PagesLemmas.{one}
use Rattle.like_laws.specs.Alike.{Alike, both, ends, left, right, content_without_digest}
use Rattle.like_laws.proofs.AlikeContexts.{AlikeContext, after, aside, before, here, under}

true_false : true ≡ false → ⊥
true_false e = cc

-- Whether the part stands directly after a marker.
abbrev pub stands_after : Bool → Context → Bool
stands_after m context.here = m
stands_after m (context.under i c C l) = stands_after false C
stands_after m (context.after i c k C) = stands_after (waits (Some c)) C

pub modes : (m n x y : Bool) (C D : Context) → AlikeContext m n C D x y → (x ≡ stands_after m C) × (y ≡ stands_after n D)
modes _ _ _ _ _ _ (here m n) = (refl, refl)
modes _ _ _ _ _ _ (under m n x y i j c d C D one other e o r l) = modes false false x y C D r
modes _ _ _ _ _ _ (after m n x y i j c d kids others C D e o k r) = modes (waits (Some c)) (waits (Some d)) x y C D r
modes _ _ _ _ _ _ (before m n x y i C D r) = modes false n x y C D r
modes _ _ _ _ _ _ (aside m n x y j C D r) = modes m false x y C D r

-- A part whose first node is the first of its siblings, or stands after one.
record IsFirst (C : Context) : Type 0 where
  none : (n : ℕ) (x : NewNode) (k l : Forest) (b : Option ℕ) → around n C ≡ 0 → previous_after b n (plug C (tree n x k l)) ≡ None
  mode : (m : Bool) → stands_after m C ≡ false

pub record HasPrevious (C : Context) : Type 0 where
  pub around_it : Context
  pub id : ℕ
  pub content : NewNode
  pub kids : Forest
  pub is : (f : Forest) → plug C f ≡ plug around_it (tree id content kids f)
  pub mode : (m : Bool) → stands_after m C ≡ waits (Some content)

previous_here : (b : Option ℕ) (n : ℕ) (x : NewNode) (k l : Forest) → previous_after b n (tree n x k l) ≡ b
previous_here b n x k l = cond-true (eqb n n) _ _ (eq-eqb n n refl)

none_under : (n i : ℕ) (x : NewNode) (kids l : Forest) (a : ℕ) (b : Option ℕ) (t : Bool) → (i == n) ≡ t → (if t then 1 else 0) + a + times n l ≡ 0
    → (a ≡ 0 → previous_after None n kids ≡ None) → previous_after b n (tree i x kids l) ≡ None
none_under n i x kids l a b true e z h = absurd (omega arith)
none_under n i x kids l a b false e z h =
    cond-false (eqb i n) _ _ e ∙ ap (λ o. or_id o (previous_after (Some i) n l)) (h (omega arith)) ∙ previous_after-none (Some i) n l (omega arith)

none_after : (n i : ℕ) (x : NewNode) (k later : Forest) (a : ℕ) (b : Option ℕ) (t : Bool) → (i == n) ≡ t → (if t then 1 else 0) + times n k + a ≡ 0
    → (a ≡ 0 → previous_after (Some i) n later ≡ None) → previous_after b n (tree i x k later) ≡ None
none_after n i x k later a b true e z h = absurd (omega arith)
none_after n i x k later a b false e z h =
    cond-false (eqb i n) _ _ e ∙ ap (λ o. or_id o (previous_after (Some i) n later)) (previous_after-none None n k (omega arith)) ∙ h (omega arith)

first_under : (i : ℕ) (c : NewNode) (C : Context) (l : Forest) → ((n : ℕ) (x : NewNode) (k r : Forest) → around n C ≡ 0 → previous_after None n (plug C (tree n x k r)) ≡ None)
    → ((m : Bool) → stands_after false C ≡ false) → IsFirst (context.under i c C l)
first_under i c C l h mode = record {
  none = λ n x k r b z. none_under n i c (plug C (tree n x k r)) l (around n C) b (i == n) refl z (λ a. h n x k r a);
  mode = mode;
}

record AtStart (C : Context) : Type 0 where
  is : (f : Forest) → plug C f ≡ f
  mode : (m : Bool) → stands_after m C ≡ m
  none : (n : ℕ) (x : NewNode) (k l : Forest) → previous_after None n (plug C (tree n x k l)) ≡ None

abbrev Previous : Context → Type 0
Previous C = AtStart C ⊎ (IsFirst C ⊎ HasPrevious C)

previous_under : (i : ℕ) (c : NewNode) (C : Context) (l : Forest) → Previous C → Previous (context.under i c C l)
previous_under i c C l (inl s) = inr (inl (first_under i c C l (λ n x k r z. s.none n x k r) (λ m. s.mode false)))
previous_under i c C l (inr (inl s)) = inr (inl (first_under i c C l (λ n x k r z. s.none n x k r None z) (λ m. s.mode false)))
previous_under i c C l (inr (inr s)) = inr (inr (record {
  around_it = context.under i c s.around_it l;
  id = s.id;
  content = s.content;
  kids = s.kids;
  is = λ f. ap (λ k. tree i c k l) (s.is f);
  mode = λ m. s.mode false;
}))

previous_past : (i : ℕ) (c : NewNode) (k : Forest) (C : Context) → Previous C → Previous (context.after i c k C)
previous_past i c k C (inl s) = inr (inr (record {
  around_it = context.here;
  id = i;
  content = c;
  kids = k;
  is = λ f. ap (tree i c k) (s.is f);
  mode = λ m. s.mode (waits (Some c));
}))
previous_past i c k C (inr (inl s)) = inr (inl (record {
  none = λ n x kids r b z. none_after n i c k (plug C (tree n x kids r)) (around n C) b (i == n) refl z (λ a. s.none n x kids r (Some i) a);
  mode = λ m. s.mode (waits (Some c));
}))
previous_past i c k C (inr (inr s)) = inr (inr (record {
  around_it = context.after i c k s.around_it;
  id = s.id;
  content = s.content;
  kids = s.kids;
  is = λ f. ap (tree i c k) (s.is f);
  mode = λ m. s.mode (waits (Some c));
}))

previous : (C : Context) → Previous C
previous context.here = inl (record { is = λ f. refl; mode = λ m. refl; none = λ n x k l. previous_here None n x k l })
previous (context.under i c C l) = previous_under i c C l (previous C)
previous (context.after i c k C) = previous_past i c k C (previous C)

-- The marker of an element that stands directly after a node.
module _ (E : Context) (m n : ℕ) (w x : NewNode) (below k l : Forest) (once : (j : ℕ) → times j (plug E (tree m w below (tree n x k l))) ≤ 1) where
  abbrev part : Forest
  part = tree m w below (tree n x k l)

  all_times : (j : ℕ) → times j (plug E part) ≡ around j E + (one (m == j) + times j below + (one (n == j) + times j k + times j l))
  all_times j = times-plug j E part ∙ omega arith

  pub marker_apart : (m == n) ≡ false
  marker_apart = one_zero (m == n) (omega (arith, all_times n, once n, one_self n))

  pub none_below : times n below ≡ 0
  none_below = omega (arith, all_times n, once n, one_self n)

  pub none_around : around n E ≡ 0
  none_around = omega (arith, all_times n, once n, one_self n)

  previous_is : (b : Option ℕ) → previous_after b n part ≡ Some m
  previous_is b =
      cond-false (eqb m n) _ _ marker_apart ∙ ap (λ o. or_id o (previous_after (Some m) n (tree n x k l))) (previous_after-none None n below none_below)
      ∙ previous_here (Some m) n x k l

  pub marker_is : marker_of n (plug E part) ≡ (if waits (Some w) then Some m else None)
  marker_is =
      ap (waiting (plug E part)) (previous-plug n m part previous_is E None none_around)
      ∙ ap (λ o. if waits o then Some m else None) (ap first_content (from_first E m w below (tree n x k l) once))

-- No marker stands there.
pub no_marker : (C : Context) (n : ℕ) (x : NewNode) (k l : Forest) → ((j : ℕ) → times j (plug C (tree n x k l)) ≤ 1) → stands_after false C ≡ false
    → marker_of n (plug C (tree n x k l)) ≡ None
no_marker C n x k l once e = by (previous C) where
  alone : around n C ≡ 0
  alone = omega (arith, times-plug n C (tree n x k l), once n, one_self n)

  by : Previous C → marker_of n (plug C (tree n x k l)) ≡ None
  by (inl s) = ap (waiting (plug C (tree n x k l))) (s.none n x k l)
  by (inr (inl s)) = ap (waiting (plug C (tree n x k l))) (s.none n x k l None alone)
  by (inr (inr s)) =
      ap (marker_of n) (s.is (tree n x k l))
      ∙ marker_is s.around_it s.id n s.content x s.kids k l (λ j. subst (λ f. times j f ≤ 1) (s.is (tree n x k l)) (once j))
      ∙ ap (λ b. if b then Some s.id else None) (sym (s.mode false) ∙ e)

-- Parts of alike forests that stand directly after markers.
pub record Marked (m n : Bool) (C D : Context) : Type 0 where
  pub x : Bool
  pub y : Bool
  pub E : Context
  pub F : Context
  pub i : ℕ
  pub j : ℕ
  pub c : NewNode
  pub d : NewNode
  pub kids : Forest
  pub others : Forest
  pub first_is : (f : Forest) → plug C f ≡ plug E (tree i c kids f)
  pub second_is : (f : Forest) → plug D f ≡ plug F (tree j d others f)
  pub contexts : AlikeContext m n E F x y
  pub inner : Alike false false kids others
  pub waiting : waits (Some c) ≡ true
  pub same : content_without_digest c ≡ content_without_digest d

marked : (m n x y : Bool) (C D : Context) → AlikeContext m n C D x y → x ≡ true → y ≡ true → ((C ≡ context.here) × (D ≡ context.here)) ⊎ Marked m n C D
marked _ _ _ _ _ _ (here m n) p q = inl (refl, refl)
marked _ _ _ _ _ _ (under m n x y i j c d C D one other e o r l) p q = by (marked false false x y C D r p q) where
  by : ((C ≡ context.here) × (D ≡ context.here)) ⊎ Marked false false C D → ((context.under i c C one ≡ context.here) × (context.under j d D other ≡ context.here)) ⊎ Marked m n (context.under i c C one) (context.under j d D other)
  by (inl s) = absurd (true_false (sym p ∙ (modes false false x y C D r).0 ∙ ap (stands_after false) s.0))
  by (inr s) = inr (record {
    x = s.x;
    y = s.y;
    E = context.under i c s.E one;
    F = context.under j d s.F other;
    i = s.i;
    j = s.j;
    c = s.c;
    d = s.d;
    kids = s.kids;
    others = s.others;
    first_is = λ f. ap (λ k. tree i c k one) (s.first_is f);
    second_is = λ f. ap (λ k. tree j d k other) (s.second_is f);
    contexts = under m n s.x s.y i j c d s.E s.F one other e o s.contexts l;
    inner = s.inner;
    waiting = s.waiting;
    same = s.same;
  })
marked _ _ _ _ _ _ (after m n x y i j c d kids others C D e o k r) p q = by (marked (waits (Some c)) (waits (Some d)) x y C D r p q) where
  by : ((C ≡ context.here) × (D ≡ context.here)) ⊎ Marked (waits (Some c)) (waits (Some d)) C D
      → ((context.after i c kids C ≡ context.here) × (context.after j d others D ≡ context.here)) ⊎ Marked m n (context.after i c kids C) (context.after j d others D)
  by (inl s) = inr (record {
    x = m;
    y = n;
    E = context.here;
    F = context.here;
    i = i;
    j = j;
    c = c;
    d = d;
    kids = kids;
    others = others;
    first_is = λ f. ap (λ (a : Context). tree i c kids (plug a f)) s.0;
    second_is = λ f. ap (λ (a : Context). tree j d others (plug a f)) s.1;
    contexts = here m n;
    inner = k;
    waiting = sym ((modes (waits (Some c)) (waits (Some d)) x y C D r).0 ∙ ap (stands_after (waits (Some c))) s.0) ∙ p;
    same = e;
  })
  by (inr s) = inr (record {
    x = s.x;
    y = s.y;
    E = context.after i c kids s.E;
    F = context.after j d others s.F;
    i = s.i;
    j = s.j;
    c = s.c;
    d = s.d;
    kids = s.kids;
    others = s.others;
    first_is = λ f. ap (tree i c kids) (s.first_is f);
    second_is = λ f. ap (tree j d others) (s.second_is f);
    contexts = after m n s.x s.y i j c d kids others s.E s.F e o k s.contexts;
    inner = s.inner;
    waiting = s.waiting;
    same = s.same;
  })
marked _ _ _ _ _ _ (before m n x y i C D r) p q = by (marked false n x y C D r p q) where
  by : ((C ≡ context.here) × (D ≡ context.here)) ⊎ Marked false n C D
      → ((context.after i (Comment Space) empty C ≡ context.here) × (D ≡ context.here)) ⊎ Marked m n (context.after i (Comment Space) empty C) D
  by (inl s) = absurd (true_false (sym p ∙ (modes false n x y C D r).0 ∙ ap (stands_after false) s.0))
  by (inr s) = inr (record {
    x = s.x;
    y = s.y;
    E = context.after i (Comment Space) empty s.E;
    F = s.F;
    i = s.i;
    j = s.j;
    c = s.c;
    d = s.d;
    kids = s.kids;
    others = s.others;
    first_is = λ f. ap (tree i (Comment Space) empty) (s.first_is f);
    second_is = s.second_is;
    contexts = before m n s.x s.y i s.E s.F s.contexts;
    inner = s.inner;
    waiting = s.waiting;
    same = s.same;
  })
marked _ _ _ _ _ _ (aside m n x y i C D r) p q = by (marked m false x y C D r p q) where
  by : ((C ≡ context.here) × (D ≡ context.here)) ⊎ Marked m false C D
      → ((C ≡ context.here) × (context.after i (Comment Space) empty D ≡ context.here)) ⊎ Marked m n C (context.after i (Comment Space) empty D)
  by (inl s) = absurd (true_false (sym q ∙ (modes m false x y C D r).1 ∙ ap (stands_after false) s.1))
  by (inr s) = inr (record {
    x = s.x;
    y = s.y;
    E = s.E;
    F = context.after i (Comment Space) empty s.F;
    i = s.i;
    j = s.j;
    c = s.c;
    d = s.d;
    kids = s.kids;
    others = s.others;
    first_is = s.first_is;
    second_is = λ f. ap (tree i (Comment Space) empty) (s.second_is f);
    contexts = aside m n s.x s.y i s.E s.F s.contexts;
    inner = s.inner;
    waiting = s.waiting;
    same = s.same;
  })

pub marked_both : (x y : Bool) (C D : Context) → AlikeContext false false C D x y → x ≡ true → y ≡ true → Marked false false C D
marked_both x y C D r p q = by (marked false false x y C D r p q) where
  by : ((C ≡ context.here) × (D ≡ context.here)) ⊎ Marked false false C D → Marked false false C D
  by (inl s) = absurd (true_false (sym p ∙ (modes false false x y C D r).0 ∙ ap (stands_after false) s.0))
  by (inr s) = s

-- The end of a boundary.

data Turning : Type 0 where
  opens : Turning
  closes : Turning
  stays : Turning

abbrev turning : NewNode → Turning
turning (Element name attributes) = stays
turning (Text t) = stays
turning (Comment Complete) = opens
turning (Comment Pending) = opens
turning (Comment Client) = opens
turning (Comment End) = closes
turning (Comment Space) = stays

abbrev searched : Turning → ℕ → (ℕ → Option ℕ) → ℕ → Option ℕ
searched opens i later k = later (k + 1)
searched closes i later k = if k == 0 then Some i else later (k - 1)
searched stays i later k = later k

searched_is : (c : NewNode) (i k : ℕ) (kids later : Forest) → closing_mark (tree i c kids later) k ≡ searched (turning c) i (closing_mark later) k
searched_is (Element name attributes) i k kids later = refl
searched_is (Text t) i k kids later = refl
searched_is (Comment Complete) i k kids later = refl
searched_is (Comment Pending) i k kids later = refl
searched_is (Comment Client) i k kids later = refl
searched_is (Comment End) i k kids later = refl
searched_is (Comment Space) i k kids later = refl

same_turn : (c d : NewNode) → content_without_digest c ≡ content_without_digest d → turning c ≡ turning d
same_turn c d e = sym (bare_turn c) ∙ ap turning e ∙ bare_turn d where
  bare_turn : (c : NewNode) → turning (content_without_digest c) ≡ turning c
  bare_turn (Element name attributes) = refl
  bare_turn (Text t) = refl
  bare_turn (Comment Complete) = refl
  bare_turn (Comment Pending) = refl
  bare_turn (Comment Client) = refl
  bare_turn (Comment End) = refl
  bare_turn (Comment Space) = refl

stays_closes : stays ≡ closes → ⊥
stays_closes e = cc

opens_closes : opens ≡ closes → ⊥
opens_closes e = cc

closes_end : (c : NewNode) → turning c ≡ closes → c ≡ Comment End
closes_end (Element name attributes) e = absurd (stays_closes e)
closes_end (Text t) e = absurd (stays_closes e)
closes_end (Comment Complete) e = absurd (opens_closes e)
closes_end (Comment Pending) e = absurd (opens_closes e)
closes_end (Comment Client) e = absurd (opens_closes e)
closes_end (Comment End) e = refl
closes_end (Comment Space) e = absurd (stays_closes e)

some_is : (a b : ℕ) → Some a ≡ Some b → a ≡ b
some_is a b e = cc

found_there : (t : Turning) (i e k : ℕ) (f : Forest) → searched t i (closing_mark f) k ≡ Some e → ((k : ℕ) → closing_mark f k ≡ Some e → 1 ≤ times e f) → 1 ≤ one (i == e) + times e f
found_there opens i e k f is h = omega (arith, h (k + 1) is)
found_there stays i e k f is h = omega (arith, h k is)
found_there closes i e k f is h = by (k == 0) is where
  by : (b : Bool) → (if b then Some i else closing_mark f (k - 1)) ≡ Some e → 1 ≤ one (i == e) + times e f
  by true is = omega (arith, ap (λ n. one (n == e)) (some_is i e is), one_self e)
  by false is = omega (arith, h (k - 1) is)

pub closing_there : (f : Forest) (e k : ℕ) → closing_mark f k ≡ Some e → 1 ≤ times e f
closing_there empty e k is = absurd (let z : None ≡ Some e = is in cc)
closing_there (tree i c kids later) e k is = omega (arith, found_there (turning c) i e k later (sym (searched_is c i k kids later) ∙ is) (λ k' h. closing_there later e k' h))

pub record Ends (f g : Forest) (k e : ℕ) : Type 0 where
  pub j : ℕ
  pub found : closing_mark g k ≡ Some j
  pub z : Forest
  pub r : Forest
  pub z' : Forest
  pub r' : Forest
  pub first_is : from_sibling e f ≡ tree e (Comment End) z r
  pub second_is : from_sibling j g ≡ tree j (Comment End) z' r'
  pub inner : Alike false false z z'
  pub outer : Alike false false r r'

past_sibling : (e i : ℕ) (c : NewNode) (kids later : Forest) → times e (tree i c kids later) ≤ 1 → 1 ≤ times e later → from_sibling e (tree i c kids later) ≡ from_sibling e later
past_sibling e i c kids later once there = cond-false (eqb i e) _ _ (one_zero (i == e) (omega arith))

ends_later : (i j k k' e : ℕ) (c d : NewNode) (kids others f g : Forest) → times e (tree i c kids f) ≤ 1 → ((n : ℕ) → times n (tree j d others g) ≤ 1) → closing_mark f k' ≡ Some e
    → ((n : ℕ) → closing_mark g k' ≡ Some n → closing_mark (tree j d others g) k ≡ Some n) → Ends f g k' e → Ends (tree i c kids f) (tree j d others g) k e
ends_later i j k k' e c d kids others f g once once' is goes s = record {
  j = s.j;
  found = goes s.j s.found;
  z = s.z;
  r = s.r;
  z' = s.z';
  r' = s.r';
  first_is = past_sibling e i c kids f once (closing_there f e k' is) ∙ s.first_is;
  second_is = past_sibling s.j j d others g (once' s.j) (closing_there g s.j k' s.found) ∙ s.second_is;
  inner = s.inner;
  outer = s.outer;
}

ends_both : (t : Turning) (i j k e : ℕ) (c d : NewNode) (kids others f g : Forest) → turning c ≡ t → turning d ≡ t → times e (tree i c kids f) ≤ 1 → ((n : ℕ) → times n (tree j d others g) ≤ 1)
    → Alike false false kids others → Alike (waits (Some c)) (waits (Some d)) f g → searched t i (closing_mark f) k ≡ Some e
    → ((k' : ℕ) → closing_mark f k' ≡ Some e → Ends f g k' e) → Ends (tree i c kids f) (tree j d others g) k e
ends_both opens i j k e c d kids others f g tc td once once' inner outer is h =
    ends_later i j k (k + 1) e c d kids others f g once once' is (λ n s. searched_is d j k others g ∙ ap (λ t. searched t j (closing_mark g) k) td ∙ s) (h (k + 1) is)
ends_both stays i j k e c d kids others f g tc td once once' inner outer is h =
    ends_later i j k k e c d kids others f g once once' is (λ n s. searched_is d j k others g ∙ ap (λ t. searched t j (closing_mark g) k) td ∙ s) (h k is)
ends_both closes i j k e c d kids others f g tc td once once' inner outer is h = by (k == 0) refl is where
  by : (b : Bool) → (k == 0) ≡ b → (if b then Some i else closing_mark f (k - 1)) ≡ Some e → Ends (tree i c kids f) (tree j d others g) k e
  by true zero is =
      let same : i ≡ e = some_is i e is in
      subst (Ends (tree i c kids f) (tree j d others g) k) same (record {
        j = j;
        found = searched_is d j k others g ∙ ap (λ t. searched t j (closing_mark g) k) td ∙ ap (λ b. if b then Some j else closing_mark g (k - 1)) zero;
        z = kids;
        r = f;
        z' = others;
        r' = g;
        first_is = cond-true (eqb i i) _ _ (eq-eqb i i refl) ∙ ap (λ x. tree i x kids f) (closes_end c tc);
        second_is = cond-true (eqb j j) _ _ (eq-eqb j j refl) ∙ ap (λ x. tree j x others g) (closes_end d td);
        inner = inner;
        outer = subst (λ x. Alike (waits (Some x)) false f g) (closes_end c tc) (subst (λ x. Alike (waits (Some c)) (waits (Some x)) f g) (closes_end d td) outer);
      })
  by false zero is =
      ends_later i j k (k - 1) e c d kids others f g once once' is
      (λ n s. searched_is d j k others g ∙ ap (λ t. searched t j (closing_mark g) k) td ∙ ap (λ b. if b then Some j else closing_mark g (k - 1)) zero ∙ s) (h (k - 1) is)

once_after : (i : ℕ) (c : NewNode) (kids later : Forest) → ((n : ℕ) → times n (tree i c kids later) ≤ 1) → (n : ℕ) → times n later ≤ 1
once_after i c kids later once n = omega (arith, once n)

pub end_pair : (m n : Bool) (f g : Forest) → Alike m n f g → ((n : ℕ) → times n f ≤ 1) → ((n : ℕ) → times n g ≤ 1) → (k e : ℕ) → closing_mark f k ≡ Some e → Ends f g k e
end_pair _ _ _ _ (ends m) once once' k e is = absurd (let z : None ≡ Some e = is in cc)
end_pair _ _ _ _ (left m n i f g r) once once' k e is =
    let s = end_pair false n f g r (once_after i (Comment Space) empty f once) once' k e is in
    record {
      j = s.j;
      found = s.found;
      z = s.z;
      r = s.r;
      z' = s.z';
      r' = s.r';
      first_is = past_sibling e i (Comment Space) empty f (once e) (closing_there f e k is) ∙ s.first_is;
      second_is = s.second_is;
      inner = s.inner;
      outer = s.outer;
    }
end_pair _ _ _ _ (right m n j f g r) once once' k e is =
    let s = end_pair m false f g r once (once_after j (Comment Space) empty g once') k e is in
    record {
      j = s.j;
      found = s.found;
      z = s.z;
      r = s.r;
      z' = s.z';
      r' = s.r';
      first_is = s.first_is;
      second_is = past_sibling s.j j (Comment Space) empty g (once' s.j) (closing_there g s.j k s.found) ∙ s.second_is;
      inner = s.inner;
      outer = s.outer;
    }
end_pair _ _ _ _ (both m n i j c d kids others f g s o k l) once once' q e is =
    ends_both (turning c) i j q e c d kids others f g refl (sym (same_turn c d s)) (once e) once' k l (sym (searched_is c i q kids f) ∙ is)
    (λ q' h. end_pair (waits (Some c)) (waits (Some d)) f g l (once_after i c kids f once) (once_after j d others g once') q' e h)
