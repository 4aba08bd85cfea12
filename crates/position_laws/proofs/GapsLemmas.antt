-- The gaps of a piece: where they stand, who owns them, and what fills them.
use Rattle.std.proofs.Common.{◌≡◌, ℕ, zero, suc, ◌+◌, Bool, List, [], ◌∷◌, ◌++◌, Option, Some, None, refl, sym, ap, ◌∙◌, subst, append_assoc, inl, inr, length, get_or, ◌<◌, arith}
use Rattle.std.specs.Prelude.{Contains, option_and_then, option_map, ◌⊎◌}
use Rattle.std.proofs.lemmas.List.{append-nil}
use Rattle.std.proofs.lemmas.List.Elements.{Contains-append_left, Contains-append_right, Contains-append_cases}
use Rattle.jsx_value.specs.Spots.{Label, nothing, text, element, array, boundary, wait, fail, Spots, none, spot, One, nth, inside, at, bare_fails, own_bare_fails}
use Rattle.position_laws.specs.Paths.{Under, label_at}
use Rattle.position_laws.specs.Later.{Later, ends, stays, opens, LaterOne, stays_one, opens_one}
use Rattle.position_laws.specs.Owners.{own_boundary, or_own, owner_of, owner_below}
use Rattle.position_laws.specs.Gaps.{Gap, waiting, bounded, gap_path, gap_label, gaps_below, gaps_of, label_gaps, IsGapIn, IsLeaf, Fills, LiesInGap}
use Rattle.position_laws.proofs.OwnersLemmas.{at-append, at-step, owner-append, owner-step, nothing_there, same_one}

-- A gap of what stands inside a position, by the steps to it.
pub record Found (above : List ℕ) (n : ℕ) (spots : Spots) (gap : Gap) : Type 0 where
  pub k : ℕ
  pub rest : List ℕ
  pub x : One
  pub stands : nth spots k ≡ Some x
  pub path : gap_path gap ≡ above ++ (n + k) ∷ rest
  pub label : label_at x rest ≡ Some (gap_label gap)
  pub owner : owner_of x rest ≡ None

-- A gap of a position, by the steps to it.
pub record FoundIn (path : List ℕ) (one : One) (gap : Gap) : Type 0 where
  pub rest : List ℕ
  pub is : gap_path gap ≡ path ++ rest
  pub label : label_at one rest ≡ Some (gap_label gap)
  pub owner : owner_of one rest ≡ None

only_member : (g h : Gap) → Contains (g ∷ []) h → g ≡ h
only_member g h c =
    let less : c.0 < length (g ∷ []) = c.1 in
    let first : c.0 ≡ 0 = omega arith in
    subst (λ (i : ℕ). get_or (g ∷ []) i h ≡ h) first c.2

pub no_gap : (g : Gap) → Contains [] g → ⊥
no_gap g h = let less : h.0 < length {A = Gap} [] = h.1 in omega arith

-- one step up
from_kids : (label : Label) (path : List ℕ) (kids other : Spots) (gap : Gap) → ((n : ℕ) → inside label kids other n ≡ nth kids n)
    → ((n : ℕ) → own_boundary label n ≡ None) → Found path 0 kids gap
    → FoundIn path (record { label = label; kids = kids; other = other }) gap
from_kids label path kids other gap ins none_own f =
    let one : One = record { label = label; kids = kids; other = other } in
    let there : inside label kids other f.k ≡ Some f.x = ins f.k ∙ f.stands in
    record {
      rest = f.k ∷ f.rest;
      is = f.path ∙ ap (λ (m : ℕ). path ++ m ∷ f.rest) (omega arith);
      label = ap (option_map (λ (o : One). o.label)) (at-step one f.x f.k f.rest there) ∙ f.label;
      owner = owner-step one f.x f.k f.rest there ∙ (ap (λ (o : Option (List ℕ)). or_own f.k o (own_boundary label f.k)) f.owner ∙ none_own f.k);
    }

pub found_in : (label : Label) (path : List ℕ) (kids other : Spots) (gap : Gap) → (Contains (gaps_below path 0 kids) gap → Found path 0 kids gap)
    → Contains (label_gaps label path (gaps_below path 0 kids)) gap → FoundIn path (record { label = label; kids = kids; other = other }) gap
found_in nothing path kids other gap go h = absurd (no_gap gap h)
found_in (text t) path kids other gap go h = absurd (no_gap gap h)
found_in (element name attributes) path kids other gap go h =
    from_kids (element name attributes) path kids other gap (λ n. refl) (λ n. refl) (go h)
found_in array path kids other gap go h = from_kids array path kids other gap (λ n. refl) (λ n. refl) (go h)
found_in boundary path kids other gap go h =
    subst (λ (g : Gap). FoundIn path (record { label = boundary; kids = kids; other = other }) g) (only_member (bounded path) gap h)
    (record { rest = []; is = sym (append-nil path); label = refl; owner = refl })
found_in (wait resource) path kids other gap go h =
    subst (λ (g : Gap). FoundIn path (record { label = wait resource; kids = kids; other = other }) g) (only_member (waiting path resource) gap h)
    (record { rest = []; is = sym (append-nil path); label = refl; owner = refl })
found_in (fail digest) path kids other gap go h = absurd (no_gap gap h)

pub found_below : (spots : Spots) (above : List ℕ) (n : ℕ) (gap : Gap) → Contains (gaps_below above n spots) gap → Found above n spots gap
found_below none above n gap h = absurd (no_gap gap h)
found_below (spot label kids other later) above n gap h =
    joined (Contains-append_cases (label_gaps label (above ++ n ∷ []) (gaps_below (above ++ n ∷ []) 0 kids)) (gaps_below above (n + 1) later) gap h)
    (found_in label (above ++ n ∷ []) kids other gap (found_below kids (above ++ n ∷ []) 0 gap))
    (found_below later above (n + 1) gap)
  where
    here : FoundIn (above ++ n ∷ []) (record { label = label; kids = kids; other = other }) gap → Found above n (spot label kids other later) gap
    here f = record {
      k = 0;
      rest = f.rest;
      x = record { label = label; kids = kids; other = other };
      stands = refl;
      path = f.is ∙ (append_assoc above (n ∷ []) f.rest ∙ ap (λ (m : ℕ). above ++ m ∷ f.rest) (omega arith));
      label = f.label;
      owner = f.owner;
    }

    after : Found above (n + 1) later gap → Found above n (spot label kids other later) gap
    after f = record {
      k = suc f.k;
      rest = f.rest;
      x = f.x;
      stands = f.stands;
      path = f.path ∙ ap (λ (m : ℕ). above ++ m ∷ f.rest) (omega arith);
      label = f.label;
      owner = f.owner;
    }

    joined : Contains (label_gaps label (above ++ n ∷ []) (gaps_below (above ++ n ∷ []) 0 kids)) gap ⊎ Contains (gaps_below above (n + 1) later) gap
        → (Contains (label_gaps label (above ++ n ∷ []) (gaps_below (above ++ n ∷ []) 0 kids)) gap → FoundIn (above ++ n ∷ []) (record { label = label; kids = kids; other = other }) gap)
        → (Contains (gaps_below above (n + 1) later) gap → Found above (n + 1) later gap)
        → Found above n (spot label kids other later) gap
    joined (inl x) f g = here (f x)
    joined (inr x) f g = after (g x)

pub found : (path : List ℕ) (one : One) (gap : Gap) → Contains (gaps_of path one) gap → FoundIn path one gap
found path one gap h = found_in one.label path one.kids one.other gap (found_below one.kids path 0 gap) h

-- one step below a position
step_owner : (o : Option One) (n : ℕ) (own : Option (List ℕ)) → or_own n (option_and_then (λ x. owner_of x []) o) own ≡ own
step_owner None n own = refl
step_owner (Some x) n own = refl

one_step : (one : One) (n : ℕ) → owner_of one (n ∷ []) ≡ own_boundary one.label n
one_step one n = step_owner (inside one.label one.kids one.other n) n (own_boundary one.label n)

-- a position that has a label
pub record Labelled (root : One) (path : List ℕ) (label : Label) : Type 0 where
  pub one : One
  pub stands : at root path ≡ Some one
  pub is : one.label ≡ label

labelled_in : (root : One) (path : List ℕ) (label : Label) (o : Option One) → at root path ≡ o → option_map (λ (x : One). x.label) o ≡ Some label
    → Labelled root path label
labelled_in root path label None e f = absurd (no_label label f)
  where
    no_label : (l : Label) → None ≡ Some l → ⊥
    no_label l g = cc
labelled_in root path label (Some x) e f = record { one = x; stands = e; is = same_label x.label label f }
  where
    same_label : (l m : Label) → Some l ≡ Some m → l ≡ m
    same_label l m g = cc

pub labelled : (root : One) (path : List ℕ) (label : Label) → label_at root path ≡ Some label → Labelled root path label
labelled root path label e = labelled_in root path label (at root path) refl e

owner_inside : (root one : One) (path : List ℕ) (n : ℕ) → at root path ≡ Some one
    → owner_of root (path ++ n ∷ []) ≡ owner_below path (own_boundary one.label n) (owner_of root path)
owner_inside root one path n e =
    owner-append path root one (n ∷ []) e ∙ ap (λ (q : Option (List ℕ)). owner_below path q (owner_of root path)) (one_step one n)

owner_at_boundary : (root : One) (path : List ℕ) (n : ℕ) → label_at root path ≡ Some boundary
    → owner_of root (path ++ n ∷ []) ≡ owner_below path (own_boundary boundary n) (owner_of root path)
owner_at_boundary root path n e =
    let b = labelled root path boundary e in
    owner_inside root b.one path n b.stands ∙ ap (λ (l : Label). owner_below path (own_boundary l n) (owner_of root path)) b.is

pub gap_in : (root one : One) (path : List ℕ) (gap : Gap) → at root path ≡ Some one → Contains (gaps_of path one) gap → IsGapIn root path gap
gap_in root one path gap e h = from_found (found path one gap h)
  where
    from_found : FoundIn path one gap → IsGapIn root path gap
    from_found f =
        let stands : label_at root (gap_path gap) ≡ Some (gap_label gap) =
        ap (option_map (λ (o : One). o.label)) (ap (at root) f.is ∙ at-append path root one f.rest e) ∙ f.label in
        let own : owner_of root (gap_path gap) ≡ owner_of root path =
        ap (owner_of root) f.is ∙ (owner-append path root one f.rest e ∙ ap (λ (q : Option (List ℕ)). owner_below path q (owner_of root path)) f.owner) in
        record {
          below = record { rest = f.rest; is = sym f.is };
          stands = stands;
          owner = own;
          content = λ is. owner_at_boundary root (gap_path gap) 0 (stands ∙ ap (λ (g : Gap). Some (gap_label g)) is)
              ∙ ap (λ (q : List ℕ). Some q) (append-nil (gap_path gap));
          fallback = λ is. owner_at_boundary root (gap_path gap) 1 (stands ∙ ap (λ (g : Gap). Some (gap_label g)) is) ∙ own;
        }

not_leaf : (l m : Label) → Some l ≡ Some m → IsLeaf m → IsLeaf l
not_leaf l m e = subst IsLeaf (sym (same l m e))
  where
    same : (x y : Label) → Some x ≡ Some y → x ≡ y
    same x y f = cc

no_label : (l : Label) → None ≡ Some l → ⊥
no_label l g = cc

label_nowhere : (l : Label) → option_map (λ (x : One). x.label) None ≡ Some l → ⊥
label_nowhere l e = no_label l e

never_none : (n : ℕ) (x : Option (List ℕ)) (y : List ℕ) → or_own n x (Some y) ≡ None → ⊥
never_none n (Some b) y e = cc
never_none n None y e = cc

-- a label below a position stands below one inside it
pub record LabelStep (root : One) (n : ℕ) (path : List ℕ) (label : Label) : Type 0 where
  pub below : One
  pub first : inside root.label root.kids root.other n ≡ Some below
  pub rest : label_at below path ≡ Some label

label_step_of : (root : One) (n : ℕ) (path : List ℕ) (l : Label) (o : Option One) → inside root.label root.kids root.other n ≡ o
    → option_map (λ (x : One). x.label) (option_and_then (λ below. at below path) o) ≡ Some l → LabelStep root n path l
label_step_of root n path l None e f = absurd (no_label l f)
label_step_of root n path l (Some below) e f = record { below = below; first = e; rest = f }

label_step : (root : One) (n : ℕ) (path : List ℕ) (l : Label) → label_at root (n ∷ path) ≡ Some l → LabelStep root n path l
label_step root n path l e = label_step_of root n path l (inside root.label root.kids root.other n) refl e

pub nothing_bare : (d : List ℕ) → d ∷ [] ≡ [] → ⊥
nothing_bare d e = cc

pub self_member : (g : Gap) → Contains (g ∷ []) g
self_member g = (0, omega arith, refl)

abbrev KidsFilled : List ℕ → Spots → Spots → Type 0
KidsFilled path kids kids' = (k : ℕ) (y : One) (rest : List ℕ) (l : Label) → nth kids' k ≡ Some y → label_at y rest ≡ Some l → IsLeaf l
    → LiesInGap (gaps_below path 0 kids) (path ++ (0 + k) ∷ rest) (owner_of y rest ≡ None)

filled_inside : (label : Label) (path : List ℕ) (kids kids' other' : Spots) → KidsFilled path kids kids'
    → ((n : ℕ) → inside label kids' other' n ≡ nth kids' n) → ((n : ℕ) → own_boundary label n ≡ None) → (IsLeaf label → ⊥)
    → (rest : List ℕ) (l : Label) → label_at (record { label = label; kids = kids'; other = other' }) rest ≡ Some l → IsLeaf l
    → LiesInGap (gaps_below path 0 kids) (path ++ rest) (owner_of (record { label = label; kids = kids'; other = other' }) rest ≡ None)
filled_inside label path kids kids' other' go ins none_own unleafed [] l e leaf = absurd (unleafed (not_leaf label l e leaf))
filled_inside label path kids kids' other' go ins none_own unleafed (j ∷ rest) l e leaf =
    let one : One = record { label = label; kids = kids'; other = other' } in
    let s = label_step one j rest l e in
    let f = go j s.below rest l (sym (ins j) ∙ s.first) s.rest leaf in
    let is : path ++ (0 + j) ∷ rest ≡ path ++ j ∷ rest = ap (λ (m : ℕ). path ++ m ∷ rest) (omega arith) in
    record {
      gap = f.gap;
      among = f.among;
      under = subst (Under (gap_path f.gap)) is f.under;
      fills = λ none. subst (Fills f.gap) is (f.fills (below_none (owner_of s.below rest) (own_boundary label j) (sym (owner-step one s.below j rest s.first) ∙ none)));
    }
  where
    below_none : (x y : Option (List ℕ)) → or_own j x y ≡ None → x ≡ None
    below_none (Some b) y f = absurd (some_is_none (j ∷ b) f)
      where
        some_is_none : (b2 : List ℕ) → Some b2 ≡ None → ⊥
        some_is_none b2 g = cc
    below_none None y f = refl

in_boundary : (path : List ℕ) (kids' other' : Spots) (rest : List ℕ) (l : Label)
    → label_at (record { label = boundary; kids = kids'; other = other' }) rest ≡ Some l → IsLeaf l
    → owner_of (record { label = boundary; kids = kids'; other = other' }) rest ≡ None → Under (path ++ 1 ∷ []) (path ++ rest)
in_boundary path kids' other' [] l e leaf owned = absurd (not_leaf boundary l e leaf)
in_boundary path kids' other' (zero ∷ rest) l e leaf owned = absurd (never_none 0 (option_and_then (λ below. owner_of below rest) (nth kids' 0)) [] owned)
in_boundary path kids' other' (suc zero ∷ rest) l e leaf owned = record { rest = rest; is = append_assoc path (1 ∷ []) rest }
in_boundary path kids' other' (suc (suc n) ∷ rest) l e leaf owned = absurd (no_label l e)

filled_here : (label : Label) (path : List ℕ) (kids kids' other' : Spots) → own_bare_fails label (bare_fails kids) ≡ []
    → (bare_fails kids ≡ [] → KidsFilled path kids kids')
    → (rest : List ℕ) (l : Label) → label_at (record { label = label; kids = kids'; other = other' }) rest ≡ Some l → IsLeaf l
    → LiesInGap (label_gaps label path (gaps_below path 0 kids)) (path ++ rest) (owner_of (record { label = label; kids = kids'; other = other' }) rest ≡ None)
filled_here nothing path kids kids' other' bare go [] l e leaf = absurd (not_leaf nothing l e leaf)
filled_here nothing path kids kids' other' bare go (n ∷ rest) l e leaf = absurd (no_label l e)
filled_here (text t) path kids kids' other' bare go [] l e leaf = absurd (not_leaf (text t) l e leaf)
filled_here (text t) path kids kids' other' bare go (n ∷ rest) l e leaf = absurd (no_label l e)
filled_here (element name attributes) path kids kids' other' bare go rest l e leaf =
    filled_inside (element name attributes) path kids kids' other' (go bare) (λ n. refl) (λ n. refl) (λ h. h) rest l e leaf
filled_here array path kids kids' other' bare go rest l e leaf =
    filled_inside array path kids kids' other' (go bare) (λ n. refl) (λ n. refl) (λ h. h) rest l e leaf
filled_here boundary path kids kids' other' bare go rest l e leaf = record {
  gap = bounded path;
  among = self_member (bounded path);
  under = record { rest = rest; is = refl };
  fills = in_boundary path kids' other' rest l e leaf;
}
filled_here (wait resource) path kids kids' other' bare go rest l e leaf = record {
  gap = waiting path resource;
  among = self_member (waiting path resource);
  under = record { rest = rest; is = refl };
  fills = λ none. record { rest = rest; is = refl };
}
filled_here (fail digest) path kids kids' other' bare go rest l e leaf = absurd (nothing_bare digest bare)

pub left_empty : (xs ys : List (List ℕ)) → xs ++ ys ≡ [] → xs ≡ []
left_empty [] ys e = refl
left_empty (x ∷ xs) ys e = absurd (cons_empty x (xs ++ ys) e)
  where
    cons_empty : (z : List ℕ) (zs : List (List ℕ)) → z ∷ zs ≡ [] → ⊥
    cons_empty z zs f = cc

pub right_empty : (xs ys : List (List ℕ)) → xs ++ ys ≡ [] → ys ≡ []
right_empty xs ys e = ap (λ zs. zs ++ ys) (sym (left_empty xs ys e)) ∙ e

module _ (known : List ℕ → Bool) where
  filled_below : (s t : Spots) → Later known s t → bare_fails s ≡ [] → (above : List ℕ) (n : ℕ) (k : ℕ) (y : One) (rest : List ℕ) (l : Label)
      → nth t k ≡ Some y → label_at y rest ≡ Some l → IsLeaf l
      → LiesInGap (gaps_below above n s) (above ++ (n + k) ∷ rest) (owner_of y rest ≡ None)
  filled_below _ _ ends bare above n k y rest l e f leaf = absurd (nothing_there y e)
  filled_below _ _ (stays label kids other later kids' other' later' k o z) bare above n zero y rest l e f leaf =
      let one : One = record { label = label; kids = kids'; other = other' } in
      let is : one ≡ y = same_one one y e in
      let path = above ++ n ∷ [] in
      let g = filled_here label path kids kids' other' (left_empty (own_bare_fails label (bare_fails kids)) (bare_fails later) bare)
      (λ b. filled_below kids kids' k b path 0) rest l (subst (λ (x : One). label_at x rest ≡ Some l) (sym is) f) leaf in
      at_first label kids later y is g
    where
      at_first : (lb : Label) (ks lt : Spots) (w : One) → record { label = label; kids = kids'; other = other' } ≡ w
          → LiesInGap (label_gaps lb (above ++ n ∷ []) (gaps_below (above ++ n ∷ []) 0 ks)) ((above ++ n ∷ []) ++ rest)
          (owner_of (record { label = label; kids = kids'; other = other' }) rest ≡ None)
          → LiesInGap (gaps_below above n (spot lb ks other lt)) (above ++ (n + 0) ∷ rest) (owner_of w rest ≡ None)
      at_first lb ks lt w is g =
          let to : (above ++ n ∷ []) ++ rest ≡ above ++ (n + 0) ∷ rest =
          append_assoc above (n ∷ []) rest ∙ ap (λ (m : ℕ). above ++ m ∷ rest) (omega arith) in
          record {
            gap = g.gap;
            among = Contains-append_left (label_gaps lb (above ++ n ∷ []) (gaps_below (above ++ n ∷ []) 0 ks)) (gaps_below above (n + 1) lt) g.gap g.among;
            under = subst (Under (gap_path g.gap)) to g.under;
            fills = λ none. subst (Fills g.gap) to (g.fills (ap (λ (x : One). owner_of x rest) is ∙ none));
          }
  filled_below _ _ (stays label kids other later kids' other' later' k o z) bare above n (suc m) y rest l e f leaf =
      further label kids other later (above ++ (n + suc m) ∷ rest) y
      (filled_below later later' z (right_empty (own_bare_fails label (bare_fails kids)) (bare_fails later) bare) above (n + 1) m y rest l e f leaf)
    where
      further : (lb : Label) (ks os lt : Spots) (to : List ℕ) (w : One) → LiesInGap (gaps_below above (n + 1) lt) (above ++ (n + 1 + m) ∷ rest) (owner_of w rest ≡ None)
          → LiesInGap (gaps_below above n (spot lb ks os lt)) (above ++ (n + suc m) ∷ rest) (owner_of w rest ≡ None)
      further lb ks os lt to w g =
          let is : above ++ (n + 1 + m) ∷ rest ≡ above ++ (n + suc m) ∷ rest = ap (λ (i : ℕ). above ++ i ∷ rest) (omega arith) in
          record {
            gap = g.gap;
            among = Contains-append_right (label_gaps lb (above ++ n ∷ []) (gaps_below (above ++ n ∷ []) 0 ks)) (gaps_below above (n + 1) lt) g.gap g.among;
            under = subst (Under (gap_path g.gap)) is g.under;
            fills = λ none. subst (Fills g.gap) is (g.fills none);
          }
  filled_below _ _ (opens resource label' kids other later kids' other' later' k z) bare above n zero y rest l e f leaf =
      let to : (above ++ n ∷ []) ++ rest ≡ above ++ (n + 0) ∷ rest =
      append_assoc above (n ∷ []) rest ∙ ap (λ (m : ℕ). above ++ m ∷ rest) (omega arith) in
      record {
        gap = waiting (above ++ n ∷ []) resource;
        among = Contains-append_left (waiting (above ++ n ∷ []) resource ∷ []) (gaps_below above (n + 1) later) _ (self_member (waiting (above ++ n ∷ []) resource));
        under = record { rest = rest; is = to };
        fills = λ none. record { rest = rest; is = to };
      }
  filled_below _ _ (opens resource label' kids other later kids' other' later' k z) bare above n (suc m) y rest l e f leaf =
      let g = filled_below later later' z bare above (n + 1) m y rest l e f leaf in
      let is : above ++ (n + 1 + m) ∷ rest ≡ above ++ (n + suc m) ∷ rest = ap (λ (i : ℕ). above ++ i ∷ rest) (omega arith) in
      record {
        gap = g.gap;
        among = Contains-append_right (waiting (above ++ n ∷ []) resource ∷ []) (gaps_below above (n + 1) later) g.gap g.among;
        under = subst (Under (gap_path g.gap)) is g.under;
        fills = λ none. subst (Fills g.gap) is (g.fills none);
      }

  -- A leaf of a position lies at or below a gap that was left in it.
  pub leaf_fills : (a b : One) (path rest : List ℕ) (l : Label) → LaterOne known a b → own_bare_fails a.label (bare_fails a.kids) ≡ []
      → label_at b rest ≡ Some l → IsLeaf l → LiesInGap (gaps_of path a) (path ++ rest) (owner_of b rest ≡ None)
  leaf_fills _ _ path rest l (stays_one label kids other kids' other' k o) bare e leaf =
      filled_here label path kids kids' other' bare (λ b. filled_below kids kids' k b path 0) rest l e leaf
  leaf_fills _ _ path rest l (opens_one resource label' kids other kids' other' k) bare e leaf = record {
    gap = waiting path resource;
    among = self_member (waiting path resource);
    under = record { rest = rest; is = refl };
    fills = λ none. record { rest = rest; is = refl };
  }
