-- Owners along paths, and what fails them.
use Rattle.std.proofs.Common.{◌≡◌, ℕ, zero, suc, Bool, List, [], ◌∷◌, ◌++◌, Option, Some, None, refl, sym, ap, ◌∙◌, subst, inl, inr, length, ◌<◌, arith}
use Rattle.std.specs.Prelude.{Contains, option_and_then, slice_get, ◌⊎◌}
use Rattle.std.proofs.lemmas.Option.{get_or_from_slice_get, slice_get_within}
use Rattle.std.specs.Option.{option_map_or}
use Rattle.std.proofs.lemmas.List.Elements.{Contains-append_left, Contains-append_right, Contains-append_cases}
use Rattle.jsx_value.specs.Spots.{Label, nothing, text, element, array, boundary, wait, fail, Spots, none, spot, One, nth, inside, at, fails, own_fails, bare_fails, own_bare_fails}
use Rattle.position_laws.specs.Later.{Later, ends, stays, opens, LaterOne, stays_one, opens_one}
use Rattle.position_laws.specs.Owners.{own_boundary, or_own, owner_of, owner_below, own_failures, owner_failures}
use Rattle.position_laws.proofs.LaterLemmas.{MetHere, both, neither, met_inside}

some_one : (o : Option One) (x y : One) → o ≡ Some x → o ≡ Some y → x ≡ y
some_one o x y e f = cc

none_some : (o : Option One) (x : One) → o ≡ None → o ≡ Some x → ⊥
none_some o x e f = cc

pub nothing_there : (x : One) → None ≡ Some x → ⊥
nothing_there x e = cc

-- A path that leads to a position leads through one.
pub record Step (root : One) (n : ℕ) (path : List ℕ) (one : One) : Type 0 where
  pub below : One
  pub first : inside root.label root.kids root.other n ≡ Some below
  pub rest : at below path ≡ Some one

step_of : (root : One) (n : ℕ) (path : List ℕ) (one : One) (o : Option One) → inside root.label root.kids root.other n ≡ o
    → option_and_then (λ below. at below path) o ≡ Some one → Step root n path one
step_of root n path one None e f = absurd (nothing_there one f)
step_of root n path one (Some below) e f = record { below = below; first = e; rest = f }

pub step : (root : One) (n : ℕ) (path : List ℕ) (one : One) → at root (n ∷ path) ≡ Some one → Step root n path one
step root n path one e = step_of root n path one (inside root.label root.kids root.other n) refl e

pub at-step : (root below : One) (n : ℕ) (path : List ℕ) → inside root.label root.kids root.other n ≡ Some below → at root (n ∷ path) ≡ at below path
at-step root below n path e = ap (option_and_then (λ o. at o path)) e

pub owner-step : (root below : One) (n : ℕ) (path : List ℕ) → inside root.label root.kids root.other n ≡ Some below
    → owner_of root (n ∷ path) ≡ or_own n (owner_of below path) (own_boundary root.label n)
owner-step root below n path e = ap (λ (o : Option One). or_own n (option_and_then (λ x. owner_of x path) o) (own_boundary root.label n)) e

pub same_one : (x y : One) → Some x ≡ Some y → x ≡ y
same_one x y e = cc

pub no_member : (d : List ℕ) → Contains [] d → ⊥
no_member d h = let less : h.0 < length {A = List ℕ} [] = h.1 in omega arith

pub at-append : (path : List ℕ) (root one : One) (more : List ℕ) → at root path ≡ Some one → at root (path ++ more) ≡ at one more
at-append [] root one more e = ap (λ (o : One). at o more) (same_one root one e)
at-append (n ∷ path) root one more e = onward (step root n path one e) (λ x f. at-append path x one more f)
  where
    onward : Step root n path one → ((x : One) → at x path ≡ Some one → at x (path ++ more) ≡ at one more) → at root (n ∷ path ++ more) ≡ at one more
    onward s go = at-step root s.below n (path ++ more) s.first ∙ go s.below s.rest

-- The owner of what lies below a path.
owner_joins : (n : ℕ) (path : List ℕ) (x y own : Option (List ℕ)) → or_own n (owner_below path x y) own ≡ owner_below (n ∷ path) x (or_own n y own)
owner_joins n path (Some b) y own = refl
owner_joins n path None y own = refl

owner_here : (x : Option (List ℕ)) → x ≡ owner_below [] x None
owner_here (Some b) = refl
owner_here None = refl

pub owner-append : (path : List ℕ) (root one : One) (more : List ℕ) → at root path ≡ Some one
    → owner_of root (path ++ more) ≡ owner_below path (owner_of one more) (owner_of root path)
owner-append [] root one more e = ap (λ (o : One). owner_of o more) (same_one root one e) ∙ owner_here (owner_of one more)
owner-append (n ∷ path) root one more e = onward (step root n path one e) (λ x f. owner-append path x one more f)
  where
    onward : Step root n path one → ((x : One) → at x path ≡ Some one → owner_of x (path ++ more) ≡ owner_below path (owner_of one more) (owner_of x path))
        → owner_of root (n ∷ path ++ more) ≡ owner_below (n ∷ path) (owner_of one more) (owner_of root (n ∷ path))
    onward s go =
        owner-step root s.below n (path ++ more) s.first
        ∙ ap (λ o. or_own n o (own_boundary root.label n)) (go s.below s.rest)
        ∙ owner_joins n path (owner_of one more) (owner_of s.below path) (own_boundary root.label n)
        ∙ ap (owner_below (n ∷ path) (owner_of one more)) (sym (owner-step root s.below n path s.first))

module _ (known : List ℕ → Bool) where
  -- What stands at a path has the same owner later.
  pub owner_later : (path : List ℕ) (a b x : One) → LaterOne known a b → at a path ≡ Some x → owner_of a path ≡ owner_of b path
  owner_later [] a b x l e = refl
  owner_later (n ∷ path) _ _ x (opens_one resource label' kids other kids' other' k) e = absurd (nothing_there x e)
  owner_later (n ∷ path) _ _ x (stays_one label kids other kids' other' k o) e =
      onward (met_inside known label kids other kids' other' n k o)
      (λ v w l f. owner_later path v w x l f)
    where
      onward : MetHere known (inside label kids other n) (inside label kids' other' n)
          → ((v w : One) → LaterOne known v w → at v path ≡ Some x → owner_of v path ≡ owner_of w path)
          → owner_of (record { label = label; kids = kids; other = other }) (n ∷ path) ≡ owner_of (record { label = label; kids = kids'; other = other' }) (n ∷ path)
      onward (both v w f g l) go =
          owner-step (record { label = label; kids = kids; other = other }) v n path f
          ∙ ap (λ q. or_own n q (own_boundary label n))
          (go v w l (sym (at-step (record { label = label; kids = kids; other = other }) v n path f) ∙ e))
          ∙ sym (owner-step (record { label = label; kids = kids'; other = other' }) w n path g)
      onward (neither f g) go = absurd (nothing_there x (sym (ap (option_and_then (λ below. at below path)) f) ∙ e))

  -- Failures
  own_fails_stay : (label : Label) (ks os ks' os' : List (List ℕ)) (d : List ℕ) → (Contains ks d → Contains ks' d) → (Contains os d → Contains os' d)
      → Contains (own_fails label ks os) d → Contains (own_fails label ks' os') d
  own_fails_stay nothing ks os ks' os' d k o h = h
  own_fails_stay (text t) ks os ks' os' d k o h = h
  own_fails_stay (element name attributes) ks os ks' os' d k o h = k h
  own_fails_stay array ks os ks' os' d k o h = k h
  own_fails_stay boundary ks os ks' os' d k o h = o h
  own_fails_stay (wait resource) ks os ks' os' d k o h = h
  own_fails_stay (fail digest) ks os ks' os' d k o h = h

  pub fails_stay : (s t : Spots) (d : List ℕ) → Later known s t → Contains (fails s) d → Contains (fails t) d
  fails_stay _ _ d ends h = h
  fails_stay _ _ d (stays label kids other later kids' other' later' k o l) h =
      joined (Contains-append_cases (own_fails label (fails kids) (fails other)) (fails later) d h)
      (own_fails_stay label (fails kids) (fails other) (fails kids') (fails other') d (fails_stay kids kids' d k) (fails_stay other other' d o))
      (fails_stay later later' d l)
    where
      joined : Contains (own_fails label (fails kids) (fails other)) d ⊎ Contains (fails later) d
          → (Contains (own_fails label (fails kids) (fails other)) d → Contains (own_fails label (fails kids') (fails other')) d)
          → (Contains (fails later) d → Contains (fails later') d)
          → Contains (fails (spot label kids' other' later')) d
      joined (inl x) f g = Contains-append_left (own_fails label (fails kids') (fails other')) (fails later') d (f x)
      joined (inr x) f g = Contains-append_right (own_fails label (fails kids') (fails other')) (fails later') d (g x)
  fails_stay _ _ d (opens resource label' kids other later kids' other' later' k l) h =
      Contains-append_right (own_fails label' (fails kids') (fails other')) (fails later') d (fails_stay later later' d l h)

  -- What a position fails by is among what its owner is failed by, later too.
  bare_in_fails : (s : Spots) (d : List ℕ) → Contains (bare_fails s) d → Contains (fails s) d
  bare_in_fails none d h = h
  bare_in_fails (spot label kids other later) d h =
      joined (Contains-append_cases (own_bare_fails label (bare_fails kids)) (bare_fails later) d h)
      (bare_in_own label kids other d (bare_in_fails kids d)) (bare_in_fails later d)
    where
      bare_in_own : (l : Label) (ks os : Spots) (e : List ℕ) → (Contains (bare_fails ks) e → Contains (fails ks) e)
          → Contains (own_bare_fails l (bare_fails ks)) e → Contains (own_fails l (fails ks) (fails os)) e
      bare_in_own nothing ks os e k x = x
      bare_in_own (text t) ks os e k x = x
      bare_in_own (element name attributes) ks os e k x = k x
      bare_in_own array ks os e k x = k x
      bare_in_own boundary ks os e k x = absurd (no_member e x)
      bare_in_own (wait resource) ks os e k x = x
      bare_in_own (fail digest) ks os e k x = x

      joined : Contains (own_bare_fails label (bare_fails kids)) d ⊎ Contains (bare_fails later) d
          → (Contains (own_bare_fails label (bare_fails kids)) d → Contains (own_fails label (fails kids) (fails other)) d)
          → (Contains (bare_fails later) d → Contains (fails later) d) → Contains (fails (spot label kids other later)) d
      joined (inl x) f g = Contains-append_left (own_fails label (fails kids) (fails other)) (fails later) d (f x)
      joined (inr x) f g = Contains-append_right (own_fails label (fails kids) (fails other)) (fails later) d (g x)

  nth_fails : (s : Spots) (n : ℕ) (x : One) (d : List ℕ) → nth s n ≡ Some x → Contains (own_failures x) d → Contains (fails s) d
  nth_fails none n x d e h = absurd (nothing_there x e)
  nth_fails (spot label kids other later) zero x d e h =
      Contains-append_left (own_fails label (fails kids) (fails other)) (fails later) d
      (subst (λ (o : One). Contains (own_failures o) d) (sym (same_one _ x e)) h)
  nth_fails (spot label kids other later) (suc n) x d e h =
      Contains-append_right (own_fails label (fails kids) (fails other)) (fails later) d (nth_fails later n x d e h)

  -- the failures of an owner, one step up
  up_to_page : (label : Label) (kids other : Spots) (n : ℕ) (x : One) (d : List ℕ) → inside label kids other n ≡ Some x → Contains (own_failures x) d
      → Contains (owner_failures (record { label = label; kids = kids; other = other }) (own_boundary label n)) d
  up_to_page nothing kids other n x d e h = absurd (nothing_there x e)
  up_to_page (text t) kids other n x d e h = absurd (nothing_there x e)
  up_to_page (element name attributes) kids other n x d e h = nth_fails kids n x d e h
  up_to_page array kids other n x d e h = nth_fails kids n x d e h
  up_to_page boundary kids other zero x d e h = nth_fails kids 0 x d e h
  up_to_page boundary kids other (suc zero) x d e h = nth_fails other 0 x d e h
  up_to_page boundary kids other (suc (suc n)) x d e h = absurd (nothing_there x e)
  up_to_page (wait resource) kids other n x d e h = absurd (nothing_there x e)
  up_to_page (fail digest) kids other n x d e h = absurd (nothing_there x e)

  up_one : (root below : One) (n : ℕ) (owner : Option (List ℕ)) (d : List ℕ) → inside root.label root.kids root.other n ≡ Some below
      → Contains (owner_failures below owner) d → Contains (owner_failures root (or_own n owner (own_boundary root.label n))) d
  up_one root below n (Some path) d e h =
      subst (λ (o : Option One). Contains (option_map_or (λ one. fails one.kids) o []) d) (sym (at-step root below n path e)) h
  up_one root below n None d e h = up_to_page root.label root.kids root.other n below d e h

  bare_in_own_failures : (one : One) (d : List ℕ) → Contains (own_bare_fails one.label (bare_fails one.kids)) d → Contains (own_failures one) d
  bare_in_own_failures one d h =
      bare_in_fails_one one.label one.kids one.other h
    where
      bare_in_fails_one : (l : Label) (ks os : Spots) → Contains (own_bare_fails l (bare_fails ks)) d → Contains (own_fails l (fails ks) (fails os)) d
      bare_in_fails_one nothing ks os x = x
      bare_in_fails_one (text t) ks os x = x
      bare_in_fails_one (element name attributes) ks os x = bare_in_fails ks d x
      bare_in_fails_one array ks os x = bare_in_fails ks d x
      bare_in_fails_one boundary ks os x = absurd (no_member d x)
      bare_in_fails_one (wait resource) ks os x = x
      bare_in_fails_one (fail digest) ks os x = x

  own_failures_stay : (a b : One) (d : List ℕ) → LaterOne known a b → Contains (own_failures a) d → Contains (own_failures b) d
  own_failures_stay _ _ d (stays_one label kids other kids' other' k o) h =
      own_fails_stay label (fails kids) (fails other) (fails kids') (fails other') d (fails_stay kids kids' d k) (fails_stay other other' d o) h
  own_failures_stay _ _ d (opens_one resource label' kids other kids' other' k) h = absurd (no_member d h)

  pub fails_owner : (path : List ℕ) (a b x : One) (d : List ℕ) → LaterOne known a b → at a path ≡ Some x
      → Contains (own_bare_fails x.label (bare_fails x.kids)) d → Contains (owner_failures b (owner_of a path)) d
  fails_owner [] a b x d l e h =
      own_failures_stay a b d l (bare_in_own_failures a d (subst (λ (o : One). Contains (own_bare_fails o.label (bare_fails o.kids)) d) (sym (same_one a x e)) h))
  fails_owner (n ∷ path) _ _ x d (opens_one resource label' kids other kids' other' k) e h = absurd (nothing_there x e)
  fails_owner (n ∷ path) _ _ x d (stays_one label kids other kids' other' k o) e h =
      onward (met_inside known label kids other kids' other' n k o) (λ v w l f. fails_owner path v w x d l f h)
    where
      onward : MetHere known (inside label kids other n) (inside label kids' other' n)
          → ((v w : One) → LaterOne known v w → at v path ≡ Some x → Contains (owner_failures w (owner_of v path)) d)
          → Contains (owner_failures (record { label = label; kids = kids'; other = other' }) (owner_of (record { label = label; kids = kids; other = other }) (n ∷ path))) d
      onward (both v w f g l) go =
          let a : One = record { label = label; kids = kids; other = other } in
          let b : One = record { label = label; kids = kids'; other = other' } in
          subst (λ (q : Option (List ℕ)). Contains (owner_failures b q) d) (sym (owner-step a v n path f))
          (up_one b w n (owner_of v path) d g (go v w l (sym (at-step a v n path f) ∙ e)))
      onward (neither f g) go = absurd (nothing_there x (sym (ap (option_and_then (λ below. at below path)) f) ∙ e))

  -- The first failure of a position.
  pub first_fails_owner : (path : List ℕ) (a b x : One) (d : List ℕ) → LaterOne known a b → at a path ≡ Some x
      → slice_get (own_bare_fails x.label (bare_fails x.kids)) 0 ≡ Some d → Contains (owner_failures b (owner_of a path)) d
  first_fails_owner path a b x d l e first =
      let ds : List (List ℕ) = own_bare_fails x.label (bare_fails x.kids) in
      fails_owner path a b x d l e (0, slice_get_within ds 0 d first, get_or_from_slice_get ds 0 d d first)
