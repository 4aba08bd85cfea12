-- The own failures and waits of a position are those of what fills its gaps, in document order.
use Rattle.std.proofs.Common.{◌≡◌, ℕ, suc, ◌+◌, Bool, List, [], ◌∷◌, ◌++◌, Option, Some, refl, sym, ap, ap₂, ◌∙◌, arith}
use Rattle.std.specs.List.{flat_map}
use Rattle.std.specs.Option.{option_map_or}
use Rattle.std.proofs.lemmas.Grind.{flat_map-append}
use Rattle.std.proofs.lemmas.List.{append-nil}
use Rattle.jsx_value.specs.Spots.{Label, nothing, text, element, array, boundary, wait, fail, Spots, spot, One, nth, inside, at, fails, own_fails, waits, own_waits, bare_fails, own_bare_fails}
use Rattle.position_laws.specs.Later.{Later, ends, stays, opens, LaterOne, stays_one, opens_one}
use Rattle.position_laws.specs.Owners.{own_failures}
use Rattle.position_laws.specs.Gaps.{Gap, waiting, bounded, gap_path, gaps_below, gaps_of, label_gaps, own_resources, failures_at, resources_at}
use Rattle.position_laws.proofs.OwnersLemmas.{at-append, at-step}
use Rattle.position_laws.proofs.GapsLemmas.{left_empty, right_empty, nothing_bare}

-- Siblings stand in a page, inside what stands at a path, the first of them with the number n.
abbrev pub StandIn : One → List ℕ → ℕ → Spots → Type 0
StandIn root above n spots = (k : ℕ) (y : One) → nth spots k ≡ Some y → at root (above ++ (n + k) ∷ []) ≡ Some y

pub stand_first : (root : One) (above : List ℕ) (n : ℕ) (label : Label) (kids other later : Spots) → StandIn root above n (spot label kids other later)
    → at root (above ++ n ∷ []) ≡ Some (record { label = label; kids = kids; other = other })
stand_first root above n label kids other later s =
    ap (λ (m : ℕ). at root (above ++ m ∷ [])) (omega arith) ∙ s 0 (record { label = label; kids = kids; other = other }) refl

pub stand_later : (root : One) (above : List ℕ) (n : ℕ) (label : Label) (kids other later : Spots) → StandIn root above n (spot label kids other later)
    → StandIn root above (n + 1) later
stand_later root above n label kids other later s k y e =
    ap (λ (m : ℕ). at root (above ++ m ∷ [])) (omega arith) ∙ s (suc k) y e

pub stand_kids : (root : One) (path : List ℕ) (label : Label) (kids other : Spots) → ((n : ℕ) → inside label kids other n ≡ nth kids n)
    → at root path ≡ Some (record { label = label; kids = kids; other = other }) → StandIn root path 0 kids
stand_kids root path label kids other ins e k y f =
    let one : One = record { label = label; kids = kids; other = other } in
    ap (λ (m : ℕ). at root (path ++ m ∷ [])) (omega arith)
    ∙ (at-append path root one (k ∷ []) e ∙ at-step one y k [] (ins k ∙ f))

module _ (known : List ℕ → Bool) (root : One) where
  abbrev failed : Gap → List (List ℕ)
  failed gap = failures_at root (gap_path gap)

  abbrev awaited : Gap → List (List ℕ)
  awaited gap = resources_at root (gap_path gap)

  one_gap : (f : Gap → List (List ℕ)) (gap : Gap) (xs : List (List ℕ)) → f gap ≡ xs → xs ≡ flat_map f (gap ∷ [])
  one_gap f gap xs e = sym e ∙ sym (append-nil (f gap))

  fails_here : (label : Label) (path : List ℕ) (kids kids' other' : Spots) → own_bare_fails label (bare_fails kids) ≡ []
      → at root path ≡ Some (record { label = label; kids = kids'; other = other' })
      → (bare_fails kids ≡ [] → StandIn root path 0 kids' → fails kids' ≡ flat_map failed (gaps_below path 0 kids))
      → own_fails label (fails kids') (fails other') ≡ flat_map failed (label_gaps label path (gaps_below path 0 kids))
  fails_here nothing path kids kids' other' bare e go = refl
  fails_here (text t) path kids kids' other' bare e go = refl
  fails_here (element name attributes) path kids kids' other' bare e go =
      go bare (stand_kids root path (element name attributes) kids' other' (λ n. refl) e)
  fails_here array path kids kids' other' bare e go = go bare (stand_kids root path array kids' other' (λ n. refl) e)
  fails_here boundary path kids kids' other' bare e go =
      one_gap failed (bounded path) (fails other') (ap (λ (o : Option One). option_map_or own_failures o []) e)
  fails_here (wait resource) path kids kids' other' bare e go =
      one_gap failed (waiting path resource) [] (ap (λ (o : Option One). option_map_or own_failures o []) e)
  fails_here (fail digest) path kids kids' other' bare e go = absurd (nothing_bare digest bare)

  fails_below : (s t : Spots) → Later known s t → bare_fails s ≡ [] → (above : List ℕ) (n : ℕ) → StandIn root above n t
      → fails t ≡ flat_map failed (gaps_below above n s)
  fails_below _ _ ends bare above n stand = refl
  fails_below _ _ (stays label kids other later kids' other' later' k o z) bare above n stand =
      ap₂ (λ (xs ys : List (List ℕ)). xs ++ ys)
      (fails_here label (above ++ n ∷ []) kids kids' other' (left_empty (own_bare_fails label (bare_fails kids)) (bare_fails later) bare)
      (stand_first root above n label kids' other' later' stand) (λ b st. fails_below kids kids' k b (above ++ n ∷ []) 0 st))
      (fails_below later later' z (right_empty (own_bare_fails label (bare_fails kids)) (bare_fails later) bare) above (n + 1)
      (stand_later root above n label kids' other' later' stand))
      ∙ sym (flat_map-append failed (label_gaps label (above ++ n ∷ []) (gaps_below (above ++ n ∷ []) 0 kids)) (gaps_below above (n + 1) later))
  fails_below _ _ (opens resource label' kids other later kids' other' later' k z) bare above n stand =
      ap₂ (λ (xs ys : List (List ℕ)). xs ++ ys)
      (one_gap failed (waiting (above ++ n ∷ []) resource) (own_fails label' (fails kids') (fails other'))
      (ap (λ (x : Option One). option_map_or own_failures x []) (stand_first root above n label' kids' other' later' stand)))
      (fails_below later later' z bare above (n + 1) (stand_later root above n label' kids' other' later' stand))
      ∙ sym (flat_map-append failed (waiting (above ++ n ∷ []) resource ∷ []) (gaps_below above (n + 1) later))

  pub own_failures_fill : (a b : One) (path : List ℕ) → LaterOne known a b → at root path ≡ Some b
      → own_bare_fails a.label (bare_fails a.kids) ≡ [] → own_failures b ≡ flat_map failed (gaps_of path a)
  own_failures_fill _ _ path (stays_one label kids other kids' other' k o) e bare =
      fails_here label path kids kids' other' bare e (λ b st. fails_below kids kids' k b path 0 st)
  own_failures_fill _ _ path (opens_one resource label' kids other kids' other' k) e bare =
      one_gap failed (waiting path resource) (own_fails label' (fails kids') (fails other'))
      (ap (λ (x : Option One). option_map_or own_failures x []) e)

  waits_here : (label : Label) (path : List ℕ) (kids kids' other' : Spots)
      → at root path ≡ Some (record { label = label; kids = kids'; other = other' })
      → (StandIn root path 0 kids' → waits kids' ≡ flat_map awaited (gaps_below path 0 kids))
      → own_waits label (waits kids') (waits other') ≡ flat_map awaited (label_gaps label path (gaps_below path 0 kids))
  waits_here nothing path kids kids' other' e go = refl
  waits_here (text t) path kids kids' other' e go = refl
  waits_here (element name attributes) path kids kids' other' e go =
      go (stand_kids root path (element name attributes) kids' other' (λ n. refl) e)
  waits_here array path kids kids' other' e go = go (stand_kids root path array kids' other' (λ n. refl) e)
  waits_here boundary path kids kids' other' e go =
      one_gap awaited (bounded path) (waits other') (ap (λ (o : Option One). option_map_or own_resources o []) e)
  waits_here (wait resource) path kids kids' other' e go =
      one_gap awaited (waiting path resource) (resource ∷ []) (ap (λ (o : Option One). option_map_or own_resources o []) e)
  waits_here (fail digest) path kids kids' other' e go = refl

  waits_below : (s t : Spots) → Later known s t → (above : List ℕ) (n : ℕ) → StandIn root above n t
      → waits t ≡ flat_map awaited (gaps_below above n s)
  waits_below _ _ ends above n stand = refl
  waits_below _ _ (stays label kids other later kids' other' later' k o z) above n stand =
      ap₂ (λ (xs ys : List (List ℕ)). xs ++ ys)
      (waits_here label (above ++ n ∷ []) kids kids' other'
      (stand_first root above n label kids' other' later' stand) (λ st. waits_below kids kids' k (above ++ n ∷ []) 0 st))
      (waits_below later later' z above (n + 1) (stand_later root above n label kids' other' later' stand))
      ∙ sym (flat_map-append awaited (label_gaps label (above ++ n ∷ []) (gaps_below (above ++ n ∷ []) 0 kids)) (gaps_below above (n + 1) later))
  waits_below _ _ (opens resource label' kids other later kids' other' later' k z) above n stand =
      ap₂ (λ (xs ys : List (List ℕ)). xs ++ ys)
      (one_gap awaited (waiting (above ++ n ∷ []) resource) (own_waits label' (waits kids') (waits other'))
      (ap (λ (x : Option One). option_map_or own_resources x []) (stand_first root above n label' kids' other' later' stand)))
      (waits_below later later' z above (n + 1) (stand_later root above n label' kids' other' later' stand))
      ∙ sym (flat_map-append awaited (waiting (above ++ n ∷ []) resource ∷ []) (gaps_below above (n + 1) later))

  pub own_resources_fill : (a b : One) (path : List ℕ) → LaterOne known a b → at root path ≡ Some b
      → own_resources b ≡ flat_map awaited (gaps_of path a)
  own_resources_fill _ _ path (stays_one label kids other kids' other' k o) e =
      waits_here label path kids kids' other' e (λ st. waits_below kids kids' k path 0 st)
  own_resources_fill _ _ path (opens_one resource label' kids other kids' other' k) e =
      one_gap awaited (waiting path resource) (own_waits label' (waits kids') (waits other'))
      (ap (λ (x : Option One). option_map_or own_resources x []) e)
