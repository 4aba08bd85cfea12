-- A failure that is told stands at a position that is owned so.
use Rattle.std.proofs.Common.{◌≡◌, ℕ, zero, suc, ◌<◌, List, [], ◌∷◌, Option, Some, None, refl, sym, ap, ◌∙◌, subst, inl, inr, length, get_or, arith}
use Rattle.std.specs.Prelude.{Contains, option_map, ◌⊎◌}
use Rattle.std.proofs.lemmas.List.{append-nil}
use Rattle.std.proofs.lemmas.List.Elements.{Contains-append_cases}
use Rattle.jsx_value.specs.Spots.{Label, nothing, text, element, array, boundary, wait, fail, Spots, none, spot, One, nth, inside, at, fails, own_fails}
use Rattle.position_laws.specs.Paths.{label_at}
use Rattle.position_laws.specs.Owners.{own_boundary, or_own, owner_below, owner_of, own_failures}
use Rattle.position_laws.specs.Formed.{IsOne, HasOneOfEach, AreFormed, IsFormed, FailsBelow}
use Rattle.position_laws.proofs.OwnersLemmas.{at-append, at-step, owner-append, owner-step, no_member, nothing_there}

-- a failure among siblings, and in a position
record FailsAmong (spots : Spots) (d : List ℕ) : Type 0 where
  pub k : ℕ
  pub x : One
  pub rest : List ℕ
  pub stands : nth spots k ≡ Some x
  pub failed : label_at x rest ≡ Some (fail d)
  pub owned : owner_of x rest ≡ None

record FailsIn (one : One) (d : List ℕ) : Type 0 where
  pub rest : List ℕ
  pub failed : label_at one rest ≡ Some (fail d)
  pub owned : owner_of one rest ≡ None

only_one : (spots : Spots) (k : ℕ) (x : One) → IsOne spots → nth spots k ≡ Some x → k ≡ 0
only_one none k x one e = absurd one
only_one (spot label kids other later) zero x one e = refl
only_one (spot label kids other later) (suc k) x one e = absurd (nothing_there x (sym (ap (λ (s : Spots). nth s k) one) ∙ e))

same_digest : (e d : List ℕ) → Contains (e ∷ []) d → e ≡ d
same_digest e d c =
    let less : c.0 < length (e ∷ []) = c.1 in
    let first : c.0 ≡ 0 = omega arith in
    subst (λ (i : ℕ). get_or (e ∷ []) i d ≡ d) first c.2

through : (one x : One) (n : ℕ) (d rest : List ℕ) → inside one.label one.kids one.other n ≡ Some x → label_at x rest ≡ Some (fail d)
    → owner_of x rest ≡ None → own_boundary one.label n ≡ None → FailsIn one d
through one x n d rest e f g none_own = record {
  rest = n ∷ rest;
  failed = ap (option_map (λ (o : One). o.label)) (at-step one x n rest e) ∙ f;
  owned = owner-step one x n rest e ∙ (ap (λ (o : Option (List ℕ)). or_own n o (own_boundary one.label n)) g ∙ none_own);
}

fails_here : (label : Label) (kids other : Spots) (d : List ℕ) → HasOneOfEach label kids other
    → (Contains (fails kids) d → FailsAmong kids d) → (Contains (fails other) d → FailsAmong other d)
    → Contains (own_fails label (fails kids) (fails other)) d → FailsIn (record { label = label; kids = kids; other = other }) d
fails_here nothing kids other d h go goes c = absurd (no_member d c)
fails_here (text t) kids other d h go goes c = absurd (no_member d c)
fails_here (element name attributes) kids other d h go goes c =
    let f = go c in through (record { label = element name attributes; kids = kids; other = other }) f.x f.k d f.rest f.stands f.failed f.owned refl
fails_here array kids other d h go goes c =
    let f = go c in through (record { label = array; kids = kids; other = other }) f.x f.k d f.rest f.stands f.failed f.owned refl
fails_here boundary kids other d h go goes c =
    let f = goes c in
    through (record { label = boundary; kids = kids; other = other }) f.x 1 d f.rest
    (ap (nth other) (sym (only_one other f.k f.x h.1 f.stands)) ∙ f.stands) f.failed f.owned refl
fails_here (wait resource) kids other d h go goes c = absurd (no_member d c)
fails_here (fail digest) kids other d h go goes c = record {
  rest = [];
  failed = ap (λ (e : List ℕ). Some (fail e)) (same_digest digest d c);
  owned = refl;
}

fails_among : (spots : Spots) (d : List ℕ) → AreFormed spots → Contains (fails spots) d → FailsAmong spots d
fails_among none d h c = absurd (no_member d c)
fails_among (spot label kids other later) d h c =
    joined (Contains-append_cases (own_fails label (fails kids) (fails other)) (fails later) d c)
    (fails_here label kids other d h.0 (fails_among kids d h.1) (fails_among other d h.2)) (fails_among later d h.3)
  where
    joined : Contains (own_fails label (fails kids) (fails other)) d ⊎ Contains (fails later) d
        → (Contains (own_fails label (fails kids) (fails other)) d → FailsIn (record { label = label; kids = kids; other = other }) d)
        → (Contains (fails later) d → FailsAmong later d) → FailsAmong (spot label kids other later) d
    joined (inl a) f g =
        let w = f a in
        record { k = 0; x = record { label = label; kids = kids; other = other }; rest = w.rest; stands = refl; failed = w.failed; owned = w.owned }
    joined (inr b) f g = let w = g b in record { k = suc w.k; x = w.x; rest = w.rest; stands = w.stands; failed = w.failed; owned = w.owned }

-- An own failure of a position stands below it with its owner.
pub own_failure_stands : (root one : One) (path digest : List ℕ) → at root path ≡ Some one → IsFormed one → Contains (own_failures one) digest
    → FailsBelow root path digest (owner_of root path)
own_failure_stands root one path digest e h c =
    let f = fails_here one.label one.kids one.other digest h.0 (fails_among one.kids digest h.1) (fails_among one.other digest h.2) c in
    record {
      rest = f.rest;
      failed = ap (option_map (λ (o : One). o.label)) (at-append path root one f.rest e) ∙ f.failed;
      owned = owner-append path root one f.rest e ∙ ap (λ (o : Option (List ℕ)). owner_below path o (owner_of root path)) f.owned;
    }

-- A failure of a boundary's content stands below it and is owned by it.
in_content : (label : Label) (kids other : Spots) (root : One) (path digest : List ℕ) → label ≡ boundary
    → at root path ≡ Some (record { label = label; kids = kids; other = other })
    → HasOneOfEach boundary kids other → FailsAmong kids digest → FailsBelow root path digest (Some path)
in_content label kids other root path digest is e h f =
    let one : One = record { label = boundary; kids = kids; other = other } in
    let there : at root path ≡ Some one = e ∙ ap (λ (l : Label). Some (record { label = l; kids = kids; other = other })) is in
    let first : nth kids 0 ≡ Some f.x = ap (nth kids) (sym (only_one kids f.k f.x h.0 f.stands)) ∙ f.stands in
    record {
      rest = 0 ∷ f.rest;
      failed = ap (option_map (λ (o : One). o.label)) (at-append path root one (0 ∷ f.rest) there ∙ at-step one f.x 0 f.rest first) ∙ f.failed;
      owned = owner-append path root one (0 ∷ f.rest) there
          ∙ (ap (λ (o : Option (List ℕ)). owner_below path o (owner_of root path))
          (owner-step one f.x 0 f.rest first ∙ ap (λ (o : Option (List ℕ)). or_own 0 o (Some [])) f.owned)
          ∙ ap (λ (p : List ℕ). Some p) (append-nil path));
    }

pub content_failure_stands : (root one : One) (path digest : List ℕ) → at root path ≡ Some one → one.label ≡ boundary → IsFormed one
    → Contains (fails one.kids) digest → FailsBelow root path digest (Some path)
content_failure_stands root one path digest e is h c =
    in_content one.label one.kids one.other root path digest is e
    (subst (λ (l : Label). HasOneOfEach l one.kids one.other) is h.0) (fails_among one.kids digest h.1 c)
