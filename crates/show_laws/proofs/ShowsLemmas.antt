-- What is shown, under more that was drawn and under the page's instructions.
use Rattle.std.proofs.Common.{◌≡◌, ℕ, ◌+◌, ◌==◌, Bool, true, false, if◌then◌else◌, List, [], ◌∷◌, ◌++◌, Contains, Option, Some, refl, sym, ap, subst}
use Rattle.std.proofs.lemmas.Bool.{eqb-true}
use Rattle.jsx_value.specs.Spots.{Label, One, Spots, none, spot, fails}
use Rattle.jsx_value.specs.Spots as l
use Rattle.page_laws.specs.PageEdits.{filled_at, completed_at, failed_at, with_boundary_completed, with_boundary_failed, with_placeholder_filled}
use Rattle.page_laws.specs.Pages.{Page, joined_pages}
use Rattle.page_laws.specs.Pages as g
use Rattle.show_laws.specs.Shows.{Drawn, Grows, Position, position, Shows, ShowsPosition, done, separated, awaits, skips, says, stands, joins, completes, pends, refuses}

-- A choice has a property that each side has where it is chosen.
chosen : (P : Page → Type 0) (b : Bool) (x y : Page) → (b ≡ true → P x) → (b ≡ false → P y) → P (if b then x else y)
chosen P true x y f k = f refl
chosen P false x y f k = k refl

same_position : (a b : Option Position) (p q : Position) → a ≡ Some p → b ≡ Some q → a ≡ b → p ≡ q
same_position a b p q x y e = cc

-- where more was drawn
pub grown : (old new : Drawn) → Grows old new → (above : List ℕ) (n : ℕ) (spots : Spots) (page rest : Page)
    → Shows old above n spots page rest → Shows new above n spots page rest
grown old new w _ _ _ _ _ (done above n rest) = done above n rest
grown old new w _ _ _ _ _ (separated above n spots page rest s) = separated above n spots page rest (grown old new w _ _ _ _ _ s)
grown old new w _ _ _ _ _ (awaits above n label kids other later id page rest d s) =
    awaits above n label kids other later id page rest (w.segment id _ d) (grown old new w _ _ _ _ _ s)
grown old new w _ _ _ _ _ (skips above n kids other later page rest s) =
    skips above n kids other later page rest (grown old new w _ _ _ _ _ s)
grown old new w _ _ _ _ _ (says above n t kids other later page rest s) =
    says above n t kids other later page rest (grown old new w _ _ _ _ _ s)
grown old new w _ _ _ _ _ (stands above n name attributes kids other later items page rest i s) =
    stands above n name attributes kids other later items page rest (grown old new w _ _ _ _ _ i) (grown old new w _ _ _ _ _ s)
grown old new w _ _ _ _ _ (joins above n kids other later page between rest i s) =
    joins above n kids other later page between rest (grown old new w _ _ _ _ _ i) (grown old new w _ _ _ _ _ s)
grown old new w _ _ _ _ _ (completes above n kids other later items page rest f r i s) =
    completes above n kids other later items page rest f (w.is_revealed above n r) (grown old new w _ _ _ _ _ i) (grown old new w _ _ _ _ _ s)
grown old new w _ _ _ _ _ (pends above n kids other later id items page rest d i s) =
    pends above n kids other later id items page rest (w.boundary id _ d) (grown old new w _ _ _ _ _ i) (grown old new w _ _ _ _ _ s)
grown old new w _ _ _ _ _ (refuses above n kids other later id digest items page rest f i s) =
    refuses above n kids other later id digest items page rest f (grown old new w _ _ _ _ _ i) (grown old new w _ _ _ _ _ s)

module _ (drawn : Drawn) where
  -- More may follow.
  pub followed : (more : Page) (above : List ℕ) (n : ℕ) (spots : Spots) (page rest : Page) → Shows drawn above n spots page rest
      → Shows drawn above n spots (joined_pages page more) (joined_pages rest more)
  followed more _ _ _ _ _ (done above n rest) = done above n _
  followed more _ _ _ _ _ (separated above n spots page rest s) = separated above n spots _ _ (followed more _ _ _ _ _ s)
  followed more _ _ _ _ _ (awaits above n label kids other later id page rest d s) =
      awaits above n label kids other later id _ _ d (followed more _ _ _ _ _ s)
  followed more _ _ _ _ _ (skips above n kids other later page rest s) = skips above n kids other later _ _ (followed more _ _ _ _ _ s)
  followed more _ _ _ _ _ (says above n t kids other later page rest s) = says above n t kids other later _ _ (followed more _ _ _ _ _ s)
  followed more _ _ _ _ _ (stands above n name attributes kids other later items page rest i s) =
      stands above n name attributes kids other later items _ _ i (followed more _ _ _ _ _ s)
  followed more _ _ _ _ _ (joins above n kids other later page between rest i s) =
      joins above n kids other later _ _ _ (followed more _ _ _ _ _ i) (followed more _ _ _ _ _ s)
  followed more _ _ _ _ _ (completes above n kids other later items page rest f r i s) =
      completes above n kids other later items _ _ f r i (followed more _ _ _ _ _ s)
  followed more _ _ _ _ _ (pends above n kids other later id items page rest d i s) =
      pends above n kids other later id items _ _ d i (followed more _ _ _ _ _ s)
  followed more _ _ _ _ _ (refuses above n kids other later id digest items page rest f i s) =
      refuses above n kids other later id digest items _ _ f i (followed more _ _ _ _ _ s)

  -- After separators alone, later positions may follow.
  none_then : (above : List ℕ) (n : ℕ) (later : Spots) (page between rest : Page) → Shows drawn above n none page between
      → Shows drawn above n later between rest → Shows drawn above n later page rest
  none_then _ _ later _ _ rest (done above n between) s = s
  none_then _ _ later _ _ rest (separated above n _ page between t) s =
      separated above n later page rest (none_then above n later page between rest t s)

  -- One position, and then those after it.
  pub first_then : (above : List ℕ) (n : ℕ) (label : Label) (kids other later : Spots) (page between rest : Page)
      → Shows drawn above n (spot label kids other none) page between → Shows drawn above (n + 1) later between rest
      → Shows drawn above n (spot label kids other later) page rest
  first_then _ _ _ _ _ later _ _ rest (separated above n (spot label kids other none) page between t) s =
      separated above n (spot label kids other later) page rest (first_then above n label kids other later page between rest t s)
  first_then _ _ _ _ _ later _ _ rest (awaits above n label kids other none id page between d t) s =
      awaits above n label kids other later id page rest d (none_then above (n + 1) later page between rest t s)
  first_then _ _ _ _ _ later _ _ rest (skips above n kids other none page between t) s =
      skips above n kids other later page rest (none_then above (n + 1) later page between rest t s)
  first_then _ _ _ _ _ later _ _ rest (says above n x kids other none page between t) s =
      says above n x kids other later page rest (none_then above (n + 1) later page between rest t s)
  first_then _ _ _ _ _ later _ _ rest (stands above n name attributes kids other none items page between i t) s =
      stands above n name attributes kids other later items page rest i (none_then above (n + 1) later page between rest t s)
  first_then _ _ _ _ _ later _ _ rest (joins above n kids other none page middle between i t) s =
      joins above n kids other later page middle rest i (none_then above (n + 1) later middle between rest t s)
  first_then _ _ _ _ _ later _ _ rest (completes above n kids other none items page between f r i t) s =
      completes above n kids other later items page rest f r i (none_then above (n + 1) later page between rest t s)
  first_then _ _ _ _ _ later _ _ rest (pends above n kids other none id items page between d i t) s =
      pends above n kids other later id items page rest d i (none_then above (n + 1) later page between rest t s)
  first_then _ _ _ _ _ later _ _ rest (refuses above n kids other none id digest items page between f i t) s =
      refuses above n kids other later id digest items page rest f i (none_then above (n + 1) later page between rest t s)

  -- What shows a position stands in the place of its placeholder.
  module _ (h : ℕ) (new : Page) (p : Position) (drew : drawn.segment h ≡ Some p) (shown : ShowsPosition drawn p new) where
    abbrev filled : Page → Page
    filled = with_placeholder_filled h new

    here : (above : List ℕ) (n : ℕ) (label : Label) (kids other : Spots) (q : Position) → q ≡ position above n label kids other
        → ShowsPosition drawn q new → Shows drawn above n (spot label kids other none) new g.nothing
    here above n label kids other q e s = subst (λ r. ShowsPosition drawn r new) e s

    placeholder_filled : (above : List ℕ) (n : ℕ) (label : Label) (kids other later : Spots) (id : ℕ) (page rest : Page)
        → drawn.segment id ≡ Some (position above n label kids other) → Shows drawn above (n + 1) later page rest
        → Shows drawn above n (spot label kids other later) (filled_at h new id page) rest
    placeholder_filled above n label kids other later id page rest d s =
        chosen (λ x. Shows drawn above n (spot label kids other later) x rest) (id == h) (joined_pages new page) (g.placeholder id page)
        (λ e. let same : p ≡ position above n label kids other = same_position _ _ p _ drew d (ap drawn.segment (sym (eqb-true id h e))) in
        first_then above n label kids other later (joined_pages new page) page rest
        (followed page above n (spot label kids other none) new g.nothing (here above n label kids other p same shown)) s)
        (λ e. awaits above n label kids other later id page rest d s)

    pub fills : (above : List ℕ) (n : ℕ) (spots : Spots) (page rest : Page) → Shows drawn above n spots page rest
        → Shows drawn above n spots (with_placeholder_filled h new page) (with_placeholder_filled h new rest)
    fills _ _ _ _ _ (done above n rest) = done above n _
    fills _ _ _ _ _ (separated above n spots page rest s) = separated above n spots _ _ (fills _ _ _ _ _ s)
    fills _ _ _ _ _ (awaits above n label kids other later id page rest d s) =
        placeholder_filled above n label kids other later id (filled page) (filled rest) d (fills _ _ _ _ _ s)
    fills _ _ _ _ _ (skips above n kids other later page rest s) = skips above n kids other later _ _ (fills _ _ _ _ _ s)
    fills _ _ _ _ _ (says above n t kids other later page rest s) = says above n t kids other later _ _ (fills _ _ _ _ _ s)
    fills _ _ _ _ _ (stands above n name attributes kids other later items page rest i s) =
        stands above n name attributes kids other later _ _ _ (fills _ _ _ _ _ i) (fills _ _ _ _ _ s)
    fills _ _ _ _ _ (joins above n kids other later page between rest i s) =
        joins above n kids other later _ _ _ (fills _ _ _ _ _ i) (fills _ _ _ _ _ s)
    fills _ _ _ _ _ (completes above n kids other later items page rest f r i s) =
        completes above n kids other later _ _ _ f r (fills _ _ _ _ _ i) (fills _ _ _ _ _ s)
    fills _ _ _ _ _ (pends above n kids other later id items page rest d i s) =
        pends above n kids other later id _ _ _ d (fills _ _ _ _ _ i) (fills _ _ _ _ _ s)
    fills _ _ _ _ _ (refuses above n kids other later id digest items page rest f i s) =
        refuses above n kids other later id digest _ _ _ f (fills _ _ _ _ _ i) (fills _ _ _ _ _ s)

  -- A boundary that is left to the client shows its fallback as before.
  module _ (h : ℕ) (error : List ℕ) (p : Position) (drew : drawn.boundary h ≡ Some p) (failed : Contains (fails p.one.kids) error) where
    abbrev refused : Page → Page
    refused = with_boundary_failed h error

    boundary_refused : (above : List ℕ) (n : ℕ) (kids other later : Spots) (id : ℕ) (items page rest : Page)
        → drawn.boundary id ≡ Some (position above n l.boundary kids other)
        → Shows drawn (above ++ n ∷ []) 1 other items g.nothing → Shows drawn above (n + 1) later page rest
        → Shows drawn above n (spot l.boundary kids other later) (failed_at h error id items page) rest
    boundary_refused above n kids other later id items page rest d i s =
        chosen (λ x. Shows drawn above n (spot l.boundary kids other later) x rest) (id == h) (g.client (Some id) error items page) (g.pending id items page)
        (λ e. let same : p ≡ position above n l.boundary kids other = same_position _ _ p _ drew d (ap drawn.boundary (sym (eqb-true id h e))) in
        refuses above n kids other later (Some id) error items page rest (subst (λ (q : Position). Contains (fails q.one.kids) error) same failed) i s)
        (λ e. pends above n kids other later id items page rest d i s)

    pub refuses_shows : (above : List ℕ) (n : ℕ) (spots : Spots) (page rest : Page) → Shows drawn above n spots page rest
        → Shows drawn above n spots (with_boundary_failed h error page) (with_boundary_failed h error rest)
    refuses_shows _ _ _ _ _ (done above n rest) = done above n _
    refuses_shows _ _ _ _ _ (separated above n spots page rest s) = separated above n spots _ _ (refuses_shows _ _ _ _ _ s)
    refuses_shows _ _ _ _ _ (awaits above n label kids other later id page rest d s) =
        awaits above n label kids other later id _ _ d (refuses_shows _ _ _ _ _ s)
    refuses_shows _ _ _ _ _ (skips above n kids other later page rest s) = skips above n kids other later _ _ (refuses_shows _ _ _ _ _ s)
    refuses_shows _ _ _ _ _ (says above n t kids other later page rest s) = says above n t kids other later _ _ (refuses_shows _ _ _ _ _ s)
    refuses_shows _ _ _ _ _ (stands above n name attributes kids other later items page rest i s) =
        stands above n name attributes kids other later _ _ _ (refuses_shows _ _ _ _ _ i) (refuses_shows _ _ _ _ _ s)
    refuses_shows _ _ _ _ _ (joins above n kids other later page between rest i s) =
        joins above n kids other later _ _ _ (refuses_shows _ _ _ _ _ i) (refuses_shows _ _ _ _ _ s)
    refuses_shows _ _ _ _ _ (completes above n kids other later items page rest f r i s) =
        completes above n kids other later _ _ _ f r (refuses_shows _ _ _ _ _ i) (refuses_shows _ _ _ _ _ s)
    refuses_shows _ _ _ _ _ (pends above n kids other later id items page rest d i s) =
        boundary_refused above n kids other later id (refused items) (refused page) (refused rest) d (refuses_shows _ _ _ _ _ i) (refuses_shows _ _ _ _ _ s)
    refuses_shows _ _ _ _ _ (refuses above n kids other later id digest items page rest f i s) =
        refuses above n kids other later id digest _ _ _ f (refuses_shows _ _ _ _ _ i) (refuses_shows _ _ _ _ _ s)

-- A boundary shows its content.
module _ (old new : Drawn) (w : Grows old new) (h : ℕ) (content : Page) (p : Position) (drew : old.boundary h ≡ Some p)
    (sound : fails p.one.kids ≡ []) (is_revealed : new.is_revealed p.above p.number ≡ true)
    (shown : Shows new (p.above ++ p.number ∷ []) 0 p.one.kids content g.nothing) where
  abbrev revealed : Page → Page
  revealed = with_boundary_completed h content

  boundary_revealed : (above : List ℕ) (n : ℕ) (kids other later : Spots) (id : ℕ) (items page rest : Page)
      → old.boundary id ≡ Some (position above n l.boundary kids other)
      → Shows new (above ++ n ∷ []) 1 other items g.nothing → Shows new above (n + 1) later page rest
      → Shows new above n (spot l.boundary kids other later) (completed_at h content id items page) rest
  boundary_revealed above n kids other later id items page rest d i s =
      chosen (λ x. Shows new above n (spot l.boundary kids other later) x rest) (id == h) (g.complete content page) (g.pending id items page)
      (λ e. let same : p ≡ position above n l.boundary kids other = same_position _ _ p _ drew d (ap old.boundary (sym (eqb-true id h e))) in
      completes above n kids other later content page rest
      (subst (λ (q : Position). fails q.one.kids ≡ []) same sound)
      (subst (λ (q : Position). new.is_revealed q.above q.number ≡ true) same is_revealed)
      (subst (λ (q : Position). Shows new (q.above ++ q.number ∷ []) 0 q.one.kids content g.nothing) same shown) s)
      (λ e. pends above n kids other later id items page rest (w.boundary id _ d) i s)

  pub reveals : (above : List ℕ) (n : ℕ) (spots : Spots) (page rest : Page) → Shows old above n spots page rest
      → Shows new above n spots (with_boundary_completed h content page) (with_boundary_completed h content rest)
  reveals _ _ _ _ _ (done above n rest) = done above n _
  reveals _ _ _ _ _ (separated above n spots page rest s) = separated above n spots _ _ (reveals _ _ _ _ _ s)
  reveals _ _ _ _ _ (awaits above n label kids other later id page rest d s) =
      awaits above n label kids other later id _ _ (w.segment id _ d) (reveals _ _ _ _ _ s)
  reveals _ _ _ _ _ (skips above n kids other later page rest s) = skips above n kids other later _ _ (reveals _ _ _ _ _ s)
  reveals _ _ _ _ _ (says above n t kids other later page rest s) = says above n t kids other later _ _ (reveals _ _ _ _ _ s)
  reveals _ _ _ _ _ (stands above n name attributes kids other later items page rest i s) =
      stands above n name attributes kids other later _ _ _ (reveals _ _ _ _ _ i) (reveals _ _ _ _ _ s)
  reveals _ _ _ _ _ (joins above n kids other later page between rest i s) =
      joins above n kids other later _ _ _ (reveals _ _ _ _ _ i) (reveals _ _ _ _ _ s)
  reveals _ _ _ _ _ (completes above n kids other later items page rest f r i s) =
      completes above n kids other later _ _ _ f (w.is_revealed above n r) (reveals _ _ _ _ _ i) (reveals _ _ _ _ _ s)
  reveals _ _ _ _ _ (pends above n kids other later id items page rest d i s) =
      boundary_revealed above n kids other later id (revealed items) (revealed page) (revealed rest) d (reveals _ _ _ _ _ i) (reveals _ _ _ _ _ s)
  reveals _ _ _ _ _ (refuses above n kids other later id digest items page rest f i s) =
      refuses above n kids other later id digest _ _ _ f (reveals _ _ _ _ _ i) (reveals _ _ _ _ _ s)
