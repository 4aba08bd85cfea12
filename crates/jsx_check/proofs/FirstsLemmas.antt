-- The earliest of what is found at the names of a file is its first broken rule, and where nothing is found the rules hold.
use Rattle.std.proofs.Common.{◌≡◌, ℕ, ◌≤◌, ◌==◌, ◌&&◌, nat_lt, Bool, true, false, if◌then◌else◌, Option, Some, None, List, [], ◌∷◌, ◌⊎◌, inl, inr, Contains, refl, sym, ◌∙◌, ap, subst, ⊎_elim, arith}
use Rattle.std.proofs.lemmas.Bool.{cases_Bool, cases_lt, ltb-true, ltb-false, eqb-true, eqb-false, and_parts, and_cases, or_cases, or_parts}
use Rattle.std.proofs.lemmas.Option.{same_Some, none-some}
use Rattle.std.proofs.lemmas.List.Elements.{Contains-append_cases, Contains-append_left, Contains-append_right, Contains-push, Contains-push_cases}
use Rattle.jsx_syntax.specs.Rules.{Site, name_at, breaks, sites_of, IsSound}
use Rattle.jsx_syntax.specs.declared.file.Component.{Component}
use Rattle.jsx_syntax.specs.declared.file.File.{File}
use Rattle.jsx_syntax.specs.declared.rule.Rule.{Rule}
use Rattle.jsx_syntax.specs.declared.rule.Rule.TheVariants.{UnknownName, UnknownElement, UnknownAttribute, TwiceDefined, UsedBeforeDefined, FallbackNotPlain}
use Rattle.jsx_check.specs.Checks.{rank_of, IsNoLater, IsFirstBroken}
use Rattle.jsx_check.specs.Firsts.{first_rule, found_by, found_at, is_before, earlier, earliest}
use Rattle.jsx_check.specs.declared.found.Found.{Found}

-- the order of what is found

abbrev NoLater : Found → Found → Type 0
NoLater a b = IsNoLater a.rule a.at b.rule b.at

no_later_itself : (a : Found) → NoLater a a
no_later_itself a = inr (refl, omega arith)

no_later_through : (a b c : Found) → NoLater a b → NoLater b c → NoLater a c
no_later_through a b c (inl p) (inl q) = inl (omega (arith, p, q))
no_later_through a b c (inl p) (inr q) = inl (omega (arith, p, q.0))
no_later_through a b c (inr p) (inl q) = inl (omega (arith, p.0, q))
no_later_through a b c (inr p) (inr q) = inr (p.0 ∙ q.0, omega (arith, p.1, q.1))

before_no_later : (a b : Found) → is_before a b ≡ true → NoLater a b
before_no_later a b e =
    ⊎_elim (λ l. inl (ltb-true a.at b.at l))
    (λ p. let q : ((a.at == b.at) ≡ true) × (nat_lt (rank_of a.rule) (rank_of b.rule) ≡ true) = and_parts _ _ p in
    inr (eqb-true a.at b.at q.0, omega (arith, ltb-true (rank_of a.rule) (rank_of b.rule) q.1)))
    (or_cases (nat_lt a.at b.at) (a.at == b.at && nat_lt (rank_of a.rule) (rank_of b.rule)) e)

after_no_later : (a b : Found) → is_before a b ≡ false → NoLater b a
after_no_later a b e =
    let p : (nat_lt a.at b.at ≡ false) × ((a.at == b.at && nat_lt (rank_of a.rule) (rank_of b.rule)) ≡ false) = or_parts _ _ e in
    let least : b.at ≤ a.at = ltb-false a.at b.at p.0 in
    ⊎_elim (λ l. inl l) (λ g.
    let same : b.at ≡ a.at = omega (arith, least, g) in
    inr (
      same,
      ⊎_elim (λ n. absurd (eqb-false a.at b.at n (sym same))) (λ r. ltb-false (rank_of a.rule) (rank_of b.rule) r)
          (and_cases (a.at == b.at) (nat_lt (rank_of a.rule) (rank_of b.rule)) p.1),
    ))
    (cases_lt b.at a.at)

-- what the earlier of two is
record IsEarlier (x y : Option Found) (f : Found) : Type 0 where
  first : (a : Found) → x ≡ Some a → NoLater f a
  second : (b : Found) → y ≡ Some b → NoLater f b
  one : (x ≡ Some f) ⊎ (y ≡ Some f)

earlier_is : (x y : Option Found) (f : Found) → earlier x y ≡ Some f → IsEarlier x y f
earlier_is None y f e = record {
  first = λ a n. absurd (none-some a n);
  second = λ b s. subst (λ (g : Found). NoLater f g) (same_Some f b (sym e ∙ s)) (no_later_itself f);
  one = inr e;
}
earlier_is (Some a) None f e = record {
  first = λ g s. subst (λ (h : Found). NoLater f h) (same_Some f g (sym e ∙ s)) (no_later_itself f);
  second = λ b n. absurd (none-some b n);
  one = inl e;
}
earlier_is (Some a) (Some b) f e =
    ⊎_elim (λ t.
    let is : Some b ≡ Some f = sym (ap (λ (c : Bool). if c then Some b else Some a) t) ∙ e in
    let same : b ≡ f = same_Some b f is in
    record {
      first = λ g s. subst (λ (h : Found). NoLater h g) same (subst (λ (h : Found). NoLater b h) (same_Some a g s) (before_no_later b a t));
      second = λ g s. subst (λ (h : Found). NoLater h g) same (subst (λ (h : Found). NoLater b h) (same_Some b g s) (no_later_itself b));
      one = inr is;
    }) (λ n.
    let is : Some a ≡ Some f = sym (ap (λ (c : Bool). if c then Some b else Some a) n) ∙ e in
    let same : a ≡ f = same_Some a f is in
    record {
      first = λ g s. subst (λ (h : Found). NoLater h g) same (subst (λ (h : Found). NoLater a h) (same_Some a g s) (no_later_itself a));
      second = λ g s. subst (λ (h : Found). NoLater h g) same (subst (λ (h : Found). NoLater a h) (same_Some b g s) (after_no_later b a n));
      one = inl is;
    }) (cases_Bool (is_before b a))

some_none : (a : Found) → ◌≡◌ {A = Option Found} (Some a) None → ⊥
some_none a e = none-some a (sym e)

earlier_none : (x y : Option Found) → earlier x y ≡ None → (x ≡ None) × (y ≡ None)
earlier_none None y e = (refl, e)
earlier_none (Some a) None e = absurd (some_none a e)
earlier_none (Some a) (Some b) e =
    ⊎_elim (λ t. absurd (some_none b (sym (ap (λ (c : Bool). if c then Some b else Some a) t) ∙ e)))
    (λ n. absurd (some_none a (sym (ap (λ (c : Bool). if c then Some b else Some a) n) ∙ e))) (cases_Bool (is_before b a))

-- lists of names

single : (s x : Site) → Contains (s ∷ []) x → s ≡ x
single s x h = ⊎_elim (λ n. absurd (omega (arith, n.1))) (λ e. e) (Contains-push_cases [] s x h)

one_of : (s : Site) (ss : List Site) (x : Site) → Contains (s ∷ ss) x → (s ≡ x) ⊎ Contains ss x
one_of s ss x h = ⊎_elim (λ k. inl (single s x k)) (λ k. inr k) (Contains-append_cases (s ∷ []) ss x h)

-- what the earliest is
pub record IsEarliest (components : List Component) (found : Option Found) (sites : List Site) (f : Found) : Type 0 where
  pub before : (a : Found) → found ≡ Some a → NoLater f a
  pub there : (site : Site) (g : Found) → Contains sites site → found_at components site ≡ Some g → NoLater f g
  pub one : (found ≡ Some f) ⊎ ((site : Site) × Contains sites site × (found_at components site ≡ Some f))

pub earliest_is : (components : List Component) (sites : List Site) (found : Option Found) (f : Found) → earliest components found sites ≡ Some f
    → IsEarliest components found sites f
earliest_is components [] found f e = record {
  before = λ a s. subst (λ (g : Found). NoLater f g) (same_Some f a (sym e ∙ s)) (no_later_itself f);
  there = λ site g h s. absurd (omega (arith, h.1));
  one = inl e;
}
earliest_is components (site ∷ sites) found f e =
    let here : Option Found = found_at components site in
    let r : IsEarliest components (earlier found here) sites f = earliest_is components sites (earlier found here) f e in
    let split : (g : Found) → earlier found here ≡ Some g → IsEarlier found here g = λ g. earlier_is found here g in
    let both : ((a : Found) → found ≡ Some a → NoLater f a) × ((b : Found) → here ≡ Some b → NoLater f b) =
    ⊎_elim (λ n. let p : (found ≡ None) × (here ≡ None) = earlier_none found here n in
    (λ a s. absurd (some_none a (sym s ∙ p.0)), λ b s. absurd (some_none b (sym s ∙ p.1))))
    (λ s. let q : IsEarlier found here s.0 = split s.0 s.1 in
    let l : NoLater f s.0 = r.before s.0 s.1 in
    (λ a t. no_later_through f s.0 a l (q.first a t), λ b t. no_later_through f s.0 b l (q.second b t)))
    (none_or_some (earlier found here)) in
    record {
      before = both.0;
      there = λ x g h s. ⊎_elim (λ k. both.1 g (ap (found_at components) k ∙ s)) (λ k. r.there x g k s) (one_of site sites x h);
      one = ⊎_elim (λ t. ⊎_elim (λ a. inl a) (λ b. inr (site, Contains-append_left (site ∷ []) sites site (Contains-push [] site), b)) (split f t).one)
          (λ k. inr (k.0, Contains-append_right (site ∷ []) sites k.0 k.1, k.2)) r.one;
    }
  where
    none_or_some : (o : Option Found) → (o ≡ None) ⊎ ((g : Found) × (o ≡ Some g))
    none_or_some None = inl refl
    none_or_some (Some g) = inr (g, refl)

pub earliest_none : (components : List Component) (sites : List Site) (found : Option Found) → earliest components found sites ≡ None
    → (found ≡ None) × ((site : Site) → Contains sites site → found_at components site ≡ None)
earliest_none components [] found e = (e, λ site h. absurd (omega (arith, h.1)))
earliest_none components (site ∷ sites) found e =
    let r : (earlier found (found_at components site) ≡ None) × ((s : Site) → Contains sites s → found_at components s ≡ None) =
    earliest_none components sites (earlier found (found_at components site)) e in
    let p : (found ≡ None) × (found_at components site ≡ None) = earlier_none found (found_at components site) r.0 in
    (p.0, λ s h. ⊎_elim (λ k. ap (found_at components) (sym k) ∙ p.1) (λ k. r.1 s k) (one_of site sites s h))

-- the first rule that is broken at a name

abbrev AtMost : Rule → Option Rule → Type 0
AtMost rule o = (r : Rule) × (o ≡ Some r) × (rank_of r ≤ rank_of rule)

here_at : (b : Bool) (r : Rule) (rest : Option Rule) → b ≡ true → AtMost r (if b then Some r else rest)
here_at b r rest e = (r, ap (λ (c : Bool). if c then Some r else rest) e, omega arith)

past_at : (b : Bool) (r : Rule) (rest : Option Rule) (rule : Rule) → rank_of r ≤ rank_of rule → AtMost rule rest → AtMost rule (if b then Some r else rest)
past_at true r rest rule l k = (r, refl, l)
past_at false r rest rule l k = k

broken_first : (components : List Component) (rule : Rule) (site : Site) → breaks components rule site ≡ true → AtMost rule (first_rule components site)
broken_first components UnknownName site h = here_at (breaks components UnknownName site) UnknownName _ h
broken_first components UnknownElement site h =
    past_at (breaks components UnknownName site) UnknownName _ UnknownElement (omega arith)
    (here_at (breaks components UnknownElement site) UnknownElement _ h)
broken_first components UnknownAttribute site h =
    past_at (breaks components UnknownName site) UnknownName _ UnknownAttribute (omega arith)
    (past_at (breaks components UnknownElement site) UnknownElement _ UnknownAttribute (omega arith)
    (here_at (breaks components UnknownAttribute site) UnknownAttribute _ h))
broken_first components TwiceDefined site h =
    past_at (breaks components UnknownName site) UnknownName _ TwiceDefined (omega arith)
    (past_at (breaks components UnknownElement site) UnknownElement _ TwiceDefined (omega arith)
    (past_at (breaks components UnknownAttribute site) UnknownAttribute _ TwiceDefined (omega arith)
    (here_at (breaks components TwiceDefined site) TwiceDefined _ h)))
broken_first components UsedBeforeDefined site h =
    past_at (breaks components UnknownName site) UnknownName _ UsedBeforeDefined (omega arith)
    (past_at (breaks components UnknownElement site) UnknownElement _ UsedBeforeDefined (omega arith)
    (past_at (breaks components UnknownAttribute site) UnknownAttribute _ UsedBeforeDefined (omega arith)
    (past_at (breaks components TwiceDefined site) TwiceDefined _ UsedBeforeDefined (omega arith)
    (here_at (breaks components UsedBeforeDefined site) UsedBeforeDefined _ h))))
broken_first components FallbackNotPlain site h =
    past_at (breaks components UnknownName site) UnknownName _ FallbackNotPlain (omega arith)
    (past_at (breaks components UnknownElement site) UnknownElement _ FallbackNotPlain (omega arith)
    (past_at (breaks components UnknownAttribute site) UnknownAttribute _ FallbackNotPlain (omega arith)
    (past_at (breaks components TwiceDefined site) TwiceDefined _ FallbackNotPlain (omega arith)
    (past_at (breaks components UsedBeforeDefined site) UsedBeforeDefined _ FallbackNotPlain (omega arith)
    (here_at (breaks components FallbackNotPlain site) FallbackNotPlain None h)))))

chosen_breaks : (P : Rule → Type 0) (b : Bool) (q : Rule) (rest : Option Rule) (r : Rule) → (if b then Some q else rest) ≡ Some r
    → (b ≡ true → P q) → (rest ≡ Some r → P r) → P r
chosen_breaks P true q rest r e here later = subst P (same_Some q r e) (here refl)
chosen_breaks P false q rest r e here later = later e

first_broken : (components : List Component) (site : Site) (r : Rule) → first_rule components site ≡ Some r → breaks components r site ≡ true
first_broken components site r e =
    let P : Rule → Type 0 = λ q. breaks components q site ≡ true in
    chosen_breaks P (breaks components UnknownName site) UnknownName _ r e (λ h. h) (λ e1.
    chosen_breaks P (breaks components UnknownElement site) UnknownElement _ r e1 (λ h. h) (λ e2.
    chosen_breaks P (breaks components UnknownAttribute site) UnknownAttribute _ r e2 (λ h. h) (λ e3.
    chosen_breaks P (breaks components TwiceDefined site) TwiceDefined _ r e3 (λ h. h) (λ e4.
    chosen_breaks P (breaks components UsedBeforeDefined site) UsedBeforeDefined _ r e4 (λ h. h) (λ e5.
    chosen_breaks P (breaks components FallbackNotPlain site) FallbackNotPlain None r e5 (λ h. h) (λ e6. absurd (none_rule r e6)))))))
  where
    none_rule : (r : Rule) → ◌≡◌ {A = Option Rule} None (Some r) → ⊥
    none_rule r e = none-some r e

found_rule : (place : ℕ) (o : Option Rule) (f : Found) → found_by place o ≡ Some f → (o ≡ Some f.rule) × (f.at ≡ place)
found_rule place None f e = absurd (none-some f e)
found_rule place (Some r) f e =
    let same : record { rule = r; at = place } ≡ f = same_Some (record { rule = r; at = place }) f e in
    (ap (λ (g : Found). Some g.rule) same, sym (ap (λ (g : Found). g.at) same))

-- where nothing is found, the rules hold
pub earliest-IsSound : (file : File) → earliest file.components None (sites_of file) ≡ None → IsSound file
earliest-IsSound file e rule place b =
    let none : found_at file.components b.site ≡ None = (earliest_none file.components (sites_of file) None e).1 b.site b.stands in
    let first : AtMost rule (first_rule file.components b.site) = broken_first file.components rule b.site b.broken in
    some_none (record { rule = first.0; at = (name_at b.site).at }) (sym (ap (found_by ((name_at b.site).at)) first.1) ∙ none)

-- and what is found first is the first broken rule
pub earliest-IsFirstBroken : (file : File) (f : Found) → earliest file.components None (sites_of file) ≡ Some f → IsFirstBroken file f.rule f.at
earliest-IsFirstBroken file f e =
    let r : IsEarliest file.components None (sites_of file) f = earliest_is file.components (sites_of file) None f e in
    let at_site : (site : Site) × Contains (sites_of file) site × (found_at file.components site ≡ Some f) =
    ⊎_elim (λ n. absurd (none-some f n)) (λ k. k) r.one in
    let rule : (first_rule file.components at_site.0 ≡ Some f.rule) × (f.at ≡ (name_at at_site.0).at) =
    found_rule ((name_at at_site.0).at) (first_rule file.components at_site.0) f at_site.2 in
    record {
      broken = record {
        site = at_site.0;
        stands = at_site.1;
        broken = first_broken file.components at_site.0 f.rule rule.0;
        place = sym rule.1;
      };
      first = λ s there b.
          let first : AtMost s (first_rule file.components b.site) = broken_first file.components s b.site b.broken in
          let g : Found = record { rule = first.0; at = (name_at b.site).at } in
          let l : NoLater f g = r.there b.site g b.stands (ap (found_by ((name_at b.site).at)) first.1) in
          no_later_through f g (record { rule = s; at = there }) l (inr (b.place, first.2));
    }
