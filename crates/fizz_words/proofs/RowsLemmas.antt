-- Where clap finds no fault in the words of a command, each row of its matches has a value, and the values pass.
use Rattle.std.proofs.Common.{◌≡◌, ◌∙◌, ◌<◌, ◌&&◌, ◌||◌, ℕ, Bool, cond, true, false, zero, suc, refl, sym, ap, subst, arith, List, [], ◌∷◌, ◌++◌, length, Option, Some, None, inl, inr, true≢false}
use Rattle.std.specs.Prelude.{⊤, ◌⊎◌, not, is_some, slice_get, encode_utf8, drop}
use Rattle.std.specs.List.{find, fold, list_all, list_any}
use Rattle.std.specs.Option.{option_map_or}
use Rattle.std.specs.Str.{bytes_eq, chars}
use Rattle.std.proofs.lemmas.Bool.{ne_eqb}
use Rattle.std.proofs.lemmas.Slice.Eq.{bytes_eq-Decides}
use Rattle.clap.specs.Facts.{explicit_source, parser_of_value, unwrap_or_range}
use Rattle.clap.specs.Faults.{action_fault, bundle_step_fault, default_fault, defaults_fault, flag_word_fault, flags_fault, given_default_fault, level_fault, long_fault, option_fault, other_fault, positional_fault, react_fault, set_fault, settle_fault, short_fault, step_fault, turn_fault, use_fault, values_fault, walk_fault, word_fault}
use Rattle.clap.specs.Kinds.{Kinds, check_kinds, or_else, range_kinds, request_kinds, value_kinds, values_kinds}
use Rattle.clap.specs.Lexer.{long_of, short_of}
use Rattle.clap.specs.Simple.{Shape}
use Rattle.clap.specs.Takes.{is_given, value_passes, values_pass}
use Rattle.clap.specs.Values.{is_request, read_as}
use Rattle.clap.specs.ValueTests.{accepts}
use Rattle.clap.specs.Walk.{Held, Names, Outcome, Row, Rule, Step, Text, Waiting, Walk, action_of, after_flag, after_step, arg_by_id, arg_by_index, arg_by_long, arg_by_short, at_row, attached_value, bundle, bundle_met, bundle_step, default_rows, done, finished, first_of, flag_met, has_row, idle, is_empty, is_pending, long_met, long_or_other, more_values, next, nothing_held, one_of, option, option_met, option_word, plain, plain_word, positional, reacted, reading_by, refused, rows_after, settled, settled_rows, short_met, short_or_plain, subcommand, subcommand_met, subcommand_or_other, takes_several, takes_values, to_positional, trailing, used, used_as, used_by_id, value, values_or_missing, waits, walk, walk_from, walked, walked_from, with_default, with_values, without, word_met}
use Rattle.clap.specs.declared.builder.action.ArgAction.{ArgAction}
use Rattle.clap.specs.declared.builder.action.ArgAction.TheVariants.{Set, Append, SetTrue, SetFalse, Count, Help, HelpShort, HelpLong, Version}
use Rattle.clap.specs.declared.builder.value_parser.ValueParser.{ValueParser}
use Rattle.clap.specs.declared.error.kind.ErrorKind.{ErrorKind}
use Rattle.clap.specs.declared.parser.matches.ValueSource.{ValueSource}
use Rattle.clap.specs.declared.parser.matches.ValueSource.TheVariants.{DefaultValue, CommandLine}
use Rattle.clap.proofs.FaultLemmas.{request_fault}
use Rattle.clap.proofs.WalkLemmas.{both}

-- ---- lists, options and tests

abbrev pub AllOf : {X : Type 0} → (X → Type 0) → List X → Type 0
AllOf P [] = ⊤
AllOf P (x ∷ xs) = P x × AllOf P xs

abbrev pub Has : {X : Type 0} → X → List X → Type 0
Has x [] = ⊥
Has x (y ∷ ys) = (x ≡ y) ⊎ Has x ys

pub cons_nil : {X : Type 0} (x : X) (xs : List X) → x ∷ xs ≡ [] → ⊥
cons_nil x xs e = cc

pub none_some : {X : Type 0} (x : X) → None ≡ Some x → ⊥
none_some x e = cc

pub some_is : {X : Type 0} (x y : X) → Some x ≡ Some y → x ≡ y
some_is x y e = cc

if_both : {X : Type 0} (P : X → Type 0) (b : Bool) (x y : X) → (b ≡ true → P x) → (b ≡ false → P y) → P (cond b x y)
if_both P true x y f g = f refl
if_both P false x y f g = g refl

all_more : {X : Type 0} (P : X → Type 0) (xs ys : List X) → AllOf P xs → AllOf P ys → AllOf P (xs ++ ys)
all_more P [] ys a b = b
all_more P (x ∷ xs) ys a b = (a.0, all_more P xs ys a.1 b)

find_step : {X : Type 0} (P : X → Type 0) (b : Bool) (y x : X) (rest : Option X) → P y → (rest ≡ Some x → P x) → cond b (Some y) rest ≡ Some x → P x
find_step P true y x rest here more e = subst P (some_is y x e) here
find_step P false y x rest here more e = more e

pub find_fits : {X : Type 0} (P : X → Type 0) (p : X → Bool) (xs : List X) (x : X) → AllOf P xs → find p xs ≡ Some x → P x
find_fits P p [] x all e = absurd (none_some x e)
find_fits P p (y ∷ ys) x all e = find_step P (p y) y x (find p ys) all.0 (λ f. find_fits P p ys x all.1 f) e

test_step : {X : Type 0} (p : X → Bool) (b : Bool) (y x : X) (rest : Option X) → p y ≡ b → (rest ≡ Some x → p x ≡ true) → cond b (Some y) rest ≡ Some x → p x ≡ true
test_step p true y x rest is more e = subst (λ z. p z ≡ true) (some_is y x e) is
test_step p false y x rest is more e = more e

find_test : {X : Type 0} (p : X → Bool) (xs : List X) (x : X) → find p xs ≡ Some x → p x ≡ true
find_test p [] x e = absurd (none_some x e)
find_test p (y ∷ ys) x e = test_step p (p y) y x (find p ys) refl (λ f. find_test p ys x f) e

any_step : {X : Type 0} (b more : Bool) (y : X) (rest : Option X) → (more ≡ true → (x : X) × (rest ≡ Some x)) → (b || more) ≡ true → (x : X) × (cond b (Some y) rest ≡ Some x)
any_step true more y rest f e = (y, refl)
any_step false more y rest f e = f e

any_find : {X : Type 0} (p : X → Bool) (xs : List X) → list_any p xs ≡ true → (x : X) × (find p xs ≡ Some x)
any_find p [] e = absurd (true≢false (sym e))
any_find p (y ∷ ys) e = any_step (p y) (list_any p ys) y (find p ys) (λ f. any_find p ys f) e

neither : (a b : Bool) → (a || b) ≡ false → (a ≡ false) × (b ≡ false)
neither true b e = absurd (true≢false e)
neither false b e = (refl, e)

any_none : {X : Type 0} (p : X → Bool) (xs : List X) (x : X) → list_any p xs ≡ false → Has x xs → p x ≡ false
any_none p [] x e has = absurd has
any_none p (y ∷ ys) x e has = elim has [
  | inl is ↦ subst (λ z. p z ≡ false) (sym is) (neither (p y) (list_any p ys) e).0
  | inr more ↦ any_none p ys x (neither (p y) (list_any p ys) e).1 more
]

pass_more : {X : Type 0} (p : X → Bool) (xs ys : List X) → list_all p xs ≡ true → list_all p ys ≡ true → list_all p (xs ++ ys) ≡ true
pass_more p [] ys a b = b
pass_more p (x ∷ xs) ys a b =
    let h = both (p x) (list_all p xs) a in
    rw h.0 (pass_more p xs ys h.1 b)

or_more : (b x y : Bool) → (b || x) ≡ true → (x ≡ true → y ≡ true) → (b || y) ≡ true
or_more true x y e f = refl
or_more false x y e f = f e

or_right : (b x : Bool) → x ≡ true → (b || x) ≡ true
or_right true x e = refl
or_right false x e = e

-- ---- faults

pub or_nil : (a b : Kinds) → or_else a b ≡ [] → (a ≡ []) × (b ≡ [])
or_nil [] b e = (refl, e)
or_nil (k ∷ ks) b e = absurd (cons_nil k ks e)

by_test : (b : Bool) (k : ErrorKind) → cond b [] (k ∷ []) ≡ [] → b ≡ true
by_test true k e = refl
by_test false k e = absurd (cons_nil k [] e)

kinds_pass : (ignore_case : Bool) (p : ValueParser) (vs : List Text) → values_kinds ignore_case p vs ≡ [] → list_all (accepts ignore_case p) vs ≡ true
kinds_pass ignore_case p [] e = refl
kinds_pass ignore_case p (v ∷ vs) e =
    let h = or_nil (value_kinds ignore_case p v) (values_kinds ignore_case p vs) e in
    rw (by_test (accepts ignore_case p v) _ h.0) (kinds_pass ignore_case p vs h.1)

values_clean : (a : Rule) (vs : List Text) → values_fault a vs ≡ [] → values_pass a vs ≡ true
values_clean a vs e = kinds_pass a.ignore_case (parser_of_value a.parser) vs e

some_values : (least most : ℕ) (vs : List Text) → least ≡ 1 → range_kinds least most (length vs) ≡ [] → 0 < length vs
some_values least most [] is e = absurd (cons_nil _ _ (rw is at e))
some_values least most (v ∷ vs) is e = omega arith

asks_kind : (x : ArgAction) → is_request x ≡ true → request_kinds x ≡ [] → ⊥
asks_kind Help e f = cons_nil _ _ f
asks_kind HelpShort e f = cons_nil _ _ f
asks_kind HelpLong e f = cons_nil _ _ f
asks_kind Version e f = cons_nil _ _ f
asks_kind Set e f = true≢false (sym e)
asks_kind Append e f = true≢false (sym e)
asks_kind SetTrue e f = true≢false (sym e)
asks_kind SetFalse e f = true≢false (sym e)
asks_kind Count e f = true≢false (sym e)

-- ---- rows

-- an argument that takes one value, or asks for a text; its id is its own
pub record Fits (c : List Rule) (a : Rule) : Type 0 where
  pub found : arg_by_id c a.id ≡ Some a
  pub kind : ((action_of a ≡ Set) × ((unwrap_or_range a.range).start_inclusive ≡ 1)) ⊎ (is_request (action_of a) ≡ true)

-- the row of an argument has values of it
abbrev pub IsGood : List Rule → Row → Type 0
IsGood c r = (a : Rule) → arg_by_id c r.id ≡ Some a → (r.reading ≡ reading_by a) × (0 < length r.values) × (values_pass a r.values ≡ true)

each_at_row : (P : Row → Type 0) (id : Text) (change : Row → List Row) (missing rows : List Row) → AllOf P rows
    → ((r : Row) → P r → bytes_eq r.id id ≡ true → AllOf P (change r)) → AllOf P missing → AllOf P (at_row id change missing rows)
each_at_row P id change missing [] all each more = more
each_at_row P id change missing (r ∷ rs) all each more =
    if_both (AllOf P) (bytes_eq r.id id) (change r ++ rs) (r ∷ at_row id change missing rs)
    (λ e. all_more P (change r) rs (each r all.0 e) all.1)
    (λ e. (all.0, each_at_row P id change missing rs all.1 each more))

grown : (c : List Rule) (a : Rule) (r : Row) (v : Text) (vs : List Text) → arg_by_id c a.id ≡ Some a → values_pass a (v ∷ vs) ≡ true
    → r.id ≡ a.id → IsGood c r → (b : Rule) → arg_by_id c r.id ≡ Some b
    → (r.reading ≡ reading_by b) × (0 < length (r.values ++ v ∷ vs)) × (values_pass b (r.values ++ v ∷ vs) ≡ true)
grown c a r v vs found pass same good b at =
    let is : a ≡ b = some_is a b (sym found ∙ ap (arg_by_id c) (sym same) ∙ at) in
    let g = good b at in
    let more : values_pass b (v ∷ vs) ≡ true = subst (λ (z : Rule). values_pass z (v ∷ vs) ≡ true) is pass in
    (g.0, longer r.values, pass_more (value_passes b) r.values (v ∷ vs) g.2 more)
  where
    longer : (xs : List Text) → 0 < length (xs ++ v ∷ vs)
    longer [] = omega arith
    longer (x ∷ xs) = omega arith

with_good : (c : List Rule) (a : Rule) (s : ValueSource) (v : Text) (vs : List Text) (rows : List Row) → arg_by_id c a.id ≡ Some a → values_pass a (v ∷ vs) ≡ true
    → AllOf (IsGood c) rows → AllOf (IsGood c) (with_values a.id (reading_by a) s (v ∷ vs) rows)
with_good c a s v vs rows found pass all =
    each_at_row (IsGood c) a.id (more_values s (v ∷ vs)) _ rows all
    (λ r good e. ((λ b at. grown c a r v vs found pass ((bytes_eq-Decides r.id a.id).0 e) good b at), tt)) (
      (λ b at.
          let is : a ≡ b = some_is a b (sym found ∙ at) in
          (ap reading_by is, omega arith, subst (λ (z : Rule). values_pass z (v ∷ vs) ≡ true) is pass)),
      tt,
    )

without_good : (c : List Rule) (id : Text) (rows : List Row) → AllOf (IsGood c) rows → AllOf (IsGood c) (without id rows)
without_good c id rows all = each_at_row (IsGood c) id (λ _. []) [] rows all (λ r good e. tt) tt

used_set : (c : List Rule) (again : Bool) (a : Rule) (values : List Text) (rows : List Row) → arg_by_id c a.id ≡ Some a → action_of a ≡ Set
    → 0 < length values → action_fault (action_of a) again a (values_or_missing a values) rows ≡ [] → AllOf (IsGood c) rows
    → AllOf (IsGood c) (used_as (action_of a) a.id (reading_by a) (values_or_missing a values) rows)
used_set c again a [] rows found set some e all = absurd (omega (arith, some))
used_set c again a (v ∷ vs) rows found set some e all =
    let clean : set_fault again a (v ∷ vs) rows ≡ [] = subst (λ (x : ArgAction). action_fault x again a (v ∷ vs) rows ≡ []) set e in
    let pass = values_clean a (v ∷ vs) (or_nil _ _ clean).1 in
    subst (λ (x : ArgAction). AllOf (IsGood c) (used_as x a.id (reading_by a) (v ∷ vs) rows)) (sym set)
    (with_good c a CommandLine v vs (without a.id rows) found pass (without_good c a.id rows all))

used_good : (c : List Rule) (again : Bool) (a : Rule) (values : List Text) (rows : List Row) → Fits c a → AllOf (IsGood c) rows
    → use_fault again a values rows ≡ [] → AllOf (IsGood c) (used a values rows)
used_good c again a values rows fits all e =
    let parts = or_nil (range_kinds (unwrap_or_range a.range).start_inclusive (unwrap_or_range a.range).end_inclusive (length values)) _ e in
    elim fits.kind [
      | inl set ↦ used_set c again a values rows fits.found set.0 (some_values _ _ values set.1 parts.0) parts.1 all
      | inr asks ↦ absurd (asks_kind (action_of a) asks (request_fault (action_of a) again a (values_or_missing a values) rows asks ∙ parts.1))
    ]

-- ---- the walk over the words of a command

module _ (s : Shape) (fits : AllOf (Fits s.rules) s.rules) where
  abbrev Good : List Row → Type 0
  Good rows = AllOf (IsGood s.rules) rows

  settle_found : (o : Option Rule) (id : Text) (values : List Text) (rows : List Row) → arg_by_id s.rules id ≡ o → Good rows
      → option_map_or (λ a. use_fault s.args_override_self a values rows) o [] ≡ [] → Good (used_by_id o values rows)
  settle_found None id values rows at all e = all
  settle_found (Some a) id values rows at all e =
      used_good s.rules s.args_override_self a values rows (find_fits (Fits s.rules) (λ b. bytes_eq b.id id) s.rules a fits at) all e

  settle_rows : (p : Option (Text × List Text)) (rows : List Row) → Good rows
      → option_map_or (λ q. option_map_or (λ a. use_fault s.args_override_self a q.1 rows) (arg_by_id s.rules q.0) []) p [] ≡ []
      → Good (settled_rows s.rules p rows)
  settle_rows None rows all e = all
  settle_rows (Some p) rows all e = settle_found (arg_by_id s.rules p.0) p.0 p.1 rows refl all e

  settle_good : (h : Held) → Good h.rows → settle_fault s.rules s.args_override_self h ≡ [] → Good (settled s.rules h).rows
  settle_good h all e = settle_rows h.pending h.rows all e

  react_good : (a : Rule) (values : List Text) (h : Held) → Fits s.rules a → Good h.rows → react_fault s.rules s.args_override_self a values h ≡ []
      → Good (reacted s.rules a values h).rows
  react_good a values h fit all e =
      let p = or_nil (settle_fault s.rules s.args_override_self h) _ e in
      used_good s.rules s.args_override_self a values (settled s.rules h).rows fit (settle_good h all p.0) p.1

  option_good : (a : Rule) (v : Option Text) (h : Held) → Fits s.rules a → Good h.rows → option_fault s.rules s.args_override_self a v h ≡ []
      → Good (option_met s.rules a v h).0.rows
  option_good a (Some v) h fit all e = react_good a (v ∷ []) h fit all e
  option_good a None h fit all e = settle_good h all e

  flag_good : (a : Rule) (v : Option Text) (h : Held) (k : ErrorKind) → Fits s.rules a → Good h.rows
      → cond (is_some v) (k ∷ []) (react_fault s.rules s.args_override_self a [] h) ≡ [] → Good (flag_met s.rules a v h).0.rows
  flag_good a (Some v) h k fit all e = all
  flag_good a None h k fit all e = react_good a [] h fit all e

  long_step : (b : Bool) (a : Rule) (v : Option Text) (h : Held) (k : ErrorKind) → Fits s.rules a → Good h.rows
      → cond b (option_fault s.rules s.args_override_self a v h) (cond (is_some v) (k ∷ []) (react_fault s.rules s.args_override_self a [] h)) ≡ []
      → Good (cond b (option_met s.rules a v h) (flag_met s.rules a v h)).0.rows
  long_step true a v h k fit all e = option_good a v h fit all e
  long_step false a v h k fit all e = flag_good a v h k fit all e

  long_good : (o : Option Rule) (v : Option Text) (h : Held) → ((a : Rule) → o ≡ Some a → Fits s.rules a) → Good h.rows
      → long_fault s.rules s.args_override_self o v h ≡ [] → Good (long_met s.rules o v h).0.rows
  long_good None v h fit all e = all
  long_good (Some a) v h fit all e = long_step (takes_values a) a v h _ (fit a refl) all e

  short_step : (b : Bool) (a : Rule) (rest : Text) (h : Held) (next_met : Held → Held × Outcome) (next_fault : Held → Kinds) → Fits s.rules a
      → ((x : Held) → Good x.rows → next_fault x ≡ [] → Good (next_met x).0.rows) → Good h.rows
      → cond b (option_fault s.rules s.args_override_self a (attached_value rest) h)
      (or_else (react_fault s.rules s.args_override_self a [] h) (next_fault (reacted s.rules a [] h))) ≡ []
      → Good (cond b (option_met s.rules a (attached_value rest) h) (next_met (reacted s.rules a [] h))).0.rows
  short_step true a rest h next_met next_fault fit each all e = option_good a (attached_value rest) h fit all e
  short_step false a rest h next_met next_fault fit each all e =
      let p = or_nil (react_fault s.rules s.args_override_self a [] h) _ e in
      each (reacted s.rules a [] h) (react_good a [] h fit all p.0) p.1

  short_good : (o : Option Rule) (rest : Text) (h : Held) (next_met : Held → Held × Outcome) (next_fault : Held → Kinds)
      → ((a : Rule) → o ≡ Some a → Fits s.rules a) → ((x : Held) → Good x.rows → next_fault x ≡ [] → Good (next_met x).0.rows) → Good h.rows
      → short_fault s.rules s.args_override_self o rest h next_fault ≡ [] → Good (short_met s.rules o rest h next_met).0.rows
  short_good None rest h next_met next_fault fit each all e = all
  short_good (Some a) rest h next_met next_fault fit each all e =
      short_step (takes_values a) a rest h next_met next_fault (fit a refl) each all e

  bundle_one : (o : Option ℕ) (flags : Text) (skip : ℕ) (so_far : Outcome) (h : Held) (next_met : Text → ℕ → Outcome → Held → Held × Outcome)
      (next_fault : Text → ℕ → Held → Kinds)
      → ((t : Text) (i : ℕ) (before : Outcome) (x : Held) → Good x.rows → next_fault t i x ≡ [] → Good (next_met t i before x).0.rows) → Good h.rows
      → bundle_step_fault s.rules s.args_override_self o flags skip h next_fault ≡ [] → Good (bundle_step s.rules o flags skip so_far h next_met).0.rows
  bundle_one None flags skip so_far h next_met next_fault each all e = all
  bundle_one (Some x) flags zero so_far h next_met next_fault each all e =
      short_good (arg_by_short s.rules x) (drop (length (encode_utf8 x)) flags) h (next_met (drop (length (encode_utf8 x)) flags) 0 done)
      (next_fault (drop (length (encode_utf8 x)) flags) 0) (λ a at. find_fits (Fits s.rules) _ s.rules a fits at)
      (λ y good f. each (drop (length (encode_utf8 x)) flags) 0 done y good f) all e
  bundle_one (Some x) flags (suc skip) so_far h next_met next_fault each all e =
      each (drop (length (encode_utf8 x)) flags) skip so_far h all e

  bundle_good : (k : ℕ) (flags : Text) (skip : ℕ) (so_far : Outcome) (h : Held) → Good h.rows → flags_fault s.rules s.args_override_self k flags skip h ≡ []
      → Good (bundle_met s.rules k flags skip so_far h).0.rows
  unfolding flags_fault bundle_met
  bundle_good zero flags skip so_far h all e = all
  bundle_good (suc k) flags skip so_far h all e =
      bundle_one (slice_get (chars flags) 0) flags skip so_far h (bundle_met s.rules k) (flags_fault s.rules s.args_override_self k)
      (λ t i before x good f. bundle_good k t i before x good f) all e

  put_good : (o : Option Rule) (id word : Text) (h : Held) → Good h.rows → Good (option_word o id word h).0.rows
  put_good None id word h all = all
  put_good (Some a) id word h all = all

  plain_good : (waiting : Waiting) (word : Text) (h : Held) → Good h.rows → Good (plain_word s.rules waiting word h).0.rows
  plain_good (option id) word h all = put_good (arg_by_id s.rules id) id word h all
  plain_good idle word h all = all
  plain_good positional word h all = all

  after_good : (waiting : Waiting) (word : Text) (h : Held) (o : Outcome) → Good h.rows → Good (after_flag s.rules waiting word h o).0.rows
  after_good waiting word h done all = all
  after_good waiting word h (waits id) all = all
  after_good waiting word h plain all = plain_good waiting word h all
  after_good waiting word h refused all = plain_good waiting word h all

  short_word_good : (o : Option Text) (waiting : Waiting) (word : Text) (h : Held) → Good h.rows
      → option_map_or (λ flags. flags_fault s.rules s.args_override_self (length flags) flags h.skip (record h { skip = 0 })) o [] ≡ []
      → Good (short_or_plain s.rules waiting word o h).0.rows
  short_word_good None waiting word h all e = plain_good waiting word h all
  short_word_good (Some flags) waiting word h all e =
      after_good waiting word (bundle s.rules flags h).0 (bundle s.rules flags h).1
      (bundle_good (length flags) flags h.skip plain (record h { skip = 0 }) all e)

  flag_word_good : (o : Option (Text × Option Text)) (waiting : Waiting) (word : Text) (h : Held) → Good h.rows
      → flag_word_fault s.rules s.args_override_self o word h ≡ [] → Good (long_or_other s.rules waiting word o h).0.rows
  flag_word_good None waiting word h all e = short_word_good (short_of word) waiting word h all e
  flag_word_good (Some p) waiting word h all e =
      after_good waiting word (long_met s.rules (arg_by_long s.rules p.0) p.1 h).0 (long_met s.rules (arg_by_long s.rules p.0) p.1 h).1
      (long_good (arg_by_long s.rules p.0) p.1 h (λ a at. find_fits (Fits s.rules) _ s.rules a fits at) all e)

  dashes_good : (b : Bool) (waiting : Waiting) (position : ℕ) (word : Text) (h : Held) → Good h.rows
      → cond b [] (flag_word_fault s.rules s.args_override_self (long_of word) word h) ≡ []
      → Good (cond b (h, trailing position) (long_or_other s.rules waiting word (long_of word) h)).0.rows
  dashes_good true waiting position word h all e = all
  dashes_good false waiting position word h all e = flag_word_good (long_of word) waiting word h all e

  other_good : (o : Option Text) (waiting : Waiting) (position : ℕ) (word : Text) (h : Held) → Good h.rows → other_fault s o word h ≡ []
      → Good (subcommand_or_other s.rules o waiting position word h).0.rows
  other_good (Some name) waiting position word h all e = all
  other_good None waiting position word h all e = dashes_good (bytes_eq word (45 ∷ 45 ∷ [])) waiting position word h all e

  word_good : (b : Bool) (names : Names) (waiting : Waiting) (position : ℕ) (word : Text) (h : Held) → Good h.rows
      → word_fault s names b waiting word h ≡ [] → Good (word_met s.rules names b waiting position word h).0.rows
  word_good true names waiting position word h all e = all
  word_good false names waiting position word h all e = other_good (subcommand_met names waiting word) waiting position word h all e

  place_good : (b : Bool) (h : Held) → Good h.rows → cond b [] (settle_fault s.rules s.args_override_self h) ≡ []
      → Good (cond b h (settled s.rules h)).rows
  place_good true h all e = all
  place_good false h all e = settle_good h all e

  positional_good : (o : Option Rule) (word : Text) (w : Walk) (h : Held) (stray : Kinds) → Good h.rows
      → option_map_or (λ a. positional_fault s.rules s.args_override_self a h) o stray ≡ [] → Good (to_positional s.rules o word w h).held.rows
  positional_good None word w h stray all e = all
  positional_good (Some a) word w h stray all e = place_good (is_pending a h.pending && takes_several a) h all e

  step_good : (step : Step) (word : Text) (w : Walk) (h : Held) → Good h.rows → step_fault s w.position h step ≡ []
      → Good (after_step s.rules word w h step).held.rows
  step_good (next waiting) word w h all e = all
  step_good (trailing position) word w h all e = all
  step_good (subcommand name) word w h all e = all
  step_good value word w h all e = positional_good (arg_by_index s.rules w.position) word w h _ all e

  turn_from : (stopped : Option (Text × List Text)) (names : Names) (w : Walk) (word : Text) → Good w.held.rows
      → cond (is_some stopped) [] (or_else (word_fault s names w.is_trailing w.waiting word w.held)
      (step_fault s w.position (word_met s.rules names w.is_trailing w.waiting w.position word w.held).0
      (word_met s.rules names w.is_trailing w.waiting w.position word w.held).1)) ≡ []
      → Good (walked_from s.rules names stopped w word).held.rows
  turn_from (Some p) names w word all e = all
  turn_from None names w word all e =
      let p = or_nil (word_fault s names w.is_trailing w.waiting word w.held) _ e in
      step_good (word_met s.rules names w.is_trailing w.waiting w.position word w.held).1 word w
      (word_met s.rules names w.is_trailing w.waiting w.position word w.held).0
      (word_good w.is_trailing names w.waiting w.position word w.held all p.0) p.1

  turn_good : (names : Names) (w : Walk) (word : Text) → Good w.held.rows → turn_fault s names w word ≡ [] → Good (walked s.rules names w word).held.rows
  unfolding walked
  turn_good names w word all e = turn_from w.stopped names w word all e

  walk_good : (names : Names) (w : Walk) (words : List Text) → Good w.held.rows → walk_fault s names w words ≡ []
      → Good (fold (walked s.rules names) w words).held.rows
  unfolding walk_fault
  walk_good names w [] all e = all
  walk_good names w (word ∷ rest) all e =
      let p = or_nil (turn_fault s names w word) _ e in
      walk_good names (walked s.rules names w word) rest (turn_good names w word all p.0) p.1

  -- ---- defaults

  default_rows_good : (b : Bool) (ds : List Text) (a : Rule) (rows : List Row) → Fits s.rules a → Good rows
      → cond (b || is_empty ds) [] (given_default_fault a ds) ≡ [] → Good (cond b rows (default_rows a.id (reading_by a) ds rows))
  default_rows_good true ds a rows fit all e = all
  default_rows_good false [] a rows fit all e = all
  default_rows_good false (v ∷ vs) a rows fit all e =
      let some : is_empty (v ∷ vs) ≡ false = ne_eqb (length (v ∷ vs)) 0 (λ none. omega (arith, none)) in
      let clean : given_default_fault a (v ∷ vs) ≡ [] = subst (λ (b : Bool). cond b [] (given_default_fault a (v ∷ vs)) ≡ []) some e in
      let p = or_nil (request_kinds (action_of a)) _ clean in
      with_good s.rules a DefaultValue v vs rows fit.found (values_clean a (v ∷ vs) p.1) all

  defaults_good : (xs : List Rule) (rows : List Row) → AllOf (Fits s.rules) xs → Good rows → defaults_fault rows xs ≡ [] → Good (fold with_default rows xs)
  unfolding defaults_fault
  defaults_good [] rows each all e = all
  defaults_good (a ∷ xs) rows each all e =
      let p = or_nil (default_fault rows a) _ e in
      defaults_good xs (with_default rows a) each.1 (default_rows_good (has_row a.id rows) a.defaults a rows each.0 all p.0) p.1

-- ---- which rows there are

keeps : (id other : Text) (how : _) (source : ValueSource) (vs : List Text) (rows : List Row) → has_row id rows ≡ true
    → has_row id (with_values other how source vs rows) ≡ true
keeps id other how source vs [] e = absurd (true≢false (sym e))
keeps id other how source vs (r ∷ rs) e =
    if_both (λ xs. has_row id xs ≡ true) (bytes_eq r.id other) _ _ (λ _. e)
    (λ _. or_more (bytes_eq r.id id) (has_row id rs) _ e (λ f. keeps id other how source vs rs f))

gets : (id : Text) (how : _) (source : ValueSource) (vs : List Text) (rows : List Row) → has_row id (with_values id how source vs rows) ≡ true
gets id how source vs [] =
    let same : bytes_eq id id ≡ true = (bytes_eq-Decides id id).1 refl in
    rw same refl
gets id how source vs (r ∷ rs) =
    if_both (λ xs. has_row id xs ≡ true) (bytes_eq r.id id) _ _ (λ e. rw e refl)
    (λ _. or_right (bytes_eq r.id id) _ (gets id how source vs rs))

default_has : (a : Rule) (rows : List Row) → 0 < length a.defaults → has_row a.id (with_default rows a) ≡ true
default_has a rows some = go (has_row a.id rows) refl a.defaults some
  where
    go : (b : Bool) → has_row a.id rows ≡ b → (ds : List Text) → 0 < length ds
        → has_row a.id (cond b rows (default_rows a.id (reading_by a) ds rows)) ≡ true
    go true e ds lt = e
    go false e [] lt = absurd (omega (arith, lt))
    go false e (v ∷ vs) lt = gets a.id (reading_by a) DefaultValue (v ∷ vs) rows

default_keeps : (id : Text) (a : Rule) (rows : List Row) → has_row id rows ≡ true → has_row id (with_default rows a) ≡ true
default_keeps id a rows e = go (has_row a.id rows) a.defaults
  where
    go : (b : Bool) (ds : List Text) → has_row id (cond b rows (default_rows a.id (reading_by a) ds rows)) ≡ true
    go true ds = e
    go false [] = e
    go false (v ∷ vs) = keeps id a.id (reading_by a) DefaultValue (v ∷ vs) rows e

defaults_keep : (id : Text) (xs : List Rule) (rows : List Row) → has_row id rows ≡ true → has_row id (fold with_default rows xs) ≡ true
defaults_keep id [] rows e = e
defaults_keep id (a ∷ xs) rows e = defaults_keep id xs (with_default rows a) (default_keeps id a rows e)

defaults_have : (a : Rule) (xs : List Rule) (rows : List Row) → Has a xs → 0 < length a.defaults → has_row a.id (fold with_default rows xs) ≡ true
defaults_have a [] rows has some = absurd has
defaults_have a (x ∷ xs) rows has some = elim has [
  | inl is ↦ defaults_keep a.id xs (with_default rows x)
      (subst (λ (z : Rule). has_row a.id (with_default rows z) ≡ true) is (default_has a rows some))
  | inr more ↦ defaults_have a xs (with_default rows x) more some
]

given_row : (id : Text) (rows : List Row) → is_given id rows ≡ true → (r : Row) × (find (λ r. bytes_eq r.id id) rows ≡ Some r)
given_row id rows e = go (find (λ r. bytes_eq r.id id) rows) refl e
  where
    go : (o : Option Row) → find (λ r. bytes_eq r.id id) rows ≡ o → option_map_or (λ r. explicit_source r.source) o false ≡ true
        → (r : Row) × (find (λ r. bytes_eq r.id id) rows ≡ Some r)
    go None is f = absurd (true≢false (sym f))
    go (Some r) is f = (r, is)

pub no_check : (help wanted missing : Bool) → check_kinds help wanted missing ≡ [] → (wanted ≡ false) × (missing ≡ false)
no_check true wanted missing e = absurd (cons_nil _ _ e)
no_check false true missing e = absurd (cons_nil _ _ e)
no_check false false true e = absurd (cons_nil _ _ e)
no_check false false false e = (refl, refl)

was_given : (required given : Bool) → required ≡ true → (required && not given) ≡ false → given ≡ true
was_given true true r e = refl
was_given true false r e = absurd (true≢false e)
was_given false given r e = absurd (true≢false (sym r))

-- ---- the matches of a command with no subcommand

pub record IsRead (rules : List Rule) (rows : List Row) (a : Rule) : Type 0 where
  pub text : Text
  pub first : first_of a.id rows ≡ Some text
  pub one : one_of a.id rows ≡ Some (read_as (reading_by a) text)
  pub passes : value_passes a text ≡ true

read_from : (c : List Rule) (rows : List Row) (a : Rule) (r : Row) → AllOf (IsGood c) rows → arg_by_id c a.id ≡ Some a
    → find (λ r. bytes_eq r.id a.id) rows ≡ Some r → IsRead c rows a
read_from c rows a r all found at = go r.values refl good.1 good.2
  where
    same : r.id ≡ a.id
    same = (bytes_eq-Decides r.id a.id).0 (find_test (λ r. bytes_eq r.id a.id) rows r at)

    good : (r.reading ≡ reading_by a) × (0 < length r.values) × (values_pass a r.values ≡ true)
    good = find_fits (IsGood c) (λ r. bytes_eq r.id a.id) rows r all at a (ap (arg_by_id c) same ∙ found)

    go : (vs : List Text) → r.values ≡ vs → 0 < length r.values → values_pass a r.values ≡ true → IsRead c rows a
    go [] is lt pass =
        let none : 0 < 0 = rw is at lt in
        absurd (omega arith)
    go (v ∷ vs) is lt pass = record {
      text = v;
      first = rw (at, is) refl;
      one = rw (at, is, good.0) refl;
      passes = (both (value_passes a v) (values_pass a vs) (rw is at pass)).0;
    }

-- each argument that is required or has a default has a value that passes
pub reads : (s : Shape) (words : List Text) (a : Rule) → AllOf (Fits s.rules) s.rules → s.subcommand_negates_reqs ≡ false
    → level_fault s [] nothing_held words false [] ≡ [] → Has a s.rules → arg_by_id s.rules a.id ≡ Some a
    → (a.required ≡ true) ⊎ (0 < length a.defaults) → IsRead s.rules (rows_after s.rules [] words) a
reads s words a fits negates e has found there =
    let end = (walk s.rules [] nothing_held words).held in
    let p = or_nil (walk_fault s [] (walk_from nothing_held) words) _ e in
    let q = or_nil (settle_fault s.rules s.args_override_self end) _ p.1 in
    let d = or_nil (defaults_fault (settled s.rules end).rows s.rules) _ q.1 in
    let walked_well = walk_good s fits [] (walk_from nothing_held) words tt p.0 in
    let all = defaults_good s fits s.rules (settled s.rules end).rows fits (settle_good s fits end walked_well q.0) d.0 in
    let row : (r : Row) × (find (λ r. bytes_eq r.id a.id) (finished s.rules end) ≡ Some r) = elim there [
      | inl required ↦ given_row a.id (finished s.rules end) (was_given a.required _ required
          (any_none (λ b. b.required && not (is_given b.id (finished s.rules end))) s.rules a (rw negates at (no_check _ _ _ d.1).1) has))
      | inr some ↦ any_find (λ r. bytes_eq r.id a.id) (finished s.rules end) (defaults_have a s.rules (settled s.rules end).rows has some)
    ] in
    read_from s.rules (finished s.rules end) a row.0 all found row.1
