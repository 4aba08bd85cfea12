-- The faults of words are all mistakes, or all calls for help or for the version.
use Rattle.std.proofs.Common.{◌≡◌, ◌∙◌, ℕ, Bool, cond, true, false, zero, suc, refl, sym, List, [], ◌∷◌, length, Option, Some, None, inl, inr, true≢false}
use Rattle.std.specs.Prelude.{◌⊎◌, ◌&&◌, ◌==◌, nat_lt, not, is_some, slice_get, encode_utf8, drop, codes}
use Rattle.std.specs.List.{find, list_any}
use Rattle.std.specs.Option.{option_map_or}
use Rattle.std.specs.Str.{bytes_eq, chars}
use Rattle.clap.specs.Facts.{parser_of_value, unwrap_or_range}
use Rattle.clap.specs.Faults.{action_fault, bundle_fault, bundle_step_fault, check_fault, count_fault, default_fault, defaults_fault, entered_fault, flag_word_fault, flags_fault, level_fault, long_fault, option_fault, other_fault, positional_fault, react_fault, repeat_fault, settle_fault, short_fault, step_fault, stray_fault, turn_fault, use_fault, values_fault, walk_fault, word_fault}
use Rattle.clap.specs.Kinds.{Kinds, or_else, range_kinds, request_kinds, value_kinds, values_kinds}
use Rattle.clap.specs.Lexer.{long_of, short_of}
use Rattle.clap.specs.Simple.{Shape, built, entered, label_of, names_of}
use Rattle.clap.specs.Walk.{Held, Names, Row, Rule, Step, Text, Waiting, Walk, action_of, answers_to, arg_by_id, arg_by_index, arg_by_long, arg_by_short, finished, is_pending, next, nothing_held, settled, subcommand, subcommand_met, takes_several, takes_values, trailing, value, values_or_missing, walk, walk_from, walked, with_default, word_met}
use Rattle.clap.specs.declared.builder.action.ArgAction.{ArgAction}
use Rattle.clap.specs.declared.builder.action.ArgAction.TheVariants.{Set, Append, SetTrue, SetFalse, Count, Help, HelpShort, HelpLong, Version}
use Rattle.clap.specs.declared.builder.value_parser.ValueParser.{ValueParser}
use Rattle.clap.specs.declared.error.kind.ErrorKind.{ErrorKind}
use Rattle.clap.specs.declared.error.kind.ErrorKind.TheVariants as kind
use Rattle.fizz_words.proofs.RowsLemmas.{AllOf, find_fits}
use Rattle.fizz_words.specs.Grammar.{fizz}
use Rattle.fizz_words.specs.Meaning.{asks, errs, faults_of, is_asked, is_mistake}

record Pure (kinds : Kinds) : Type 0 where
  side : (list_any is_asked kinds ≡ false) ⊎ (list_any is_mistake kinds ≡ false)

nil : Pure []
nil = record { side = inl refl }

one : (k : ErrorKind) → Pure (k ∷ [])
one kind.InvalidValue = record { side = inl refl }
one kind.UnknownArgument = record { side = inl refl }
one kind.InvalidSubcommand = record { side = inl refl }
one kind.NoEquals = record { side = inl refl }
one kind.ValueValidation = record { side = inl refl }
one kind.TooManyValues = record { side = inl refl }
one kind.TooFewValues = record { side = inl refl }
one kind.WrongNumberOfValues = record { side = inl refl }
one kind.ArgumentConflict = record { side = inl refl }
one kind.MissingRequiredArgument = record { side = inl refl }
one kind.MissingSubcommand = record { side = inl refl }
one kind.DisplayHelp = record { side = inr refl }
one kind.DisplayHelpOnMissingArgumentOrSubcommand = record { side = inl refl }
one kind.DisplayVersion = record { side = inr refl }
one kind.Io = record { side = inl refl }
one kind.Format = record { side = inl refl }
one kind.OutOfMemory = record { side = inl refl }

first : (a b : Kinds) → Pure a → Pure b → Pure (or_else a b)
first [] b x y = y
first (k ∷ ks) b x y = x

either : (b : Bool) (x y : Kinds) → Pure x → Pure y → Pure (cond b x y)
either true x y f g = f
either false x y f g = g

mapped : {X : Type 0} (f : X → Kinds) (o : Option X) (d : Kinds) → ((x : X) → Pure (f x)) → Pure d → Pure (option_map_or f o d)
mapped f None d each none = none
mapped f (Some x) d each none = each x

-- ---- one use of an argument

of_value : (ignore_case : Bool) (p : ValueParser) (v : Text) → Pure (value_kinds ignore_case p v)
of_value ignore_case p v = either _ [] _ nil (one _)

of_values : (ignore_case : Bool) (p : ValueParser) (vs : List Text) → Pure (values_kinds ignore_case p vs)
of_values ignore_case p [] = nil
of_values ignore_case p (v ∷ vs) = first (value_kinds ignore_case p v) (values_kinds ignore_case p vs) (of_value ignore_case p v) (of_values ignore_case p vs)

of_range : (least most n : ℕ) → Pure (range_kinds least most n)
of_range least most n =
    either (nat_lt 0 least && n == 0) _ _ (one kind.InvalidValue) (either (least == most) _ _ (either (least == n) _ _ nil (one kind.WrongNumberOfValues))
    (either (nat_lt n least) _ _ (one kind.TooFewValues) (either (nat_lt most n) _ _ (one kind.TooManyValues) nil)))

of_request : (x : ArgAction) → Pure (request_kinds x)
of_request Help = one kind.DisplayHelp
of_request HelpShort = one kind.DisplayHelp
of_request HelpLong = one kind.DisplayHelp
of_request Version = one kind.DisplayVersion
of_request Set = nil
of_request Append = nil
of_request SetTrue = nil
of_request SetFalse = nil
of_request Count = nil

of_count : (a : Rule) (values : List Text) (rows : List Row) → Pure (count_fault a values rows)
of_count a [] rows = of_value a.ignore_case (parser_of_value a.parser) _
of_count a (v ∷ vs) rows = of_values a.ignore_case (parser_of_value a.parser) (v ∷ vs)

of_set : (again : Bool) (a : Rule) (values : List Text) (rows : List Row) → Pure (or_else (repeat_fault again a.id rows) (values_fault a values))
of_set again a values rows =
    first (repeat_fault again a.id rows) (values_fault a values) (either _ _ _ (one kind.ArgumentConflict) nil)
    (of_values a.ignore_case (parser_of_value a.parser) values)

of_action : (x : ArgAction) (again : Bool) (a : Rule) (values : List Text) (rows : List Row) → Pure (action_fault x again a values rows)
of_action Set again a values rows = of_set again a values rows
of_action SetTrue again a values rows = of_set again a values rows
of_action SetFalse again a values rows = of_set again a values rows
of_action Append again a values rows = of_values a.ignore_case (parser_of_value a.parser) values
of_action Count again a values rows = of_count a values rows
of_action Help again a values rows = of_request Help
of_action HelpShort again a values rows = of_request HelpShort
of_action HelpLong again a values rows = of_request HelpLong
of_action Version again a values rows = of_request Version

of_use : (again : Bool) (a : Rule) (values : List Text) (rows : List Row) → Pure (use_fault again a values rows)
of_use again a values rows =
    first (range_kinds (unwrap_or_range a.range).start_inclusive (unwrap_or_range a.range).end_inclusive (length values)) _
    (of_range (unwrap_or_range a.range).start_inclusive (unwrap_or_range a.range).end_inclusive (length values))
    (of_action (action_of a) again a (values_or_missing a values) rows)

-- ---- the walk over the words of a command with no `help`

module _ (s : Shape) (plain_help : s.disable_help_subcommand ≡ true) where
  of_settle : (h : Held) → Pure (settle_fault s.rules s.args_override_self h)
  of_settle h =
      mapped _ h.pending [] (λ p. mapped _ (arg_by_id s.rules p.0) [] (λ a. of_use s.args_override_self a p.1 h.rows) nil) nil

  of_react : (a : Rule) (values : List Text) (h : Held) → Pure (react_fault s.rules s.args_override_self a values h)
  of_react a values h =
      first (settle_fault s.rules s.args_override_self h) _ (of_settle h) (of_use s.args_override_self a values (settled s.rules h).rows)

  of_option : (a : Rule) (v : Option Text) (h : Held) → Pure (option_fault s.rules s.args_override_self a v h)
  of_option a (Some v) h = of_react a (v ∷ []) h
  of_option a None h = of_settle h

  of_long : (o : Option Rule) (v : Option Text) (h : Held) → Pure (long_fault s.rules s.args_override_self o v h)
  of_long None v h = one kind.UnknownArgument
  of_long (Some a) v h = either (takes_values a) _ _ (of_option a v h) (either (is_some v) _ _ (one kind.TooManyValues) (of_react a [] h))

  of_short : (o : Option Rule) (rest : Text) (h : Held) (next_fault : Held → Kinds) → ((x : Held) → Pure (next_fault x))
      → Pure (short_fault s.rules s.args_override_self o rest h next_fault)
  of_short None rest h next_fault each = one kind.UnknownArgument
  of_short (Some a) rest h next_fault each =
      either (takes_values a) _ _ (of_option a _ h) (first (react_fault s.rules s.args_override_self a [] h) _ (of_react a [] h) (each _))

  of_bundle_step : (o : Option ℕ) (flags : Text) (skip : ℕ) (h : Held) (next_fault : Text → ℕ → Held → Kinds)
      → ((t : Text) (i : ℕ) (x : Held) → Pure (next_fault t i x)) → Pure (bundle_step_fault s.rules s.args_override_self o flags skip h next_fault)
  of_bundle_step None flags skip h next_fault each = nil
  of_bundle_step (Some x) flags zero h next_fault each =
      of_short (arg_by_short s.rules x) (drop (length (encode_utf8 x)) flags) h (next_fault (drop (length (encode_utf8 x)) flags) 0)
      (λ y. each (drop (length (encode_utf8 x)) flags) 0 y)
  of_bundle_step (Some x) flags (suc skip) h next_fault each = each _ skip h

  of_flags : (k : ℕ) (flags : Text) (skip : ℕ) (h : Held) → Pure (flags_fault s.rules s.args_override_self k flags skip h)
  unfolding flags_fault
  of_flags zero flags skip h = nil
  of_flags (suc k) flags skip h =
      of_bundle_step (slice_get (chars flags) 0) flags skip h (flags_fault s.rules s.args_override_self k) (λ t i x. of_flags k t i x)

  of_flag_word : (o : Option (Text × Option Text)) (word : Text) (h : Held) → Pure (flag_word_fault s.rules s.args_override_self o word h)
  of_flag_word (Some p) word h = of_long (arg_by_long s.rules p.0) p.1 h
  of_flag_word None word h =
      mapped (λ flags. bundle_fault s.rules s.args_override_self flags h) (short_of word) []
      (λ flags. of_flags (length flags) flags h.skip (record h { skip = 0 })) nil

  no_help : (b d : Bool) (k j : ErrorKind) → d ≡ true → Pure (cond (b && not d) (k ∷ j ∷ []) [])
  no_help true true k j e = nil
  no_help true false k j e = absurd (true≢false (sym e))
  no_help false d k j e = nil

  of_other : (o : Option Text) (word : Text) (h : Held) → Pure (other_fault s o word h)
  of_other (Some name) word h = no_help (bytes_eq name (codes "help")) s.disable_help_subcommand kind.DisplayHelp kind.InvalidSubcommand plain_help
  of_other None word h = either (bytes_eq word (45 ∷ 45 ∷ [])) _ _ nil (of_flag_word (long_of word) word h)

  of_word : (names : Names) (b : Bool) (waiting : Waiting) (word : Text) (h : Held) → Pure (word_fault s names b waiting word h)
  of_word names b waiting word h = either b _ _ nil (of_other (subcommand_met names waiting word) word h)

  of_stray : Pure (stray_fault s)
  of_stray = either s.is_leaf _ _ (one kind.UnknownArgument) (record { side = inl refl })

  of_step : (position : ℕ) (h : Held) (step : Step) → Pure (step_fault s position h step)
  of_step position h value =
      mapped (λ a. positional_fault s.rules s.args_override_self a h) (arg_by_index s.rules position) (stray_fault s)
      (λ a. either (is_pending a h.pending && takes_several a) _ _ nil (of_settle h)) of_stray
  of_step position h (next waiting) = nil
  of_step position h (trailing after) = nil
  of_step position h (subcommand name) = nil

  of_turn : (names : Names) (w : Walk) (word : Text) → Pure (turn_fault s names w word)
  of_turn names w word =
      let met = word_met s.rules names w.is_trailing w.waiting w.position word w.held in
      either (is_some w.stopped) [] _ nil (first (word_fault s names w.is_trailing w.waiting word w.held) (step_fault s w.position met.0 met.1)
      (of_word names w.is_trailing w.waiting word w.held) (of_step w.position met.0 met.1))

  of_walk : (names : Names) (w : Walk) (words : List Text) → Pure (walk_fault s names w words)
  unfolding walk_fault
  of_walk names w [] = nil
  of_walk names w (word ∷ rest) =
      first (turn_fault s names w word) _ (of_turn names w word) (of_walk names (walked s.rules names w word) rest)

  of_default : (rows : List Row) (a : Rule) → Pure (default_fault rows a)
  of_default rows a =
      either _ [] _ nil (first (request_kinds (action_of a)) (values_fault a a.defaults) (of_request (action_of a))
      (of_values a.ignore_case (parser_of_value a.parser) a.defaults))

  of_defaults : (xs : List Rule) (rows : List Row) → Pure (defaults_fault rows xs)
  unfolding defaults_fault
  of_defaults [] rows = nil
  of_defaults (a ∷ xs) rows = first (default_fault rows a) _ (of_default rows a) (of_defaults xs (with_default rows a))

  of_checks : (rows : List Row) (has : Bool) → Pure (check_fault s rows has)
  of_checks rows has =
      either _ _ _ (one kind.DisplayHelpOnMissingArgumentOrSubcommand)
      (either _ _ _ (one kind.MissingSubcommand) (either _ _ _ (one kind.MissingRequiredArgument) nil))

  of_level : (names : Names) (words : List Text) (has : Bool) (below : Kinds) → Pure below
      → Pure (level_fault s names nothing_held words has below)
  of_level names words has below pure =
      let end = (walk s.rules names nothing_held words).held in
      first (walk_fault s names (walk_from nothing_held) words) _ (of_walk names (walk_from nothing_held) words)
      (first below _ pure (first (settle_fault s.rules s.args_override_self end) _ (of_settle end)
      (first (defaults_fault (settled s.rules end).rows s.rules) (check_fault s (finished s.rules end) has)
      (of_defaults s.rules (settled s.rules end).rows) (of_checks (finished s.rules end) has))))

-- ---- the command line

of_entered : (stop : Option (Text × List Text)) → Pure (entered_fault (built fizz) stop)
of_entered None = nil
of_entered (Some p) = go (find (λ s. answers_to p.0 (label_of s)) (built fizz).subs) refl
  where
    each : AllOf (λ (s : Shape). s.disable_help_subcommand ≡ true) (built fizz).subs
    each = (refl, (refl, (refl, (refl, tt))))

    go : (o : Option Shape) → find (λ s. answers_to p.0 (label_of s)) (built fizz).subs ≡ o
        → Pure (option_map_or (λ s. level_fault s [] nothing_held p.1 false []) o [])
    go None at = nil
    go (Some s) at =
        of_level s (find_fits (λ (x : Shape). x.disable_help_subcommand ≡ true) (λ x. answers_to p.0 (label_of x)) (built fizz).subs s each at) [] p.1 false [] nil

apart : (kinds : Kinds) → Pure kinds → list_any is_asked kinds ≡ true → list_any is_mistake kinds ≡ false
apart kinds pure asked = elim pure.side [
  | inl none ↦ absurd (true≢false (sym asked ∙ none))
  | inr none ↦ none
]

pub asks_or_errs : (words : List Text) → asks words ≡ true → errs words ≡ false
asks_or_errs words =
    let stop = (walk (built fizz).top.rules (names_of (built fizz)) nothing_held words).stopped in
    apart (faults_of words) (of_level (built fizz).top refl (names_of (built fizz)) words (is_some (entered (built fizz) stop))
    (entered_fault (built fizz) stop) (of_entered stop))
