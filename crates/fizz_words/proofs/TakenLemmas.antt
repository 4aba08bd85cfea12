-- Words with no fault mean a command whose numbers are in their ranges.
use Rattle.std.proofs.Common.{◌≡◌, ◌<◌, ◌≤◌, ℕ, Bool, true, false, refl, sym, subst, arith, List, [], ◌∷◌, length, Option, Some, None, inl, inr, true≢false}
use Rattle.std.specs.Prelude.{◌&&◌, ◌⊎◌, not, is_some, option_and_then, pos}
use Rattle.std.specs.List.{find, list_any}
use Rattle.clap.specs.Facts.{explicit_source}
use Rattle.clap.specs.Takes.{is_given}
use Rattle.std.specs.Option.{option_map, option_map_or}
use Rattle.std.specs.Str.Parse.{digits_value, without_leading_plus}
use Rattle.clap.specs.Faults.{check_fault, defaults_fault, entered_fault, level_fault, settle_fault, walk_fault}
use Rattle.clap.specs.Kinds.{Kinds}
use Rattle.clap.specs.Lexer.{without_minus}
use Rattle.clap.specs.Simple.{Shape, built, built_leaf, entered, inherited, label_of, marked_built, names_of, rows_at, with_leaf_noted}
use Rattle.clap.specs.ValueTests.{accepts}
use Rattle.clap.specs.Walk.{Row, Rule, Text, answers_to, finished, nothing_held, one_of, rows_after, settled, walk, walk_from}
use Rattle.clap.specs.declared.builder.value_parser.ValueParser.TheVariants.{Signed}
use Rattle.clap.proofs.ValueTestLemmas.{accepts-Accepts}
use Rattle.fizz_words.proofs.NumberLemmas.{in_range}
use Rattle.fizz_words.proofs.RowsLemmas.{AllOf, Fits, IsRead, cons_nil, find_fits, no_check, none_some, or_nil, reads}
use Rattle.fizz_words.specs.Commands.{IsInRange, IsTaken}
use Rattle.fizz_words.specs.Grammar.{fizz, gen_shape, render_shape, show_shape, tree_shape}
use Rattle.fizz_words.specs.Meaning.{command_in, command_of, faults_of, number_of, unless_faulty}
use Rattle.fizz_words.specs.declared.command.Command.{Command}

-- the commands as clap builds them
abbrev above : Shape
above = with_leaf_noted (marked_built fizz.top)

abbrev render_built : Shape
render_built = built_leaf (inherited above render_shape)

abbrev show_built : Shape
show_built = built_leaf (inherited above show_shape)

abbrev tree_built : Shape
tree_built = built_leaf (inherited above tree_shape)

abbrev gen_built : Shape
gen_built = built_leaf (inherited above gen_shape)

render_fits : AllOf (Fits render_built.rules) render_built.rules
render_fits = (
  record { found = refl; kind = inl (refl, refl) },
  (
    record { found = refl; kind = inl (refl, refl) },
    (
      record { found = refl; kind = inl (refl, refl) },
      (
        record { found = refl; kind = inl (refl, refl) },
        (
          record { found = refl; kind = inl (refl, refl) },
          (
            record { found = refl; kind = inl (refl, refl) },
            (record { found = refl; kind = inr refl }, (record { found = refl; kind = inr refl }, tt)),
          ),
        ),
      ),
    ),
  ),
)

show_fits : AllOf (Fits show_built.rules) show_built.rules
show_fits = (
  record { found = refl; kind = inl (refl, refl) },
  (
    record { found = refl; kind = inl (refl, refl) },
    (record { found = refl; kind = inr refl }, (record { found = refl; kind = inr refl }, tt)),
  ),
)

tree_fits : AllOf (Fits tree_built.rules) tree_built.rules
tree_fits = (
  record { found = refl; kind = inl (refl, refl) },
  (
    record { found = refl; kind = inl (refl, refl) },
    (
      record { found = refl; kind = inl (refl, refl) },
      (record { found = refl; kind = inr refl }, (record { found = refl; kind = inr refl }, tt)),
    ),
  ),
)

gen_fits : AllOf (Fits gen_built.rules) gen_built.rules
gen_fits = (
  record { found = refl; kind = inl (refl, refl) },
  (
    record { found = refl; kind = inl (refl, refl) },
    (
      record { found = refl; kind = inl (refl, refl) },
      (record { found = refl; kind = inr refl }, (record { found = refl; kind = inr refl }, tt)),
    ),
  ),
)

-- a number that was read, in a range without negative numbers
number_in : (c : List Rule) (rows : List Row) (a : Rule) (low high : ℕ) → a.parser ≡ Some (Signed (pos low) (pos high)) → IsRead c rows a
    → (n : ℕ) × (number_of a.id rows ≡ Some n) × (low ≤ n) × (n ≤ high)
number_in c rows a low high parser read =
    let one : one_of a.id rows ≡ Some (without_minus read.text) = rw parser at read.one in
    let passes : accepts a.ignore_case (Signed (pos low) (pos high)) read.text ≡ true = rw parser at read.passes in
    let within = in_range low high read.text (accepts-Accepts a.ignore_case (Signed (pos low) (pos high)) read.text passes) in
    (digits_value 10 (without_leading_plus (without_minus read.text)), rw one refl, within.0, within.1)

-- and any number
number_any : (rows : List Row) (id : Text) (text : Text) → one_of id rows ≡ Some text → (n : ℕ) × (number_of id rows ≡ Some n)
number_any rows id text one = (digits_value 10 (without_leading_plus text), rw one refl)

abbrev Wanted : Rule → Type 0
Wanted a = (a.required ≡ true) ⊎ (0 < length a.defaults)

render_taken : (words : List Text) → level_fault render_built [] nothing_held words false [] ≡ [] → IsTaken (command_in (rows_at render_built words))
render_taken words e =
    let rows = rows_after render_built.rules [] words in
    let app = reads render_built words _ render_fits refl e (inl refl) refl (inl refl) in
    let script = reads render_built words _ render_fits refl e (inr (inl refl)) refl (inl refl) in
    let workers = number_in _ rows _ 0 0 refl (reads render_built words _ render_fits refl e (inr (inr (inl refl))) refl (inr (omega arith))) in
    let chunk = number_in _ rows _ 1 1048576 refl (reads render_built words _ render_fits refl e (inr (inr (inr (inl refl)))) refl (inr (omega arith))) in
    let progressive = number_in _ rows _ 0 4294967295 refl
    (reads render_built words _ render_fits refl e (inr (inr (inr (inr (inl refl))))) refl (inr (omega arith))) in
    let prefix = reads render_built words _ render_fits refl e (inr (inr (inr (inr (inr (inl refl)))))) refl (inr (omega arith)) in
    rw (app.first, script.first, prefix.first, progressive.1, chunk.1, workers.1)
    (record { alone = omega (arith, workers.3); some = chunk.2; sized = (omega arith, omega arith) })

show_taken : (words : List Text) → level_fault show_built [] nothing_held words false [] ≡ [] → IsTaken (command_in (rows_at show_built words))
show_taken words e =
    let file = reads show_built words _ show_fits refl e (inl refl) refl (inl refl) in
    let prefix = reads show_built words _ show_fits refl e (inr (inl refl)) refl (inr (omega arith)) in
    rw (file.first, prefix.first) (record { alone = refl; some = omega arith; sized = (omega arith, omega arith) })

tree_taken : (words : List Text) → level_fault tree_built [] nothing_held words false [] ≡ [] → IsTaken (command_in (rows_at tree_built words))
tree_taken words e =
    let app = reads tree_built words _ tree_fits refl e (inl refl) refl (inl refl) in
    let script = reads tree_built words _ tree_fits refl e (inr (inl refl)) refl (inl refl) in
    let prefix = reads tree_built words _ tree_fits refl e (inr (inr (inl refl))) refl (inr (omega arith)) in
    rw (app.first, script.first, prefix.first) (record { alone = refl; some = omega arith; sized = (omega arith, omega arith) })

gen_taken : (words : List Text) → level_fault gen_built [] nothing_held words false [] ≡ [] → IsTaken (command_in (rows_at gen_built words))
gen_taken words e =
    let rows = rows_after gen_built.rules [] words in
    let seed_read = reads gen_built words _ gen_fits refl e (inl refl) refl (inl refl) in
    let seed = number_any rows _ _ seed_read.one in
    let size = number_in _ rows _ 1 50000 refl (reads gen_built words _ gen_fits refl e (inr (inl refl)) refl (inl refl)) in
    let workers = number_in _ rows _ 0 0 refl (reads gen_built words _ gen_fits refl e (inr (inr (inl refl))) refl (inr (omega arith))) in
    rw (seed.1, size.1, workers.1) (record { alone = omega (arith, workers.3); some = omega arith; sized = (size.2, size.3) })

abbrev IsTakenBy : Shape → Type 0
IsTakenBy s = (words : List Text) → level_fault s [] nothing_held words false [] ≡ [] → IsTaken (command_in (rows_at s words))

each_taken : AllOf IsTakenBy (built fizz).subs
each_taken = (render_taken, (show_taken, (tree_taken, (gen_taken, tt))))

found_taken : (p : Text × List Text) (o : Option Shape) → find (λ s. answers_to p.0 (label_of s)) (built fizz).subs ≡ o
    → is_some (option_map (λ s. rows_at s p.1) o) ≡ true → option_map_or (λ s. level_fault s [] nothing_held p.1 false []) o [] ≡ []
    → IsTaken (option_and_then command_in (option_map (λ s. rows_at s p.1) o))
found_taken p None at some e = absurd (true≢false (sym some))
found_taken p (Some s) at some e = find_fits IsTakenBy (λ s. answers_to p.0 (label_of s)) (built fizz).subs s each_taken at p.1 e

entered_taken : (stop : Option (Text × List Text)) → is_some (entered (built fizz) stop) ≡ true → entered_fault (built fizz) stop ≡ []
    → IsTaken (option_and_then command_in (entered (built fizz) stop))
entered_taken None some e = absurd (true≢false (sym some))
entered_taken (Some p) some e = found_taken p (find (λ s. answers_to p.0 (label_of s)) (built fizz).subs) refl some e

there : (has : Bool) → (not has && true) ≡ false → has ≡ true
there true e = refl
there false e = absurd (true≢false e)

unless : (k : Kinds) (m : Option Command) → k ≡ [] → IsTaken m → IsTaken (unless_faulty k m)
unless [] m e h = h
unless (k ∷ ks) m e h = absurd (cons_nil k ks e)

wanted : (s : Shape) (rows : List Row) (has : Bool) → check_fault s rows has ≡ [] → (not has && s.subcommand_required) ≡ false
wanted s rows has e =
    (no_check (not has && (s.arg_required_else_help && not (list_any (λ r. explicit_source r.source) rows))) (not has && s.subcommand_required)
    (not (s.subcommand_negates_reqs && has) && list_any (λ a. a.required && not (is_given a.id rows)) s.rules) e).0

pub taken : (words : List Text) → faults_of words ≡ [] → IsTaken (command_of words)
taken words e =
    let top = (built fizz).top in
    let names = names_of (built fizz) in
    let stop = (walk top.rules names nothing_held words).stopped in
    let end = (walk top.rules names nothing_held words).held in
    let p = or_nil (walk_fault top names (walk_from nothing_held) words) _ e in
    let q = or_nil (entered_fault (built fizz) stop) _ p.1 in
    let r = or_nil (settle_fault top.rules top.args_override_self end) _ q.1 in
    let d = or_nil (defaults_fault (settled top.rules end).rows top.rules) _ r.1 in
    let some = there _ (wanted top (finished top.rules end) (is_some (entered (built fizz) stop)) d.1) in
    unless (faults_of words) _ e (entered_taken stop some q.0)

not_meant : (k : Kinds) (m : Option Command) (command : Command) → unless_faulty k m ≡ Some command → k ≡ []
not_meant [] m command e = refl
not_meant (k ∷ ks) m command e = absurd (none_some command e)

pub taken_as : (words : List Text) (command : Command) → command_of words ≡ Some command → IsInRange command
taken_as words command is = subst IsTaken is (taken words (not_meant (faults_of words) _ command is))
