-- What words mean: clap's matches of them as a command, or its faults.
use Rattle.std.specs.Prelude.{◌≡◌, ◌<◌, ◌≤◌, ℕ, Bool, true, false, List, [], ◌∷◌, length, codes}
use Rattle.std.specs.Prelude.{Option, Some, None, option_map, option_and_then, if◌then◌else◌}
use Rattle.std.specs.Prelude.{Result, Ok, Err}
use Rattle.std.specs.List.{list_any}
use Rattle.std.specs.Str.{bytes_eq}
use Rattle.std.specs.Str.Parse.{digits_value, without_leading_plus}
use Rattle.clap.specs.Words.{Kinds, Row, Text, fault_of, first_of, one_of, subcommand_of}
use Rattle.clap.specs.declared.error.kind.ErrorKind.{ErrorKind}
use Rattle.clap.specs.declared.error.kind.ErrorKind.TheVariants as kind
use Rattle.fizz_words.specs.Commands.{prefix_of}
use Rattle.fizz_words.specs.Grammar.{fizz}
use Rattle.fizz_words.specs.declared.command.Command.{Command}
use Rattle.fizz_words.specs.declared.command.Command.TheVariants.{Render, Show, Tree, Gen}
use Rattle.fizz_words.specs.declared.command.Options.{Options}
use Rattle.fizz_words.specs.declared.words.WordsFault.{WordsFault}
use Rattle.fizz_words.specs.declared.words.WordsFault.TheVariants.{Usage, Told, PrefixTooLong}
use Rattle.fizz_words.specs.declared.words.WordsFault.TheVariants.{OutOfMemory}

-- ---- the matches of one command

-- the number that the matches give, a plus before it or not
abbrev pub number_of : Text → List Row → Option ℕ
number_of id rows = option_map (λ t. digits_value 10 (without_leading_plus t)) (one_of id rows)

abbrev pub options_in : List Row → Option Options
options_in rows = option_and_then (λ prefix. option_and_then (λ progressive. option_map (λ chunk.
    record { prefix = prefix; progressive = progressive; chunk = chunk })
    (number_of (codes "chunk") rows)) (number_of (codes "progressive") rows))
    (first_of (codes "prefix") rows)

abbrev pub render_in : List Row → Option Command
render_in rows = option_and_then (λ app. option_and_then (λ script. option_and_then (λ options.
    option_map (Render app script options) (number_of (codes "workers") rows)) (options_in rows))
    (first_of (codes "SCRIPT") rows)) (first_of (codes "APP") rows)

abbrev pub show_in : List Row → Option Command
show_in rows = option_and_then (λ file. option_map (Show file) (first_of (codes "prefix") rows))
    (first_of (codes "FILE") rows)

abbrev pub tree_in : List Row → Option Command
tree_in rows = option_and_then (λ app. option_and_then (λ script. option_map (Tree app script)
    (first_of (codes "prefix") rows)) (first_of (codes "SCRIPT") rows))
    (first_of (codes "APP") rows)

abbrev pub gen_in : List Row → Option Command
gen_in rows = option_and_then (λ seed. option_and_then (λ size. option_map (Gen seed size)
    (number_of (codes "workers") rows)) (number_of (codes "SIZE") rows))
    (number_of (codes "SEED") rows)

-- the command of this name with these matches
abbrev pub command_in : Text × List Row → Option Command
command_in p = if bytes_eq p.0 (codes "render") then render_in p.1
    else (if bytes_eq p.0 (codes "show") then show_in p.1
    else (if bytes_eq p.0 (codes "tree") then tree_in p.1
    else (if bytes_eq p.0 (codes "gen") then gen_in p.1 else None)))

-- ---- the words

-- what clap finds at fault in the words; nothing where it takes them
abbrev pub faults_of : List Text → Kinds
faults_of = fault_of fizz

abbrev pub unless_faulty : Kinds → Option Command → Option Command
unless_faulty [] meant = meant
unless_faulty (k ∷ ks) meant = None

-- the command that clap's matches of the words mean, where it takes them
abbrev pub command_of : List Text → Option Command
command_of words =
    unless_faulty (faults_of words) (option_and_then command_in (subcommand_of fizz words))

-- a call for help or for the version
abbrev pub is_asked : ErrorKind → Bool
is_asked kind.DisplayHelp = true
is_asked kind.DisplayVersion = true
is_asked _ = false

-- words that are wrong: neither such a call, nor want of memory
abbrev pub is_mistake : ErrorKind → Bool
is_mistake kind.DisplayHelp = false
is_mistake kind.DisplayVersion = false
is_mistake kind.OutOfMemory = false
is_mistake _ = true

abbrev pub asks : List Text → Bool
asks words = list_any is_asked (faults_of words)

abbrev pub errs : List Text → Bool
errs words = list_any is_mistake (faults_of words)

-- Words that clap takes are read as the command that they mean, unless its prefix is longer than
-- 64 bytes. Each fault says what is so of the words; want of memory says nothing.
abbrev pub IsMeant : List Text → Result Command WordsFault → Type 0
IsMeant words (Ok command) =
    (command_of words ≡ Some command) × (length (prefix_of command) ≤ 64)
IsMeant words (Err (Usage text)) = errs words ≡ true
IsMeant words (Err (Told text)) = asks words ≡ true
IsMeant words (Err (PrefixTooLong n)) = (command : Command) × (command_of words ≡ Some command)
    × (n ≡ length (prefix_of command)) × (64 < n)
IsMeant words (Err OutOfMemory) = Unit {0}

-- what an error of this kind is answered with
abbrev pub IsAnswer : ErrorKind → WordsFault → Type 0
IsAnswer k (Usage text) = is_mistake k ≡ true
IsAnswer k (Told text) = is_asked k ≡ true
IsAnswer k (PrefixTooLong n) = ⊥
IsAnswer k OutOfMemory = Unit {0}

-- a command whose prefix has at most 64 bytes is kept
abbrev pub IsKept : Command → Result Command WordsFault → Type 0
IsKept command (Ok kept) = (kept ≡ command) × (length (prefix_of command) ≤ 64)
IsKept command (Err (PrefixTooLong n)) = (n ≡ length (prefix_of command)) × (64 < n)
IsKept command (Err e) = ⊥
