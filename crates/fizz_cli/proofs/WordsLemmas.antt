-- What words come to, by what clap finds in them.
use Rattle.std.proofs.Common.{◌≡◌, ℕ, ◌<◌, ◌≤◌, Bool, true, false, List, [], ◌∷◌, length, nat_lt, Option, Some, None, refl, ◌∙◌, ap, if◌then◌else◌, arith}
use Rattle.std.proofs.lemmas.Bool.Decides.{nat_tests}
use Rattle.std.specs.List.{list_any}
use Rattle.clap.specs.Words.{Kinds}
use Rattle.clap.specs.declared.error.kind.ErrorKind.{ErrorKind}
use Rattle.fizz_words.specs.Commands.{prefix_of}
use Rattle.fizz_words.specs.Meaning.{asks, command_of, errs, faults_of, unless_faulty}
use Rattle.fizz_words.specs.declared.command.Command.{Command}
use Rattle.fizz_cli.specs.Words.{means, has_long_prefix, asks_for_text, is_wrong, reading_from, reading_of}

-- words in which some fault is found mean no command
no_command : (kinds : Kinds) (test : ErrorKind → Bool) (meant : Option Command) → list_any test kinds ≡ true →
    unless_faulty kinds meant ≡ None
no_command [] test meant found = cc
no_command (kind ∷ kinds) test meant found = refl

not_asked : (asked erred : Bool) → (asked ≡ true → erred ≡ false) → erred ≡ true → asked ≡ false
not_asked true erred apart found = absurd (both (apart refl) found)
  where
    both : erred ≡ false → erred ≡ true → ⊥
    both p q = cc
not_asked false erred apart found = refl

pub wrong_words : (words : List (List ℕ)) → (asks words ≡ true → errs words ≡ false) → errs words ≡ true →
    reading_of words ≡ is_wrong
wrong_words words apart found =
    ap (λ (m : Option Command). reading_from m (asks words)) (no_command (faults_of words) _ _ found)
    ∙ ap (reading_from None) (not_asked (asks words) (errs words) apart found)

pub asking_words : (words : List (List ℕ)) → asks words ≡ true → reading_of words ≡ asks_for_text
asking_words words found =
    ap (λ (m : Option Command). reading_from m (asks words)) (no_command (faults_of words) _ _ found)
    ∙ ap (reading_from None) found

pub meant_words : (words : List (List ℕ)) (command : Command) → command_of words ≡ Some command →
    length (prefix_of command) ≤ 64 → reading_of words ≡ means command
meant_words words command is short =
    ap (λ (m : Option Command). reading_from m (asks words)) is
    ∙ ap (λ (b : Bool). if b then has_long_prefix else means command) (not_longer (length (prefix_of command)) short)
  where
    not_longer : (n : ℕ) → n ≤ 64 → nat_lt 64 n ≡ false
    not_longer n le = grind (arith, nat_tests)

pub long_words : (words : List (List ℕ)) (command : Command) → command_of words ≡ Some command →
    64 < length (prefix_of command) → reading_of words ≡ has_long_prefix
long_words words command is long =
    ap (λ (m : Option Command). reading_from m (asks words)) is
    ∙ ap (λ (b : Bool). if b then has_long_prefix else means command) (is_longer (length (prefix_of command)) long)
  where
    is_longer : (n : ℕ) → 64 < n → nat_lt 64 n ≡ true
    is_longer n lt = grind (arith, nat_tests)
