-- What words come to, by clap's reading of them.
use Rattle.std.specs.Prelude.{ℕ, Bool, true, false, List, length, nat_lt, Option, Some, None, if◌then◌else◌}
use Rattle.fizz_words.specs.Commands.{prefix_of}
use Rattle.fizz_words.specs.Meaning.{asks, command_of}
use Rattle.fizz_words.specs.declared.command.Command.{Command}

-- They mean a command; they mean one but for its prefix, which is too long; they ask for help or for the version; or
-- they are wrong.
pub data Reading : Type 0 where
  means : Command → Reading
  has_long_prefix : Reading
  asks_for_text : Reading
  is_wrong : Reading

abbrev pub with_prefix : Command → Reading
with_prefix command = if nat_lt 64 (length (prefix_of command)) then has_long_prefix else means command

abbrev pub reading_from : Option Command → Bool → Reading
reading_from (Some command) asked = with_prefix command
reading_from None true = asks_for_text
reading_from None false = is_wrong

abbrev pub reading_of : List (List ℕ) → Reading
reading_of words = reading_from (command_of words) (asks words)
