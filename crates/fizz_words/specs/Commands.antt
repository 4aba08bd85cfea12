-- Commands, and which of them are served on the calling thread.
use Rattle.std.specs.Prelude.{◌≡◌, ℕ, ◌≤◌, List, [], length, Option, Some, None}
use Rattle.fizz_words.specs.declared.command.Command.{Command}
use Rattle.fizz_words.specs.declared.command.Command.TheVariants.{Render, Show, Tree, Gen}
use Rattle.fizz_words.specs.declared.command.Options.{Options}

abbrev pub standard_options : Options
standard_options = record { prefix = []; progressive = 12800; chunk = 2048 }

-- how many threads serve the command beside the calling one
abbrev pub workers_of : Command → ℕ
workers_of (Render app script options workers) = workers
workers_of (Show file prefix) = 0
workers_of (Tree app script prefix) = 0
workers_of (Gen seed size workers) = workers

-- what stands before the renderer's own ids
abbrev pub prefix_of : Command → List ℕ
prefix_of (Render app script options workers) = options.prefix
prefix_of (Show file prefix) = prefix
prefix_of (Tree app script prefix) = prefix
prefix_of (Gen seed size workers) = []

-- how many bytes go to the output at once, at most; 1 where the command has no such number
abbrev pub chunk_of : Command → ℕ
chunk_of (Render app script options workers) = options.chunk
chunk_of (Show file prefix) = 1
chunk_of (Tree app script prefix) = 1
chunk_of (Gen seed size workers) = 1

-- how large a generated program is; 1 where the command has no such number
abbrev pub size_of : Command → ℕ
size_of (Render app script options workers) = 1
size_of (Show file prefix) = 1
size_of (Tree app script prefix) = 1
size_of (Gen seed size workers) = size

-- The command is served on the calling thread, and its numbers are in their ranges.
pub record IsInline (command : Command) : Type 0 where
  pub alone : workers_of command ≡ 0
  pub short : length (prefix_of command) ≤ 64
  pub some : 1 ≤ chunk_of command
  pub sized : (1 ≤ size_of command) × (size_of command ≤ 50000)

-- the same, but for the prefix
pub record IsInRange (command : Command) : Type 0 where
  pub alone : workers_of command ≡ 0
  pub some : 1 ≤ chunk_of command
  pub sized : (1 ≤ size_of command) × (size_of command ≤ 50000)

-- there is a command, and its numbers are in their ranges
abbrev pub IsTaken : Option Command → Type 0
IsTaken (Some command) = IsInRange command
IsTaken None = ⊥
