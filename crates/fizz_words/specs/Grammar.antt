-- The command line as clap reads it: the names and the options of each command, their values and defaults.
use Rattle.std.specs.Prelude.{ℕ, List, [], ◌∷◌, Some, codes, true, false, pos}
use Rattle.clap.specs.Words.{App, Rule, Shape, Text, new_rule, with_rule}
use Rattle.clap.specs.Simple.{new_shape}
use Rattle.clap.specs.declared.builder.value_parser.ValueParser.TheVariants.{Signed, Unsigned}

-- how many threads a call may have beside its own
abbrev pub most_workers : ℕ
most_workers = 0

-- ---- names, each wanted, in their order

abbrev pub name_rule : Text → Rule
name_rule id = record (new_rule id) { required = true }

abbrev pub app_rule : Rule
app_rule = name_rule (codes "APP")

abbrev pub script_rule : Rule
script_rule = name_rule (codes "SCRIPT")

abbrev pub file_rule : Rule
file_rule = name_rule (codes "FILE")

abbrev pub seed_rule : Rule
seed_rule = record (name_rule (codes "SEED")) { parser = Some (Unsigned 0 9223372036854775807) }

abbrev pub size_rule : Rule
size_rule = record (name_rule (codes "SIZE")) { parser = Some (Signed (pos 1) (pos 50000)) }

-- ---- options, each with its default

abbrev pub option_rule : Text → Text → Rule
option_rule id default =
    record (new_rule id) { long = Some id; value_names = 1; defaults = default ∷ [] }

abbrev pub workers_rule : Rule
workers_rule = record (option_rule (codes "workers") (codes "0")) {
  parser = Some (Signed (pos 0) (pos most_workers));
}

abbrev pub chunk_rule : Rule
chunk_rule = record (option_rule (codes "chunk") (codes "2048")) {
  parser = Some (Signed (pos 1) (pos 1048576));
}

abbrev pub progressive_rule : Rule
progressive_rule = record (option_rule (codes "progressive") (codes "12800")) {
  parser = Some (Signed (pos 0) (pos 4294967295));
}

abbrev pub prefix_rule : Rule
prefix_rule = option_rule (codes "prefix") []

-- ---- commands

abbrev pub command_shape : Text → List Rule → Shape
command_shape name rules = record (new_shape name) { rules = rules }

abbrev pub render_shape : Shape
render_shape = command_shape (codes "render")
    (app_rule ∷ script_rule ∷ workers_rule ∷ chunk_rule ∷ progressive_rule ∷ prefix_rule ∷ [])

-- the options of `render` behind the names of a command
abbrev pub with_options : App → App
with_options a =
    with_rule (with_rule (with_rule (with_rule a workers_rule) chunk_rule) progressive_rule) prefix_rule

abbrev pub show_shape : Shape
show_shape = command_shape (codes "show") (file_rule ∷ prefix_rule ∷ [])

abbrev pub tree_shape : Shape
tree_shape = command_shape (codes "tree") (app_rule ∷ script_rule ∷ prefix_rule ∷ [])

abbrev pub gen_shape : Shape
gen_shape = command_shape (codes "gen") (seed_rule ∷ size_rule ∷ workers_rule ∷ [])

-- One of the four is wanted. Each tells its help and the version, and `help` is no command.
abbrev pub fizz_alone : App
fizz_alone = record {
  top = record (new_shape (codes "fizz")) {
    no_binary_name = true;
    disable_help_subcommand = true;
    propagate_version = true;
    has_version = true;
    subcommand_required = true;
  };
  subs = [];
}

abbrev pub fizz : App
fizz = record {
  top = record fizz_alone.top { is_leaf = false };
  subs = render_shape ∷ show_shape ∷ tree_shape ∷ gen_shape ∷ [];
}
