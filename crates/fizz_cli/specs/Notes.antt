-- The line that tells why a call was refused.
use Rattle.std.specs.Prelude.{ℕ, ◌/◌, ◌%◌, List, [], ◌∷◌, ◌++◌, codes}
use Rattle.std.specs.List.{flat_map}
use Rattle.std.specs.Fmt.{decimal}
use Rattle.std.specs.Char.{digit_char}
use Rattle.jsx_lex.specs.declared.fault.LexKind.{LexKind}
use Rattle.jsx_lex.specs.declared.fault.LexKind.TheVariants as kind
use Rattle.jsx_syntax.specs.declared.fault.Wanted.{Wanted}
use Rattle.jsx_syntax.specs.declared.fault.Wanted.TheVariants as wanted
use Rattle.fizz_cli.specs.declared.note.FieldValue.{FieldValue}
use Rattle.fizz_cli.specs.declared.note.FieldValue.TheVariants.{Number, Words, Steps, Hash}
use Rattle.fizz_cli.specs.declared.note.Field.{Field}
use Rattle.fizz_cli.specs.declared.refusal.FileFault.{FileFault}
use Rattle.fizz_cli.specs.declared.refusal.FileFault.TheVariants.{TooLong, Program, Script, Page}
use Rattle.fizz_cli.specs.declared.refusal.PageFault.{PageFault}
use Rattle.fizz_cli.specs.declared.refusal.PageFault.TheVariants as page
use Rattle.fizz_cli.specs.declared.refusal.ProgramFault.{ProgramFault}
use Rattle.fizz_cli.specs.declared.refusal.ProgramFault.TheVariants as program
use Rattle.fizz_cli.specs.declared.refusal.Refusal.{Refusal}
use Rattle.fizz_cli.specs.declared.refusal.Refusal.TheVariants.{CannotRead, File, ShellFailed, ShellPostponed, CannotWrite, StateTooLong}
use Rattle.fizz_cli.specs.declared.refusal.ScriptFault.{ScriptFault}
use Rattle.fizz_cli.specs.declared.refusal.ScriptFault.TheVariants as script

-- what a field says
pub data Value : Type 0 where
  number : ℕ → Value
  words : List ℕ → Value
  steps : List ℕ → Value
  hash : List ℕ → Value

-- a field of a note: its name and what it says
pub record Entry : Type 0 where
  pub name : List ℕ
  pub value : Value

-- what a note says of a file: a label and fields
pub record Row : Type 0 where
  pub label : List ℕ
  pub fields : List Entry

abbrev pub two_digits : ℕ → List ℕ
two_digits byte = digit_char (byte / 16) ∷ digit_char (byte % 16) ∷ []

-- a step of a path after the first
abbrev pub after_dot : ℕ → List ℕ
after_dot step = codes "." ++ decimal step

-- the steps of a path, joined by dots
abbrev pub steps_text : List ℕ → List ℕ
steps_text [] = []
steps_text (first ∷ later) = decimal first ++ flat_map after_dot later

-- A number in decimals, a text as it is, the steps of a path joined by dots, the bytes of a hash in hexadecimal.
abbrev pub value_text : Value → List ℕ
value_text (number n) = decimal n
value_text (words text) = text
value_text (steps path) = steps_text path
value_text (hash bytes) = flat_map two_digits bytes

-- a space, the name, `=`, the value
abbrev pub entry_text : Entry → List ℕ
entry_text entry = codes " " ++ (entry.name ++ (codes "=" ++ value_text entry.value))

abbrev pub row_text : Row → List ℕ
row_text row = row.label ++ flat_map entry_text row.fields

-- what a field of the code says
abbrev pub value_of : FieldValue → Value
value_of (Number n) = number n
value_of (Words text) = words text.now
value_of (Steps path) = steps path.now
value_of (Hash bytes) = hash bytes.now

abbrev pub entry_of : Field → Entry
entry_of field = record { name = field.name.now; value = value_of field.value }

-- a row without fields, one with a number, and one with a place
abbrev pub bare : List ℕ → Row
bare label = record { label = label; fields = [] }

abbrev pub counted_by : List ℕ → List ℕ → ℕ → Row
counted_by label name n = record { label = label; fields = record { name = name; value = number n } ∷ [] }

abbrev pub row_at : List ℕ → ℕ → Row
row_at label at = counted_by label (codes "at") at

-- a row with a place, and a word that says what is wrong there
abbrev pub row_with : List ℕ → ℕ → List ℕ → List ℕ → Row
row_with label at name word = record {
  label = label;
  fields = record { name = codes "at"; value = number at } ∷ record { name = name; value = words word } ∷ [];
}

abbrev pub kind_word : LexKind → List ℕ
kind_word kind.Char = codes "Char"
kind_word kind.Number = codes "Number"
kind_word kind.Str = codes "Str"
kind_word kind.Comment = codes "Comment"
kind_word kind.Bare = codes "Bare"
kind_word kind.Brace = codes "Brace"
kind_word kind.End = codes "End"

abbrev pub wanted_word : Wanted → List ℕ
wanted_word wanted.Token = codes "Token"
wanted_word wanted.Value = codes "Value"
wanted_word wanted.CloseName = codes "CloseName"
wanted_word wanted.NoChildren = codes "NoChildren"
wanted_word wanted.Shallower = codes "Shallower"

abbrev pub program_row : ProgramFault → Row
program_row (program.NotUtf8 valid) = counted_by (codes "NotUtf8") (codes "valid") valid
program_row (program.LexFault at kind) = row_with (codes "LexFault") at (codes "kind") (kind_word kind)
program_row (program.SyntaxFault at wanted) = row_with (codes "SyntaxFault") at (codes "wanted") (wanted_word wanted)
program_row (program.TooManyComponents count) = counted_by (codes "TooManyComponents") (codes "count") count
program_row (program.UnknownName at) = row_at (codes "UnknownName") at
program_row (program.UnknownElement at) = row_at (codes "UnknownElement") at
program_row (program.UnknownAttribute at) = row_at (codes "UnknownAttribute") at
program_row (program.TwiceDefined at) = row_at (codes "TwiceDefined") at
program_row (program.UsedBeforeDefined at) = row_at (codes "UsedBeforeDefined") at
program_row (program.FallbackNotPlain at) = row_at (codes "FallbackNotPlain") at
program_row program.NoApp = bare (codes "NoApp")
program_row (program.TooDeep depth) = counted_by (codes "TooDeep") (codes "depth") depth
program_row (program.TooLarge limit) = counted_by (codes "TooLarge") (codes "limit") limit

abbrev pub script_row : ScriptFault → Row
script_row script.NotJson = bare (codes "NotJson")
script_row (script.TooManyEvents count) = counted_by (codes "TooManyEvents") (codes "count") count
script_row (script.NotEvent index) = counted_by (codes "NotEvent") (codes "index") index
script_row (script.DigestTooLong index size) = record {
  label = codes "DigestTooLong";
  fields = record { name = codes "index"; value = number index } ∷ record { name = codes "length"; value = number size } ∷ [];
}
script_row (script.BadValue index) = counted_by (codes "BadValue") (codes "index") index
script_row (script.SettledTwice index first) = record {
  label = codes "SettledTwice";
  fields = record { name = codes "index"; value = number index } ∷ record { name = codes "first"; value = number first } ∷ [];
}

abbrev pub page_row : PageFault → Row
page_row (page.Html at) = row_at (codes "Html") at
page_row (page.UnknownFunction at) = row_at (codes "UnknownFunction") at
page_row (page.NoSuchId at id) = record {
  label = codes "NoSuchId";
  fields = record { name = codes "at"; value = number at } ∷ record { name = codes "id"; value = words id } ∷ [];
}
page_row (page.NotBoundary at) = row_at (codes "NotBoundary") at
page_row (page.StillPending count) = counted_by (codes "StillPending") (codes "count") count

abbrev pub row_of : FileFault → Row
row_of (TooLong most) = counted_by (codes "TooLong") (codes "most") most
row_of (Program fault) = program_row fault
row_of (Script fault) = script_row fault
row_of (Page fault) = page_row fault

-- a label and one value, as a line
abbrev pub line_of : List ℕ → Value → List ℕ
line_of label value = label ++ (value_text value ++ codes "\n")

abbrev pub note_of : Refusal → List ℕ
note_of (CannotRead name) = line_of (codes "cannot read ") (words name)
note_of (File name fault) = name ++ (codes ": " ++ (row_text (row_of fault) ++ codes "\n"))
note_of (ShellFailed digest) = line_of (codes "shell failed: ") (words digest)
note_of (ShellPostponed resource) = line_of (codes "shell postponed: ") (words resource)
note_of (CannotWrite name) = line_of (codes "cannot write ") (words name)
note_of (StateTooLong length) = line_of (codes "state too long: ") (number length)

-- where the words give a prefix that is too long
abbrev pub prefix_note : List ℕ
prefix_note = codes "prefix too long\n"
