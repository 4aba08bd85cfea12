-- The scripts by which a page puts late content into its place, after the instructions of React's server renderer. A
-- script calls one function, and defines it before the call where the page's earlier scripts didn't.
use Rattle.std.specs.Prelude.{ℕ, ◌<◌, ◌^◌, Bool, if◌then◌else◌, List, [], ◌∷◌, ◌++◌, codes}
use Rattle.std.specs.Str.{IsUtf8}
use Rattle.fizz_text.specs.Hexadecimal.{hexadecimal}
use Rattle.html_names.specs.JsStrings.{js_string}
use Rattle.fizz_instructions.specs.Functions.{name_of, definition_of}
use Rattle.fizz_instructions.specs.declared.functions.Function.{Function}
use Rattle.fizz_instructions.specs.declared.functions.Function.TheVariants.{CompleteBoundary, CompleteSegment, ClientRenderBoundary}
use Rattle.fizz_instructions.specs.declared.instruction.Instruction.{Instruction}
use Rattle.fizz_instructions.specs.declared.instruction.Instruction.TheVariants.{Complete, Segment, ClientRender}

-- An id: the page's prefix, a mark, and a number in lower-case hexadecimal. The prefix is any text. It stands in a
-- script as each text does, in a string of ECMAScript.
abbrev pub id_of : List ℕ → List ℕ → ℕ → List ℕ
id_of prefix mark n = prefix ++ (mark ++ hexadecimal n)

-- the template of a boundary
abbrev pub boundary_id : List ℕ → ℕ → List ℕ
boundary_id prefix n = id_of prefix (codes "B:") n

-- the hidden container of a segment
abbrev pub segment_id : List ℕ → ℕ → List ℕ
segment_id prefix n = id_of prefix (codes "S:") n

-- the template that holds the place of a segment
abbrev pub placeholder_id : List ℕ → ℕ → List ℕ
placeholder_id prefix n = id_of prefix (codes "P:") n

-- Two strings with a comma between them.
abbrev pub two_strings : List ℕ → List ℕ → List ℕ
two_strings first second = js_string first ++ (codes "," ++ js_string second)

-- A digest is an argument unless it is empty.
abbrev pub digest_argument : List ℕ → List ℕ
digest_argument [] = []
digest_argument (b ∷ bs) = codes "," ++ js_string (b ∷ bs)

abbrev pub function_of : Instruction → Function
function_of (Complete boundary segment) = CompleteBoundary
function_of (Segment segment) = CompleteSegment
function_of (ClientRender boundary digest) = ClientRenderBoundary

abbrev pub arguments_of : List ℕ → Instruction → List ℕ
arguments_of prefix (Complete boundary segment) = two_strings (boundary_id prefix boundary) (segment_id prefix segment)
arguments_of prefix (Segment segment) = two_strings (segment_id prefix segment) (placeholder_id prefix segment)
arguments_of prefix (ClientRender boundary digest) = js_string (boundary_id prefix boundary) ++ digest_argument digest

abbrev pub call_with : Function → List ℕ → List ℕ
call_with function arguments = name_of function ++ (codes "(" ++ (arguments ++ codes ")"))

-- `$RC("B:0","S:0")`, `$RS("S:1","P:1")`, `$RX("B:0","digest")` or `$RX("B:0")`
abbrev pub call_of : List ℕ → Instruction → List ℕ
call_of prefix i = call_with (function_of i) (arguments_of prefix i)

-- The body of a script: the function's definition, where it stands in it, and the call.
abbrev pub body_of : List ℕ → Instruction → Bool → List ℕ
body_of prefix i defines = (if defines then definition_of (function_of i) else []) ++ call_of prefix i

abbrev pub script_of : List ℕ → Instruction → Bool → List ℕ
script_of prefix i defines = codes "<script>" ++ (body_of prefix i defines ++ codes "</script>")

-- The numbers are 32 bits wide, and the digest is a text.
abbrev pub IsInstruction : Instruction → Type 0
IsInstruction (Complete boundary segment) = (boundary < 2 ^ 32) × (segment < 2 ^ 32)
IsInstruction (Segment segment) = segment < 2 ^ 32
IsInstruction (ClientRender boundary digest) = (boundary < 2 ^ 32) × IsUtf8 digest
