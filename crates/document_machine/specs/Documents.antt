-- Running bytes: which document they leave, and where they are no document.
use Rattle.std.specs.Prelude.{◌≡◌, ◌≢◌, ℕ, ◌<◌, true, List, [], ◌∷◌, ◌++◌, length, Ok}
use Rattle.html_read.specs.declared.token.Token.{Token}
use Rattle.html_read.specs.declared.token.Token.TheVariants as tok
use Rattle.html_read.specs.Tokens.{IsToken, spelling, is_text}
use Rattle.html_read.specs.Faults.{Splits}
use Rattle.dom_forest.specs.Edits.{DomState}
use Rattle.dom_forest.specs.declared.node.NewNode.TheVariants.{Element, Text, Comment}
use Rattle.fizz_instructions.specs.Bodies.{function_of}
use Rattle.fizz_instructions.specs.Sending.{with_function}
use Rattle.fizz_instructions.specs.Reading.{Says}
use Rattle.fizz_instructions.specs.declared.instruction.Instruction.{Instruction}
use Rattle.document_machine.specs.declared.building.OpenElement.{OpenElement}
use Rattle.document_machine.specs.Running.{PageState, at_first, ids_of, mark_of, with_node, with_open, edit_of}

-- The most elements that may be open.
unfoldable pub most_open : ℕ
most_open = 512

-- One token leads from what was built to what is built then. An end tag closes the innermost open element; a start tag
-- opens one more, up to 512; a script says an instruction that can be followed.
pub data Step (prefix : List ℕ) : PageState → Token → PageState → Type 0 where
  starts : (b : PageState) (name : List ℕ) (attributes : _) (from : ℕ) → length b.opened < most_open →
      Step prefix b (tok.Start name attributes from) (with_open name attributes b)
  ends : (b : PageState) (inner : OpenElement) (outer : List OpenElement) (from : ℕ) → b.opened ≡ inner ∷ outer →
      Step prefix b (tok.End inner.name from) (record b { opened = outer })
  stands : (b : PageState) (name : List ℕ) (attributes : _) (from : ℕ) →
      Step prefix b (tok.Void name attributes from) (with_node (Element name attributes) b)
  says : (b : PageState) (text : List ℕ) (from : ℕ) → Step prefix b (tok.Text text from) (with_node (Text text) b)
  marks : (b : PageState) (which : _) (from : ℕ) → Step prefix b (tok.Comment which from) (with_node (Comment (mark_of which)) b)
  runs : (b : PageState) (body : List ℕ) (from : ℕ) (i : Instruction) (dom : DomState) → Says prefix body b.known i →
      edit_of prefix (ids_of b.opened) i b.dom ≡ Ok dom →
      Step prefix b (tok.Script body from) (record b { dom = dom; known = with_function b.known (function_of i) })

abbrev pub Steps : List ℕ → PageState → List Token → PageState → Type 0
Steps prefix start [] end = start ≡ end
Steps prefix start (t ∷ ts) end = (next : PageState) × Step prefix start t next × Steps prefix next ts end

-- The rest counts as a text where it is one by itself, and is ignored otherwise.
abbrev pub IsTextAtEnd : List ℕ → List Token → Type 0
IsTextAtEnd rest [] = (t : Token) → IsToken t → is_text t ≡ true → rest ≢ spelling t
IsTextAtEnd rest (t ∷ []) = IsToken t × (is_text t ≡ true) × (rest ≡ spelling t)
IsTextAtEnd rest (t ∷ u ∷ us) = ⊥

-- Running the bytes from what was built leads to what is built then.
pub record Runs (prefix : List ℕ) (start : PageState) (bytes : List ℕ) (end : PageState) : Type 0 where
  pub toks : List Token
  pub rest : List ℕ
  pub last : List Token
  pub split : Splits bytes toks rest
  pub text : IsTextAtEnd rest last
  pub steps : Steps prefix start (toks ++ last) end

-- The bytes are this document, run from nothing.
abbrev pub IsDocumentOf : List ℕ → List ℕ → PageState → Type 0
IsDocumentOf prefix bytes end = Runs prefix at_first bytes end

-- No rest is left that is no token.
abbrev pub LeavesNoRest : {prefix : List ℕ} → {start : PageState} → {bytes : List ℕ} → {end : PageState} → Runs prefix start bytes end → Type 0
LeavesNoRest run = run.last ≡ [] → run.rest ≡ []

-- Nothing is left over: no rest, and no open element.
pub record RunsWhole (prefix : List ℕ) (start : PageState) (bytes : List ℕ) (end : PageState) : Type 0 where
  pub run : Runs prefix start bytes end
  pub no_rest : LeavesNoRest run
  pub closed : end.opened ≡ []
