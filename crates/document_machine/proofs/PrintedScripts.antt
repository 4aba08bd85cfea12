-- A script that is written leads to the document on which its instruction acted.
use Rattle.std.proofs.Common.{◌≡◌, ℕ, Bool, true, false, Ok, List, [], ◌∷◌, refl, subst, append-nil}
use Rattle.html_read.specs.declared.token.Token.TheVariants as tok
use Rattle.html_read.specs.Tokens.{AreTokens}
use Rattle.dom_forest.specs.Edits.{DomState}
use Rattle.fizz_instructions.specs.Bodies.{IsInstruction, body_of, script_of, function_of}
use Rattle.fizz_instructions.specs.Sending.{has, with_function}
use Rattle.fizz_instructions.specs.Reading.{Says}
use Rattle.fizz_instructions.specs.declared.instruction.Instruction.{Instruction}
use Rattle.document_machine.specs.Running.{PageState, ids_of, edit_of}
use Rattle.document_machine.specs.Documents.{runs, Runs, LeavesNoRest}
use Rattle.document_machine.proofs.LowerLaws.{TokenLaws, ScriptLaws}
use Rattle.document_machine.proofs.TokenRuns.{tokens_run}

pub script_says : TokenLaws → ScriptLaws → (prefix : List ℕ) (start : PageState) (i : Instruction) (defines : Bool) (dom : DomState) → IsInstruction i → (defines ≡ false → has start.known (function_of i) ≡ true)
    → edit_of prefix (ids_of start.opened) i start.dom ≡ Ok dom
    → (run : Runs prefix start (script_of prefix i defines) (record start { dom = dom; known = with_function start.known (function_of i) })) × LeavesNoRest run
script_says laws scripts prefix start i defines dom valid known acts =
    let body : List ℕ = body_of prefix i defines in
    let end : PageState = record start { dom = dom; known = with_function start.known (function_of i) } in
    let said : Says prefix body start.known i = record { defines = defines; body_is = record { valid = valid; is = refl }; callable = known } in
    let are : AreTokens (tok.Script body 0 ∷ []) = (λ before after e. scripts.no_end prefix i defines before after e, refl, tt, tt) in
    subst (λ bytes. (run : Runs prefix start bytes end) × LeavesNoRest run) (append-nil (script_of prefix i defines))
    (tokens_run laws prefix start end (tok.Script body 0 ∷ []) are (end, runs start body 0 i dom said acts, refl))
