-- What the body of a script says to a reader that knows some functions, and when each refusal comes.
use Rattle.std.specs.Prelude.{◌≡◌, ℕ, ◌<◌, ◌^◌, ◌++◌, Bool, true, false, List}
use Rattle.html_names.specs.JsStrings.{js_string}
use Rattle.fizz_instructions.specs.Bodies.{IsInstruction, arguments_of, body_of, call_of, function_of, id_of, two_strings}
use Rattle.fizz_instructions.specs.Sending.{has}
use Rattle.fizz_instructions.specs.declared.functions.Function.{Function}
use Rattle.fizz_instructions.specs.declared.instruction.Instruction.{Instruction}
use Rattle.fizz_instructions.specs.declared.instruction.SentFunctions.{SentFunctions}
use Rattle.fizz_instructions.specs.declared.reading.BodyFault.{BodyFault}
use Rattle.fizz_instructions.specs.declared.reading.BodyFault.TheVariants.{BadInstruction, UnknownFunction, OutOfMemory}

-- The body is this instruction's, with or without the definition of its function.
pub record IsBodyOf (prefix body : List ℕ) (i : Instruction) (defines : Bool) : Type 0 where
  pub valid : IsInstruction i
  pub is : body ≡ body_of prefix i defines

-- The body is no instruction's.
abbrev pub IsNoBody : List ℕ → List ℕ → Type 0
IsNoBody prefix body = (i : Instruction) (defines : Bool) → ¬ IsBodyOf prefix body i defines

-- The body is some instruction's.
pub record HasInstruction (prefix body : List ℕ) : Type 0 where
  pub instruction : Instruction
  pub defines : Bool
  pub body_is : IsBodyOf prefix body instruction defines

-- The body is this instruction's, and its function is known or defined in it. A function may be defined again.
pub record Says (prefix body : List ℕ) (known : SentFunctions) (i : Instruction) : Type 0 where
  pub defines : Bool
  pub body_is : IsBodyOf prefix body i defines
  pub callable : defines ≡ false → has known (function_of i) ≡ true

-- The body calls a function that is neither known nor defined in it.
pub record CallsUnknown (prefix body : List ℕ) (known : SentFunctions) : Type 0 where
  pub instruction : Instruction
  pub body_is : IsBodyOf prefix body instruction false
  pub unknown : has known (function_of instruction) ≡ false

-- When each refusal comes. `OutOfMemory` may always come.
abbrev pub HasBodyCause : List ℕ → List ℕ → SentFunctions → BodyFault → Type 0
HasBodyCause prefix body known BadInstruction = IsNoBody prefix body
HasBodyCause prefix body known UnknownFunction = CallsUnknown prefix body known
HasBodyCause prefix body known OutOfMemory = Unit {0}

-- The parts of a body, each with what is none. They are for private functions.

pub record IsCallOf (prefix call : List ℕ) (function : Function) (i : Instruction) : Type 0 where
  pub calls : function_of i ≡ function
  pub valid : IsInstruction i
  pub is : call ≡ call_of prefix i

abbrev pub IsNoCallOf : List ℕ → List ℕ → Function → Type 0
IsNoCallOf prefix call function = (i : Instruction) → ¬ IsCallOf prefix call function i

pub record AreArgumentsOf (prefix arguments : List ℕ) (function : Function) (i : Instruction) : Type 0 where
  pub calls : function_of i ≡ function
  pub valid : IsInstruction i
  pub is : arguments ≡ arguments_of prefix i

abbrev pub AreNoArguments : List ℕ → List ℕ → Function → Type 0
AreNoArguments prefix arguments function = (i : Instruction) → ¬ AreArgumentsOf prefix arguments function i

pub record AreIds (prefix first second arguments : List ℕ) (m n : ℕ) : Type 0 where
  pub first_fits : m < 2 ^ 32
  pub second_fits : n < 2 ^ 32
  pub are : arguments ≡ two_strings (id_of prefix first m) (id_of prefix second n)

abbrev pub AreNoIds : List ℕ → List ℕ → List ℕ → List ℕ → Type 0
AreNoIds prefix first second arguments = (m n : ℕ) → ¬ AreIds prefix first second arguments m n

pub record BeginsWithId (prefix mark bytes : List ℕ) (n : ℕ) (more : List ℕ) : Type 0 where
  pub fits : n < 2 ^ 32
  pub is : bytes ≡ js_string (id_of prefix mark n) ++ more

abbrev pub BeginsNoId : List ℕ → List ℕ → List ℕ → Type 0
BeginsNoId prefix mark bytes = (n : ℕ) (more : List ℕ) → ¬ BeginsWithId prefix mark bytes n more
