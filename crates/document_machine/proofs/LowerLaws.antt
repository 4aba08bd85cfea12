-- The laws of tokens and of scripts, as the proofs of this crate use them.
use Rattle.std.proofs.Common.{◌≡◌, ◌≢◌, ℕ, Bool, true, false, List, ◌++◌, codes}
use Rattle.std.specs.Str.{IsUtf8}
use Rattle.html_read.specs.declared.token.Token.{Token}
use Rattle.html_read.specs.Tokens.{AreTokens, Tokenizes, spellings}
use Rattle.html_read.specs.Faults.{IsAlive, Splits, begins_tag, ends_in_text}
use Rattle.fizz_instructions.specs.Bodies.{IsInstruction, body_of}
use Rattle.fizz_instructions.specs.declared.instruction.Instruction.{Instruction}

pub record TokenLaws : Type 0 where
  pub one : (bytes : List ℕ) (a b : List Token) → Tokenizes bytes a → Tokenizes bytes b → a ≡ b
  pub alive : (bytes : List ℕ) (toks : List Token) (rest : List ℕ) → Splits bytes toks rest → IsAlive bytes
  pub front : (bytes : List ℕ) (front toks : List Token) (more rest : List ℕ) → AreTokens front → bytes ≡ spellings front ++ more → (ends_in_text false front ≡ true → begins_tag more ≡ true)
      → Splits bytes toks rest → (further : List Token) × (toks ≡ front ++ further)
  pub split : (bytes : List ℕ) (a b : List Token) (r s : List ℕ) → Splits bytes a r → Splits bytes b s → (a ≡ b) × (r ≡ s)

pub record ScriptLaws : Type 0 where
  pub one : (prefix : List ℕ) (i j : Instruction) (a b : Bool) → IsUtf8 prefix → IsInstruction i → IsInstruction j → body_of prefix i a ≡ body_of prefix j b → (i ≡ j) × (a ≡ b)
  pub no_end : (prefix : List ℕ) (i : Instruction) (defines : Bool) (before after : List ℕ) → body_of prefix i defines ≢ before ++ (codes "</script>" ++ after)
