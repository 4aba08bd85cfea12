-- The step that reads a component file as a program.
use Rattle.std.specs.Prelude.{ℕ, List, Option}
use Rattle.std.specs.Str.{IsUtf8, IsValidUpTo}
use Rattle.jsx_lex.specs.FaultTable.{IsFaultAt}
use Rattle.jsx_lex.specs.TokenLists.{AreTokens}
use Rattle.jsx_lex.specs.declared.token.Token.{Token}
use Rattle.jsx_syntax.specs.Parsing.{HasCause, IsSpelled}
use Rattle.jsx_syntax.specs.Rules.{IsApp}
use Rattle.jsx_lex.specs.declared.fault.LexKind.{LexKind}
use Rattle.jsx_syntax.specs.declared.fault.Wanted.{Wanted}
use Rattle.jsx_syntax.specs.declared.fault.SyntaxFault.TheVariants.{Bad}
use Rattle.jsx_syntax.specs.declared.file.File.{File}
use Rattle.jsx_check.specs.Checks.{IsFaultOf}
use Rattle.jsx_check.specs.declared.fault.CheckFault.{CheckFault}
use Rattle.jsx_check.specs.declared.fault.CheckFault.TheVariants as check
use Rattle.fizz_cli.specs.Steps.{IsFile, RefusesFile}
use Rattle.fizz_cli.specs.declared.refusal.ProgramFault.{ProgramFault}
use Rattle.fizz_cli.specs.declared.refusal.ProgramFault.TheVariants.{NotUtf8, LexFault, SyntaxFault, TooManyComponents, UnknownName, UnknownElement, UnknownAttribute, TwiceDefined, UsedBeforeDefined, FallbackNotPlain, NoApp, TooDeep, TooLarge}
use Rattle.fizz_cli.specs.declared.refusal.FileFault.TheVariants.{Program}
use Rattle.fizz_cli.specs.declared.refusal.Refusal.{Refusal}

abbrev pub most_program_bytes : ℕ
most_program_bytes = 262144

-- The bytes spell a file: they are UTF-8, and their tokens spell it by the grammar.
pub record IsTextOf (bytes : List ℕ) (file : File) : Type 0 where
  pub utf8 : IsUtf8 bytes
  pub tokens : List Token
  pub are_tokens : AreTokens bytes tokens
  pub spelled : IsSpelled bytes tokens file

-- The bytes are a program: they spell a file that meets the rules beside the grammar.
pub record IsProgram (bytes : List ℕ) (file : File) : Type 0 where
  pub spells : IsTextOf bytes file
  pub is_app : IsApp file

-- The bytes are UTF-8, and have no tokens.
abbrev pub HasLexFault : List ℕ → ℕ → LexKind → Type 0
HasLexFault bytes at_ kind = IsUtf8 bytes × IsFaultAt bytes at_ kind

-- The bytes have tokens, which spell no file.
pub record HasSyntaxFault (bytes : List ℕ) (at_ : ℕ) (wanted : Wanted) : Type 0 where
  pub utf8 : IsUtf8 bytes
  pub tokens : List Token
  pub are_tokens : AreTokens bytes tokens
  pub cause : HasCause bytes tokens (Bad at_ wanted)

-- The bytes spell a file, which breaks a rule.
pub record HasCheckFault (bytes : List ℕ) (fault : CheckFault) : Type 0 where
  pub file : File
  pub spells : IsTextOf bytes file
  pub cause : IsFaultOf file fault

-- What the bytes are refused for. A program is too large only with a script.
abbrev pub RefusesProgramBytes : List ℕ → ProgramFault → Type 0
RefusesProgramBytes bytes (NotUtf8 valid) = IsValidUpTo bytes valid
RefusesProgramBytes bytes (LexFault at_ kind) = HasLexFault bytes at_ kind
RefusesProgramBytes bytes (SyntaxFault at_ wanted) = HasSyntaxFault bytes at_ wanted
RefusesProgramBytes bytes (TooManyComponents count) = HasCheckFault bytes (check.TooManyComponents count)
RefusesProgramBytes bytes (UnknownName at_) = HasCheckFault bytes (check.UnknownName at_)
RefusesProgramBytes bytes (UnknownElement at_) = HasCheckFault bytes (check.UnknownElement at_)
RefusesProgramBytes bytes (UnknownAttribute at_) = HasCheckFault bytes (check.UnknownAttribute at_)
RefusesProgramBytes bytes (TwiceDefined at_) = HasCheckFault bytes (check.TwiceDefined at_)
RefusesProgramBytes bytes (UsedBeforeDefined at_) = HasCheckFault bytes (check.UsedBeforeDefined at_)
RefusesProgramBytes bytes (FallbackNotPlain at_) = HasCheckFault bytes (check.FallbackNotPlain at_)
RefusesProgramBytes bytes NoApp = HasCheckFault bytes check.NoApp
RefusesProgramBytes bytes (TooDeep depth) = HasCheckFault bytes (check.TooDeep depth)
RefusesProgramBytes bytes (TooLarge limit) = ⊥

-- The component file is accepted, and spells this program.
pub record AcceptsProgram (file : Option (List ℕ)) (program : File) : Type 0 where
  pub bytes : List ℕ
  pub is_file : IsFile most_program_bytes file bytes
  pub is_program : IsProgram bytes program

abbrev pub RefusesProgram : Type 0 → List ℕ → Option (List ℕ) → Refusal → Type 0
RefusesProgram faulted name file refusal = RefusesFile Program RefusesProgramBytes faulted most_program_bytes name file refusal
