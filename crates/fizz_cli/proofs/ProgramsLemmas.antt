-- Component files as programs: one is a program or refused, and for one thing at most.
use Rattle.std.proofs.Common.{◌≡◌, ℕ, ◌⊎◌, inl, inr, List, [], ◌∷◌, ◌++◌, Option, Some, None, Err, refl, sym, ap, ap₂, ◌∙◌, subst, append-nil}
use Rattle.std.proofs.lemmas.List.{map-append}
use Rattle.std.specs.Str.{IsUtf8, IsValidUpTo}
use Rattle.jsx_lex.specs.FaultTable.{IsFaultAt}
use Rattle.jsx_lex.specs.TokenLists.{AreTokens}
use Rattle.jsx_lex.specs.TokenMeanings.{word_at, words_of}
use Rattle.jsx_lex.specs.declared.fault.LexKind.{LexKind}
use Rattle.jsx_lex.specs.declared.token.Token.{Token}
use Rattle.jsx_lex.specs.declared.word.Word.{Word}
use Rattle.jsx_syntax.specs.Grammar.{SpellsFile}
use Rattle.jsx_syntax.specs.Parsing.{HasCause, IsRefusedAt, IsSpelled}
use Rattle.jsx_syntax.specs.declared.fault.SyntaxFault.{SyntaxFault as SyntaxFound}
use Rattle.jsx_syntax.specs.declared.fault.SyntaxFault.TheVariants as syntax
use Rattle.fizz_cli.specs.ProgramFaults.{syntax_fault}
use Rattle.fizz_cli.specs.Steps.{AcceptsOrRefuses}
use Rattle.fizz_cli.specs.declared.stop.OrMemory.{OrMemory}
use Rattle.jsx_syntax.specs.Refusals.{IsDead}
use Rattle.jsx_syntax.specs.Rules.{IsApp}
use Rattle.jsx_syntax.specs.declared.fault.Wanted.{Wanted}
use Rattle.jsx_syntax.specs.declared.file.File.{File}
use Rattle.jsx_check.specs.Checks.{IsFaultOf}
use Rattle.jsx_check.specs.declared.fault.CheckFault.{CheckFault}
use Rattle.jsx_check.specs.declared.fault.CheckFault.TheVariants as check
use Rattle.fizz_cli.specs.ProgramFiles.{AcceptsProgram, HasCheckFault, HasSyntaxFault, IsProgram, IsTextOf, RefusesProgram, RefusesProgramBytes, most_program_bytes}
use Rattle.fizz_cli.specs.declared.refusal.FileFault.TheVariants.{Program}
use Rattle.fizz_cli.specs.declared.refusal.ProgramFault.{ProgramFault}
use Rattle.fizz_cli.specs.declared.refusal.ProgramFault.TheVariants.{NotUtf8, LexFault, SyntaxFault, TooManyComponents, UnknownName, UnknownElement, UnknownAttribute, TwiceDefined, UsedBeforeDefined, FallbackNotPlain, NoApp, TooDeep, TooLarge}
use Rattle.fizz_cli.specs.declared.refusal.Refusal.{Refusal}
use Rattle.fizz_cli.proofs.RefusalsLemmas.{not_cut, same_valid}
use Rattle.fizz_cli.proofs.StepsLemmas.{file_excludes, same_bytes}

-- what the lower crates say of texts, words and files
pub record ProgramLaws : Type 0 where
  pub one_tokens : (text : List ℕ) (a b : List Token) → AreTokens text a → AreTokens text b → a ≡ b
  pub one_lex : (text : List ℕ) (m n : ℕ) (k l : LexKind) → IsFaultAt text m k → IsFaultAt text n l → (m ≡ n) × (k ≡ l)
  pub not_both : (text : List ℕ) (tokens : List Token) (at : ℕ) (kind : LexKind) → AreTokens text tokens → IsFaultAt text at kind → ⊥
  pub one_file : (words : List Word) (a b : File) → SpellsFile words a → SpellsFile words b → a ≡ b
  pub one_syntax : (text : List ℕ) (tokens : List Token) (m n : ℕ) (v w : Wanted) → HasCause text tokens (syntax.Bad m v)
      → HasCause text tokens (syntax.Bad n w) → (m ≡ n) × (v ≡ w)
  pub one_check : (file : File) (a b : CheckFault) → IsFaultOf file a → IsFaultOf file b →
      (a ≡ check.OutOfMemory) ⊎ (b ≡ check.OutOfMemory) ⊎ (a ≡ b)
  pub no_check : (file : File) (a : CheckFault) → IsApp file → IsFaultOf file a → a ≡ check.OutOfMemory

-- Words of a file aren't refused.
dead_here : (text : List ℕ) (b a : List Token) (file : File) → IsDead (words_of text b) (words_of text a)
    → SpellsFile (words_of text (b ++ a)) file → ⊥
dead_here text b [] file dead s = dead file (subst (λ (ts : List Token). SpellsFile (words_of text ts) file) (append-nil b) s)
dead_here text b (t ∷ a) file dead s =
    dead (words_of text a) file (subst (λ (ws : List Word). SpellsFile ws file) (map-append (word_at text) b (t ∷ a)) s)

not_refused : (text : List ℕ) (tokens : List Token) (n : ℕ) (file : File) → IsSpelled text tokens file → IsRefusedAt text tokens n → ⊥
not_refused text tokens n file s r =
    dead_here text r.before r.after file r.refused.dead (subst (λ (ts : List Token). SpellsFile (words_of text ts) file) r.split s)

-- a fault of a file as a program's
abbrev fault_as : CheckFault → Option ProgramFault
fault_as (check.TooManyComponents count) = Some (TooManyComponents count)
fault_as (check.UnknownName at) = Some (UnknownName at)
fault_as (check.UnknownElement at) = Some (UnknownElement at)
fault_as (check.UnknownAttribute at) = Some (UnknownAttribute at)
fault_as (check.TwiceDefined at) = Some (TwiceDefined at)
fault_as (check.UsedBeforeDefined at) = Some (UsedBeforeDefined at)
fault_as (check.FallbackNotPlain at) = Some (FallbackNotPlain at)
fault_as check.NoApp = Some NoApp
fault_as (check.TooDeep depth) = Some (TooDeep depth)
fault_as check.OutOfMemory = None

data ProgramCause (bytes : List ℕ) (f : ProgramFault) : Type 0 where
  cut : (valid : ℕ) → f ≡ NotUtf8 valid → IsValidUpTo bytes valid → ProgramCause bytes f
  lexed : (at : ℕ) (kind : LexKind) → f ≡ LexFault at kind → IsUtf8 bytes → IsFaultAt bytes at kind → ProgramCause bytes f
  parsed : (at : ℕ) (w : Wanted) → f ≡ SyntaxFault at w → HasSyntaxFault bytes at w → ProgramCause bytes f
  checked : (fault : CheckFault) → fault_as fault ≡ Some f → HasCheckFault bytes fault → ProgramCause bytes f

program_cause : (bytes : List ℕ) (f : ProgramFault) → RefusesProgramBytes bytes f → ProgramCause bytes f
program_cause bytes (NotUtf8 valid) r = cut valid refl r
program_cause bytes (LexFault at kind) r = lexed at kind refl r.0 r.1
program_cause bytes (SyntaxFault at w) r = parsed at w refl r
program_cause bytes (TooManyComponents count) r = checked (check.TooManyComponents count) refl r
program_cause bytes (UnknownName at) r = checked (check.UnknownName at) refl r
program_cause bytes (UnknownElement at) r = checked (check.UnknownElement at) refl r
program_cause bytes (UnknownAttribute at) r = checked (check.UnknownAttribute at) refl r
program_cause bytes (TwiceDefined at) r = checked (check.TwiceDefined at) refl r
program_cause bytes (UsedBeforeDefined at) r = checked (check.UsedBeforeDefined at) refl r
program_cause bytes (FallbackNotPlain at) r = checked (check.FallbackNotPlain at) refl r
program_cause bytes NoApp r = checked check.NoApp refl r
program_cause bytes (TooDeep depth) r = checked (check.TooDeep depth) refl r
program_cause bytes (TooLarge limit) r = absurd r

module _ (laws : ProgramLaws) where
  same_file : (bytes : List ℕ) (a b : File) → IsTextOf bytes a → IsTextOf bytes b → a ≡ b
  same_file bytes a b p q =
      let tokens : q.tokens ≡ p.tokens = laws.one_tokens bytes q.tokens p.tokens q.are_tokens p.are_tokens in
      laws.one_file (words_of bytes p.tokens) a b p.spelled (subst (λ (ts : List Token). IsSpelled bytes ts b) tokens q.spelled)

  no_memory_fault : (f : ProgramFault) (fault : CheckFault) → fault ≡ check.OutOfMemory → fault_as fault ≡ Some f → ⊥
  no_memory_fault f fault e h = none_some (sym (ap fault_as e) ∙ h)
    where
      none_some : None ≡ Some f → ⊥
      none_some e = cc

  -- text that spells a file has no fault but of the rules
  text_sound : (bytes : List ℕ) (file : File) (f : ProgramFault) → IsTextOf bytes file → ProgramCause bytes f
      → ((fault : CheckFault) → fault_as fault ≡ Some f → IsFaultOf file fault → ⊥) → ⊥
  text_sound bytes file f p (cut valid e c) rules = not_cut bytes valid p.utf8 c
  text_sound bytes file f p (lexed at kind e utf8 c) rules = laws.not_both bytes p.tokens at kind p.are_tokens c
  text_sound bytes file f p (parsed at w e c) rules =
      not_refused bytes p.tokens at file p.spelled
      (subst (λ (ts : List Token). IsRefusedAt bytes ts at) (laws.one_tokens bytes c.tokens p.tokens c.are_tokens p.are_tokens) c.cause.0)
  text_sound bytes file f p (checked fault e c) rules =
      rules fault e (subst (λ (x : File). IsFaultOf x fault) (same_file bytes c.file file c.spells p) c.cause)

  pub program_sound : (bytes : List ℕ) (file : File) (f : ProgramFault) → IsProgram bytes file → RefusesProgramBytes bytes f → ⊥
  program_sound bytes file f p r =
      text_sound bytes file f p.spells (program_cause bytes f r)
      (λ fault e c. no_memory_fault f fault (laws.no_check file fault p.is_app c) e)

  pub program_excludes : (name : List ℕ) (file : Option (List ℕ)) (program : File) (refusal : Refusal) → AcceptsProgram file program
      → RefusesProgram ⊥ name file refusal → ⊥
  program_excludes name file program refusal a r =
      file_excludes Program RefusesProgramBytes most_program_bytes name file a.bytes refusal a.is_file
      (λ f. program_sound a.bytes program f a.is_program) r

  pub one_program : (file : Option (List ℕ)) (a b : File) → AcceptsProgram file a → AcceptsProgram file b → a ≡ b
  one_program file a b p q =
      same_file p.bytes a b p.is_program.spells
      (subst (λ (bs : List ℕ). IsTextOf bs b) (same_bytes file q.bytes p.bytes q.is_file.found p.is_file.found) q.is_program.spells)

  same_found : (a b : ProgramFault) (f g : CheckFault) → f ≡ g → fault_as f ≡ Some a → fault_as g ≡ Some b → a ≡ b
  same_found a b f g e p q = same_some (sym p ∙ (ap fault_as e ∙ q))
    where
      same_some : Some a ≡ Some b → a ≡ b
      same_some e = cc

  one_checked : (bytes : List ℕ) (a b : ProgramFault) (f g : CheckFault) → fault_as f ≡ Some a → fault_as g ≡ Some b
      → HasCheckFault bytes f → HasCheckFault bytes g → a ≡ b
  one_checked bytes a b f g e h p q =
      by_law (laws.one_check p.file f g p.cause (subst (λ (x : File). IsFaultOf x g) (same_file bytes q.file p.file q.spells p.spells) q.cause))
    where
      by_law : (f ≡ check.OutOfMemory) ⊎ (g ≡ check.OutOfMemory) ⊎ (f ≡ g) → a ≡ b
      by_law (inl m) = absurd (no_memory_fault a f m e)
      by_law (inr (inl m)) = absurd (no_memory_fault b g m h)
      by_law (inr (inr one)) = same_found a b f g one e h

  -- text with tokens is not refused by the lexer
  has_tokens : (bytes : List ℕ) (tokens : List Token) (at : ℕ) (kind : LexKind) → AreTokens bytes tokens → IsFaultAt bytes at kind → ⊥
  has_tokens = laws.not_both

  parsed_text : (bytes : List ℕ) (m : ℕ) (w : Wanted) (file : File) → HasSyntaxFault bytes m w → IsTextOf bytes file → ⊥
  parsed_text bytes m w file c p =
      not_refused bytes p.tokens m file p.spelled
      (subst (λ (ts : List Token). IsRefusedAt bytes ts m) (laws.one_tokens bytes c.tokens p.tokens c.are_tokens p.are_tokens) c.cause.0)

  one_parsed : (bytes : List ℕ) (m n : ℕ) (v w : Wanted) → HasSyntaxFault bytes m v → HasSyntaxFault bytes n w → (m ≡ n) × (v ≡ w)
  one_parsed bytes m n v w p q =
      laws.one_syntax bytes p.tokens m n v w p.cause
      (subst (λ (ts : List Token). HasCause bytes ts (syntax.Bad n w)) (laws.one_tokens bytes q.tokens p.tokens q.are_tokens p.are_tokens) q.cause)

  one_cause : (bytes : List ℕ) (a b : ProgramFault) → ProgramCause bytes a → ProgramCause bytes b → a ≡ b
  one_cause bytes a b (cut m e p) (cut n f q) = e ∙ (ap NotUtf8 (same_valid bytes m n p q) ∙ sym f)
  one_cause bytes a b (cut m e p) (lexed n k f utf8 q) = absurd (not_cut bytes m utf8 p)
  one_cause bytes a b (cut m e p) (parsed n w f q) = absurd (not_cut bytes m q.utf8 p)
  one_cause bytes a b (cut m e p) (checked g f q) = absurd (not_cut bytes m q.spells.utf8 p)
  one_cause bytes a b (lexed m j e utf8 p) (cut n f q) = absurd (not_cut bytes n utf8 q)
  one_cause bytes a b (lexed m j e utf8 p) (lexed n k f also q) =
      let one = laws.one_lex bytes m n j k p q in e ∙ (ap₂ LexFault one.0 one.1 ∙ sym f)
  one_cause bytes a b (lexed m j e utf8 p) (parsed n w f q) = absurd (has_tokens bytes q.tokens m j q.are_tokens p)
  one_cause bytes a b (lexed m j e utf8 p) (checked g f q) = absurd (has_tokens bytes q.spells.tokens m j q.spells.are_tokens p)
  one_cause bytes a b (parsed m v e p) (cut n f q) = absurd (not_cut bytes n p.utf8 q)
  one_cause bytes a b (parsed m v e p) (lexed n k f utf8 q) = absurd (has_tokens bytes p.tokens n k p.are_tokens q)
  one_cause bytes a b (parsed m v e p) (parsed n w f q) =
      let one = one_parsed bytes m n v w p q in e ∙ (ap₂ SyntaxFault one.0 one.1 ∙ sym f)
  one_cause bytes a b (parsed m v e p) (checked g f q) = absurd (parsed_text bytes m v q.file p q.spells)
  one_cause bytes a b (checked g e p) (cut n f q) = absurd (not_cut bytes n p.spells.utf8 q)
  one_cause bytes a b (checked g e p) (lexed n k f utf8 q) = absurd (has_tokens bytes p.spells.tokens n k p.spells.are_tokens q)
  one_cause bytes a b (checked g e p) (parsed n w f q) = absurd (parsed_text bytes n w p.file q p.spells)
  one_cause bytes a b (checked g e p) (checked h f q) = one_checked bytes a b g h e f p q

  pub one_program_fault : (bytes : List ℕ) (a b : ProgramFault) → RefusesProgramBytes bytes a → RefusesProgramBytes bytes b
      → a ≡ b
  one_program_fault bytes a b p q = one_cause bytes a b (program_cause bytes a p) (program_cause bytes b q)

syntax_refusal : (A : Type 0) (accepts : A → Type 0) (bytes : List ℕ) (tokens : List Token) (fault : SyntaxFound) → IsUtf8 bytes
    → AreTokens bytes tokens → HasCause bytes tokens fault
    → AcceptsOrRefuses accepts (RefusesProgramBytes bytes) (Err (syntax_fault fault))
syntax_refusal A accepts bytes tokens (syntax.Bad at_ wanted) utf8 are cause =
    record { utf8 = utf8; tokens = tokens; are_tokens = are; cause = cause }
syntax_refusal A accepts bytes tokens syntax.OutOfMemory utf8 are cause = tt

-- what the parser refuses a text for, the text is refused for
pub refuses_syntax : (A : Type 0) (accepts : A → Type 0) (bytes : List ℕ) (tokens : List Token) (fault : SyntaxFound)
    (e : OrMemory ProgramFault) → e ≡ syntax_fault fault → IsUtf8 bytes → AreTokens bytes tokens → HasCause bytes tokens fault
    → AcceptsOrRefuses accepts (RefusesProgramBytes bytes) (Err e)
refuses_syntax A accepts bytes tokens fault e is utf8 are cause =
    subst (λ (x : OrMemory ProgramFault). AcceptsOrRefuses accepts (RefusesProgramBytes bytes) (Err x)) (sym is)
    (syntax_refusal A accepts bytes tokens fault utf8 are cause)
