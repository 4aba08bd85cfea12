-- What the clauses of `read_words` follow from.
use Rattle.std.proofs.Common.{◌≡◌, ◌∙◌, ◌≤◌, Bool, true, false, refl, sym, ap, ap₂, subst, List, [], ◌∷◌, length, Option, Some, Result, Ok, Err, IfOk, inl, inr, true≢false}
use Rattle.std.specs.Prelude.{◌||◌, option_and_then}
use Rattle.std.specs.List.{list_any}
use Rattle.clap.specs.Words.{App, HasKind, HasMatchesOf, IsAmong, Kinds, Text, fault_of, is_simple, is_simple_and_free, kind_of, subcommand_of, subcommand_rows_of}
use Rattle.clap.specs.declared.error.Error.{Error}
use Rattle.clap.specs.declared.error.kind.ErrorKind.{ErrorKind}
use Rattle.clap.specs.declared.error.kind.ErrorKind.TheVariants as kind
use Rattle.clap.specs.declared.parser.matches.ArgMatches.{ArgMatches}
use Rattle.clap.proofs.OnLiterals.{clap_on_literals}
use Rattle.fizz_words.proofs.RowsLemmas.{cons_nil}
use Rattle.fizz_words.proofs.TakenLemmas.{taken_as}
use Rattle.fizz_words.specs.Commands.{IsInline, prefix_of}
use Rattle.fizz_words.specs.Grammar.{fizz}
use Rattle.fizz_words.specs.Meaning.{IsAnswer, IsKept, IsMeant, command_in, command_of, faults_of, is_asked, is_mistake, unless_faulty}
use Rattle.fizz_words.specs.declared.command.Command.{Command}
use Rattle.fizz_words.specs.declared.words.WordsFault.{WordsFault}
use Rattle.fizz_words.specs.declared.words.WordsFault.TheVariants.{Usage, Told, PrefixTooLong, OutOfMemory}

simple : is_simple fizz ≡ true
unfolding clap_on_literals
simple = refl

free : is_simple_and_free fizz ≡ true
unfolding clap_on_literals
free = refl

when_clean : (k : Kinds) (m : Option Command) (command : Command) → k ≡ [] → m ≡ Some command → unless_faulty k m ≡ Some command
when_clean [] m command e is = is
when_clean (k ∷ ks) m command e is = absurd (cons_nil k ks e)

pub meant_by : (a : App) (ws words : List Text) (m : ArgMatches) (command : Command) → a ≡ fizz → ws ≡ words → HasMatchesOf a ws m
    → (is_simple_and_free a ≡ true → fault_of a ws ≡ []) → option_and_then command_in (subcommand_rows_of m) ≡ Some command
    → command_of words ≡ Some command
meant_by a ws words m command app same has clean is =
    let none : faults_of words ≡ [] = ap₂ fault_of (sym app) (sym same) ∙ clean (ap is_simple_and_free app ∙ free) in
    let rows : subcommand_rows_of m ≡ subcommand_of fizz words = (has (ap is_simple app ∙ simple)).1 ∙ ap₂ subcommand_of app same in
    when_clean (faults_of words) (option_and_then command_in (subcommand_of fizz words)) command none
    (ap (option_and_then command_in) (sym rows) ∙ is)

pub kept_is : (words : List Text) (command : Command) (r : Result Command WordsFault) → command_of words ≡ Some command → IsKept command r → IsMeant words r
kept_is words command (Ok kept) is k = (is ∙ ap Some (sym k.0), subst (λ (x : Command). length (prefix_of x) ≤ 64) (sym k.0) k.1)
kept_is words command (Err (PrefixTooLong n)) is k = (command, is, k.0, k.1)
kept_is words command (Err (Usage text)) is k = absurd k
kept_is words command (Err (Told text)) is k = absurd k
kept_is words command (Err OutOfMemory) is k = absurd k

pub kept_inline : (words : List Text) (command : Command) (r : Result Command WordsFault) → command_of words ≡ Some command → IsKept command r → IfOk r IsInline
kept_inline words command (Ok kept) is k =
    let fits = taken_as words command is in
    subst IsInline (sym k.0) (record { alone = fits.alone; short = k.1; some = fits.some; sized = fits.sized })
kept_inline words command (Err e) is k = tt

or_left : (b x : Bool) → b ≡ true → (b || x) ≡ true
or_left true x e = refl
or_left false x e = absurd (true≢false (sym e))

or_after : (b x : Bool) → x ≡ true → (b || x) ≡ true
or_after true x e = refl
or_after false x e = e

among_any : (p : ErrorKind → Bool) (k : ErrorKind) (kinds : Kinds) → IsAmong k kinds → p k ≡ true → list_any p kinds ≡ true
among_any p k [] among is = absurd among
among_any p k (x ∷ xs) among is = elim among [
  | inl e ↦ or_left (p x) (list_any p xs) (subst (λ (y : ErrorKind). p y ≡ true) e is)
  | inr more ↦ or_after (p x) (list_any p xs) (among_any p k xs more is)
]

has_any : (p : ErrorKind → Bool) (kinds : Kinds) (e : Error) → p kind.OutOfMemory ≡ false → HasKind kinds e → p (kind_of e) ≡ true → list_any p kinds ≡ true
has_any p kinds e memory has is = elim has [
  | inl m ↦ absurd (true≢false (sym is ∙ ap p m ∙ memory))
  | inr among ↦ among_any p (kind_of e) kinds among is
]

answered : (words : List Text) (e : Error) (f : WordsFault) → HasKind (faults_of words) e → IsAnswer (kind_of e) f → IsMeant words (Err f)
answered words e (Usage text) has is = has_any is_mistake (faults_of words) e refl has is
answered words e (Told text) has is = has_any is_asked (faults_of words) e refl has is
answered words e (PrefixTooLong n) has is = absurd is
answered words e OutOfMemory has is = tt

pub refused_by : (a : App) (ws words : List Text) (e : Error) (f : WordsFault) → a ≡ fizz → ws ≡ words
    → (is_simple_and_free a ≡ true → HasKind (fault_of a ws) e) → IsAnswer (kind_of e) f → IsMeant words (Err f)
refused_by a ws words e f app same has is =
    answered words e f (subst (λ (kinds : Kinds). HasKind kinds e) (ap₂ fault_of app same) (has (ap is_simple_and_free app ∙ free))) is
