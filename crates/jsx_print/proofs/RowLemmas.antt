-- Words in a row have exactly the tokens that say them.
use Rattle.std.proofs.Common.{◌≡◌, ◌≢◌, ℕ, ◌+◌, ◌-◌, ◌==◌, ◌&&◌, ◌⊎◌, nat_eq, Bool, true, false, inl, inr, if◌then◌else◌, List, [], ◌∷◌, ◌++◌, length, take, drop, map, codes, slice_range, Option, Some, None, unwrap_or, All, ℤ, refl, sym, ap, subst, ◌∙◌, ⊎_elim, arith, append_assoc, append-nil, length-append}
use Rattle.std.specs.List.{flat_map, list_all}
use Rattle.std.specs.Fmt.{signed_decimal}
use Rattle.std.specs.Char.{is_ascii_digit}
use Rattle.std.proofs.lemmas.Bool.{eqb-true, eqb-false, ne_eqb}
use Rattle.std.proofs.lemmas.List.{take_at, drop_at, map-append}
use Rattle.std.proofs.lemmas.List.Elements.{All-nil, All-cons}
use Rattle.jsx_lex.specs.Characters.{is_name_start, is_name_part, is_tag_name_part}
use Rattle.jsx_lex.specs.Lexemes.{Lexeme, HasForm, Stands, spellings, Leads}
use Rattle.jsx_lex.specs.ModeStack.{ModesAt, first_modes, modes_after}
use Rattle.jsx_lex.specs.SignTable.{row, signs_of, first_sign, code_signs, tag_signs, children_signs, close_signs}
use Rattle.jsx_lex.specs.Words.{IsName, IsNumber, IsStr}
use Rattle.jsx_lex.specs.StringParts.{StringPart, plain, escaped, spelling_of, meaning_of, IsPart}
use Rattle.jsx_lex.specs.Meanings.{string_text_of}
use Rattle.jsx_lex.specs.TokenLists.{token_at, tokens_from}
use Rattle.jsx_lex.specs.TokenMeanings.{punctuator_rows, punctuator_of, word_of, word_at}
use Rattle.jsx_lex.proofs.StringTextLemmas.{string_text_of-is}
use Rattle.jsx_lex.specs.declared.mode.Mode.{Mode}
use Rattle.jsx_lex.specs.declared.mode.Mode.TheVariants.{Code, Tag, Children, Close}
use Rattle.jsx_lex.specs.declared.mode.Change.{Change}
use Rattle.jsx_lex.specs.declared.mode.Change.TheVariants.{Keep, Push}
use Rattle.jsx_lex.specs.declared.token.TokenKind.{TokenKind}
use Rattle.jsx_lex.specs.declared.token.TokenKind.TheVariants.{Name, Number, Str, Sign}
use Rattle.jsx_lex.specs.declared.word.Word.{Word}
use Rattle.jsx_lex.specs.declared.word.Word.TheVariants as w
use Rattle.jsx_lex.specs.declared.word.Punctuator.{Punctuator}
use Rattle.jsx_lex.specs.declared.word.Punctuator.TheVariants as p
use Rattle.jsx_print.specs.Spelling.{sign_text, gap_after, escaped_byte, name_bytes, number_bytes, sign_bytes, string_bytes, spelled}
use Rattle.jsx_print.specs.Spelling as spelling
use Rattle.jsx_print.specs.Printed.{IsLexed}
use Rattle.jsx_print.specs.Rows.{change_of, IsNameOf, NoSlash, Row, placed}

pub some_is : {A : Type 0} (x y : A) → Some x ≡ Some y → x ≡ y
some_is x y e = cc

none_is : {A : Type 0} (y : A) → None ≡ Some y → ⊥
none_is y e = cc

abbrev NotSlash : List ℕ → Type 0
NotSlash [] = Unit {0}
NotSlash (b ∷ bs) = (b == 47) ≡ false

-- `<` between tags, before anything but `/`
less_found : (b : ℕ) (bs : List ℕ) → (b == 47) ≡ false → first_sign children_signs (60 ∷ b ∷ bs) ≡ Some (row (codes "<") (Push Tag))
unfolding children_signs
less_found b bs e = let plain : (47 == b) ≡ false = ne_eqb 47 b (λ is. eqb-false b 47 e (sym is)) in rw plain refl

-- The sign of its mode's table, whatever comes after it and its gap.
sign_found : (m : Mode) (s : Punctuator) (c : Change) (after : List ℕ) → change_of m s ≡ Some c → (s ≡ p.Less → NotSlash after)
    → first_sign (signs_of m) (sign_text s ++ (gap_after s ++ after)) ≡ Some (row (sign_text s) c)
unfolding code_signs tag_signs children_signs close_signs
sign_found Code p.StrictEqual c after e k = ap (λ (x : Change). Some (row (codes "===") x)) (some_is _ c e)
sign_found Code p.StrictNotEqual c after e k = ap (λ (x : Change). Some (row (codes "!==") x)) (some_is _ c e)
sign_found Code p.Arrow c after e k = ap (λ (x : Change). Some (row (codes "=>") x)) (some_is _ c e)
sign_found Code p.AndAnd c after e k = ap (λ (x : Change). Some (row (codes "&&") x)) (some_is _ c e)
sign_found Code p.OrOr c after e k = ap (λ (x : Change). Some (row (codes "||") x)) (some_is _ c e)
sign_found Code p.OpenBrace c after e k = ap (λ (x : Change). Some (row (codes "{") x)) (some_is _ c e)
sign_found Code p.CloseBrace c after e k = ap (λ (x : Change). Some (row (codes "}") x)) (some_is _ c e)
sign_found Code p.OpenParen c after e k = ap (λ (x : Change). Some (row (codes "(") x)) (some_is _ c e)
sign_found Code p.CloseParen c after e k = ap (λ (x : Change). Some (row (codes ")") x)) (some_is _ c e)
sign_found Code p.OpenBracket c after e k = ap (λ (x : Change). Some (row (codes "[") x)) (some_is _ c e)
sign_found Code p.CloseBracket c after e k = ap (λ (x : Change). Some (row (codes "]") x)) (some_is _ c e)
sign_found Code p.Comma c after e k = ap (λ (x : Change). Some (row (codes ",") x)) (some_is _ c e)
sign_found Code p.Semicolon c after e k = ap (λ (x : Change). Some (row (codes ";") x)) (some_is _ c e)
sign_found Code p.Colon c after e k = ap (λ (x : Change). Some (row (codes ":") x)) (some_is _ c e)
sign_found Code p.Dot c after e k = ap (λ (x : Change). Some (row (codes ".") x)) (some_is _ c e)
sign_found Code p.Question c after e k = ap (λ (x : Change). Some (row (codes "?") x)) (some_is _ c e)
sign_found Code p.Not c after e k = ap (λ (x : Change). Some (row (codes "!") x)) (some_is _ c e)
sign_found Code p.Assign c after e k = ap (λ (x : Change). Some (row (codes "=") x)) (some_is _ c e)
sign_found Code p.Plus c after e k = ap (λ (x : Change). Some (row (codes "+") x)) (some_is _ c e)
sign_found Code p.Less c after e k = ap (λ (x : Change). Some (row (codes "<") x)) (some_is _ c e)
sign_found Code p.Greater c after e k = absurd (none_is c e)
sign_found Code p.SlashGreater c after e k = absurd (none_is c e)
sign_found Code p.LessSlash c after e k = absurd (none_is c e)
sign_found Tag p.StrictEqual c after e k = absurd (none_is c e)
sign_found Tag p.StrictNotEqual c after e k = absurd (none_is c e)
sign_found Tag p.Arrow c after e k = absurd (none_is c e)
sign_found Tag p.AndAnd c after e k = absurd (none_is c e)
sign_found Tag p.OrOr c after e k = absurd (none_is c e)
sign_found Tag p.OpenBrace c after e k = ap (λ (x : Change). Some (row (codes "{") x)) (some_is _ c e)
sign_found Tag p.CloseBrace c after e k = absurd (none_is c e)
sign_found Tag p.OpenParen c after e k = absurd (none_is c e)
sign_found Tag p.CloseParen c after e k = absurd (none_is c e)
sign_found Tag p.OpenBracket c after e k = absurd (none_is c e)
sign_found Tag p.CloseBracket c after e k = absurd (none_is c e)
sign_found Tag p.Comma c after e k = absurd (none_is c e)
sign_found Tag p.Semicolon c after e k = absurd (none_is c e)
sign_found Tag p.Colon c after e k = absurd (none_is c e)
sign_found Tag p.Dot c after e k = absurd (none_is c e)
sign_found Tag p.Question c after e k = absurd (none_is c e)
sign_found Tag p.Not c after e k = absurd (none_is c e)
sign_found Tag p.Assign c after e k = ap (λ (x : Change). Some (row (codes "=") x)) (some_is _ c e)
sign_found Tag p.Plus c after e k = absurd (none_is c e)
sign_found Tag p.Less c after e k = absurd (none_is c e)
sign_found Tag p.Greater c after e k = ap (λ (x : Change). Some (row (codes ">") x)) (some_is _ c e)
sign_found Tag p.SlashGreater c after e k = ap (λ (x : Change). Some (row (codes "/>") x)) (some_is _ c e)
sign_found Tag p.LessSlash c after e k = absurd (none_is c e)
sign_found Children p.StrictEqual c after e k = absurd (none_is c e)
sign_found Children p.StrictNotEqual c after e k = absurd (none_is c e)
sign_found Children p.Arrow c after e k = absurd (none_is c e)
sign_found Children p.AndAnd c after e k = absurd (none_is c e)
sign_found Children p.OrOr c after e k = absurd (none_is c e)
sign_found Children p.OpenBrace c after e k = ap (λ (x : Change). Some (row (codes "{") x)) (some_is _ c e)
sign_found Children p.CloseBrace c after e k = absurd (none_is c e)
sign_found Children p.OpenParen c after e k = absurd (none_is c e)
sign_found Children p.CloseParen c after e k = absurd (none_is c e)
sign_found Children p.OpenBracket c after e k = absurd (none_is c e)
sign_found Children p.CloseBracket c after e k = absurd (none_is c e)
sign_found Children p.Comma c after e k = absurd (none_is c e)
sign_found Children p.Semicolon c after e k = absurd (none_is c e)
sign_found Children p.Colon c after e k = absurd (none_is c e)
sign_found Children p.Dot c after e k = absurd (none_is c e)
sign_found Children p.Question c after e k = absurd (none_is c e)
sign_found Children p.Not c after e k = absurd (none_is c e)
sign_found Children p.Assign c after e k = absurd (none_is c e)
sign_found Children p.Plus c after e k = absurd (none_is c e)
sign_found Children p.Less c [] e k = ap (λ (x : Change). Some (row (codes "<") x)) (some_is _ c e)
sign_found Children p.Less c (b ∷ bs) e k = less_found b bs (k refl) ∙ ap (λ (x : Change). Some (row (codes "<") x)) (some_is _ c e)
sign_found Children p.Greater c after e k = absurd (none_is c e)
sign_found Children p.SlashGreater c after e k = absurd (none_is c e)
sign_found Children p.LessSlash c after e k = ap (λ (x : Change). Some (row (codes "</") x)) (some_is _ c e)
sign_found Close p.StrictEqual c after e k = absurd (none_is c e)
sign_found Close p.StrictNotEqual c after e k = absurd (none_is c e)
sign_found Close p.Arrow c after e k = absurd (none_is c e)
sign_found Close p.AndAnd c after e k = absurd (none_is c e)
sign_found Close p.OrOr c after e k = absurd (none_is c e)
sign_found Close p.OpenBrace c after e k = absurd (none_is c e)
sign_found Close p.CloseBrace c after e k = absurd (none_is c e)
sign_found Close p.OpenParen c after e k = absurd (none_is c e)
sign_found Close p.CloseParen c after e k = absurd (none_is c e)
sign_found Close p.OpenBracket c after e k = absurd (none_is c e)
sign_found Close p.CloseBracket c after e k = absurd (none_is c e)
sign_found Close p.Comma c after e k = absurd (none_is c e)
sign_found Close p.Semicolon c after e k = absurd (none_is c e)
sign_found Close p.Colon c after e k = absurd (none_is c e)
sign_found Close p.Dot c after e k = absurd (none_is c e)
sign_found Close p.Question c after e k = absurd (none_is c e)
sign_found Close p.Not c after e k = absurd (none_is c e)
sign_found Close p.Assign c after e k = absurd (none_is c e)
sign_found Close p.Plus c after e k = absurd (none_is c e)
sign_found Close p.Less c after e k = absurd (none_is c e)
sign_found Close p.Greater c after e k = ap (λ (x : Change). Some (row (codes ">") x)) (some_is _ c e)
sign_found Close p.SlashGreater c after e k = absurd (none_is c e)
sign_found Close p.LessSlash c after e k = absurd (none_is c e)

-- The lexemes of words in a row: each word's own, and the space after it.

abbrev pub lexeme : Option TokenKind → List ℕ → Change → Lexeme
lexeme kind bytes change = record { kind = kind; bytes = bytes; change = change }

abbrev pub gap : Lexeme
gap = lexeme None (32 ∷ []) Keep

abbrev pub with_gap : List ℕ → List Lexeme → List Lexeme
with_gap [] xs = xs
with_gap (b ∷ bs) xs = gap ∷ xs

abbrev pub sign_change : Mode → Punctuator → Change
sign_change m s = unwrap_or (change_of m s) Keep

abbrev pub lexemes : ModesAt → List Word → List Lexeme
lexemes modes [] = []
lexemes modes (w.Name text place ∷ words) = lexeme (Some Name) text Keep ∷ gap ∷ lexemes modes words
lexemes modes (w.Number z ∷ words) = lexeme (Some Number) (signed_decimal z) Keep ∷ gap ∷ lexemes modes words
lexemes modes (w.Text text ∷ words) = lexeme (Some Str) (string_bytes text) Keep ∷ lexemes modes words
lexemes modes (w.JsxText text ∷ words) = []
lexemes modes (w.Sign s ∷ words) =
    lexeme (Some Sign) (sign_text s) (sign_change modes.mode s) ∷ with_gap (gap_after s) (lexemes (modes_after (sign_change modes.mode s) modes) words)

-- Their bytes are those of the words.
gap_bytes : (s : Punctuator) (xs : List Lexeme) → spellings (with_gap (gap_after s) xs) ≡ gap_after s ++ spellings xs
gap_bytes p.StrictEqual xs = refl
gap_bytes p.StrictNotEqual xs = refl
gap_bytes p.Arrow xs = refl
gap_bytes p.AndAnd xs = refl
gap_bytes p.OrOr xs = refl
gap_bytes p.OpenBrace xs = refl
gap_bytes p.CloseBrace xs = refl
gap_bytes p.OpenParen xs = refl
gap_bytes p.CloseParen xs = refl
gap_bytes p.OpenBracket xs = refl
gap_bytes p.CloseBracket xs = refl
gap_bytes p.Comma xs = refl
gap_bytes p.Semicolon xs = refl
gap_bytes p.Colon xs = refl
gap_bytes p.Dot xs = refl
gap_bytes p.Question xs = refl
gap_bytes p.Not xs = refl
gap_bytes p.Assign xs = refl
gap_bytes p.Plus xs = refl
gap_bytes p.Less xs = refl
gap_bytes p.Greater xs = refl
gap_bytes p.SlashGreater xs = refl
gap_bytes p.LessSlash xs = refl

change_is : (m : Mode) (s : Punctuator) (c : Change) → change_of m s ≡ Some c → sign_change m s ≡ c
change_is m s c e = ap (λ (o : Option Change). unwrap_or o Keep) e

pub lexemes_bytes : (modes : ModesAt) (words : List Word) (last : ModesAt) → Row modes words last → spellings (lexemes modes words) ≡ spelled words
lexemes_bytes modes [] last h = refl
lexemes_bytes modes (w.Name text place ∷ words) last h =
    ap (λ (bs : List ℕ). text ++ (32 ∷ bs)) (lexemes_bytes modes words last h.1) ∙ sym (append_assoc text (32 ∷ []) (spelled words))
lexemes_bytes modes (w.Number z ∷ words) last h =
    ap (λ (bs : List ℕ). signed_decimal z ++ (32 ∷ bs)) (lexemes_bytes modes words last h.2) ∙ sym (append_assoc (signed_decimal z) (32 ∷ []) (spelled words))
lexemes_bytes modes (w.Text text ∷ words) last h = ap (λ (bs : List ℕ). string_bytes text ++ bs) (lexemes_bytes modes words last h.1)
lexemes_bytes modes (w.JsxText text ∷ words) last h = absurd h
lexemes_bytes modes (w.Sign s ∷ words) last h =
    let same : sign_change modes.mode s ≡ h.0 = change_is modes.mode s h.0 h.1 in
    let inner : List Lexeme = lexemes (modes_after (sign_change modes.mode s) modes) words in
    ap (λ (bs : List ℕ). sign_text s ++ bs) (gap_bytes s inner ∙ ap (λ (bs : List ℕ). gap_after s ++ bs)
    (lexemes_bytes (modes_after (sign_change modes.mode s) modes) words last (subst (λ (c : Change). Row (modes_after c modes) words last) (sym same) h.4)))
    ∙ sym (append_assoc (sign_text s) (gap_after s) (spelled words))

-- What may stand where.

true_false : true ≡ false → ⊥
true_false is = cc

pub first_true : (x y : Bool) → (x && y) ≡ true → x ≡ true
first_true true y h = refl
first_true false y h = h

abbrev begins_brace : List ℕ → Bool
begins_brace [] = false
begins_brace (b ∷ bs) = nat_eq b 125

head_is : (a b : ℕ) (xs ys : List ℕ) → a ∷ xs ≡ b ∷ ys → a ≡ b
head_is a b xs ys e = cc

abbrev HasSpaces : Mode → Type 0
HasSpaces Code = Unit {0}
HasSpaces Tag = Unit {0}
HasSpaces Children = ⊥
HasSpaces Close = Unit {0}

gap_form : (m : Mode) (after : List ℕ) → HasSpaces m → HasForm m None (32 ∷ []) after
gap_form Code after h = inl refl
gap_form Tag after h = refl
gap_form Children after h = absurd h
gap_form Close after h = refl

gap_stands : (modes : ModesAt) (after : List ℕ) → HasSpaces modes.mode → Stands modes gap after
gap_stands modes after h = record { form = inl (gap_form modes.mode after h, refl); closes = λ first e. true_false (sym (ap begins_brace e)) }

name_form : (m : Mode) (text after : List ℕ) → IsNameOf m text → HasForm m (Some Name) text (32 ∷ after)
name_form Code text after h = (h, refl)
name_form Tag text after h = (h, refl)
name_form Children text after h = absurd h
name_form Close text after h = (h, refl)

name_spaces : (m : Mode) (text : List ℕ) → IsNameOf m text → HasSpaces m
name_spaces Code text h = tt
name_spaces Tag text h = tt
name_spaces Children text h = absurd h
name_spaces Close text h = tt

no_brace_name : (test : ℕ → Bool) (text : List ℕ) → IsName test text → text ≢ codes "}"
no_brace_name test [] h e = absurd h
no_brace_name test (b ∷ bs) h e = true_false (sym h.0 ∙ ap is_name_start (head_is b 125 bs [] e))

name_brace : (m : Mode) (text : List ℕ) → IsNameOf m text → text ≢ codes "}"
name_brace Code text h = no_brace_name is_name_part text h
name_brace Tag text h = no_brace_name is_tag_name_part text h
name_brace Children text h = absurd h
name_brace Close text h = no_brace_name is_tag_name_part text h

all_head : (b : ℕ) (bs : List ℕ) → list_all is_ascii_digit (b ∷ bs) ≡ true → is_ascii_digit b ≡ true
all_head b bs h = first_true (is_ascii_digit b) (list_all is_ascii_digit bs) h

-- the first character of a Number
number_start : (b : ℕ) (bs : List ℕ) → IsNumber (b ∷ bs) → (is_ascii_digit b ≡ true) ⊎ (b ≡ 45)
number_start b bs (inl h) = inl (all_head b bs h.0.0)
number_start b bs (inr h) = inr h.0

number_brace : (word : List ℕ) → IsNumber word → word ≢ codes "}"
number_brace [] h e = absurd h
number_brace (b ∷ bs) h e =
    let is : b ≡ 125 = head_is b 125 bs [] e in
    ⊎_elim (λ digit. true_false (sym digit ∙ ap is_ascii_digit is)) (λ minus. omega arith) (number_start b bs h)

brace_only : (s : Punctuator) → begins_brace (sign_text s) ≡ true → s ≡ p.CloseBrace
brace_only p.StrictEqual e = absurd (true_false (sym e))
brace_only p.StrictNotEqual e = absurd (true_false (sym e))
brace_only p.Arrow e = absurd (true_false (sym e))
brace_only p.AndAnd e = absurd (true_false (sym e))
brace_only p.OrOr e = absurd (true_false (sym e))
brace_only p.OpenBrace e = absurd (true_false (sym e))
brace_only p.CloseBrace e = refl
brace_only p.OpenParen e = absurd (true_false (sym e))
brace_only p.CloseParen e = absurd (true_false (sym e))
brace_only p.OpenBracket e = absurd (true_false (sym e))
brace_only p.CloseBracket e = absurd (true_false (sym e))
brace_only p.Comma e = absurd (true_false (sym e))
brace_only p.Semicolon e = absurd (true_false (sym e))
brace_only p.Colon e = absurd (true_false (sym e))
brace_only p.Dot e = absurd (true_false (sym e))
brace_only p.Question e = absurd (true_false (sym e))
brace_only p.Not e = absurd (true_false (sym e))
brace_only p.Assign e = absurd (true_false (sym e))
brace_only p.Plus e = absurd (true_false (sym e))
brace_only p.Less e = absurd (true_false (sym e))
brace_only p.Greater e = absurd (true_false (sym e))
brace_only p.SlashGreater e = absurd (true_false (sym e))
brace_only p.LessSlash e = absurd (true_false (sym e))

-- A string as parts.

abbrev part_of : ℕ → StringPart
part_of b = if b == 34 then escaped 34 else if b == 92 then escaped 92 else if b == 10 then escaped 110 else plain b

each_byte : (x y z : Bool) (b : ℕ) (P : List ℕ → StringPart → Type 0) → (x ≡ true → P (92 ∷ 34 ∷ []) (escaped 34)) → (y ≡ true → P (92 ∷ 92 ∷ []) (escaped 92))
    → (z ≡ true → P (92 ∷ 110 ∷ []) (escaped 110)) → (x ≡ false → y ≡ false → z ≡ false → P (b ∷ []) (plain b))
    → P (if x then codes "\\\"" else if y then codes "\\\\" else if z then codes "\\n" else b ∷ []) (if x then escaped 34 else if y then escaped 92 else if z then escaped 110 else plain b)
each_byte true y z b P quote backslash_ feed other = quote refl
each_byte false true z b P quote backslash_ feed other = backslash_ refl
each_byte false false true b P quote backslash_ feed other = feed refl
each_byte false false false b P quote backslash_ feed other = other refl refl refl

record PartFor (b : ℕ) (bytes : List ℕ) (part : StringPart) : Type 0 where
  spells : spelling_of part ≡ bytes
  means : meaning_of part ≡ b ∷ []
  valid : IsPart 34 part

part_for : (b : ℕ) → PartFor b (escaped_byte b) (part_of b)
part_for b =
    each_byte (b == 34) (b == 92) (b == 10) b (PartFor b)
    (λ is. let e : b ≡ 34 = eqb-true b 34 is in record { spells = refl; means = ap (λ (x : ℕ). x ∷ []) (sym e); valid = refl })
    (λ is. let e : b ≡ 92 = eqb-true b 92 is in record { spells = refl; means = ap (λ (x : ℕ). x ∷ []) (sym e); valid = refl })
    (λ is. let e : b ≡ 10 = eqb-true b 10 is in record { spells = refl; means = ap (λ (x : ℕ). x ∷ []) (sym e); valid = refl })
    (λ x y z. record { spells = refl; means = refl; valid = (eqb-false b 34 x, eqb-false b 92 y, eqb-false b 10 z) })

parts_spell : (text : List ℕ) → spelling.escaped text ≡ flat_map spelling_of (map part_of text)
parts_spell [] = refl
parts_spell (b ∷ bs) =
    ap (λ (xs : List ℕ). xs ++ spelling.escaped bs) (sym (part_for b).spells) ∙ ap (λ (xs : List ℕ). spelling_of (part_of b) ++ xs) (parts_spell bs)

parts_mean : (text : List ℕ) → text ≡ flat_map meaning_of (map part_of text)
parts_mean [] = refl
parts_mean (b ∷ bs) =
    ap (λ (xs : List ℕ). xs ++ bs) (sym (part_for b).means) ∙ ap (λ (xs : List ℕ). meaning_of (part_of b) ++ xs) (parts_mean bs)

parts_valid : (text : List ℕ) → All (IsPart 34) (map part_of text)
parts_valid [] = All-nil (IsPart 34)
parts_valid (b ∷ bs) = All-cons (IsPart 34) (part_of b) (map part_of bs) (part_for b).valid (parts_valid bs)

string_form : (text : List ℕ) → IsStr (string_bytes text)
string_form text = record {
  quote = 34;
  parts = map part_of text;
  quoted = refl;
  valid = parts_valid text;
  spelled = ap (λ (xs : List ℕ). 34 ∷ (xs ++ 34 ∷ [])) (parts_spell text);
}

string_means : (text : List ℕ) → string_text_of (string_bytes text) ≡ text
unfolding string_form
string_means text = sym (string_text_of-is (string_bytes text) text (string_form text, parts_mean text))

string_brace : (text : List ℕ) → string_bytes text ≢ codes "}"
string_brace text e = true_false (sym (ap begins_brace e))

-- What comes after a `<`.

not_slash_start : (test : ℕ → Bool) (text x y : List ℕ) → IsName test text → NotSlash ((text ++ x) ++ y)
not_slash_start test [] x y h = absurd h
not_slash_start test (b ∷ bs) x y h = ne_eqb b 47 (λ is. true_false (sym h.0 ∙ ap is_name_start is))

not_slash_name : (m : Mode) (text x y : List ℕ) → IsNameOf m text → NotSlash ((text ++ x) ++ y)
not_slash_name Code text x y h = not_slash_start is_name_part text x y h
not_slash_name Tag text x y h = not_slash_start is_tag_name_part text x y h
not_slash_name Children text x y h = absurd h
not_slash_name Close text x y h = not_slash_start is_tag_name_part text x y h

not_slash_number : (word x y : List ℕ) → IsNumber word → NotSlash ((word ++ x) ++ y)
not_slash_number [] x y h = absurd h
not_slash_number (b ∷ bs) x y h = ne_eqb b 47 (λ is.
    ⊎_elim (λ digit. true_false (sym digit ∙ ap is_ascii_digit is)) (λ minus. omega arith) (number_start b bs h))

not_slash_sign : (s : Punctuator) (more : List ℕ) → w.Sign s ≢ w.Sign p.SlashGreater → NotSlash (sign_bytes s ++ more)
not_slash_sign p.StrictEqual more h = refl
not_slash_sign p.StrictNotEqual more h = refl
not_slash_sign p.Arrow more h = refl
not_slash_sign p.AndAnd more h = refl
not_slash_sign p.OrOr more h = refl
not_slash_sign p.OpenBrace more h = refl
not_slash_sign p.CloseBrace more h = refl
not_slash_sign p.OpenParen more h = refl
not_slash_sign p.CloseParen more h = refl
not_slash_sign p.OpenBracket more h = refl
not_slash_sign p.CloseBracket more h = refl
not_slash_sign p.Comma more h = refl
not_slash_sign p.Semicolon more h = refl
not_slash_sign p.Colon more h = refl
not_slash_sign p.Dot more h = refl
not_slash_sign p.Question more h = refl
not_slash_sign p.Not more h = refl
not_slash_sign p.Assign more h = refl
not_slash_sign p.Plus more h = refl
not_slash_sign p.Less more h = refl
not_slash_sign p.Greater more h = refl
not_slash_sign p.SlashGreater more h = absurd (h refl)
not_slash_sign p.LessSlash more h = refl

not_slash_row : (modes : ModesAt) (words : List Word) (last : ModesAt) → Row modes words last → NoSlash words → NotSlash (spelled words)
not_slash_row modes [] last h k = tt
not_slash_row modes (w.Name text place ∷ words) last h k = not_slash_name modes.mode text (32 ∷ []) (spelled words) h.0
not_slash_row modes (w.Number z ∷ words) last h k = not_slash_number (signed_decimal z) (32 ∷ []) (spelled words) h.1.0
not_slash_row modes (w.Text text ∷ words) last h k = refl
not_slash_row modes (w.JsxText text ∷ words) last h k = absurd h
not_slash_row modes (w.Sign s ∷ words) last h k = not_slash_sign s (spelled words) k

-- Each lexeme may stand where it does.

abbrev GapFits : List ℕ → Mode → Type 0
GapFits [] m = Unit {0}
GapFits (b ∷ bs) m = HasSpaces m

abbrev modes_at : Mode → List Mode → ModesAt
modes_at m around = record { mode = m; around = around }

gap_fits : (m : Mode) (around : List Mode) (s : Punctuator) (c : Change) → change_of m s ≡ Some c → GapFits (gap_after s) (modes_after c (modes_at m around)).mode
gap_fits m around p.StrictEqual c e = tt
gap_fits m around p.StrictNotEqual c e = tt
gap_fits m around p.Arrow c e = tt
gap_fits m around p.AndAnd c e = tt
gap_fits m around p.OrOr c e = tt
gap_fits m around p.OpenBrace c e = tt
gap_fits m around p.CloseBrace c e = tt
gap_fits m around p.OpenParen c e = tt
gap_fits m around p.CloseParen c e = tt
gap_fits m around p.OpenBracket c e = tt
gap_fits m around p.CloseBracket c e = tt
gap_fits m around p.Comma c e = tt
gap_fits m around p.Semicolon c e = tt
gap_fits m around p.Colon c e = tt
gap_fits m around p.Dot c e = tt
gap_fits m around p.Question c e = tt
gap_fits Code around p.Not c e = subst (λ (x : Change). HasSpaces (modes_after x (modes_at Code around)).mode) (some_is Keep c e) tt
gap_fits Tag around p.Not c e = absurd (none_is c e)
gap_fits Children around p.Not c e = absurd (none_is c e)
gap_fits Close around p.Not c e = absurd (none_is c e)
gap_fits Code around p.Assign c e = subst (λ (x : Change). HasSpaces (modes_after x (modes_at Code around)).mode) (some_is Keep c e) tt
gap_fits Tag around p.Assign c e = subst (λ (x : Change). HasSpaces (modes_after x (modes_at Tag around)).mode) (some_is Keep c e) tt
gap_fits Children around p.Assign c e = absurd (none_is c e)
gap_fits Close around p.Assign c e = absurd (none_is c e)
gap_fits m around p.Plus c e = tt
gap_fits m around p.Less c e = tt
gap_fits m around p.Greater c e = tt
gap_fits m around p.SlashGreater c e = tt
gap_fits m around p.LessSlash c e = tt

gap_leads : (g : List ℕ) (modes : ModesAt) (xs : List Lexeme) (last : ModesAt) → GapFits g modes.mode → Leads modes xs [] last → Leads modes (with_gap g xs) [] last
gap_leads [] modes xs last fits h = h
gap_leads (b ∷ bs) modes xs last fits h = (gap_stands modes (spellings xs ++ []) fits, h)

sign_stands : (modes : ModesAt) (s : Punctuator) (c : Change) (xs : List Lexeme) → change_of modes.mode s ≡ Some c
    → (modes ≡ first_modes → s ≢ p.CloseBrace) → (s ≡ p.Less → NotSlash (spellings xs ++ []))
    → Stands modes (lexeme (Some Sign) (sign_text s) c) (spellings (with_gap (gap_after s) xs) ++ [])
sign_stands modes s c xs e closes k =
    let after : spellings (with_gap (gap_after s) xs) ++ [] ≡ gap_after s ++ (spellings xs ++ []) =
    ap (λ (bs : List ℕ). bs ++ []) (gap_bytes s xs) ∙ append_assoc (gap_after s) (spellings xs) [] in
    record {
      form = inr (refl, ap (λ (bs : List ℕ). first_sign (signs_of modes.mode) (sign_text s ++ bs)) after ∙ sign_found modes.mode s c (spellings xs ++ []) e k);
      closes = λ first is. closes first (brace_only s (ap begins_brace is));
    }

row_leads : (modes : ModesAt) (words : List Word) (last : ModesAt) → Row modes words last → Leads modes (lexemes modes words) [] last
row_leads modes [] last h = h
row_leads modes (w.Name text place ∷ words) last h =
    let after : List ℕ = spellings (lexemes modes words) ++ [] in (
      record { form = inl (name_form modes.mode text after h.0, refl); closes = λ first e. name_brace modes.mode text h.0 e },
      (gap_stands modes after (name_spaces modes.mode text h.0), row_leads modes words last h.1),
    )
row_leads modes (w.Number z ∷ words) last h =
    let after : List ℕ = spellings (lexemes modes words) ++ [] in (
      record {
        form = inl (subst (λ (m : Mode). HasForm m (Some Number) (signed_decimal z) (32 ∷ after)) (sym h.0) (h.1.0, refl), refl);
        closes = λ first e. number_brace (signed_decimal z) h.1.0 e;
      },
      (gap_stands modes after (subst HasSpaces (sym h.0) tt), row_leads modes words last h.2),
    )
row_leads modes (w.Text text ∷ words) last h = (
  record {
    form = inl (subst (λ (m : Mode). HasForm m (Some Str) (string_bytes text) (spellings (lexemes modes words) ++ [])) (sym h.0) (string_form text), refl);
    closes = λ first e. string_brace text e;
  },
  row_leads modes words last h.1,
)
row_leads modes (w.JsxText text ∷ words) last h = absurd h
row_leads modes (w.Sign s ∷ words) last h =
    let c : Change = sign_change modes.mode s in
    let same : c ≡ h.0 = change_is modes.mode s h.0 h.1 in
    let known : change_of modes.mode s ≡ Some c = h.1 ∙ ap (λ (x : Change). Some x) (sym same) in
    let next : ModesAt = modes_after c modes in
    let inner : Row next words last = subst (λ (x : Change). Row (modes_after x modes) words last) (sym same) h.4 in
    let xs : List Lexeme = lexemes next words in
    let bytes : spelled words ≡ spellings xs ++ [] = sym (append-nil (spellings xs) ∙ lexemes_bytes next words last inner) in (
      sign_stands modes s c xs known h.2 (λ less. subst NotSlash bytes (not_slash_row next words last inner (h.3 less))),
      gap_leads (gap_after s) next xs last (gap_fits modes.mode modes.around s c known) (row_leads next words last inner),
    )

-- The words of the tokens.

abbrev pub word_for : Option TokenKind → ℕ → List ℕ → List Word
word_for None from bytes = []
word_for (Some kind) from bytes = word_of kind from bytes ∷ []

abbrev pub lexed : ℕ → List Lexeme → List Word
lexed from [] = []
lexed from (x ∷ xs) = word_for x.kind from x.bytes ++ lexed (from + length x.bytes) xs

one_lexed : (text : List ℕ) (from : ℕ) (kind : Option TokenKind) (word : List ℕ) → slice_range text from (from + length word) ≡ word
    → map (word_at text) (token_at from kind (length word)) ≡ word_for kind from word
one_lexed text from None word e = refl
one_lexed text from (Some k) word e = ap (λ (v : List ℕ). word_of k from v ∷ []) e

pub all_lexed : (front : List ℕ) (from : ℕ) (xs : List Lexeme) (rest : List ℕ) → from ≡ length front
    → map (word_at (front ++ (spellings xs ++ rest))) (tokens_from from xs) ≡ lexed from xs
all_lexed front from [] rest f = refl
all_lexed front from (x ∷ xs) rest f =
    let text : List ℕ = front ++ (spellings (x ∷ xs) ++ rest) in
    let inner : spellings (x ∷ xs) ++ rest ≡ x.bytes ++ (spellings xs ++ rest) = append_assoc x.bytes (spellings xs) rest in
    let at_word : drop from text ≡ x.bytes ++ (spellings xs ++ rest) = drop_at front (spellings (x ∷ xs) ++ rest) from (sym f) ∙ inner in
    let word : slice_range text from (from + length x.bytes) ≡ x.bytes =
    ap (λ (zs : List ℕ). take ((from + length x.bytes) - from) zs) at_word ∙ take_at x.bytes (spellings xs ++ rest) ((from + length x.bytes) - from) (omega arith) in
    let same : (front ++ x.bytes) ++ (spellings xs ++ rest) ≡ text = append_assoc front x.bytes (spellings xs ++ rest) ∙ ap (λ (zs : List ℕ). front ++ zs) (sym inner) in
    let l = length-append front x.bytes in
    let later : map (word_at text) (tokens_from (from + length x.bytes) xs) ≡ lexed (from + length x.bytes) xs =
    subst (λ (zs : List ℕ). map (word_at zs) (tokens_from (from + length x.bytes) xs) ≡ lexed (from + length x.bytes) xs) same
    (all_lexed (front ++ x.bytes) (from + length x.bytes) xs rest (omega arith)) in
    map-append (word_at text) (token_at from x.kind (length x.bytes)) (tokens_from (from + length x.bytes) xs)
    ∙ (ap (λ (ws : List Word). ws ++ map (word_at text) (tokens_from (from + length x.bytes) xs)) (one_lexed text from x.kind x.bytes word)
    ∙ ap (λ (ws : List Word). word_for x.kind from x.bytes ++ ws) later)

sign_word : (s : Punctuator) → punctuator_of (sign_text s) ≡ s
unfolding punctuator_rows
sign_word p.StrictEqual = refl
sign_word p.StrictNotEqual = refl
sign_word p.Arrow = refl
sign_word p.AndAnd = refl
sign_word p.OrOr = refl
sign_word p.OpenBrace = refl
sign_word p.CloseBrace = refl
sign_word p.OpenParen = refl
sign_word p.CloseParen = refl
sign_word p.OpenBracket = refl
sign_word p.CloseBracket = refl
sign_word p.Comma = refl
sign_word p.Semicolon = refl
sign_word p.Colon = refl
sign_word p.Dot = refl
sign_word p.Question = refl
sign_word p.Not = refl
sign_word p.Assign = refl
sign_word p.Plus = refl
sign_word p.Less = refl
sign_word p.Greater = refl
sign_word p.SlashGreater = refl
sign_word p.LessSlash = refl

no_gap : (from : ℕ) (xs : List Lexeme) → lexed from xs ≡ lexed (from + 0) xs
no_gap from xs = ap (λ (k : ℕ). lexed k xs) (omega arith)

gap_lexed : (s : Punctuator) (from : ℕ) (xs : List Lexeme) → lexed from (with_gap (gap_after s) xs) ≡ lexed (from + length (gap_after s)) xs
gap_lexed p.StrictEqual from xs = no_gap from xs
gap_lexed p.StrictNotEqual from xs = no_gap from xs
gap_lexed p.Arrow from xs = no_gap from xs
gap_lexed p.AndAnd from xs = no_gap from xs
gap_lexed p.OrOr from xs = no_gap from xs
gap_lexed p.OpenBrace from xs = no_gap from xs
gap_lexed p.CloseBrace from xs = no_gap from xs
gap_lexed p.OpenParen from xs = no_gap from xs
gap_lexed p.CloseParen from xs = no_gap from xs
gap_lexed p.OpenBracket from xs = no_gap from xs
gap_lexed p.CloseBracket from xs = no_gap from xs
gap_lexed p.Comma from xs = no_gap from xs
gap_lexed p.Semicolon from xs = no_gap from xs
gap_lexed p.Colon from xs = no_gap from xs
gap_lexed p.Dot from xs = no_gap from xs
gap_lexed p.Question from xs = no_gap from xs
gap_lexed p.Not from xs = refl
gap_lexed p.Assign from xs = refl
gap_lexed p.Plus from xs = no_gap from xs
gap_lexed p.Less from xs = no_gap from xs
gap_lexed p.Greater from xs = no_gap from xs
gap_lexed p.SlashGreater from xs = no_gap from xs
gap_lexed p.LessSlash from xs = no_gap from xs

lexed_placed : (modes : ModesAt) (words : List Word) (last : ModesAt) (from : ℕ) → Row modes words last → lexed from (lexemes modes words) ≡ placed from words
lexed_placed modes [] last from h = refl
lexed_placed modes (w.Name text place ∷ words) last from h =
    let l = length-append text (32 ∷ []) in
    let here : from + length text + 1 ≡ from + length (name_bytes text) = omega arith in
    ap (λ (ws : List Word). w.Name text from ∷ ws)
    (ap (λ (k : ℕ). lexed k (lexemes modes words)) here ∙ lexed_placed modes words last (from + length (name_bytes text)) h.1)
lexed_placed modes (w.Number z ∷ words) last from h =
    let l = length-append (signed_decimal z) (32 ∷ []) in
    let here : from + length (signed_decimal z) + 1 ≡ from + length (number_bytes z) = omega arith in
    ap (λ (v : ℤ). w.Number v ∷ lexed (from + length (signed_decimal z) + 1) (lexemes modes words)) h.1.1
    ∙ ap (λ (ws : List Word). w.Number z ∷ ws)
    (ap (λ (k : ℕ). lexed k (lexemes modes words)) here ∙ lexed_placed modes words last (from + length (number_bytes z)) h.2)
lexed_placed modes (w.Text text ∷ words) last from h =
    ap (λ (v : List ℕ). w.Text v ∷ lexed (from + length (string_bytes text)) (lexemes modes words)) (string_means text)
    ∙ ap (λ (ws : List Word). w.Text text ∷ ws) (lexed_placed modes words last (from + length (string_bytes text)) h.1)
lexed_placed modes (w.JsxText text ∷ words) last from h = absurd h
lexed_placed modes (w.Sign s ∷ words) last from h =
    let c : Change = sign_change modes.mode s in
    let same : c ≡ h.0 = change_is modes.mode s h.0 h.1 in
    let next : ModesAt = modes_after c modes in
    let inner : Row next words last = subst (λ (x : Change). Row (modes_after x modes) words last) (sym same) h.4 in
    let xs : List Lexeme = lexemes next words in
    let l = length-append (sign_text s) (gap_after s) in
    let here : from + length (sign_text s) + length (gap_after s) ≡ from + length (sign_bytes s) = omega arith in
    ap (λ (v : Punctuator). w.Sign v ∷ lexed (from + length (sign_text s)) (with_gap (gap_after s) xs)) (sign_word s)
    ∙ ap (λ (ws : List Word). w.Sign s ∷ ws)
    (gap_lexed s (from + length (sign_text s)) xs
    ∙ (ap (λ (k : ℕ). lexed k xs) here ∙ lexed_placed next words last (from + length (sign_bytes s)) inner))

-- Words in a row are what their bytes say.
pub row_lexed : (words : List Word) → Row first_modes words first_modes → IsLexed words
row_lexed words h =
    let xs : List Lexeme = lexemes first_modes words in
    let bytes : spellings xs ++ [] ≡ spelled words = append-nil (spellings xs) ∙ lexemes_bytes first_modes words first_modes h in
    record {
      tokens = tokens_from 0 xs;
      are_tokens = record {
        lexemes = xs;
        split = sym (lexemes_bytes first_modes words first_modes h);
        leads = row_leads first_modes words first_modes h;
        tokens_are = refl;
      };
      words_are = subst (λ (zs : List ℕ). map (word_at zs) (tokens_from 0 xs) ≡ lexed 0 xs) bytes (all_lexed [] 0 xs [] refl)
          ∙ lexed_placed first_modes words first_modes 0 h;
    }
