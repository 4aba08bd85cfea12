-- The words of a text's tokens stand in a row, and so the names and numbers of their productions are the lexer's.
use Rattle.std.proofs.Common.{◌≡◌, ℕ, ◌+◌, zero, suc, ◌<◌, ◌^◌, ◌==◌, Bool, true, false, if◌then◌else◌, ◌⊎◌, inl, inr, List, [], ◌∷◌, ◌++◌, length, map, codes, Option, Some, None, pos, neg_ℤ, refl, sym, ap, subst, ◌∙◌, arith, append-nil}
use Rattle.std.specs.Char.{is_ascii_digit}
use Rattle.std.specs.Fmt.{decimal, signed_decimal}
use Rattle.std.specs.List.{list_all}
use Rattle.std.specs.Str.Parse.{AllDigits, digits_value}
use Rattle.std.proofs.lemmas.Bool.{ne_eqb}
use Rattle.std.proofs.lemmas.Fmt.{decimal-digits_value}
use Rattle.std.proofs.lemmas.Str.Parse.{numerals_by_value, tells_digits}
use Rattle.jsx_lex.specs.Lexemes.{Lexeme, HasForm, IsSign, spellings, Leads}
use Rattle.jsx_lex.specs.Meanings.{number_of}
use Rattle.jsx_lex.specs.ModeStack.{ModesAt, first_modes, modes_after}
use Rattle.jsx_lex.specs.SignTable.{SignRow, row, signs_of, first_sign, code_signs, tag_signs, children_signs, close_signs}
use Rattle.jsx_lex.specs.Characters.{begins}
use Rattle.jsx_lex.specs.TokenLists.{AreTokens, tokens_from}
use Rattle.jsx_lex.specs.TokenMeanings.{punctuator_rows, punctuator_of, word_at, words_of}
use Rattle.jsx_lex.specs.Words.{IsDigits, IsNumber}
use Rattle.jsx_lex.specs.declared.mode.Mode.{Mode}
use Rattle.jsx_lex.specs.declared.mode.Mode.TheVariants.{Code, Tag, Children, Close}
use Rattle.jsx_lex.specs.declared.mode.Change.{Change}
use Rattle.jsx_lex.specs.declared.mode.Change.TheVariants.{Keep, Push, Turn, Pop}
use Rattle.jsx_lex.specs.declared.token.Token.{Token}
use Rattle.jsx_lex.specs.declared.token.TokenKind.{TokenKind}
use Rattle.jsx_lex.specs.declared.token.TokenKind.TheVariants.{Name, Number, Str, TagStr, JsxText, Sign}
use Rattle.jsx_lex.specs.declared.word.Word.{Word}
use Rattle.jsx_lex.specs.declared.word.Word.TheVariants as w
use Rattle.jsx_lex.specs.declared.word.Punctuator.{Punctuator}
use Rattle.jsx_lex.specs.declared.word.Punctuator.TheVariants as p
use Rattle.jsx_lex.proofs.Numbers.{digits_after, digits_whole}
use Rattle.jsx_syntax.specs.Trees.{is_suspense}
use Rattle.jsx_syntax.specs.Words.{name_word}
use Rattle.jsx_syntax.specs.Grammar.{Sort, Syntax, spell, equal_sign}
use Rattle.jsx_syntax.specs.Grammar as g
use Rattle.jsx_print.specs.Rows.{change_of, IsNameOf, IsNumeralOf}
use Rattle.jsx_print.specs.Sound.{Sound}
use Rattle.jsx_print.proofs.RowLemmas.{first_true, some_is, lexeme, word_for, lexed, all_lexed}

true_false : true ≡ false → ⊥
true_false is = cc

-- Numbers.

digits_are : (ds : List ℕ) → AllDigits 10 ds → IsDigits ds → digits_value 10 ds < 2 ^ 64 → decimal (digits_value 10 ds) ≡ ds
digits_are [] all h low = absurd h
digits_are (d ∷ ds) all h low =
    decimal-digits_value (numerals_by_value (AllDigits 10) tells_digits) (d ∷ ds) all (omega arith)
    (λ zero_first. ap (λ (xs : List ℕ). length (d ∷ xs)) (h.1 zero_first)) low

negative_is : (n : ℕ) → 0 < n → signed_decimal (neg_ℤ (pos n)) ≡ 45 ∷ decimal n
negative_is zero h = absurd (omega arith)
negative_is (suc n) h = refl

no_minus : (b : ℕ) (bs : List ℕ) → list_all is_ascii_digit (b ∷ bs) ≡ true → b ≡ 45 → ⊥
no_minus b bs h is = true_false (sym (first_true (is_ascii_digit b) (list_all is_ascii_digit bs) h) ∙ ap is_ascii_digit is)

number_is : (word : List ℕ) → IsNumber word → signed_decimal (number_of word) ≡ word
number_is [] h = absurd h
number_is (b ∷ bs) (inl h) =
    let apart : b ≡ 45 → ⊥ = no_minus b bs h.0.0 in
    let test : (b == 45) ≡ false = ne_eqb b 45 apart in
    let whole : number_of (b ∷ bs) ≡ pos (digits_value 10 (b ∷ bs)) = rw test refl in
    let low : digits_value 10 (b ∷ bs) < 2 ^ 64 = let v = h.1 in omega arith in
    ap signed_decimal whole ∙ digits_are (b ∷ bs) (digits_whole (b ∷ bs) (inl h) apart) h.0 low
number_is (b ∷ bs) (inr h) =
    let value : number_of (45 ∷ bs) ≡ neg_ℤ (pos (digits_value 10 bs)) = refl in
    let low : digits_value 10 bs < 2 ^ 64 = let v = h.3 in omega arith in
    ap (λ (c : ℕ). signed_decimal (number_of (c ∷ bs))) h.0
    ∙ (negative_is (digits_value 10 bs) h.2
    ∙ (ap (λ (xs : List ℕ). 45 ∷ xs) (digits_are bs (digits_after (b ∷ bs) (inr h) h.0) h.1 low)
    ∙ ap (λ (c : ℕ). c ∷ bs) (sym h.0)))

numeral_of : (word : List ℕ) → IsNumber word → IsNumeralOf (number_of word)
numeral_of word h = (subst IsNumber (sym (number_is word h)) h, ap number_of (number_is word h))

-- Signs: each row of a mode's table does what is said of its mark.

abbrev Fit : Mode → SignRow → Type 0
Fit m r = change_of m (punctuator_of r.bytes) ≡ Some r.change

abbrev AllFit : Mode → List SignRow → Type 0
AllFit m [] = Unit {0}
AllFit m (r ∷ rs) = Fit m r × AllFit m rs

rows_fit : (m : Mode) → AllFit m (signs_of m)
unfolding code_signs tag_signs children_signs close_signs punctuator_rows
rows_fit Code = (refl, (refl, (refl, (refl, (refl, (refl, (refl, (refl, (refl, (refl, (refl, (refl, (refl, (refl, (refl, (refl, (refl, (refl, (refl, (refl, tt))))))))))))))))))))
rows_fit Tag = (refl, (refl, (refl, (refl, tt))))
rows_fit Children = (refl, (refl, (refl, tt)))
rows_fit Close = (refl, tt)

found_at : (m : Mode) (t : Bool) (x r : SignRow) (later : Option SignRow) → Fit m x → (later ≡ Some r → Fit m r) → (if t then Some x else later) ≡ Some r → Fit m r
found_at m true x r later here there e = subst (Fit m) (some_is x r e) here
found_at m false x r later here there e = there e

found_fits : (m : Mode) (rs : List SignRow) (text : List ℕ) (r : SignRow) → AllFit m rs → first_sign rs text ≡ Some r → Fit m r
found_fits m [] text r fits e = absurd (cc)
found_fits m (x ∷ xs) text r fits e =
    found_at m (begins x.bytes text) x r (first_sign xs text) fits.0 (λ f. found_fits m xs text r fits.1 f) e

-- The words of tokens, as the modes lead from one to the next.

abbrev pub Follows : ModesAt → List Word → ModesAt → Type 0
Follows modes [] last = modes ≡ last
Follows modes (w.Name text place ∷ words) last = IsNameOf modes.mode text × Follows modes words last
Follows modes (w.Number z ∷ words) last = IsNumeralOf z × Follows modes words last
Follows modes (w.Text text ∷ words) last = Follows modes words last
Follows modes (w.JsxText text ∷ words) last = Follows modes words last
Follows modes (w.Sign sign ∷ words) last =
    (change : Change) × (change_of modes.mode sign ≡ Some change) × Follows (modes_after change modes) words last

abbrev at_mode : Mode → List Mode → ModesAt
at_mode m around = record { mode = m; around = around }

abbrev Form : Mode → Option TokenKind → List ℕ → Change → List ℕ → Type 0
Form m kind bytes c after = (HasForm m kind bytes after × (c ≡ Keep)) ⊎ IsSign m (lexeme kind bytes c) after

abbrev After : Mode → List Mode → Change → List Word → ModesAt → Type 0
After m around c words last = Follows (modes_after c (at_mode m around)) words last

stays : (m : Mode) (around : List Mode) (c : Change) (words : List Word) (last : ModesAt) → c ≡ Keep → After m around c words last → Follows (at_mode m around) words last
stays m around c words last e h = subst (λ (x : Change). After m around x words last) e h

no_sign : (k : TokenKind) → Some k ≡ Some Sign → k ≡ Sign
no_sign k e = some_is k Sign e

one_follows : (m : Mode) (around : List Mode) (kind : Option TokenKind) (bytes : List ℕ) (c : Change) (after : List ℕ) (from : ℕ) (words : List Word) (last : ModesAt)
    → Form m kind bytes c after → After m around c words last → Follows (at_mode m around) (word_for kind from bytes ++ words) last
one_follows m around None bytes c after from words last (inl f) h = stays m around c words last f.1 h
one_follows m around None bytes c after from words last (inr f) h = let e : None ≡ Some Sign = f.0 in absurd (cc)
one_follows Code around (Some Name) bytes c after from words last (inl f) h = (f.0.0, stays Code around c words last f.1 h)
one_follows Tag around (Some Name) bytes c after from words last (inl f) h = (f.0.0, stays Tag around c words last f.1 h)
one_follows Children around (Some Name) bytes c after from words last (inl f) h = absurd f.0
one_follows Close around (Some Name) bytes c after from words last (inl f) h = (f.0.0, stays Close around c words last f.1 h)
one_follows m around (Some Name) bytes c after from words last (inr f) h = let e : Name ≡ Sign = no_sign Name f.0 in absurd (cc)
one_follows Code around (Some Number) bytes c after from words last (inl f) h = (numeral_of bytes f.0.0, stays Code around c words last f.1 h)
one_follows Tag around (Some Number) bytes c after from words last (inl f) h = absurd f.0
one_follows Children around (Some Number) bytes c after from words last (inl f) h = absurd f.0
one_follows Close around (Some Number) bytes c after from words last (inl f) h = absurd f.0
one_follows m around (Some Number) bytes c after from words last (inr f) h = let e : Number ≡ Sign = no_sign Number f.0 in absurd (cc)
one_follows m around (Some Str) bytes c after from words last (inl f) h = stays m around c words last f.1 h
one_follows m around (Some Str) bytes c after from words last (inr f) h = let e : Str ≡ Sign = no_sign Str f.0 in absurd (cc)
one_follows m around (Some TagStr) bytes c after from words last (inl f) h = stays m around c words last f.1 h
one_follows m around (Some TagStr) bytes c after from words last (inr f) h = let e : TagStr ≡ Sign = no_sign TagStr f.0 in absurd (cc)
one_follows m around (Some JsxText) bytes c after from words last (inl f) h = stays m around c words last f.1 h
one_follows m around (Some JsxText) bytes c after from words last (inr f) h = let e : JsxText ≡ Sign = no_sign JsxText f.0 in absurd (cc)
one_follows Code around (Some Sign) bytes c after from words last (inl f) h = absurd f.0
one_follows Tag around (Some Sign) bytes c after from words last (inl f) h = absurd f.0
one_follows Children around (Some Sign) bytes c after from words last (inl f) h = absurd f.0
one_follows Close around (Some Sign) bytes c after from words last (inl f) h = absurd f.0
one_follows m around (Some Sign) bytes c after from words last (inr f) h =
    (c, found_fits m (signs_of m) (bytes ++ after) (row bytes c) (rows_fit m) f.1, h)

all_follow : (modes : ModesAt) (from : ℕ) (xs : List Lexeme) (rest : List ℕ) (last : ModesAt) → Leads modes xs rest last → Follows modes (lexed from xs) last
all_follow modes from [] rest last h = h
all_follow modes from (x ∷ xs) rest last h =
    one_follows modes.mode modes.around x.kind x.bytes x.change (spellings xs ++ rest) from (lexed (from + length x.bytes) xs) last h.0.form
    (all_follow (modes_after x.change modes) (from + length x.bytes) xs rest last h.1)

pub words_follow : (text : List ℕ) (tokens : List Token) → AreTokens text tokens → Follows first_modes (words_of text tokens) first_modes
words_follow text tokens h =
    let xs : List Lexeme = h.lexemes in
    let bytes : spellings xs ++ [] ≡ text = append-nil (spellings xs) ∙ sym h.split in
    let inner : words_of text (tokens_from 0 xs) ≡ lexed 0 xs =
    subst (λ (zs : List ℕ). map (word_at zs) (tokens_from 0 xs) ≡ lexed 0 xs) bytes (all_lexed [] 0 xs [] refl) in
    let all : words_of text tokens ≡ lexed 0 xs = ap (λ (ts : List Token). words_of text ts) h.tokens_are ∙ inner in
    subst (λ (ws : List Word). Follows first_modes ws first_modes) (sym all) (all_follow first_modes 0 xs [] first_modes h.leads)

-- Productions whose words stand so are sound.

past : (s : Punctuator) (m : Mode) (around : List Mode) (c : Change) (words : List Word) (last : ModesAt) → change_of m s ≡ Some c
    → Follows (at_mode m around) (w.Sign s ∷ words) last → Follows (modes_after c (at_mode m around)) words last
past s m around c words last is h =
    subst (λ (x : Change). Follows (modes_after x (at_mode m around)) words last) (some_is h.0 c (sym h.1 ∙ is)) h.2

-- a mode in which `<` begins an element
abbrev HoldsElements : Mode → Type 0
HoldsElements Code = Unit {0}
HoldsElements Tag = ⊥
HoldsElements Children = Unit {0}
HoldsElements Close = ⊥

opened : (m : Mode) (around : List Mode) (words : List Word) (last : ModesAt) → HoldsElements m
    → Follows (at_mode m around) (w.Sign p.Less ∷ words) last → Follows (at_mode Tag (m ∷ around)) words last
opened Code around words last held h = past p.Less Code around (Push Tag) words last refl h
opened Tag around words last held h = absurd held
opened Children around words last held h = past p.Less Children around (Push Tag) words last refl h
opened Close around words last held h = absurd held

past_equal : (negated : Bool) (around : List Mode) (words : List Word) (last : ModesAt)
    → Follows (at_mode Code around) (w.Sign (equal_sign negated) ∷ words) last → Follows (at_mode Code around) words last
past_equal false around words last h = past p.StrictEqual Code around Keep words last refl h
past_equal true around words last h = past p.StrictNotEqual Code around Keep words last refl h

abbrev Reads : (s : Sort) → Syntax s → Mode → Type 0
Reads s c m = (around : List Mode) (more : List Word) (last : ModesAt) → Follows (at_mode m around) (spell s c more) last
    → Sound false s c × Follows (at_mode m around) more last

abbrev Read : (s : Sort) → Syntax s → Type 0
Read g.element c = (m : Mode) → HoldsElements m → Reads g.element c m
Read g.primary c = Reads g.primary c Code
Read g.member c = Reads g.member c Code
Read g.unary c = Reads g.unary c Code
Read g.sum c = Reads g.sum c Code
Read g.equality c = Reads g.equality c Code
Read g.conjunction c = Reads g.conjunction c Code
Read g.disjunction c = Reads g.disjunction c Code
Read g.expression c = Reads g.expression c Code
Read g.node_primary c = Reads g.node_primary c Code
Read g.node_conjunction c = Reads g.node_conjunction c Code
Read g.node_disjunction c = Reads g.node_disjunction c Code
Read g.node c = Reads g.node c Code
Read g.node_list c = Reads g.node_list c Code
Read g.names c = Reads g.names c Code
Read g.properties c = Reads g.properties c Code
Read g.statement c = Reads g.statement c Code
Read g.statements c = Reads g.statements c Code
Read g.component c = Reads g.component c Code
Read g.components c = Reads g.components c Code
Read (g.attribute b) c = Reads (g.attribute b) c Tag
Read (g.attributes b) c = Reads (g.attributes b) c Tag
Read g.child c = Reads g.child c Children
Read g.children c = Reads g.children c Children

reads : (s : Sort) (c : Syntax s) → Read s c
reads _ (g.number z) = λ around more last h. (h.0, h.1)
reads _ (g.string x) = λ around more last h. (tt, h)
reads _ (g.truth q) = λ around more last h. (tt, h.1)
reads _ (g.falsity q) = λ around more last h. (tt, h.1)
reads _ (g.null q) = λ around more last h. (tt, h.1)
reads _ (g.undefined q) = λ around more last h. (tt, h.1)
reads _ (g.variable x) = λ around more last h. (h.0, h.1)
reads _ (g.parens c) = λ around more last h.
    let a = reads _ c around (w.Sign p.CloseParen ∷ more) last (past p.OpenParen Code around Keep (spell g.expression c (w.Sign p.CloseParen ∷ more)) last refl h) in
    (a.0, past p.CloseParen Code around Keep more last refl a.1)
reads _ (g.no_member c) = reads _ c
reads _ (g.dot c x) = λ around more last h.
    let a = reads _ c around (w.Sign p.Dot ∷ name_word x ∷ more) last h in
    let b = past p.Dot Code around Keep (name_word x ∷ more) last refl a.1 in
    ((a.0, b.0), b.1)
reads _ (g.no_bang c) = reads _ c
reads _ (g.bang c) = λ around more last h. reads _ c around more last (past p.Not Code around Keep (spell g.unary c more) last refl h)
reads _ (g.no_plus c) = reads _ c
reads _ (g.no_equal c) = reads _ c
reads _ (g.equal b c d) = λ around more last h.
    let x = reads _ c around (w.Sign (equal_sign b) ∷ spell g.sum d more) last h in
    let y = reads _ d around more last (past_equal b around (spell g.sum d more) last x.1) in
    ((x.0, y.0), y.1)
reads _ (g.no_and c) = reads _ c
reads _ (g.no_or c) = reads _ c
reads _ (g.no_choice c) = reads _ c
reads _ (g.plus c d) = λ around more last h.
    let x = reads _ c around (w.Sign p.Plus ∷ spell g.unary d more) last h in
    let y = reads _ d around more last (past p.Plus Code around Keep (spell g.unary d more) last refl x.1) in
    ((x.0, y.0), y.1)
reads _ (g.and c d) = λ around more last h.
    let x = reads _ c around (w.Sign p.AndAnd ∷ spell g.equality d more) last h in
    let y = reads _ d around more last (past p.AndAnd Code around Keep (spell g.equality d more) last refl x.1) in
    ((x.0, y.0), y.1)
reads _ (g.or c d) = λ around more last h.
    let x = reads _ c around (w.Sign p.OrOr ∷ spell g.conjunction d more) last h in
    let y = reads _ d around more last (past p.OrOr Code around Keep (spell g.conjunction d more) last refl x.1) in
    ((x.0, y.0), y.1)
reads _ (g.or_last c d) = λ around more last h.
    let x = reads _ c around (w.Sign p.OrOr ∷ spell g.node_conjunction d more) last h in
    let y = reads _ d around more last (past p.OrOr Code around Keep (spell g.node_conjunction d more) last refl x.1) in
    ((x.0, y.0), y.1)
reads _ (g.and_last c d) = λ around more last h.
    let x = reads _ c around (w.Sign p.AndAnd ∷ spell g.node_primary d more) last h in
    let y = reads _ d around more last (past p.AndAnd Code around Keep (spell g.node_primary d more) last refl x.1) in
    ((x.0, y.0), y.1)
reads _ (g.next_node c d) = λ around more last h.
    let x = reads _ c around (w.Sign p.Comma ∷ spell g.node d more) last h in
    let y = reads _ d around more last (past p.Comma Code around Keep (spell g.node d more) last refl x.1) in
    ((x.0, y.0), y.1)
reads _ (g.choice c d f) = λ around more last h.
    let tail : List Word = w.Sign p.Colon ∷ spell g.expression f more in
    let x = reads _ c around (w.Sign p.Question ∷ spell g.expression d tail) last h in
    let y = reads _ d around tail last (past p.Question Code around Keep (spell g.expression d tail) last refl x.1) in
    let z = reads _ f around more last (past p.Colon Code around Keep (spell g.expression f more) last refl y.1) in
    ((x.0, y.0, z.0), z.1)
reads _ (g.node_choice c d f) = λ around more last h.
    let tail : List Word = w.Sign p.Colon ∷ spell g.node f more in
    let x = reads _ c around (w.Sign p.Question ∷ spell g.node d tail) last h in
    let y = reads _ d around tail last (past p.Question Code around Keep (spell g.node d tail) last refl x.1) in
    let z = reads _ f around more last (past p.Colon Code around Keep (spell g.node f more) last refl y.1) in
    ((x.0, y.0, z.0), z.1)
reads _ (g.value c) = reads _ c
reads _ (g.chain c) = reads _ c
reads _ (g.or_alone c) = reads _ c
reads _ (g.and_alone c) = reads _ c
reads _ (g.node_parens c) = λ around more last h.
    let a = reads _ c around (w.Sign p.CloseParen ∷ more) last (past p.OpenParen Code around Keep (spell g.node c (w.Sign p.CloseParen ∷ more)) last refl h) in
    (a.0, past p.CloseParen Code around Keep more last refl a.1)
reads _ (g.element_node c) = reads _ c Code tt
reads _ g.empty_array = λ around more last h.
    (tt, past p.CloseBracket Code around Keep more last refl (past p.OpenBracket Code around Keep (w.Sign p.CloseBracket ∷ more) last refl h))
reads _ (g.array c false) = λ around more last h.
    let end : List Word = w.Sign p.CloseBracket ∷ more in
    let a = reads _ c around end last (past p.OpenBracket Code around Keep (spell g.node_list c end) last refl h) in
    (a.0, past p.CloseBracket Code around Keep more last refl a.1)
reads _ (g.array c true) = λ around more last h.
    let end : List Word = w.Sign p.CloseBracket ∷ more in
    let a = reads _ c around (w.Sign p.Comma ∷ end) last (past p.OpenBracket Code around Keep (spell g.node_list c (w.Sign p.Comma ∷ end)) last refl h) in
    (a.0, past p.CloseBracket Code around Keep more last refl (past p.Comma Code around Keep end last refl a.1))
reads _ (g.first_node c) = reads _ c
reads _ (g.map_node c q item None d) = λ around more last h.
    let end : List Word = w.Sign p.CloseParen ∷ more in
    let body : List Word = spell g.node d end in
    let names : List Word = name_word item ∷ w.Sign p.CloseParen ∷ w.Sign p.Arrow ∷ body in
    let a = reads _ c around (w.Sign p.Dot ∷ w.Name (codes "map") q ∷ w.Sign p.OpenParen ∷ w.Sign p.OpenParen ∷ names) last h in
    let b = past p.Dot Code around Keep (w.Name (codes "map") q ∷ w.Sign p.OpenParen ∷ w.Sign p.OpenParen ∷ names) last refl a.1 in
    let n = past p.OpenParen Code around Keep names last refl (past p.OpenParen Code around Keep (w.Sign p.OpenParen ∷ names) last refl b.1) in
    let k = reads _ d around end last (past p.Arrow Code around Keep body last refl (past p.CloseParen Code around Keep (w.Sign p.Arrow ∷ body) last refl n.1)) in
    ((a.0, n.0, tt, k.0), past p.CloseParen Code around Keep more last refl k.1)
reads _ (g.map_node c q item (Some number_) d) = λ around more last h.
    let end : List Word = w.Sign p.CloseParen ∷ more in
    let body : List Word = spell g.node d end in
    let tail : List Word = name_word number_ ∷ w.Sign p.CloseParen ∷ w.Sign p.Arrow ∷ body in
    let names : List Word = name_word item ∷ w.Sign p.Comma ∷ tail in
    let a = reads _ c around (w.Sign p.Dot ∷ w.Name (codes "map") q ∷ w.Sign p.OpenParen ∷ w.Sign p.OpenParen ∷ names) last h in
    let b = past p.Dot Code around Keep (w.Name (codes "map") q ∷ w.Sign p.OpenParen ∷ w.Sign p.OpenParen ∷ names) last refl a.1 in
    let n = past p.OpenParen Code around Keep names last refl (past p.OpenParen Code around Keep (w.Sign p.OpenParen ∷ names) last refl b.1) in
    let i = past p.Comma Code around Keep tail last refl n.1 in
    let k = reads _ d around end last (past p.Arrow Code around Keep body last refl (past p.CloseParen Code around Keep (w.Sign p.Arrow ∷ body) last refl i.1)) in
    ((a.0, n.0, i.0, k.0), past p.CloseParen Code around Keep more last refl k.1)
reads _ (g.closed x c) = λ m held around more last h.
    let end : List Word = w.Sign p.SlashGreater ∷ more in
    let o = opened m around (name_word x ∷ spell (g.attributes (is_suspense x.text)) c end) last held h in
    let a = reads _ c (m ∷ around) end last o.1 in
    ((o.0, a.0), past p.SlashGreater Tag (m ∷ around) Pop more last refl a.1)
reads _ (g.paired x c d q) = λ m held around more last h.
    let name : List Word = w.Name x.text q ∷ w.Sign p.Greater ∷ more in
    let kids : List Word = spell g.children d (w.Sign p.LessSlash ∷ name) in
    let o = opened m around (name_word x ∷ spell (g.attributes (is_suspense x.text)) c (w.Sign p.Greater ∷ kids)) last held h in
    let a = reads _ c (m ∷ around) (w.Sign p.Greater ∷ kids) last o.1 in
    let b = reads _ d (m ∷ around) (w.Sign p.LessSlash ∷ name) last (past p.Greater Tag (m ∷ around) (Turn Children) kids last refl a.1) in
    let e = past p.LessSlash Children (m ∷ around) (Turn Close) name last refl b.1 in
    ((o.0, a.0, b.0), past p.Greater Close (m ∷ around) Pop more last refl e.1)
reads _ (g.fragment c) = λ m held around more last h.
    let end : List Word = w.Sign p.LessSlash ∷ w.Sign p.Greater ∷ more in
    let o = opened m around (w.Sign p.Greater ∷ spell g.children c end) last held h in
    let a = reads _ c (m ∷ around) end last (past p.Greater Tag (m ∷ around) (Turn Children) (spell g.children c end) last refl o) in
    let e = past p.LessSlash Children (m ∷ around) (Turn Close) (w.Sign p.Greater ∷ more) last refl a.1 in
    (a.0, past p.Greater Close (m ∷ around) Pop more last refl e)
reads _ (g.flag x) = λ around more last h. (h.0, h.1)
reads _ (g.quoted x v) = λ around more last h. ((h.0, refl), past p.Assign Tag around Keep (w.Text v ∷ more) last refl h.1)
reads _ (g.braced x c) = λ around more last h.
    let end : List Word = w.Sign p.CloseBrace ∷ more in
    let o = past p.Assign Tag around Keep (w.Sign p.OpenBrace ∷ spell g.expression c end) last refl h.1 in
    let a = reads _ c (Tag ∷ around) end last (past p.OpenBrace Tag around (Push Code) (spell g.expression c end) last refl o) in
    ((h.0, a.0), past p.CloseBrace Code (Tag ∷ around) Pop more last refl a.1)
reads _ (g.fallback x c) = λ around more last h.
    let end : List Word = w.Sign p.CloseBrace ∷ more in
    let o = past p.Assign Tag around Keep (w.Sign p.OpenBrace ∷ spell g.node c end) last refl h.1 in
    let a = reads _ c (Tag ∷ around) end last (past p.OpenBrace Tag around (Push Code) (spell g.node c end) last refl o) in
    ((h.0, a.0), past p.CloseBrace Code (Tag ∷ around) Pop more last refl a.1)
reads _ g.no_attribute = λ around more last h. (tt, h)
reads _ (g.next_attribute {b = b} c d) = λ around more last h.
    let x = reads _ c around (spell (g.attribute b) d more) last h in
    let y = reads _ d around more last x.1 in
    ((x.0, y.0), y.1)
reads _ (g.text x) = λ around more last h. (refl, h)
reads _ g.empty_braces = λ around more last h.
    (tt, past p.CloseBrace Code (Children ∷ around) Pop more last refl (past p.OpenBrace Children around (Push Code) (w.Sign p.CloseBrace ∷ more) last refl h))
reads _ (g.braces c) = λ around more last h.
    let end : List Word = w.Sign p.CloseBrace ∷ more in
    let a = reads _ c (Children ∷ around) end last (past p.OpenBrace Children around (Push Code) (spell g.node c end) last refl h) in
    (a.0, past p.CloseBrace Code (Children ∷ around) Pop more last refl a.1)
reads _ (g.element_child c) = reads _ c Children tt
reads _ g.no_child = λ around more last h. (tt, h)
reads _ (g.next_child c d) = λ around more last h.
    let x = reads _ c around (spell g.child d more) last h in
    let y = reads _ d around more last x.1 in
    ((x.0, y.0), y.1)
reads _ (g.first_name x) = λ around more last h. (h.0, h.1)
reads _ (g.next_name c x) = λ around more last h.
    let a = reads _ c around (w.Sign p.Comma ∷ name_word x ∷ more) last h in
    let b = past p.Comma Code around Keep (name_word x ∷ more) last refl a.1 in
    ((a.0, b.0), b.1)
reads _ g.no_properties = λ around more last h. (tt, h)
reads _ g.empty_properties = λ around more last h.
    (tt, past p.CloseBrace Code (Code ∷ around) Pop more last refl (past p.OpenBrace Code around (Push Code) (w.Sign p.CloseBrace ∷ more) last refl h))
reads _ (g.braced_properties c) = λ around more last h.
    let end : List Word = w.Sign p.CloseBrace ∷ more in
    let a = reads _ c (Code ∷ around) end last (past p.OpenBrace Code around (Push Code) (spell g.names c end) last refl h) in
    (a.0, past p.CloseBrace Code (Code ∷ around) Pop more last refl a.1)
reads _ (g.fetch q x used c) = λ around more last h.
    let end : List Word = w.Sign p.CloseParen ∷ w.Sign p.Semicolon ∷ more in
    let b = past p.Assign Code around Keep (w.Name (codes "use") used ∷ w.Sign p.OpenParen ∷ spell g.expression c end) last refl h.1.1 in
    let a = reads _ c around end last (past p.OpenParen Code around Keep (spell g.expression c end) last refl b.1) in
    ((h.1.0, a.0), past p.Semicolon Code around Keep more last refl (past p.CloseParen Code around Keep (w.Sign p.Semicolon ∷ more) last refl a.1))
reads _ (g.bind q x c) = λ around more last h.
    let end : List Word = w.Sign p.Semicolon ∷ more in
    let a = reads _ c around end last (past p.Assign Code around Keep (spell g.expression c end) last refl h.1.1) in
    ((h.1.0, a.0), past p.Semicolon Code around Keep more last refl a.1)
reads _ (g.throw q c thrown d) = λ around more last h.
    let digest : List Word = spell g.expression d (w.Sign p.Semicolon ∷ more) in
    let end : List Word = w.Sign p.CloseParen ∷ w.Name (codes "throw") thrown ∷ digest in
    let a = reads _ c around end last (past p.OpenParen Code around Keep (spell g.expression c end) last refl h.1) in
    let b = past p.CloseParen Code around Keep (w.Name (codes "throw") thrown ∷ digest) last refl a.1 in
    let e = reads _ d around (w.Sign p.Semicolon ∷ more) last b.1 in
    ((a.0, e.0), past p.Semicolon Code around Keep more last refl e.1)
reads _ g.no_statement = λ around more last h. (tt, h)
reads _ (g.next_statement c d) = λ around more last h.
    let x = reads _ c around (spell g.statement d more) last h in
    let y = reads _ d around more last x.1 in
    ((x.0, y.0), y.1)
reads _ (g.function q x c d returned k) = λ around more last h.
    let close : List Word = w.Sign p.CloseBrace ∷ more in
    let node : List Word = spell g.node k (w.Sign p.Semicolon ∷ close) in
    let body : List Word = spell g.statements d (w.Name (codes "return") returned ∷ node) in
    let head : List Word = w.Sign p.CloseParen ∷ w.Sign p.OpenBrace ∷ body in
    let a = reads _ c around head last (past p.OpenParen Code around Keep (spell g.properties c head) last refl h.1.1) in
    let o = past p.OpenBrace Code around (Push Code) body last refl (past p.CloseParen Code around Keep (w.Sign p.OpenBrace ∷ body) last refl a.1) in
    let b = reads _ d (Code ∷ around) (w.Name (codes "return") returned ∷ node) last o in
    let e = reads _ k (Code ∷ around) (w.Sign p.Semicolon ∷ close) last b.1.1 in
    ((h.1.0, a.0, b.0, e.0), past p.CloseBrace Code (Code ∷ around) Pop more last refl (past p.Semicolon Code (Code ∷ around) Keep close last refl e.1))
reads _ g.no_component = λ around more last h. (tt, h)
reads _ (g.next_component c d) = λ around more last h.
    let x = reads _ c around (spell g.component d more) last h in
    let y = reads _ d around more last x.1 in
    ((x.0, y.0), y.1)

pub sound_of : (text : List ℕ) (tokens : List Token) (c : Syntax g.components) → AreTokens text tokens → spell g.components c [] ≡ words_of text tokens
    → Sound false g.components c
sound_of text tokens c are spelled =
    (reads g.components c [] [] first_modes (subst (λ (ws : List Word). Follows first_modes ws first_modes) (sym spelled) (words_follow text tokens are))).0
