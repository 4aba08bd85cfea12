-- The tokens of a text have the forms of their kinds.
use Rattle.std.proofs.Common.{◌≡◌, ℕ, ◌+◌, ◌-◌, ◌<◌, inl, inr, true, false, List, [], ◌∷◌, ◌++◌, length, drop, take, get_or, slice_range, Option, Some, None, refl, ap, sym, ◌∙◌, arith, subst, append_assoc, All}
use Rattle.std.proofs.lemmas.Bool.{and_parts, and_from, or_left}
use Rattle.std.proofs.lemmas.List.{length-append, take_at, drop_at, append-nil}
use Rattle.std.proofs.lemmas.List.Elements.{All-nil, All-cons, All-append}
use Rattle.std.specs.List.{list_all}
use Rattle.jsx_lex.specs.Characters.{is_name_part, is_tag_name_part}
use Rattle.jsx_lex.specs.ModeStack.{ModesAt, first_modes, modes_after}
use Rattle.jsx_lex.specs.Words.{IsName}
use Rattle.jsx_lex.specs.Lexemes.{Lexeme, HasForm, Stands, spellings, Leads}
use Rattle.jsx_lex.specs.TokenLists.{token_at, tokens_from, AreTokens}
use Rattle.jsx_lex.specs.TokenWords.{IsWord}
use Rattle.jsx_lex.specs.declared.mode.Mode.{Mode}
use Rattle.jsx_lex.specs.declared.mode.Mode.TheVariants.{Code, Tag, Children, Close}
use Rattle.jsx_lex.specs.declared.token.Token.{Token}
use Rattle.jsx_lex.specs.declared.token.TokenKind.{TokenKind}
use Rattle.jsx_lex.specs.declared.token.TokenKind.TheVariants.{Name, Number, Str, TagStr, JsxText, Sign}
use Rattle.jsx_lex.proofs.Finding.{Fits, found_of, stands_found, found_within}

parts_of_tag : (bs : List ℕ) → list_all is_name_part bs ≡ true → list_all is_tag_name_part bs ≡ true
parts_of_tag [] h = refl
parts_of_tag (b ∷ bs) h =
    let p = and_parts (is_name_part b) (list_all is_name_part bs) h in
    and_from (is_tag_name_part b) (list_all is_tag_name_part bs) (or_left (is_name_part b) _ p.0) (parts_of_tag bs p.1)

name_of_tag : (word : List ℕ) → IsName is_name_part word → IsName is_tag_name_part word
name_of_tag [] h = h
name_of_tag (b ∷ bs) h = (h.0, parts_of_tag bs h.1)

form_word : (m : Mode) (k : TokenKind) (word after : List ℕ) → HasForm m (Some k) word after → IsWord k word
form_word Code Name word after h = name_of_tag word h.0
form_word Code Number word after h = h.0
form_word Code Str word after h = h
form_word Tag Name word after h = h.0
form_word Tag TagStr word after h = h
form_word Children JsxText word after h = h.0
form_word Close Name word after h = h.0
form_word _ _ word after h = absurd h

fits_word : (m : Mode) (x : Lexeme) (after : List ℕ) (k : TokenKind) → 0 < length x.bytes → x.kind ≡ Some k → Fits m x after → IsWord k x.bytes
fits_word m x after k l e (inl h) = form_word m k x.bytes after (subst (λ (o : Option TokenKind). HasForm m o x.bytes after) e h.0)
fits_word m x after k l e (inr s) = let i : Some Sign ≡ Some k = sym s.0 ∙ e in let j : Sign ≡ k = cc in subst (λ (n : TokenKind). IsWord n x.bytes) j l

stands_word : (modes : ModesAt) (x : Lexeme) (after : List ℕ) (k : TokenKind) → Stands modes x after → x.kind ≡ Some k → IsWord k x.bytes
stands_word modes x after k h e =
    let l = found_within modes.mode false (x.bytes ++ after) (found_of x) (stands_found modes x after false (λ i. absurd cc) h) in
    fits_word modes.mode x after k l.0 e h.form

abbrev HasWord : List ℕ → Token → Type 0
HasWord text t = IsWord t.kind (slice_range text t.from t.to)

one_word : (text : List ℕ) (from : ℕ) (kind : Option TokenKind) (word : List ℕ) → slice_range text from (from + length word) ≡ word → ((k : TokenKind) → kind ≡ Some k → IsWord k word) → All (HasWord text) (token_at from kind (length word))
one_word text from None word e h = All-nil (HasWord text)
one_word text from (Some k) word e h =
    All-cons (HasWord text) (record { kind = k; from = from; to = from + length word }) [] (subst (λ (w : List ℕ). IsWord k w) (sym e) (h k refl)) (All-nil (HasWord text))

words_from : (front : List ℕ) (from : ℕ) (modes : ModesAt) (xs : List Lexeme) (rest : List ℕ) (last : ModesAt) → from ≡ length front → Leads modes xs rest last → All (HasWord (front ++ (spellings xs ++ rest))) (tokens_from from xs)
words_from front from modes [] rest last f h = All-nil (HasWord (front ++ ([] ++ rest)))
words_from front from modes (x ∷ xs) rest last f h =
    let text : List ℕ = front ++ (spellings (x ∷ xs) ++ rest) in
    let inner : spellings (x ∷ xs) ++ rest ≡ x.bytes ++ (spellings xs ++ rest) = append_assoc x.bytes (spellings xs) rest in
    let at_word : drop from text ≡ x.bytes ++ (spellings xs ++ rest) = drop_at front (spellings (x ∷ xs) ++ rest) from (sym f) ∙ inner in
    let word : slice_range text from (from + length x.bytes) ≡ x.bytes =
    ap (λ (zs : List ℕ). take ((from + length x.bytes) - from) zs) at_word ∙ take_at x.bytes (spellings xs ++ rest) ((from + length x.bytes) - from) (omega arith) in
    let same : (front ++ x.bytes) ++ (spellings xs ++ rest) ≡ text = append_assoc front x.bytes (spellings xs ++ rest) ∙ ap (λ (zs : List ℕ). front ++ zs) (sym inner) in
    let l = length-append front x.bytes in
    All-append (HasWord text) (token_at from x.kind (length x.bytes)) (tokens_from (from + length x.bytes) xs)
    (one_word text from x.kind x.bytes word (λ k e. stands_word modes x (spellings xs ++ rest) k h.0 e))
    (subst (λ (zs : List ℕ). All (HasWord zs) (tokens_from (from + length x.bytes) xs)) same
    (words_from (front ++ x.bytes) (from + length x.bytes) (modes_after x.change modes) xs rest last (omega arith) h.1))

pub all_words : (text : List ℕ) (tokens : List Token) → AreTokens text tokens → All (λ (t : Token). IsWord t.kind (slice_range text t.from t.to)) tokens
all_words text tokens h =
    let w : All (HasWord (spellings h.lexemes ++ [])) (tokens_from 0 h.lexemes) = words_from [] 0 first_modes h.lexemes [] first_modes refl h.leads in
    let e : spellings h.lexemes ++ [] ≡ text = append-nil (spellings h.lexemes) ∙ sym h.split in
    subst (λ (ts : List Token). All (HasWord text) ts) (sym h.tokens_are) (subst (λ (zs : List ℕ). All (HasWord zs) (tokens_from 0 h.lexemes)) e w)

-- the word of one token
pub word_there : (text : List ℕ) (items all : List Token) (i : ℕ) (d : Token) (word : List ℕ) → AreTokens text items → all ≡ items → i < length all → word ≡ slice_range text (get_or all i d).from (get_or all i d).to → IsWord (get_or all i d).kind word
word_there text items all i d word h e l w =
    let here : All (HasWord text) all = subst (λ (ts : List Token). All (HasWord text) ts) (sym e) (all_words text items h) in
    subst (λ (zs : List ℕ). IsWord (get_or all i d).kind zs) (sym w) (here i d l)
