-- Which bytes can go on to be a page: those that the reader passes over.
use Rattle.std.proofs.Common.{◌≡◌, ℕ, ◌+◌, Bool, true, false, if◌then◌else◌, Option, Some, None, List, [], ◌∷◌, ◌++◌, length, refl, sym, ◌∙◌, ap, subst, ⊎_elim, arith, append-nil, append_assoc, length-append}
use Rattle.std.proofs.lemmas.Bool.{cond-false, ne_eqb, cases_Bool, eqb-true, true≢false}
use Rattle.html_names.specs.Escape.{escape_of}
use Rattle.html_read.specs.declared.token.Token.{Token}
use Rattle.html_read.specs.declared.token.Token.TheVariants as toks
use Rattle.html_read.specs.declared.place.Place.TheVariants.{Whole}
use Rattle.html_read.specs.declared.machine.Mode.{Mode}
use Rattle.html_read.specs.declared.machine.Mode.TheVariants.{Text, Name}
use Rattle.html_read.specs.declared.machine.Transition.{Transition}
use Rattle.html_read.specs.declared.machine.Transition.TheVariants.{Goes, Ends, Cuts, Fails}
use Rattle.html_read.specs.Tokens.{spelling, spellings, IsToken, AreTokensFrom, AreTokens, MayFollow, Tokenizes, is_text}
use Rattle.html_read.specs.Faults.{IsAlive, begins_tag, ends_in_text}
use Rattle.html_read.specs.Machine.{transition_of, go_on, mode_after}
use Rattle.html_read.proofs.WordLemmas.{none_true}
use Rattle.html_read.proofs.ModeAfterLemmas.{transition_at, text_mode, text_through}
use Rattle.html_read.proofs.PassesLemmas.{Passes, tok_passes}

-- No byte is refused.
abbrev pub live_on : Transition → (Mode → Bool) → Bool → Bool → Bool
live_on (Goes mode) next ended cut = next mode
live_on Ends next ended cut = ended
live_on Cuts next ended cut = cut
live_on (Fails kind) next ended cut = false

abbrev pub lives : Mode → List ℕ → List ℕ → Bool
lives mode seen [] = true
lives mode seen (b ∷ bs) = live_on (transition_at mode seen b) (λ m. lives m (seen ++ b ∷ []) bs) (lives (Text Whole) [] bs) (lives Name (60 ∷ []) bs)

some_mode : (m n : Mode) → ◌≡◌ {A = Option Mode} (Some m) (Some n) → m ≡ n
some_mode m n e = cc

none_mode : (n : Mode) → ◌≡◌ {A = Option Mode} None (Some n) → ⊥
none_mode n e = cc

-- after bytes that go on with one token
pub lives_after : (mode next : Mode) (seen xs ys : List ℕ) → mode_after mode seen xs ≡ Some next → lives mode seen (xs ++ ys) ≡ lives next (seen ++ xs) ys
lives_after mode next seen [] ys e = (λ i. lives (some_mode mode next e i) (sym (append-nil seen) i) ys)
lives_after mode next seen (b ∷ xs) ys e =
    let cut : Bool = lives Name (60 ∷ []) (xs ++ ys) in
    let ended : Bool = lives (Text Whole) [] (xs ++ ys) in
    let go : (t : Transition) → go_on t (λ m. mode_after m (seen ++ b ∷ []) xs) ≡ Some next → live_on t (λ m. lives m (seen ++ b ∷ []) (xs ++ ys)) ended cut ≡ lives next (seen ++ b ∷ xs) ys = λ t.
    elim t as (λ t. go_on t (λ m. mode_after m (seen ++ b ∷ []) xs) ≡ Some next → live_on t (λ m. lives m (seen ++ b ∷ []) (xs ++ ys)) ended cut ≡ lives next (seen ++ b ∷ xs) ys) [
      | Goes m ↦ λ h. lives_after m next (seen ++ b ∷ []) xs ys h ∙ ap (λ s. lives next s ys) (append_assoc seen (b ∷ []) xs)
      | Ends ↦ λ h. absurd (none_mode next h)
      | Cuts ↦ λ h. absurd (none_mode next h)
      | Fails k ↦ λ h. absurd (none_mode next h)
    ] in
    go (transition_of mode seen (seen ++ b ∷ []) b) e

cuts_here : (s : ℕ) (seen : List ℕ) → transition_at (Text Whole) (s ∷ seen) 60 ≡ Cuts
cuts_here s seen = cond-false _ _ _ (ne_eqb (length ((s ∷ seen) ++ 60 ∷ [])) 1 (λ e. omega (arith, length-append seen (60 ∷ []))))

-- A `<` between tokens or after a text begins the next token.
pub lives_tag : (seen bs : List ℕ) → lives (Text Whole) seen (60 ∷ bs) ≡ lives Name (60 ∷ []) bs
lives_tag [] bs = refl
lives_tag (s ∷ seen) bs =
    ap (λ t. live_on t (λ m. lives m ((s ∷ seen) ++ 60 ∷ []) bs) (lives (Text Whole) [] bs) (lives Name (60 ∷ []) bs)) (cuts_here s seen)

-- The bytes of a token that is no text.
pub lives_tok : (tok : Token) (seen more : List ℕ) → IsToken tok → is_text tok ≡ false → lives (Text Whole) seen (spelling tok ++ more) ≡ lives (Text Whole) [] more
lives_tok tok seen more h n =
    let p : Passes (spelling tok) = tok_passes tok h n in
    let split : spelling tok ++ more ≡ 60 ∷ (p.front ++ p.last ∷ more) = ap (λ x. x ++ more) p.is ∙ append_assoc (60 ∷ p.front) (p.last ∷ []) more in
    let last : lives p.mode (60 ∷ p.front) (p.last ∷ more) ≡ lives (Text Whole) [] more =
    ap (λ t. live_on t (λ m. lives m (60 ∷ p.front ++ p.last ∷ []) more) (lives (Text Whole) [] more) (lives Name (60 ∷ []) more)) p.ends in
    ap (lives (Text Whole) seen) split ∙ (lives_tag seen (p.front ++ p.last ∷ more) ∙ (lives_after Name p.mode (60 ∷ []) p.front (p.last ∷ more) p.through ∙ last))

-- What of the text before, if there is one, is still in the reader after tokens.
abbrev pub text_left : List ℕ → List Token → List ℕ
text_left seen [] = seen
text_left seen (tok ∷ toks) = text_left (if is_text tok then spelling tok else []) toks

before_text : (after : Bool) → MayFollow after true → after ≡ false
before_text true m = absurd m
before_text false m = refl

text_goes : (tok : Token) → IsToken tok → is_text tok ≡ true → mode_after (Text Whole) [] (spelling tok) ≡ Some (Text Whole)
text_goes (toks.Start name attributes from) h t = absurd (none_true t)
text_goes (toks.End name from) h t = absurd (none_true t)
text_goes (toks.Void name attributes from) h t = absurd (none_true t)
text_goes (toks.Text text from) h t = text_mode Whole Whole [] (escape_of text) (text_through [] text h.1)
text_goes (toks.Comment which from) h t = absurd (none_true t)
text_goes (toks.Script body from) h t = absurd (none_true t)

pub lives_toks : (toks : List Token) (place : ℕ) (after : Bool) (seen more : List ℕ) → AreTokensFrom place after toks → (after ≡ false → seen ≡ [])
    → lives (Text Whole) seen (spellings toks ++ more) ≡ lives (Text Whole) (text_left seen toks) more
lives_toks [] place after seen more h n = refl
lives_toks (tok ∷ rest) place after seen more h n =
    let next : ℕ = place + length (spelling tok) in
    let joined : spellings (tok ∷ rest) ++ more ≡ spelling tok ++ (spellings rest ++ more) = append_assoc (spelling tok) (spellings rest) more in
    let text : is_text tok ≡ true → lives (Text Whole) seen (spellings (tok ∷ rest) ++ more) ≡ lives (Text Whole) (text_left seen (tok ∷ rest)) more = λ t.
    let none : seen ≡ [] = n (before_text after (subst (MayFollow after) t h.2)) in
    let through : mode_after (Text Whole) [] (spelling tok) ≡ Some (Text Whole) = text_goes tok h.0 t in
    let left : text_left seen (tok ∷ rest) ≡ text_left (spelling tok) rest = ap (λ b. text_left (if b then spelling tok else []) rest) t in
    let later : AreTokensFrom next true rest = subst (λ b. AreTokensFrom next b rest) t h.3 in
    ap (lives (Text Whole) seen) joined ∙ (ap (λ s. lives (Text Whole) s (spelling tok ++ (spellings rest ++ more))) none
    ∙ (lives_after (Text Whole) (Text Whole) [] (spelling tok) (spellings rest ++ more) through
    ∙ (lives_toks rest next true (spelling tok) more later (λ f. absurd (true≢false f)) ∙ ap (λ s. lives (Text Whole) s more) (sym left)))) in
    let other : is_text tok ≡ false → lives (Text Whole) seen (spellings (tok ∷ rest) ++ more) ≡ lives (Text Whole) (text_left seen (tok ∷ rest)) more = λ f.
    let left : text_left seen (tok ∷ rest) ≡ text_left [] rest = ap (λ b. text_left (if b then spelling tok else []) rest) f in
    let later : AreTokensFrom next false rest = subst (λ b. AreTokensFrom next b rest) f h.3 in
    ap (lives (Text Whole) seen) joined ∙ (lives_tok tok seen (spellings rest ++ more) h.0 f ∙ (lives_toks rest next false [] more later (λ e. refl) ∙ ap (λ s. lives (Text Whole) s more) (sym left))) in
    ⊎_elim text other (cases_Bool (is_text tok))

-- A page is passed over.
pub lives_page : (bytes : List ℕ) (toks : List Token) → Tokenizes bytes toks → lives (Text Whole) [] bytes ≡ true
lives_page bytes toks t =
    ap (lives (Text Whole) []) (t.spelled ∙ sym (append-nil (spellings toks))) ∙ lives_toks toks 0 false [] [] t.tokens (λ e. refl)

-- so is each front of one
pub lives_front : (mode : Mode) (seen xs ys : List ℕ) → lives mode seen (xs ++ ys) ≡ true → lives mode seen xs ≡ true
lives_front mode seen [] ys h = refl
lives_front mode seen (b ∷ xs) ys h =
    let go : (t : Transition) → live_on t (λ m. lives m (seen ++ b ∷ []) (xs ++ ys)) (lives (Text Whole) [] (xs ++ ys)) (lives Name (60 ∷ []) (xs ++ ys)) ≡ true
    → live_on t (λ m. lives m (seen ++ b ∷ []) xs) (lives (Text Whole) [] xs) (lives Name (60 ∷ []) xs) ≡ true = λ t.
    elim t as (λ t. live_on t (λ m. lives m (seen ++ b ∷ []) (xs ++ ys)) (lives (Text Whole) [] (xs ++ ys)) (lives Name (60 ∷ []) (xs ++ ys)) ≡ true
    → live_on t (λ m. lives m (seen ++ b ∷ []) xs) (lives (Text Whole) [] xs) (lives Name (60 ∷ []) xs) ≡ true) [
      | Goes m ↦ λ k. lives_front m (seen ++ b ∷ []) xs ys k
      | Ends ↦ λ k. lives_front (Text Whole) [] xs ys k
      | Cuts ↦ λ k. lives_front Name (60 ∷ []) xs ys k
      | Fails kind ↦ λ k. k
    ] in
    go (transition_of mode seen (seen ++ b ∷ []) b) h

pub alive_lives : (front : List ℕ) → IsAlive front → lives (Text Whole) [] front ≡ true
alive_lives front a = lives_front (Text Whole) [] front a.0 (lives_page (front ++ a.0) a.1 a.2)

ends_left : (toks : List Token) (place : ℕ) (after : Bool) (seen : List ℕ) → (after ≡ false → seen ≡ []) → ends_in_text after toks ≡ false → text_left seen toks ≡ []
ends_left [] place after seen n e = n e
ends_left (tok ∷ rest) place after seen n e =
    ends_left rest place (is_text tok) (if is_text tok then spelling tok else []) (λ f. cond-false (is_text tok) (spelling tok) [] f) e

-- What follows a text is passed over as if it stood alone, where it begins a tag.
tag_alone : (seen rest : List ℕ) → begins_tag rest ≡ true → lives (Text Whole) seen rest ≡ lives (Text Whole) [] rest
tag_alone seen [] h = absurd (none_true h)
tag_alone seen (b ∷ bs) h =
    let is : b ≡ 60 = eqb-true b 60 h in
    ap (λ x. lives (Text Whole) seen (x ∷ bs)) is ∙ (lives_tag seen bs ∙ (sym (lives_tag [] bs) ∙ ap (λ x. lives (Text Whole) [] (x ∷ bs)) (sym is)))

pub lives_rest : (toks : List Token) (rest : List ℕ) → AreTokens toks → (ends_in_text false toks ≡ true → begins_tag rest ≡ true)
    → lives (Text Whole) [] (spellings toks ++ rest) ≡ lives (Text Whole) [] rest
lives_rest toks rest h e =
    let all : lives (Text Whole) [] (spellings toks ++ rest) ≡ lives (Text Whole) (text_left [] toks) rest = lives_toks toks 0 false [] rest h (λ f. refl) in
    let text : ends_in_text false toks ≡ true → lives (Text Whole) (text_left [] toks) rest ≡ lives (Text Whole) [] rest = λ t. tag_alone (text_left [] toks) rest (e t) in
    let other : ends_in_text false toks ≡ false → lives (Text Whole) (text_left [] toks) rest ≡ lives (Text Whole) [] rest = λ f.
    ap (λ s. lives (Text Whole) s rest) (ends_left toks 0 false [] (λ k. refl) f) in
    all ∙ ⊎_elim text other (cases_Bool (ends_in_text false toks))
