-- Where the reader stands in a stream, and that each byte keeps it or is the first that cannot follow.
use Rattle.std.proofs.Common.{◌≡◌, ℕ, ◌+◌, Bool, true, false, Option, Some, None, List, [], ◌∷◌, ◌++◌, length, take, refl, sym, ◌∙◌, ap, subst, ⊎_elim, arith, append-nil, append_assoc, length-append, add-zero, ◌==◌}
use Rattle.std.proofs.lemmas.Bool.{cases_Bool, ne_eqb, true≢false}
use Rattle.std.proofs.lemmas.List.Concat.{flat_map-append}
use Rattle.std.proofs.lemmas.List.{take_at}
use Rattle.std.proofs.lemmas.Str.{IsUtf8-nil}
use Rattle.html_names.specs.Escape.{spelling_of, escape_of}
use Rattle.html_names.proofs.EscapeLemmas.{each_byte, plain_spelling}
use Rattle.html_read.specs.declared.token.Token.{Token}
use Rattle.html_read.specs.declared.token.Token.TheVariants as toks
use Rattle.html_read.specs.declared.fault.ReadKind.{ReadKind}
use Rattle.html_read.specs.declared.place.Place.TheVariants.{Whole}
use Rattle.html_read.specs.declared.machine.Mode.{Mode}
use Rattle.html_read.specs.declared.machine.Mode.TheVariants.{Text, Name}
use Rattle.html_read.specs.declared.machine.Transition.{Transition}
use Rattle.html_read.specs.declared.machine.Transition.TheVariants.{Goes, Ends, Cuts, Fails}
use Rattle.html_read.specs.Tokens.{spelling, spellings, IsToken, AreTokensFrom, AreTokens, MayFollow, place_of, is_text}
use Rattle.html_read.specs.Faults.{IsAlive, IsFirstDead, IsBegun, begins_tag, ends_in_text, Splits}
use Rattle.html_read.specs.Machine.{transition_of, go_on, mode_after, mode_of}
use Rattle.html_read.proofs.WordLemmas.{none_true}
use Rattle.html_read.proofs.FitsLemmas.{Fits, IsSpelling, IsGoodTransition, transition_good}
use Rattle.html_read.proofs.ModeAfterLemmas.{mode_append}
use Rattle.html_read.proofs.IsAliveLemmas.{live_on, lives, lives_after, lives_rest, alive_lives}
use Rattle.html_read.proofs.IsBegunLemmas.{fits_begun}

-- The mode of a rest fits it.
some_mode : (m n : Mode) → ◌≡◌ {A = Option Mode} (Some m) (Some n) → m ≡ n
some_mode m n e = cc

none_mode : (n : Mode) → ◌≡◌ {A = Option Mode} None (Some n) → ⊥
none_mode n e = cc

fits_after : (mode next : Mode) (seen bs : List ℕ) → Fits mode seen → mode_after mode seen bs ≡ Some next → Fits next (seen ++ bs)
fits_after mode next seen [] h e = subst (Fits next) (sym (append-nil seen)) (subst (λ m. Fits m seen) (some_mode mode next e) h)
fits_after mode next seen (b ∷ bs) h e =
    let go : (t : Transition) → IsGoodTransition seen b t → go_on t (λ m. mode_after m (seen ++ b ∷ []) bs) ≡ Some next → Fits next (seen ++ b ∷ bs) = λ t.
    elim t as (λ t. IsGoodTransition seen b t → go_on t (λ m. mode_after m (seen ++ b ∷ []) bs) ≡ Some next → Fits next (seen ++ b ∷ bs)) [
      | Goes m ↦ λ g k. subst (Fits next) (append_assoc seen (b ∷ []) bs) (fits_after m next (seen ++ b ∷ []) bs g k)
      | Ends ↦ λ g k. absurd (none_mode next k)
      | Cuts ↦ λ g k. absurd (none_mode next k)
      | Fails kind ↦ λ g k. absurd (none_mode next k)
    ] in
    go (transition_of mode seen (seen ++ b ∷ []) b) (transition_good mode seen b h) e

pub mode_fits : (mode : Mode) (rest : List ℕ) → mode_of rest ≡ Some mode → Fits mode rest
unfolding mode_of
mode_fits mode rest e = fits_after (Text Whole) mode [] rest (record { text = []; utf8 = IsUtf8-nil; is = refl }) e

pub mode_starts : mode_of [] ≡ Some (Text Whole)
unfolding mode_of
mode_starts = refl

pub mode_tag : mode_of (60 ∷ []) ≡ Some Name
unfolding mode_of
mode_tag = refl

-- One byte more of the same token.
pub mode_more : (mode next : Mode) (rest : List ℕ) (b : ℕ) → mode_of rest ≡ Some mode → transition_of mode rest (rest ++ b ∷ []) b ≡ Goes next → mode_of (rest ++ b ∷ []) ≡ Some next
unfolding mode_of
mode_more mode next rest b e t = mode_append (Text Whole) [] rest (b ∷ []) mode e ∙ ap (λ x. go_on x (λ m. Some m)) t

-- One token more.
pub spellings_push : (toks : List Token) (tok : Token) → spellings (toks ++ tok ∷ []) ≡ spellings toks ++ spelling tok
spellings_push toks tok = flat_map-append spelling toks (tok ∷ []) ∙ ap (λ s. spellings toks ++ s) (append-nil (spelling tok))

pub tokens_push : (toks : List Token) (tok : Token) (place : ℕ) (after : Bool) → AreTokensFrom place after toks → IsToken tok → place_of tok ≡ place + length (spellings toks)
    → MayFollow (ends_in_text after toks) (is_text tok) → AreTokensFrom place after (toks ++ tok ∷ [])
tokens_push [] tok place after h t p m = (t, p ∙ add-zero place, m, tt)
tokens_push (x ∷ toks) tok place after h t p m =
    let further : place_of tok ≡ (place + length (spelling x)) + length (spellings toks) = p ∙ omega (arith, length-append (spelling x) (spellings toks)) in
    (h.0, h.1, h.2, tokens_push toks tok (place + length (spelling x)) (is_text x) h.3 t further m)

ends_push : (toks : List Token) (tok : Token) (after : Bool) → ends_in_text after (toks ++ tok ∷ []) ≡ is_text tok
ends_push [] tok after = refl
ends_push (x ∷ toks) tok after = ends_push toks tok (is_text x)

other_follows : (before : Bool) → MayFollow before false
other_follows true = tt
other_follows false = tt

pub text_follows : (before : Bool) → before ≡ false → MayFollow before true
text_follows true e = absurd (true≢false e)
text_follows false e = tt

-- The bytes of a stream, the tokens that ended, the rest and the mode in it.
pub record Stands (bytes : List ℕ) (toks : List Token) (mode : Mode) (rest : List ℕ) : Type 0 where
  pub whole : bytes ≡ spellings toks ++ rest
  pub tokens : AreTokens toks
  pub mode_is : mode_of rest ≡ Some mode
  pub ended : ends_in_text false toks ≡ true → begins_tag rest ≡ true

pub splits_of : (bytes : List ℕ) (toks : List Token) (mode : Mode) (rest : List ℕ) → Stands bytes toks mode rest → Splits bytes toks rest
splits_of bytes toks mode rest s = record { whole = s.whole; tokens = s.tokens; begun = fits_begun mode rest (mode_fits mode rest s.mode_is); ended = s.ended }

pub stands_of : (bytes : List ℕ) (toks : List Token) (mode : Mode) (rest : List ℕ) → Splits bytes toks rest → mode_of rest ≡ Some mode → Stands bytes toks mode rest
stands_of bytes toks mode rest s e = record { whole = s.whole; tokens = s.tokens; mode_is = e; ended = s.ended }

tag_start_more : (rest : List ℕ) (b : ℕ) → begins_tag rest ≡ true → begins_tag (rest ++ b ∷ []) ≡ true
tag_start_more [] b h = absurd (none_true h)
tag_start_more (x ∷ rest) b h = h

pub goes : (bytes : List ℕ) (toks : List Token) (mode next : Mode) (rest : List ℕ) (b : ℕ) → Stands bytes toks mode rest → transition_of mode rest (rest ++ b ∷ []) b ≡ Goes next
    → Stands (bytes ++ b ∷ []) toks next (rest ++ b ∷ [])
goes bytes toks mode next rest b s t = record {
  whole = ap (λ x. x ++ b ∷ []) s.whole ∙ append_assoc (spellings toks) rest (b ∷ []);
  tokens = s.tokens;
  mode_is = mode_more mode next rest b s.mode_is t;
  ended = λ e. tag_start_more rest b (s.ended e);
}

transition_gives : (mode : Mode) (rest : List ℕ) (b : ℕ) (t : Transition) → mode_of rest ≡ Some mode → transition_of mode rest (rest ++ b ∷ []) b ≡ t → IsGoodTransition rest b t
transition_gives mode rest b t e is = subst (IsGoodTransition rest b) is (transition_good mode rest b (mode_fits mode rest e))

-- a token that ends with a byte
pub ending : (mode : Mode) (rest : List ℕ) (b from : ℕ) → mode_of rest ≡ Some mode → transition_of mode rest (rest ++ b ∷ []) b ≡ Ends → IsSpelling false (rest ++ b ∷ []) from
ending mode rest b from e t = transition_gives mode rest b Ends e t from

pub ends : (bytes : List ℕ) (toks : List Token) (mode : Mode) (rest : List ℕ) (b : ℕ) (tok : Token) → Stands bytes toks mode rest
    → IsToken tok → rest ++ b ∷ [] ≡ spelling tok → is_text tok ≡ false → place_of tok ≡ length (spellings toks) → Stands (bytes ++ b ∷ []) (toks ++ tok ∷ []) (Text Whole) []
ends bytes toks mode rest b tok s t is other place = record {
  whole = ap (λ x. x ++ b ∷ []) s.whole ∙ (append_assoc (spellings toks) rest (b ∷ []) ∙ (ap (λ x. spellings toks ++ x) is ∙ (sym (spellings_push toks tok) ∙ sym (append-nil (spellings (toks ++ tok ∷ []))))));
  tokens = tokens_push toks tok 0 false s.tokens t (place ∙ omega arith) (subst (MayFollow (ends_in_text false toks)) (sym other) (other_follows (ends_in_text false toks)));
  mode_is = mode_starts;
  ended = λ e. absurd (none_true (sym (ends_push toks tok false ∙ other) ∙ e));
}

-- a text that ends before a byte
pub cutting : (mode : Mode) (rest : List ℕ) (b from : ℕ) → mode_of rest ≡ Some mode → transition_of mode rest (rest ++ b ∷ []) b ≡ Cuts → (b ≡ 60) × IsSpelling true rest from
cutting mode rest b from e t = let g : (b ≡ 60) × ((from : ℕ) → IsSpelling true rest from) = transition_gives mode rest b Cuts e t in (g.0, g.1 from)

spelled_no_tag : (more : List ℕ) (b : ℕ) → begins_tag (spelling_of b ++ more) ≡ false
spelled_no_tag more = each_byte (λ b. begins_tag (spelling_of b ++ more) ≡ false) refl refl refl refl refl
    (λ b n34 n38 n39 n60 n62. ap (λ s. begins_tag (s ++ more)) (plain_spelling b n34 n38 n39 n60 n62) ∙ ne_eqb b 60 n60)

-- An escaped text has no `<`.
pub escaped_no_tag : (text more : List ℕ) → begins_tag more ≡ false → begins_tag (escape_of text ++ more) ≡ false
escaped_no_tag [] more h = h
escaped_no_tag (b ∷ text) more h = ap begins_tag (append_assoc (spelling_of b) (escape_of text) more) ∙ spelled_no_tag (escape_of text ++ more) b

pub text_no_tag : (tok : Token) (rest : List ℕ) → is_text tok ≡ true → rest ≡ spelling tok → begins_tag rest ≡ false
text_no_tag (toks.Start name attributes from) rest t e = absurd (none_true t)
text_no_tag (toks.End name from) rest t e = absurd (none_true t)
text_no_tag (toks.Void name attributes from) rest t e = absurd (none_true t)
text_no_tag (toks.Text text from) rest t e = ap begins_tag (e ∙ sym (append-nil (escape_of text))) ∙ escaped_no_tag text [] refl
text_no_tag (toks.Comment which from) rest t e = absurd (none_true t)
text_no_tag (toks.Script body from) rest t e = absurd (none_true t)

pub cuts : (bytes : List ℕ) (toks : List Token) (mode : Mode) (rest : List ℕ) (b : ℕ) (tok : Token) → Stands bytes toks mode rest
    → b ≡ 60 → IsToken tok → rest ≡ spelling tok → is_text tok ≡ true → place_of tok ≡ length (spellings toks) → Stands (bytes ++ b ∷ []) (toks ++ tok ∷ []) Name (b ∷ [])
cuts bytes toks mode rest b tok s is60 t is text place =
    let before : ends_in_text false toks ≡ false = ⊎_elim (λ e. absurd (none_true (sym (text_no_tag tok rest text is) ∙ s.ended e))) (λ f. f) (cases_Bool (ends_in_text false toks)) in
    record {
      whole = ap (λ x. x ++ b ∷ []) (s.whole ∙ (ap (λ x. spellings toks ++ x) is ∙ sym (spellings_push toks tok)));
      tokens = tokens_push toks tok 0 false s.tokens t (place ∙ omega arith) (subst (MayFollow (ends_in_text false toks)) (sym text) (text_follows (ends_in_text false toks) before));
      mode_is = ap (λ x. mode_of (x ∷ [])) is60 ∙ mode_tag;
      ended = λ e. ap (λ x. x == 60) is60;
    }

-- Another place for a token.
record IsMoved (place : ℕ) (tok : Token) : Type 0 where
  to : Token
  is_token : IsToken tok → IsToken to
  spelled : spelling to ≡ spelling tok
  text : is_text to ≡ is_text tok
  place_is : place_of to ≡ place

move_to : (place : ℕ) (tok : Token) → IsMoved place tok
move_to place (toks.Start name attributes from) = record { to = toks.Start name attributes place; is_token = λ h. h; spelled = refl; text = refl; place_is = refl }
move_to place (toks.End name from) = record { to = toks.End name place; is_token = λ h. h; spelled = refl; text = refl; place_is = refl }
move_to place (toks.Void name attributes from) = record { to = toks.Void name attributes place; is_token = λ h. h; spelled = refl; text = refl; place_is = refl }
move_to place (toks.Text text from) = record { to = toks.Text text place; is_token = λ h. h; spelled = refl; text = refl; place_is = refl }
move_to place (toks.Comment which from) = record { to = toks.Comment which place; is_token = λ h. h; spelled = refl; text = refl; place_is = refl }
move_to place (toks.Script body from) = record { to = toks.Script body place; is_token = λ h. h; spelled = refl; text = refl; place_is = refl }

tag_stays : (rest more : List ℕ) → begins_tag rest ≡ true → begins_tag (rest ++ more) ≡ true
tag_stays [] more h = absurd (none_true h)
tag_stays (x ∷ rest) more h = h

follows : (before text : Bool) → (before ≡ true → text ≡ true → ⊥) → MayFollow before text
follows true true n = absurd (n refl refl)
follows true false n = tt
follows false text n = tt

-- What splits can go on.
pub splits_alive : (bytes : List ℕ) (toks : List Token) (rest : List ℕ) → Splits bytes toks rest → IsAlive bytes
splits_alive bytes toks rest s =
    let none : rest ≡ [] → IsAlive bytes = λ e.
    ([], toks, record { spelled = append-nil bytes ∙ (s.whole ∙ (ap (λ r. spellings toks ++ r) e ∙ append-nil (spellings toks))); tokens = s.tokens }) in
    let some : IsBegun rest → IsAlive bytes = λ g.
    let m : IsMoved (length (spellings toks)) g.1 = move_to (length (spellings toks)) g.1 in
    let fits : MayFollow (ends_in_text false toks) (is_text m.to) = follows _ _ (λ e t.
    true≢false (sym (tag_stays rest g.0 (s.ended e)) ∙ text_no_tag g.1 (rest ++ g.0) (sym m.text ∙ t) g.3)) in (
      g.0,
      toks ++ m.to ∷ [],
      record {
        spelled = ap (λ x. x ++ g.0) s.whole ∙ (append_assoc (spellings toks) rest g.0 ∙ (ap (λ x. spellings toks ++ x) (g.3 ∙ sym m.spelled) ∙ sym (spellings_push toks m.to)));
        tokens = tokens_push toks m.to 0 false s.tokens (m.is_token g.2) (m.place_is ∙ omega arith) fits;
      },
    ) in
    ⊎_elim none some s.begun

-- A byte that the reader refuses can never follow.
pub dead : (bytes : List ℕ) (toks : List Token) (mode : Mode) (rest : List ℕ) (b : ℕ) (kind : ReadKind) → Stands bytes toks mode rest → transition_of mode rest (rest ++ b ∷ []) b ≡ Fails kind
    → ¬ IsAlive (bytes ++ b ∷ [])
unfolding mode_of
dead bytes toks mode rest b kind s t a =
    let joined : bytes ++ b ∷ [] ≡ spellings toks ++ (rest ++ b ∷ []) = ap (λ x. x ++ b ∷ []) s.whole ∙ append_assoc (spellings toks) rest (b ∷ []) in
    let over : lives (Text Whole) [] (spellings toks ++ (rest ++ b ∷ [])) ≡ true = ap (lives (Text Whole) []) (sym joined) ∙ alive_lives (bytes ++ b ∷ []) a in
    let alone : lives (Text Whole) [] (rest ++ b ∷ []) ≡ true = sym (lives_rest toks (rest ++ b ∷ []) s.tokens (λ e. tag_start_more rest b (s.ended e))) ∙ over in
    let last : lives mode rest (b ∷ []) ≡ true = sym (lives_after (Text Whole) mode [] rest (b ∷ []) s.mode_is) ∙ alone in
    let refused : lives mode rest (b ∷ []) ≡ false = ap (λ x. live_on x (λ m. true) true true) t in
    none_true (sym refused ∙ last)

pub first_dead : (bytes : List ℕ) (toks : List Token) (mode : Mode) (rest : List ℕ) (b : ℕ) (more : List ℕ) (kind : ReadKind) → Stands bytes toks mode rest
    → transition_of mode rest (rest ++ b ∷ []) b ≡ Fails kind → IsFirstDead (bytes ++ b ∷ more) (length bytes)
first_dead bytes toks mode rest b more kind s t =
    let front : take (length bytes) (bytes ++ b ∷ more) ≡ bytes = take_at bytes (b ∷ more) (length bytes) refl in
    let longer : take (length bytes + 1) (bytes ++ b ∷ more) ≡ bytes ++ b ∷ [] =
    ap (take (length bytes + 1)) (sym (append_assoc bytes (b ∷ []) more)) ∙ take_at (bytes ++ b ∷ []) more (length bytes + 1) (length-append bytes (b ∷ [])) in
    record {
      within = omega (arith, length-append bytes (b ∷ more));
      alive = subst IsAlive (sym front) (splits_alive bytes toks rest (splits_of bytes toks mode rest s));
      dead = λ a. dead bytes toks mode rest b kind s t (subst IsAlive longer a);
    }
