-- The end of a stream: a text, or a rest that is no token.
use Rattle.std.proofs.Common.{◌≡◌, ◌≢◌, ℕ, ◌<◌, true, false, ◌==◌, Option, Some, None, is_some, List, [], ◌∷◌, ◌++◌, length, refl, sym, ◌∙◌, ap, subst, ⊎_elim, arith, append-nil, length-append}
use Rattle.std.specs.Prelude.{option_to_list}
use Rattle.std.proofs.lemmas.Bool.{cases_Bool, eqb-true, eqb-false}
use Rattle.std.proofs.lemmas.List.{nil_from_length}
use Rattle.html_names.specs.Escape.{spelling_of, escape_of}
use Rattle.html_names.proofs.EscapeLemmas.{spelling_some}
use Rattle.html_read.specs.declared.token.Token.{Token}
use Rattle.html_read.specs.declared.token.Token.TheVariants as toks
use Rattle.html_read.specs.declared.fault.ReadKind.{ReadKind}
use Rattle.html_read.specs.declared.place.Place.{Place}
use Rattle.html_read.specs.declared.place.Place.TheVariants.{Whole, Char, Entity}
use Rattle.html_read.specs.declared.machine.Mode.{Mode}
use Rattle.html_read.specs.declared.machine.Mode.TheVariants.{Text, Name, EndName, Comment, Script, Space, Attribute, Equals, Value, Close, Slash}
use Rattle.html_read.specs.Tokens.{spellings, AreTokens, MayFollow, Tokenizes, spelling, is_text, IsToken}
use Rattle.html_read.specs.Machine.{go_on, mode_after, mode_of, is_whole_place, is_whole_text}
use Rattle.html_read.specs.Building.{IsTokenOf}
use Rattle.html_read.specs.Faults.{ends_in_text}
use Rattle.html_read.specs.Reading.{HasRead, ReaderState, IsUnfinished, IsLast, IsTextSoFar}
use Rattle.html_read.proofs.WordLemmas.{none_true}
use Rattle.html_read.proofs.FitsLemmas.{IsSpelling, whole_text}
use Rattle.html_read.proofs.ModeAfterLemmas.{mode_append, text_mode, text_through}
use Rattle.html_read.proofs.PassesLemmas.{Passes, tok_passes}
use Rattle.html_read.proofs.StandsLemmas.{mode_fits, spellings_push, tokens_push, text_no_tag, text_follows}

some_mode : (o : Option Mode) (m n : Mode) → o ≡ Some m → o ≡ Some n → m ≡ n
some_mode o m n e f = cc

none_mode : (o : Option Mode) (n : Mode) → o ≡ None → o ≡ Some n → ⊥
none_mode o n e f = cc

-- After a whole token that is no text no mode is left.
other_mode : (tok : Token) → IsToken tok → is_text tok ≡ false → mode_of (spelling tok) ≡ None
unfolding mode_of
other_mode tok h n =
    let p : Passes (spelling tok) = tok_passes tok h n in
    ap (mode_after (Text Whole) []) p.is ∙ (mode_append Name (60 ∷ []) p.front (p.last ∷ []) p.mode p.through ∙ ap (λ t. go_on t (λ m. Some m)) p.ends)

text_ends : (tok : Token) → IsToken tok → is_text tok ≡ true → mode_of (spelling tok) ≡ Some (Text Whole)
unfolding mode_of
text_ends (toks.Start name attributes from) h t = absurd (none_true t)
text_ends (toks.End name from) h t = absurd (none_true t)
text_ends (toks.Void name attributes from) h t = absurd (none_true t)
text_ends (toks.Text text from) h t = text_mode Whole Whole [] (escape_of text) (text_through [] text h.1)
text_ends (toks.Comment which from) h t = absurd (none_true t)
text_ends (toks.Script body from) h t = absurd (none_true t)

-- What is a whole token is a text, between its characters.
pub whole_is_text : (tok : Token) (rest : List ℕ) (mode : Mode) → mode_of rest ≡ Some mode → IsToken tok → rest ≡ spelling tok → mode ≡ Text Whole
whole_is_text tok rest mode e h s =
    ⊎_elim (λ t. some_mode (mode_of rest) mode (Text Whole) e (ap mode_of s ∙ text_ends tok h t)) (λ f. absurd (none_mode (mode_of rest) mode (ap mode_of s ∙ other_mode tok h f) e)) (cases_Bool (is_text tok))

pub unfinished : (held : ReaderState) (mode : Mode) → held.fault ≡ None → mode_of held.rest ≡ Some mode → held.rest ≢ [] → mode ≢ Text Whole → IsUnfinished held held.place
unfinished held mode sound e some n = record { sound = sound; place_is = refl; some = some; no_token = λ tok h s. n (whole_is_text tok held.rest mode e h s) }

-- The text that is open.
pub open_text_is : (held : ReaderState) (mode : Mode) (found : Option Token) → held.fault ≡ None → mode_of held.rest ≡ Some mode → held.rest ≢ [] → mode ≡ Text Whole → IsTokenOf held.rest held.place found → IsLast held found
open_text_is held mode found sound e some m is =
    let k : IsSpelling true held.rest held.place = whole_text held.rest held.place (mode_fits (Text Whole) held.rest (e ∙ ap (λ x. Some x) m)) some in
    let f : found ≡ Some k.tok = is k.tok k.is_token k.spelled k.place_is in
    subst (IsLast held) (sym f) (record { sound = sound; text = k.text_is; is_token = k.is_token; place_is = k.place_is; spelled = k.spelled })

pub last_so_far : (held : ReaderState) (found : Option Token) → held.rest ≢ [] → IsLast held found → IsTextSoFar held found
last_so_far held None some h = absurd (some h.1)
last_so_far held (Some tok) some h = h

escaped_none : (text : List ℕ) → escape_of text ≡ [] → text ≡ []
escaped_none [] e = refl
escaped_none (b ∷ text) e = absurd (no_nothing (length (escape_of (b ∷ text))) (ap length e) (omega (arith, spelling_some b, length-append (spelling_of b) (escape_of text))))
  where
    no_nothing : (n : ℕ) → n ≡ 0 → 0 < n → ⊥
    no_nothing n z l = omega arith

pub text_some : (tok : Token) → IsToken tok → is_text tok ≡ true → spelling tok ≢ []
text_some (toks.Start name attributes from) h t e = absurd (none_true t)
text_some (toks.End name from) h t e = absurd (none_true t)
text_some (toks.Void name attributes from) h t e = absurd (none_true t)
text_some (toks.Text text from) h t e = h.0 (escaped_none text e)
text_some (toks.Comment which from) h t e = absurd (none_true t)
text_some (toks.Script body from) h t e = absurd (none_true t)

some_none : (x : ℕ × ReadKind) → ◌≡◌ {A = Option (ℕ × ReadKind)} (Some x) None → ⊥
some_none x e = cc

no_text_at_fault : (held : ReaderState) (x : ℕ × ReadKind) → held.fault ≡ Some x → IsTextSoFar held None
no_text_at_fault held x e tok h = some_none x (sym e ∙ h.sound)

pub no_text_when_empty : (held : ReaderState) → held.rest ≡ [] → IsTextSoFar held None
no_text_when_empty held e tok h = text_some tok h.is_token h.text (sym h.spelled ∙ e)

pub no_text_else : (held : ReaderState) (mode : Mode) → mode_of held.rest ≡ Some mode → mode ≢ Text Whole → IsTextSoFar held None
no_text_else held mode e n tok h = n (whole_is_text tok held.rest mode e h.is_token h.spelled)

place_whole : (place : Place) → is_whole_place place ≡ true → place ≡ Whole
place_whole Whole h = refl
place_whole (Char tail) h = absurd (none_true h)
place_whole (Entity start) h = absurd (none_true h)

pub whole_mode : (mode : Mode) → is_whole_text mode ≡ true → mode ≡ Text Whole
whole_mode (Text place) h = ap (λ p. Text p) (place_whole place h)
whole_mode Name h = absurd (none_true h)
whole_mode EndName h = absurd (none_true h)
whole_mode Comment h = absurd (none_true h)
whole_mode Script h = absurd (none_true h)
whole_mode (Space v) h = absurd (none_true h)
whole_mode (Attribute v start) h = absurd (none_true h)
whole_mode (Equals v) h = absurd (none_true h)
whole_mode (Value v place) h = absurd (none_true h)
whole_mode (Close v) h = absurd (none_true h)
whole_mode Slash h = absurd (none_true h)

pub not_whole : (mode : Mode) → is_whole_text mode ≡ false → mode ≢ Text Whole
not_whole mode h e = none_true (sym h ∙ ap is_whole_text e)

pub not_empty : (xs : List ℕ) (n : ℕ) → length xs ≡ n → (n == 0) ≡ false → xs ≢ []
not_empty xs n l h e = eqb-false n 0 h (sym l ∙ ap length e)

pub is_nothing : (xs : List ℕ) (n : ℕ) → length xs ≡ n → (n == 0) ≡ true → xs ≡ []
is_nothing xs n l h = nil_from_length xs (l ∙ eqb-true n 0 h)

pub none_of : (o : Option (ℕ × ReadKind)) → is_some o ≡ false → o ≡ None
none_of None h = refl
none_of (Some x) h = absurd (none_true (sym h))

some_of : (o : Option (ℕ × ReadKind)) → is_some o ≡ true → (x : ℕ × ReadKind) × (o ≡ Some x)
some_of None h = absurd (none_true h)
some_of (Some x) h = (x, refl)

pub no_text_faulty : (held : ReaderState) → is_some held.fault ≡ true → IsTextSoFar held None
no_text_faulty held h = let s : (x : ℕ × ReadKind) × (held.fault ≡ Some x) = some_of held.fault h in no_text_at_fault held s.0 s.1

-- The tokens that were given and the last one are those of the stream.
pub last_whole : (held : ReaderState) (last : Option Token) → IsLast held last → (bytes : List ℕ) (toks : List Token) → HasRead bytes toks held → Tokenizes bytes (toks ++ option_to_list last)
last_whole held None h bytes toks r = record {
  spelled = r.split.whole ∙ (ap (λ x. spellings toks ++ x) h.1 ∙ (append-nil (spellings toks) ∙ ap spellings (sym (append-nil toks))));
  tokens = subst AreTokens (sym (append-nil toks)) r.split.tokens;
}
last_whole held (Some tok) h bytes toks r =
    let before : ends_in_text false toks ≡ false =
    ⊎_elim (λ e. absurd (none_true (sym (text_no_tag tok held.rest h.text h.spelled) ∙ r.split.ended e))) (λ f. f) (cases_Bool (ends_in_text false toks)) in
    record {
      spelled = r.split.whole ∙ (ap (λ x. spellings toks ++ x) h.spelled ∙ sym (spellings_push toks tok));
      tokens = tokens_push toks tok 0 false r.split.tokens h.is_token (h.place_is ∙ (r.place_is ∙ omega arith))
          (subst (MayFollow (ends_in_text false toks)) (sym h.text) (text_follows (ends_in_text false toks) before));
    }
