-- Tokens at other places. A step does not depend on the place.
use Rattle.std.proofs.Common.{◌≡◌, ℕ, ◌+◌, Bool, false, List, [], ◌∷◌, ◌++◌, length, refl, sym, ◌∙◌, ap, subst}
use Rattle.html_read.specs.declared.token.Token.{Token}
use Rattle.html_read.specs.declared.token.Token.TheVariants as tok
use Rattle.html_read.specs.Tokens.{IsToken, AreTokensFrom, MayFollow, spelling, spellings, is_text, place_of}
use Rattle.html_read.specs.Faults.{ends_in_text}
use Rattle.document_machine.specs.Running.{PageState}
use Rattle.document_machine.specs.Documents.{Step, starts, ends, stands, says, marks, runs, Steps}

abbrev pub moved : ℕ → Token → Token
moved place (tok.Start name attributes from) = tok.Start name attributes place
moved place (tok.End name from) = tok.End name place
moved place (tok.Void name attributes from) = tok.Void name attributes place
moved place (tok.Text text from) = tok.Text text place
moved place (tok.Comment which from) = tok.Comment which place
moved place (tok.Script body from) = tok.Script body place

-- The token is the same but for its place.
pub record IsMoved (place : ℕ) (t : Token) : Type 0 where
  pub is_token : IsToken t → IsToken (moved place t)
  pub spelled : spelling (moved place t) ≡ spelling t
  pub text : is_text (moved place t) ≡ is_text t
  pub place_is : place_of (moved place t) ≡ place

pub is_moved : (place : ℕ) (t : Token) → IsMoved place t
is_moved place (tok.Start name attributes from) = record { is_token = λ h. h; spelled = refl; text = refl; place_is = refl }
is_moved place (tok.End name from) = record { is_token = λ h. h; spelled = refl; text = refl; place_is = refl }
is_moved place (tok.Void name attributes from) = record { is_token = λ h. h; spelled = refl; text = refl; place_is = refl }
is_moved place (tok.Text text from) = record { is_token = λ h. h; spelled = refl; text = refl; place_is = refl }
is_moved place (tok.Comment which from) = record { is_token = λ h. h; spelled = refl; text = refl; place_is = refl }
is_moved place (tok.Script body from) = record { is_token = λ h. h; spelled = refl; text = refl; place_is = refl }

pub moved_step : (prefix : List ℕ) (place : ℕ) (a : PageState) (t : Token) (c : PageState) → Step prefix a t c → Step prefix a (moved place t) c
moved_step prefix place a t c (starts b name attributes from room) = starts b name attributes place room
moved_step prefix place a t c (ends b inner outer from is) = ends b inner outer place is
moved_step prefix place a t c (stands b name attributes from) = stands b name attributes place
moved_step prefix place a t c (says b text from) = says b text place
moved_step prefix place a t c (marks b which from) = marks b which place
moved_step prefix place a t c (runs b body from i dom said is) = runs b body place i dom said is

-- Tokens from a place on.
abbrev pub placed : ℕ → List Token → List Token
placed place [] = []
placed place (t ∷ ts) = moved place t ∷ placed (place + length (spelling t)) ts

pub placed_spellings : (place : ℕ) (toks : List Token) → spellings (placed place toks) ≡ spellings toks
placed_spellings place [] = refl
placed_spellings place (t ∷ ts) = λ i. (is_moved place t).spelled i ++ placed_spellings (place + length (spelling t)) ts i

pub placed_steps : (prefix : List ℕ) (place : ℕ) (a c : PageState) (toks : List Token) → Steps prefix a toks c → Steps prefix a (placed place toks) c
placed_steps prefix place a c [] s = s
placed_steps prefix place a c (t ∷ ts) s = (s.0, moved_step prefix place a t s.0 s.1, placed_steps prefix (place + length (spelling t)) s.0 c ts s.2)

pub placed_ends : (place : ℕ) (after : Bool) (toks : List Token) → ends_in_text after (placed place toks) ≡ ends_in_text after toks
placed_ends place after [] = refl
placed_ends place after (t ∷ ts) =
    ap (λ x. ends_in_text x (placed (place + length (spelling t)) ts)) (is_moved place t).text ∙ placed_ends (place + length (spelling t)) (is_text t) ts

-- What may be tokens one after the other, their places apart.
abbrev pub MayBeTokens : Bool → List Token → Type 0
MayBeTokens after [] = Unit {0}
MayBeTokens after (t ∷ ts) = IsToken t × MayFollow after (is_text t) × MayBeTokens (is_text t) ts

pub may_be_tokens : (place : ℕ) (after : Bool) (toks : List Token) → AreTokensFrom place after toks → MayBeTokens after toks
may_be_tokens place after [] h = tt
may_be_tokens place after (t ∷ ts) h = (h.0, h.2, may_be_tokens (place + length (spelling t)) (is_text t) ts h.3)

pub placed_are : (place : ℕ) (after : Bool) (toks : List Token) → MayBeTokens after toks → AreTokensFrom place after (placed place toks)
placed_are place after [] h = tt
placed_are place after (t ∷ ts) h =
    let m : IsMoved place t = is_moved place t in
    let later : AreTokensFrom (place + length (spelling t)) (is_text t) (placed (place + length (spelling t)) ts) = placed_are (place + length (spelling t)) (is_text t) ts h.2 in
    let there : AreTokensFrom (place + length (spelling (moved place t))) (is_text (moved place t)) (placed (place + length (spelling t)) ts) =
    subst (λ s. AreTokensFrom (place + length s) (is_text (moved place t)) (placed (place + length (spelling t)) ts)) (sym m.spelled)
    (subst (λ x. AreTokensFrom (place + length (spelling t)) x (placed (place + length (spelling t)) ts)) (sym m.text) later) in
    (m.is_token h.0, m.place_is, subst (MayFollow after) (sym m.text) h.1, there)

-- Whatever may stand after a text or not may stand at the front.
front_may : (after text : Bool) → MayFollow after text → MayFollow false text
front_may after text h = tt

pub may_be_first : (after : Bool) (toks : List Token) → MayBeTokens after toks → MayBeTokens false toks
may_be_first after [] h = tt
may_be_first after (t ∷ ts) h = (h.0, front_may after (is_text t) h.1, h.2)
