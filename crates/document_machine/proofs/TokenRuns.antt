-- What a run is of: bytes lead to one building, and tokens are bytes that lead where they lead.
use Rattle.std.proofs.Common.{◌≡◌, ◌≢◌, ℕ, ◌+◌, Bool, true, false, List, [], ◌∷◌, ◌++◌, length, inl, inr, refl, sym, ◌∙◌, ap, subst, ⊎_elim, append-nil}
use Rattle.std.specs.Str.{IsUtf8}
use Rattle.std.proofs.lemmas.Bool.{cases_Bool, true≢false}
use Rattle.std.proofs.lemmas.List.Concat.{flat_map-append}
use Rattle.html_read.specs.declared.token.Token.{Token}
use Rattle.html_read.specs.Tokens.{IsToken, AreTokens, AreTokensFrom, MayFollow, Tokenizes, spelling, spellings, is_text}
use Rattle.html_read.specs.Faults.{Splits, ends_in_text}
use Rattle.document_machine.specs.Running.{PageState}
use Rattle.document_machine.specs.Documents.{Steps, IsTextAtEnd, Runs, LeavesNoRest}
use Rattle.document_machine.proofs.LowerLaws.{TokenLaws, ScriptLaws}
use Rattle.document_machine.proofs.MovedTokens.{moved, IsMoved, is_moved, placed, placed_steps}
use Rattle.document_machine.proofs.OneStep.{one_end, StepsOver, steps_over}

pub nothing_true : false ≡ true → ⊥
nothing_true e = true≢false (sym e)

-- One token by itself.
one_token : (bytes : List ℕ) (t : Token) → IsToken t → bytes ≡ spelling t → Tokenizes bytes (moved 0 t ∷ [])
one_token bytes t h e =
    let m : IsMoved 0 t = is_moved 0 t in
    record { spelled = e ∙ (sym m.spelled ∙ sym (append-nil (spelling (moved 0 t)))); tokens = (m.is_token h, m.place_is, tt, tt) }

pub no_list : (t : Token) (ts : List Token) → t ∷ ts ≡ [] → ⊥
no_list t ts e = cc

pub no_empty_token : TokenLaws → (t : Token) → IsToken t → [] ≢ spelling t
no_empty_token laws t h e = no_list (moved 0 t) [] (laws.one [] (moved 0 t ∷ []) [] (one_token [] t h e) (record { spelled = refl; tokens = tt }))

pub same_last : TokenLaws → (rest : List ℕ) (a b : List Token) → IsTextAtEnd rest a → IsTextAtEnd rest b → placed 0 a ≡ placed 0 b
same_last laws rest [] [] h k = refl
same_last laws rest [] (u ∷ []) h k = absurd (h u k.0 k.1 k.2)
same_last laws rest [] (u ∷ v ∷ vs) h k = absurd k
same_last laws rest (t ∷ []) [] h k = absurd (k t h.0 h.1 h.2)
same_last laws rest (t ∷ []) (u ∷ []) h k = laws.one rest (moved 0 t ∷ []) (moved 0 u ∷ []) (one_token rest t h.0 h.2) (one_token rest u k.0 k.2)
same_last laws rest (t ∷ []) (u ∷ v ∷ vs) h k = absurd k
same_last laws rest (t ∷ s ∷ ss) [] h k = absurd h
same_last laws rest (t ∷ s ∷ ss) (u ∷ []) h k = absurd h
same_last laws rest (t ∷ s ∷ ss) (u ∷ v ∷ vs) h k = absurd h

-- Where two readings of the same bytes lead.
pub one_built : TokenLaws → ScriptLaws → (prefix : List ℕ) → IsUtf8 prefix → (start a b : PageState) (bytes : List ℕ) (xs ys last others : List Token) (r s : List ℕ)
    → Splits bytes xs r → Splits bytes ys s → IsTextAtEnd r last → IsTextAtEnd s others → Steps prefix start (xs ++ last) a → Steps prefix start (ys ++ others) b → a ≡ b
one_built laws scripts prefix utf8 start a b bytes xs ys last others r s p q l m f g =
    let same : (xs ≡ ys) × (r ≡ s) = laws.split bytes xs ys r s p q in
    let x : StepsOver prefix start xs last a = steps_over prefix start xs last a f in
    let y : StepsOver prefix start ys others b = steps_over prefix start ys others b g in
    let middle : x.middle ≡ y.middle = one_end scripts prefix utf8 start ys x.middle y.middle (subst (λ z. Steps prefix start z x.middle) same.0 x.first) y.first in
    let lasts : placed 0 last ≡ placed 0 others = same_last laws s last others (subst (λ z. IsTextAtEnd z last) same.1 l) m in
    one_end scripts prefix utf8 y.middle (placed 0 others) a b
    (subst (λ z. Steps prefix y.middle z a) lasts (placed_steps prefix 0 y.middle a last (subst (λ z. Steps prefix z last a) middle x.second)))
    (placed_steps prefix 0 y.middle b others y.second)

pub one_run : TokenLaws → ScriptLaws → (prefix : List ℕ) (start a b : PageState) (bytes : List ℕ) → IsUtf8 prefix → Runs prefix start bytes a → Runs prefix start bytes b → a ≡ b
one_run laws scripts prefix start a b bytes utf8 x y =
    one_built laws scripts prefix utf8 start a b bytes x.toks y.toks x.last y.last x.rest y.rest x.split y.split x.text y.text x.steps y.steps

-- Tokens of which the last is a text.
pub record EndsInText (place : ℕ) (after : Bool) (toks : List Token) : Type 0 where
  pub front : List Token
  pub last : Token
  pub are : toks ≡ front ++ last ∷ []
  pub tokens : AreTokensFrom place after front
  pub is_token : IsToken last
  pub text : is_text last ≡ true
  pub before : ends_in_text after front ≡ false

no_text_before : (after : Bool) → MayFollow after true → after ≡ false
no_text_before true h = absurd h
no_text_before false h = refl

ends_in_one : (place : ℕ) (after : Bool) (t : Token) (ts : List Token) → AreTokensFrom place after (t ∷ ts) → ends_in_text after (t ∷ ts) ≡ true → EndsInText place after (t ∷ ts)
ends_in_one place after t [] h e =
    record { front = []; last = t; are = refl; tokens = tt; is_token = h.0; text = e; before = no_text_before after (subst (MayFollow after) e h.2) }
ends_in_one place after t (u ∷ us) h e =
    let later : EndsInText (place + length (spelling t)) (is_text t) (u ∷ us) = ends_in_one (place + length (spelling t)) (is_text t) u us h.3 e in
    record {
      front = t ∷ later.front;
      last = later.last;
      are = ap (λ x. t ∷ x) later.are;
      tokens = (h.0, h.1, h.2, later.tokens);
      is_token = later.is_token;
      text = later.text;
      before = later.before;
    }

pub ends_in : (toks : List Token) → AreTokens toks → ends_in_text false toks ≡ true → EndsInText 0 false toks
ends_in [] h e = absurd (nothing_true e)
ends_in (t ∷ ts) h e = ends_in_one 0 false t ts h e

-- Tokens that don't end in a text are whole.
pub whole_split : (toks : List Token) → AreTokens toks → ends_in_text false toks ≡ false → Splits (spellings toks) toks []
whole_split toks h e = record { whole = sym (append-nil (spellings toks)); tokens = h; begun = inl refl; ended = λ t. absurd (nothing_true (sym e ∙ t)) }

no_last : (t : Token) (rest : List ℕ) → t ∷ [] ≡ [] → rest ≡ []
no_last t rest e = absurd (no_list t [] e)

pub tokens_run : TokenLaws → (prefix : List ℕ) (start end : PageState) (toks : List Token) → AreTokens toks → Steps prefix start toks end → (run : Runs prefix start (spellings toks) end) × LeavesNoRest run
tokens_run laws prefix start end toks h s =
    let text_case : ends_in_text false toks ≡ true → (run : Runs prefix start (spellings toks) end) × LeavesNoRest run = λ e.
    let l : EndsInText 0 false toks = ends_in toks h e in
    let run : Runs prefix start (spellings toks) end = record {
      toks = l.front;
      rest = spelling l.last;
      last = l.last ∷ [];
      split = record {
        whole = ap spellings l.are ∙ (flat_map-append spelling l.front (l.last ∷ []) ∙ ap (λ x. spellings l.front ++ x) (append-nil (spelling l.last)));
        tokens = l.tokens;
        begun = inr ([], l.last, l.is_token, append-nil (spelling l.last), inl l.text);
        ended = λ t. absurd (nothing_true (sym l.before ∙ t));
      };
      text = (l.is_token, l.text, refl);
      steps = subst (λ x. Steps prefix start x end) l.are s;
    } in
    (run, no_last l.last (spelling l.last)) in
    let other_case : ends_in_text false toks ≡ false → (run : Runs prefix start (spellings toks) end) × LeavesNoRest run = λ e.
    let run : Runs prefix start (spellings toks) end = record {
      toks = toks;
      rest = [];
      last = [];
      split = whole_split toks h e;
      text = λ t k text. no_empty_token laws t k;
      steps = subst (λ x. Steps prefix start x end) (sym (append-nil toks)) s;
    } in
    (run, λ x. refl) in
    ⊎_elim text_case other_case (cases_Bool (ends_in_text false toks))
