-- The end of a page's shell and its rest places, of bytes that follow others.
use Rattle.std.proofs.Common.{◌≡◌, ℕ, zero, suc, ◌+◌, ◌-◌, ◌≤◌, ◌==◌, ◌&&◌, Bool, true, false, if◌then◌else◌, inl, inr, Option, Some, None, List, [], ◌∷◌, ◌++◌, length, take, unwrap_or, refl, sym, ap, ◌∙◌, subst, arith, codes, append_assoc, append-nil, length-append}
use Rattle.std.proofs.lemmas.List.{append_cancel_left}
use Rattle.std.proofs.lemmas.List.Concat.{flat_map-append}
use Rattle.html_names.specs.declared.comments.CommentKind.TheVariants as comment
use Rattle.html_read.specs.Faults.{HasSplit, Splits, SplitsBefore, begins_tag, ends_in_text}
use Rattle.html_read.specs.Tokens.{AreTokens, IsToken, MayFollow, Tokenizes, is_text, spelling, spellings}
use Rattle.html_read.specs.declared.token.Token.{Token}
use Rattle.html_read.specs.declared.token.Token.TheVariants as tok
use Rattle.document_machine.specs.Places.{IsClosedAt, IsRestPlace, IsShellEnd, first_late, open_after, still_open}
use Rattle.document_machine.specs.Views.{is_container}
use Rattle.document_machine.proofs.JoinedRuns.{ends_append, text_no_tag}
use Rattle.document_machine.proofs.MovedTokens.{MayBeTokens, may_be_first, may_be_tokens, moved, placed, placed_are, placed_ends, placed_spellings}
use Rattle.page_laws.specs.PagePlaces.{HasLateAt, IsClosed, is_late}

-- The laws of tokens, as they are used here.
pub record TokenLaws : Type 0 where
  pub one : (bytes : List ℕ) (a b : List Token) → Tokenizes bytes a → Tokenizes bytes b → a ≡ b
  pub first_tokens : (bytes : List ℕ) (first toks : List Token) (more rest : List ℕ) → AreTokens first → bytes ≡ spellings first ++ more
      → (ends_in_text false first ≡ true → begins_tag more ≡ true) → Splits bytes toks rest → (further : List Token) × (toks ≡ first ++ further)
  pub split : (bytes : List ℕ) (a b : List Token) (r s : List ℕ) → Splits bytes a r → Splits bytes b s → (a ≡ b) × (r ≡ s)
  pub prefix : (prefix more : List ℕ) (toks : List Token) (rest : List ℕ) → Splits (prefix ++ more) toks rest → SplitsBefore prefix toks

pub nothing_true : false ≡ true → ⊥
nothing_true e = cc

-- The shell's end

pub one_shell_end : TokenLaws → (prefix bytes : List ℕ) (m n : ℕ) → IsShellEnd prefix bytes m → IsShellEnd prefix bytes n → m ≡ n
one_shell_end laws prefix bytes m n a b =
    a.is ∙ ap (λ toks. unwrap_or (first_late prefix 0 toks) (length bytes)) (laws.split bytes a.toks b.toks a.rest b.rest a.split b.split).0 ∙ sym b.is

either_late : (b : Bool) (from : ℕ) (x y : Option ℕ) (at : ℕ) → (x ≡ Some at → y ≡ Some at) → (if b then Some from else x) ≡ Some at → (if b then Some from else y) ≡ Some at
either_late true from x y at h e = e
either_late false from x y at h e = h e

first_late-more : (prefix : List ℕ) (n : ℕ) (xs ys : List Token) (at : ℕ) → first_late prefix n xs ≡ Some at → first_late prefix n (xs ++ ys) ≡ Some at
first_late-more prefix n [] ys at e = absurd (let t : None ≡ Some at = e in cc)
first_late-more prefix n (tok.Start name attributes from ∷ xs) ys at e =
    either_late (n == 0 && is_container prefix name attributes) from (first_late prefix (n + 1) xs) (first_late prefix (n + 1) (xs ++ ys)) at (first_late-more prefix (n + 1) xs ys at) e
first_late-more prefix n (tok.End name from ∷ xs) ys at e = first_late-more prefix (n - 1) xs ys at e
first_late-more prefix n (tok.Void name attributes from ∷ xs) ys at e = first_late-more prefix n xs ys at e
first_late-more prefix n (tok.Text text from ∷ xs) ys at e = first_late-more prefix n xs ys at e
first_late-more prefix n (tok.Comment which from ∷ xs) ys at e = first_late-more prefix n xs ys at e
first_late-more prefix n (tok.Script body from ∷ xs) ys at e = e

-- Later bytes don't move the end.
pub shell_end_stays : TokenLaws → (prefix a b : List ℕ) (at : ℕ) → HasLateAt prefix a at → HasSplit (a ++ b) → IsShellEnd prefix (a ++ b) at
shell_end_stays laws prefix a b at late whole =
    let before = laws.prefix a b whole.toks whole.rest whole.split in
    let same = laws.split a before.first late.toks before.rest late.rest before.split late.split in
    let toks : whole.toks ≡ late.toks ++ before.further = before.all ∙ ap (λ x. x ++ before.further) same.0 in
    record {
      toks = whole.toks;
      rest = whole.rest;
      split = whole.split;
      is = sym (ap (λ o. unwrap_or o (length (a ++ b))) (ap (first_late prefix 0) toks ∙ first_late-more prefix 0 late.toks before.further at late.is));
    }

none_of : (b : Bool) (from : ℕ) (x : Option ℕ) → (if b then Some from else x) ≡ None → (b ≡ false) × (x ≡ None)
none_of true from x e = absurd (let t : Some from ≡ None = e in cc)
none_of false from x e = (refl, e)

first_late-past : (prefix : List ℕ) (n : ℕ) (xs ys : List Token) → first_late prefix n xs ≡ None → first_late prefix n (xs ++ ys) ≡ first_late prefix (still_open n xs) ys
first_late-past prefix n [] ys e = refl
first_late-past prefix n (tok.Start name attributes from ∷ xs) ys e =
    let none = none_of (n == 0 && is_container prefix name attributes) from (first_late prefix (n + 1) xs) e in
    ap (λ b. if b then Some from else first_late prefix (n + 1) (xs ++ ys)) none.0 ∙ first_late-past prefix (n + 1) xs ys none.1
first_late-past prefix n (tok.End name from ∷ xs) ys e = first_late-past prefix (n - 1) xs ys e
first_late-past prefix n (tok.Void name attributes from ∷ xs) ys e = first_late-past prefix n xs ys e
first_late-past prefix n (tok.Text text from ∷ xs) ys e = first_late-past prefix n xs ys e
first_late-past prefix n (tok.Comment which from ∷ xs) ys e = first_late-past prefix n xs ys e
first_late-past prefix n (tok.Script body from ∷ xs) ys e = absurd (let t : Some from ≡ None = e in cc)

late_here : (prefix : List ℕ) (place : ℕ) (t : Token) (ts : List Token) → is_late prefix t ≡ true → first_late prefix 0 (moved place t ∷ ts) ≡ Some place
late_here prefix place (tok.Start name attributes from) ts e = ap (λ b. if b then Some place else first_late prefix (0 + 1) ts) e
late_here prefix place (tok.End name from) ts e = absurd (nothing_true e)
late_here prefix place (tok.Void name attributes from) ts e = absurd (nothing_true e)
late_here prefix place (tok.Text text from) ts e = absurd (nothing_true e)
late_here prefix place (tok.Comment which from) ts e = absurd (nothing_true e)
late_here prefix place (tok.Script body from) ts e = refl

late_no_text : (prefix : List ℕ) (t : Token) → is_late prefix t ≡ true → is_text t ≡ false
late_no_text prefix (tok.Start name attributes from) e = refl
late_no_text prefix (tok.End name from) e = refl
late_no_text prefix (tok.Void name attributes from) e = refl
late_no_text prefix (tok.Text text from) e = absurd (nothing_true e)
late_no_text prefix (tok.Comment which from) e = refl
late_no_text prefix (tok.Script body from) e = refl

follows_any : (after text : Bool) → text ≡ false → MayFollow after text
follows_any true true e = absurd (let t : true ≡ false = e in cc)
follows_any true false e = tt
follows_any false text e = tt

may_append : (after : Bool) (xs ys : List Token) → MayBeTokens after xs → MayBeTokens (ends_in_text after xs) ys → MayBeTokens after (xs ++ ys)
may_append after [] ys h k = k
may_append after (x ∷ xs) ys h k = (h.0, h.1, may_append (is_text x) xs ys h.2 k)

-- The place of what comes after tokens.
placed-append : (place : ℕ) (xs ys : List Token) → placed place (xs ++ ys) ≡ placed place xs ++ placed (place + length (spellings xs)) ys
placed-append place [] ys = ap (λ n. placed n ys) (omega arith)
placed-append place (x ∷ xs) ys =
    ap (λ ts. moved place x ∷ ts) (placed-append (place + length (spelling x)) xs ys
    ∙ ap (λ n. placed (place + length (spelling x)) xs ++ placed n ys) (omega (arith, length-append (spelling x) (spellings xs))))

placed-first : (place : ℕ) (prefix : List ℕ) (n : ℕ) (toks : List Token) → still_open n (placed place toks) ≡ still_open n toks
placed-first place prefix n [] = refl
placed-first place prefix n (tok.Start name attributes from ∷ ts) = placed-first (place + length (spelling (tok.Start name attributes from))) prefix (n + 1) ts
placed-first place prefix n (tok.End name from ∷ ts) = placed-first (place + length (spelling (tok.End name from))) prefix (n - 1) ts
placed-first place prefix n (tok.Void name attributes from ∷ ts) = placed-first (place + length (spelling (tok.Void name attributes from))) prefix n ts
placed-first place prefix n (tok.Text text from ∷ ts) = placed-first (place + length (spelling (tok.Text text from))) prefix n ts
placed-first place prefix n (tok.Comment which from ∷ ts) = placed-first (place + length (spelling (tok.Comment which from))) prefix n ts
placed-first place prefix n (tok.Script body from ∷ ts) = placed-first (place + length (spelling (tok.Script body from))) prefix n ts

-- tokens already stand at their places
late-placed : (prefix : List ℕ) (place n : ℕ) (toks : List Token) → first_late prefix n toks ≡ None → first_late prefix n (placed place toks) ≡ None
late-placed prefix place n [] e = refl
late-placed prefix place n (tok.Start name attributes from ∷ ts) e =
    let none = none_of (n == 0 && is_container prefix name attributes) from (first_late prefix (n + 1) ts) e in
    let later : ℕ = place + length (spelling (tok.Start name attributes from)) in
    ap (λ b. if b then Some place else first_late prefix (n + 1) (placed later ts)) none.0 ∙ late-placed prefix later (n + 1) ts none.1
late-placed prefix place n (tok.End name from ∷ ts) e = late-placed prefix (place + length (spelling (tok.End name from))) (n - 1) ts e
late-placed prefix place n (tok.Void name attributes from ∷ ts) e = late-placed prefix (place + length (spelling (tok.Void name attributes from))) n ts e
late-placed prefix place n (tok.Text text from ∷ ts) e = late-placed prefix (place + length (spelling (tok.Text text from))) n ts e
late-placed prefix place n (tok.Comment which from ∷ ts) e = late-placed prefix (place + length (spelling (tok.Comment which from))) n ts e
late-placed prefix place n (tok.Script body from ∷ ts) e = absurd (let t : Some from ≡ None = e in cc)

-- Late content directly after a shell that closes what it opens.
pub shell_end_before : TokenLaws → (prefix a b more : List ℕ) (toks : List Token) (t : Token) → Tokenizes a toks → still_open 0 toks ≡ 0 → first_late prefix 0 toks ≡ None
    → IsToken t → is_late prefix t ≡ true → b ≡ spelling t ++ more → HasSplit (a ++ b) → IsShellEnd prefix (a ++ b) (length a)
shell_end_before laws prefix a b more toks t are closed none is_token late b_is whole =
    let here : List Token = placed 0 (toks ++ t ∷ []) in
    let text : is_text t ≡ false = late_no_text prefix t late in
    let may : MayBeTokens false (toks ++ t ∷ []) = may_append false toks (t ∷ []) (may_be_tokens 0 false toks are.tokens) (is_token, follows_any (ends_in_text false toks) (is_text t) text, tt) in
    let spelled : a ++ b ≡ spellings here ++ more =
    ap (λ x. x ++ b) are.spelled ∙ ap (λ x. spellings toks ++ x) b_is ∙ sym (append_assoc (spellings toks) (spelling t) more)
    ∙ ap (λ x. x ++ more) (ap (λ x. spellings toks ++ x) (sym (append-nil (spelling t))) ∙ sym (flat_map-append spelling toks (t ∷ [])) ∙ sym (placed_spellings 0 (toks ++ t ∷ []))) in
    let no_text : ends_in_text false here ≡ true → begins_tag more ≡ true =
    λ e. absurd (nothing_true (sym text ∙ (sym (ends_append false toks (t ∷ [])) ∙ (sym (placed_ends 0 false (toks ++ t ∷ [])) ∙ e)))) in
    let found = laws.first_tokens (a ++ b) here whole.toks more whole.rest (placed_are 0 false (toks ++ t ∷ []) may) spelled no_text whole.split in
    let place : length (spellings toks) ≡ length a = ap length (sym are.spelled) in
    let parted : whole.toks ≡ placed 0 toks ++ (moved (length a) t ∷ found.0) =
    found.1 ∙ ap (λ x. x ++ found.0) (placed-append 0 toks (t ∷ []) ∙ ap (λ n. placed 0 toks ++ placed n (t ∷ [])) (omega (arith, place)))
    ∙ append_assoc (placed 0 toks) (moved (length a) t ∷ []) found.0 in
    let at : first_late prefix 0 whole.toks ≡ Some (length a) =
    ap (first_late prefix 0) parted ∙ first_late-past prefix 0 (placed 0 toks) (moved (length a) t ∷ found.0) (late-placed prefix 0 0 toks none)
    ∙ ap (λ n. first_late prefix n (moved (length a) t ∷ found.0)) (placed-first 0 prefix 0 toks ∙ closed) ∙ late_here prefix (length a) t found.0 late in
    record {
      toks = whole.toks;
      rest = whole.rest;
      split = whole.split;
      is = sym (ap (λ o. unwrap_or o (length (a ++ b))) at);
    }

-- Rest places

take_within : (m : ℕ) (a b : List ℕ) → m ≤ length a → take m (a ++ b) ≡ take m a
take_within zero a b h = refl
take_within (suc m) [] b h = absurd (omega arith)
take_within (suc m) (x ∷ xs) b h = ap (λ ys. x ∷ ys) (take_within m xs b (omega arith))

take_past : (a b : List ℕ) (k : ℕ) → take (length a + k) (a ++ b) ≡ a ++ take k b
take_past [] b k = ap (λ n. take n b) (omega arith)
take_past (x ∷ xs) b k = ap (λ n. take n (x ∷ (xs ++ b))) (next (length xs)) ∙ ap (λ ys. x ∷ ys) (take_past xs b k) where
  next : (n : ℕ) → suc n + k ≡ suc (n + k)
  next n = omega arith

pub closed_within : (a b : List ℕ) (m : ℕ) → m ≤ length a → IsClosedAt (a ++ b) m → IsClosedAt a m
closed_within a b m h c = record { within = h; toks = c.toks; are = subst (λ x. Tokenizes x c.toks) (take_within m a b h) c.are; closed = c.closed }

pub closed_further : (a b : List ℕ) (m : ℕ) → IsClosedAt a m → IsClosedAt (a ++ b) m
closed_further a b m c = record {
  within = omega (arith, c.within, length-append a b);
  toks = c.toks;
  are = subst (λ x. Tokenizes x c.toks) (sym (take_within m a b c.within)) c.are;
  closed = c.closed;
}

pub still_open-append : (n : ℕ) (xs ys : List Token) → still_open n (xs ++ ys) ≡ still_open (still_open n xs) ys
still_open-append n [] ys = refl
still_open-append n (x ∷ xs) ys = still_open-append (open_after n x) xs ys

-- Tokens and then the beginning of another one.
pub then_begun : (bytes : List ℕ) (toks : List Token) → Tokenizes bytes toks → Splits (bytes ++ 60 ∷ []) toks (60 ∷ [])
then_begun bytes toks are = record {
  whole = ap (λ x. x ++ 60 ∷ []) are.spelled;
  tokens = are.tokens;
  begun = inr (codes "!--$-->", tok.Comment comment.Complete 0, tt, refl, inr (λ e. no_nil e));
  ended = λ e. refl;
} where
  no_nil : codes "!--$-->" ≡ [] → ⊥
  no_nil e = cc

tokens_after : TokenLaws → (a c : List ℕ) (first toks : List Token) → Tokenizes a first → Tokenizes (a ++ c) toks → begins_tag c ≡ true
    → (further : List Token) × (toks ≡ first ++ further) × Tokenizes c (placed 0 further)
tokens_after laws a c first toks ha hac tag =
    let split = then_begun (a ++ c) toks hac in
    let found = laws.first_tokens ((a ++ c) ++ 60 ∷ []) first toks (c ++ 60 ∷ []) (60 ∷ []) ha.tokens
    (append_assoc a c (60 ∷ []) ∙ ap (λ x. x ++ (c ++ 60 ∷ [])) ha.spelled) (λ e. tag_more c tag) split in
    let further : List Token = found.0 in
    let may : MayBeTokens false further = may_be_first (ends_in_text false first) further (may_part false first further (subst (MayBeTokens false) found.1 (may_be_tokens 0 false toks hac.tokens))) in
    let bytes : c ≡ spellings further =
    append_cancel_left (spellings first) c (spellings further)
    (ap (λ x. x ++ c) (sym ha.spelled) ∙ hac.spelled ∙ ap spellings found.1 ∙ flat_map-append spelling first further) in
    (further, found.1, record { spelled = bytes ∙ sym (placed_spellings 0 further); tokens = placed_are 0 false further may }) where
      tag_more : (c : List ℕ) → begins_tag c ≡ true → begins_tag (c ++ 60 ∷ []) ≡ true
      tag_more [] e = absurd (nothing_true e)
      tag_more (x ∷ xs) e = e

      may_part : (after : Bool) (xs ys : List Token) → MayBeTokens after (xs ++ ys) → MayBeTokens (ends_in_text after xs) ys
      may_part after [] ys h = h
      may_part after (x ∷ xs) ys h = may_part (is_text x) xs ys h.2

nothing_closed : (b : List ℕ) → IsClosedAt b 0
nothing_closed b = record { within = omega arith; toks = []; are = record { spelled = refl; tokens = tt }; closed = refl }

tag_taken : (k : ℕ) (b : List ℕ) → begins_tag b ≡ true → begins_tag (take (suc k) b) ≡ true
tag_taken k [] e = absurd (nothing_true e)
tag_taken k (x ∷ xs) e = e

-- After bytes that close what they open, the rest places are those of what follows.
pub closed_after : TokenLaws → (a b : List ℕ) (k : ℕ) → IsClosed a → begins_tag b ≡ true → IsClosedAt (a ++ b) (length a + k) → IsClosedAt b k
closed_after laws a b zero ca tag c = nothing_closed b
closed_after laws a b (suc k) ca tag c =
    let taken : Tokenizes (a ++ take (suc k) b) c.toks = subst (λ x. Tokenizes x c.toks) (take_past a b (suc k)) c.are in
    let found = tokens_after laws a (take (suc k) b) ca.toks c.toks ca.are taken (tag_taken k b tag) in
    record {
      within = omega (arith, c.within, length-append a b);
      toks = placed 0 found.0;
      are = found.2;
      closed = placed-first 0 [] 0 found.0 ∙ ap (λ n. still_open n found.0) (sym ca.closed) ∙ sym (still_open-append 0 ca.toks found.0) ∙ ap (still_open 0) (sym found.1) ∙ c.closed;
    }

may_follow_tag : (before : Bool) (toks : List Token) → MayBeTokens false toks → begins_tag (spellings toks) ≡ true → MayBeTokens before toks
may_follow_tag before [] h tag = tt
may_follow_tag before (t ∷ ts) h tag = (h.0, follow before (is_text t) refl, h.2) where
  follow : (b text : Bool) → is_text t ≡ text → MayFollow b text
  follow true true e = nothing_true (sym (text_no_tag t (spellings ts) h.0 e) ∙ tag)
  follow true false e = tt
  follow false text e = tt

-- No token is spelled by nothing: the tokens of no bytes are none.
no_tokens : TokenLaws → (toks : List Token) → Tokenizes [] toks → toks ≡ []
no_tokens laws toks are = laws.one [] toks [] are (record { spelled = refl; tokens = tt })

pub closed_joined : TokenLaws → (a b : List ℕ) (k : ℕ) → IsClosed a → begins_tag b ≡ true → IsClosedAt b k → IsClosedAt (a ++ b) (length a + k)
closed_joined laws a b k ca tag c =
    let toks : List Token = ca.toks ++ c.toks in
    let may : MayBeTokens false toks = may_append false ca.toks c.toks (may_be_tokens 0 false ca.toks ca.are.tokens) (later k (ends_in_text false ca.toks) c) in
    record {
      within = omega (arith, c.within, length-append a b);
      toks = placed 0 toks;
      are = record {
        spelled = take_past a b k ∙ ap (λ x. x ++ take k b) ca.are.spelled ∙ ap (λ x. spellings ca.toks ++ x) c.are.spelled ∙ sym (flat_map-append spelling ca.toks c.toks) ∙ sym (placed_spellings 0 toks);
        tokens = placed_are 0 false toks may;
      };
      closed = placed-first 0 [] 0 toks ∙ still_open-append 0 ca.toks c.toks ∙ ap (λ n. still_open n c.toks) ca.closed ∙ c.closed;
    } where
      later : (k : ℕ) (before : Bool) (c : IsClosedAt b k) → MayBeTokens before c.toks
      later zero before c = subst (MayBeTokens before) (sym (no_tokens laws c.toks c.are)) tt
      later (suc k) before c = may_follow_tag before c.toks (may_be_tokens 0 false c.toks c.are.tokens) (ap begins_tag (sym c.are.spelled) ∙ tag_taken k b tag)

shell_of_late : (prefix bytes : List ℕ) (at : ℕ) → HasLateAt prefix bytes at → IsShellEnd prefix bytes at
shell_of_late prefix bytes at late = record { toks = late.toks; rest = late.rest; split = late.split; is = sym (ap (λ o. unwrap_or o (length bytes)) late.is) }

-- A rest place stays one where more follows, once late content has begun.
pub rest_place_stays : TokenLaws → (prefix a b : List ℕ) (shell m : ℕ) → HasLateAt prefix a shell → HasSplit (a ++ b) → IsRestPlace prefix a m → IsRestPlace prefix (a ++ b) m
rest_place_stays laws prefix a b shell m late whole x =
    let same : x.shell ≡ shell = one_shell_end laws prefix a x.shell shell x.is_end (shell_of_late prefix a shell late) in
    record {
      shell = x.shell;
      is_end = subst (IsShellEnd prefix (a ++ b)) (sym same) (shell_end_stays laws prefix a b shell late whole);
      place = elim x.place [ inl at ↦ inl at | inr later ↦ inr (later.0, closed_further a b m later.1) ];
    }
