-- Bytes have one fault, and bytes that run have none.
use Rattle.std.proofs.Common.{◌≡◌, ℕ, ◌+◌, ◌<◌, ◌≤◌, false, ◌⊎◌, inl, inr, List, [], ◌∷◌, ◌++◌, length, take, drop, refl, sym, ◌∙◌, ap, subst, ⊎_elim, arith, append-nil, append_assoc}
use Rattle.std.specs.Str.{IsUtf8}
use Rattle.std.proofs.lemmas.Bool.{cases_lt}
use Rattle.std.proofs.lemmas.List.{take-append-drop, length-take-le}
use Rattle.std.proofs.lemmas.List.Concat.{flat_map-append}
use Rattle.html_read.specs.declared.token.Token.{Token}
use Rattle.html_read.specs.Tokens.{AreTokens, spelling, spellings}
use Rattle.html_read.specs.Faults.{IsAlive, IsFirstDead, Splits, ends_in_text}
use Rattle.document_machine.specs.declared.fault.MachineFault.{MachineFault}
use Rattle.document_machine.specs.declared.fault.MachineFault.TheVariants.{Html}
use Rattle.document_machine.specs.Running.{PageState}
use Rattle.document_machine.specs.Documents.{Step, Steps, Runs}
use Rattle.document_machine.specs.Faults.{Refuses, StopsAtToken, StopsAtByte, HasMachineFault}
use Rattle.document_machine.proofs.LowerLaws.{TokenLaws, ScriptLaws}
use Rattle.document_machine.proofs.OneStep.{one_step, StepsOver, steps_over}
use Rattle.document_machine.proofs.Refusals.{one_refusal, step_or_refusal, refused_no_text}
use Rattle.document_machine.proofs.TokenRuns.{nothing_true, whole_split}
use Rattle.document_machine.proofs.JoinedRuns.{ends_append}

-- One of the tokens is refused, after others that could be followed.
abbrev Fails : List ℕ → PageState → List Token → MachineFault → Type 0
Fails prefix a [] fault = ⊥
Fails prefix a (t ∷ ts) fault = Refuses prefix a t fault ⊎ ((b : PageState) × Step prefix a t b × Fails prefix b ts fault)

fails_at : (prefix : List ℕ) (a b : PageState) (before : List Token) (stop : Token) (fault : MachineFault) → Steps prefix a before b → Refuses prefix b stop fault → Fails prefix a (before ++ stop ∷ []) fault
fails_at prefix a b [] stop fault s r = inl (subst (λ x. Refuses prefix x stop fault) (sym s) r)
fails_at prefix a b (t ∷ ts) stop fault s r = inr (s.0, s.1, fails_at prefix s.0 b ts stop fault s.2 r)

fails_on : (prefix : List ℕ) (a : PageState) (toks more : List Token) (fault : MachineFault) → Fails prefix a toks fault → Fails prefix a (toks ++ more) fault
fails_on prefix a [] more fault f = absurd f
fails_on prefix a (t ∷ ts) more fault (inl r) = inl r
fails_on prefix a (t ∷ ts) more fault (inr s) = inr (s.0, s.1, fails_on prefix s.0 ts more fault s.2)

fails_one : ScriptLaws → (prefix : List ℕ) → IsUtf8 prefix → (a : PageState) (toks : List Token) (f g : MachineFault) → Fails prefix a toks f → Fails prefix a toks g → f ≡ g
fails_one laws prefix utf8 a [] f g x y = absurd x
fails_one laws prefix utf8 a (t ∷ ts) f g (inl r) (inl s) = one_refusal laws prefix utf8 a t f g r s
fails_one laws prefix utf8 a (t ∷ ts) f g (inl r) (inr s) = absurd (step_or_refusal laws prefix utf8 a t s.0 f s.1 r)
fails_one laws prefix utf8 a (t ∷ ts) f g (inr r) (inl s) = absurd (step_or_refusal laws prefix utf8 a t r.0 g r.1 s)
fails_one laws prefix utf8 a (t ∷ ts) f g (inr r) (inr s) =
    fails_one laws prefix utf8 s.0 ts f g (subst (λ b. Fails prefix b ts f) (one_step laws prefix utf8 a t r.0 s.0 r.1 s.1) r.2) s.2

steps_or_fails : ScriptLaws → (prefix : List ℕ) → IsUtf8 prefix → (a c : PageState) (toks : List Token) (f : MachineFault) → Steps prefix a toks c → Fails prefix a toks f → ⊥
steps_or_fails laws prefix utf8 a c [] f s x = x
steps_or_fails laws prefix utf8 a c (t ∷ ts) f s (inl r) = step_or_refusal laws prefix utf8 a t s.0 f s.1 r
steps_or_fails laws prefix utf8 a c (t ∷ ts) f s (inr r) =
    steps_or_fails laws prefix utf8 s.0 c ts f s.2 (subst (λ b. Fails prefix b ts f) (one_step laws prefix utf8 a t r.0 s.0 r.1 s.1) r.2)

-- Tokens at the front of the bytes, the last of them refused.
record HasFailure (prefix : List ℕ) (start : PageState) (bytes : List ℕ) (fault : MachineFault) : Type 0 where
  toks : List Token
  more : List ℕ
  tokens : AreTokens toks
  are : bytes ≡ spellings toks ++ more
  no_text : ends_in_text false toks ≡ false
  fails : Fails prefix start toks fault

failure : (prefix : List ℕ) (start : PageState) (bytes : List ℕ) (fault : MachineFault) → StopsAtToken prefix start bytes fault → HasFailure prefix start bytes fault
failure prefix start bytes fault s = record {
  toks = s.before ++ s.stop ∷ [];
  more = s.more;
  tokens = s.tokens;
  are = s.are ∙ ap (λ x. x ++ s.more) (ap (λ x. spellings s.before ++ x) (sym (append-nil (spelling s.stop))) ∙ sym (flat_map-append spelling s.before (s.stop ∷ [])));
  no_text = ends_append false s.before (s.stop ∷ []) ∙ refused_no_text prefix s.built s.stop fault s.refuses;
  fails = fails_at prefix start s.built s.before s.stop fault s.steps s.refuses;
}

-- Where whatever fails is read, tokens that could be followed are others.
failed_front : TokenLaws → ScriptLaws → (prefix : List ℕ) → IsUtf8 prefix → (start c : PageState) (bytes front more rest : List ℕ) (fault : MachineFault) (toks : List Token) (f : HasFailure prefix start bytes fault)
    → Splits front toks rest → front ≡ spellings f.toks ++ more → Steps prefix start toks c → ⊥
failed_front laws scripts prefix utf8 start c bytes front more rest fault toks f split e s =
    let found : (further : List Token) × (toks ≡ f.toks ++ further) = laws.front front f.toks toks more rest f.tokens e (λ x. absurd (nothing_true (sym f.no_text ∙ x))) split in
    steps_or_fails scripts prefix utf8 start c (f.toks ++ found.0) fault (subst (λ x. Steps prefix start x c) found.1 s) (fails_on prefix start f.toks found.0 fault f.fails)

-- Of two fronts of the same bytes the shorter one begins the other.
record Begins (xs ys : List ℕ) : Type 0 where
  more : List ℕ
  are : ys ≡ xs ++ more

heads_same : (x y : ℕ) (xs ys : List ℕ) → x ∷ xs ≡ y ∷ ys → x ≡ y
heads_same x y xs ys e = cc

tails_same : (x y : ℕ) (xs ys : List ℕ) → x ∷ xs ≡ y ∷ ys → xs ≡ ys
tails_same x y xs ys e = cc

begins : (xs ys m n : List ℕ) → xs ++ m ≡ ys ++ n → length xs ≤ length ys → Begins xs ys
begins [] ys m n e h = record { more = ys; are = refl }
begins (x ∷ xs) [] m n e h = absurd (omega (arith, h))
begins (x ∷ xs) (y ∷ ys) m n e h =
    let rest : Begins xs ys = begins xs ys m n (tails_same x y _ _ e) (omega (arith, h)) in
    record { more = rest.more; are = (λ i. sym (heads_same x y (xs ++ m) (ys ++ n) e) i ∷ rest.are i) }

two_failures : TokenLaws → ScriptLaws → (prefix : List ℕ) → IsUtf8 prefix → (start : PageState) (bytes : List ℕ) (x y : MachineFault) (f : HasFailure prefix start bytes x) (g : HasFailure prefix start bytes y)
    → length (spellings f.toks) ≤ length (spellings g.toks) → x ≡ y
two_failures laws scripts prefix utf8 start bytes x y f g h =
    let b : Begins (spellings f.toks) (spellings g.toks) = begins (spellings f.toks) (spellings g.toks) f.more g.more (sym f.are ∙ g.are) h in
    let found : (further : List Token) × (g.toks ≡ f.toks ++ further) =
    laws.front (spellings g.toks) f.toks g.toks b.more [] f.tokens b.are (λ e. absurd (nothing_true (sym f.no_text ∙ e))) (whole_split g.toks g.tokens g.no_text) in
    fails_one scripts prefix utf8 start g.toks x y (subst (λ z. Fails prefix start z x) (sym found.1) (fails_on prefix start f.toks found.0 x f.fails)) g.fails

one_failure : TokenLaws → ScriptLaws → (prefix : List ℕ) → IsUtf8 prefix → (start : PageState) (bytes : List ℕ) (x y : MachineFault) → HasFailure prefix start bytes x → HasFailure prefix start bytes y → x ≡ y
one_failure laws scripts prefix utf8 start bytes x y f g =
    ⊎_elim
    (λ h. sym (two_failures laws scripts prefix utf8 start bytes y x g f (omega (arith, h))))
    (λ h. two_failures laws scripts prefix utf8 start bytes x y f g h)
    (cases_lt (length (spellings g.toks)) (length (spellings f.toks)))

-- A front of what can go on can go on.
alive_front : (xs ys : List ℕ) → IsAlive (xs ++ ys) → IsAlive xs
alive_front xs ys a = (ys ++ a.0, a.1, record { spelled = sym (append_assoc xs ys a.0) ∙ a.2.spelled; tokens = a.2.tokens })

-- Whatever can go on is no longer than up to the first byte that can't follow.
not_past : (bytes front more : List ℕ) (at : ℕ) → IsFirstDead bytes at → bytes ≡ front ++ more → IsAlive front → at + 1 ≤ length front → ⊥
not_past bytes front more at d e a h =
    let short : length (take (at + 1) bytes) ≤ length front = omega (arith, h, length-take-le (at + 1) bytes (omega (arith, d.within))) in
    let b : Begins (take (at + 1) bytes) front = begins (take (at + 1) bytes) front (drop (at + 1) bytes) more (take-append-drop (at + 1) bytes ∙ e) short in
    d.dead (alive_front (take (at + 1) bytes) b.more (subst IsAlive b.are a))

token_or_byte : TokenLaws → ScriptLaws → (prefix : List ℕ) → IsUtf8 prefix → (start : PageState) (bytes : List ℕ) (x y : MachineFault) → HasFailure prefix start bytes x → StopsAtByte prefix start bytes y → ⊥
token_or_byte laws scripts prefix utf8 start bytes x y f s =
    let front : List ℕ = take s.at bytes in
    let before : length (spellings f.toks) ≤ s.at → ⊥ = λ h.
    let short : length (spellings f.toks) ≤ length front = omega (arith, h, length-take-le s.at bytes (omega (arith, s.reader.first.within))) in
    let b : Begins (spellings f.toks) front = begins (spellings f.toks) front f.more (drop s.at bytes) (sym f.are ∙ sym (take-append-drop s.at bytes)) short in
    failed_front laws scripts prefix utf8 start s.built bytes front b.more s.reader.rest x s.before f s.reader.split b.are s.steps in
    let past : s.at < length (spellings f.toks) → ⊥ = λ h.
    not_past bytes (spellings f.toks) f.more s.at s.reader.first f.are (laws.alive (spellings f.toks) f.toks [] (whole_split f.toks f.tokens f.no_text)) (omega (arith, h)) in
    ⊎_elim past before (cases_lt s.at (length (spellings f.toks)))

not_before : (bytes : List ℕ) (m n : ℕ) → IsFirstDead bytes m → IsFirstDead bytes n → m < n → ⊥
not_before bytes m n d e h =
    not_past bytes (take n bytes) (drop n bytes) m d (sym (take-append-drop n bytes)) e.alive (omega (arith, h, length-take-le n bytes (omega (arith, e.within))))

one_place : (bytes : List ℕ) (m n : ℕ) → IsFirstDead bytes m → IsFirstDead bytes n → m ≡ n
one_place bytes m n d e =
    ⊎_elim (λ h. absurd (not_before bytes m n d e h)) (λ h. ⊎_elim (λ k. absurd (not_before bytes n m e d k)) (λ k. omega (arith, h, k)) (cases_lt n m)) (cases_lt m n)

pub one_fault : TokenLaws → ScriptLaws → (prefix : List ℕ) (start : PageState) (bytes : List ℕ) (f g : MachineFault) → IsUtf8 prefix → HasMachineFault prefix start bytes f → HasMachineFault prefix start bytes g → f ≡ g
one_fault laws scripts prefix start bytes f g utf8 (inl a) (inl b) = one_failure laws scripts prefix utf8 start bytes f g (failure prefix start bytes f a) (failure prefix start bytes g b)
one_fault laws scripts prefix start bytes f g utf8 (inl a) (inr b) = absurd (token_or_byte laws scripts prefix utf8 start bytes f g (failure prefix start bytes f a) b)
one_fault laws scripts prefix start bytes f g utf8 (inr a) (inl b) = absurd (token_or_byte laws scripts prefix utf8 start bytes g f (failure prefix start bytes g b) a)
one_fault laws scripts prefix start bytes f g utf8 (inr a) (inr b) = a.is ∙ (ap (λ n. Html n) (one_place bytes a.at b.at a.reader.first b.reader.first) ∙ sym b.is)

pub followed : TokenLaws → ScriptLaws → (prefix : List ℕ) (start end : PageState) (bytes : List ℕ) (toks : List Token) (rest : List ℕ) → IsUtf8 prefix → Splits bytes toks rest
    → Steps prefix start toks end → (fault : MachineFault) → HasMachineFault prefix start bytes fault → ⊥
followed laws scripts prefix start end bytes toks rest utf8 split steps fault (inl s) =
    let f : HasFailure prefix start bytes fault = failure prefix start bytes fault s in
    failed_front laws scripts prefix utf8 start end bytes bytes f.more rest fault toks f split f.are steps
followed laws scripts prefix start end bytes toks rest utf8 split steps fault (inr s) =
    not_past bytes bytes [] s.at s.reader.first (sym (append-nil bytes)) (laws.alive bytes toks rest split) (omega (arith, s.reader.first.within))

pub sound : TokenLaws → ScriptLaws → (prefix : List ℕ) (start end : PageState) (bytes : List ℕ) → IsUtf8 prefix → Runs prefix start bytes end → (fault : MachineFault) → HasMachineFault prefix start bytes fault → ⊥
sound laws scripts prefix start end bytes utf8 run fault h =
    let over : StepsOver prefix start run.toks run.last end = steps_over prefix start run.toks run.last end run.steps in
    followed laws scripts prefix start over.middle bytes run.toks run.rest utf8 run.split over.first fault h
