-- Bytes that follow others are run from what was built of these.
use Rattle.std.proofs.Common.{◌≡◌, ◌≢◌, ℕ, Bool, true, false, if◌then◌else◌, ◌==◌, List, [], ◌∷◌, ◌++◌, refl, sym, ◌∙◌, ap, subst, append-nil, append_assoc}
use Rattle.std.specs.Str.{IsUtf8}
use Rattle.std.proofs.lemmas.List.{append_cancel_left}
use Rattle.std.proofs.lemmas.List.Concat.{flat_map-append}
use Rattle.html_names.specs.Escape.{spelling_of, escape_of}
use Rattle.html_read.specs.declared.token.Token.{Token}
use Rattle.html_read.specs.declared.token.Token.TheVariants as tok
use Rattle.html_read.specs.Tokens.{IsToken, MayFollow, spelling, spellings, is_text}
use Rattle.html_read.specs.Faults.{Splits, begins_tag, ends_in_text}
use Rattle.document_machine.specs.Running.{PageState}
use Rattle.document_machine.specs.Documents.{Steps, IsTextAtEnd, Runs, LeavesNoRest}
use Rattle.document_machine.proofs.LowerLaws.{TokenLaws, ScriptLaws}
use Rattle.document_machine.proofs.MovedTokens.{placed, placed_spellings, placed_steps, placed_ends, placed_are, MayBeTokens, may_be_tokens, may_be_first}
use Rattle.document_machine.proofs.OneStep.{one_end, StepsOver, steps_over, steps_append}
use Rattle.document_machine.proofs.TokenRuns.{nothing_true, tokens_run}

-- No text begins with `<`.
if_keeps : (b : Bool) (x y more : List ℕ) → begins_tag (x ++ more) ≡ false → (b ≡ false → begins_tag (y ++ more) ≡ false) → begins_tag ((if b then x else y) ++ more) ≡ false
if_keeps true x y more h k = h
if_keeps false x y more h k = k refl

spelled_no_tag : (b : ℕ) (more : List ℕ) → begins_tag (spelling_of b ++ more) ≡ false
spelled_no_tag b more =
    if_keeps (b == 34) _ _ more refl (λ _. if_keeps (b == 38) _ _ more refl (λ _. if_keeps (b == 39) _ _ more refl (λ _. if_keeps (b == 60) _ _ more refl (λ e. if_keeps (b == 62) _ _ more refl (λ _. e)))))

escaped_no_tag : (text more : List ℕ) → text ≢ [] → begins_tag (escape_of text ++ more) ≡ false
escaped_no_tag [] more some = absurd (some refl)
escaped_no_tag (b ∷ bs) more some = ap begins_tag (append_assoc (spelling_of b) (escape_of bs) more) ∙ spelled_no_tag b (escape_of bs ++ more)

pub text_no_tag : (t : Token) (more : List ℕ) → IsToken t → is_text t ≡ true → begins_tag (spelling t ++ more) ≡ false
text_no_tag (tok.Start name attributes from) more h t = absurd (nothing_true t)
text_no_tag (tok.End name from) more h t = absurd (nothing_true t)
text_no_tag (tok.Void name attributes from) more h t = absurd (nothing_true t)
text_no_tag (tok.Text text from) more h t = escaped_no_tag text more h.0
text_no_tag (tok.Comment which from) more h t = absurd (nothing_true t)
text_no_tag (tok.Script body from) more h t = absurd (nothing_true t)

-- Tokens one after the other.
pub ends_append : (after : Bool) (xs ys : List Token) → ends_in_text after (xs ++ ys) ≡ ends_in_text (ends_in_text after xs) ys
ends_append after [] ys = refl
ends_append after (x ∷ xs) ys = ends_append (is_text x) xs ys

may_append : (after : Bool) (xs ys : List Token) → MayBeTokens after xs → MayBeTokens (ends_in_text after xs) ys → MayBeTokens after (xs ++ ys)
may_append after [] ys h k = k
may_append after (x ∷ xs) ys h k = (h.0, h.1, may_append (is_text x) xs ys h.2 k)

may_part : (after : Bool) (xs ys : List Token) → MayBeTokens after (xs ++ ys) → MayBeTokens (ends_in_text after xs) ys
may_part after [] ys h = h
may_part after (x ∷ xs) ys h = may_part (is_text x) xs ys h.2

follows : (before text : Bool) → (before ≡ true → text ≡ true → ⊥) → MayFollow before text
follows true true n = absurd (n refl refl)
follows true false n = tt
follows false text n = tt

-- What begins with `<` may follow anything.
may_follow : (before : Bool) (toks : List Token) (rest bytes : List ℕ) → MayBeTokens false toks → bytes ≡ spellings toks ++ rest → begins_tag bytes ≡ true → MayBeTokens before toks
may_follow before [] rest bytes h e tag = tt
may_follow before (t ∷ ts) rest bytes h e tag =
    (h.0, follows before (is_text t) (λ b text. nothing_true (sym (text_no_tag t (spellings ts ++ rest) h.0 text) ∙ (ap begins_tag (sym (append_assoc (spelling t) (spellings ts) rest)) ∙ (ap begins_tag (sym e) ∙ tag)))), h.2)

-- A run that leaves no rest is one of tokens alone.
record OfTokens (prefix : List ℕ) (start : PageState) (bytes : List ℕ) (end : PageState) : Type 0 where
  toks : List Token
  may : MayBeTokens false toks
  spelled : bytes ≡ spellings toks
  steps : Steps prefix start toks end

of_last : (prefix : List ℕ) (start : PageState) (bytes : List ℕ) (end : PageState) (toks last : List Token) (rest : List ℕ) → Splits bytes toks rest → IsTextAtEnd rest last → Steps prefix start (toks ++ last) end
    → (last ≡ [] → rest ≡ []) → OfTokens prefix start bytes end
of_last prefix start bytes end toks [] rest split text steps none = record {
  toks = toks;
  may = may_be_tokens 0 false toks split.tokens;
  spelled = split.whole ∙ (ap (λ r. spellings toks ++ r) (none refl) ∙ append-nil (spellings toks));
  steps = subst (λ x. Steps prefix start x end) (append-nil toks) steps;
}
of_last prefix start bytes end toks (t ∷ []) rest split text steps none = record {
  toks = toks ++ t ∷ [];
  may = may_append false toks (t ∷ []) (may_be_tokens 0 false toks split.tokens)
      (text.0, follows (ends_in_text false toks) (is_text t) (λ e x. nothing_true (sym (text_no_tag t [] text.0 x) ∙ (ap begins_tag (append-nil (spelling t) ∙ sym text.2) ∙ split.ended e))), tt);
  spelled = split.whole ∙ (ap (λ r. spellings toks ++ r) (text.2 ∙ sym (append-nil (spelling t))) ∙ sym (flat_map-append spelling toks (t ∷ [])));
  steps = steps;
}
of_last prefix start bytes end toks (t ∷ u ∷ us) rest split text steps none = absurd text

of_tokens : (prefix : List ℕ) (start : PageState) (bytes : List ℕ) (end : PageState) (run : Runs prefix start bytes end) → LeavesNoRest run → OfTokens prefix start bytes end
of_tokens prefix start bytes end run none = of_last prefix start bytes end run.toks run.last run.rest run.split run.text run.steps none

-- Whether tokens after others end in a text, where the bytes after these begin with `<`.
ends_alone : (before : Bool) (toks : List Token) (rest bytes : List ℕ) → bytes ≡ spellings toks ++ rest → begins_tag bytes ≡ true → (ends_in_text false toks ≡ true → begins_tag rest ≡ true) → ends_in_text before toks ≡ true → begins_tag rest ≡ true
ends_alone before [] rest bytes e tag h k = ap begins_tag (sym e) ∙ tag
ends_alone before (t ∷ ts) rest bytes e tag h k = h k

-- Steps along tokens at other places, and then others.
placed_before : (prefix : List ℕ) (place : ℕ) (a c : PageState) (xs ys : List Token) → Steps prefix a (xs ++ ys) c → Steps prefix a (placed place xs ++ ys) c
placed_before prefix place a c xs ys s =
    let over : StepsOver prefix a xs ys c = steps_over prefix a xs ys c s in
    steps_append prefix a over.middle c (placed place xs) ys (placed_steps prefix place a over.middle xs over.first) over.second

pub joined : (prefix : List ℕ) (start middle end : PageState) (a b : List ℕ) (run : Runs prefix start a middle) → LeavesNoRest run → begins_tag b ≡ true → (later : Runs prefix middle b end)
    → (whole : Runs prefix start (a ++ b) end) × (LeavesNoRest later → LeavesNoRest whole)
joined prefix start middle end a b run none tag later =
    let first : OfTokens prefix start a middle = of_tokens prefix start a middle run none in
    let toks : List Token = first.toks ++ later.toks in
    let before : Bool = ends_in_text false first.toks in
    let whole : Runs prefix start (a ++ b) end = record {
      toks = placed 0 toks;
      rest = later.rest;
      last = later.last;
      split = record {
        whole = (λ i. first.spelled i ++ later.split.whole i)
            ∙ (sym (append_assoc (spellings first.toks) (spellings later.toks) later.rest) ∙ ap (λ x. x ++ later.rest) (sym (flat_map-append spelling first.toks later.toks) ∙ sym (placed_spellings 0 toks)));
        tokens = placed_are 0 false toks (may_append false first.toks later.toks first.may (may_follow before later.toks later.rest b (may_be_tokens 0 false later.toks later.split.tokens) later.split.whole tag));
        begun = later.split.begun;
        ended = λ e. ends_alone before later.toks later.rest b later.split.whole tag later.split.ended (sym (ends_append false first.toks later.toks) ∙ (sym (placed_ends 0 false toks) ∙ e));
      };
      text = later.text;
      steps = placed_before prefix 0 start end toks later.last
          (subst (λ x. Steps prefix start x end) (sym (append_assoc first.toks later.toks later.last)) (steps_append prefix start middle end first.toks (later.toks ++ later.last) first.steps later.steps));
    } in
    (whole, λ h. h)

ends_further : (before : Bool) (toks : List Token) → ends_in_text false toks ≡ true → ends_in_text before toks ≡ true
ends_further before [] e = absurd (nothing_true e)
ends_further before (t ∷ ts) e = e

pub parted : TokenLaws → ScriptLaws → (prefix : List ℕ) (start middle end : PageState) (a b : List ℕ) (run : Runs prefix start a middle) → IsUtf8 prefix → LeavesNoRest run → begins_tag b ≡ true
    → Runs prefix start (a ++ b) end → Runs prefix middle b end
parted laws scripts prefix start middle end a b run utf8 none tag whole =
    let first : OfTokens prefix start a middle = of_tokens prefix start a middle run none in
    let front : List Token = placed 0 first.toks in
    let spelled : a ≡ spellings front = first.spelled ∙ sym (placed_spellings 0 first.toks) in
    let found : (further : List Token) × (whole.toks ≡ front ++ further) =
    laws.front (a ++ b) front whole.toks b whole.rest (placed_are 0 false first.toks first.may) (ap (λ x. x ++ b) spelled) (λ e. tag) whole.split in
    let further : List Token = found.0 in
    let before : Bool = ends_in_text false front in
    let bytes : b ≡ spellings further ++ whole.rest =
    append_cancel_left (spellings front) b (spellings further ++ whole.rest)
    (ap (λ x. x ++ b) (sym spelled) ∙ (whole.split.whole ∙ (ap (λ x. x ++ whole.rest) (ap spellings found.1 ∙ flat_map-append spelling front further) ∙ append_assoc (spellings front) (spellings further) whole.rest))) in
    let may : MayBeTokens before further = may_part false front further (subst (MayBeTokens false) found.1 (may_be_tokens 0 false whole.toks whole.split.tokens)) in
    let over : StepsOver prefix start front (further ++ whole.last) end =
    steps_over prefix start front (further ++ whole.last) end (subst (λ x. Steps prefix start x end) (ap (λ x. x ++ whole.last) found.1 ∙ append_assoc front further whole.last) whole.steps) in
    let same : over.middle ≡ middle = one_end scripts prefix utf8 start front over.middle middle over.first (placed_steps prefix 0 start middle first.toks first.steps) in
    record {
      toks = placed 0 further;
      rest = whole.rest;
      last = whole.last;
      split = record {
        whole = bytes ∙ ap (λ x. x ++ whole.rest) (sym (placed_spellings 0 further));
        tokens = placed_are 0 false further (may_be_first before further may);
        begun = whole.split.begun;
        ended = λ e. whole.split.ended (ap (ends_in_text false) found.1 ∙ (ends_append false front further ∙ ends_further before further (sym (placed_ends 0 false further) ∙ e)));
      };
      text = whole.text;
      steps = placed_before prefix 0 middle end further whole.last (subst (λ x. Steps prefix x (further ++ whole.last) end) same over.second);
    }

pub rest_run : TokenLaws → (prefix : List ℕ) (start end : PageState) (bytes : List ℕ) (run : Runs prefix start bytes end) → run.last ≡ [] → Runs prefix start (spellings run.toks) end
rest_run laws prefix start end bytes run none =
    (tokens_run laws prefix start end run.toks run.split.tokens (subst (λ x. Steps prefix start x end) (ap (λ x. run.toks ++ x) none ∙ append-nil run.toks) run.steps)).0
