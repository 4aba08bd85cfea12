-- A text has one row of lexemes up to its end or to its fault, and the lexer follows it.
use Rattle.std.proofs.Common.{◌≡◌, ℕ, zero, suc, ◌+◌, ◌-◌, ◌<◌, ◌≤◌, ◌⊎◌, inl, inr, Bool, true, false, List, [], ◌∷◌, ◌++◌, length, drop, take, Option, Some, None, refl, ap, sym, ◌∙◌, arith, subst, append_assoc}
use Rattle.std.proofs.lemmas.List.{length-append, take_at, drop_at, append-nil, drop_all, length-drop, take_rest}
use Rattle.std.proofs.lemmas.Bool.{cases_lt}
use Rattle.jsx_lex.specs.ModeStack.{ModesAt, first_modes, modes_after}
use Rattle.jsx_lex.specs.Lexemes.{Lexeme, Stands, BeginsWith, spellings, Leads}
use Rattle.jsx_lex.specs.TokenLists.{token_at, tokens_from, AreTokens, InOrder}
use Rattle.jsx_lex.specs.FaultTable.{kind_at, IsFaultAt}
use Rattle.jsx_lex.specs.Reading.{read}
use Rattle.jsx_lex.specs.declared.mode.Mode.{Mode}
use Rattle.jsx_lex.specs.declared.mode.Mode.TheVariants.{Code, Tag, Children, Close}
use Rattle.jsx_lex.specs.declared.mode.Change.{Change}
use Rattle.jsx_lex.specs.declared.fault.LexKind.{LexKind}
use Rattle.jsx_lex.specs.declared.fault.LexKind.TheVariants.{End}
use Rattle.jsx_lex.specs.declared.token.Token.{Token}
use Rattle.jsx_lex.specs.declared.token.TokenKind.{TokenKind}
use Rattle.jsx_lex.specs.declared.lexeme.Found.{Found}
use Rattle.jsx_lex.proofs.Finding.{lexeme, found_of, stands_found, found_stands, read-end, found_within}

pub begins_found : (modes : ModesAt) (x : Lexeme) (text : List ℕ) (t : Bool) → (t ≡ true → modes ≡ first_modes) → BeginsWith modes x text → read modes.mode t text ≡ Some (found_of x)
begins_found modes x text t first h = ap (λ (xs : List ℕ). read modes.mode t xs) h.split ∙ stands_found modes x h.after t first h.stands

-- where nothing is found, no lexeme stands
pub none_stuck : (modes : ModesAt) (text : List ℕ) (t : Bool) → (t ≡ true → modes ≡ first_modes) → read modes.mode t text ≡ None → (x : Lexeme) → BeginsWith modes x text → ⊥
none_stuck modes text t first e x h = let f = begins_found modes x text t first h in absurd cc

-- two lexemes at one place
pub same_lexeme : (modes : ModesAt) (x y : Lexeme) (a b : List ℕ) → Stands modes x a → Stands modes y b → x.bytes ++ a ≡ y.bytes ++ b → (x ≡ y) × (a ≡ b)
same_lexeme modes x y a b h k e =
    let f : read modes.mode false (x.bytes ++ a) ≡ Some (found_of x) = stands_found modes x a false (λ i. absurd cc) h in
    let g : read modes.mode false (y.bytes ++ b) ≡ Some (found_of y) = stands_found modes y b false (λ i. absurd cc) k in
    let s : Some (found_of x) ≡ Some (found_of y) = sym f ∙ (ap (λ (xs : List ℕ). read modes.mode false xs) e ∙ g) in
    let i : found_of x ≡ found_of y = cc in
    let l : length x.bytes ≡ length y.bytes = ap (λ (f : Found). f.length) i in
    let w : x.bytes ≡ y.bytes = sym (take_at x.bytes a (length y.bytes) l) ∙ (ap (λ (xs : List ℕ). take (length y.bytes) xs) e ∙ take_at y.bytes b (length y.bytes) refl) in
    let r : a ≡ b = sym (drop_at x.bytes a (length y.bytes) l) ∙ (ap (λ (xs : List ℕ). drop (length y.bytes) xs) e ∙ drop_at y.bytes b (length y.bytes) refl) in
    let kinds : x.kind ≡ y.kind = ap (λ (f : Found). f.kind) i in
    let changes : x.change ≡ y.change = ap (λ (f : Found). f.change) i in
    (same x y kinds w changes, r)
  where
    same : (x y : Lexeme) → x.kind ≡ y.kind → x.bytes ≡ y.bytes → x.change ≡ y.change → x ≡ y
    same x y k w c =
        ap (λ (j : Option TokenKind). let r : Lexeme = record { kind = j; bytes = x.bytes; change = x.change } in r) k
        ∙ (ap (λ (j : List ℕ). let r : Lexeme = record { kind = y.kind; bytes = j; change = x.change } in r) w
        ∙ ap (λ (j : Change). let r : Lexeme = record { kind = y.kind; bytes = y.bytes; change = j } in r) c)

-- nothing more stands
abbrev pub IsStuck : ModesAt → List ℕ → Type 0
IsStuck modes rest = (x : Lexeme) → BeginsWith modes x rest → ⊥

-- one row of lexemes leads to where nothing more stands
pub record SameWay (xs ys : List Lexeme) (rest other : List ℕ) (last final : ModesAt) : Type 0 where
  pub lexemes : xs ≡ ys
  pub rests : rest ≡ other
  pub modes : last ≡ final

pub same_way : (modes : ModesAt) (xs ys : List Lexeme) (rest other : List ℕ) (last final : ModesAt) → Leads modes xs rest last → Leads modes ys other final → IsStuck last rest → IsStuck final other → spellings xs ++ rest ≡ spellings ys ++ other → SameWay xs ys rest other last final
same_way modes [] [] rest other last final h k s u e = record { lexemes = refl; rests = e; modes = sym h ∙ k }
same_way modes [] (y ∷ ys) rest other last final h k s u e =
    absurd (s y (subst (λ (m : ModesAt). BeginsWith m y rest) h
    (record { after = spellings ys ++ other; split = e ∙ append_assoc y.bytes (spellings ys) other; stands = k.0 })))
same_way modes (x ∷ xs) [] rest other last final h k s u e =
    absurd (u x (subst (λ (m : ModesAt). BeginsWith m x other) k
    (record { after = spellings xs ++ rest; split = sym e ∙ append_assoc x.bytes (spellings xs) rest; stands = h.0 })))
same_way modes (x ∷ xs) (y ∷ ys) rest other last final h k s u e =
    let split : x.bytes ++ (spellings xs ++ rest) ≡ y.bytes ++ (spellings ys ++ other) = sym (append_assoc x.bytes (spellings xs) rest) ∙ (e ∙ append_assoc y.bytes (spellings ys) other) in
    let same = same_lexeme modes x y (spellings xs ++ rest) (spellings ys ++ other) h.0 k.0 split in
    let way = same_way (modes_after y.change modes) xs ys rest other last final
    (subst (λ (z : Lexeme). Leads (modes_after z.change modes) xs rest last) same.0 h.1) k.1 s u same.1 in
    record {
      lexemes = ap (λ (z : Lexeme). z ∷ xs) same.0 ∙ ap (λ (zs : List Lexeme). y ∷ zs) way.lexemes;
      rests = way.rests;
      modes = way.modes;
    }

-- nothing stands at the end
pub end_stuck : (modes : ModesAt) → IsStuck modes []
end_stuck modes = none_stuck modes [] false (λ i. absurd cc) (read-end modes.mode false)

pub one_list : (text : List ℕ) (tokens others : List Token) → AreTokens text tokens → AreTokens text others → tokens ≡ others
one_list text tokens others h k =
    let way = same_way first_modes h.lexemes k.lexemes [] [] first_modes first_modes h.leads k.leads (end_stuck first_modes) (end_stuck first_modes)
    (ap (λ (xs : List ℕ). xs ++ []) (sym h.split ∙ k.split)) in
    h.tokens_are ∙ (ap (λ (xs : List Lexeme). tokens_from 0 xs) way.lexemes ∙ sym k.tokens_are)

pub tokens_or_fault : (text : List ℕ) (tokens : List Token) (at : ℕ) (kind : LexKind) → AreTokens text tokens → IsFaultAt text at kind → ⊥
tokens_or_fault text tokens at kind h k =
    let way = same_way first_modes h.lexemes k.lexemes [] k.rest first_modes k.modes h.leads k.leads (end_stuck first_modes) k.stuck
    (append-nil (spellings h.lexemes) ∙ (sym h.split ∙ k.split)) in
    k.unfinished (sym way.rests, sym way.modes)

pub one_fault : (text : List ℕ) (at place : ℕ) (kind other : LexKind) → IsFaultAt text at kind → IsFaultAt text place other → (at ≡ place) × (kind ≡ other)
one_fault text at place kind other h k =
    let way = same_way first_modes h.lexemes k.lexemes h.rest k.rest h.modes k.modes h.leads k.leads h.stuck k.stuck (sym h.split ∙ k.split) in (
      h.place ∙ (ap (λ (xs : List Lexeme). length (spellings xs)) way.lexemes ∙ sym k.place),
      h.kind_is ∙ (ap (λ (m : ModesAt). kind_at m.mode h.rest) way.modes ∙ (ap (λ (xs : List ℕ). kind_at k.modes.mode xs) way.rests ∙ sym k.kind_is)),
    )

-- one lexeme more
spelled-push : (xs : List Lexeme) (x : Lexeme) (rest : List ℕ) → spellings (xs ++ x ∷ []) ++ rest ≡ spellings xs ++ (x.bytes ++ rest)
spelled-push [] x rest = ap (λ (ys : List ℕ). ys ++ rest) (append-nil x.bytes)
spelled-push (y ∷ ys) x rest =
    append_assoc y.bytes (spellings (ys ++ x ∷ [])) rest ∙ (ap (λ (zs : List ℕ). y.bytes ++ zs) (spelled-push ys x rest) ∙ sym (append_assoc y.bytes (spellings ys) (x.bytes ++ rest)))

leads-push : (modes : ModesAt) (xs : List Lexeme) (x : Lexeme) (rest : List ℕ) (last : ModesAt) → Leads modes xs (x.bytes ++ rest) last → Stands last x rest → Leads modes (xs ++ x ∷ []) rest (modes_after x.change last)
leads-push modes [] x rest last h s = (subst (λ (m : ModesAt). Stands m x rest) (sym h) s, ap (λ (m : ModesAt). modes_after x.change m) h)
leads-push modes (y ∷ ys) x rest last h s =
    (subst (λ (zs : List ℕ). Stands modes y zs) (sym (spelled-push ys x rest)) h.0, leads-push (modes_after y.change modes) ys x rest last h.1 s)

tokens-push : (from at : ℕ) (xs : List Lexeme) (x : Lexeme) → from + length (spellings xs) ≡ at → tokens_from from (xs ++ x ∷ []) ≡ tokens_from from xs ++ token_at at x.kind (length x.bytes)
tokens-push from at [] x e =
    let i : from ≡ at = omega arith in
    append-nil (token_at from x.kind (length x.bytes)) ∙ ap (λ (k : ℕ). token_at k x.kind (length x.bytes)) i
tokens-push from at (y ∷ ys) x e =
    let l = length-append y.bytes (spellings ys) in
    ap (λ (ts : List Token). token_at from y.kind (length y.bytes) ++ ts) (tokens-push (from + length y.bytes) at ys x (omega arith))
    ∙ sym (append_assoc (token_at from y.kind (length y.bytes)) (tokens_from (from + length y.bytes) ys) (token_at at x.kind (length x.bytes)))

order-more : (from at to : ℕ) (ts : List Token) → at ≤ to → InOrder from at ts → InOrder from to ts
order-more from at to [] h k = omega arith
order-more from at to (t ∷ ts) h k = (k.0, k.1, order-more t.to at to ts h k.2)

order-push : (from at : ℕ) (ts : List Token) (kind : Option TokenKind) (n : ℕ) → 0 < n → InOrder from at ts → InOrder from (at + n) (ts ++ token_at at kind n)
order-push from at [] None n h k = omega arith
order-push from at [] (Some kind) n h k = (k, omega arith, omega arith)
order-push from at (t ∷ ts) kind n h k = (k.0, k.1, order-push t.to at ts kind n h k.2)

-- what the lexer has read up to a place
pub record Reached (text : List ℕ) (at : ℕ) (modes : ModesAt) (tokens : List Token) : Type 0 where
  pub lexemes : List Lexeme
  pub split : text ≡ spellings lexemes ++ drop at text
  pub place : at ≡ length (spellings lexemes)
  pub leads : Leads first_modes lexemes (drop at text) modes
  pub tokens_are : tokens ≡ tokens_from 0 lexemes
  pub in_order : InOrder 0 at tokens

pub reached_first : (text : List ℕ) → Reached text 0 first_modes []
reached_first text = record { lexemes = []; split = refl; place = refl; leads = refl; tokens_are = refl; in_order = omega arith }

pub reached_more : (text : List ℕ) (at : ℕ) (modes : ModesAt) (tokens : List Token) (t : Bool) (f : Found) → (modes ≡ first_modes → t ≡ true) → Reached text at modes tokens → read modes.mode t (drop at text) ≡ Some f → Reached text (at + f.length) (modes_after f.change modes) (tokens ++ token_at at f.kind f.length)
reached_more text at modes tokens t f first h e =
    let k = found_stands modes t (drop at text) f first e in
    let x : Lexeme = lexeme f k.word in
    let size = k.length_is in
    let place = h.place in
    let more : spellings (h.lexemes ++ x ∷ []) ≡ spellings h.lexemes ++ k.word = sym (append-nil (spellings (h.lexemes ++ x ∷ []))) ∙ (spelled-push h.lexemes x [] ∙ ap (λ (zs : List ℕ). spellings h.lexemes ++ zs) (append-nil k.word)) in
    let whole : text ≡ spellings (h.lexemes ++ x ∷ []) ++ k.after = h.split ∙ (ap (λ (zs : List ℕ). spellings h.lexemes ++ zs) k.split ∙ sym (spelled-push h.lexemes x k.after)) in
    let total : length (spellings (h.lexemes ++ x ∷ [])) ≡ length (spellings h.lexemes) + length k.word = ap length more ∙ length-append (spellings h.lexemes) k.word in
    let next : at + f.length ≡ length (spellings (h.lexemes ++ x ∷ [])) = omega arith in
    let rest : drop (at + f.length) text ≡ k.after = ap (λ (zs : List ℕ). drop (at + f.length) zs) whole ∙ drop_at (spellings (h.lexemes ++ x ∷ [])) k.after (at + f.length) (sym next) in
    record {
      lexemes = h.lexemes ++ x ∷ [];
      split = whole ∙ ap (λ (zs : List ℕ). spellings (h.lexemes ++ x ∷ []) ++ zs) (sym rest);
      place = next;
      leads = subst (λ (zs : List ℕ). Leads first_modes (h.lexemes ++ x ∷ []) zs (modes_after f.change modes)) (sym rest)
          (leads-push first_modes h.lexemes x k.after modes (subst (λ (zs : List ℕ). Leads first_modes h.lexemes zs modes) k.split h.leads) k.stands);
      tokens_are = ap (λ (ts : List Token). ts ++ token_at at f.kind f.length) h.tokens_are
          ∙ (ap (λ (n : ℕ). tokens_from 0 h.lexemes ++ token_at at f.kind n) size ∙ sym (tokens-push 0 at h.lexemes x (omega arith)));
      in_order = order-push 0 at tokens f.kind f.length (let s = k.some in omega arith) h.in_order;
    }

pub reached_end : (text : List ℕ) (at : ℕ) (modes : ModesAt) (tokens : List Token) → length text ≤ at → modes ≡ first_modes → Reached text at modes tokens → AreTokens text tokens
reached_end text at modes tokens l m h =
    let d = drop_all at text l in
    record {
      lexemes = h.lexemes;
      split = h.split ∙ (ap (λ (zs : List ℕ). spellings h.lexemes ++ zs) d ∙ append-nil (spellings h.lexemes));
      leads = subst (λ (zs : List ℕ). Leads first_modes h.lexemes zs first_modes) d (subst (λ (k : ModesAt). Leads first_modes h.lexemes (drop at text) k) m h.leads);
      tokens_are = h.tokens_are;
    }

pub reached_stuck : (text : List ℕ) (at : ℕ) (modes : ModesAt) (tokens : List Token) (t : Bool) → (t ≡ true → modes ≡ first_modes) → Reached text at modes tokens → read modes.mode t (drop at text) ≡ None → ((drop at text ≡ []) × (modes ≡ first_modes) → ⊥) → IsFaultAt text at (kind_at modes.mode (drop at text))
reached_stuck text at modes tokens t first h e u = record {
  lexemes = h.lexemes;
  rest = drop at text;
  modes = modes;
  split = h.split;
  place = h.place;
  leads = h.leads;
  stuck = none_stuck modes (drop at text) t first e;
  unfinished = u;
  kind_is = refl;
}

pub reached_within : (text : List ℕ) (at : ℕ) (modes : ModesAt) (tokens : List Token) → Reached text at modes tokens → at ≤ length text
reached_within text at modes tokens h =
    let l : length text ≡ length (spellings h.lexemes) + length (drop at text) = ap length h.split ∙ length-append (spellings h.lexemes) (drop at text) in
    let p = h.place in
    omega arith

pub reached_order : (text : List ℕ) (at : ℕ) (modes : ModesAt) (tokens : List Token) → Reached text at modes tokens → InOrder 0 (length text) tokens
reached_order text at modes tokens h = order-more 0 at (length text) tokens (reached_within text at modes tokens h) h.in_order

-- whether modes are those of the beginning
first_test : (m : Mode) (ms : List Mode) → (t : Bool) × (t ≡ true → let r : ModesAt = record { mode = m; around = ms } in r ≡ first_modes) × ((let r : ModesAt = record { mode = m; around = ms } in r ≡ first_modes) → t ≡ true)
first_test Code [] = (true, λ e. refl, λ e. refl)
first_test Code (x ∷ xs) = (false, λ e. absurd cc, λ e. let k : x ∷ xs ≡ [] = ap (λ (r : ModesAt). r.around) e in absurd cc)
first_test Tag ms = (false, λ e. absurd cc, λ e. let k : Tag ≡ Code = ap (λ (r : ModesAt). r.mode) e in absurd cc)
first_test Children ms = (false, λ e. absurd cc, λ e. let k : Children ≡ Code = ap (λ (r : ModesAt). r.mode) e in absurd cc)
first_test Close ms = (false, λ e. absurd cc, λ e. let k : Close ≡ Code = ap (λ (r : ModesAt). r.mode) e in absurd cc)

-- every text has tokens or a fault
abbrev Outcome : List ℕ → Type 0
Outcome text = ((tokens : List Token) × AreTokens text tokens) ⊎ ((at : ℕ) × (kind : LexKind) × IsFaultAt text at kind)

outcome_from : (k : ℕ) (text : List ℕ) (at : ℕ) (modes : ModesAt) (tokens : List Token) → length text ≤ at + k → Reached text at modes tokens → Outcome text
outcome_from zero text at modes tokens l h = by_modes (first_test modes.mode modes.around)
  where
    at_end : (t : Bool) → (t ≡ true → modes ≡ first_modes) → (modes ≡ first_modes → t ≡ true) → Outcome text
    at_end true to_first from_first = inl (tokens, reached_end text at modes tokens (omega arith) (to_first refl) h)
    at_end false to_first from_first =
        let e : read modes.mode false (drop at text) ≡ None = ap (λ (xs : List ℕ). read modes.mode false xs) (drop_all at text (omega arith)) ∙ read-end modes.mode false in
        inr (at, kind_at modes.mode (drop at text), reached_stuck text at modes tokens false to_first h e (λ p. let k = from_first p.1 in absurd cc))

    by_modes : (t : Bool) × (t ≡ true → modes ≡ first_modes) × (modes ≡ first_modes → t ≡ true) → Outcome text
    by_modes t = at_end t.0 t.1 t.2
outcome_from (suc k) text at modes tokens l h = by_modes (first_test modes.mode modes.around) (λ at modes tokens. outcome_from k text at modes tokens)
  where
    by_read : (t : Bool) → (t ≡ true → modes ≡ first_modes) → (modes ≡ first_modes → t ≡ true) → (o : Option Found) → read modes.mode t (drop at text) ≡ o → ((at : ℕ) (modes : ModesAt) (tokens : List Token) → length text ≤ at + k → Reached text at modes tokens → Outcome text) → Outcome text
    by_read t to_first from_first (Some f) e more =
        let s = (found_stands modes t (drop at text) f from_first e).some in
        let n = (found_stands modes t (drop at text) f from_first e).length_is in
        more (at + f.length) (modes_after f.change modes) (tokens ++ token_at at f.kind f.length) (omega arith) (reached_more text at modes tokens t f from_first h e)
    by_read true to_first from_first None e more = by_length (cases_lt at (length text))
      where
        by_length : (at < length text) ⊎ (length text ≤ at) → Outcome text
        by_length (inl lt) = inr (at, kind_at modes.mode (drop at text), reached_stuck text at modes tokens true to_first h e (λ p. let d = ap length p.0 in let d' = length-drop at text in absurd (omega arith)))
        by_length (inr ge) = inl (tokens, reached_end text at modes tokens ge (to_first refl) h)
    by_read false to_first from_first None e more = inr (at, kind_at modes.mode (drop at text), reached_stuck text at modes tokens false to_first h e (λ p. let k = from_first p.1 in absurd cc))

    by_modes : (t : Bool) × (t ≡ true → modes ≡ first_modes) × (modes ≡ first_modes → t ≡ true) → ((at : ℕ) (modes : ModesAt) (tokens : List Token) → length text ≤ at + k → Reached text at modes tokens → Outcome text) → Outcome text
    by_modes t more = by_read t.0 t.1 t.2 (read modes.mode t.0 (drop at text)) refl more

pub tokens_or_place : (text : List ℕ) → ((tokens : List Token) × AreTokens text tokens) ⊎ ((at : ℕ) × (kind : LexKind) × IsFaultAt text at kind)
tokens_or_place text = outcome_from (length text) text 0 first_modes [] (omega arith) (reached_first text)

-- the lexer's turns and ends, with slices as the code makes them
pub record IsNext (text : List ℕ) (at : ℕ) (modes : ModesAt) (tokens : List Token) : Type 0 where
  pub within : at ≤ length text
  pub reached : Reached text at modes tokens

pub lex_step : (text : List ℕ) (at : ℕ) (modes next : ModesAt) (tokens items : List Token) (t : Bool) (f : Found) → (modes ≡ first_modes → t ≡ true) → Reached text at modes tokens → Some f ≡ read modes.mode t (take (length text - at) (drop at text)) → next ≡ modes_after f.change modes → items ≡ tokens ++ token_at at f.kind f.length → IsNext text (at + f.length) next items
lex_step text at modes next tokens items t f first h e n i =
    let e' : Some f ≡ read modes.mode t (drop at text) = rw (take_rest text at) at e in
    let r : Reached text (at + f.length) (modes_after f.change modes) (tokens ++ token_at at f.kind f.length) = reached_more text at modes tokens t f first h (sym e') in
    let r' : Reached text (at + f.length) next items = subst (λ (m : ModesAt). Reached text (at + f.length) m items) (sym n) (subst (λ (ts : List Token). Reached text (at + f.length) (modes_after f.change modes) ts) (sym i) r) in
    record { within = reached_within text (at + f.length) next items r'; reached = r' }

pub lex_stuck : (text : List ℕ) (at : ℕ) (modes : ModesAt) (tokens : List Token) (t : Bool) (kind : LexKind) → (t ≡ true → modes ≡ first_modes) → at < length text → Reached text at modes tokens → None ≡ read modes.mode t (take (length text - at) (drop at text)) → kind ≡ kind_at modes.mode (take (length text - at) (drop at text)) → IsFaultAt text at kind
lex_stuck text at modes tokens t kind first lt h e k =
    let e' : None ≡ read modes.mode t (drop at text) = rw (take_rest text at) at e in
    let k' : kind ≡ kind_at modes.mode (drop at text) = rw (take_rest text at) at k in
    subst (λ (x : LexKind). IsFaultAt text at x) (sym k')
    (reached_stuck text at modes tokens t first h (sym e') (λ p. let d = ap length p.0 in let d' = length-drop at text in absurd (omega arith)))

end_kind : (m : Mode) → kind_at m [] ≡ End
end_kind Code = refl
end_kind Tag = refl
end_kind Children = refl
end_kind Close = refl

pub lex_end : (text : List ℕ) (at : ℕ) (modes : ModesAt) (tokens : List Token) → length text ≤ at → Reached text at modes tokens → (modes ≡ first_modes → ⊥) → IsFaultAt text at End
lex_end text at modes tokens l h out =
    let d : drop at text ≡ [] = drop_all at text l in
    let e : read modes.mode false (drop at text) ≡ None = ap (λ (xs : List ℕ). read modes.mode false xs) d ∙ read-end modes.mode false in
    let k : kind_at modes.mode (drop at text) ≡ End = ap (λ (xs : List ℕ). kind_at modes.mode xs) d ∙ end_kind modes.mode in
    subst (λ (x : LexKind). IsFaultAt text at x) k (reached_stuck text at modes tokens false (λ i. absurd cc) h e (λ p. out p.1))

-- tokens of lexemes stand in order
order-less : (from at to : ℕ) (ts : List Token) → from ≤ at → InOrder at to ts → InOrder from to ts
order-less from at to [] h k = omega arith
order-less from at to (t ∷ ts) h k = let l = k.0 in (omega arith, k.1, k.2)

order-from : (from to : ℕ) (modes : ModesAt) (xs : List Lexeme) (rest : List ℕ) (last : ModesAt) → from + length (spellings xs) ≤ to → Leads modes xs rest last → InOrder from to (tokens_from from xs)
order-from from to modes [] rest last h k = omega arith
order-from from to modes (x ∷ xs) rest last h k = by_kind x.kind (order-from (from + length x.bytes) to (modes_after x.change modes) xs rest last (let l = length-append x.bytes (spellings xs) in omega arith) k.1)
  where
    by_kind : (o : Option TokenKind) → InOrder (from + length x.bytes) to (tokens_from (from + length x.bytes) xs) → InOrder from to (token_at from o (length x.bytes) ++ tokens_from (from + length x.bytes) xs)
    by_kind None more = order-less from (from + length x.bytes) to (tokens_from (from + length x.bytes) xs) (omega arith) more
    by_kind (Some kind) more =
        let l = found_within modes.mode false (x.bytes ++ (spellings xs ++ rest)) (found_of x) (stands_found modes x (spellings xs ++ rest) false (λ i. absurd cc) k.0) in
        let some = l.0 in
        (omega arith, omega arith, more)

pub order-all : (text : List ℕ) (tokens : List Token) → AreTokens text tokens → InOrder 0 (length text) tokens
order-all text tokens h =
    let l = ap length h.split in
    subst (λ (ts : List Token). InOrder 0 (length text) ts) (sym h.tokens_are) (order-from 0 (length text) first_modes h.lexemes [] first_modes (omega arith) h.leads)
