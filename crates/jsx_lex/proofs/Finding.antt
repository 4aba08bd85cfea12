-- What is found at a place is a lexeme, and every lexeme is found.
use Rattle.std.proofs.Common.{◌≡◌, ◌≢◌, ℕ, ◌+◌, ◌<◌, ◌≤◌, ◌⊎◌, inl, inr, Bool, true, false, not, ◌&&◌, nat_eq, nat_lt, List, [], ◌∷◌, ◌++◌, length, drop, take, codes, option_map, Option, Some, None, IfSome, refl, ap, sym, ◌∙◌, arith, subst, append_assoc}
use Rattle.std.proofs.lemmas.Bool.{and_from, eqb-true, ltb-true, cond-true, cond-false, not-false}
use Rattle.std.proofs.lemmas.List.{length-append, take-append-drop}
use Rattle.std.proofs.lemmas.List.Folds.{length-prefix_len}
use Rattle.std.specs.List.{list_all, prefix_len, flat_map}
use Rattle.jsx_lex.specs.Characters.{is_space, is_name_start, is_name_part, is_tag_name_part, is_number_start, is_quote, is_in_line, is_jsx_text, Ends, begins}
use Rattle.jsx_lex.specs.ModeStack.{ModesAt, first_modes}
use Rattle.jsx_lex.specs.SignTable.{SignRow, row, signs_of, code_signs, tag_signs, children_signs, close_signs, first_sign}
use Rattle.jsx_lex.specs.StringParts.{spelling_of}
use Rattle.jsx_lex.specs.Words.{IsNumber}
use Rattle.jsx_lex.specs.Lexemes.{Lexeme, HasForm, IsSign, Stands}
use Rattle.jsx_lex.specs.Reading.{offset_by, found, found_sign, number_len, string_len, comment_len, tag_string_len, comment_end, read_code, read_tag, read_children, read_close, read}
use Rattle.jsx_lex.specs.declared.mode.Mode.{Mode}
use Rattle.jsx_lex.specs.declared.mode.Mode.TheVariants.{Code, Tag, Children, Close}
use Rattle.jsx_lex.specs.declared.mode.Change.{Change}
use Rattle.jsx_lex.specs.declared.mode.Change.TheVariants.{Keep}
use Rattle.jsx_lex.specs.declared.token.TokenKind.{TokenKind}
use Rattle.jsx_lex.specs.declared.token.TokenKind.TheVariants.{Name, Number, Str, TagStr, JsxText}
use Rattle.jsx_lex.specs.declared.lexeme.Found.{Found}
use Rattle.jsx_lex.proofs.Scanning.{list_all-run}
use Rattle.jsx_lex.proofs.Runs.{Ends-run}
use Rattle.jsx_lex.proofs.Comments.{comment_end-sound, begins-split, begins-front}
use Rattle.jsx_lex.proofs.Strings.{string_len-sound}
use Rattle.jsx_lex.proofs.Numbers.{number_len-sound}
use Rattle.jsx_lex.proofs.Signs.{first_sign-head, is_other_code, is_other_tag, is_other_children, is_other_close, code_heads, tag_heads, children_heads, close_heads, sign-code, sign-tag, sign-children, sign-close, brace-code}
use Rattle.jsx_lex.proofs.Forms as forms

-- what is found, with its bytes
abbrev pub lexeme : Found → List ℕ → Lexeme
lexeme f word = record { kind = f.kind; bytes = word; change = f.change }

-- what is kept of a lexeme
abbrev pub found_of : Lexeme → Found
found_of x = record { kind = x.kind; length = length x.bytes; change = x.change }

-- a form that changes no mode, or a sign
abbrev pub Fits : Mode → Lexeme → List ℕ → Type 0
Fits mode x after = (HasForm mode x.kind x.bytes after × (x.change ≡ Keep)) ⊎ IsSign mode x after

pub record Finds (mode : Mode) (text : List ℕ) (f : Found) : Type 0 where
  pub word : List ℕ
  pub after : List ℕ
  pub split : text ≡ word ++ after
  pub length_is : f.length ≡ length word
  pub some : 0 < length word
  pub fits : Fits mode (lexeme f word) after

same_found : (mode : Mode) (text : List ℕ) (f g : Found) → Some f ≡ Some g → Finds mode text f → Finds mode text g
same_found mode text f g e h = let i : f ≡ g = cc in subst (λ (x : Found). Finds mode text x) i h

-- a run after a first character
run : (m : Mode) (kind : Option TokenKind) (test : ℕ → Bool) (b : ℕ) (bs : List ℕ) → HasForm m kind (b ∷ take (prefix_len test bs) bs) (drop (prefix_len test bs) bs) → Finds m (b ∷ bs) (found kind (1 + prefix_len test bs))
run m kind test b bs h = record {
  word = b ∷ take (prefix_len test bs) bs;
  after = drop (prefix_len test bs) bs;
  split = ap (λ (xs : List ℕ). b ∷ xs) (sym (take-append-drop (prefix_len test bs) bs));
  length_is = let l = length-prefix_len test bs in omega arith;
  some = omega arith;
  fits = inl (h, refl);
}

one_space : (m : Mode) (b : ℕ) (bs : List ℕ) → HasForm m None (b ∷ []) bs → Finds m (b ∷ bs) (found None 1)
one_space m b bs h = record { word = b ∷ []; after = bs; split = refl; length_is = refl; some = omega arith; fits = inl (h, refl) }

-- a sign of the mode's table
a_sign : (mode : Mode) (text : List ℕ) (r : SignRow) → text ≡ r.bytes ++ drop (length r.bytes) text → 0 < length r.bytes → first_sign (signs_of mode) text ≡ Some r → Finds mode text (found_sign r)
a_sign mode text r s l e = record {
  word = r.bytes;
  after = drop (length r.bytes) text;
  split = s;
  length_is = refl;
  some = l;
  fits = inr (refl, ap (λ (xs : List ℕ). first_sign (signs_of mode) xs) (sym s) ∙ e);
}

some-sign : (o : Option SignRow) (f : Found) → option_map found_sign o ≡ Some f → (r : SignRow) × (o ≡ Some r) × (Some (found_sign r) ≡ Some f)
some-sign None f e = absurd cc
some-sign (Some r) f e = (r, refl, e)

some-length : (F : ℕ → Found) (o : Option ℕ) (f : Found) → option_map F o ≡ Some f → (n : ℕ) × (o ≡ Some n) × (Some (F n) ≡ Some f)
some-length F None f e = absurd cc
some-length F (Some n) f e = (n, refl, e)

some-shifted : (k : ℕ) (o : Option ℕ) (n : ℕ) → offset_by k o ≡ Some n → (m : ℕ) × (o ≡ Some m) × (k + m ≡ n)
some-shifted k None n e = absurd cc
some-shifted k (Some m) n e = (m, refl, cc)

sign_in_code : (text : List ℕ) (f : Found) → option_map found_sign (first_sign code_signs text) ≡ Some f → Finds Code text f
sign_in_code text f e =
    let s = some-sign (first_sign code_signs text) f e in
    let h = first_sign-head is_other_code code_signs text s.0 code_heads s.1 in
    same_found Code text (found_sign s.0) f s.2 (a_sign Code text s.0 h.split h.some s.1)

sign_in_tag : (text : List ℕ) (f : Found) → option_map found_sign (first_sign tag_signs text) ≡ Some f → Finds Tag text f
sign_in_tag text f e =
    let s = some-sign (first_sign tag_signs text) f e in
    let h = first_sign-head is_other_tag tag_signs text s.0 tag_heads s.1 in
    same_found Tag text (found_sign s.0) f s.2 (a_sign Tag text s.0 h.split h.some s.1)

sign_in_children : (text : List ℕ) (f : Found) → option_map found_sign (first_sign children_signs text) ≡ Some f → Finds Children text f
sign_in_children text f e =
    let s = some-sign (first_sign children_signs text) f e in
    let h = first_sign-head is_other_children children_signs text s.0 children_heads s.1 in
    same_found Children text (found_sign s.0) f s.2 (a_sign Children text s.0 h.split h.some s.1)

sign_in_close : (text : List ℕ) (f : Found) → option_map found_sign (first_sign close_signs text) ≡ Some f → Finds Close text f
sign_in_close text f e =
    let s = some-sign (first_sign close_signs text) f e in
    let h = first_sign-head is_other_close close_signs text s.0 close_heads s.1 in
    same_found Close text (found_sign s.0) f s.2 (a_sign Close text s.0 h.split h.some s.1)

-- comments
a_line : (cs : List ℕ) → Finds Code (47 ∷ 47 ∷ cs) (found None (2 + prefix_len is_in_line cs))
a_line cs = record {
  word = 47 ∷ 47 ∷ take (prefix_len is_in_line cs) cs;
  after = drop (prefix_len is_in_line cs) cs;
  split = ap (λ (xs : List ℕ). 47 ∷ 47 ∷ xs) (sym (take-append-drop (prefix_len is_in_line cs) cs));
  length_is = let l = length-prefix_len is_in_line cs in omega arith;
  some = omega arith;
  fits = inl (
    inr (inl (record {
      body = take (prefix_len is_in_line cs) cs;
      spelled = refl;
      in_line = list_all-run is_in_line cs;
      longest = Ends-run is_in_line cs;
    })),
    refl,
  );
}

a_block : (cs : List ℕ) (n m : ℕ) → comment_end cs ≡ Some m → 2 + m ≡ n → Finds Code (47 ∷ 42 ∷ cs) (found None n)
a_block cs n m e k =
    let f = comment_end-sound cs m e in
    let l = length-append f.body (42 ∷ 47 ∷ []) in
    let s = f.length_is in
    record {
      word = 47 ∷ 42 ∷ (f.body ++ 42 ∷ 47 ∷ []);
      after = f.after;
      split = ap (λ (xs : List ℕ). 47 ∷ 42 ∷ xs) (f.split ∙ sym (append_assoc f.body (42 ∷ 47 ∷ []) f.after));
      length_is = omega arith;
      some = omega arith;
      fits = inl (inr (inr (record { body = f.body; spelled = refl; first_end = f.first_end })), refl);
    }

a_comment : (bs : List ℕ) (n : ℕ) → comment_len bs ≡ Some n → Finds Code (47 ∷ bs) (found None n)
a_comment [] n e = absurd cc
a_comment (c ∷ cs) n e = by_slash (nat_eq c 47) refl
  where
    by_star : nat_eq c 47 ≡ false → (t : Bool) → nat_eq c 42 ≡ t → Finds Code (47 ∷ c ∷ cs) (found None n)
    by_star s true t =
        let f : offset_by 2 (comment_end cs) ≡ Some n = sym (cond-false (nat_eq c 47) _ _ s ∙ cond-true (nat_eq c 42) (offset_by 2 (comment_end cs)) None t) ∙ e in
        let m = some-shifted 2 (comment_end cs) n f in
        subst (λ (x : ℕ). Finds Code (47 ∷ x ∷ cs) (found None n)) (sym (eqb-true c 42 t)) (a_block cs n m.0 m.1 m.2)
    by_star s false t =
        let f : comment_len (c ∷ cs) ≡ None = cond-false (nat_eq c 47) _ _ s ∙ cond-false (nat_eq c 42) (offset_by 2 (comment_end cs)) None t in absurd cc

    by_slash : (t : Bool) → nat_eq c 47 ≡ t → Finds Code (47 ∷ c ∷ cs) (found None n)
    by_slash true t =
        let f : Some (2 + prefix_len is_in_line cs) ≡ Some n = sym (cond-true (nat_eq c 47) (Some (2 + prefix_len is_in_line cs)) _ t) ∙ e in
        let i : 2 + prefix_len is_in_line cs ≡ n = cc in
        subst (λ (x : ℕ). Finds Code (47 ∷ x ∷ cs) (found None n)) (sym (eqb-true c 47 t))
        (subst (λ (k : ℕ). Finds Code (47 ∷ 47 ∷ cs) (found None k)) i (a_line cs))
    by_slash false t = by_star t (nat_eq c 42) refl

-- a number, and a string of Code
a_number : (text : List ℕ) (n : ℕ) → number_len text ≡ Some n → Finds Code text (found (Some Number) n)
a_number text n e =
    let f = number_len-sound text n e in
    record { word = f.word; after = f.after; split = f.split; length_is = f.length_is; some = some f.word f.form; fits = inl ((f.form, f.ends), refl) }
  where
    some : (w : List ℕ) → IsNumber w → 0 < length w
    some [] h = absurd h
    some (b ∷ bs) h = omega arith

a_string : (q : ℕ) (bs : List ℕ) (n : ℕ) → is_quote q ≡ true → string_len q 0 bs ≡ Some n → Finds Code (q ∷ bs) (found (Some Str) (1 + n))
a_string q bs n h e =
    let f = string_len-sound (length bs) q bs n (omega arith) e in
    let body : List ℕ = flat_map spelling_of f.parts in
    let l = length-append body (q ∷ []) in
    let s = f.length_is in
    record {
      word = q ∷ (body ++ q ∷ []);
      after = f.after;
      split = ap (λ (xs : List ℕ). q ∷ xs) (f.split ∙ sym (append_assoc body (q ∷ []) f.after));
      length_is = omega arith;
      some = omega arith;
      fits = inl (record { quote = q; parts = f.parts; quoted = h; valid = f.valid; spelled = refl }, refl);
    }

-- a string of Tag
head-fails : (q : ℕ) (xs : List ℕ) → Ends (λ b. not (nat_eq b q)) xs → 0 < length xs → (more : List ℕ) × (xs ≡ q ∷ more)
head-fails q [] h l = absurd (omega arith)
head-fails q (b ∷ bs) h l = (bs, ap (λ (x : ℕ). x ∷ bs) (eqb-true b q (not-false (nat_eq b q) h)))

a_tag_string : (q : ℕ) (bs : List ℕ) (n : ℕ) → is_quote q ≡ true → tag_string_len q bs ≡ Some n → Finds Tag (q ∷ bs) (found (Some TagStr) n)
a_tag_string q bs n h e = by_end (nat_lt (prefix_len (λ b. not (nat_eq b q)) bs) (length bs)) refl
  where
    by_end : (t : Bool) → nat_lt (prefix_len (λ b. not (nat_eq b q)) bs) (length bs) ≡ t → Finds Tag (q ∷ bs) (found (Some TagStr) n)
    by_end true t =
        let k : ℕ = prefix_len (λ b. not (nat_eq b q)) bs in
        let body : List ℕ = take k bs in
        let f : Some (k + 2) ≡ Some n = sym (cond-true (nat_lt k (length bs)) (Some (k + 2)) None t) ∙ e in
        let i : k + 2 ≡ n = cc in
        let lt : k < length bs = ltb-true k (length bs) t in
        let size : length body ≡ k = length-prefix_len (λ b. not (nat_eq b q)) bs in
        let whole : bs ≡ body ++ drop k bs = sym (take-append-drop k bs) in
        let total : length bs ≡ length body + length (drop k bs) = ap length whole ∙ length-append body (drop k bs) in
        let m = head-fails q (drop k bs) (Ends-run (λ b. not (nat_eq b q)) bs) (omega arith) in
        let l = length-append body (q ∷ []) in
        record {
          word = q ∷ (body ++ q ∷ []);
          after = m.0;
          split = ap (λ (xs : List ℕ). q ∷ xs) (whole ∙ (ap (λ (xs : List ℕ). body ++ xs) m.1 ∙ sym (append_assoc body (q ∷ []) m.0)));
          length_is = omega arith;
          some = omega arith;
          fits = inl (record { quote = q; body = body; quoted = h; first_end = list_all-run (λ b. not (nat_eq b q)) bs; spelled = refl }, refl);
        }
    by_end false t =
        let f : tag_string_len q bs ≡ None = cond-false (nat_lt (prefix_len (λ b. not (nat_eq b q)) bs) (length bs)) _ None t in absurd cc

-- each mode
in_code : (text : List ℕ) (f : Found) → read_code text ≡ Some f → Finds Code text f
in_code [] f e = absurd cc
in_code (b ∷ bs) f e = by_space (is_space b) refl
  where
    by_slash : is_space b ≡ false → is_name_start b ≡ false → is_number_start b ≡ false → is_quote b ≡ false → (t : Bool) → nat_eq b 47 ≡ t → Finds Code (b ∷ bs) f
    by_slash s n d q true t =
        let g : option_map (λ n. found None n) (comment_len bs) ≡ Some f = sym (cond-false (is_space b) _ _ s ∙ (cond-false (is_name_start b) _ _ n ∙ (cond-false (is_number_start b) _ _ d ∙ (cond-false (is_quote b) _ _ q ∙ cond-true (nat_eq b 47) (option_map (λ n. found None n) (comment_len bs)) _ t)))) ∙ e in
        let m = some-length (λ n. found None n) (comment_len bs) f g in
        subst (λ (x : ℕ). Finds Code (x ∷ bs) f) (sym (eqb-true b 47 t)) (same_found Code (47 ∷ bs) (found None m.0) f m.2 (a_comment bs m.0 m.1))
    by_slash s n d q false t =
        let g : option_map found_sign (first_sign code_signs (b ∷ bs)) ≡ Some f = sym (cond-false (is_space b) _ _ s ∙ (cond-false (is_name_start b) _ _ n ∙ (cond-false (is_number_start b) _ _ d ∙ (cond-false (is_quote b) _ _ q ∙ cond-false (nat_eq b 47) _ (option_map found_sign (first_sign code_signs (b ∷ bs))) t)))) ∙ e in
        sign_in_code (b ∷ bs) f g

    by_quote : is_space b ≡ false → is_name_start b ≡ false → is_number_start b ≡ false → (t : Bool) → is_quote b ≡ t → Finds Code (b ∷ bs) f
    by_quote s n d true t =
        let m = some-length (λ n. found (Some Str) (1 + n)) (string_len b 0 bs) f (sym (forms.code-quote b bs t) ∙ e) in
        same_found Code (b ∷ bs) (found (Some Str) (1 + m.0)) f m.2 (a_string b bs m.0 t m.1)
    by_quote s n d false t = by_slash s n d t (nat_eq b 47) refl

    by_number : is_space b ≡ false → is_name_start b ≡ false → (t : Bool) → is_number_start b ≡ t → Finds Code (b ∷ bs) f
    by_number s n true t =
        let m = some-length (λ n. found (Some Number) n) (number_len (b ∷ bs)) f (sym (forms.code-number b bs t) ∙ e) in
        same_found Code (b ∷ bs) (found (Some Number) m.0) f m.2 (a_number (b ∷ bs) m.0 m.1)
    by_number s n false t = by_quote s n t (is_quote b) refl

    by_name : is_space b ≡ false → (t : Bool) → is_name_start b ≡ t → Finds Code (b ∷ bs) f
    by_name s true t =
        let g : Some (found (Some Name) (1 + prefix_len is_name_part bs)) ≡ Some f = sym (cond-false (is_space b) _ _ s ∙ cond-true (is_name_start b) (Some (found (Some Name) (1 + prefix_len is_name_part bs))) _ t) ∙ e in
        same_found Code (b ∷ bs) (found (Some Name) (1 + prefix_len is_name_part bs)) f g
        (run Code (Some Name) is_name_part b bs ((t, list_all-run is_name_part bs), Ends-run is_name_part bs))
    by_name s false t = by_number s t (is_number_start b) refl

    by_space : (t : Bool) → is_space b ≡ t → Finds Code (b ∷ bs) f
    by_space true t =
        let g : Some (found None 1) ≡ Some f = sym (cond-true (is_space b) (Some (found None 1)) _ t) ∙ e in
        same_found Code (b ∷ bs) (found None 1) f g (one_space Code b bs (inl t))
    by_space false t = by_name t (is_name_start b) refl

in_tag : (text : List ℕ) (f : Found) → read_tag text ≡ Some f → Finds Tag text f
in_tag [] f e = absurd cc
in_tag (b ∷ bs) f e = by_space (is_space b) refl
  where
    by_quote : is_space b ≡ false → is_name_start b ≡ false → (t : Bool) → is_quote b ≡ t → Finds Tag (b ∷ bs) f
    by_quote s n true t =
        let m = some-length (λ n. found (Some TagStr) n) (tag_string_len b bs) f (sym (forms.tag-quote b bs t) ∙ e) in
        same_found Tag (b ∷ bs) (found (Some TagStr) m.0) f m.2 (a_tag_string b bs m.0 t m.1)
    by_quote s n false t =
        let g : option_map found_sign (first_sign tag_signs (b ∷ bs)) ≡ Some f = sym (cond-false (is_space b) _ _ s ∙ (cond-false (is_name_start b) _ _ n ∙ cond-false (is_quote b) _ (option_map found_sign (first_sign tag_signs (b ∷ bs))) t)) ∙ e in
        sign_in_tag (b ∷ bs) f g

    by_name : is_space b ≡ false → (t : Bool) → is_name_start b ≡ t → Finds Tag (b ∷ bs) f
    by_name s true t =
        let g : Some (found (Some Name) (1 + prefix_len is_tag_name_part bs)) ≡ Some f = sym (cond-false (is_space b) _ _ s ∙ cond-true (is_name_start b) (Some (found (Some Name) (1 + prefix_len is_tag_name_part bs))) _ t) ∙ e in
        same_found Tag (b ∷ bs) (found (Some Name) (1 + prefix_len is_tag_name_part bs)) f g
        (run Tag (Some Name) is_tag_name_part b bs ((t, list_all-run is_tag_name_part bs), Ends-run is_tag_name_part bs))
    by_name s false t = by_quote s t (is_quote b) refl

    by_space : (t : Bool) → is_space b ≡ t → Finds Tag (b ∷ bs) f
    by_space true t =
        let g : Some (found None 1) ≡ Some f = sym (cond-true (is_space b) (Some (found None 1)) _ t) ∙ e in
        same_found Tag (b ∷ bs) (found None 1) f g (one_space Tag b bs t)
    by_space false t = by_name t (is_name_start b) refl

in_children : (text : List ℕ) (f : Found) → read_children text ≡ Some f → Finds Children text f
in_children [] f e = absurd cc
in_children (b ∷ bs) f e = by_text (is_jsx_text b) refl
  where
    by_text : (t : Bool) → is_jsx_text b ≡ t → Finds Children (b ∷ bs) f
    by_text true t =
        let g : Some (found (Some JsxText) (1 + prefix_len is_jsx_text bs)) ≡ Some f = sym (cond-true (is_jsx_text b) (Some (found (Some JsxText) (1 + prefix_len is_jsx_text bs))) _ t) ∙ e in
        let all : list_all is_jsx_text (b ∷ take (prefix_len is_jsx_text bs) bs) ≡ true = and_from (is_jsx_text b) (list_all is_jsx_text (take (prefix_len is_jsx_text bs) bs)) t (list_all-run is_jsx_text bs) in
        same_found Children (b ∷ bs) (found (Some JsxText) (1 + prefix_len is_jsx_text bs)) f g
        (run Children (Some JsxText) is_jsx_text b bs (all, Ends-run is_jsx_text bs))
    by_text false t =
        let g : option_map found_sign (first_sign children_signs (b ∷ bs)) ≡ Some f = sym (cond-false (is_jsx_text b) _ (option_map found_sign (first_sign children_signs (b ∷ bs))) t) ∙ e in
        sign_in_children (b ∷ bs) f g

in_close : (text : List ℕ) (f : Found) → read_close text ≡ Some f → Finds Close text f
in_close [] f e = absurd cc
in_close (b ∷ bs) f e = by_space (is_space b) refl
  where
    by_name : is_space b ≡ false → (t : Bool) → is_name_start b ≡ t → Finds Close (b ∷ bs) f
    by_name s true t =
        let g : Some (found (Some Name) (1 + prefix_len is_tag_name_part bs)) ≡ Some f = sym (cond-false (is_space b) _ _ s ∙ cond-true (is_name_start b) (Some (found (Some Name) (1 + prefix_len is_tag_name_part bs))) _ t) ∙ e in
        same_found Close (b ∷ bs) (found (Some Name) (1 + prefix_len is_tag_name_part bs)) f g
        (run Close (Some Name) is_tag_name_part b bs ((t, list_all-run is_tag_name_part bs), Ends-run is_tag_name_part bs))
    by_name s false t =
        let g : option_map found_sign (first_sign close_signs (b ∷ bs)) ≡ Some f = sym (cond-false (is_space b) _ _ s ∙ cond-false (is_name_start b) _ (option_map found_sign (first_sign close_signs (b ∷ bs))) t) ∙ e in
        sign_in_close (b ∷ bs) f g

    by_space : (t : Bool) → is_space b ≡ t → Finds Close (b ∷ bs) f
    by_space true t =
        let g : Some (found None 1) ≡ Some f = sym (cond-true (is_space b) (Some (found None 1)) _ t) ∙ e in
        same_found Close (b ∷ bs) (found None 1) f g (one_space Close b bs t)
    by_space false t = by_name t (is_name_start b) refl

finds : (m : Mode) (text : List ℕ) (f : Found) → read m false text ≡ Some f → Finds m text f
finds Code text f e = in_code text f e
finds Tag text f e = in_tag text f e
finds Children text f e = in_children text f e
finds Close text f e = in_close text f e

form_found : (m : Mode) (kind : Option TokenKind) (word after : List ℕ) → HasForm m kind word after → read m false (word ++ after) ≡ Some (found kind (length word))
form_found Code None word after (inl h) = forms.space-code word after h
form_found Code None word after (inr (inl h)) = forms.line-code word after h
form_found Code None word after (inr (inr h)) = forms.block-code word after h
form_found Code (Some Name) word after h = forms.name-code word after h.0 h.1
form_found Code (Some Number) word after h = forms.number-code word after h.0 h.1
form_found Code (Some Str) word after h = forms.string-code word after h
form_found Tag None word after h = forms.space-tag word after h
form_found Tag (Some Name) word after h = forms.name-tag word after h.0 h.1
form_found Tag (Some TagStr) word after h = forms.string-tag word after h
form_found Children (Some JsxText) word after h = forms.text-children word after h.0 h.1
form_found Close None word after h = forms.space-close word after h
form_found Close (Some Name) word after h = forms.name-close word after h.0 h.1
form_found _ _ word after h = absurd h

sign_found : (m : Mode) (text : List ℕ) (r : SignRow) → first_sign (signs_of m) text ≡ Some r → read m false text ≡ Some (found_sign r)
sign_found Code text r e = sign-code text r e
sign_found Tag text r e = sign-tag text r e
sign_found Children text r e = sign-children text r e
sign_found Close text r e = sign-close text r e

fits_found : (m : Mode) (x : Lexeme) (after : List ℕ) → Fits m x after → read m false (x.bytes ++ after) ≡ Some (found_of x)
fits_found m x after (inl h) = form_found m x.kind x.bytes after h.0 ∙ ap (λ (c : Change). Some (record { kind = x.kind; length = length x.bytes; change = c })) (sym h.1)
fits_found m x after (inr s) = sign_found m (x.bytes ++ after) (row x.bytes x.change) s.1 ∙ ap (λ (k : Option TokenKind). Some (record { kind = k; length = length x.bytes; change = x.change })) (sym s.0)

-- the first Code
one_byte : (word after bs : List ℕ) → length word ≡ 1 → word ++ after ≡ 125 ∷ bs → word ≡ 125 ∷ []
one_byte [] after bs l e = absurd (omega arith)
one_byte (b ∷ []) after bs l e = let i : b ≡ 125 = cc in ap (λ (x : ℕ). x ∷ []) i
one_byte (b ∷ c ∷ cs) after bs l e = absurd (omega arith)

no_brace : (x : Lexeme) (after : List ℕ) → read_code (x.bytes ++ after) ≡ Some (found_of x) → x.bytes ≢ codes "}" → (t : Bool) → begins (codes "}") (x.bytes ++ after) ≡ t → t ≡ false
no_brace x after e ne false b = refl
no_brace x after e ne true b =
    let s : x.bytes ++ after ≡ 125 ∷ drop 1 (x.bytes ++ after) = begins-split (codes "}") (x.bytes ++ after) b in
    let r : read_code (125 ∷ drop 1 (x.bytes ++ after)) ≡ Some (found_of x) = ap read_code (sym s) ∙ e in
    absurd (ne (one_byte x.bytes after (drop 1 (x.bytes ++ after)) (brace-code (drop 1 (x.bytes ++ after)) (found_of x) r) s))

read-first : (m : Mode) (text : List ℕ) (f : Found) → read m false text ≡ Some f → (m ≡ Code → begins (codes "}") text ≡ false) → read m true text ≡ Some f
read-first Code text f e h = cond-false (true && begins (codes "}") text) None (read_code text) (h refl) ∙ e
read-first Tag text f e h = e
read-first Children text f e h = e
read-first Close text f e h = e

abbrev mode_of : ModesAt → Mode
mode_of modes = modes.mode

-- a lexeme that stands is found
pub stands_found : (modes : ModesAt) (x : Lexeme) (after : List ℕ) (t : Bool) → (t ≡ true → modes ≡ first_modes) → Stands modes x after → read modes.mode t (x.bytes ++ after) ≡ Some (found_of x)
stands_found modes x after false first h = fits_found modes.mode x after h.form
stands_found modes x after true first h =
    let f : read modes.mode false (x.bytes ++ after) ≡ Some (found_of x) = fits_found modes.mode x after h.form in
    read-first modes.mode (x.bytes ++ after) (found_of x) f
    (λ m. no_brace x after (subst (λ (k : Mode). read k false (x.bytes ++ after) ≡ Some (found_of x)) m f) (h.closes (first refl)) (begins (codes "}") (x.bytes ++ after)) refl)

-- what is found stands there
pub record FindsLexeme (modes : ModesAt) (text : List ℕ) (f : Found) : Type 0 where
  pub word : List ℕ
  pub after : List ℕ
  pub split : text ≡ word ++ after
  pub length_is : f.length ≡ length word
  pub some : 0 < length word
  pub stands : Stands modes (lexeme f word) after

read-any : (m : Mode) (t : Bool) (text : List ℕ) (f : Found) → read m t text ≡ Some f → read m false text ≡ Some f
read-any Code false text f e = e
read-any Code true text f e = by_brace (begins (codes "}") text) refl
  where
    by_brace : (b : Bool) → begins (codes "}") text ≡ b → read_code text ≡ Some f
    by_brace true b = let k : read Code true text ≡ None = cond-true (true && begins (codes "}") text) None (read_code text) b in absurd cc
    by_brace false b = sym (cond-false (true && begins (codes "}") text) None (read_code text) b) ∙ e
read-any Tag t text f e = e
read-any Children t text f e = e
read-any Close t text f e = e

first-no_brace : (text : List ℕ) (f : Found) → read Code true text ≡ Some f → (b : Bool) → begins (codes "}") text ≡ b → b ≡ false
first-no_brace text f e false b = refl
first-no_brace text f e true b = let k : read Code true text ≡ None = cond-true (true && begins (codes "}") text) None (read_code text) b in absurd cc

pub found_stands : (modes : ModesAt) (t : Bool) (text : List ℕ) (f : Found) → (modes ≡ first_modes → t ≡ true) → read modes.mode t text ≡ Some f → FindsLexeme modes text f
found_stands modes t text f first e =
    let h = finds modes.mode text f (read-any modes.mode t text f e) in
    record {
      word = h.word;
      after = h.after;
      split = h.split;
      length_is = h.length_is;
      some = h.some;
      stands = record {
        form = h.fits;
        closes = λ m w.
            let e' : read Code t text ≡ Some f = subst (λ (k : Mode). read k t text ≡ Some f) (ap mode_of m) e in
            let e'' : read Code true text ≡ Some f = subst (λ (b : Bool). read Code b text ≡ Some f) (first m) e' in
            let no : begins (codes "}") text ≡ false = first-no_brace text f e'' (begins (codes "}") text) refl in
            let s : text ≡ codes "}" ++ h.after = h.split ∙ ap (λ (xs : List ℕ). xs ++ h.after) w in
            let yes : begins (codes "}") text ≡ true = ap (λ (xs : List ℕ). begins (codes "}") xs) s ∙ begins-front (codes "}") h.after in
            let f : true ≡ false = sym yes ∙ no in
            absurd cc;
      };
    }

-- nothing stands at the end of a text
pub read-end : (m : Mode) (t : Bool) → read m t [] ≡ None
read-end Code true = refl
read-end Code false = refl
read-end Tag t = refl
read-end Children t = refl
read-end Close t = refl

pub found_within : (m : Mode) (t : Bool) (text : List ℕ) (f : Found) → read m t text ≡ Some f → (0 < f.length) × (f.length ≤ length text)
found_within m t text f e =
    let h = finds m text f (read-any m t text f e) in
    let l : length text ≡ length h.word + length h.after = ap length h.split ∙ length-append h.word h.after in
    let s = h.some in
    let n = h.length_is in
    (omega arith, omega arith)

pub found_within-some : (m : Mode) (t : Bool) (text : List ℕ) (o : Option Found) → o ≡ read m t text → IfSome o (λ f. (0 < f.length) × (f.length ≤ length text))
found_within-some m t text None e = tt
found_within-some m t text (Some f) e = found_within m t text f (sym e)
