-- The kind of the fault where a byte cannot follow.
use Rattle.std.proofs.Common.{◌≡◌, ℕ, ◌+◌, ◌<◌, ◌≤◌, Bool, true, false, not, nat_eq, nat_lt, ◌==◌, ◌&&◌, ◌||◌, inl, inr, Option, Some, None, Result, Ok, Err, is_ok, List, [], ◌∷◌, ◌++◌, length, drop, codes, refl, sym, ◌∙◌, ap, subst, ⊎_elim, arith, append-nil, append_assoc, length-append}
use Rattle.std.specs.List.{list_all, ends_with}
use Rattle.std.specs.Str.{IsUtf8, bytes_eq}
use Rattle.std.proofs.lemmas.Bool.{cond_both, cond-false, eqb-true, ne_eqb, and_parts, or_cases, or_right, or_parts, ltb-true, ltb-false, true≢false}
use Rattle.std.proofs.lemmas.List.{nil_from_length}
use Rattle.std.proofs.lemmas.Str.{IsUtf8-append}
use Rattle.fizz_text.specs.declared.attribute.Attr.{Attr}
use Rattle.html_names.specs.Escape.{escape_of, entities}
use Rattle.html_names.proofs.Utf8Lemmas.{escaped_utf8, utf8_ascii, AreAscii}
use Rattle.html_read.specs.declared.fault.ReadKind.{ReadKind}
use Rattle.html_read.specs.declared.fault.ReadKind.TheVariants as kinds
use Rattle.html_read.specs.declared.place.Tail.{Tail}
use Rattle.html_read.specs.declared.place.Place.{Place}
use Rattle.html_read.specs.declared.place.Place.TheVariants.{Whole, Char, Entity}
use Rattle.html_read.specs.declared.place.RunFault.{RunFault}
use Rattle.html_read.specs.declared.place.RunFault.TheVariants as faults
use Rattle.html_read.specs.declared.machine.Mode.{Mode}
use Rattle.html_read.specs.declared.machine.Mode.TheVariants.{Text, Name, EndName, Comment, Script, Space, Attribute, Equals, Value, Close, Slash}
use Rattle.html_read.specs.declared.machine.Transition.{Transition}
use Rattle.html_read.specs.declared.machine.Transition.TheVariants.{Goes, Ends, Cuts, Fails}
use Rattle.html_names.specs.Names.{is_letter, is_digit, is_name_byte}
use Rattle.html_read.specs.Names.{IsTagName, IsAttributeName}
use Rattle.html_names.specs.Printing.{attribute_spelling, attributes_spelling, tag_prefix}
use Rattle.html_read.specs.Tokens.{IsAttribute, script_end}
use Rattle.html_read.specs.Faults.{begins_tag, IsOpenValue, IsRun, IsUtf8Prefix, IsAtUtf8, IsAtEntity, IsAtText, IsAtComment, IsAtAttribute, HasKind}
use Rattle.html_read.specs.Machine.{is_word, begins_word, start_words, tag_words, comment_words, tag_flag, char_start, starts_char, start_after, tail_after, entity_after, place_after, text_transition, value_transition, close_transition, flag_transition, after_name, name_transition, end_flag_transition, end_name_transition, comment_transition, script_transition, space_transition, attribute_transition, equals_transition, slash_transition, transition_of}
use Rattle.html_read.proofs.WordLemmas.{none_true, begins_gives, word_passes, is_word_byte, is_name_word, begins_with_letter, start_word_bytes, tag_name_bytes, tag_name_letter, tag_name_not_script, tag_of_flag, flag_of_tag}
use Rattle.html_read.proofs.TailLemmas.{IsCharPlace, start_gives, part_completes, Ends as Completed, start_fine, tail_fine, IsFine}
use Rattle.html_read.proofs.PlaceAfterLemmas.{char_after, chars_through, on_place, chars_append, utf8_through, after_high, err_ok}
use Rattle.html_read.proofs.HasRunLemmas.{AreHigh, IsOpenEntity, HasRun, HasWhole, HasChar, HasEntity}
use Rattle.html_read.proofs.FitsLemmas.{Fits, HasTag, opening}
use Rattle.html_read.proofs.QuotedLemmas.{no_quote, HasNoQuote, all_front, name_no_quote, attribute_no_quote, run_no_quote, quoted, quoted_append, quoted_none, quoted_front, quoted_attribute, open_quoted, after_quote, not_within, begun_open}
use Rattle.html_read.proofs.StandsLemmas.{escaped_no_tag}

-- What the UTF-8 of the run says of the byte.
same_result : (p : Place) (r : Result Place RunFault) → r ≡ Ok p → (f : RunFault) → r ≡ Err f → ⊥
same_result p r e f g = err_ok f p (sym g ∙ e)

not_front : (run : List ℕ) (p : Place) (b : ℕ) (f : RunFault) → chars_through Whole run ≡ Ok p → char_after p b ≡ Err f → ¬ IsUtf8Prefix (run ++ b ∷ [])
not_front run p b f through fails front =
    let whole : chars_through Whole (run ++ b ∷ [] ++ front.0) ≡ Ok Whole = utf8_through (run ++ b ∷ [] ++ front.0) front.1 in
    let cut : chars_through Whole (run ++ b ∷ [] ++ front.0) ≡ Err f =
    ap (chars_through Whole) (append_assoc run (b ∷ []) front.0) ∙ (chars_append Whole run (b ∷ front.0) ∙ (ap (λ r. on_place r (λ q. chars_through q (b ∷ front.0))) through ∙ ap (λ r. on_place r (λ q. chars_through q front.0)) fails)) in
    err_ok f Whole (sym cut ∙ whole)

whole_utf8 : (run : List ℕ) → HasWhole run → IsUtf8 run
whole_utf8 run h = subst IsUtf8 (sym h.is) (escaped_utf8 h.text h.utf8)

front_ascii : (run : List ℕ) (b : ℕ) → HasWhole run → b < 128 → IsUtf8Prefix (run ++ b ∷ [])
front_ascii run b h l = ([], subst IsUtf8 (sym (append-nil (run ++ b ∷ []))) (IsUtf8-append run (b ∷ []) (whole_utf8 run h) (utf8_ascii (b ∷ []) (l, tt))))

ascii_word : List ℕ → Bool
ascii_word w = list_all (λ b. nat_lt b 128) w

ascii_all : (w : List ℕ) → list_all (λ b. nat_lt b 128) w ≡ true → AreAscii w
ascii_all [] h = tt
ascii_all (b ∷ bs) h = let g : (nat_lt b 128 ≡ true) × (list_all (λ x. nat_lt x 128) bs ≡ true) = and_parts _ _ h in (ltb-true b 128 g.0, ascii_all bs g.1)

entity_ascii : (e : List ℕ) → IsOpenEntity e → IsUtf8 e
entity_ascii e h =
    let g : (rest : List ℕ) × (is_word entities (e ++ rest) ≡ true) = begins_gives entities e h.begun in
    utf8_ascii e (ascii_all e (all_front (λ b. nat_lt b 128) e g.0 (word_passes (list_all (λ b. nat_lt b 128)) entities (e ++ g.0) refl g.1)))

entity_utf8 : (base start : ℕ) (run : List ℕ) → HasEntity base start run → IsUtf8 run
entity_utf8 base start run h = subst IsUtf8 (sym h.is) (IsUtf8-append (escape_of h.text) h.entity (escaped_utf8 h.text h.utf8) (entity_ascii h.entity h.begun))

starts_front : (b : ℕ) → starts_char b ≡ true → IsUtf8Prefix (b ∷ [])
starts_front b h =
    ⊎_elim (λ l. ([], utf8_ascii (b ∷ []) (ltb-true b 128 l, tt))) (λ ok. go (char_start b) refl ok) (or_cases _ _ h)
  where
    place_front : (p : Place) → IsCharPlace (b ∷ []) p → IsUtf8Prefix (b ∷ [])
    place_front Whole c = ([], c)
    place_front (Char tail) c = let e : Completed (b ∷ []) = part_completes tail (b ∷ []) c in (e.more, e.utf8)
    place_front (Entity start) c = absurd c

    go : (r : Result Place RunFault) → char_start b ≡ r → is_ok r ≡ true → IsUtf8Prefix (b ∷ [])
    go (Ok p) e ok = place_front p (start_gives b p e)
    go (Err f) e ok = absurd (none_true ok)

front_starts : (run : List ℕ) (b : ℕ) → IsUtf8 run → starts_char b ≡ true → IsUtf8Prefix (run ++ b ∷ [])
front_starts run b u h =
    let f : IsUtf8Prefix (b ∷ []) = starts_front b h in
    (f.0, subst IsUtf8 (sym (append_assoc run (b ∷ []) f.0)) (IsUtf8-append run (b ∷ f.0) u f.1))

no_start : (b : ℕ) → starts_char b ≡ false → (f : RunFault) × (char_after Whole b ≡ Err f)
no_start b h =
    let g : (nat_lt b 128 ≡ false) × (is_ok (char_start b) ≡ false) = or_parts _ _ h in
    go (char_start b) refl g.1 g.0
  where
    go : (r : Result Place RunFault) → char_start b ≡ r → is_ok r ≡ false → nat_lt b 128 ≡ false → (f : RunFault) × (char_after Whole b ≡ Err f)
    go (Ok p) e none l = absurd (true≢false none)
    go (Err f) e none l = (f, cond-false (nat_lt b 128) (Ok Whole) (char_start b) l ∙ e)

-- Why the byte cannot go on with the run.
abbrev RunFails : ℕ → List ℕ → ℕ → RunFault → Type 0
RunFails base run b faults.Byte = HasWhole run × (b < 128)
RunFails base run b faults.Entity = ((start : ℕ) × HasEntity base start run) × (starts_char b ≡ true)
RunFails base run b faults.Utf8 = ¬ IsUtf8Prefix (run ++ b ∷ [])

abbrev FailsWith : ℕ → List ℕ → ℕ → Result Place RunFault → Type 0
FailsWith base run b (Ok p) = Unit {0}
FailsWith base run b (Err f) = RunFails base run b f

whole_fails : (base len b : ℕ) (run : List ℕ) → HasWhole run → FailsWith base run b (start_after len b)
whole_fails base len b run h =
    cond_both (b == 38) _ _ (FailsWith base run b) (λ e. tt) (λ n38.
    cond_both (b == 34 || (b == 39 || (b == 60 || b == 62))) _ _ (FailsWith base run b) (λ e. (h, low b e)) (λ n.
    cond_both (nat_lt b 128) _ _ (FailsWith base run b) (λ e. tt) (λ e.
    let high : 128 ≤ b = ltb-false b 128 e in
    go high (char_start b) refl (start_fine b))))
  where
    low : (b : ℕ) → (b == 34 || (b == 39 || (b == 60 || b == 62))) ≡ true → b < 128
    low b e = ⊎_elim (λ s. let k : b ≡ 34 = eqb-true b 34 s in omega arith) (λ e2. ⊎_elim (λ s. let k : b ≡ 39 = eqb-true b 39 s in omega arith) (λ e3. ⊎_elim (λ s. let k : b ≡ 60 = eqb-true b 60 s in omega arith) (λ s. let k : b ≡ 62 = eqb-true b 62 s in omega arith) (or_cases _ _ e3)) (or_cases _ _ e2)) (or_cases _ _ e)

    go : 128 ≤ b → (r : Result Place RunFault) → char_start b ≡ r → IsFine (b ∷ []) r → FailsWith base run b r
    go high (Ok p) e fine = tt
    go high (Err f) e fine = subst (RunFails base run b) (sym fine) (not_front run Whole b f (utf8_through run (whole_utf8 run h)) (after_high b high ∙ e))

char_fails : (base b : ℕ) (tail : Tail) (run : List ℕ) → HasChar tail run → FailsWith base run b (tail_after tail b)
char_fails base b tail run h = go (tail_after tail b) refl (tail_fine tail h.part b h.wants)
  where
    through : chars_through Whole run ≡ Ok (Char tail)
    through = ap (chars_through Whole) h.is ∙ (chars_append Whole (escape_of h.text) h.part ∙ (ap (λ r. on_place r (λ q. chars_through q h.part)) (utf8_through (escape_of h.text) (escaped_utf8 h.text h.utf8)) ∙ h.through))

    go : (r : Result Place RunFault) → tail_after tail b ≡ r → IsFine (h.part ++ b ∷ []) r → FailsWith base run b r
    go (Ok p) e fine = tt
    go (Err f) e fine = subst (RunFails base run b) (sym fine) (not_front run (Char tail) b f through e)

entity_fails : (base b start : ℕ) (run e : List ℕ) → HasEntity base start run → FailsWith base run b (entity_after start e b)
entity_fails base b start run e h =
    cond_both (is_word entities e) _ _ (FailsWith base run b) (λ w. tt) (λ n.
    cond_both (begins_word entities e) _ _ (FailsWith base run b) (λ g. tt) (λ m.
    cond_both (starts_char b) _ _ (FailsWith base run b) (λ s. ((start, h), s)) (λ s.
    let f : (f : RunFault) × (char_after Whole b ≡ Err f) = no_start b s in
    not_front run Whole b f.0 (utf8_through run (entity_utf8 base start run h)) f.1)))

run_fails : (base : ℕ) (p : Place) (run token : List ℕ) (b : ℕ) → HasRun base p run → FailsWith base run b (place_after p token b)
run_fails base Whole run token b h = whole_fails base (length token) b run h
run_fails base (Char tail) run token b h = char_fails base b tail run h
run_fails base (Entity start) run token b h = entity_fails base b start run (drop start token) h

-- A rest whose one run is known.
abbrev OnlyRun : List ℕ → List ℕ → Type 0
OnlyRun rest run = (other : List ℕ) → IsRun rest other → other ≡ run

utf8_kind : (rest run : List ℕ) (b : ℕ) → IsRun rest run → ¬ IsUtf8Prefix (run ++ b ∷ []) → HasKind rest b kinds.Utf8
utf8_kind rest run b is n = (run, is, n)

no_utf8 : (rest run : List ℕ) (b : ℕ) → OnlyRun rest run → IsUtf8Prefix (run ++ b ∷ []) → ¬ IsAtUtf8 rest b
no_utf8 rest run b only front k = k.2 (subst (λ r. IsUtf8Prefix (r ++ b ∷ [])) (sym (only k.0 k.1)) front)

no_entity : (rest run : List ℕ) → OnlyRun rest run → HasWhole run → ¬ IsAtEntity rest
no_entity rest run only h k = not_within h.text k.0 k.1 (sym h.is ∙ sym (only (escape_of k.0 ++ k.1) k.2)) k.3

entity_kind : (base start : ℕ) (rest run : List ℕ) (b : ℕ) → IsRun rest run → OnlyRun rest run → HasEntity base start run → starts_char b ≡ true → HasKind rest b kinds.Entity
entity_kind base start rest run b is only h s =
    (no_utf8 rest run b only (front_starts run b (entity_utf8 base start run h) s), (h.text, h.entity, subst (IsRun rest) h.is is, begun_open h.entity h.begun))

abbrev KindIs : List ℕ → ℕ → Transition → Type 0
KindIs rest b (Goes mode) = Unit {0}
KindIs rest b Ends = Unit {0}
KindIs rest b Cuts = Unit {0}
KindIs rest b (Fails kind) = HasKind rest b kind

-- In a text.
run_no_tag : (base : ℕ) (p : Place) (run : List ℕ) → HasRun base p run → begins_tag run ≡ false
run_no_tag base Whole run h = ap begins_tag (h.is ∙ sym (append-nil (escape_of h.text))) ∙ escaped_no_tag h.text [] refl
run_no_tag base (Char tail) run h = ap begins_tag h.is ∙ escaped_no_tag h.text h.part (high_no_tag h.part h.high)
  where
    high_no_tag : (part : List ℕ) → AreHigh part → begins_tag part ≡ false
    high_no_tag [] k = refl
    high_no_tag (x ∷ part) k = ne_eqb x 60 (λ e. let l : 128 ≤ x = k.0 in omega arith)
run_no_tag base (Entity start) run h = ap begins_tag h.is ∙ escaped_no_tag h.text h.entity (entity_no_tag h.entity h.begun)
  where
    not60 : List ℕ → Bool
    not60 w = list_all (λ b. not (b == 60)) w

    no_from : (x : Bool) → not x ≡ true → x ≡ false
    no_from true e = absurd (none_true e)
    no_from false e = refl

    first : (e : List ℕ) → list_all (λ b. not (b == 60)) e ≡ true → begins_tag e ≡ false
    first [] k = refl
    first (x ∷ e) k = no_from (x == 60) ((and_parts _ _ k).0)

    entity_no_tag : (e : List ℕ) → IsOpenEntity e → begins_tag e ≡ false
    entity_no_tag e k =
        let g : (rest : List ℕ) × (is_word entities (e ++ rest) ≡ true) = begins_gives entities e k.begun in
        first e (all_front (λ b. not (b == 60)) e g.0 (word_passes (list_all (λ b. not (b == 60))) entities (e ++ g.0) refl g.1))

front_tag : (rest : List ℕ) (name : List ℕ) (attributes : List Attr) (more : List ℕ) → rest ≡ tag_prefix name attributes ++ more → begins_tag rest ≡ true
front_tag rest name attributes more e = ap begins_tag e

text_only : (run : List ℕ) → begins_tag run ≡ false → OnlyRun run run
text_only run n other k =
    ⊎_elim (λ s. s.1) (λ v. absurd (none_true (sym n ∙ front_tag run v.0 v.1 (32 ∷ v.2 ++ 61 ∷ 34 ∷ other) v.6))) k

text_kind : (p : Place) (rest : List ℕ) (b : ℕ) → HasRun 0 p rest → (r : Result Place RunFault) → FailsWith 0 rest b r → KindIs rest b (text_transition (length (rest ++ b ∷ [])) b r)
text_kind p rest b h (Ok q) f = tt
text_kind p rest b h (Err faults.Byte) f =
    let n : begins_tag rest ≡ false = run_no_tag 0 p rest h in
    cond_both (b == 60) _ _ (KindIs rest b) (λ e. cond_both (length (rest ++ b ∷ []) == 1) _ _ (KindIs rest b) (λ s. tt) (λ s. tt)) (λ e.
    (no_utf8 rest rest b (text_only rest n) (front_ascii rest b f.0 f.1), no_entity rest rest (text_only rest n) f.0, n))
text_kind p rest b h (Err faults.Entity) f =
    let n : begins_tag rest ≡ false = run_no_tag 0 p rest h in
    entity_kind 0 f.0.0 rest rest b (inl (n, refl)) (text_only rest n) f.0.1 f.1
text_kind p rest b h (Err faults.Utf8) f = utf8_kind rest rest b (inl (run_no_tag 0 p rest h, refl)) f

-- In a tag.
no_run : (rest : List ℕ) → quoted false rest ≡ false → begins_tag rest ≡ true → (run : List ℕ) → IsRun rest run → ⊥
no_run rest q t run k = ⊎_elim (λ s. none_true (sym s.0 ∙ t)) (λ v. none_true (sym q ∙ open_quoted rest run v)) k

no_utf8_here : (rest : List ℕ) (b : ℕ) → quoted false rest ≡ false → begins_tag rest ≡ true → ¬ IsAtUtf8 rest b
no_utf8_here rest b q t k = no_run rest q t k.0 k.1

no_entity_here : (rest : List ℕ) → quoted false rest ≡ false → begins_tag rest ≡ true → ¬ IsAtEntity rest
no_entity_here rest q t k = no_run rest q t (escape_of k.0 ++ k.1) k.2

no_text : (rest : List ℕ) → begins_tag rest ≡ true → ¬ IsAtText rest
no_text rest t k = none_true (sym k ∙ t)

same_heads : (x y : ℕ) (xs ys : List ℕ) → x ∷ xs ≡ y ∷ ys → (x ≡ y) × (xs ≡ ys)
same_heads x y xs ys e = (cc, cc)

no_comment : (rest : List ℕ) (c : ℕ) (more : List ℕ) → rest ≡ 60 ∷ c ∷ more → (c ≡ 33 → ⊥) → ¬ IsAtComment rest
no_comment rest c more e n k = n ((same_heads c 33 more k.0 ((same_heads 60 60 (c ∷ more) (33 ∷ k.0) (sym e ∙ k.1)).1)).0)

letter_not_33 : (c : ℕ) → is_letter c ≡ true → c ≡ 33 → ⊥
letter_not_33 c h e = let f : is_letter 33 ≡ true = ap is_letter (sym e) ∙ h in none_true f

tag_no_comment : (name more rest : List ℕ) → begins_with_letter name ≡ true → rest ≡ 60 ∷ name ++ more → ¬ IsAtComment rest
tag_no_comment [] more rest h e = absurd (none_true h)
tag_no_comment (c ∷ name) more rest h e = no_comment rest c (name ++ more) e (letter_not_33 c h)

-- What follows the name of a tag.
record FollowsName (bytes : List ℕ) : Type 0 where
  after : ℕ
  more : List ℕ
  is : bytes ≡ after ∷ more
  other : is_word_byte after ≡ false

attributes_follow : (attributes : List Attr) (x : ℕ) (more : List ℕ) → is_word_byte x ≡ false → FollowsName (attributes_spelling attributes ++ x ∷ more)
attributes_follow [] x more n = record { after = x; more = more; is = refl; other = n }
attributes_follow (a ∷ rest) x more n = record { after = 32; more = _; is = refl; other = refl }

record InTag (rest : List ℕ) (b : ℕ) : Type 0 where
  tag : begins_tag rest ≡ true
  comment : ¬ IsAtComment rest
  attribute : IsAtAttribute rest b

in_tag : (v : Bool) (front suffix : List ℕ) (b x : ℕ) (more : List ℕ) → HasTag v front → suffix ++ b ∷ [] ≡ x ∷ more → is_word_byte x ≡ false → InTag (front ++ suffix) b
in_tag v front suffix b x more h e n =
    let named : IsTagName h.name = tag_of_flag h.name v h.flag in
    let f : FollowsName (attributes_spelling h.attributes ++ x ∷ more) = attributes_follow h.attributes x more n in
    let all : front ++ suffix ++ b ∷ [] ≡ 60 ∷ h.name ++ f.after ∷ f.more =
    append_assoc front suffix (b ∷ []) ∙ (ap (λ s. front ++ s) e ∙ (ap (λ s. s ++ x ∷ more) h.is ∙ (append_assoc (60 ∷ h.name) (attributes_spelling h.attributes) (x ∷ more) ∙ ap (λ s. 60 ∷ h.name ++ s) f.is))) in
    let start : front ++ suffix ≡ 60 ∷ h.name ++ (attributes_spelling h.attributes ++ suffix) = ap (λ s. s ++ suffix) h.is ∙ append_assoc (60 ∷ h.name) (attributes_spelling h.attributes) suffix in
    record {
      tag = ap begins_tag start;
      comment = tag_no_comment h.name (attributes_spelling h.attributes ++ suffix) (front ++ suffix) (tag_name_letter h.name named) start;
      attribute = (h.name, f.after, f.more, named, all, f.other);
    }

front_closed : (v : Bool) (front suffix : List ℕ) → HasTag v front → quoted false suffix ≡ false → quoted false (front ++ suffix) ≡ false
front_closed v front suffix h q =
    quoted_append false front suffix ∙ (ap (λ s. quoted s suffix) (ap (quoted false) h.is ∙ quoted_front h.name h.attributes (tag_of_flag h.name v h.flag) h.are) ∙ q)

tag_kind : (v : Bool) (front suffix : List ℕ) (b x : ℕ) (more : List ℕ) → HasTag v front → quoted false suffix ≡ false → suffix ++ b ∷ [] ≡ x ∷ more → is_word_byte x ≡ false
    → HasKind (front ++ suffix) b kinds.Attribute
tag_kind v front suffix b x more h q e n =
    let t : InTag (front ++ suffix) b = in_tag v front suffix b x more h e n in
    let c : quoted false (front ++ suffix) ≡ false = front_closed v front suffix h q in
    (no_utf8_here (front ++ suffix) b c t.tag, no_entity_here (front ++ suffix) c t.tag, no_text (front ++ suffix) t.tag, t.comment, t.attribute)

close_kind : (v w : Bool) (front suffix : List ℕ) (b x : ℕ) (more : List ℕ) → HasTag w front → quoted false suffix ≡ false → suffix ++ b ∷ [] ≡ x ∷ more → is_word_byte x ≡ false
    → KindIs (front ++ suffix) b (close_transition v b)
close_kind v w front suffix b x more h q e n =
    cond_both (b == 32) _ _ (KindIs (front ++ suffix) b) (λ s. tt) (λ n32.
    cond_both (b == 62) _ _ (KindIs (front ++ suffix) b) (λ s. tt) (λ n62.
    cond_both (b == 47 && v) _ _ (KindIs (front ++ suffix) b) (λ s. tt) (λ m. tag_kind w front suffix b x more h q e n)))

space_kind : (v : Bool) (front : List ℕ) (b len : ℕ) → HasTag v front → KindIs (front ++ 32 ∷ []) b (space_transition v len b)
space_kind v front b len h =
    cond_both (is_letter b) _ _ (KindIs (front ++ 32 ∷ []) b) (λ s. tt) (λ n. tag_kind v front (32 ∷ []) b 32 (b ∷ []) h refl refl refl)

named_closed : (name : List ℕ) → IsAttributeName name → quoted false (32 ∷ name) ≡ false
named_closed name h = quoted_none false name (attribute_no_quote name h)

attribute_kind : (v : Bool) (start : ℕ) (front name seen : List ℕ) (b : ℕ) → HasTag v front → IsAttributeName name → KindIs (front ++ 32 ∷ name) b (attribute_transition v start seen b)
attribute_kind v start front name seen b h named =
    cond_both (is_name_byte b) _ _ (KindIs (front ++ 32 ∷ name) b) (λ s. tt) (λ n.
    cond_both (b == 61) _ _ (KindIs (front ++ 32 ∷ name) b) (λ s. tt) (λ m.
    cond_both (bytes_eq seen (codes "hidden")) _ _ (KindIs (front ++ 32 ∷ name) b) (λ s. close_kind v v front (32 ∷ name) b 32 (name ++ b ∷ []) h (named_closed name named) refl refl) (λ k.
    tag_kind v front (32 ∷ name) b 32 (name ++ b ∷ []) h (named_closed name named) refl refl)))

equals_kind : (v : Bool) (front name : List ℕ) (b : ℕ) → HasTag v front → IsAttributeName name → KindIs (front ++ (32 ∷ name ++ 61 ∷ [])) b (equals_transition v b)
equals_kind v front name b h named =
    cond_both (b == 34) _ _ (KindIs (front ++ (32 ∷ name ++ 61 ∷ [])) b) (λ s. tt) (λ n.
    tag_kind v front (32 ∷ name ++ 61 ∷ []) b 32 (name ++ 61 ∷ [] ++ b ∷ []) h
    (quoted_append false (32 ∷ name) (61 ∷ []) ∙ ap (λ s. quoted s (61 ∷ [])) (named_closed name named)) refl refl)

slash_kind : (front : List ℕ) (b : ℕ) → HasTag true front → KindIs (front ++ 47 ∷ []) b (slash_transition b)
slash_kind front b h =
    cond_both (b == 62) _ _ (KindIs (front ++ 47 ∷ []) b) (λ s. tt) (λ n. tag_kind true front (47 ∷ []) b 47 (b ∷ []) h refl refl refl)

written_closed : (a : Attr) → IsAttribute a → quoted false (attribute_spelling a) ≡ false
written_closed a h = quoted_attribute a h

-- In the value of an attribute.
value_only : (v : Bool) (front name run rest : List ℕ) → HasTag v front → HasNoQuote run → rest ≡ opening front name ++ run → begins_tag rest ≡ true → OnlyRun rest run
value_only v front name run rest h q e t other k =
    let here : rest ≡ (front ++ (32 ∷ name ++ 61 ∷ [])) ++ 34 ∷ run =
    e ∙ (append_assoc front (32 ∷ name ++ 61 ∷ 34 ∷ []) run ∙ (ap (λ s. front ++ s) (append_assoc (32 ∷ name) (61 ∷ 34 ∷ []) run ∙ sym (append_assoc (32 ∷ name) (61 ∷ []) (34 ∷ run))) ∙ sym (append_assoc front (32 ∷ name ++ 61 ∷ []) (34 ∷ run)))) in
    let found : IsOpenValue rest other → other ≡ run = λ o.
    let there : rest ≡ (tag_prefix o.0 o.1 ++ (32 ∷ o.2 ++ 61 ∷ [])) ++ 34 ∷ other =
    o.6 ∙ (ap (λ s. tag_prefix o.0 o.1 ++ s) (sym (append_assoc (32 ∷ o.2) (61 ∷ []) (34 ∷ other))) ∙ sym (append_assoc (tag_prefix o.0 o.1) (32 ∷ o.2 ++ 61 ∷ []) (34 ∷ other))) in
    after_quote (tag_prefix o.0 o.1 ++ (32 ∷ o.2 ++ 61 ∷ [])) (front ++ (32 ∷ name ++ 61 ∷ [])) other run o.7 q (sym there ∙ here) in
    ⊎_elim (λ s. absurd (none_true (sym s.0 ∙ t))) found k

value_kind : (v : Bool) (p : Place) (front name run : List ℕ) (b base : ℕ) → HasTag v front → IsAttributeName name → HasRun base p run → (r : Result Place RunFault) → FailsWith base run b r
    → KindIs (opening front name ++ run) b (value_transition v b r)
value_kind v p front name run b base h named has r f =
    let rest : List ℕ = opening front name ++ run in
    let suffix : List ℕ = (32 ∷ name ++ 61 ∷ 34 ∷ []) ++ run in
    let apart : rest ≡ front ++ suffix = append_assoc front (32 ∷ name ++ 61 ∷ 34 ∷ []) run in
    let t : InTag rest b = subst (λ s. InTag s b) (sym apart) (in_tag v front suffix b 32 (name ++ 61 ∷ 34 ∷ [] ++ run ++ b ∷ []) h refl refl) in
    let q : HasNoQuote run = run_no_quote base p run has in
    let only : OnlyRun rest run = value_only v front name run rest h q refl t.tag in
    let is : IsRun rest run = inr (h.name, h.attributes, name, tag_of_flag h.name v h.flag, h.are, named, apart ∙ (λ i. h.is i ++ append_assoc (32 ∷ name) (61 ∷ 34 ∷ []) run i), q) in
    go r f rest is only t
  where
    go : (r : Result Place RunFault) → FailsWith base run b r → (rest : List ℕ) → IsRun rest run → OnlyRun rest run → InTag rest b → KindIs rest b (value_transition v b r)
    go (Ok p) f rest is only t = tt
    go (Err faults.Byte) f rest is only t =
        cond_both (b == 34) _ _ (KindIs rest b) (λ s. tt) (λ n.
        (no_utf8 rest run b only (front_ascii run b f.0 f.1), no_entity rest run only f.0, no_text rest t.tag, t.comment, t.attribute))
    go (Err faults.Entity) f rest is only t = entity_kind base f.0.0 rest run b is only f.0.1 f.1
    go (Err faults.Utf8) f rest is only t = utf8_kind rest run b is f

-- In the name of a tag.
record NameSplit (name other : List ℕ) (b after : ℕ) : Type 0 where
  same : name ≡ other
  last : b ≡ after

split_name : (name other more : List ℕ) (b after : ℕ) → is_name_word name ≡ true → is_name_word other ≡ true → is_word_byte after ≡ false
    → name ++ b ∷ [] ≡ other ++ after ∷ more → NameSplit name other b after
split_name [] [] more b after h k n e = record { same = refl; last = (same_heads b after [] more e).0 }
split_name [] (y ∷ other) more b after h k n e =
    let len : length (b ∷ []) ≡ length ((y ∷ other) ++ after ∷ more) = ap length e in absurd (omega (arith, length-append (y ∷ other) (after ∷ more)))
split_name (x ∷ name) [] more b after h k n e =
    absurd (none_true (sym n ∙ (ap is_word_byte (sym ((same_heads x after (name ++ b ∷ []) more e).0)) ∙ (and_parts _ _ h).0)))
split_name (x ∷ name) (y ∷ other) more b after h k n e =
    let g : (x ≡ y) × (name ++ b ∷ [] ≡ other ++ after ∷ more) = same_heads x y (name ++ b ∷ []) (other ++ after ∷ more) e in
    let s : NameSplit name other b after = split_name name other more b after ((and_parts _ _ h).1) ((and_parts _ _ k).1) n g.1 in
    record { same = (λ i. g.0 i ∷ s.same i); last = s.last }

at_name : (name : List ℕ) (b : ℕ) → is_name_word name ≡ true → IsAtAttribute (60 ∷ name) b → IsTagName name × (is_word_byte b ≡ false)
at_name name b w k =
    let s : NameSplit name k.0 b k.1 = split_name name k.0 k.2 b k.1 w (tag_name_bytes k.0 k.3) k.5 ((same_heads 60 60 (name ++ b ∷ []) (k.0 ++ k.1 ∷ k.2) k.4).1) in
    (subst IsTagName (sym s.same) k.3, ap is_word_byte s.last ∙ k.5)

one_not_two : (more : List ℕ) → 60 ∷ [] ≡ 60 ∷ 33 ∷ more → ⊥
one_not_two more e = let n : 1 ≡ length more + 2 = ap length e ∙ omega arith in omega arith

name_no_comment : (name : List ℕ) → is_name_word name ≡ true → ¬ IsAtComment (60 ∷ name)
name_no_comment [] w k = one_not_two k.0 k.1
name_no_comment (c ∷ name) w k =
    no_comment (60 ∷ c ∷ name) c name refl (λ e. let f : is_word_byte 33 ≡ true = ap is_word_byte (sym e) ∙ (and_parts _ _ w).0 in none_true f) k

name_kind : (name : List ℕ) (b : ℕ) → is_name_word name ≡ true → (IsTagName name → is_word_byte b ≡ false → ⊥) → HasKind (60 ∷ name) b kinds.Name
name_kind name b w n =
    let q : quoted false (60 ∷ name) ≡ false = quoted_none false name (name_no_quote name w) in
    (no_utf8_here (60 ∷ name) b q refl, no_entity_here (60 ∷ name) q refl, no_text (60 ∷ name) refl, name_no_comment name w, λ k. let g : IsTagName name × (is_word_byte b ≡ false) = at_name name b w k in n g.0 g.1)

no_flag : (name : List ℕ) (o : Option Bool) → tag_flag name ≡ o → o ≡ None → IsTagName name → ⊥
no_flag name o e n t =
    let f : (v : Bool) × (tag_flag name ≡ Some v) = flag_of_tag name t in some_none f.0 (sym f.1 ∙ (e ∙ n))
  where
    some_none : (v : Bool) → ◌≡◌ {A = Option Bool} (Some v) None → ⊥
    some_none v k = cc

flag_kind : (name : List ℕ) (b : ℕ) → is_name_word name ≡ true → (o : Option Bool) → tag_flag name ≡ o → KindIs (60 ∷ name) b (flag_transition o b)
flag_kind name b w None e = name_kind name b w (λ t n. no_flag name None e refl t)
flag_kind name b w (Some v) e =
    cond_both (is_letter b || is_digit b) _ _ (KindIs (60 ∷ name) b) (λ l. name_kind name b w (λ t n. none_true (sym n ∙ l))) (λ n.
    let h : HasTag v (60 ∷ name) = record { name = name; attributes = []; flag = e; are = tt; is = ap (λ x. 60 ∷ x) (sym (append-nil name)) } in
    subst (λ s. KindIs s b (close_transition v b)) (append-nil (60 ∷ name)) (close_kind v v (60 ∷ name) [] b b [] h refl refl n))

empty_no_tag : IsTagName [] → ⊥
empty_no_tag t = none_true (tag_name_letter [] t)

after_kind : (name : List ℕ) (b : ℕ) → is_name_word name ≡ true → KindIs (60 ∷ name) b (after_name name b)
after_kind name b w =
    cond_both (length name == 0) _ _ (KindIs (60 ∷ name) b) (λ z.
    cond_both (b == 47) _ _ (KindIs (60 ∷ name) b) (λ s. tt) (λ n47.
    cond_both (b == 33) _ _ (KindIs (60 ∷ name) b) (λ s. tt) (λ n33.
    name_kind name b w (λ t n. empty_no_tag (subst IsTagName (nil_from_length name (eqb-true _ 0 z)) t))))) (λ some.
    cond_both (bytes_eq name (codes "script")) _ _ (KindIs (60 ∷ name) b) (λ s.
    cond_both (b == 62) _ _ (KindIs (60 ∷ name) b) (λ e. tt) (λ e. name_kind name b w (λ t n. none_true (sym (tag_name_not_script name t) ∙ s)))) (λ s.
    flag_kind name b w (tag_flag name) refl))

name_transition_kind : (name : List ℕ) (b : ℕ) → is_name_word name ≡ true → KindIs (60 ∷ name) b (name_transition name (name ++ b ∷ []) b)
name_transition_kind name b w =
    cond_both (begins_word start_words (name ++ b ∷ [])) _ _ (KindIs (60 ∷ name) b) (λ s. tt) (λ n. after_kind name b w)

-- In an end tag.
end_no_attribute : (name : List ℕ) (b : ℕ) → ¬ IsAtAttribute (60 ∷ 47 ∷ name) b
end_no_attribute name b k = go k.0 (tag_name_letter k.0 k.3) ((same_heads 60 60 (47 ∷ name ++ b ∷ []) (k.0 ++ k.1 ∷ k.2) k.4).1)
  where
    go : (other : List ℕ) → begins_with_letter other ≡ true → 47 ∷ name ++ b ∷ [] ≡ other ++ k.1 ∷ k.2 → ⊥
    go [] l e = none_true l
    go (c ∷ other) l e =
        let f : is_letter 47 ≡ true = ap is_letter ((same_heads 47 c (name ++ b ∷ []) (other ++ k.1 ∷ k.2) e).0) ∙ l in none_true f

end_kind : (name : List ℕ) (b : ℕ) → is_name_word name ≡ true → HasKind (60 ∷ 47 ∷ name) b kinds.Name
end_kind name b w =
    let q : quoted false (60 ∷ 47 ∷ name) ≡ false = quoted_none false name (name_no_quote name w) in
    (no_utf8_here (60 ∷ 47 ∷ name) b q refl, no_entity_here (60 ∷ 47 ∷ name) q refl, no_text (60 ∷ 47 ∷ name) refl, no_comment (60 ∷ 47 ∷ name) 47 name refl (λ e. omega arith), end_no_attribute name b)

end_flag_kind : (name : List ℕ) (b : ℕ) (o : Option Bool) → is_name_word name ≡ true → KindIs (60 ∷ 47 ∷ name) b (end_flag_transition o b)
end_flag_kind name b None w = end_kind name b w
end_flag_kind name b (Some v) w = cond_both (b == 62) _ _ (KindIs (60 ∷ 47 ∷ name) b) (λ s. tt) (λ n. end_kind name b w)

end_transition_kind : (name : List ℕ) (b : ℕ) → is_name_word name ≡ true → KindIs (60 ∷ 47 ∷ name) b (end_name_transition name (name ++ b ∷ []) b)
end_transition_kind name b w =
    cond_both (begins_word tag_words (name ++ b ∷ [])) _ _ (KindIs (60 ∷ 47 ∷ name) b) (λ s. tt) (λ n. end_flag_kind name b (tag_flag name) w)

-- In a comment.
comment_kind : (word : List ℕ) (b : ℕ) → HasNoQuote word → KindIs (60 ∷ 33 ∷ word) b (comment_transition (word ++ b ∷ []))
comment_kind word b n =
    let q : quoted false (60 ∷ 33 ∷ word) ≡ false = quoted_none false word n in
    cond_both (is_word comment_words (word ++ b ∷ [])) _ _ (KindIs (60 ∷ 33 ∷ word) b) (λ s. tt) (λ m.
    cond_both (begins_word comment_words (word ++ b ∷ [])) _ _ (KindIs (60 ∷ 33 ∷ word) b) (λ s. tt) (λ k.
    (no_utf8_here (60 ∷ 33 ∷ word) b q refl, no_entity_here (60 ∷ 33 ∷ word) q refl, no_text (60 ∷ 33 ∷ word) refl, (word, refl))))

script_kind : (rest token : List ℕ) (b : ℕ) → KindIs rest b (script_transition token)
script_kind rest token b = cond_both (ends_with nat_eq token script_end) _ _ (KindIs rest b) (λ s. tt) (λ n. tt)

front_is_name : (name : List ℕ) → begins_word start_words name ≡ true → is_name_word name ≡ true
front_is_name name h =
    let g : (rest : List ℕ) × (is_word start_words (name ++ rest) ≡ true) = begins_gives start_words name h in
    all_front is_word_byte name g.0 (start_word_bytes (name ++ g.0) g.1)

comment_no_quote : (word : List ℕ) → begins_word comment_words word ≡ true → HasNoQuote word
comment_no_quote word h =
    let g : (rest : List ℕ) × (is_word comment_words (word ++ rest) ≡ true) = begins_gives comment_words word h in
    all_front no_quote word g.0 (word_passes (list_all no_quote) comment_words (word ++ g.0) refl g.1)

transition_kind : (mode : Mode) (rest : List ℕ) (b : ℕ) → Fits mode rest → KindIs rest b (transition_of mode rest (rest ++ b ∷ []) b)
transition_kind (Text p) rest b h = text_kind p rest b h (place_after p (rest ++ b ∷ []) b) (run_fails 0 p rest (rest ++ b ∷ []) b h)
transition_kind Name rest b h = subst (λ s. KindIs s b (transition_of Name s (s ++ b ∷ []) b)) (sym h.is) (name_transition_kind h.name b (front_is_name h.name h.begins))
transition_kind EndName rest b h = subst (λ s. KindIs s b (transition_of EndName s (s ++ b ∷ []) b)) (sym h.is) (end_transition_kind h.name b (front_is_name h.name (or_right _ _ h.begins)))
transition_kind Comment rest b h = subst (λ s. KindIs s b (transition_of Comment s (s ++ b ∷ []) b)) (sym h.is) (comment_kind h.word b (comment_no_quote h.word h.begins))
transition_kind Script rest b h = script_kind rest (drop 8 (rest ++ b ∷ [])) b
transition_kind (Space v) rest b h = subst (λ s. KindIs s b (transition_of (Space v) s (s ++ b ∷ []) b)) (sym h.is) (space_kind v h.front b (length (h.front ++ 32 ∷ [] ++ b ∷ [])) h.tag)
transition_kind (Attribute v start) rest b h = subst (λ s. KindIs s b (transition_of (Attribute v start) s (s ++ b ∷ []) b)) (sym h.is) (attribute_kind v start h.front h.name (drop start (h.front ++ 32 ∷ h.name)) b h.tag h.named)
transition_kind (Equals v) rest b h = subst (λ s. KindIs s b (transition_of (Equals v) s (s ++ b ∷ []) b)) (sym h.is) (equals_kind v h.front h.name b h.tag h.named)
transition_kind (Value v p) rest b h =
    subst (λ s. KindIs s b (transition_of (Value v p) s (s ++ b ∷ []) b)) (sym h.is)
    (value_kind v p h.front h.name h.run b (length (opening h.front h.name)) h.tag h.named h.has (place_after p (opening h.front h.name ++ h.run ++ b ∷ []) b)
    (run_fails (length (opening h.front h.name)) p h.run (opening h.front h.name ++ h.run ++ b ∷ []) b h.has))
transition_kind (Close v) rest b h =
    subst (λ s. KindIs s b (transition_of (Close v) s (s ++ b ∷ []) b)) (sym h.is)
    (close_kind v v h.front (attribute_spelling h.attribute) b 32 _ h.tag (written_closed h.attribute h.fine) refl refl)
transition_kind Slash rest b h = subst (λ s. KindIs s b (transition_of Slash s (s ++ b ∷ []) b)) (sym h.is) (slash_kind h.front b h.tag)

-- The kind that the step tells is the fault's.
pub fails_kind : (mode : Mode) (rest : List ℕ) (b : ℕ) (kind : ReadKind) → Fits mode rest → transition_of mode rest (rest ++ b ∷ []) b ≡ Fails kind → HasKind rest b kind
fails_kind mode rest b kind h e = subst (KindIs rest b) e (transition_kind mode rest b h)
