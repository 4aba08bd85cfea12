-- What a place says of the run of a text or a value, and that a byte keeps it.
use Rattle.std.proofs.Common.{◌≡◌, ◌≢◌, ℕ, ◌+◌, ◌-◌, ◌<◌, ◌≤◌, true, false, nat_lt, nat_le, ◌==◌, ◌&&◌, ◌||◌, Result, Ok, Err, List, [], ◌∷◌, ◌++◌, length, drop, codes, refl, sym, ◌∙◌, ap, subst, ⊎_elim, arith, append-nil, append_assoc, length-append}
use Rattle.std.specs.List.{list_all}
use Rattle.std.specs.Str.{IsUtf8, bytes_eq}
use Rattle.std.proofs.lemmas.Bool.{cond_both, eqb-true, eqb-false, and_parts, ltb-true, ltb-false, leb-true, or_cases, or_parts}
use Rattle.std.proofs.lemmas.List.{drop_at}
use Rattle.std.proofs.lemmas.List.Concat.{flat_map-append}
use Rattle.std.proofs.lemmas.Slice.Eq.{bytes_eq-Decides}
use Rattle.std.proofs.lemmas.Str.{IsUtf8-append}
use Rattle.html_names.specs.Escape.{spelling_of, escape_of, entities}
use Rattle.html_names.proofs.EscapeLemmas.{plain_spelling}
use Rattle.html_names.proofs.Utf8Lemmas.{utf8_ascii}
use Rattle.html_read.specs.declared.place.Tail.{Tail}
use Rattle.html_read.specs.declared.place.Tail.TheVariants.{One, Two, Three, AfterE0, AfterEd, AfterF0, AfterF4}
use Rattle.html_read.specs.declared.place.Place.{Place}
use Rattle.html_read.specs.declared.place.Place.TheVariants.{Whole, Char, Entity}
use Rattle.html_read.specs.declared.place.RunFault.{RunFault}
use Rattle.html_read.specs.declared.place.RunFault.TheVariants as faults
use Rattle.html_read.specs.Machine.{is_word, begins_word, next_within, tail_after, start_after, starts_char, entity_after, place_after}
use Rattle.html_read.proofs.WordLemmas.{begins_gives, none_true}
use Rattle.html_read.proofs.TailLemmas.{IsPart, IsCharPlace, start_gives, tail_gives, Ends, part_completes}
use Rattle.html_read.proofs.PlaceAfterLemmas.{chars_through, on_place, chars_append, after_high, ok_same, err_ok}

-- Bytes from 128 on are written as themselves.
abbrev pub AreHigh : List ℕ → Type 0
AreHigh [] = Unit {0}
AreHigh (b ∷ bs) = (128 ≤ b) × AreHigh bs

pub high_append : (xs ys : List ℕ) → AreHigh xs → AreHigh ys → AreHigh (xs ++ ys)
high_append [] ys h k = k
high_append (x ∷ xs) ys h k = (h.0, high_append xs ys h.1 k)

pub high_spelling : (b : ℕ) → 128 ≤ b → spelling_of b ≡ b ∷ []
high_spelling b h = plain_spelling b (λ e. omega arith) (λ e. omega arith) (λ e. omega arith) (λ e. omega arith) (λ e. omega arith)

pub high_escaped : (bs : List ℕ) → AreHigh bs → escape_of bs ≡ bs
high_escaped [] h = refl
high_escaped (b ∷ bs) h = (λ i. high_spelling b h.0 i ++ high_escaped bs h.1 i)

pub escaped_append : (a b : List ℕ) → escape_of (a ++ b) ≡ escape_of a ++ escape_of b
escaped_append a b = flat_map-append spelling_of a b

pub record IsOpenEntity (e : List ℕ) : Type 0 where
  pub begun : begins_word entities e ≡ true
  pub open_still : is_word entities e ≡ false
  pub some : 0 < length e

-- The run from `base` of the token on.
pub record HasWhole (run : List ℕ) : Type 0 where
  pub text : List ℕ
  pub utf8 : IsUtf8 text
  pub is : run ≡ escape_of text

pub record HasChar (tail : Tail) (run : List ℕ) : Type 0 where
  pub text : List ℕ
  pub part : List ℕ
  pub utf8 : IsUtf8 text
  pub wants : IsPart tail part
  pub through : chars_through Whole part ≡ Ok (Char tail)
  pub high : AreHigh part
  pub is : run ≡ escape_of text ++ part

pub record HasEntity (base start : ℕ) (run : List ℕ) : Type 0 where
  pub text : List ℕ
  pub entity : List ℕ
  pub utf8 : IsUtf8 text
  pub begun : IsOpenEntity entity
  pub starts : start ≡ base + length (escape_of text)
  pub is : run ≡ escape_of text ++ entity

abbrev pub HasRun : ℕ → Place → List ℕ → Type 0
HasRun base Whole run = HasWhole run
HasRun base (Char tail) run = HasChar tail run
HasRun base (Entity start) run = HasEntity base start run

-- A part of a character, or a character, at the end of a run.
char_joins : (base : ℕ) (text part run : List ℕ) (place : Place) → IsUtf8 text → AreHigh part → IsCharPlace part place → chars_through Whole part ≡ Ok place
    → run ≡ escape_of text ++ part → HasRun base place run
char_joins base text part run Whole u h c through e = record {
  text = text ++ part;
  utf8 = IsUtf8-append text part u c;
  is = e ∙ sym (escaped_append text part ∙ ap (λ p. escape_of text ++ p) (high_escaped part h));
}
char_joins base text part run (Char tail) u h c through e = record { text = text; part = part; utf8 = u; wants = c; through = through; high = h; is = e }
char_joins base text part run (Entity start) u h c through e = absurd c

-- Each of the five replacements.
pub record IsSpelled (w : List ℕ) : Type 0 where
  pub byte : ℕ
  pub ascii : byte < 128
  pub is : spelling_of byte ≡ w
  pub long : spelling_of byte ≢ byte ∷ []

spelled : (w : List ℕ) (c : ℕ) → c < 128 → (spelling_of c ≢ c ∷ []) → bytes_eq (spelling_of c) w ≡ true → IsSpelled w
spelled w c l n e = record { byte = c; ascii = l; is = (bytes_eq-Decides (spelling_of c) w).0 e; long = n }

longer : (xs : List ℕ) (c : ℕ) → 1 < length xs → xs ≢ c ∷ []
longer xs c l e = let n : length xs ≡ 1 = ap length e in omega arith

pub entity_word : (w : List ℕ) → is_word entities w ≡ true → IsSpelled w
entity_word w h1 =
    ⊎_elim (λ e. spelled w 34 (omega arith) (longer (codes "&quot;") 34 (omega arith)) e) (λ h2.
    ⊎_elim (λ e. spelled w 38 (omega arith) (longer (codes "&amp;") 38 (omega arith)) e) (λ h3.
    ⊎_elim (λ e. spelled w 39 (omega arith) (longer (codes "&#x27;") 39 (omega arith)) e) (λ h4.
    ⊎_elim (λ e. spelled w 60 (omega arith) (longer (codes "&lt;") 60 (omega arith)) e) (λ h5.
    ⊎_elim (λ e. spelled w 62 (omega arith) (longer (codes "&gt;") 62 (omega arith)) e) (λ h6. absurd (none_true h6))
    (or_cases _ _ h5)) (or_cases _ _ h4)) (or_cases _ _ h3)) (or_cases _ _ h2)) (or_cases _ _ h1)

ascii_text : (c : ℕ) → c < 128 → IsUtf8 (c ∷ [])
ascii_text c l = utf8_ascii (c ∷ []) (l, tt)

text_push : (text : List ℕ) (c : ℕ) (w : List ℕ) → spelling_of c ≡ w → escape_of (text ++ c ∷ []) ≡ escape_of text ++ w
text_push text c w e = escaped_append text (c ∷ []) ∙ ap (λ s. escape_of text ++ s) (append-nil (spelling_of c) ∙ e)

abbrev Keeps : ℕ → List ℕ → Result Place RunFault → Type 0
Keeps base run r = (q : Place) → r ≡ Ok q → HasRun base q run

keeps_ok : (base : ℕ) (run : List ℕ) (p : Place) → HasRun base p run → Keeps base run (Ok p)
keeps_ok base run p h q e = subst (λ r. HasRun base r run) (ok_same p q e) h

keeps_err : (base : ℕ) (run : List ℕ) (f : RunFault) → Keeps base run (Err f)
keeps_err base run f q e = absurd (err_ok f q e)

whole_keeps : (base len b : ℕ) (run : List ℕ) → HasWhole run → len ≡ base + length run + 1 → Keeps base (run ++ b ∷ []) (start_after len b)
whole_keeps base len b run h l =
    cond_both (b == 38) _ _ (Keeps base (run ++ b ∷ [])) (λ e.
    let is38 : b ≡ 38 = eqb-true b 38 e in
    keeps_ok base (run ++ b ∷ []) (Entity (len - 1)) (record {
      text = h.text;
      entity = b ∷ [];
      utf8 = h.utf8;
      begun = subst (λ x. IsOpenEntity (x ∷ [])) (sym is38) (record { begun = refl; open_still = refl; some = omega arith });
      starts = let n : length run ≡ length (escape_of h.text) = ap length h.is in omega arith;
      is = ap (λ r. r ++ b ∷ []) h.is;
    })) (λ n38.
    cond_both (b == 34 || (b == 39 || (b == 60 || b == 62))) _ _ (Keeps base (run ++ b ∷ [])) (λ e. keeps_err base (run ++ b ∷ []) faults.Byte) (λ n.
    let p1 : (((b == 34) ≡ false) × ((b == 39 || (b == 60 || b == 62)) ≡ false)) = or_parts _ _ n in
    let p2 : (((b == 39) ≡ false) × ((b == 60 || b == 62) ≡ false)) = or_parts _ _ p1.1 in
    let p3 : (((b == 60) ≡ false) × ((b == 62) ≡ false)) = or_parts _ _ p2.1 in
    cond_both (nat_lt b 128) _ _ (Keeps base (run ++ b ∷ [])) (λ e.
    keeps_ok base (run ++ b ∷ []) Whole (record {
      text = h.text ++ b ∷ [];
      utf8 = IsUtf8-append h.text (b ∷ []) h.utf8 (ascii_text b (ltb-true b 128 e));
      is = ap (λ r. r ++ b ∷ []) h.is ∙ sym (text_push h.text b (b ∷ []) (plain_spelling b (eqb-false b 34 p1.0) (eqb-false b 38 n38) (eqb-false b 39 p2.0) (eqb-false b 60 p3.0) (eqb-false b 62 p3.1)));
    })) (λ e q s.
    let high : 128 ≤ b = ltb-false b 128 e in
    char_joins base h.text (b ∷ []) (run ++ b ∷ []) q h.utf8 (high, tt) (start_gives b q s)
    (ap (λ r. on_place r (λ p. chars_through p [])) (after_high b high ∙ s)) (ap (λ r. r ++ b ∷ []) h.is))))

within_low : (low high b : ℕ) (p q : Place) → 128 ≤ low → next_within low high b p ≡ Ok q → 128 ≤ b
within_low low high b p q l =
    cond_both (nat_le low b && nat_lt b high) (Ok p) (Err faults.Utf8) (λ r. r ≡ Ok q → 128 ≤ b)
    (λ e s. let h : low ≤ b = leb-true low b ((and_parts _ _ e).0) in omega arith) (λ e s. absurd (err_ok faults.Utf8 q s))

tail_high : (tail : Tail) (b : ℕ) (q : Place) → tail_after tail b ≡ Ok q → 128 ≤ b
tail_high One b q e = within_low 128 192 b Whole q (omega arith) e
tail_high Two b q e = within_low 128 192 b (Char One) q (omega arith) e
tail_high Three b q e = within_low 128 192 b (Char Two) q (omega arith) e
tail_high AfterE0 b q e = within_low 160 192 b (Char One) q (omega arith) e
tail_high AfterEd b q e = within_low 128 160 b (Char One) q (omega arith) e
tail_high AfterF0 b q e = within_low 144 192 b (Char Two) q (omega arith) e
tail_high AfterF4 b q e = within_low 128 144 b (Char Two) q (omega arith) e

char_keeps : (base b : ℕ) (tail : Tail) (run : List ℕ) → HasChar tail run → Keeps base (run ++ b ∷ []) (tail_after tail b)
char_keeps base b tail run h q s =
    let high : 128 ≤ b = tail_high tail b q s in
    char_joins base h.text (h.part ++ b ∷ []) (run ++ b ∷ []) q h.utf8 (high_append h.part (b ∷ []) h.high (high, tt)) (tail_gives tail h.part b q h.wants s)
    (chars_append Whole h.part (b ∷ []) ∙ (ap (λ r. on_place r (λ p. chars_through p (b ∷ []))) h.through ∙ ap (λ r. on_place r (λ p. chars_through p [])) s))
    (ap (λ r. r ++ b ∷ []) h.is ∙ append_assoc (escape_of h.text) h.part (b ∷ []))

entity_keeps : (base b start : ℕ) (run : List ℕ) (h : HasEntity base start run) → Keeps base (run ++ b ∷ []) (entity_after start (h.entity ++ b ∷ []) b)
entity_keeps base b start run h =
    let e : List ℕ = h.entity ++ b ∷ [] in
    let joined : run ++ b ∷ [] ≡ escape_of h.text ++ e = ap (λ r. r ++ b ∷ []) h.is ∙ append_assoc (escape_of h.text) h.entity (b ∷ []) in
    cond_both (is_word entities e) _ _ (Keeps base (run ++ b ∷ [])) (λ w.
    let s : IsSpelled e = entity_word e w in
    keeps_ok base (run ++ b ∷ []) Whole (record {
      text = h.text ++ s.byte ∷ [];
      utf8 = IsUtf8-append h.text (s.byte ∷ []) h.utf8 (ascii_text s.byte s.ascii);
      is = joined ∙ sym (text_push h.text s.byte e s.is);
    })) (λ n.
    cond_both (begins_word entities e) _ _ (Keeps base (run ++ b ∷ [])) (λ g.
    keeps_ok base (run ++ b ∷ []) (Entity start) (record {
      text = h.text;
      entity = e;
      utf8 = h.utf8;
      begun = record { begun = g; open_still = n; some = omega (arith, length-append h.entity (b ∷ [])) };
      starts = h.starts;
      is = joined;
    })) (λ g.
    cond_both (starts_char b) _ _ (Keeps base (run ++ b ∷ [])) (λ c. keeps_err base (run ++ b ∷ []) faults.Entity) (λ c. keeps_err base (run ++ b ∷ []) faults.Utf8)))

-- what stands from the start of the entity on
pub entity_at : (front : List ℕ) (b start : ℕ) (run : List ℕ) (h : HasEntity (length front) start run) → drop start (front ++ run ++ b ∷ []) ≡ h.entity ++ b ∷ []
entity_at front b start run h =
    let split : front ++ run ++ b ∷ [] ≡ (front ++ escape_of h.text) ++ (h.entity ++ b ∷ []) =
    ap (λ r. front ++ r ++ b ∷ []) h.is ∙ (ap (λ r. r ++ b ∷ []) (sym (append_assoc front (escape_of h.text) h.entity)) ∙ append_assoc (front ++ escape_of h.text) h.entity (b ∷ [])) in
    ap (drop start) split ∙ drop_at (front ++ escape_of h.text) (h.entity ++ b ∷ []) start (length-append front (escape_of h.text) ∙ sym h.starts)

-- A byte keeps what the place says.
pub place_keeps : (front run : List ℕ) (p q : Place) (b : ℕ) → HasRun (length front) p run → place_after p (front ++ run ++ b ∷ []) b ≡ Ok q → HasRun (length front) q (run ++ b ∷ [])
place_keeps front run Whole q b h e =
    whole_keeps (length front) (length (front ++ run ++ b ∷ [])) b run h (omega (arith, length-append (front ++ run) (b ∷ []), length-append front run)) q e
place_keeps front run (Char tail) q b h e = char_keeps (length front) b tail run h q e
place_keeps front run (Entity start) q b h e = entity_keeps (length front) b start run h q (ap (λ x. entity_after start x b) (sym (entity_at front b start run h)) ∙ e)

high_more : (more : List ℕ) → list_all (nat_le 128) more ≡ true → AreHigh more
high_more [] h = tt
high_more (b ∷ bs) h = let p : (nat_le 128 b ≡ true) × (list_all (nat_le 128) bs ≡ true) = and_parts _ _ h in (leb-true 128 b p.0, high_more bs p.1)

part_more : (tail : Tail) (part : List ℕ) → IsPart tail part → (more : List ℕ) × IsUtf8 (part ++ more) × AreHigh more
part_more tail part h = let c : Ends part = part_completes tail part h in (c.more, c.utf8, high_more c.more c.high)

-- Each run can become that of a text.
pub record Completes (run : List ℕ) : Type 0 where
  pub more : List ℕ
  pub text : List ℕ
  pub utf8 : IsUtf8 text
  pub is : run ++ more ≡ escape_of text

pub run_completes : (base : ℕ) (p : Place) (run : List ℕ) → HasRun base p run → Completes run
run_completes base Whole run h = record { more = []; text = h.text; utf8 = h.utf8; is = append-nil run ∙ h.is }
run_completes base (Char tail) run h =
    let c : (more : List ℕ) × IsUtf8 (h.part ++ more) × AreHigh more = part_more tail h.part h.wants in
    record {
      more = c.0;
      text = h.text ++ (h.part ++ c.0);
      utf8 = IsUtf8-append h.text (h.part ++ c.0) h.utf8 c.1;
      is = ap (λ r. r ++ c.0) h.is ∙ (append_assoc (escape_of h.text) h.part c.0 ∙ sym (escaped_append h.text (h.part ++ c.0) ∙ ap (λ r. escape_of h.text ++ r) (high_escaped (h.part ++ c.0) (high_append h.part c.0 h.high c.2))));
    }
run_completes base (Entity start) run h =
    let g : (rest : List ℕ) × (is_word entities (h.entity ++ rest) ≡ true) = begins_gives entities h.entity h.begun.begun in
    let s : IsSpelled (h.entity ++ g.0) = entity_word (h.entity ++ g.0) g.1 in
    record {
      more = g.0;
      text = h.text ++ s.byte ∷ [];
      utf8 = IsUtf8-append h.text (s.byte ∷ []) h.utf8 (ascii_text s.byte s.ascii);
      is = ap (λ r. r ++ g.0) h.is ∙ (append_assoc (escape_of h.text) h.entity g.0 ∙ sym (text_push h.text s.byte (h.entity ++ g.0) s.is));
    }
