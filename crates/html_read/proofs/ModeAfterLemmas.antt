-- The reader passes over what tokens are spelled with, so no byte of a page is refused.
use Rattle.std.proofs.Common.{◌≡◌, ◌≢◌, ℕ, ◌-◌, ◌<◌, Bool, true, false, not, ◌&&◌, Option, Some, None, Result, Ok, Err, List, [], ◌∷◌, ◌++◌, length, drop, refl, sym, ◌∙◌, ap, ⊎_elim, arith, append-nil, append_assoc, length-append}
use Rattle.std.specs.Str.{IsUtf8}
use Rattle.std.proofs.lemmas.Bool.{cond-true, cond-false, cases_lt, ne_eqb, lt-ltb, and_parts, not-true}
use Rattle.std.proofs.lemmas.List.{drop_at}
use Rattle.std.proofs.lemmas.Str.{encode_ascii}
use Rattle.std.proofs.Math.Utf8.{encode, encodes, scalar, scalars}
use Rattle.html_names.specs.Escape.{spelling_of, escape_of, entities}
use Rattle.html_names.proofs.EscapeLemmas.{each_byte, plain_spelling}
use Rattle.html_read.specs.declared.place.Place.{Place}
use Rattle.html_read.specs.declared.place.Place.TheVariants.{Whole, Entity}
use Rattle.html_read.specs.declared.place.RunFault.{RunFault}
use Rattle.html_read.specs.declared.machine.Mode.{Mode}
use Rattle.html_read.specs.declared.machine.Mode.TheVariants.{Text, Name, EndName, Value}
use Rattle.html_read.specs.declared.machine.Transition.{Transition}
use Rattle.html_read.specs.declared.machine.Transition.TheVariants.{Goes, Ends, Cuts, Fails}
use Rattle.html_read.specs.Machine.{is_word, begins_word, tag_words, start_words, tag_flag, start_after, entity_after, place_after, text_transition, value_transition, after_name, end_flag_transition, transition_of, go_on, mode_after}
use Rattle.html_read.proofs.WordLemmas.{none_true, begins_from}
use Rattle.html_read.proofs.PlaceAfterLemmas.{place_through, place_append, on_place, Path, path_place, char_path, ok_same, err_ok}
use Rattle.html_read.proofs.HasRunLemmas.{AreHigh, high_escaped, escaped_append}

-- Each of the five replacements, from after its `&` on.
abbrev entity_path : List ℕ → List ℕ → Bool
entity_path e [] = false
entity_path e (b ∷ []) = is_word entities (e ++ b ∷ [])
entity_path e (b ∷ (c ∷ r)) = not (is_word entities (e ++ b ∷ [])) && (begins_word entities (e ++ b ∷ []) && entity_path (e ++ b ∷ []) (c ∷ r))

entity_ends : (start b : ℕ) (e : List ℕ) → is_word entities e ≡ true → entity_after start e b ≡ Ok Whole
entity_ends start b e h = cond-true _ _ _ h

entity_on : (start b : ℕ) (e : List ℕ) → is_word entities e ≡ false → begins_word entities e ≡ true → entity_after start e b ≡ Ok (Entity start)
entity_on start b e h g = cond-false _ _ _ h ∙ cond-true _ _ _ g

cut_entity : (token e : List ℕ) (b start : ℕ) → start ≡ length token → drop start ((token ++ e) ++ b ∷ []) ≡ e ++ b ∷ []
cut_entity token e b start s = ap (drop start) (append_assoc token e (b ∷ [])) ∙ drop_at token (e ++ b ∷ []) start (sym s)

entity_through : (token e r : List ℕ) (start : ℕ) → start ≡ length token → entity_path e r ≡ true → place_through (Entity start) (token ++ e) r ≡ Ok Whole
entity_through token e [] start s h = absurd (none_true h)
entity_through token e (b ∷ []) start s h =
    ap (λ r. on_place r (λ q. Ok q)) (ap (λ x. entity_after start x b) (cut_entity token e b start s) ∙ entity_ends start b (e ++ b ∷ []) h)
entity_through token e (b ∷ (c ∷ r)) start s h =
    let p : (not (is_word entities (e ++ b ∷ [])) ≡ true) × ((begins_word entities (e ++ b ∷ []) && entity_path (e ++ b ∷ []) (c ∷ r)) ≡ true) = and_parts _ _ h in
    let q : (begins_word entities (e ++ b ∷ []) ≡ true) × (entity_path (e ++ b ∷ []) (c ∷ r) ≡ true) = and_parts _ _ p.1 in
    ap (λ x. on_place x (λ y. place_through y ((token ++ e) ++ b ∷ []) (c ∷ r)))
    (ap (λ x. entity_after start x b) (cut_entity token e b start s) ∙ entity_on start b (e ++ b ∷ []) (not-true _ p.0) q.0)
    ∙ (ap (λ t. place_through (Entity start) t (c ∷ r)) (append_assoc token e (b ∷ [])) ∙ entity_through token (e ++ b ∷ []) (c ∷ r) start s q.1)

amp_through : (token r : List ℕ) → entity_path (38 ∷ []) r ≡ true → place_through Whole token (38 ∷ r) ≡ Ok Whole
amp_through token r h =
    entity_through token (38 ∷ []) r (length (token ++ 38 ∷ []) - 1) (omega (arith, length-append token (38 ∷ []))) h

plain_after : (len b : ℕ) → b ≢ 34 → b ≢ 38 → b ≢ 39 → b ≢ 60 → b ≢ 62 → b < 128 → start_after len b ≡ Ok Whole
plain_after len b n34 n38 n39 n60 n62 l = rw (ne_eqb b 38 n38, ne_eqb b 34 n34, ne_eqb b 39 n39, ne_eqb b 60 n60, ne_eqb b 62 n62, lt-ltb b 128 l) refl

ascii_through : (token : List ℕ) (c : ℕ) → c < 128 → place_through Whole token (spelling_of c) ≡ Ok Whole
ascii_through token = each_byte (λ c. c < 128 → place_through Whole token (spelling_of c) ≡ Ok Whole)
    (λ l. amp_through token (113 ∷ 117 ∷ 111 ∷ 116 ∷ 59 ∷ []) refl)
    (λ l. amp_through token (97 ∷ 109 ∷ 112 ∷ 59 ∷ []) refl)
    (λ l. amp_through token (35 ∷ 120 ∷ 50 ∷ 55 ∷ 59 ∷ []) refl)
    (λ l. amp_through token (108 ∷ 116 ∷ 59 ∷ []) refl)
    (λ l. amp_through token (103 ∷ 116 ∷ 59 ∷ []) refl)
    (λ b n34 n38 n39 n60 n62 l.
    ap (place_through Whole token) (plain_spelling b n34 n38 n39 n60 n62) ∙ ap (λ r. on_place r (λ q. Ok q)) (plain_after (length (token ++ b ∷ [])) b n34 n38 n39 n60 n62 l))

path_high : (p : Place) (bs : List ℕ) (q : Place) → Path p bs q → AreHigh bs
path_high p [] q h = tt
path_high p (b ∷ bs) q h = (h.1, path_high h.0 bs q h.3)

char_through : (token : List ℕ) (c : ℕ) → scalar c ≡ true → place_through Whole token (escape_of (encode c)) ≡ Ok Whole
char_through token c s =
    ⊎_elim (λ l. ap (λ x. place_through Whole token (escape_of x)) (encode_ascii c l) ∙ (ap (place_through Whole token) (append-nil (spelling_of c)) ∙ ascii_through token c l)) (λ h.
    let path : Path Whole (encode c) Whole = char_path c h s in
    ap (place_through Whole token) (high_escaped (encode c) (path_high Whole (encode c) Whole path)) ∙ path_place Whole token (encode c) Whole path) (cases_lt c 128)

encodes_through : (token : List ℕ) (cs : List ℕ) → scalars cs ≡ true → place_through Whole token (escape_of (encodes cs)) ≡ Ok Whole
encodes_through token [] s = refl
encodes_through token (c ∷ cs) s =
    let p : (scalar c ≡ true) × (scalars cs ≡ true) = and_parts _ _ s in
    ap (place_through Whole token) (escaped_append (encode c) (encodes cs)) ∙ (place_append Whole token (escape_of (encode c)) (escape_of (encodes cs)) Whole (char_through token c p.0)
    ∙ encodes_through (token ++ escape_of (encode c)) cs p.1)

-- An escaped text leads from a whole place to a whole place.
pub text_through : (token text : List ℕ) → IsUtf8 text → place_through Whole token (escape_of text) ≡ Ok Whole
text_through token text u = ap (λ x. place_through Whole token (escape_of x)) (sym u.1.1) ∙ encodes_through token u.0 u.1.0

some_same : (m n : Mode) → ◌≡◌ {A = Option Mode} (Some m) (Some n) → m ≡ n
some_same m n e = cc

none_some : (n : Mode) → ◌≡◌ {A = Option Mode} None (Some n) → ⊥
none_some n e = cc

-- The mode after bytes, and after more of them.
pub mode_append : (mode : Mode) (seen xs ys : List ℕ) (next : Mode) → mode_after mode seen xs ≡ Some next → mode_after mode seen (xs ++ ys) ≡ mode_after next (seen ++ xs) ys
mode_append mode seen [] ys next e = (λ i. mode_after (some_same mode next e i) (sym (append-nil seen) i) ys)
mode_append mode seen (b ∷ xs) ys next e =
    let go : (t : Transition) → go_on t (λ m. mode_after m (seen ++ b ∷ []) xs) ≡ Some next → go_on t (λ m. mode_after m (seen ++ b ∷ []) (xs ++ ys)) ≡ mode_after next (seen ++ b ∷ xs) ys = λ t.
    elim t as (λ t. go_on t (λ m. mode_after m (seen ++ b ∷ []) xs) ≡ Some next → go_on t (λ m. mode_after m (seen ++ b ∷ []) (xs ++ ys)) ≡ mode_after next (seen ++ b ∷ xs) ys) [
      | Goes m ↦ λ h. mode_append m (seen ++ b ∷ []) xs ys next h ∙ ap (λ s. mode_after next s ys) (append_assoc seen (b ∷ []) xs)
      | Ends ↦ λ h. absurd (none_some next h)
      | Cuts ↦ λ h. absurd (none_some next h)
      | Fails k ↦ λ h. absurd (none_some next h)
    ] in
    go (transition_of mode seen (seen ++ b ∷ []) b) e

pub text_mode : (p q : Place) (seen bs : List ℕ) → place_through p seen bs ≡ Ok q → mode_after (Text p) seen bs ≡ Some (Text q)
text_mode p q seen [] e = ap (λ r. Some (Text r)) (ok_same p q e)
text_mode p q seen (b ∷ bs) e =
    let go : (r : Result Place RunFault) → on_place r (λ s. place_through s (seen ++ b ∷ []) bs) ≡ Ok q
    → go_on (text_transition (length (seen ++ b ∷ [])) b r) (λ m. mode_after m (seen ++ b ∷ []) bs) ≡ Some (Text q) = λ r.
    elim r as (λ r. on_place r (λ s. place_through s (seen ++ b ∷ []) bs) ≡ Ok q → go_on (text_transition (length (seen ++ b ∷ [])) b r) (λ m. mode_after m (seen ++ b ∷ []) bs) ≡ Some (Text q))
    [ Ok s ↦ λ h. text_mode s q (seen ++ b ∷ []) bs h | Err f ↦ λ h. absurd (err_ok f q h) ] in
    go (place_after p (seen ++ b ∷ []) b) e

pub value_mode : (v : Bool) (p q : Place) (seen bs : List ℕ) → place_through p seen bs ≡ Ok q → mode_after (Value v p) seen bs ≡ Some (Value v q)
value_mode v p q seen [] e = ap (λ r. Some (Value v r)) (ok_same p q e)
value_mode v p q seen (b ∷ bs) e =
    let go : (r : Result Place RunFault) → on_place r (λ s. place_through s (seen ++ b ∷ []) bs) ≡ Ok q
    → go_on (value_transition v b r) (λ m. mode_after m (seen ++ b ∷ []) bs) ≡ Some (Value v q) = λ r.
    elim r as (λ r. on_place r (λ s. place_through s (seen ++ b ∷ []) bs) ≡ Ok q → go_on (value_transition v b r) (λ m. mode_after m (seen ++ b ∷ []) bs) ≡ Some (Value v q))
    [ Ok s ↦ λ h. value_mode v s q (seen ++ b ∷ []) bs h | Err f ↦ λ h. absurd (err_ok f q h) ] in
    go (place_after p (seen ++ b ∷ []) b) e

-- Within a name, a comment.
abbrev pub transition_at : Mode → List ℕ → ℕ → Transition
transition_at mode seen b = transition_of mode seen (seen ++ b ∷ []) b

pub name_on : (name more : List ℕ) → is_word start_words (name ++ more) ≡ true → mode_after Name (60 ∷ name) more ≡ Some Name
name_on name [] h = refl
name_on name (b ∷ more) h =
    let shifted : is_word start_words ((name ++ b ∷ []) ++ more) ≡ true = ap (is_word start_words) (append_assoc name (b ∷ []) more) ∙ h in
    let begins : begins_word start_words (name ++ b ∷ []) ≡ true = begins_from start_words (name ++ b ∷ []) more shifted in
    ap (λ t. go_on t (λ m. mode_after m (60 ∷ name ++ b ∷ []) more)) (cond-true (begins_word start_words (name ++ b ∷ [])) (Goes Name) (after_name name b) begins) ∙ name_on (name ++ b ∷ []) more shifted

pub end_name_on : (name more : List ℕ) → is_word tag_words (name ++ more) ≡ true → mode_after EndName (60 ∷ 47 ∷ name) more ≡ Some EndName
end_name_on name [] h = refl
end_name_on name (b ∷ more) h =
    let shifted : is_word tag_words ((name ++ b ∷ []) ++ more) ≡ true = ap (is_word tag_words) (append_assoc name (b ∷ []) more) ∙ h in
    let begins : begins_word tag_words (name ++ b ∷ []) ≡ true = begins_from tag_words (name ++ b ∷ []) more shifted in
    ap (λ t. go_on t (λ m. mode_after m (60 ∷ 47 ∷ name ++ b ∷ []) more)) (cond-true (begins_word tag_words (name ++ b ∷ [])) (Goes EndName) (end_flag_transition (tag_flag name) b) begins) ∙ end_name_on (name ++ b ∷ []) more shifted
