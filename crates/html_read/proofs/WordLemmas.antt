-- Words and their fronts, and what the names of tags are made of.
use Rattle.std.proofs.Common.{◌≡◌, ℕ, Bool, true, false, if◌then◌else◌, ◌||◌, nat_eq, Option, Some, None, is_some, List, [], ◌∷◌, ◌++◌, map, length, drop, codes, refl, sym, ◌∙◌, ap, subst, ⊎_elim}
use Rattle.std.specs.List.{list_all, starts_with}
use Rattle.std.specs.Map.{lookup}
use Rattle.std.specs.Str.{bytes_eq}
use Rattle.std.proofs.lemmas.Bool.{or_cases, or_left, or_right, and_parts, cases_Bool, true≢false}
use Rattle.std.proofs.lemmas.Bool.Decides.{Decides-eqb}
use Rattle.std.proofs.lemmas.Slice.Eq.{bytes_eq-Decides, starts_is}
use Rattle.html_names.specs.Elements.{begins_name, element_rows, void_flag, IsVoidName}
use Rattle.html_names.specs.Names.{is_letter, is_digit}
use Rattle.html_read.specs.Names.{is_tag_name, IsTagName}
use Rattle.html_read.specs.Machine.{is_word, begins_word, tag_words, start_words, tag_flag}

pub none_true : false ≡ true → ⊥
none_true e = true≢false (sym e)

-- What begins a word can go on to it.
pub begins_gives : (words : List (List ℕ)) (e : List ℕ) → begins_word words e ≡ true → (rest : List ℕ) × (is_word words (e ++ rest) ≡ true)
begins_gives [] e h = absurd (none_true h)
begins_gives (w ∷ words) e h =
    let first : starts_with nat_eq w e ≡ true → (rest : List ℕ) × (is_word (w ∷ words) (e ++ rest) ≡ true) = λ s.
    (drop (length e) w, or_left _ _ ((bytes_eq-Decides w (e ++ drop (length e) w)).1 ((starts_is Decides-eqb w e _ refl).0 s))) in
    let later : begins_word words e ≡ true → (rest : List ℕ) × (is_word (w ∷ words) (e ++ rest) ≡ true) = λ s.
    let g : (rest : List ℕ) × (is_word words (e ++ rest) ≡ true) = begins_gives words e s in
    (g.0, or_right (bytes_eq w (e ++ g.0)) _ g.1) in
    ⊎_elim first later (or_cases _ _ h)

pub begins_from : (words : List (List ℕ)) (e rest : List ℕ) → is_word words (e ++ rest) ≡ true → begins_word words e ≡ true
begins_from [] e rest h = h
begins_from (w ∷ words) e rest h =
    let first : bytes_eq w (e ++ rest) ≡ true → begins_word (w ∷ words) e ≡ true = λ s.
    or_left _ _ ((starts_is Decides-eqb w e _ refl).1 rest ((bytes_eq-Decides w (e ++ rest)).0 s)) in
    let later : is_word words (e ++ rest) ≡ true → begins_word (w ∷ words) e ≡ true = λ s.
    or_right (starts_with nat_eq w e) _ (begins_from words e rest s) in
    ⊎_elim first later (or_cases _ _ h)

-- What all words pass, each passes.
pub word_passes : (test : List ℕ → Bool) (words : List (List ℕ)) (w : List ℕ) → list_all test words ≡ true → is_word words w ≡ true → test w ≡ true
word_passes test [] w all h = absurd (none_true h)
word_passes test (x ∷ words) w all h =
    let parts : (test x ≡ true) × (list_all test words ≡ true) = and_parts _ _ all in
    ⊎_elim (λ s. subst (λ y. test y ≡ true) ((bytes_eq-Decides x w).0 s) parts.0) (λ s. word_passes test words w parts.1 s) (or_cases _ _ h)

word_append : (xs ys : List (List ℕ)) (w : List ℕ) → is_word (xs ++ ys) w ≡ (is_word xs w || is_word ys w)
word_append [] ys w = refl
word_append (x ∷ xs) ys w = elim (bytes_eq x w) as (λ b. (b || is_word (xs ++ ys) w) ≡ ((b || is_word xs w) || is_word ys w)) [ true ↦ refl | false ↦ word_append xs ys w ]

abbrev name_in : List ℕ × Bool → List ℕ
name_in r = r.0

row_word : (rows : List (List ℕ × Bool)) (w : List ℕ) → is_some (lookup (bytes_eq w) rows) ≡ is_word (map name_in rows) w
row_word [] w = refl
row_word (r ∷ rows) w =
    let met : bytes_eq w r.0 ≡ true → is_some (lookup (bytes_eq w) (r ∷ rows)) ≡ is_word (map name_in (r ∷ rows)) w = λ h.
    let back : bytes_eq r.0 w ≡ true = (bytes_eq-Decides r.0 w).1 (sym ((bytes_eq-Decides w r.0).0 h)) in
    rw (h, back) refl in
    let passed : bytes_eq w r.0 ≡ false → is_some (lookup (bytes_eq w) (r ∷ rows)) ≡ is_word (map name_in (r ∷ rows)) w = λ h.
    let back : bytes_eq r.0 w ≡ false = ⊎_elim (λ t. absurd (none_true (sym h ∙ (bytes_eq-Decides w r.0).1 (sym ((bytes_eq-Decides r.0 w).0 t))))) (λ f. f) (cases_Bool (bytes_eq r.0 w)) in
    rw (h, back) (row_word rows w) in
    ⊎_elim met passed (cases_Bool (bytes_eq w r.0))

abbrev template_word : List (List ℕ)
template_word = codes "template" ∷ []

words_are : tag_words ≡ map name_in element_rows ++ template_word
unfolding tag_words
words_are = refl

template_eq : (w : List ℕ) → bytes_eq w (codes "template") ≡ is_word template_word w
template_eq w =
    let met : bytes_eq w (codes "template") ≡ true → bytes_eq w (codes "template") ≡ is_word template_word w = λ h.
    rw (h, (bytes_eq-Decides (codes "template") w).1 (sym ((bytes_eq-Decides w (codes "template")).0 h))) refl in
    let passed : bytes_eq w (codes "template") ≡ false → bytes_eq w (codes "template") ≡ is_word template_word w = λ h.
    let back : bytes_eq (codes "template") w ≡ false = ⊎_elim (λ t. absurd (none_true (sym h ∙ (bytes_eq-Decides w (codes "template")).1 (sym ((bytes_eq-Decides (codes "template") w).0 t))))) (λ f. f) (cases_Bool (bytes_eq (codes "template") w)) in
    rw (h, back) refl in
    ⊎_elim met passed (cases_Bool (bytes_eq w (codes "template")))

-- The names of tags are these words.
pub tag_name_is : (w : List ℕ) → is_tag_name w ≡ is_word tag_words w
tag_name_is w = (λ i. row_word element_rows w i || template_eq w i) ∙ (sym (word_append (map name_in element_rows) template_word w) ∙ ap (λ ws. is_word ws w) (sym words_are))

abbrev pub is_word_byte : ℕ → Bool
is_word_byte b = is_letter b || is_digit b

abbrev pub is_name_word : List ℕ → Bool
is_name_word w = list_all is_word_byte w

abbrev pub begins_with_letter : List ℕ → Bool
begins_with_letter [] = false
begins_with_letter (b ∷ bs) = is_letter b

all_name_words : list_all is_name_word tag_words ≡ true
unfolding tag_words element_rows
all_name_words = refl

all_letter_words : list_all begins_with_letter tag_words ≡ true
unfolding tag_words element_rows
all_letter_words = refl

script_is_none : is_word tag_words (codes "script") ≡ false
unfolding tag_words element_rows
script_is_none = refl

pub tag_name_bytes : (w : List ℕ) → IsTagName w → is_name_word w ≡ true
tag_name_bytes w h = word_passes is_name_word tag_words w all_name_words (sym (tag_name_is w) ∙ h)

pub tag_name_letter : (w : List ℕ) → IsTagName w → begins_with_letter w ≡ true
tag_name_letter w h = word_passes begins_with_letter tag_words w all_letter_words (sym (tag_name_is w) ∙ h)

pub start_word_bytes : (w : List ℕ) → is_word start_words w ≡ true → is_name_word w ≡ true
start_word_bytes w h = word_passes is_name_word start_words w all_name_words h

pub tag_name_not_script : (w : List ℕ) → IsTagName w → bytes_eq w (codes "script") ≡ false
tag_name_not_script w h =
    let no : bytes_eq w (codes "script") ≡ true → bytes_eq w (codes "script") ≡ false = λ e.
    absurd (none_true (sym script_is_none ∙ (sym (tag_name_is (codes "script")) ∙ (ap is_tag_name (sym ((bytes_eq-Decides w (codes "script")).0 e)) ∙ h)))) in
    ⊎_elim no (λ f. f) (cases_Bool (bytes_eq w (codes "script")))

flag_else : (t : Bool) (o : Option Bool) → t ≡ false → is_some o ≡ true → (v : Bool) × ((if t then Some false else o) ≡ Some v)
flag_else true o e s = absurd (none_true (sym e))
flag_else false None e s = absurd (none_true s)
flag_else false (Some v) e s = (v, refl)

flag_then : (t : Bool) (o : Option Bool) → t ≡ true → (if t then Some false else o) ≡ Some false
flag_then true o e = refl
flag_then false o e = absurd (none_true e)

-- A name has a flag exactly where it is a tag's.
pub flag_of_tag : (w : List ℕ) → IsTagName w → (v : Bool) × (tag_flag w ≡ Some v)
flag_of_tag w h =
    let template : bytes_eq w (codes "template") ≡ true → (v : Bool) × (tag_flag w ≡ Some v) = λ e. (false, flag_then _ (void_flag w) e) in
    let other : bytes_eq w (codes "template") ≡ false → (v : Bool) × (tag_flag w ≡ Some v) = λ e.
    flag_else _ (void_flag w) e (⊎_elim (λ s. s) (λ t. absurd (none_true (sym e ∙ t))) (or_cases (is_some (void_flag w)) _ h)) in
    ⊎_elim template other (cases_Bool (bytes_eq w (codes "template")))

pub tag_of_flag : (w : List ℕ) (v : Bool) → tag_flag w ≡ Some v → IsTagName w
tag_of_flag w v h =
    let template : bytes_eq w (codes "template") ≡ true → IsTagName w = λ e. or_right _ _ e in
    let other : bytes_eq w (codes "template") ≡ false → IsTagName w = λ e.
    let flag : void_flag w ≡ Some v = rw e at h in
    or_left _ _ (ap is_some flag) in
    ⊎_elim template other (cases_Bool (bytes_eq w (codes "template")))

template_not_void : void_flag (codes "template") ≡ None
unfolding element_rows
template_not_void = refl

apart : (o : Option Bool) (v : Bool) → o ≡ None → o ≡ Some v → ⊥
apart o v e f = cc

pub flag_of_void : (w : List ℕ) → IsVoidName w → tag_flag w ≡ Some true
flag_of_void w h =
    let template : bytes_eq w (codes "template") ≡ true → tag_flag w ≡ Some true = λ e.
    absurd (apart (void_flag w) true (ap void_flag ((bytes_eq-Decides w (codes "template")).0 e) ∙ template_not_void) h) in
    let other : bytes_eq w (codes "template") ≡ false → tag_flag w ≡ Some true = λ e. rw e h in
    ⊎_elim template other (cases_Bool (bytes_eq w (codes "template")))

false_true : (a b : Bool) → Some a ≡ Some b → a ≡ b
false_true a b e = cc

pub void_of_flag : (w : List ℕ) → tag_flag w ≡ Some true → IsVoidName w
void_of_flag w h =
    let template : bytes_eq w (codes "template") ≡ true → IsVoidName w = λ e.
    let f : Some false ≡ Some true = rw e at h in absurd (none_true (false_true false true f)) in
    let other : bytes_eq w (codes "template") ≡ false → IsVoidName w = λ e. rw e at h in
    ⊎_elim template other (cases_Bool (bytes_eq w (codes "template")))

-- The words of tags begin as the names of elements do, or as `template`.
fronts_append : (xs ys : List (List ℕ)) (w : List ℕ) → begins_word (xs ++ ys) w ≡ (begins_word xs w || begins_word ys w)
fronts_append [] ys w = refl
fronts_append (x ∷ xs) ys w = elim (starts_with nat_eq x w) as (λ b. (b || begins_word (xs ++ ys) w) ≡ ((b || begins_word xs w) || begins_word ys w)) [ true ↦ refl | false ↦ fronts_append xs ys w ]

row_front : (rows : List (List ℕ × Bool)) (w : List ℕ) → begins_word (map name_in rows) w ≡ begins_name rows w
row_front [] w = refl
row_front (r ∷ rows) w = ap (λ b. starts_with nat_eq r.0 w || b) (row_front rows w)

or_false : (b : Bool) → (b || false) ≡ b
or_false true = refl
or_false false = refl

pub tag_front_is : (w : List ℕ) → begins_word tag_words w ≡ (begins_name element_rows w || starts_with nat_eq (codes "template") w)
tag_front_is w =
    ap (λ words. begins_word words w) words_are ∙ fronts_append (map name_in element_rows) template_word w
    ∙ ap (λ b. b || begins_word template_word w) (row_front element_rows w) ∙ ap (λ b. begins_name element_rows w || b) (or_false (starts_with nat_eq (codes "template") w))
