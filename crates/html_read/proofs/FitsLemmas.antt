-- What each mode says of the token that has begun, and that a byte keeps it.
use Rattle.std.proofs.Common.{◌≡◌, ◌≢◌, ℕ, ◌+◌, ◌-◌, Bool, true, false, nat_eq, nat_lt, nat_le, ◌==◌, ◌&&◌, ◌||◌, ◌⊎◌, inl, inr, Option, Some, None, Result, Ok, Err, List, [], ◌∷◌, ◌++◌, length, drop, take, codes, refl, sym, ◌∙◌, ap, subst, ⊎_elim, arith, append-nil, append_assoc, length-append}
use Rattle.std.specs.List.{list_all, ends_with}
use Rattle.std.specs.Str.{bytes_eq}
use Rattle.std.proofs.lemmas.Bool.{cond_both, eqb-true, eqb-false, and_parts, and_from, or_cases}
use Rattle.std.proofs.lemmas.Bool.Decides.{Decides-eqb}
use Rattle.std.proofs.lemmas.List.{drop_at, nil_from_length, same_from_push}
use Rattle.std.proofs.lemmas.List.Concat.{flat_map-append}
use Rattle.std.proofs.lemmas.Slice.Eq.{bytes_eq-Decides, ends_is}
use Rattle.std.proofs.lemmas.Str.{IsUtf8-nil}
use Rattle.fizz_text.specs.declared.attribute.Attr.{Attr}
use Rattle.html_names.specs.Escape.{escape_of, entities}
use Rattle.html_names.specs.Elements.{element_rows}
use Rattle.html_names.specs.declared.comments.CommentKind.{CommentKind}
use Rattle.html_names.specs.declared.comments.CommentKind.TheVariants as kind
use Rattle.html_read.specs.declared.token.Token.{Token}
use Rattle.html_read.specs.declared.token.Token.TheVariants as toks
use Rattle.html_read.specs.declared.place.Tail.{Tail}
use Rattle.html_read.specs.declared.place.Tail.TheVariants.{One, Two, Three, AfterE0, AfterEd, AfterF0, AfterF4}
use Rattle.html_read.specs.declared.place.Place.{Place}
use Rattle.html_read.specs.declared.place.Place.TheVariants.{Whole, Char, Entity}
use Rattle.html_read.specs.declared.place.RunFault.{RunFault}
use Rattle.html_read.specs.declared.place.RunFault.TheVariants as faults
use Rattle.html_read.specs.declared.machine.Mode.{Mode}
use Rattle.html_read.specs.declared.machine.Mode.TheVariants.{Text, Name, EndName, Comment, Script, Space, Attribute, Equals, Value, Close, Slash}
use Rattle.html_read.specs.declared.machine.Transition.{Transition}
use Rattle.html_read.specs.declared.machine.Transition.TheVariants.{Goes, Ends, Cuts, Fails}
use Rattle.html_names.specs.Names.{is_letter, is_digit, is_name_byte}
use Rattle.html_read.specs.Names.{IsAttributeName}
use Rattle.html_names.specs.Printing.{attribute_spelling, attributes_spelling, tag_prefix}
use Rattle.html_names.specs.Comments.{comment_data}
use Rattle.html_read.specs.Tokens.{IsAttribute, AreAttributes, script_end, IsScriptBody, spelling, IsToken, place_of, is_text}
use Rattle.html_read.specs.Machine.{is_word, begins_word, tag_words, start_words, comment_words, tag_flag, next_within, tail_after, starts_char, entity_after, place_after, text_transition, value_transition, close_transition, flag_transition, after_name, name_transition, end_flag_transition, end_name_transition, comment_transition, script_transition, space_transition, attribute_transition, equals_transition, slash_transition, transition_of}
use Rattle.html_read.proofs.WordLemmas.{none_true, tag_of_flag, void_of_flag}
use Rattle.html_read.proofs.HasRunLemmas.{HasRun, HasWhole, place_keeps}

-- A tag up to the end of its name or of an attribute; whether it is void.
pub record HasTag (v : Bool) (front : List ℕ) : Type 0 where
  pub name : List ℕ
  pub attributes : List Attr
  pub flag : tag_flag name ≡ Some v
  pub are : AreAttributes attributes
  pub is : front ≡ tag_prefix name attributes

pub record InName (seen : List ℕ) : Type 0 where
  pub name : List ℕ
  pub begins : begins_word start_words name ≡ true
  pub is : seen ≡ 60 ∷ name

pub record InEndName (seen : List ℕ) : Type 0 where
  pub name : List ℕ
  pub begins : begins_word tag_words name ≡ true
  pub is : seen ≡ 60 ∷ 47 ∷ name

pub record InComment (seen : List ℕ) : Type 0 where
  pub word : List ℕ
  pub begins : begins_word comment_words word ≡ true
  pub open_still : is_word comment_words word ≡ false
  pub is : seen ≡ 60 ∷ 33 ∷ word

pub record InScript (seen : List ℕ) : Type 0 where
  pub body : List ℕ
  pub fine : IsScriptBody body
  pub is : seen ≡ codes "<script>" ++ body

pub record InSpace (v : Bool) (seen : List ℕ) : Type 0 where
  pub front : List ℕ
  pub tag : HasTag v front
  pub is : seen ≡ front ++ 32 ∷ []

pub record InAttribute (v : Bool) (start : ℕ) (seen : List ℕ) : Type 0 where
  pub front : List ℕ
  pub name : List ℕ
  pub tag : HasTag v front
  pub named : IsAttributeName name
  pub starts : start ≡ length front + 1
  pub is : seen ≡ front ++ 32 ∷ name

abbrev pub opening : List ℕ → List ℕ → List ℕ
opening front name = front ++ (32 ∷ name ++ 61 ∷ 34 ∷ [])

pub record InEquals (v : Bool) (seen : List ℕ) : Type 0 where
  pub front : List ℕ
  pub name : List ℕ
  pub tag : HasTag v front
  pub named : IsAttributeName name
  pub is : seen ≡ front ++ (32 ∷ name ++ 61 ∷ [])

pub record InValue (v : Bool) (place : Place) (seen : List ℕ) : Type 0 where
  pub front : List ℕ
  pub name : List ℕ
  pub run : List ℕ
  pub tag : HasTag v front
  pub named : IsAttributeName name
  pub has : HasRun (length (opening front name)) place run
  pub is : seen ≡ opening front name ++ run

pub record InClose (v : Bool) (seen : List ℕ) : Type 0 where
  pub front : List ℕ
  pub attribute : Attr
  pub tag : HasTag v front
  pub fine : IsAttribute attribute
  pub is : seen ≡ front ++ attribute_spelling attribute

pub record InSlash (seen : List ℕ) : Type 0 where
  pub front : List ℕ
  pub tag : HasTag true front
  pub is : seen ≡ front ++ 47 ∷ []

abbrev pub Fits : Mode → List ℕ → Type 0
Fits (Text place) seen = HasRun 0 place seen
Fits Name seen = InName seen
Fits EndName seen = InEndName seen
Fits Comment seen = InComment seen
Fits Script seen = InScript seen
Fits (Space v) seen = InSpace v seen
Fits (Attribute v start) seen = InAttribute v start seen
Fits (Equals v) seen = InEquals v seen
Fits (Value v place) seen = InValue v place seen
Fits (Close v) seen = InClose v seen
Fits Slash seen = InSlash seen

-- The bytes are a token, wherever it stands: a text or another.
pub record IsSpelling (text : Bool) (bytes : List ℕ) (from : ℕ) : Type 0 where
  pub tok : Token
  pub is_token : IsToken tok
  pub spelled : bytes ≡ spelling tok
  pub text_is : is_text tok ≡ text
  pub place_is : place_of tok ≡ from

-- What a byte does is right.
abbrev pub IsGoodTransition : List ℕ → ℕ → Transition → Type 0
IsGoodTransition seen b (Goes mode) = Fits mode (seen ++ b ∷ [])
IsGoodTransition seen b Ends = (from : ℕ) → IsSpelling false (seen ++ b ∷ []) from
IsGoodTransition seen b Cuts = (b ≡ 60) × ((from : ℕ) → IsSpelling true seen from)
IsGoodTransition seen b (Fails kind) = Unit {0}

ok_err : (p : Place) → ◌≡◌ {A = Result Place RunFault} (Ok p) (Err faults.Byte) → ⊥
ok_err p e = cc

other_err : ◌≡◌ {A = Result Place RunFault} (Err faults.Utf8) (Err faults.Byte) → ⊥
other_err e = cc

entity_err : ◌≡◌ {A = Result Place RunFault} (Err faults.Entity) (Err faults.Byte) → ⊥
entity_err e = cc

-- Only a whole place refuses a byte for itself.
within_no_byte : (low high b : ℕ) (p : Place) → next_within low high b p ≡ Err faults.Byte → ⊥
within_no_byte low high b p =
    cond_both (nat_le low b && nat_lt b high) (Ok p) (Err faults.Utf8) (λ r. r ≡ Err faults.Byte → ⊥) (λ e s. ok_err p s) (λ e s. other_err s)

tail_no_byte : (tail : Tail) (b : ℕ) → tail_after tail b ≡ Err faults.Byte → ⊥
tail_no_byte One b e = within_no_byte 128 192 b Whole e
tail_no_byte Two b e = within_no_byte 128 192 b (Char One) e
tail_no_byte Three b e = within_no_byte 128 192 b (Char Two) e
tail_no_byte AfterE0 b e = within_no_byte 160 192 b (Char One) e
tail_no_byte AfterEd b e = within_no_byte 128 160 b (Char One) e
tail_no_byte AfterF0 b e = within_no_byte 144 192 b (Char Two) e
tail_no_byte AfterF4 b e = within_no_byte 128 144 b (Char Two) e

entity_no_byte : (start b : ℕ) (entity : List ℕ) → entity_after start entity b ≡ Err faults.Byte → ⊥
entity_no_byte start b entity =
    cond_both (is_word entities entity) _ _ (λ r. r ≡ Err faults.Byte → ⊥) (λ e s. ok_err Whole s) (λ n.
    cond_both (begins_word entities entity) _ _ (λ r. r ≡ Err faults.Byte → ⊥) (λ e s. ok_err (Entity start) s) (λ m.
    cond_both (starts_char b) _ _ (λ r. r ≡ Err faults.Byte → ⊥) (λ e s. entity_err s) (λ e s. other_err s)))

pub byte_is_whole : (base : ℕ) (p : Place) (run token : List ℕ) (b : ℕ) → HasRun base p run → place_after p token b ≡ Err faults.Byte → HasWhole run
byte_is_whole base Whole run token b h e = h
byte_is_whole base (Char tail) run token b h e = absurd (tail_no_byte tail b e)
byte_is_whole base (Entity start) run token b h e = absurd (entity_no_byte start b (drop start token) e)

-- A text.
pub whole_text : (run : List ℕ) (from : ℕ) → HasWhole run → run ≢ [] → IsSpelling true run from
whole_text run from h n = record {
  tok = toks.Text h.text from;
  is_token = (λ e. n (h.is ∙ ap escape_of e), h.utf8);
  spelled = h.is;
  text_is = refl;
  place_is = refl;
}

text_good : (p : Place) (seen : List ℕ) (b : ℕ) → HasRun 0 p seen → (r : Result Place RunFault) → place_after p (seen ++ b ∷ []) b ≡ r
    → IsGoodTransition seen b (text_transition (length (seen ++ b ∷ [])) b r)
text_good p seen b h (Ok q) e = place_keeps [] seen p q b h e
text_good p seen b h (Err faults.Byte) e =
    cond_both (b == 60) _ _ (IsGoodTransition seen b) (λ is60.
    cond_both (length (seen ++ b ∷ []) == 1) _ _ (IsGoodTransition seen b) (λ one.
    let len : length (seen ++ b ∷ []) ≡ 1 = eqb-true _ 1 one in
    let none : seen ≡ [] = nil_from_length seen (omega (arith, length-append seen (b ∷ []))) in
    record { name = []; begins = refl; is = (λ i. none i ++ eqb-true b 60 is60 i ∷ []) }) (λ more.
    (eqb-true b 60 is60, λ from. whole_text seen from (byte_is_whole 0 p seen (seen ++ b ∷ []) b h e) (λ none. eqb-false _ 1 more (ap (λ s. length (s ++ b ∷ [])) none))))) (λ n. tt)
text_good p seen b h (Err faults.Entity) e = tt
text_good p seen b h (Err faults.Utf8) e = tt

are_more : (attributes : List Attr) (a : Attr) → AreAttributes attributes → IsAttribute a → AreAttributes (attributes ++ a ∷ [])
are_more [] a h fine = (fine, tt)
are_more (x ∷ more) a h fine = (h.0, are_more more a h.1 fine)

-- One attribute more.
pub more_attributes : (v : Bool) (front : List ℕ) (a : Attr) → HasTag v front → IsAttribute a → HasTag v (front ++ attribute_spelling a)
more_attributes v front a h fine = record {
  name = h.name;
  attributes = h.attributes ++ a ∷ [];
  flag = h.flag;
  are = are_more h.attributes a h.are fine;
  is = ap (λ f. f ++ attribute_spelling a) h.is ∙ (append_assoc (60 ∷ h.name) (attributes_spelling h.attributes) (attribute_spelling a)
      ∙ ap (λ w. (60 ∷ h.name) ++ w) (sym (flat_map-append attribute_spelling h.attributes (a ∷ []) ∙ ap (λ w. attributes_spelling h.attributes ++ w) (append-nil (attribute_spelling a)))));
}

-- After a whole name or an attribute.
close_good : (v : Bool) (seen : List ℕ) (b : ℕ) → HasTag v seen → IsGoodTransition seen b (close_transition v b)
close_good v seen b h =
    cond_both (b == 32) _ _ (IsGoodTransition seen b) (λ e. record { front = seen; tag = h; is = ap (λ x. seen ++ x ∷ []) (eqb-true b 32 e) }) (λ n32.
    cond_both (b == 62) _ _ (IsGoodTransition seen b) (λ e from. record {
      tok = toks.Start h.name h.attributes from;
      is_token = (tag_of_flag h.name v h.flag, h.are);
      spelled = (λ i. h.is i ++ eqb-true b 62 e i ∷ []);
      text_is = refl;
      place_is = refl;
    }) (λ n62.
    cond_both (b == 47 && v) _ _ (IsGoodTransition seen b) (λ e.
    let p : ((b == 47) ≡ true) × (v ≡ true) = and_parts _ _ e in
    record { front = seen; tag = subst (λ w. HasTag w seen) p.1 h; is = ap (λ x. seen ++ x ∷ []) (eqb-true b 47 p.0) }) (λ n. tt)))

flag_good : (name : List ℕ) (b : ℕ) (o : Option Bool) → tag_flag name ≡ o → IsGoodTransition (60 ∷ name) b (flag_transition o b)
flag_good name b None e = tt
flag_good name b (Some v) e =
    cond_both (is_letter b || is_digit b) _ _ (IsGoodTransition (60 ∷ name) b) (λ l. tt) (λ n.
    close_good v (60 ∷ name) b (record { name = name; attributes = []; flag = e; are = tt; is = ap (λ x. 60 ∷ x) (sym (append-nil name)) }))

pub no_script_end : IsScriptBody []
no_script_end before after e =
    let n : 0 ≡ length (before ++ (script_end ++ after)) = ap length e in
    omega (arith, length-append before (script_end ++ after), length-append script_end after)

begins_nothing : begins_word tag_words [] ≡ true
unfolding tag_words element_rows
begins_nothing = refl

after_good : (name : List ℕ) (b : ℕ) → IsGoodTransition (60 ∷ name) b (after_name name b)
after_good name b =
    cond_both (length name == 0) _ _ (IsGoodTransition (60 ∷ name) b) (λ z.
    let none : name ≡ [] = nil_from_length name (eqb-true _ 0 z) in
    cond_both (b == 47) _ _ (IsGoodTransition (60 ∷ name) b) (λ e. record { name = []; begins = begins_nothing; is = (λ i. 60 ∷ none i ++ eqb-true b 47 e i ∷ []) }) (λ n47.
    cond_both (b == 33) _ _ (IsGoodTransition (60 ∷ name) b) (λ e. record { word = []; begins = refl; open_still = refl; is = (λ i. 60 ∷ none i ++ eqb-true b 33 e i ∷ []) }) (λ n. tt))) (λ some.
    cond_both (bytes_eq name (codes "script")) _ _ (IsGoodTransition (60 ∷ name) b) (λ s.
    cond_both (b == 62) _ _ (IsGoodTransition (60 ∷ name) b) (λ e.
    record { body = []; fine = no_script_end; is = (λ i. 60 ∷ (bytes_eq-Decides name (codes "script")).0 s i ++ eqb-true b 62 e i ∷ []) }) (λ n. tt)) (λ n.
    flag_good name b (tag_flag name) refl))

name_good : (name : List ℕ) (b : ℕ) → IsGoodTransition (60 ∷ name) b (name_transition name (name ++ b ∷ []) b)
name_good name b =
    cond_both (begins_word start_words (name ++ b ∷ [])) _ _ (IsGoodTransition (60 ∷ name) b) (λ g. record { name = name ++ b ∷ []; begins = g; is = refl }) (λ n. after_good name b)

end_flag_good : (name : List ℕ) (b : ℕ) (o : Option Bool) → tag_flag name ≡ o → IsGoodTransition (60 ∷ 47 ∷ name) b (end_flag_transition o b)
end_flag_good name b None e = tt
end_flag_good name b (Some v) e =
    cond_both (b == 62) _ _ (IsGoodTransition (60 ∷ 47 ∷ name) b) (λ s from. record {
      tok = toks.End name from;
      is_token = tag_of_flag name v e;
      spelled = (λ i. 60 ∷ 47 ∷ name ++ eqb-true b 62 s i ∷ []);
      text_is = refl;
      place_is = refl;
    }) (λ n. tt)

end_name_good : (name : List ℕ) (b : ℕ) → IsGoodTransition (60 ∷ 47 ∷ name) b (end_name_transition name (name ++ b ∷ []) b)
end_name_good name b =
    cond_both (begins_word tag_words (name ++ b ∷ [])) _ _ (IsGoodTransition (60 ∷ 47 ∷ name) b) (λ g. record { name = name ++ b ∷ []; begins = g; is = refl }) (λ n.
    end_flag_good name b (tag_flag name) refl)

-- the five comments
pub record IsSaid (word : List ℕ) : Type 0 where
  pub which : CommentKind
  pub is : word ≡ codes "--" ++ (comment_data which ++ codes "-->")

said_at : (word : List ℕ) (which : CommentKind) → bytes_eq (codes "--" ++ (comment_data which ++ codes "-->")) word ≡ true → IsSaid word
said_at word which e = record { which = which; is = sym ((bytes_eq-Decides _ word).0 e) }

pub comment_word : (word : List ℕ) → is_word comment_words word ≡ true → IsSaid word
comment_word word h1 =
    ⊎_elim (said_at word kind.Complete) (λ h2.
    ⊎_elim (said_at word kind.Pending) (λ h3.
    ⊎_elim (said_at word kind.Client) (λ h4.
    ⊎_elim (said_at word kind.End) (λ h5.
    ⊎_elim (said_at word kind.Space) (λ h6. absurd (none_true h6))
    (or_cases _ _ h5)) (or_cases _ _ h4)) (or_cases _ _ h3)) (or_cases _ _ h2)) (or_cases _ _ h1)

comment_good : (word : List ℕ) (b : ℕ) → IsGoodTransition (60 ∷ 33 ∷ word) b (comment_transition (word ++ b ∷ []))
comment_good word b =
    cond_both (is_word comment_words (word ++ b ∷ [])) _ _ (IsGoodTransition (60 ∷ 33 ∷ word) b) (λ w from.
    let s : IsSaid (word ++ b ∷ []) = comment_word (word ++ b ∷ []) w in
    record { tok = toks.Comment s.which from; is_token = tt; spelled = ap (λ x. 60 ∷ 33 ∷ x) s.is; text_is = refl; place_is = refl }) (λ n.
    cond_both (begins_word comment_words (word ++ b ∷ [])) _ _ (IsGoodTransition (60 ∷ 33 ∷ word) b) (λ g. record { word = word ++ b ∷ []; begins = g; open_still = n; is = refl }) (λ m. tt))

-- A list is empty or has a last element.
snoc : (xs : List ℕ) → (xs ≡ []) ⊎ ((ys : List ℕ) × (y : ℕ) × (xs ≡ ys ++ y ∷ []))
snoc [] = inl refl
snoc (x ∷ xs) =
    inr (⊎_elim (λ e. ([], x, ap (λ r. x ∷ r) e)) (λ s. (x ∷ s.0, s.1, ap (λ r. x ∷ r) s.2)) (snoc xs))

script_ends : (body : List ℕ) (b : ℕ) (inner : List ℕ) → IsScriptBody body → inner ++ script_end ≡ body ++ b ∷ [] → IsScriptBody inner
script_ends body b inner fine e before after f =
    let longer : body ++ b ∷ [] ≡ (before ++ (script_end ++ (after ++ codes "</script"))) ++ 62 ∷ [] =
    sym e ∙ (ap (λ x. x ++ script_end) f ∙ (append_assoc before (script_end ++ after) script_end ∙ (ap (λ x. before ++ x) (append_assoc script_end after script_end)
    ∙ (ap (λ x. before ++ (script_end ++ x)) (sym (append_assoc after (codes "</script") (62 ∷ []))) ∙ (ap (λ x. before ++ x) (sym (append_assoc script_end (after ++ codes "</script") (62 ∷ [])))
    ∙ sym (append_assoc before (script_end ++ (after ++ codes "</script")) (62 ∷ []))))))) in
    fine before (after ++ codes "</script") ((same_from_push body _ b 62 longer).0)

pub script_goes : (body : List ℕ) (b : ℕ) → IsScriptBody body → ends_with nat_eq (body ++ b ∷ []) script_end ≡ false → IsScriptBody (body ++ b ∷ [])
script_goes body b fine n before after e =
    ⊎_elim (λ none.
    let at_end : body ++ b ∷ [] ≡ before ++ script_end = e ∙ ap (λ x. before ++ x) (ap (λ x. script_end ++ x) none ∙ append-nil script_end) in
    none_true (sym n ∙ (ends_is Decides-eqb (body ++ b ∷ []) script_end _ refl).1 before at_end)) (λ s.
    let inner : body ++ b ∷ [] ≡ (before ++ (script_end ++ s.0)) ++ s.1 ∷ [] =
    e ∙ (ap (λ x. before ++ (script_end ++ x)) s.2 ∙ (ap (λ x. before ++ x) (sym (append_assoc script_end s.0 (s.1 ∷ []))) ∙ sym (append_assoc before (script_end ++ s.0) (s.1 ∷ [])))) in
    fine before s.0 ((same_from_push body _ b s.1 inner).0)) (snoc after)

script_good : (body : List ℕ) (b : ℕ) → IsScriptBody body → IsGoodTransition (codes "<script>" ++ body) b (script_transition (body ++ b ∷ []))
script_good body b fine =
    cond_both (ends_with nat_eq (body ++ b ∷ []) script_end) _ _ (IsGoodTransition (codes "<script>" ++ body) b) (λ w from.
    let inner : List ℕ = take (length (body ++ b ∷ []) - length script_end) (body ++ b ∷ []) in
    let cut : body ++ b ∷ [] ≡ inner ++ script_end = (ends_is Decides-eqb (body ++ b ∷ []) script_end _ refl).0 w in
    record { tok = toks.Script inner from; is_token = script_ends body b inner fine (sym cut); spelled = ap (λ x. codes "<script>" ++ x) cut; text_is = refl; place_is = refl }) (λ n.
    record { body = body ++ b ∷ []; fine = script_goes body b fine n; is = refl })

space_good : (v : Bool) (front : List ℕ) (b : ℕ) → HasTag v front → IsGoodTransition (front ++ 32 ∷ []) b (space_transition v (length (front ++ 32 ∷ [] ++ b ∷ [])) b)
space_good v front b h =
    cond_both (is_letter b) _ _ (IsGoodTransition (front ++ 32 ∷ []) b) (λ l. record {
      front = front;
      name = b ∷ [];
      tag = h;
      named = (l, refl);
      starts = omega (arith, length-append (front ++ 32 ∷ []) (b ∷ []), length-append front (32 ∷ []));
      is = append_assoc front (32 ∷ []) (b ∷ []);
    }) (λ n. tt)

all_push : (test : ℕ → Bool) (xs : List ℕ) (b : ℕ) → list_all test xs ≡ true → test b ≡ true → list_all test (xs ++ b ∷ []) ≡ true
all_push test [] b h t = and_from _ _ t refl
all_push test (x ∷ xs) b h t = let p : (test x ≡ true) × (list_all test xs ≡ true) = and_parts _ _ h in and_from _ _ p.0 (all_push test xs b p.1 t)

name_push : (name : List ℕ) (b : ℕ) → IsAttributeName name → is_name_byte b ≡ true → IsAttributeName (name ++ b ∷ [])
name_push [] b h t = absurd h
name_push (x ∷ xs) b h t = (h.0, all_push is_name_byte xs b h.1 t)

attribute_good : (v : Bool) (start : ℕ) (front name : List ℕ) (b : ℕ) → HasTag v front → IsAttributeName name → start ≡ length front + 1
    → IsGoodTransition (front ++ 32 ∷ name) b (attribute_transition v start (drop start (front ++ 32 ∷ name)) b)
attribute_good v start front name b h named starts =
    let cut : drop start (front ++ 32 ∷ name) ≡ name =
    ap (drop start) (sym (append_assoc front (32 ∷ []) name)) ∙ drop_at (front ++ 32 ∷ []) name start (omega (arith, length-append front (32 ∷ []))) in
    cond_both (is_name_byte b) _ _ (IsGoodTransition (front ++ 32 ∷ name) b) (λ c. record {
      front = front;
      name = name ++ b ∷ [];
      tag = h;
      named = name_push name b named c;
      starts = starts;
      is = append_assoc front (32 ∷ name) (b ∷ []);
    }) (λ n.
    cond_both (b == 61) _ _ (IsGoodTransition (front ++ 32 ∷ name) b) (λ e. record {
      front = front;
      name = name;
      tag = h;
      named = named;
      is = append_assoc front (32 ∷ name) (b ∷ []) ∙ ap (λ x. front ++ (32 ∷ name ++ x ∷ [])) (eqb-true b 61 e);
    }) (λ n61.
    cond_both (bytes_eq (drop start (front ++ 32 ∷ name)) (codes "hidden")) _ _ (IsGoodTransition (front ++ 32 ∷ name) b) (λ e.
    let hidden : name ≡ codes "hidden" = sym cut ∙ (bytes_eq-Decides _ (codes "hidden")).0 e in
    let a : Attr = record { name = name; value = None } in
    close_good v (front ++ 32 ∷ name) b (subst (λ x. HasTag v (front ++ 32 ∷ x)) (append-nil name) (more_attributes v front a h (named, hidden)))) (λ m. tt)))

equals_good : (v : Bool) (front name : List ℕ) (b : ℕ) → HasTag v front → IsAttributeName name → IsGoodTransition (front ++ (32 ∷ name ++ 61 ∷ [])) b (equals_transition v b)
equals_good v front name b h named =
    cond_both (b == 34) _ _ (IsGoodTransition (front ++ (32 ∷ name ++ 61 ∷ [])) b) (λ e. record {
      front = front;
      name = name;
      run = [];
      tag = h;
      named = named;
      has = record { text = []; utf8 = IsUtf8-nil; is = refl };
      is = append_assoc front (32 ∷ name ++ 61 ∷ []) (b ∷ []) ∙ (ap (λ x. front ++ x) (append_assoc (32 ∷ name) (61 ∷ []) (b ∷ [])) ∙ (ap (λ x. front ++ (32 ∷ name ++ 61 ∷ x ∷ [])) (eqb-true b 34 e) ∙ sym (append-nil (opening front name))));
    }) (λ n. tt)

value_good : (v : Bool) (p : Place) (front name run : List ℕ) (b : ℕ) → HasTag v front → IsAttributeName name → HasRun (length (opening front name)) p run
    → (r : Result Place RunFault) → place_after p (opening front name ++ run ++ b ∷ []) b ≡ r → IsGoodTransition (opening front name ++ run) b (value_transition v b r)
value_good v p front name run b h named has (Ok q) e = record {
  front = front;
  name = name;
  run = run ++ b ∷ [];
  tag = h;
  named = named;
  has = place_keeps (opening front name) run p q b has e;
  is = append_assoc (opening front name) run (b ∷ []);
}
value_good v p front name run b h named has (Err faults.Byte) e =
    cond_both (b == 34) _ _ (IsGoodTransition (opening front name ++ run) b) (λ q.
    let w : HasWhole run = byte_is_whole (length (opening front name)) p run _ b has e in
    record {
      front = front;
      attribute = record { name = name; value = Some w.text };
      tag = h;
      fine = (named, w.utf8);
      is = append_assoc (opening front name) run (b ∷ []) ∙ (append_assoc front (32 ∷ name ++ 61 ∷ 34 ∷ []) (run ++ b ∷ [])
          ∙ (ap (λ x. front ++ x) (append_assoc (32 ∷ name) (61 ∷ 34 ∷ []) (run ++ b ∷ [])) ∙ (λ i. front ++ (32 ∷ name ++ 61 ∷ 34 ∷ (w.is i ++ eqb-true b 34 q i ∷ [])))));
    }) (λ n. tt)
value_good v p front name run b h named has (Err faults.Entity) e = tt
value_good v p front name run b h named has (Err faults.Utf8) e = tt

slash_good : (front : List ℕ) (b : ℕ) → HasTag true front → IsGoodTransition (front ++ 47 ∷ []) b (slash_transition b)
slash_good front b h =
    cond_both (b == 62) _ _ (IsGoodTransition (front ++ 47 ∷ []) b) (λ e from. record {
      tok = toks.Void h.name h.attributes from;
      is_token = (void_of_flag h.name h.flag, h.are);
      spelled = append_assoc front (47 ∷ []) (b ∷ []) ∙ (λ i. h.is i ++ 47 ∷ eqb-true b 62 e i ∷ []);
      text_is = refl;
      place_is = refl;
    }) (λ n. tt)

-- Whatever a byte does in a mode that fits is right.
pub transition_good : (mode : Mode) (seen : List ℕ) (b : ℕ) → Fits mode seen → IsGoodTransition seen b (transition_of mode seen (seen ++ b ∷ []) b)
transition_good (Text p) seen b h = text_good p seen b h (place_after p (seen ++ b ∷ []) b) refl
transition_good Name seen b h = subst (λ s. IsGoodTransition s b (transition_of Name s (s ++ b ∷ []) b)) (sym h.is) (name_good h.name b)
transition_good EndName seen b h = subst (λ s. IsGoodTransition s b (transition_of EndName s (s ++ b ∷ []) b)) (sym h.is) (end_name_good h.name b)
transition_good Comment seen b h = subst (λ s. IsGoodTransition s b (transition_of Comment s (s ++ b ∷ []) b)) (sym h.is) (comment_good h.word b)
transition_good Script seen b h = subst (λ s. IsGoodTransition s b (transition_of Script s (s ++ b ∷ []) b)) (sym h.is) (script_good h.body b h.fine)
transition_good (Space v) seen b h = subst (λ s. IsGoodTransition s b (transition_of (Space v) s (s ++ b ∷ []) b)) (sym h.is) (space_good v h.front b h.tag)
transition_good (Attribute v start) seen b h = subst (λ s. IsGoodTransition s b (transition_of (Attribute v start) s (s ++ b ∷ []) b)) (sym h.is) (attribute_good v start h.front h.name b h.tag h.named h.starts)
transition_good (Equals v) seen b h = subst (λ s. IsGoodTransition s b (transition_of (Equals v) s (s ++ b ∷ []) b)) (sym h.is) (equals_good v h.front h.name b h.tag h.named)
transition_good (Value v p) seen b h =
    subst (λ s. IsGoodTransition s b (transition_of (Value v p) s (s ++ b ∷ []) b)) (sym h.is)
    (value_good v p h.front h.name h.run b h.tag h.named h.has (place_after p (opening h.front h.name ++ h.run ++ b ∷ []) b) refl)
transition_good (Close v) seen b h =
    subst (λ s. IsGoodTransition s b (transition_of (Close v) s (s ++ b ∷ []) b)) (sym h.is) (close_good v (h.front ++ attribute_spelling h.attribute) b (more_attributes v h.front h.attribute h.tag h.fine))
transition_good Slash seen b h = subst (λ s. IsGoodTransition s b (transition_of Slash s (s ++ b ∷ []) b)) (sym h.is) (slash_good h.front b h.tag)
