-- Runs of bytes that leave the mode as it is.
use Rattle.std.proofs.Common.{◌≡◌, ℕ, suc, Bool, true, false, if◌then◌else◌, ◌==◌, ◌||◌, not, nat_lt, Ok, List, [], ◌∷◌, ◌++◌, take, length, refl, sym, ap}
use Rattle.std.proofs.lemmas.Bool.{and_parts, or_parts}
use Rattle.fizz_text.specs.Ascii.{ampersand}
use Rattle.html_names.specs.Escape.{is_mark}
use Rattle.html_names.specs.Names.{is_name_byte}
use Rattle.html_read.specs.declared.place.Place.{Place}
use Rattle.html_read.specs.declared.place.Place.TheVariants.{Whole, Char, Entity}
use Rattle.html_read.specs.declared.machine.Mode.{Mode}
use Rattle.html_read.specs.declared.machine.Mode.TheVariants.{Text, Attribute, Value}
use Rattle.html_read.specs.Machine.{Stays, AllStay, is_plain, plain_len_at, prefix_len, start_after, text_transition, value_transition}

stays_after : (test : ℕ → Bool) (mode : Mode) (b : ℕ) (bs : List ℕ) (t : Bool) → test b ≡ t → (test b ≡ true → Stays mode b)
    → AllStay mode (take (prefix_len test bs) bs) → AllStay mode (take (if t then suc (prefix_len test bs) else 0) (b ∷ bs))
stays_after test mode b bs true e stays later = (stays e, later)
stays_after test mode b bs false e stays later = tt

AllStay-take : (test : ℕ → Bool) (mode : Mode) → ((b : ℕ) → test b ≡ true → Stays mode b) → (bs : List ℕ) → AllStay mode (take (prefix_len test bs) bs)
AllStay-take test mode stays [] = tt
AllStay-take test mode stays (b ∷ bs) = stays_after test mode b bs (test b) refl (stays b) (AllStay-take test mode stays bs)

not_true : (a : Bool) → not a ≡ true → a ≡ false
not_true false e = refl
not_true true e = sym e

plain_after : (len b : ℕ) → is_plain b ≡ true → start_after len b ≡ Ok Whole
plain_after len b e =
    let p : (nat_lt b 128 ≡ true) × (not (b == ampersand || is_mark b) ≡ true) = and_parts _ _ e in
    let q : ((b == ampersand) ≡ false) × (is_mark b ≡ false) = or_parts _ _ (not_true _ p.1) in
    rw (q.0, q.1, p.0) refl

plain_in_text : (b : ℕ) → is_plain b ≡ true → Stays (Text Whole) b
plain_in_text b e seen = ap (text_transition (length (seen ++ b ∷ [])) b) (plain_after (length (seen ++ b ∷ [])) b e)

plain_in_value : (v : Bool) (b : ℕ) → is_plain b ≡ true → Stays (Value v Whole) b
plain_in_value v b e seen = ap (value_transition v b) (plain_after (length (seen ++ b ∷ [])) b e)

in_name : (v : Bool) (start b : ℕ) → is_name_byte b ≡ true → Stays (Attribute v start) b
in_name v start b e seen = rw e refl

pub text_stays : (place : Place) (bs : List ℕ) → AllStay (Text place) (take (plain_len_at place bs) bs)
text_stays Whole bs = AllStay-take is_plain (Text Whole) plain_in_text bs
text_stays (Char tail) bs = tt
text_stays (Entity start) bs = tt

pub value_stays : (v : Bool) (place : Place) (bs : List ℕ) → AllStay (Value v place) (take (plain_len_at place bs) bs)
value_stays v Whole bs = AllStay-take is_plain (Value v Whole) (plain_in_value v) bs
value_stays v (Char tail) bs = tt
value_stays v (Entity start) bs = tt

pub attribute_stays : (v : Bool) (start : ℕ) (bs : List ℕ) → AllStay (Attribute v start) (take (prefix_len is_name_byte bs) bs)
attribute_stays v start = AllStay-take is_name_byte (Attribute v start) (in_name v start)
