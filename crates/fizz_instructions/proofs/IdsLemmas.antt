-- Ids and their strings: each has one number, and one end.
use Rattle.std.proofs.lemmas.List.{append_cancel_left}
use Rattle.std.proofs.Common.{◌≡◌, ◌≢◌, ℕ, ◌<◌, ◌^◌, List, [], ◌∷◌, ◌++◌, drop, Option, Some, None, sym, ◌∙◌, ap, append-nil}
use Rattle.std.specs.Option.{MatchOption}
use Rattle.std.specs.Str.{IsUtf8}
use Rattle.std.proofs.lemmas.Str.{IsUtf8-append}
use Rattle.fizz_text.specs.Hexadecimal.{hexadecimal}
use Rattle.html_names.specs.JsStrings.{js_string, BeginsNoString, BeginsWithString}
use Rattle.html_names.proofs.JsStringsLemmas.{one_string}
use Rattle.fizz_instructions.specs.Bodies.{id_of}
use Rattle.fizz_instructions.specs.Reading.{AreIds, AreNoIds, BeginsNoId, BeginsWithId}
use Rattle.fizz_instructions.proofs.HexadecimalLemmas.{numeral_utf8, same_number}

pub id_utf8 : (prefix mark : List ℕ) (n : ℕ) → IsUtf8 prefix → IsUtf8 mark → IsUtf8 (id_of prefix mark n)
id_utf8 prefix mark n p m = IsUtf8-append prefix (mark ++ hexadecimal n) p (IsUtf8-append mark (hexadecimal n) m (numeral_utf8 n))

pub same_id : (prefix mark : List ℕ) (m n : ℕ) → id_of prefix mark m ≡ id_of prefix mark n → m ≡ n
same_id prefix mark m n e = same_number m n (append_cancel_left mark (hexadecimal m) (hexadecimal n) (append_cancel_left prefix (mark ++ hexadecimal m) (mark ++ hexadecimal n) e))

pub one_id : (prefix mark : List ℕ) (m n : ℕ) (x y : List ℕ) → IsUtf8 prefix → IsUtf8 mark → js_string (id_of prefix mark m) ++ x ≡ js_string (id_of prefix mark n) ++ y → (m ≡ n) × (x ≡ y)
one_id prefix mark m n x y p u e =
    let same : (id_of prefix mark m ≡ id_of prefix mark n) × (x ≡ y) =
    one_string (id_of prefix mark m) (id_of prefix mark n) x y (id_utf8 prefix mark m p u) (id_utf8 prefix mark n p u) e in
    (same_id prefix mark m n same.0, same.1)

-- One id

pub no_string_no_id : (prefix mark bytes : List ℕ) → IsUtf8 prefix → IsUtf8 mark → BeginsNoString bytes → BeginsNoId prefix mark bytes
no_string_no_id prefix mark bytes p u none n more h = none (id_of prefix mark n) more (id_utf8 prefix mark n p u) h.is

pub other_string_no_id : (prefix mark bytes id : List ℕ) (len : ℕ) → IsUtf8 prefix → IsUtf8 mark → BeginsWithString bytes id len → ((n : ℕ) → n < 2 ^ 32 → id ≢ id_of prefix mark n) → BeginsNoId prefix mark bytes
other_string_no_id prefix mark bytes id len p u front none n more h =
    none n h.fits ((one_string id (id_of prefix mark n) (drop len bytes) more front.utf8 (id_utf8 prefix mark n p u) (sym front.is ∙ h.is)).0)

pub id_at_front : (prefix mark bytes id : List ℕ) (len n : ℕ) → BeginsWithString bytes id len → n < 2 ^ 32 → id ≡ id_of prefix mark n → BeginsWithId prefix mark bytes n (drop len bytes)
id_at_front prefix mark bytes id len n front small is = record { fits = small; is = front.is ∙ ap (λ s. js_string s ++ drop len bytes) is }

-- The parts of an id
pub number_found : (id prefix mark rest numeral : List ℕ) (r : Option ℕ) → id ≡ prefix ++ rest → rest ≡ mark ++ numeral →
    MatchOption r ((n : ℕ) → n < 2 ^ 32 → numeral ≢ hexadecimal n) (λ n. (n < 2 ^ 32) × (numeral ≡ hexadecimal n)) →
    MatchOption r ((n : ℕ) → n < 2 ^ 32 → id ≢ id_of prefix mark n) (λ n. (n < 2 ^ 32) × (id ≡ id_of prefix mark n))
number_found id prefix mark rest numeral None first second h = λ n small e.
    h n small (append_cancel_left mark numeral (hexadecimal n) (sym second ∙ append_cancel_left prefix rest (mark ++ hexadecimal n) (sym first ∙ e)))
number_found id prefix mark rest numeral (Some n) first second h = (h.0, first ∙ ap (λ xs. prefix ++ xs) (second ∙ ap (λ xs. mark ++ xs) h.1))

-- Two ids

rest_is : (prefix a b args rest : List ℕ) (k m n : ℕ) → IsUtf8 prefix → IsUtf8 a → BeginsWithId prefix a args k rest → AreIds prefix a b args m n → (k ≡ m) × (rest ≡ 44 ∷ js_string (id_of prefix b n))
rest_is prefix a b args rest k m n p u first h = one_id prefix a k m rest (44 ∷ js_string (id_of prefix b n)) p u (sym first.is ∙ h.are)

pub no_first : (prefix a b args : List ℕ) → BeginsNoId prefix a args → AreNoIds prefix a b args
no_first prefix a b args none m n h = none m (44 ∷ js_string (id_of prefix b n)) (record { fits = h.first_fits; is = h.are })

pub no_comma : (prefix a b args rest : List ℕ) (k : ℕ) → IsUtf8 prefix → IsUtf8 a → BeginsWithId prefix a args k rest → ((more : List ℕ) → rest ≢ 44 ∷ more) → AreNoIds prefix a b args
no_comma prefix a b args rest k p u first none m n h = none (js_string (id_of prefix b n)) ((rest_is prefix a b args rest k m n p u first h).1)

second_is : (prefix a b args rest more : List ℕ) (k m n : ℕ) → IsUtf8 prefix → IsUtf8 a → BeginsWithId prefix a args k rest → rest ≡ 44 ∷ more → AreIds prefix a b args m n → more ≡ js_string (id_of prefix b n) ++ []
second_is prefix a b args rest more k m n p u first is h =
    ap (drop 1) (sym is ∙ (rest_is prefix a b args rest k m n p u first h).1) ∙ sym (append-nil (js_string (id_of prefix b n)))

pub no_second : (prefix a b args rest more : List ℕ) (k : ℕ) → IsUtf8 prefix → IsUtf8 a → BeginsWithId prefix a args k rest → rest ≡ 44 ∷ more → BeginsNoId prefix b more → AreNoIds prefix a b args
no_second prefix a b args rest more k p u first is none m n h =
    none n [] (record { fits = h.second_fits; is = second_is prefix a b args rest more k m n p u first is h })

pub more_left : (prefix a b args rest more left : List ℕ) (k l : ℕ) → IsUtf8 prefix → IsUtf8 a → IsUtf8 b → BeginsWithId prefix a args k rest → rest ≡ 44 ∷ more → BeginsWithId prefix b more l left → left ≢ [] → AreNoIds prefix a b args
more_left prefix a b args rest more left k l p u v first is second some m n h =
    some ((one_id prefix b l n left [] p v (sym second.is ∙ second_is prefix a b args rest more k m n p u first is h)).1)

pub ids_are : (prefix a b args rest more left : List ℕ) (k l : ℕ) → BeginsWithId prefix a args k rest → rest ≡ 44 ∷ more → BeginsWithId prefix b more l left → left ≡ [] → AreIds prefix a b args k l
ids_are prefix a b args rest more left k l first is second none = record {
  first_fits = first.fits;
  second_fits = second.fits;
  are = first.is ∙ ap (λ xs. js_string (id_of prefix a k) ++ xs)
      (is ∙ ap (λ xs. 44 ∷ xs) (second.is ∙ (ap (λ xs. js_string (id_of prefix b l) ++ xs) none ∙ append-nil (js_string (id_of prefix b l)))));
}

pub same_ids : (prefix a b args : List ℕ) (k l m n : ℕ) → IsUtf8 prefix → IsUtf8 a → IsUtf8 b → AreIds prefix a b args k l → AreIds prefix a b args m n → (k ≡ m) × (l ≡ n)
same_ids prefix a b args k l m n p u v f g =
    let first : (k ≡ m) × (44 ∷ js_string (id_of prefix b l) ≡ 44 ∷ js_string (id_of prefix b n)) =
    rest_is prefix a b args (44 ∷ js_string (id_of prefix b l)) k m n p u (record { fits = f.first_fits; is = f.are }) g in
    (first.0, (one_id prefix b l n [] [] p v (ap (λ xs. drop 1 xs ++ []) first.1)).0)
