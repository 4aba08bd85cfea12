-- Escaping keeps UTF-8, and so does its inverse: both change ASCII bytes alone.
use Rattle.std.proofs.Common.{◌≡◌, ℕ, zero, suc, ◌+◌, ◌<◌, ◌≤◌, List, [], ◌∷◌, ◌++◌, length, get_or, refl, sym, subst, ⊎_elim, arith, append_assoc, length-append}
use Rattle.std.specs.Str.{IsUtf8, IsAscii}
use Rattle.std.proofs.lemmas.Bool.{cases_lt}
use Rattle.std.proofs.lemmas.Str.{IsUtf8-append, IsUtf8-take, IsUtf8-drop, IsUtf8-from_ascii, IsCharBoundary-before_ascii, IsCharBoundary-after_ascii}
use Rattle.std.proofs.Math.Seq.{take-append_seam, drop-append-add, get_or-append_seam}
use Rattle.html_names.specs.Escape.{spelling_of, escape_of}
use Rattle.html_names.proofs.EscapeLemmas.{each_byte, plain_spelling}

abbrev pub AreAscii : List ℕ → Type 0
AreAscii [] = Unit {0}
AreAscii (b ∷ bs) = (b < 128) × AreAscii bs

-- A text may be cut before and after an ASCII byte.
pub cut_at_ascii : (front : List ℕ) (b : ℕ) (more : List ℕ) → b < 128 → IsUtf8 (front ++ b ∷ more) → IsUtf8 front × IsUtf8 more
cut_at_ascii front b more l u =
    let all : List ℕ = front ++ b ∷ more in
    let i : ℕ = length front in
    let inside : i < length all = omega (arith, length-append front (b ∷ more)) in
    let ascii : get_or all i 0 < 128 = rw (get_or-append_seam front b more 0) l in (
      subst IsUtf8 (take-append_seam front (b ∷ more)) (IsUtf8-take all i u (IsCharBoundary-before_ascii all i inside ascii)),
      subst IsUtf8 (drop-append-add front (b ∷ more) 1) (IsUtf8-drop all (i + 1) u (IsCharBoundary-after_ascii all i u inside ascii)),
    )

pub utf8_after : (bs more : List ℕ) → AreAscii bs → IsUtf8 (bs ++ more) → IsUtf8 more
utf8_after [] more h u = u
utf8_after (b ∷ bs) more h u = utf8_after bs more h.1 ((cut_at_ascii [] b (bs ++ more) h.0 u).1)

ascii_at : (bs : List ℕ) → AreAscii bs → IsAscii bs
ascii_at [] h i = omega arith
ascii_at (b ∷ bs) h zero = h.0
ascii_at (b ∷ bs) h (suc i) = ascii_at bs h.1 i

pub utf8_ascii : (bs : List ℕ) → AreAscii bs → IsUtf8 bs
utf8_ascii bs h = IsUtf8-from_ascii bs (ascii_at bs h)

-- The same around several ASCII bytes.
pub cut_around : (front : List ℕ) (b : ℕ) (bs more : List ℕ) → AreAscii (b ∷ bs) → IsUtf8 (front ++ (b ∷ bs ++ more)) → IsUtf8 front × IsUtf8 more
cut_around front b bs more h u =
    let cut : IsUtf8 front × IsUtf8 (bs ++ more) = cut_at_ascii front b (bs ++ more) h.0 u in
    (cut.0, utf8_after bs more h.1 cut.1)

-- A byte from 128 on is written as itself, and the spelling of another is ASCII.
high_spelling : (b : ℕ) → 128 ≤ b → spelling_of b ≡ b ∷ []
high_spelling b h = plain_spelling b (λ e. omega arith) (λ e. omega arith) (λ e. omega arith) (λ e. omega arith) (λ e. omega arith)

-- The spelling of an ASCII byte is a byte and others, all ASCII.
record IsAsciiSpelling (b : ℕ) : Type 0 where
  first : ℕ
  rest : List ℕ
  is : spelling_of b ≡ first ∷ rest
  ascii : AreAscii (first ∷ rest)

low_spelling : (b : ℕ) → b < 128 → IsAsciiSpelling b
low_spelling = each_byte (λ b. b < 128 → IsAsciiSpelling b)
    (λ l. record { first = 38; rest = 113 ∷ 117 ∷ 111 ∷ 116 ∷ 59 ∷ []; is = refl; ascii = (omega arith, (omega arith, (omega arith, (omega arith, (omega arith, (omega arith, tt)))))) })
    (λ l. record { first = 38; rest = 97 ∷ 109 ∷ 112 ∷ 59 ∷ []; is = refl; ascii = (omega arith, (omega arith, (omega arith, (omega arith, (omega arith, tt))))) })
    (λ l. record { first = 38; rest = 35 ∷ 120 ∷ 50 ∷ 55 ∷ 59 ∷ []; is = refl; ascii = (omega arith, (omega arith, (omega arith, (omega arith, (omega arith, (omega arith, tt)))))) })
    (λ l. record { first = 38; rest = 108 ∷ 116 ∷ 59 ∷ []; is = refl; ascii = (omega arith, (omega arith, (omega arith, (omega arith, tt)))) })
    (λ l. record { first = 38; rest = 103 ∷ 116 ∷ 59 ∷ []; is = refl; ascii = (omega arith, (omega arith, (omega arith, (omega arith, tt)))) })
    (λ b n34 n38 n39 n60 n62 l. record { first = b; rest = []; is = plain_spelling b n34 n38 n39 n60 n62; ascii = (l, tt) })

-- Bytes that stand before the text are carried along, so that a character of several bytes may be cut.
escaped_after : (front text : List ℕ) → IsUtf8 (front ++ text) → IsUtf8 (front ++ escape_of text)
escaped_after front [] u = u
escaped_after front (b ∷ text) u =
    let low : b < 128 → IsUtf8 (front ++ escape_of (b ∷ text)) = λ l.
    let cut : IsUtf8 front × IsUtf8 text = cut_at_ascii front b text l u in
    let s : IsAsciiSpelling b = low_spelling b l in
    IsUtf8-append front _ cut.0 (IsUtf8-append (spelling_of b) _ (subst IsUtf8 (sym s.is) (utf8_ascii _ s.ascii)) (escaped_after [] text cut.1)) in
    let high : 128 ≤ b → IsUtf8 (front ++ escape_of (b ∷ text)) = λ h.
    let more : IsUtf8 (front ++ b ∷ [] ++ escape_of text) = escaped_after (front ++ b ∷ []) text (subst IsUtf8 (sym (append_assoc front (b ∷ []) text)) u) in
    subst (λ bs. IsUtf8 (front ++ (bs ++ escape_of text))) (sym (high_spelling b h)) (subst IsUtf8 (append_assoc front (b ∷ []) (escape_of text)) more) in
    ⊎_elim low high (cases_lt b 128)

unescaped_after : (front text : List ℕ) → IsUtf8 (front ++ escape_of text) → IsUtf8 (front ++ text)
unescaped_after front [] u = u
unescaped_after front (b ∷ text) u =
    let low : b < 128 → IsUtf8 (front ++ b ∷ text) = λ l.
    let s : IsAsciiSpelling b = low_spelling b l in
    let cut : IsUtf8 front × IsUtf8 (escape_of text) = cut_around front s.first s.rest (escape_of text) s.ascii (subst (λ bs. IsUtf8 (front ++ (bs ++ escape_of text))) s.is u) in
    IsUtf8-append front _ cut.0 (IsUtf8-append (b ∷ []) text (utf8_ascii (b ∷ []) (l, tt)) (unescaped_after [] text cut.1)) in
    let high : 128 ≤ b → IsUtf8 (front ++ b ∷ text) = λ h.
    let spelled : IsUtf8 (front ++ (b ∷ [] ++ escape_of text)) = subst (λ bs. IsUtf8 (front ++ (bs ++ escape_of text))) (high_spelling b h) u in
    let more : IsUtf8 (front ++ b ∷ [] ++ text) = unescaped_after (front ++ b ∷ []) text (subst IsUtf8 (sym (append_assoc front (b ∷ []) (escape_of text))) spelled) in
    subst IsUtf8 (append_assoc front (b ∷ []) text) more in
    ⊎_elim low high (cases_lt b 128)

pub escaped_utf8 : (text : List ℕ) → IsUtf8 text → IsUtf8 (escape_of text)
escaped_utf8 text u = escaped_after [] text u

pub unescaped_utf8 : (text : List ℕ) → IsUtf8 (escape_of text) → IsUtf8 text
unescaped_utf8 text u = unescaped_after [] text u
