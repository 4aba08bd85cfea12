-- What fits a mode is a token that has begun.
use Rattle.std.proofs.Common.{◌≡◌, ◌≢◌, ℕ, Bool, true, ◌⊎◌, inl, inr, Some, None, List, [], ◌∷◌, ◌++◌, length, codes, refl, sym, ◌∙◌, ap, ⊎_elim, arith, append-nil, append_assoc, length-append}
use Rattle.std.specs.Str.{bytes_eq}
use Rattle.std.proofs.lemmas.Bool.{or_cases}
use Rattle.std.proofs.lemmas.Slice.Eq.{bytes_eq-Decides}
use Rattle.std.proofs.lemmas.Str.{IsUtf8-nil}
use Rattle.fizz_text.specs.declared.attribute.Attr.{Attr}
use Rattle.html_names.specs.Escape.{escape_of}
use Rattle.html_read.specs.declared.token.Token.TheVariants as toks
use Rattle.html_read.specs.declared.place.Place.{Place}
use Rattle.html_read.specs.declared.machine.Mode.{Mode}
use Rattle.html_read.specs.declared.machine.Mode.TheVariants.{Text, Name, EndName, Comment, Script, Space, Attribute, Equals, Value, Close, Slash}
use Rattle.html_names.specs.Printing.{attribute_spelling}
use Rattle.html_read.specs.Tokens.{script_end}
use Rattle.html_read.specs.Faults.{IsBegun}
use Rattle.html_read.specs.Machine.{is_word, tag_words, start_words, comment_words}
use Rattle.html_read.proofs.WordLemmas.{none_true, begins_gives, tag_name_is, tag_of_flag, void_of_flag}
use Rattle.html_read.proofs.HasRunLemmas.{HasRun, Completes, run_completes}
use Rattle.html_read.proofs.FitsLemmas.{Fits, HasTag, opening, more_attributes, IsSaid, comment_word, no_script_end, InName, InEndName, InComment, InScript, InSpace, InAttribute, InEquals, InValue, InClose, InSlash}

append_some : (xs ys : List ℕ) (b : ℕ) → xs ++ b ∷ ys ≢ []
append_some xs ys b e = let n : length (xs ++ b ∷ ys) ≡ 0 = ap length e in omega (arith, length-append xs (b ∷ ys))

text_begun : (p : Place) (seen : List ℕ) → HasRun 0 p seen → (seen ≡ []) ⊎ IsBegun seen
text_begun p [] h = inl refl
text_begun p (s ∷ seen) h =
    let c : Completes (s ∷ seen) = run_completes 0 p (s ∷ seen) h in
    let some : c.text ≢ [] = λ e. append_some [] (seen ++ c.more) s (c.is ∙ ap escape_of e) in
    inr (c.more, toks.Text c.text 0, (some, c.utf8), c.is, inl refl)

-- A start tag whose front is there.
start_begun : (v : Bool) (front seen more : List ℕ) → HasTag v front → seen ++ more ≡ front ++ codes ">" → more ≢ [] → IsBegun seen
start_begun v front seen more h e n =
    (more, toks.Start h.name h.attributes 0, (tag_of_flag h.name v h.flag, h.are), e ∙ ap (λ f. f ++ codes ">") h.is, inr n)

name_begun : (seen : List ℕ) → InName seen → IsBegun seen
name_begun seen h =
    let g : (rest : List ℕ) × (is_word start_words (h.name ++ rest) ≡ true) = begins_gives start_words h.name h.begins in
    let script : bytes_eq (codes "script") (h.name ++ g.0) ≡ true → IsBegun seen = λ e.
    let is : codes "script" ≡ h.name ++ g.0 = (bytes_eq-Decides (codes "script") (h.name ++ g.0)).0 e in (
      g.0 ++ 62 ∷ script_end,
      toks.Script [] 0,
      no_script_end,
      ap (λ s. s ++ (g.0 ++ 62 ∷ script_end)) h.is ∙ (ap (λ x. 60 ∷ x) (sym (append_assoc h.name g.0 (62 ∷ script_end))) ∙ ap (λ x. 60 ∷ x ++ 62 ∷ script_end) (sym is)),
      inr (append_some g.0 script_end 62),
    ) in
    let tag : is_word tag_words (h.name ++ g.0) ≡ true → IsBegun seen = λ w. (
      g.0 ++ codes ">",
      toks.Start (h.name ++ g.0) [] 0,
      (tag_name_is (h.name ++ g.0) ∙ w, tt),
      ap (λ s. s ++ (g.0 ++ codes ">")) h.is ∙ (ap (λ x. 60 ∷ x) (sym (append_assoc h.name g.0 (codes ">"))) ∙ ap (λ x. 60 ∷ x ++ codes ">") (sym (append-nil (h.name ++ g.0)))),
      inr (append_some g.0 [] 62),
    ) in
    ⊎_elim script tag (or_cases _ _ g.1)

end_begun : (seen : List ℕ) → InEndName seen → IsBegun seen
end_begun seen h =
    let g : (rest : List ℕ) × (is_word tag_words (h.name ++ rest) ≡ true) = begins_gives tag_words h.name h.begins in (
      g.0 ++ codes ">",
      toks.End (h.name ++ g.0) 0,
      tag_name_is (h.name ++ g.0) ∙ g.1,
      ap (λ s. s ++ (g.0 ++ codes ">")) h.is ∙ ap (λ x. 60 ∷ 47 ∷ x) (sym (append_assoc h.name g.0 (codes ">"))),
      inr (append_some g.0 [] 62),
    )

comment_begun : (seen : List ℕ) → InComment seen → IsBegun seen
comment_begun seen h =
    let g : (rest : List ℕ) × (is_word comment_words (h.word ++ rest) ≡ true) = begins_gives comment_words h.word h.begins in
    let s : IsSaid (h.word ++ g.0) = comment_word (h.word ++ g.0) g.1 in
    let more : g.0 ≢ [] = λ e. none_true (sym h.open_still ∙ (ap (is_word comment_words) (sym (append-nil h.word) ∙ ap (λ x. h.word ++ x) (sym e)) ∙ g.1)) in
    (g.0, toks.Comment s.which 0, tt, ap (λ x. x ++ g.0) h.is ∙ ap (λ x. 60 ∷ 33 ∷ x) s.is, inr more)

script_begun : (seen : List ℕ) → InScript seen → IsBegun seen
script_begun seen h = (script_end, toks.Script h.body 0, h.fine, ap (λ s. s ++ script_end) h.is, inr (append_some [] (codes "/script>") 60))

space_begun : (v : Bool) (seen : List ℕ) → InSpace v seen → IsBegun seen
space_begun v seen h =
    let a : Attr = record { name = codes "hidden"; value = None } in
    start_begun v (h.front ++ attribute_spelling a) seen (codes "hidden>") (more_attributes v h.front a h.tag ((refl, refl), refl))
    (ap (λ s. s ++ codes "hidden>") h.is ∙ (append_assoc h.front (32 ∷ []) (codes "hidden>") ∙ sym (append_assoc h.front (codes " hidden") (codes ">")))) (append_some [] (codes "idden>") 104)

attribute_begun : (v : Bool) (start : ℕ) (seen : List ℕ) → InAttribute v start seen → IsBegun seen
attribute_begun v start seen h =
    let a : Attr = record { name = h.name; value = Some [] } in
    start_begun v (h.front ++ attribute_spelling a) seen (codes "=\"\">") (more_attributes v h.front a h.tag (h.named, IsUtf8-nil))
    (ap (λ s. s ++ codes "=\"\">") h.is ∙ (append_assoc h.front (32 ∷ h.name) (codes "=\"\">") ∙ (ap (λ x. h.front ++ x) (sym (append_assoc (32 ∷ h.name) (codes "=\"\"") (codes ">"))) ∙ sym (append_assoc h.front (32 ∷ h.name ++ codes "=\"\"") (codes ">")))))
    (append_some [] (codes "\"\">") 61)

equals_begun : (v : Bool) (seen : List ℕ) → InEquals v seen → IsBegun seen
equals_begun v seen h =
    let a : Attr = record { name = h.name; value = Some [] } in
    start_begun v (h.front ++ attribute_spelling a) seen (codes "\"\">") (more_attributes v h.front a h.tag (h.named, IsUtf8-nil))
    (ap (λ s. s ++ codes "\"\">") h.is ∙ (append_assoc h.front (32 ∷ h.name ++ 61 ∷ []) (codes "\"\">") ∙ (ap (λ x. h.front ++ x) (append_assoc (32 ∷ h.name) (61 ∷ []) (codes "\"\">"))
    ∙ (ap (λ x. h.front ++ x) (sym (append_assoc (32 ∷ h.name) (codes "=\"\"") (codes ">"))) ∙ sym (append_assoc h.front (32 ∷ h.name ++ codes "=\"\"") (codes ">"))))))
    (append_some [] (codes "\">") 34)

value_begun : (v : Bool) (p : Place) (seen : List ℕ) → InValue v p seen → IsBegun seen
value_begun v p seen h =
    let c : Completes h.run = run_completes (length (opening h.front h.name)) p h.run h.has in
    let a : Attr = record { name = h.name; value = Some c.text } in
    let lead : List ℕ = 32 ∷ h.name ++ 61 ∷ 34 ∷ [] in
    let written : lead ++ (escape_of c.text ++ codes "\"") ≡ attribute_spelling a = append_assoc (32 ∷ h.name) (codes "=\"") (escape_of c.text ++ codes "\"") in
    start_begun v (h.front ++ attribute_spelling a) seen (c.more ++ codes "\">") (more_attributes v h.front a h.tag (h.named, c.utf8))
    (ap (λ s. s ++ (c.more ++ codes "\">")) h.is ∙ (append_assoc (opening h.front h.name) h.run (c.more ++ codes "\">") ∙ (ap (λ x. opening h.front h.name ++ x) (sym (append_assoc h.run c.more (codes "\">")) ∙ (ap (λ x. x ++ codes "\">") c.is ∙ sym (append_assoc (escape_of c.text) (codes "\"") (codes ">"))))
    ∙ (append_assoc h.front lead ((escape_of c.text ++ codes "\"") ++ codes ">") ∙ (ap (λ x. h.front ++ x) (sym (append_assoc lead (escape_of c.text ++ codes "\"") (codes ">")) ∙ ap (λ x. x ++ codes ">") written)
    ∙ sym (append_assoc h.front (attribute_spelling a) (codes ">"))))))) (append_some c.more (codes ">") 34)

close_begun : (v : Bool) (seen : List ℕ) → InClose v seen → IsBegun seen
close_begun v seen h =
    start_begun v (h.front ++ attribute_spelling h.attribute) seen (codes ">") (more_attributes v h.front h.attribute h.tag h.fine) (ap (λ s. s ++ codes ">") h.is) (append_some [] [] 62)

slash_begun : (seen : List ℕ) → InSlash seen → IsBegun seen
slash_begun seen h = (
  codes ">",
  toks.Void h.tag.name h.tag.attributes 0,
  (void_of_flag h.tag.name h.tag.flag, h.tag.are),
  ap (λ s. s ++ codes ">") h.is ∙ (append_assoc h.front (47 ∷ []) (codes ">") ∙ ap (λ f. f ++ codes "/>") h.tag.is),
  inr (append_some [] [] 62),
)

pub fits_begun : (mode : Mode) (seen : List ℕ) → Fits mode seen → (seen ≡ []) ⊎ IsBegun seen
fits_begun (Text p) seen h = text_begun p seen h
fits_begun Name seen h = inr (name_begun seen h)
fits_begun EndName seen h = inr (end_begun seen h)
fits_begun Comment seen h = inr (comment_begun seen h)
fits_begun Script seen h = inr (script_begun seen h)
fits_begun (Space v) seen h = inr (space_begun v seen h)
fits_begun (Attribute v start) seen h = inr (attribute_begun v start seen h)
fits_begun (Equals v) seen h = inr (equals_begun v seen h)
fits_begun (Value v p) seen h = inr (value_begun v p seen h)
fits_begun (Close v) seen h = inr (close_begun v seen h)
fits_begun Slash seen h = inr (slash_begun seen h)
