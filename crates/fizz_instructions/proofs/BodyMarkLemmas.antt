-- No `<` stands in a body, and scripts are texts.
use Rattle.std.proofs.Common.{◌≡◌, ◌≢◌, ℕ, zero, suc, ◌-◌, ◌<◌, Bool, true, false, ◌&&◌, not, nat_lt, nat_eq, List, [], ◌∷◌, ◌++◌, length, get_or, refl, sym, ◌∙◌, ap, ⊎_elim, arith, codes}
use Rattle.std.specs.List.{list_all}
use Rattle.std.specs.Str.{IsUtf8}
use Rattle.std.proofs.lemmas.Bool.{cases_lt}
use Rattle.std.proofs.lemmas.Bool.Decides.{nat_tests}
use Rattle.std.proofs.lemmas.Str.{IsUtf8-append, IsUtf8-nil}
use Rattle.std.proofs.Math.ListN.{get_or-append}
use Rattle.std.proofs.Math.Seq.{get_or-append_right, get_or-append_seam}
use Rattle.html_names.specs.JsStrings.{js_string}
use Rattle.html_names.proofs.EscapedPrefixLemmas.{and_both}
use Rattle.html_names.proofs.JsStringsLemmas.{string_utf8}
use Rattle.html_names.proofs.JsStringsMarkLemmas.{string_no_mark}
use Rattle.html_names.proofs.Utf8Lemmas.{AreAscii, utf8_ascii}
use Rattle.fizz_instructions.specs.Bodies.{IsInstruction, arguments_of, body_of, boundary_id, call_of, digest_argument, function_of, placeholder_id, script_of, segment_id}
use Rattle.fizz_instructions.specs.Functions.{name_of, definition_of, complete_boundary_definition, complete_segment_definition, client_render_definition}
use Rattle.fizz_instructions.specs.declared.functions.Function.{Function}
use Rattle.fizz_instructions.specs.declared.functions.Function.TheVariants.{CompleteBoundary, CompleteSegment, ClientRenderBoundary}
use Rattle.fizz_instructions.specs.declared.instruction.Instruction.{Instruction}
use Rattle.fizz_instructions.specs.declared.instruction.Instruction.TheVariants.{Complete, Segment, ClientRender}
use Rattle.fizz_instructions.proofs.ArgumentsLemmas.{b_utf8, s_utf8, p_utf8}
use Rattle.fizz_instructions.proofs.IdsLemmas.{id_utf8}

abbrev HasNoMark : List ℕ → Type 0
HasNoMark xs = (k : ℕ) → get_or xs k 0 ≢ 60

no_mark-append : (xs ys : List ℕ) → HasNoMark xs → HasNoMark ys → HasNoMark (xs ++ ys)
no_mark-append xs ys h g k e =
    ⊎_elim (λ l. h k (sym (get_or-append xs ys 0 k l) ∙ e)) (λ l. g (k - length xs) (sym (get_or-append_right xs ys k 0 l) ∙ e)) (cases_lt k (length xs))

-- ASCII, and no `<`
abbrev is_plain : ℕ → Bool
is_plain b = nat_lt b 128 && not (nat_eq b 60)

plain_ascii : (b : ℕ) → nat_lt b 128 ≡ true → b < 128
plain_ascii b h = grind (arith, nat_tests)

plain_no_mark : (b : ℕ) → not (nat_eq b 60) ≡ true → b ≢ 60
plain_no_mark b h e = grind (arith, nat_tests)

all_ascii : (bs : List ℕ) → list_all is_plain bs ≡ true → AreAscii bs
all_ascii [] h = tt
all_ascii (b ∷ bs) h =
    let both : (is_plain b ≡ true) × (list_all is_plain bs ≡ true) = and_both (is_plain b) (list_all is_plain bs) h in
    (plain_ascii b (and_both (nat_lt b 128) (not (nat_eq b 60)) both.0).0, all_ascii bs both.1)

all_no_mark : (bs : List ℕ) → list_all is_plain bs ≡ true → HasNoMark bs
all_no_mark [] h k e = omega arith
all_no_mark (b ∷ bs) h zero e =
    let both : (is_plain b ≡ true) × (list_all is_plain bs ≡ true) = and_both (is_plain b) (list_all is_plain bs) h in
    plain_no_mark b (and_both (nat_lt b 128) (not (nat_eq b 60)) both.0).1 e
all_no_mark (b ∷ bs) h (suc k) e =
    let both : (is_plain b ≡ true) × (list_all is_plain bs ≡ true) = and_both (is_plain b) (list_all is_plain bs) h in
    all_no_mark bs both.1 k e

text_plain : (f : Function) → list_all is_plain (definition_of f) ≡ true
unfolding complete_boundary_definition complete_segment_definition client_render_definition
text_plain CompleteBoundary = refl
text_plain CompleteSegment = refl
text_plain ClientRenderBoundary = refl

name_plain : (f : Function) → list_all is_plain (name_of f) ≡ true
name_plain CompleteBoundary = refl
name_plain CompleteSegment = refl
name_plain ClientRenderBoundary = refl

-- No `<`

two_no_mark : (a b : List ℕ) → HasNoMark (js_string a ++ 44 ∷ js_string b)
two_no_mark a b = no_mark-append (js_string a) (44 ∷ js_string b) (string_no_mark a) (no_mark-append (44 ∷ []) (js_string b) (all_no_mark (44 ∷ []) refl) (string_no_mark b))

digest_no_mark : (digest : List ℕ) → HasNoMark (digest_argument digest)
digest_no_mark [] = all_no_mark [] refl
digest_no_mark (b ∷ bs) = no_mark-append (44 ∷ []) (js_string (b ∷ bs)) (all_no_mark (44 ∷ []) refl) (string_no_mark (b ∷ bs))

arguments_no_mark : (prefix : List ℕ) (i : Instruction) → HasNoMark (arguments_of prefix i)
arguments_no_mark prefix (Complete b s) = two_no_mark (boundary_id prefix b) (segment_id prefix s)
arguments_no_mark prefix (Segment s) = two_no_mark (segment_id prefix s) (placeholder_id prefix s)
arguments_no_mark prefix (ClientRender b d) = no_mark-append (js_string (boundary_id prefix b)) (digest_argument d) (string_no_mark (boundary_id prefix b)) (digest_no_mark d)

call_no_mark : (prefix : List ℕ) (i : Instruction) → HasNoMark (call_of prefix i)
call_no_mark prefix i =
    let f : Function = function_of i in
    let args : List ℕ = arguments_of prefix i in
    no_mark-append (name_of f) (40 ∷ (args ++ 41 ∷ [])) (all_no_mark (name_of f) (name_plain f))
    (no_mark-append (40 ∷ []) (args ++ 41 ∷ []) (all_no_mark (40 ∷ []) refl) (no_mark-append args (41 ∷ []) (arguments_no_mark prefix i) (all_no_mark (41 ∷ []) refl)))

pub body_no_mark : (prefix : List ℕ) (i : Instruction) (defines : Bool) → HasNoMark (body_of prefix i defines)
body_no_mark prefix i true = no_mark-append (definition_of (function_of i)) (call_of prefix i) (all_no_mark (definition_of (function_of i)) (text_plain (function_of i))) (call_no_mark prefix i)
body_no_mark prefix i false = call_no_mark prefix i

pub body_no_end : (prefix : List ℕ) (i : Instruction) (defines : Bool) (before after : List ℕ) → body_of prefix i defines ≢ before ++ (codes "</script>" ++ after)
body_no_end prefix i defines before after e =
    body_no_mark prefix i defines (length before) (ap (λ xs. get_or xs (length before) 0) e ∙ get_or-append_seam before 60 (codes "/script>" ++ after) 0)

-- UTF-8

plain_utf8 : (bs : List ℕ) → list_all is_plain bs ≡ true → IsUtf8 bs
plain_utf8 bs h = utf8_ascii bs (all_ascii bs h)

two_utf8 : (a b : List ℕ) → IsUtf8 a → IsUtf8 b → IsUtf8 (js_string a ++ 44 ∷ js_string b)
two_utf8 a b u v = IsUtf8-append (js_string a) (44 ∷ js_string b) (string_utf8 a u) (IsUtf8-append (44 ∷ []) (js_string b) (plain_utf8 (44 ∷ []) refl) (string_utf8 b v))

digest_utf8 : (digest : List ℕ) → IsUtf8 digest → IsUtf8 (digest_argument digest)
digest_utf8 [] u = IsUtf8-nil
digest_utf8 (b ∷ bs) u = IsUtf8-append (44 ∷ []) (js_string (b ∷ bs)) (plain_utf8 (44 ∷ []) refl) (string_utf8 (b ∷ bs) u)

arguments_utf8 : (prefix : List ℕ) (i : Instruction) → IsUtf8 prefix → IsInstruction i → IsUtf8 (arguments_of prefix i)
arguments_utf8 prefix (Complete b s) p v = two_utf8 (boundary_id prefix b) (segment_id prefix s) (id_utf8 prefix (codes "B:") b p b_utf8) (id_utf8 prefix (codes "S:") s p s_utf8)
arguments_utf8 prefix (Segment s) p v = two_utf8 (segment_id prefix s) (placeholder_id prefix s) (id_utf8 prefix (codes "S:") s p s_utf8) (id_utf8 prefix (codes "P:") s p p_utf8)
arguments_utf8 prefix (ClientRender b d) p v =
    IsUtf8-append (js_string (boundary_id prefix b)) (digest_argument d) (string_utf8 (boundary_id prefix b) (id_utf8 prefix (codes "B:") b p b_utf8)) (digest_utf8 d v.1)

call_utf8 : (prefix : List ℕ) (i : Instruction) → IsUtf8 prefix → IsInstruction i → IsUtf8 (call_of prefix i)
call_utf8 prefix i p v =
    let f : Function = function_of i in
    let args : List ℕ = arguments_of prefix i in
    IsUtf8-append (name_of f) (40 ∷ (args ++ 41 ∷ [])) (plain_utf8 (name_of f) (name_plain f))
    (IsUtf8-append (40 ∷ []) (args ++ 41 ∷ []) (plain_utf8 (40 ∷ []) refl) (IsUtf8-append args (41 ∷ []) (arguments_utf8 prefix i p v) (plain_utf8 (41 ∷ []) refl)))

body_utf8 : (prefix : List ℕ) (i : Instruction) (defines : Bool) → IsUtf8 prefix → IsInstruction i → IsUtf8 (body_of prefix i defines)
body_utf8 prefix i true p v = IsUtf8-append (definition_of (function_of i)) (call_of prefix i) (plain_utf8 (definition_of (function_of i)) (text_plain (function_of i))) (call_utf8 prefix i p v)
body_utf8 prefix i false p v = call_utf8 prefix i p v

tag_ascii : AreAscii (codes "<script>")
tag_ascii = (omega arith, (omega arith, (omega arith, (omega arith, (omega arith, (omega arith, (omega arith, (omega arith, tt))))))))

end_ascii : AreAscii (codes "</script>")
end_ascii = (omega arith, (omega arith, (omega arith, (omega arith, (omega arith, (omega arith, (omega arith, (omega arith, (omega arith, tt)))))))))

pub script_utf8 : (prefix : List ℕ) (i : Instruction) (defines : Bool) → IsUtf8 prefix → IsInstruction i → IsUtf8 (script_of prefix i defines)
script_utf8 prefix i defines p v =
    IsUtf8-append (codes "<script>") (body_of prefix i defines ++ codes "</script>") (utf8_ascii (codes "<script>") tag_ascii)
    (IsUtf8-append (body_of prefix i defines) (codes "</script>") (body_utf8 prefix i defines p v) (utf8_ascii (codes "</script>") end_ascii))
