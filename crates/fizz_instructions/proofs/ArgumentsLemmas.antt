-- The arguments of instructions: each list of arguments is one instruction's.
use Rattle.std.proofs.Common.{◌≡◌, ◌≢◌, ℕ, ◌-◌, ◌<◌, ◌≤◌, List, [], ◌∷◌, ◌++◌, drop, length, refl, sym, ◌∙◌, ap, arith, append-nil, length-drop}
use Rattle.std.specs.Str.{IsUtf8}
use Rattle.std.proofs.lemmas.List.{nil_from_length}
use Rattle.html_names.specs.JsStrings.{js_string, BeginsNoString, BeginsWithString}
use Rattle.html_names.proofs.JsStringsLemmas.{one_string}
use Rattle.html_names.proofs.Utf8Lemmas.{utf8_ascii}
use Rattle.fizz_instructions.specs.Bodies.{IsInstruction, arguments_of, digest_argument, function_of, id_of}
use Rattle.fizz_instructions.specs.Reading.{AreArgumentsOf, AreIds, AreNoArguments, AreNoIds, BeginsNoId, BeginsWithId}
use Rattle.fizz_instructions.specs.declared.functions.Function.TheVariants.{CompleteBoundary, CompleteSegment, ClientRenderBoundary}
use Rattle.fizz_instructions.specs.declared.instruction.Instruction.{Instruction}
use Rattle.fizz_instructions.specs.declared.instruction.Instruction.TheVariants.{Complete, Segment, ClientRender}
use Rattle.fizz_instructions.proofs.IdsLemmas.{one_id, same_ids}
use Rattle.std.proofs.Common.{codes}

pub b_utf8 : IsUtf8 (codes "B:")
b_utf8 = utf8_ascii (66 ∷ 58 ∷ []) (omega arith, (omega arith, tt))

pub s_utf8 : IsUtf8 (codes "S:")
s_utf8 = utf8_ascii (83 ∷ 58 ∷ []) (omega arith, (omega arith, tt))

pub p_utf8 : IsUtf8 (codes "P:")
p_utf8 = utf8_ascii (80 ∷ 58 ∷ []) (omega arith, (omega arith, tt))

-- Digests

pub no_digest_comma : (a : List ℕ) → a ≢ [] → ((more : List ℕ) → a ≢ 44 ∷ more) → (digest : List ℕ) → IsUtf8 digest → a ≢ digest_argument digest
no_digest_comma a some none [] u e = some e
no_digest_comma a some none (b ∷ bs) u e = none (js_string (b ∷ bs)) e

string_is : (a s : List ℕ) (b : ℕ) (bs : List ℕ) → a ≡ 44 ∷ s → a ≡ 44 ∷ js_string (b ∷ bs) → s ≡ js_string (b ∷ bs) ++ []
string_is a s b bs is e = ap (drop 1) (sym is ∙ e) ∙ sym (append-nil (js_string (b ∷ bs)))

pub no_digest_string : (a s : List ℕ) → a ≡ 44 ∷ s → BeginsNoString s → (digest : List ℕ) → IsUtf8 digest → a ≢ digest_argument digest
no_digest_string a s is none [] u e = let f : 44 ∷ s ≡ [] = sym is ∙ e in cc
no_digest_string a s is none (b ∷ bs) u e = none (b ∷ bs) [] u (string_is a s b bs is e)

same_digest : (a s text : List ℕ) (len b : ℕ) (bs : List ℕ) → a ≡ 44 ∷ s → BeginsWithString s text len → IsUtf8 (b ∷ bs) → a ≡ 44 ∷ js_string (b ∷ bs) → (text ≡ b ∷ bs) × (drop len s ≡ [])
same_digest a s text len b bs is front u e = one_string text (b ∷ bs) (drop len s) [] front.utf8 u (sym front.is ∙ string_is a s b bs is e)

pub no_empty_digest : (a s text : List ℕ) (len : ℕ) → a ≡ 44 ∷ s → BeginsWithString s text len → text ≡ [] → (digest : List ℕ) → IsUtf8 digest → a ≢ digest_argument digest
no_empty_digest a s text len is front none [] u e = let f : 44 ∷ s ≡ [] = sym is ∙ e in cc
no_empty_digest a s text len is front none (b ∷ bs) u e = let f : [] ≡ b ∷ bs = sym none ∙ (same_digest a s text len b bs is front u e).0 in cc

pub no_longer_digest : (a s text : List ℕ) (len : ℕ) → a ≡ 44 ∷ s → BeginsWithString s text len → len < length s → (digest : List ℕ) → IsUtf8 digest → a ≢ digest_argument digest
no_longer_digest a s text len is front more [] u e = let f : 44 ∷ s ≡ [] = sym is ∙ e in cc
no_longer_digest a s text len is front more (b ∷ bs) u e =
    let size : length s - len ≡ 0 = sym (length-drop len s) ∙ ap length ((same_digest a s text len b bs is front u e).1) in
    omega arith

pub digest_is : (a s text : List ℕ) (len : ℕ) → a ≡ 44 ∷ s → BeginsWithString s text len → text ≢ [] → length s ≤ len → a ≡ digest_argument text
digest_is a s [] len is front some whole = absurd (some refl)
digest_is a s (b ∷ bs) len is front some whole =
    let size : length s - len ≡ 0 = omega arith in
    let none : drop len s ≡ [] = nil_from_length (drop len s) (length-drop len s ∙ size) in
    is ∙ ap (λ xs. 44 ∷ xs) (front.is ∙ (ap (λ xs. js_string (b ∷ bs) ++ xs) none ∙ append-nil (js_string (b ∷ bs))))

one_digest : (d e : List ℕ) → IsUtf8 d → IsUtf8 e → digest_argument d ≡ digest_argument e → d ≡ e
one_digest [] [] u v h = refl
one_digest [] (e ∷ es) u v h = cc
one_digest (d ∷ ds) [] u v h = cc
one_digest (d ∷ ds) (e ∷ es) u v h = (one_string (d ∷ ds) (e ∷ es) [] [] u v (ap (λ xs. drop 1 xs ++ []) h)).0

-- `$RC`

pub no_complete : (prefix args : List ℕ) → AreNoIds prefix (codes "B:") (codes "S:") args → AreNoArguments prefix args CompleteBoundary
no_complete prefix args none (Complete b s) h = none b s (record { first_fits = h.valid.0; second_fits = h.valid.1; are = h.is })
no_complete prefix args none (Segment s) h = let e : CompleteSegment ≡ CompleteBoundary = h.calls in cc
no_complete prefix args none (ClientRender b d) h = let e : ClientRenderBoundary ≡ CompleteBoundary = h.calls in cc

pub complete_is : (prefix args : List ℕ) (b s : ℕ) → AreIds prefix (codes "B:") (codes "S:") args b s → AreArgumentsOf prefix args CompleteBoundary (Complete b s)
complete_is prefix args b s h = record { calls = refl; valid = (h.first_fits, h.second_fits); is = h.are }

-- `$RS`

pub no_segment : (prefix args : List ℕ) → AreNoIds prefix (codes "S:") (codes "P:") args → AreNoArguments prefix args CompleteSegment
no_segment prefix args none (Complete b s) h = let e : CompleteBoundary ≡ CompleteSegment = h.calls in cc
no_segment prefix args none (Segment s) h = none s s (record { first_fits = h.valid; second_fits = h.valid; are = h.is })
no_segment prefix args none (ClientRender b d) h = let e : ClientRenderBoundary ≡ CompleteSegment = h.calls in cc

pub two_numbers : (prefix args : List ℕ) (m n : ℕ) → IsUtf8 prefix → AreIds prefix (codes "S:") (codes "P:") args m n → m ≢ n → AreNoArguments prefix args CompleteSegment
two_numbers prefix args m n p ids apart (Complete b s) h = let e : CompleteBoundary ≡ CompleteSegment = h.calls in cc
two_numbers prefix args m n p ids apart (Segment s) h =
    let same : (m ≡ s) × (n ≡ s) = same_ids prefix (codes "S:") (codes "P:") args m n s s p s_utf8 p_utf8 ids (record { first_fits = h.valid; second_fits = h.valid; are = h.is }) in
    apart (same.0 ∙ sym same.1)
two_numbers prefix args m n p ids apart (ClientRender b d) h = let e : ClientRenderBoundary ≡ CompleteSegment = h.calls in cc

pub segment_is : (prefix args : List ℕ) (m n : ℕ) → AreIds prefix (codes "S:") (codes "P:") args m n → m ≡ n → AreArgumentsOf prefix args CompleteSegment (Segment m)
segment_is prefix args m n h e = record {
  calls = refl;
  valid = h.first_fits;
  is = h.are ∙ ap (λ k. js_string (id_of prefix (codes "S:") m) ++ 44 ∷ js_string (id_of prefix (codes "P:") k)) (sym e);
}

-- `$RX`

pub no_boundary : (prefix args : List ℕ) → BeginsNoId prefix (codes "B:") args → AreNoArguments prefix args ClientRenderBoundary
no_boundary prefix args none (Complete b s) h = let e : CompleteBoundary ≡ ClientRenderBoundary = h.calls in cc
no_boundary prefix args none (Segment s) h = let e : CompleteSegment ≡ ClientRenderBoundary = h.calls in cc
no_boundary prefix args none (ClientRender b d) h = none b (digest_argument d) (record { fits = h.valid.0; is = h.is })

pub no_digest : (prefix args rest : List ℕ) (n : ℕ) → IsUtf8 prefix → BeginsWithId prefix (codes "B:") args n rest → ((digest : List ℕ) → IsUtf8 digest → rest ≢ digest_argument digest) → AreNoArguments prefix args ClientRenderBoundary
no_digest prefix args rest n p first none (Complete b s) h = let e : CompleteBoundary ≡ ClientRenderBoundary = h.calls in cc
no_digest prefix args rest n p first none (Segment s) h = let e : CompleteSegment ≡ ClientRenderBoundary = h.calls in cc
no_digest prefix args rest n p first none (ClientRender b d) h =
    none d h.valid.1 ((one_id prefix (codes "B:") n b rest (digest_argument d) p b_utf8 (sym first.is ∙ h.is)).1)

pub client_render_is : (prefix args rest digest : List ℕ) (n : ℕ) → BeginsWithId prefix (codes "B:") args n rest → IsUtf8 digest → rest ≡ digest_argument digest → AreArgumentsOf prefix args ClientRenderBoundary (ClientRender n digest)
client_render_is prefix args rest digest n first u e = record {
  calls = refl;
  valid = (first.fits, u);
  is = first.is ∙ ap (λ xs. js_string (id_of prefix (codes "B:") n) ++ xs) e;
}

-- Arguments are one instruction's.
pub one_instruction : (prefix : List ℕ) (i j : Instruction) → IsUtf8 prefix → IsInstruction i → IsInstruction j → function_of i ≡ function_of j → arguments_of prefix i ≡ arguments_of prefix j → i ≡ j
one_instruction prefix (Complete b s) (Complete c t) p u v f e =
    let same : (b ≡ c) × (s ≡ t) =
    same_ids prefix (codes "B:") (codes "S:") (arguments_of prefix (Complete c t)) b s c t p b_utf8 s_utf8
    (record { first_fits = u.0; second_fits = u.1; are = sym e }) (record { first_fits = v.0; second_fits = v.1; are = refl }) in
    cc (same.0, same.1)
one_instruction prefix (Complete b s) (Segment t) p u v f e = cc
one_instruction prefix (Complete b s) (ClientRender c d) p u v f e = cc
one_instruction prefix (Segment s) (Complete c t) p u v f e = cc
one_instruction prefix (Segment s) (Segment t) p u v f e =
    let same : (s ≡ t) × (s ≡ t) =
    same_ids prefix (codes "S:") (codes "P:") (arguments_of prefix (Segment t)) s s t t p s_utf8 p_utf8
    (record { first_fits = u; second_fits = u; are = sym e }) (record { first_fits = v; second_fits = v; are = refl }) in
    cc (same.0, same.1)
one_instruction prefix (Segment s) (ClientRender c d) p u v f e = cc
one_instruction prefix (ClientRender b d) (Complete c t) p u v f e = cc
one_instruction prefix (ClientRender b d) (Segment t) p u v f e = cc
one_instruction prefix (ClientRender b d) (ClientRender c g) p u v f e =
    let same : (b ≡ c) × (digest_argument d ≡ digest_argument g) = one_id prefix (codes "B:") b c (digest_argument d) (digest_argument g) p b_utf8 e in
    let digests : d ≡ g = one_digest d g u.1 v.1 same.1 in
    cc (same.0, digests)
