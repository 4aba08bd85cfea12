-- Whether a body is some instruction's: numbers and digests have bounds, so that all of them can be tried.
use Rattle.std.proofs.Common.{◌≡◌, ◌≢◌, ℕ, zero, suc, ◌^◌, ◌<◌, ◌≤◌, ◌⊎◌, inl, inr, Bool, true, false, if◌then◌else◌, List, [], ◌∷◌, ◌++◌, Option, Some, None, length, codes, refl, sym, ◌∙◌, ap, subst, arith, length-append}
use Rattle.std.specs.Char.{IsScalar, encode_utf8}
use Rattle.std.specs.List.{flat_map}
use Rattle.std.specs.Str.{chars, encode_utf8_all, is_utf8}
use Rattle.std.proofs.Math.Utf8.{scalar, scalar_cases, scalars}
use Rattle.std.proofs.lemmas.Bool.{cases_Bool, cases_eq, cases_lt, true≢false}
use Rattle.std.proofs.lemmas.Str.{IsUtf8-from_is_utf8, is_utf8-from_IsUtf8, chars-nil, encodes-chars, scalars-chars, len_utf8_bounds, length-encode}
use Rattle.html_names.proofs.EscapedPrefixLemmas.{and_both}
use Rattle.html_names.specs.JsStrings.{char_spelling, coded_escape, is_coded, js_string, short_letter, spelling_by}
use Rattle.fizz_instructions.specs.Bodies.{body_of, boundary_id, digest_argument}
use Rattle.fizz_instructions.specs.Functions.{definition_of, name_of}
use Rattle.fizz_instructions.specs.declared.functions.Function.TheVariants.{ClientRenderBoundary}
use Rattle.fizz_instructions.specs.Reading.{HasInstruction, IsBodyOf, IsNoBody}
use Rattle.fizz_instructions.specs.declared.instruction.Instruction.{Instruction}
use Rattle.fizz_instructions.specs.declared.instruction.Instruction.TheVariants.{Complete, Segment, ClientRender}

-- Of the numbers below a bound one will do, or none.
below_or_none : (Yes No : ℕ → Type 0) → ((n : ℕ) → Yes n ⊎ No n) → (bound : ℕ) → ((n : ℕ) × (n < bound) × Yes n) ⊎ ((n : ℕ) → n < bound → No n)
below_or_none Yes No decide zero = inr (λ n h. absurd (omega arith))
below_or_none Yes No decide (suc bound) = next (below_or_none Yes No decide bound) (decide bound) where
  next : ((n : ℕ) × (n < bound) × Yes n) ⊎ ((n : ℕ) → n < bound → No n) → Yes bound ⊎ No bound
      → ((n : ℕ) × (n < suc bound) × Yes n) ⊎ ((n : ℕ) → n < suc bound → No n)
  next (inl found) last = inl (found.0, omega (arith, found.1), found.2)
  next (inr none) (inl holds) = inl (bound, omega arith, holds)
  next (inr none) (inr not) = inr (λ n h. elim (cases_lt n bound) [
    | inl lower ↦ none n lower
    | inr least ↦ let same : bound ≡ n = omega arith in subst No same not
  ])

abbrev AreBelow : ℕ → List ℕ → Type 0
AreBelow bound [] = Unit {0}
AreBelow bound (c ∷ cs) = (c < bound) × AreBelow bound cs

abbrev NoneOf : ℕ → ℕ → (List ℕ → Type 0) → Type 0
NoneOf bound len P = (cs : List ℕ) → length cs ≤ len → AreBelow bound cs → ¬ P cs

none_longer : (bound len : ℕ) (P : List ℕ → Type 0) → ¬ P [] → ((c : ℕ) → c < bound → NoneOf bound len (λ cs. P (c ∷ cs))) → NoneOf bound (suc len) P
none_longer bound len P nil more [] h b = nil
none_longer bound len P nil more (c ∷ cs) h b = more c b.0 cs (omega arith) b.1

-- Of the lists of such numbers, up to a length.
list_or_none : (bound len : ℕ) (P : List ℕ → Type 0) → ((cs : List ℕ) → P cs ⊎ ¬ P cs) → ((cs : List ℕ) × P cs) ⊎ NoneOf bound len P
list_or_none bound zero P decide = next (decide []) where
  none : ¬ P [] → NoneOf bound 0 P
  none not [] h b = not
  none not (c ∷ cs) h b = absurd (omega arith)

  next : P [] ⊎ ¬ P [] → ((cs : List ℕ) × P cs) ⊎ NoneOf bound 0 P
  next (inl holds) = inl ([], holds)
  next (inr not) = inr (none not)
list_or_none bound (suc len) P decide =
    next (decide [])
    (below_or_none (λ c. (cs : List ℕ) × P (c ∷ cs)) (λ c. NoneOf bound len (λ cs. P (c ∷ cs)))
    (λ c. list_or_none bound len (λ cs. P (c ∷ cs)) (λ cs. decide (c ∷ cs))) bound) where
      next : P [] ⊎ ¬ P [] → ((c : ℕ) × (c < bound) × ((cs : List ℕ) × P (c ∷ cs))) ⊎ ((c : ℕ) → c < bound → NoneOf bound len (λ cs. P (c ∷ cs)))
          → ((cs : List ℕ) × P cs) ⊎ NoneOf bound (suc len) P
      next (inl holds) more = inl ([], holds)
      next (inr not) (inl found) = inl (found.0 ∷ found.2.0, found.2.1)
      next (inr not) (inr none) = inr (none_longer bound len P not none)

same_bytes : (a b : List ℕ) → (a ≡ b) ⊎ (a ≢ b)
same_bytes [] [] = inl refl
same_bytes [] (y ∷ ys) = inr (λ e. cc)
same_bytes (x ∷ xs) [] = inr (λ e. cc)
same_bytes (x ∷ xs) (y ∷ ys) = next (cases_eq x y) (same_bytes xs ys) where
  next : (x ≡ y) ⊎ (x ≢ y) → (xs ≡ ys) ⊎ (xs ≢ ys) → (x ∷ xs ≡ y ∷ ys) ⊎ (x ∷ xs ≢ y ∷ ys)
  next (inl e) (inl f) = inl (λ j. e j ∷ f j)
  next (inl e) (inr not) = inr (λ h. not (let f : xs ≡ ys = cc in f))
  next (inr not) more = inr (λ h. not (let f : x ≡ y = cc in f))

-- A digest as characters: there are no more of them than bytes in the body, and each is below this.
abbrev past_characters : ℕ
past_characters = 1114112

scalar_below : (c : ℕ) → IsScalar c → c < past_characters
scalar_below c h = elim (scalar_cases c h) [ inl low ↦ omega arith | inr high ↦ high.1 ]

scalars_below : (cs : List ℕ) → scalars cs ≡ true → AreBelow past_characters cs
scalars_below [] h = tt
scalars_below (c ∷ cs) h = let both = and_both (scalar c) (scalars cs) h in (scalar_below c both.0, scalars_below cs both.1)

spelled_some : (c : ℕ) → 1 ≤ length (char_spelling c)
spelled_some c = by_letter (short_letter c) where
  by_code : (b : Bool) → 1 ≤ length (if b then coded_escape c else encode_utf8 c)
  by_code true = omega arith
  by_code false = omega (arith, (len_utf8_bounds c).0, length-encode c)

  by_letter : (letter : Option ℕ) → 1 ≤ length (spelling_by letter c)
  by_letter (Some letter) = omega arith
  by_letter None = by_code (is_coded c)

spelled_more : (cs : List ℕ) → length cs ≤ length (flat_map char_spelling cs)
spelled_more [] = omega arith
spelled_more (c ∷ cs) = omega (arith, spelled_some c, spelled_more cs, length-append (char_spelling c) (flat_map char_spelling cs))

argument_longer : (digest : List ℕ) → length (chars digest) ≤ length (digest_argument digest)
argument_longer [] = subst (λ cs. length cs ≤ 0) (sym chars-nil) (omega arith)
argument_longer (b ∷ bs) =
    let spelled : List ℕ = flat_map char_spelling (chars (b ∷ bs)) in
    omega (arith, spelled_more (chars (b ∷ bs)), length-append spelled (codes "\""))

body_longer : (prefix : List ℕ) (m : ℕ) (digest : List ℕ) (defines : Bool) → length (chars digest) ≤ length (body_of prefix (ClientRender m digest) defines)
body_longer prefix m digest defines =
    within (if defines then definition_of ClientRenderBoundary else []) (name_of ClientRenderBoundary) (js_string (boundary_id prefix m)) (digest_argument digest) (length (chars digest)) (argument_longer digest) where
      within : (a b c d : List ℕ) (n : ℕ) → n ≤ length d → n ≤ length (a ++ (b ++ (codes "(" ++ ((c ++ d) ++ codes ")"))))
      within a b c d n h =
          omega (
            arith,
            length-append a (b ++ (codes "(" ++ ((c ++ d) ++ codes ")"))),
            length-append b (codes "(" ++ ((c ++ d) ++ codes ")")),
            length-append (c ++ d) (codes ")"),
            length-append c d,
          )

-- The body is this instruction's, which has bounds.
abbrev IsClient : List ℕ → List ℕ → Bool → ℕ → List ℕ → Type 0
IsClient prefix body defines m cs = (is_utf8 (encode_utf8_all cs) ≡ true) × (body ≡ body_of prefix (ClientRender m (encode_utf8_all cs)) defines)

client_or_not : (prefix body : List ℕ) (defines : Bool) (m : ℕ) (cs : List ℕ) → IsClient prefix body defines m cs ⊎ ¬ IsClient prefix body defines m cs
client_or_not prefix body defines m cs = next (cases_Bool (is_utf8 (encode_utf8_all cs))) (same_bytes body (body_of prefix (ClientRender m (encode_utf8_all cs)) defines)) where
  next : (is_utf8 (encode_utf8_all cs) ≡ true) ⊎ (is_utf8 (encode_utf8_all cs) ≡ false)
      → (body ≡ body_of prefix (ClientRender m (encode_utf8_all cs)) defines) ⊎ (body ≢ body_of prefix (ClientRender m (encode_utf8_all cs)) defines)
      → IsClient prefix body defines m cs ⊎ ¬ IsClient prefix body defines m cs
  next (inl utf8) (inl same) = inl (utf8, same)
  next (inl utf8) (inr not) = inr (λ h. not h.1)
  next (inr not) more = inr (λ h. true≢false (sym h.0 ∙ not))

-- The body is an instruction's of one kind, or of none of that kind.
abbrev HasInstructionWith : List ℕ → List ℕ → Bool → Type 0
HasInstructionWith prefix body defines = (i : Instruction) × IsBodyOf prefix body i defines

complete_or_none : (prefix body : List ℕ) (defines : Bool)
    → HasInstructionWith prefix body defines ⊎ ((m n : ℕ) → ¬ IsBodyOf prefix body (Complete m n) defines)
complete_or_none prefix body defines =
    next (below_or_none (λ m. (n : ℕ) × (n < 2 ^ 32) × (body ≡ body_of prefix (Complete m n) defines)) (λ m. (n : ℕ) → n < 2 ^ 32 → body ≢ body_of prefix (Complete m n) defines)
    (λ m. below_or_none (λ n. body ≡ body_of prefix (Complete m n) defines) (λ n. body ≢ body_of prefix (Complete m n) defines)
    (λ n. same_bytes body (body_of prefix (Complete m n) defines)) (2 ^ 32)) (2 ^ 32)) where
      next : ((m : ℕ) × (m < 2 ^ 32) × ((n : ℕ) × (n < 2 ^ 32) × (body ≡ body_of prefix (Complete m n) defines)))
          ⊎ ((m : ℕ) → m < 2 ^ 32 → (n : ℕ) → n < 2 ^ 32 → body ≢ body_of prefix (Complete m n) defines)
          → HasInstructionWith prefix body defines ⊎ ((m n : ℕ) → ¬ IsBodyOf prefix body (Complete m n) defines)
      next (inl f) = inl (Complete f.0 f.2.0, record { valid = (f.1, f.2.1); is = f.2.2 })
      next (inr none) = inr (λ m n h. none m h.valid.0 n h.valid.1 h.is)

segment_or_none : (prefix body : List ℕ) (defines : Bool)
    → HasInstructionWith prefix body defines ⊎ ((n : ℕ) → ¬ IsBodyOf prefix body (Segment n) defines)
segment_or_none prefix body defines =
    next (below_or_none (λ n. body ≡ body_of prefix (Segment n) defines) (λ n. body ≢ body_of prefix (Segment n) defines)
    (λ n. same_bytes body (body_of prefix (Segment n) defines)) (2 ^ 32)) where
      next : ((n : ℕ) × (n < 2 ^ 32) × (body ≡ body_of prefix (Segment n) defines)) ⊎ ((n : ℕ) → n < 2 ^ 32 → body ≢ body_of prefix (Segment n) defines)
          → HasInstructionWith prefix body defines ⊎ ((n : ℕ) → ¬ IsBodyOf prefix body (Segment n) defines)
      next (inl f) = inl (Segment f.0, record { valid = f.1; is = f.2 })
      next (inr none) = inr (λ n h. none n h.valid h.is)

client_or_none : (prefix body : List ℕ) (defines : Bool)
    → HasInstructionWith prefix body defines ⊎ ((m : ℕ) (digest : List ℕ) → ¬ IsBodyOf prefix body (ClientRender m digest) defines)
client_or_none prefix body defines =
    next (below_or_none (λ m. (cs : List ℕ) × IsClient prefix body defines m cs) (λ m. NoneOf past_characters (length body) (IsClient prefix body defines m))
    (λ m. list_or_none past_characters (length body) (IsClient prefix body defines m) (client_or_not prefix body defines m)) (2 ^ 32)) where
      none_with : ((m : ℕ) → m < 2 ^ 32 → NoneOf past_characters (length body) (IsClient prefix body defines m))
          → (m : ℕ) (digest : List ℕ) → ¬ IsBodyOf prefix body (ClientRender m digest) defines
      none_with none m digest h =
          let same : encode_utf8_all (chars digest) ≡ digest = encodes-chars digest h.valid.1 in
          none m h.valid.0 (chars digest)
          (subst (λ xs. length (chars digest) ≤ length xs) (sym h.is) (body_longer prefix m digest defines))
          (scalars_below (chars digest) (scalars-chars digest h.valid.1)) (
            ap is_utf8 same ∙ is_utf8-from_IsUtf8 digest h.valid.1,
            h.is ∙ ap (λ d. body_of prefix (ClientRender m d) defines) (sym same),
          )

      next : ((m : ℕ) × (m < 2 ^ 32) × ((cs : List ℕ) × IsClient prefix body defines m cs)) ⊎ ((m : ℕ) → m < 2 ^ 32 → NoneOf past_characters (length body) (IsClient prefix body defines m))
          → HasInstructionWith prefix body defines ⊎ ((m : ℕ) (digest : List ℕ) → ¬ IsBodyOf prefix body (ClientRender m digest) defines)
      next (inl f) = inl (ClientRender f.0 (encode_utf8_all f.2.0), record { valid = (f.1, IsUtf8-from_is_utf8 _ f.2.1.0); is = f.2.1.1 })
      next (inr none) = inr (none_with none)

with_or_none : (prefix body : List ℕ) (defines : Bool) → HasInstructionWith prefix body defines ⊎ ((i : Instruction) → ¬ IsBodyOf prefix body i defines)
with_or_none prefix body defines = next (complete_or_none prefix body defines) (segment_or_none prefix body defines) (client_or_none prefix body defines) where
  none_of : ((m n : ℕ) → ¬ IsBodyOf prefix body (Complete m n) defines) → ((n : ℕ) → ¬ IsBodyOf prefix body (Segment n) defines)
      → ((m : ℕ) (digest : List ℕ) → ¬ IsBodyOf prefix body (ClientRender m digest) defines) → (i : Instruction) → ¬ IsBodyOf prefix body i defines
  none_of complete segment client (Complete m n) = complete m n
  none_of complete segment client (Segment n) = segment n
  none_of complete segment client (ClientRender m digest) = client m digest

  next : HasInstructionWith prefix body defines ⊎ ((m n : ℕ) → ¬ IsBodyOf prefix body (Complete m n) defines)
      → HasInstructionWith prefix body defines ⊎ ((n : ℕ) → ¬ IsBodyOf prefix body (Segment n) defines)
      → HasInstructionWith prefix body defines ⊎ ((m : ℕ) (digest : List ℕ) → ¬ IsBodyOf prefix body (ClientRender m digest) defines)
      → HasInstructionWith prefix body defines ⊎ ((i : Instruction) → ¬ IsBodyOf prefix body i defines)
  next (inl found) segment client = inl found
  next (inr complete) (inl found) client = inl found
  next (inr complete) (inr segment) (inl found) = inl found
  next (inr complete) (inr segment) (inr client) = inr (none_of complete segment client)

pub body_decided : (prefix body : List ℕ) → HasInstruction prefix body ⊎ IsNoBody prefix body
body_decided prefix body = next (with_or_none prefix body true) (with_or_none prefix body false) where
  none_of : ((i : Instruction) → ¬ IsBodyOf prefix body i true) → ((i : Instruction) → ¬ IsBodyOf prefix body i false) → IsNoBody prefix body
  none_of with without i true = with i
  none_of with without i false = without i

  next : HasInstructionWith prefix body true ⊎ ((i : Instruction) → ¬ IsBodyOf prefix body i true)
      → HasInstructionWith prefix body false ⊎ ((i : Instruction) → ¬ IsBodyOf prefix body i false) → HasInstruction prefix body ⊎ IsNoBody prefix body
  next (inl f) without = inl (record { instruction = f.0; defines = true; body_is = f.1 })
  next (inr with) (inl f) = inl (record { instruction = f.0; defines = false; body_is = f.1 })
  next (inr with) (inr without) = inr (none_of with without)
