-- Any bytes split or have a fault, and the rest of a split is a text or none.
use Rattle.std.proofs.Common.{◌≡◌, ◌≢◌, ◌⊎◌, ℕ, ◌+◌, true, false, Bool, Some, List, [], ◌∷◌, ◌++◌, length, take, drop, refl, sym, ◌∙◌, ap, subst, inl, inr, append_assoc, append-nil}
use Rattle.std.specs.Prelude.{slice_index}
use Rattle.std.proofs.lemmas.Bool.{cases_Bool}
use Rattle.std.proofs.lemmas.List.{take_at, take-append-drop}
use Rattle.html_read.specs.declared.token.Token.{Token}
use Rattle.html_read.specs.declared.fault.ReadKind.{ReadKind}
use Rattle.html_read.specs.declared.place.Place.TheVariants.{Whole}
use Rattle.html_read.specs.declared.machine.Mode.{Mode}
use Rattle.html_read.specs.declared.machine.Mode.TheVariants.{Text, Name}
use Rattle.html_read.specs.declared.machine.Transition.{Transition}
use Rattle.html_read.specs.declared.machine.Transition.TheVariants.{Goes, Ends, Cuts, Fails}
use Rattle.html_read.specs.Faults.{HasFault, HasKind, HasSplit, IsAlive, Splits, begins_tag, ends_in_text}
use Rattle.html_read.specs.Machine.{is_whole_text, mode_of, transition_of}
use Rattle.html_read.specs.Rests.{IsFaulty, IsWholeText}
use Rattle.html_read.specs.Tokens.{IsToken, is_text, spelling}
use Rattle.html_read.proofs.WordLemmas.{none_true}
use Rattle.html_read.proofs.FitsLemmas.{IsSpelling, whole_text}
use Rattle.html_read.proofs.HasKindLemmas.{fails_kind}
use Rattle.html_read.proofs.StandsLemmas.{Stands, cuts, cutting, ending, ends, first_dead, goes, mode_fits, mode_starts, splits_alive, splits_of}
use Rattle.html_read.proofs.SplitsLemmas.{alive_prefix}
use Rattle.html_read.proofs.FinishCauseLemmas.{text_some, whole_is_text, whole_mode, not_whole}
use Rattle.html_read.proofs.TokenizesLemmas.{one_split}

-- Where a reader stands after all of the bytes.
record StandsAfter (bytes : List ℕ) : Type 0 where
  toks : List Token
  mode : Mode
  rest : List ℕ
  stands : Stands bytes toks mode rest

abbrev Decided : List ℕ → Type 0
Decided bytes = StandsAfter bytes ⊎ IsFaulty bytes

faulty : (bytes : List ℕ) (toks : List Token) (mode : Mode) (seen : List ℕ) (b : ℕ) (bs : List ℕ) (kind : ReadKind) → Stands bytes toks mode seen
    → transition_of mode seen (seen ++ b ∷ []) b ≡ Fails kind → IsFaulty (bytes ++ b ∷ bs)
faulty bytes toks mode seen b bs kind s t = record {
  toks = toks;
  at = length bytes;
  kind = kind;
  fault = record {
    rest = seen;
    first = first_dead bytes toks mode seen b bs kind s t;
    split = subst (λ x. Splits x toks seen) (sym (take_at bytes (b ∷ bs) (length bytes) refl)) (splits_of bytes toks mode seen s);
    kind_is = subst (λ x. HasKind seen x kind) (byte_is bytes b bs) (fails_kind mode seen b kind (mode_fits mode seen s.mode_is) t);
  };
} where
  byte_is : (front : List ℕ) (b : ℕ) (bs : List ℕ) → b ≡ slice_index (front ++ b ∷ bs) (length front)
  byte_is [] b bs = refl
  byte_is (x ∷ xs) b bs = byte_is xs b bs

decide_by : (bytes : List ℕ) (toks : List Token) (mode : Mode) (seen : List ℕ) (b : ℕ) (bs : List ℕ) (t : Transition) → Stands bytes toks mode seen
    → transition_of mode seen (seen ++ b ∷ []) b ≡ t
    → ((bytes : List ℕ) (toks : List Token) (mode : Mode) (seen : List ℕ) → Stands bytes toks mode seen → Decided (bytes ++ bs)) → Decided (bytes ++ b ∷ bs)
decide_by bytes toks mode seen b bs (Goes next) s t later =
    subst Decided (append_assoc bytes (b ∷ []) bs) (later (bytes ++ b ∷ []) toks next (seen ++ b ∷ []) (goes bytes toks mode next seen b s t))
decide_by bytes toks mode seen b bs Ends s t later =
    let k : IsSpelling false (seen ++ b ∷ []) _ = ending mode seen b _ s.mode_is t in
    subst Decided (append_assoc bytes (b ∷ []) bs)
    (later (bytes ++ b ∷ []) (toks ++ k.tok ∷ []) (Text Whole) [] (ends bytes toks mode seen b k.tok s k.is_token k.spelled k.text_is k.place_is))
decide_by bytes toks mode seen b bs Cuts s t later =
    let c : (b ≡ 60) × IsSpelling true seen _ = cutting mode seen b _ s.mode_is t in
    let k : IsSpelling true seen _ = c.1 in
    subst Decided (append_assoc bytes (b ∷ []) bs)
    (later (bytes ++ b ∷ []) (toks ++ k.tok ∷ []) Name (b ∷ []) (cuts bytes toks mode seen b k.tok s c.0 k.is_token k.spelled k.text_is k.place_is))
decide_by bytes toks mode seen b bs (Fails kind) s t later = inr (faulty bytes toks mode seen b bs kind s t)

decide_from : (bs bytes : List ℕ) (toks : List Token) (mode : Mode) (seen : List ℕ) → Stands bytes toks mode seen → Decided (bytes ++ bs)
decide_from [] bytes toks mode seen s = inl (record { toks = toks; mode = mode; rest = seen; stands = subst (λ x. Stands x toks mode seen) (sym (append-nil bytes)) s })
decide_from (b ∷ bs) bytes toks mode seen s = decide_by bytes toks mode seen b bs (transition_of mode seen (seen ++ b ∷ []) b) s refl (decide_from bs)

decide : (bytes : List ℕ) → Decided bytes
decide bytes = decide_from bytes [] [] (Text Whole) [] (record { whole = refl; tokens = tt; mode_is = mode_starts; ended = λ e. absurd (none_true e) })

pub decided : (bytes : List ℕ) → HasSplit bytes ⊎ IsFaulty bytes
decided bytes = elim (decide bytes) [
  | inl a ↦ inl (record { toks = a.toks; rest = a.rest; split = splits_of bytes a.toks a.mode a.rest a.stands })
  | inr f ↦ inr f
]

-- A rest is a text where the reader stands between its characters.
text_at : (mode : Mode) (rest : List ℕ) → mode_of rest ≡ Some mode → IsWholeText rest ⊎ (¬ IsWholeText rest)
text_at mode [] e = inr (λ h. text_some h.token h.is_token h.text (sym h.spelled))
text_at mode (b ∷ bs) e = by_mode (is_whole_text mode) refl where
  by_mode : (w : Bool) → is_whole_text mode ≡ w → IsWholeText (b ∷ bs) ⊎ (¬ IsWholeText (b ∷ bs))
  by_mode true h =
      let k : IsSpelling true (b ∷ bs) 0 = whole_text (b ∷ bs) 0 (mode_fits (Text Whole) (b ∷ bs) (e ∙ ap (λ x. Some x) (whole_mode mode h))) (λ z. let t : b ∷ bs ≡ [] = z in cc) in
      inl (record { token = k.tok; is_token = k.is_token; text = k.text_is; spelled = k.spelled })
  by_mode false h = inr (λ w. not_whole mode h (whole_is_text w.token (b ∷ bs) mode e w.is_token w.spelled))

pub rest_text : (bytes : List ℕ) (toks : List Token) (rest : List ℕ) → Splits bytes toks rest → IsWholeText rest ⊎ (¬ IsWholeText rest)
rest_text bytes toks rest s = elim (decide bytes) [
  | inl a ↦ let same = one_split bytes a.toks toks a.rest rest (splits_of bytes a.toks a.mode a.rest a.stands) s in
      subst (λ r. IsWholeText r ⊎ (¬ IsWholeText r)) same.1 (text_at a.mode a.rest a.stands.mode_is)
  | inr f ↦ absurd (no_fault bytes toks rest s f)
] where
  no_fault : (bytes : List ℕ) (toks : List Token) (rest : List ℕ) → Splits bytes toks rest → IsFaulty bytes → ⊥
  no_fault bytes toks rest s f =
      let at = f.at in
      let all = splits_alive bytes toks rest s in
      f.fault.first.dead (alive_prefix (take (at + 1) bytes) (drop (at + 1) bytes) (subst IsAlive (sym (take-append-drop (at + 1) bytes)) all))
