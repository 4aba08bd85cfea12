-- Bytes end early at one place, and not where nothing is left over.
use Rattle.std.proofs.Common.{◌≡◌, ℕ, List, [], ◌∷◌, length, refl, sym, ◌∙◌, ap, subst, arith}
use Rattle.std.specs.Str.{IsUtf8}
use Rattle.html_read.specs.declared.token.Token.{Token}
use Rattle.document_machine.specs.declared.building.OpenElement.{OpenElement}
use Rattle.document_machine.specs.Running.{PageState}
use Rattle.document_machine.specs.Documents.{IsTextAtEnd, RunsWhole}
use Rattle.document_machine.specs.Faults.{IsEndingAt, EndsEarly}
use Rattle.document_machine.proofs.LowerLaws.{TokenLaws, ScriptLaws}
use Rattle.document_machine.proofs.MovedTokens.{placed}
use Rattle.document_machine.proofs.TokenRuns.{no_list, same_last, one_built}

no_bytes : (b : ℕ) (bs : List ℕ) → b ∷ bs ≡ [] → ⊥
no_bytes b bs e = cc

ending_one : (rest : List ℕ) (last others : List Token) (o p : List OpenElement) (size a b : ℕ) → placed 0 last ≡ placed 0 others → IsEndingAt rest last o size a → IsEndingAt rest others p size b → a ≡ b
ending_one [] last others o p size a b e x y = x.1 ∙ sym y.1
ending_one (r ∷ rs) [] [] o p size a b e x y = omega (arith, x, y)
ending_one (r ∷ rs) [] (u ∷ us) o p size a b e x y = absurd (no_list _ _ (sym e))
ending_one (r ∷ rs) (t ∷ ts) [] o p size a b e x y = absurd (no_list _ _ e)
ending_one (r ∷ rs) (t ∷ ts) (u ∷ us) o p size a b e x y = x.1 ∙ sym y.1

pub one_ending : TokenLaws → (prefix : List ℕ) (start : PageState) (bytes : List ℕ) (a b : ℕ) → EndsEarly prefix start bytes a → EndsEarly prefix start bytes b → a ≡ b
one_ending laws prefix start bytes a b x y =
    let same : (x.toks ≡ y.toks) × (x.rest ≡ y.rest) = laws.split bytes x.toks y.toks x.rest y.rest x.split y.split in
    let lasts : placed 0 x.last ≡ placed 0 y.last = same_last laws y.rest x.last y.last (subst (λ r. IsTextAtEnd r x.last) same.1 x.text) y.text in
    ending_one y.rest x.last y.last x.built.opened y.built.opened (length bytes) a b lasts (subst (λ r. IsEndingAt r x.last x.built.opened (length bytes) a) same.1 x.is) y.is

not_ending : (rest : List ℕ) (last others : List Token) (opened : List OpenElement) (size at : ℕ) → placed 0 others ≡ placed 0 last → (others ≡ [] → rest ≡ []) → opened ≡ [] → IsEndingAt rest last opened size at → ⊥
not_ending [] last others opened size at e none closed x = x.0 closed
not_ending (r ∷ rs) [] [] opened size at e none closed x = no_bytes r rs (none refl)
not_ending (r ∷ rs) [] (u ∷ us) opened size at e none closed x = no_list _ _ e
not_ending (r ∷ rs) (t ∷ ts) others opened size at e none closed x = x.0 closed

pub whole_or_early : TokenLaws → ScriptLaws → (prefix : List ℕ) (start end : PageState) (bytes : List ℕ) (at : ℕ) → IsUtf8 prefix → RunsWhole prefix start bytes end → EndsEarly prefix start bytes at → ⊥
whole_or_early laws scripts prefix start end bytes at utf8 w x =
    let same : (w.run.toks ≡ x.toks) × (w.run.rest ≡ x.rest) = laws.split bytes w.run.toks x.toks w.run.rest x.rest w.run.split x.split in
    let lasts : placed 0 w.run.last ≡ placed 0 x.last = same_last laws x.rest w.run.last x.last (subst (λ r. IsTextAtEnd r w.run.last) same.1 w.run.text) x.text in
    let built : end ≡ x.built = one_built laws scripts prefix utf8 start end x.built bytes w.run.toks x.toks w.run.last x.last w.run.rest x.rest w.run.split x.split w.run.text x.text w.run.steps x.steps in
    not_ending x.rest x.last w.run.last x.built.opened (length bytes) at lasts (λ e. sym same.1 ∙ w.no_rest e) (ap (λ (b : PageState). b.opened) (sym built) ∙ w.closed) x.is
