use Rattle.std.proofs.Common.{◌∷◌, ℕ, List, sym, subst}
use Rattle.std.proofs.lemmas.List.{nil_from_length}
use Rattle.html_names.specs.JsStrings.{BeginsNoChar}
use Rattle.html_names.proofs.JsStringsLemmas.{no_end, no_letter}
use Rattle.html_names.proofs.js_string.split_escape.Goals as goal

pub returns-in_default : goal.returns-in_default
returns-in_default c = subst (λ (xs : List ℕ). BeginsNoChar (92 ∷ xs)) (sym (nil_from_length c.args.escape.now c.in_default.ensures.cases)) no_end

pub returns-in-None : goal.returns-in-None
returns-in-None c =
    subst (λ (xs : List ℕ). BeginsNoChar (92 ∷ xs)) (sym c.in-Some.ensures.cases.0) (no_letter c.in-Some.letter.now c.in-Some.more.now c.if-letter-eq117.false c.in-None.ensures)
