-- Lists that begin or end alike.
use Rattle.std.proofs.Common.{◌≡◌, ◌≢◌, ℕ, Bool, true, false, List, [], ◌++◌, ◌==◌, take, drop, length, sym, ◌∙◌, ap}
use Rattle.std.specs.Str.{bytes_eq}
use Rattle.std.proofs.lemmas.List.{take-append-drop}
use Rattle.std.proofs.lemmas.Slice.Eq.{bytes_eq-Decides}
use Rattle.std.proofs.Math.Seq.{take-append_seam}
use Rattle.html_names.proofs.JsStringsLemmas.{apart_bools}

pub prefix_first : (bytes p rest : List ℕ) → bytes_eq (take (length p) bytes) p ≡ true → rest ≡ drop (length p) bytes → bytes ≡ p ++ rest
prefix_first bytes p rest e is =
    sym (take-append-drop (length p) bytes) ∙ (ap (λ xs. xs ++ drop (length p) bytes) ((bytes_eq-Decides (take (length p) bytes) p).0 e) ∙ ap (λ xs. p ++ xs) (sym is))

pub no_prefix : (bytes p : List ℕ) → bytes_eq (take (length p) bytes) p ≡ false → (more : List ℕ) → bytes ≢ p ++ more
no_prefix bytes p e more is =
    apart_bools (bytes_eq (take (length p) bytes) p) ((bytes_eq-Decides (take (length p) bytes) p).1 (ap (take (length p)) is ∙ take-append_seam p more)) e

pub not_empty : (xs : List ℕ) (b : Bool) → b ≡ (length xs == 0) → b ≡ false → xs ≢ []
not_empty xs b is e h = apart_bools (length xs == 0) (ap (λ ys. length ys == 0) h) (sym is ∙ e)
