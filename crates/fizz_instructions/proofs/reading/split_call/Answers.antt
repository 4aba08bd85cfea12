use Rattle.std.proofs.Common.{◌∙◌, ◌++◌, ◌∷◌, [], List, ℕ, nat_eq, ap}
use Rattle.std.proofs.lemmas.Slice.Eq.{strip_suffix_is}
use Rattle.std.proofs.lemmas.Bool.Decides.{Decides-eqb}
use Rattle.fizz_instructions.proofs.BodiesLemmas.{inner}
use Rattle.fizz_instructions.proofs.ListLemmas.{prefix_first}
use Rattle.fizz_instructions.proofs.reading.split_call.Goals as goal

pub returns : goal.returns
returns c =
    inner c.args.call.now c.in_ok-after.after.now c.in_ok-inside.inside.now c.args.function c.strip_suffix.result
    (prefix_first c.args.call.now c.as_bytes.result.now c.in_ok-after.after.now c.in_ok-after.ensures.cases.0 c.in_ok-after.ensures.cases.1
    ∙ ap (λ (p : List ℕ). p ++ c.in_ok-after.after.now) (c.as_bytes.ensures.value ∙ c.name.ensures))
    (prefix_first c.in_ok-after.after.now (40 ∷ []) c.in_ok-inside.inside.now c.in_ok-inside.ensures.cases.0 c.in_ok-inside.ensures.cases.1)
    (strip_suffix_is {E = nat_eq} Decides-eqb c.in_ok-inside.inside.now (41 ∷ []) c.strip_suffix.result c.strip_suffix.ensures.cases)
