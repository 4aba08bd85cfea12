use Rattle.std.proofs.Common.{◌++◌, List, ℕ, ◌∙◌, sym, ap}
use Rattle.fizz_instructions.proofs.ListLemmas.{no_prefix, prefix_first}
use Rattle.fizz_instructions.proofs.reading.split_definition.Goals as goal

pub returns-in-Some-clause-split : goal.returns-in-Some-clause-split
returns-in-Some-clause-split c =
    prefix_first c.args.body.now c.as_bytes.result.now c.in-Some.call.now c.in-Some.ensures.cases.0 c.in-Some.ensures.cases.1
    ∙ ap (λ (p : List ℕ). p ++ c.in-Some.call.now) (c.as_bytes.ensures.value ∙ c.definition.ensures)

pub returns-in-None-clause-first : goal.returns-in-None-clause-first
returns-in-None-clause-first c = λ more e.
    absurd (no_prefix c.args.body.now c.as_bytes.result.now c.in-None.ensures.cases more (e ∙ ap (λ (p : List ℕ). p ++ more) (sym (c.as_bytes.ensures.value ∙ c.definition.ensures))))
