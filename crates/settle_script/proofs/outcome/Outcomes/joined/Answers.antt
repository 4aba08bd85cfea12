use Rattle.std.proofs.Common.{◌∙◌, ap, sym, subst, ◌++◌, List}
use Rattle.std.specs.Option.{option_copied}
use Rattle.settle_script.specs.declared.value.Entry.{Entry}
use Rattle.settle_script.specs.declared.outcome.Outcome.{Outcome}
use Rattle.settle_script.specs.Settlements.{HasDistinctNames, first_common}
use Rattle.settle_script.proofs.SettlementsLemmas.{joined_distinct}
use Rattle.settle_script.proofs.outcome.Outcomes.joined.Goals as goal

pub append-requires-2-clause-distinct : goal.append-requires-2-clause-distinct
append-requires-2-clause-distinct c =
    joined_distinct c.args.self.now c.args.more.now c.append.new.self c.as_slice-3.result.now
    (c.in_ok-append.ensures ∙ ap (λ (xs : List (Entry Outcome)). xs ++ c.as_slice-2.result.now) c.new-all.ensures ∙ c.as_slice-2.ensures.value ∙ c.self.view_is)
    (c.as_slice-3.ensures.value ∙ c.more.view_is)
    (subst (λ (xs : List (Entry Outcome)). HasDistinctNames xs) c.self.view_is c.self.invariant.distinct)
    (subst (λ (xs : List (Entry Outcome)). HasDistinctNames xs) c.more.view_is c.more.invariant.distinct)
    (ap (λ (xs : List (Entry Outcome)). first_common c.args.self.now xs) (sym (c.as_slice.ensures.value ∙ c.more.view_is)) ∙ sym c.first_common.ensures ∙ ap option_copied c.in_default.is)
