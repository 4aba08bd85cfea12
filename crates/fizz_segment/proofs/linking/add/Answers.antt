use Rattle.std.proofs.Common.{◌<◌, ℕ, Option, ◌∙◌, subst}
use Rattle.fizz_segment.specs.Linked.{IsMadeBefore}
use Rattle.fizz_segment.proofs.LinkLemmas.{added_child, added_root}
use Rattle.fizz_segment.proofs.linking.add.Goals as goal

pub returns-in-None-clause-linked : goal.returns-in-None-clause-linked
returns-in-None-clause-linked c parts part own long live linked =
    added_root parts part c.args.links.now c.push.new.links (own ∙ c.in-None.is) linked c.push.ensures.pushed

pub returns-in-Some-clause-linked : goal.returns-in-Some-clause-linked
returns-in-Some-clause-linked c parts part own long live linked =
    let below : c.in-Some.parent < c.args.id = subst (λ (o : Option ℕ). IsMadeBefore c.args.id o) c.in-Some.is live in
    added_child parts part c.args.links.now c.push.new.links c.append.new.links c.in-Some.parent c.args.id (own ∙ c.in-Some.is) long below linked
    c.push.ensures.pushed c.append.ensures.appended
