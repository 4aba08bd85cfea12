use Rattle.std.proofs.Common.{ℕ, List, Option, ap, ◌∙◌}
use Rattle.fizz_segment.specs.Nearest.{link_at}
use Rattle.fizz_segment.proofs.LinkLemmas.{first_linked}
use Rattle.fizz_segment.proofs.linking.first.Goals as goal

pub returns : goal.returns
returns c parts linked =
    c.link.ensures ∙ ap (λ (links : List (Option ℕ)). link_at links c.args.id) c.deref.ensures.value
    ∙ first_linked parts c.args.links.now c.args.id linked
