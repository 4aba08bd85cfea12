use Rattle.std.proofs.Common.{ℕ, List, Option, sym, ap, ◌∙◌}
use Rattle.fizz_segment.specs.Nearest.{link_at}
use Rattle.fizz_segment.specs.Tree.{next_of}
use Rattle.fizz_segment.proofs.LinkLemmas.{next_linked}
use Rattle.fizz_segment.proofs.linking.next.Goals as goal

pub returns-in-Some : goal.returns-in-Some
returns-in-Some c parts part live own linked =
    c.link.ensures ∙ ap (λ (links : List (Option ℕ)). link_at links c.args.id) c.deref.ensures.value
    ∙ next_linked parts c.args.links.now c.args.id c.in-Some.field-0 part live (own ∙ c.in-Some.is) linked
    ∙ ap (λ (parent : Option ℕ). next_of parts parent c.args.id) (sym c.in-Some.is)
