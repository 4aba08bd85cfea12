use Rattle.std.proofs.Common.{ℕ, Bool, List, refl, ap, ◌∙◌}
use Rattle.fizz_boundary.specs.Bounds.{Bounds}
use Rattle.request_state.specs.Core.{core_of}
use Rattle.request_state.specs.Failing.{dropped_if, is_within}
use Rattle.request_state.proofs.FailingLemmas.{all_dropped-grown, exactly-grown, grown}
use Rattle.request_state.proofs.state.State.drop_within.Goals as goal

pub boundaries-preserved : goal.boundaries-preserved
boundaries-preserved c =
    let test : ℕ → Bool = λ n. is_within c.args.self.now.boundaries.bounds c.args.boundary n in
    let within : List ℕ = c.boundaries.invariant.4.0 in (
      refl,
      c.boundaries.invariant.1,
      c.drop_if_within.ensures.boundaries ∙ c.boundaries.invariant.2,
      c.drop_if_within.ensures.plan ∙ c.boundaries.invariant.3,
      (
        grown (test c.boundaries.inner) c.boundaries.inner within,
        (
          exactly-grown test c.boundaries.inner within c.boundaries.invariant.4.1.0,
          c.drop_if_within.ensures.dropped
              ∙ ap (λ (b : Bounds). dropped_if (is_within b.bounds c.args.boundary c.boundaries.inner) c.boundaries.inner
              (core_of c.boundaries.self)) c.boundaries.invariant.2
              ∙ ap (dropped_if (test c.boundaries.inner) c.boundaries.inner) c.boundaries.invariant.4.1.1
              ∙ all_dropped-grown (test c.boundaries.inner) c.boundaries.inner within (core_of c.args.self.now),
        ),
      ),
    )
