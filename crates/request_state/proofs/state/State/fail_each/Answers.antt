use Rattle.std.proofs.Common.{◌≡◌, suc, ◌+◌, ◌-◌, refl, sym, subst, ◌∙◌, arith}
use Rattle.request_state.specs.Core.{core_of}
use Rattle.request_state.specs.Closing.{FailEach}
use Rattle.request_state.proofs.state.State.fail_each.Goals as goal

pub boundaries-preserved : goal.boundaries-preserved
boundaries-preserved c = (
  c.boundaries.invariant.0,
  omega (arith, c.boundaries.invariant.1, c.fail_if_working-failed.ensures.few),
  c.fail_if_working-failed.ensures.plan ∙ c.boundaries.invariant.2,
  λ end others rest.
      let more : c.next-boundary-end.result - c.boundaries.boundary
      ≡ suc (c.next-boundary-end.result - (c.boundaries.boundary + 1)) = omega (arith, c.boundaries-test.true) in
      let sum : others + c.fail_if_working-failed.result + c.boundaries.failed
      ≡ others + (c.boundaries.failed + c.fail_if_working-failed.result) = omega arith in
      subst (λ n. FailEach c.next-boundary-end.result 0 (core_of c.args.self.now) end n) sum
      (c.boundaries.invariant.3 end (others + c.fail_if_working-failed.result)
      (subst (λ n. FailEach n c.boundaries.boundary (core_of c.boundaries.self) end
      (others + c.fail_if_working-failed.result)) (sym more)
      (c.fail_if_working-failed.ensures.failed (c.next-boundary-end.result - (c.boundaries.boundary + 1)) end others rest))),
)

pub returns-clause-failed : goal.returns-clause-failed
returns-clause-failed c =
    let none : c.next-boundary-end.result - c.boundaries.boundary ≡ 0 = omega (arith, c.boundaries-test.false) in
    let sum : 0 + c.boundaries.failed ≡ c.boundaries.failed = omega arith in
    subst (λ n. FailEach n 0 (core_of c.args.self.now) (core_of c.boundaries.self) c.boundaries.failed)
    c.boundaries.invariant.0
    (subst (λ n. FailEach c.next-boundary-end.result 0 (core_of c.args.self.now) (core_of c.boundaries.self) n) sum
    (c.boundaries.invariant.3 (core_of c.boundaries.self) 0
    (subst (λ n. FailEach n c.boundaries.boundary (core_of c.boundaries.self) (core_of c.boundaries.self) 0) (sym none)
    (refl, refl))))
