use Rattle.std.proofs.Common.{◌≤◌, ◌<◌, List, length, subst}
use Rattle.std.specs.Prelude.{IsTrue, ◌↔◌, ◌≡◌, [], Some, codes}
use Rattle.jsx_syntax.specs.Rules.{app_depth, properties_of}
use Rattle.jsx_syntax.specs.declared.file.Component.{Component}
use Rattle.jsx_check.proofs.ChecksLemmas.{found_no_app, is_none, few_enough, too_deep, no_app, met}
use Rattle.jsx_check.proofs.checking.check.Goals as goal

pub returns-in-Some-clause-only : goal.returns-in-Some-clause-only
returns-in-Some-clause-only c app = absurd (found_no_app c.args.file c.in_ok-found.field-0 c.in-Some.found c.in-Some.is c.in_ok-found.ensures app)

pub returns-then-not-has_app-clause-refused : goal.returns-then-not-has_app-clause-refused
returns-then-not-has_app-clause-refused c = (
  few_enough (length c.args.file.components) (subst (λ (cs : List Component). length cs ≤ 1000) c.as_slice-count.ensures c.if-count-gt-MOST_COMPONENTS.false),
  c.in_ok-found.ensures.sound (is_none c.in_ok-found.field-0 c.in_default.not-Some),
  no_app c.args.file c.has_app.result
      (subst (λ (cs : List Component). IsTrue c.has_app.result ↔ (properties_of (codes "App") cs ≡ Some [])) c.as_slice.ensures c.has_app.ensures)
      c.if-not-has_app.true,
)

pub returns-then-depth-gt-MOST_DEPTH-clause-refused : goal.returns-then-depth-gt-MOST_DEPTH-clause-refused
returns-then-depth-gt-MOST_DEPTH-clause-refused c =
    let has = subst (λ (cs : List Component). IsTrue c.has_app.result ↔ (properties_of (codes "App") cs ≡ Some [])) c.as_slice.ensures c.has_app.ensures in (
      few_enough (length c.args.file.components) (subst (λ (cs : List Component). length cs ≤ 1000) c.as_slice-count.ensures c.if-count-gt-MOST_COMPONENTS.false),
      c.in_ok-found.ensures.sound (is_none c.in_ok-found.field-0 c.in_default.not-Some),
      has.0 c.if-not-has_app.false,
      too_deep (app_depth c.args.file) (subst (λ k. 256 < k) c.in_ok-depth.ensures c.if-depth-gt-MOST_DEPTH.true),
      c.in_ok-depth.ensures,
    )

pub of-requires : goal.of-requires
of-requires c =
    met c.args.file c.in_ok-found.field-0 c.has_app.result c.in_ok-depth.depth c.in_ok-depth.ensures
    (subst (λ (cs : List Component). length cs ≤ 1000) c.as_slice-count.ensures c.if-count-gt-MOST_COMPONENTS.false)
    (is_none c.in_ok-found.field-0 c.in_default.not-Some) c.in_ok-found.ensures
    (subst (λ (cs : List Component). IsTrue c.has_app.result ↔ (properties_of (codes "App") cs ≡ Some [])) c.as_slice.ensures c.has_app.ensures)
    c.if-not-has_app.false c.if-depth-gt-MOST_DEPTH.false

pub returns-clause-accepted : goal.returns-clause-accepted
returns-clause-accepted c = (
  c.of.ensures,
  met c.args.file c.in_ok-found.field-0 c.has_app.result c.in_ok-depth.depth c.in_ok-depth.ensures
      (subst (λ (cs : List Component). length cs ≤ 1000) c.as_slice-count.ensures c.if-count-gt-MOST_COMPONENTS.false)
      (is_none c.in_ok-found.field-0 c.in_default.not-Some) c.in_ok-found.ensures
      (subst (λ (cs : List Component). IsTrue c.has_app.result ↔ (properties_of (codes "App") cs ≡ Some [])) c.as_slice.ensures c.has_app.ensures)
      c.if-not-has_app.false c.if-depth-gt-MOST_DEPTH.false,
)
