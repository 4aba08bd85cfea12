use Rattle.std.proofs.Common.{List, ℕ, Bool, subst, sym, ◌∙◌, ap}
use Rattle.std.specs.Str.{IsUtf8}
use Rattle.fizz_instructions.specs.Reading.{IsBodyOf}
use Rattle.fizz_instructions.specs.Sending.{has}
use Rattle.fizz_instructions.proofs.BodiesLemmas.{not_said, only_said}
use Rattle.fizz_instructions.proofs.reading.read_script_body.Goals as goal

pub returns-then-not-has-clause-accepted : goal.returns-then-not-has-clause-accepted
returns-then-not-has-clause-accepted c = λ i says.
    let p = subst IsUtf8 c.as_str.ensures.value c.as_str.ensures.utf8 in
    let is = subst (λ (t : List ℕ). IsBodyOf t c.args.body.now c.in-Some.instruction c.in-Some.defines) c.as_str.ensures.value (rw c.in-Some.is at c.in_ok-instruction.ensures) in
    let undefined = subst (λ (d : Bool). IsBodyOf c.args.prefix.now c.args.body.now c.in-Some.instruction d) c.if-not-defines.true is in
    let unknown = ap (has c.args.known.now) (sym c.function-function.ensures) ∙ (sym c.has.ensures ∙ c.if-not-has.true) in
    absurd (not_said c.args.prefix.now c.args.body.now c.args.known.now c.in-Some.instruction i p undefined unknown says)

pub returns-clause-accepted : goal.returns-clause-accepted
returns-clause-accepted c = λ i says. (
  only_said c.args.prefix.now c.args.body.now c.args.known.now c.in-Some.instruction i c.in-Some.defines
      (subst IsUtf8 c.as_str.ensures.value c.as_str.ensures.utf8)
      (subst (λ (t : List ℕ). IsBodyOf t c.args.body.now c.in-Some.instruction c.in-Some.defines) c.as_str.ensures.value (rw c.in-Some.is at c.in_ok-instruction.ensures))
      says,
  tt,
)
