use Rattle.std.proofs.Common.{◌<◌, ◌^◌, SomeIff, Option, ℕ, sym, subst}
use Rattle.std.specs.Str.Parse.{digits_value}
use Rattle.jsx_lex.proofs.Scanning.{parsed, digits_are_text}
use Rattle.jsx_lex.proofs.number.value_of.Goals as goal

pub returns-in-Ok : goal.returns-in-Ok
returns-in-Ok c =
    let read = rw c.in-Ok.ensures.cases.0 at c.parse.ensures.value.0 in
    subst (λ (o : Option ℕ). SomeIff o (digits_value 10 c.args.digits.now < 2 ^ 64) (digits_value 10 c.args.digits.now)) (sym c.ok.ensures.value) (parsed c.args.digits.now c.parse.result read c.requires.some c.requires.digits)

pub returns-in-Err : goal.returns-in-Err
returns-in-Err c = λ lt. c.in-Err.ensures.cases.0 (digits_are_text c.args.digits.now c.requires.digits)
