use Rattle.std.proofs.lemmas.List.{append_cancel_left}
use Rattle.std.proofs.Common.{◌++◌, ◌∙◌, sym}
use Rattle.fizz_text.specs.Hexadecimal.{hexadecimal}
use Rattle.fizz_instructions.proofs.IdsLemmas.{number_found}
use Rattle.fizz_instructions.proofs.ListLemmas.{no_prefix, prefix_first}
use Rattle.fizz_instructions.proofs.reading.id_number.Goals as goal

pub returns-in_default : goal.returns-in_default
returns-in_default c = λ n small e. no_prefix c.args.id.now c.args.prefix.now c.in_default.ensures.cases (c.args.mark.now ++ hexadecimal n) e

pub returns-in_default-strip_prefix : goal.returns-in_default-strip_prefix
returns-in_default-strip_prefix c = λ n small e.
    no_prefix c.in-Some.rest.now c.args.mark.now c.in_default-strip_prefix.ensures.cases (hexadecimal n)
    (append_cancel_left c.args.prefix.now c.in-Some.rest.now (c.args.mark.now ++ hexadecimal n)
    (sym (prefix_first c.args.id.now c.args.prefix.now c.in-Some.rest.now c.in-Some.ensures.cases.0 c.in-Some.ensures.cases.1) ∙ e))

pub returns : goal.returns
returns c =
    number_found c.args.id.now c.args.prefix.now c.args.mark.now c.in-Some.rest.now c.in-Some-strip_prefix.numeral.now c.number_of.result
    (prefix_first c.args.id.now c.args.prefix.now c.in-Some.rest.now c.in-Some.ensures.cases.0 c.in-Some.ensures.cases.1)
    (prefix_first c.in-Some.rest.now c.args.mark.now c.in-Some-strip_prefix.numeral.now c.in-Some-strip_prefix.ensures.cases.0 c.in-Some-strip_prefix.ensures.cases.1)
    c.number_of.ensures
