use Rattle.std.proofs.Common.{[], ◌∷◌}
use Rattle.fizz_instructions.proofs.IdsLemmas.{more_left, no_comma, no_second}
use Rattle.fizz_instructions.proofs.ListLemmas.{no_prefix, not_empty, prefix_first}
use Rattle.fizz_instructions.proofs.reading.read_two_ids.Goals as goal

pub returns-in_default-strip_prefix : goal.returns-in_default-strip_prefix
returns-in_default-strip_prefix c =
    no_comma c.args.prefix.now c.args.first.now c.args.second.now c.args.arguments.now c.in-Some.rest.now c.in-Some.one c.utf8.prefix c.utf8.first
    (rw c.in-Some.is at c.in_ok-one.ensures) (no_prefix c.in-Some.rest.now (44 ∷ []) c.in_default-strip_prefix.ensures.cases)

pub returns-in_default-2 : goal.returns-in_default-2
returns-in_default-2 c =
    no_second c.args.prefix.now c.args.first.now c.args.second.now c.args.arguments.now c.in-Some.rest.now c.in-Some-strip_prefix.rest.now c.in-Some.one c.utf8.prefix c.utf8.first
    (rw c.in-Some.is at c.in_ok-one.ensures)
    (prefix_first c.in-Some.rest.now (44 ∷ []) c.in-Some-strip_prefix.rest.now c.in-Some-strip_prefix.ensures.cases.0 c.in-Some-strip_prefix.ensures.cases.1)
    (rw c.in_default-2.is at c.in_ok-two.ensures)

pub returns-else-is_empty : goal.returns-else-is_empty
returns-else-is_empty c =
    more_left c.args.prefix.now c.args.first.now c.args.second.now c.args.arguments.now c.in-Some.rest.now c.in-Some-strip_prefix.rest.now c.in-Some-2.left.now c.in-Some.one c.in-Some-2.two
    c.utf8.prefix c.utf8.first c.utf8.second
    (rw c.in-Some.is at c.in_ok-one.ensures)
    (prefix_first c.in-Some.rest.now (44 ∷ []) c.in-Some-strip_prefix.rest.now c.in-Some-strip_prefix.ensures.cases.0 c.in-Some-strip_prefix.ensures.cases.1)
    (rw c.in-Some-2.is at c.in_ok-two.ensures)
    (not_empty c.in-Some-2.left.now c.is_empty.result c.is_empty.ensures c.if-is_empty.false)
