use Rattle.std.proofs.Common.{◌≡◌, [], ◌∷◌, length, sym, ◌∙◌, arith}
use Rattle.std.proofs.lemmas.Bool.{eqb-true}
use Rattle.std.proofs.lemmas.List.{nil_from_length}
use Rattle.fizz_instructions.proofs.ArgumentsLemmas.{no_digest_string, no_empty_digest, no_longer_digest}
use Rattle.fizz_instructions.proofs.ListLemmas.{prefix_first}
use Rattle.fizz_instructions.proofs.reading.read_digest.Goals as goal

pub returns-in_default-2 : goal.returns-in_default-2
returns-in_default-2 c =
    no_digest_string c.args.argument.now c.in-Some.string.now
    (prefix_first c.args.argument.now (44 ∷ []) c.in-Some.string.now c.in-Some.ensures.cases.0 c.in-Some.ensures.cases.1)
    (rw c.in_default-2.is at c.in_ok-digest.ensures)

pub returns-then-is_empty-2 : goal.returns-then-is_empty-2
returns-then-is_empty-2 c =
    let none : c.in-Some-2.digest.len ≡ 0 = eqb-true c.in-Some-2.digest.len 0 (sym c.is_empty-2.ensures ∙ c.if-is_empty-2.true) in
    let size : length c.in-Some-2.digest.items ≡ 0 = omega (arith, c.in-Some-2.digest.ok.0) in
    no_empty_digest c.args.argument.now c.in-Some.string.now c.in-Some-2.digest.items c.in-Some-2.length
    (prefix_first c.args.argument.now (44 ∷ []) c.in-Some.string.now c.in-Some.ensures.cases.0 c.in-Some.ensures.cases.1)
    (rw c.in-Some-2.is at c.in_ok-digest.ensures)
    (nil_from_length c.in-Some-2.digest.items size)

pub returns-then-length-string : goal.returns-then-length-string
returns-then-length-string c =
    no_longer_digest c.args.argument.now c.in-Some.string.now c.in-Some-2.digest.items c.in-Some-2.length
    (prefix_first c.args.argument.now (44 ∷ []) c.in-Some.string.now c.in-Some.ensures.cases.0 c.in-Some.ensures.cases.1)
    (rw c.in-Some-2.is at c.in_ok-digest.ensures)
    c.if-length-string.true
