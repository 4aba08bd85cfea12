use Rattle.std.proofs.Common.{List, ℕ, ◌∙◌, sym, ap}
use Rattle.fizz_instructions.specs.Bodies.{id_of}
use Rattle.fizz_instructions.proofs.IdsLemmas.{no_string_no_id, other_string_no_id}
use Rattle.fizz_instructions.proofs.reading.read_id.Goals as goal

pub returns-in_default : goal.returns-in_default
returns-in_default c =
    let none = rw c.in_default.is at c.in_ok-id.ensures in
    no_string_no_id c.args.prefix.now c.args.mark.now c.args.bytes.now c.utf8.prefix c.utf8.mark none

pub returns : goal.returns
returns c =
    other_string_no_id c.args.prefix.now c.args.mark.now c.args.bytes.now c.in-Some.id.items c.in-Some.length c.utf8.prefix c.utf8.mark
    (rw c.in-Some.is at c.in_ok-id.ensures)
    (λ n small e. c.in-None.ensures n small
    (c.deref.ensures.value ∙ (e ∙ (ap (λ (p : List ℕ). id_of p c.args.mark.now n) (sym c.as_bytes.ensures.value) ∙ ap (λ (m : List ℕ). id_of c.as_bytes.result.now m n) (sym c.as_bytes-2.ensures.value)))))
