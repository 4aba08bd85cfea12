use Rattle.std.proofs.Common.{◌≡◌, false, true, ◌∙◌, sym, subst}
use Rattle.std.specs.Str.{IsUtf8}
use Rattle.std.proofs.lemmas.Str.{IsUtf8-append}
use Rattle.fizz_instructions.proofs.HexadecimalLemmas.{numeral_utf8}
use Rattle.document_machine.proofs.edits.id_text.Goals as goal

pub unreachable-requires : goal.unreachable-requires
unreachable-requires c =
    let front = subst IsUtf8 (sym c.in_ok-id.ensures.items) c.as_bytes.ensures.utf8 in
    let marked = subst IsUtf8 (sym c.in_ok-extend_from_slice.ensures.items) (IsUtf8-append _ _ front c.as_bytes-2.ensures.utf8) in
    let digits = subst IsUtf8 (sym (c.as_bytes-3.ensures.value ∙ c.hex_of.ensures.value)) (numeral_utf8 c.args.number) in
    let all = subst IsUtf8 (sym c.in_ok-extend_from_slice-2.ensures.items) (IsUtf8-append _ _ marked digits) in
    let accepted : false ≡ true = c.in-Err.ensures.accepted.1 all in
    cc
