use Rattle.std.proofs.Common.{◌≡◌, ◌∙◌, sym, subst}
use Rattle.std.specs.Str.{IsUtf8}
use Rattle.html_names.specs.Escape.{escape_of}
use Rattle.html_names.proofs.EscapeLemmas.{escaped_injective}
use Rattle.html_names.proofs.UnescapeLemmas.{clean_when_escaped, first_bad_after, all_spelled, bad_left}
use Rattle.html_names.proofs.Utf8Lemmas.{unescaped_utf8}
use Rattle.html_names.proofs.escape.unescape.Goals as goal

-- Where nothing is left, the text is escaped as the bytes.
whole : (c : goal.Then-is_empty) → escape_of c.loop-byte.text.items ≡ c.args.bytes.now
whole c = all_spelled _ _ _ _ c.loop-byte.invariant c.is_empty.ensures c.if-is_empty.true

pub returns-then-is_empty-clause-one : goal.returns-then-is_empty-clause-one
returns-then-is_empty-clause-one c = λ text e. escaped_injective _ _ (whole c ∙ sym e)

pub returns-then-is_empty-clause-clean : goal.returns-then-is_empty-clause-clean
returns-then-is_empty-clause-clean c = clean_when_escaped c.loop-byte.text.items _ (whole c)

pub returns-then-is_empty-clause-utf8 : goal.returns-then-is_empty-clause-utf8
returns-then-is_empty-clause-utf8 c = λ u. unescaped_utf8 _ (subst IsUtf8 (sym (whole c)) u)

pub returns-else-is_empty-clause-refused : goal.returns-else-is_empty-clause-refused
returns-else-is_empty-clause-refused c =
    first_bad_after c.loop-byte.text.items _ _ c.loop-byte.invariant (bad_left _ _ c.is_empty.ensures c.if-is_empty.false c.in_default.ensures)
