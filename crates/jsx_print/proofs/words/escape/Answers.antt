use Rattle.std.proofs.Common.{sym, subst}
use Rattle.std.specs.Str.{IsUtf8}
use Rattle.jsx_print.proofs.Utf8Lemmas.{escaped_utf8}
use Rattle.jsx_print.proofs.words.escape.Goals as goal

pub unwrap-requires : goal.unwrap-requires
unwrap-requires c =
    c.from_bytes.ensures.accepted.1 (subst IsUtf8 (sym c.in_ok-bytes.ensures) (escaped_utf8 c.as_bytes.result.now c.as_bytes.ensures.utf8))
