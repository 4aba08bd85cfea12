use Rattle.std.proofs.lemmas.List.Concat.{flat_map-append}
use Rattle.html_names.specs.Escape.{spelling_of}
use Rattle.html_names.proofs.EscapeLemmas.{escaped_injective, escaped_clean, escaped_unmarked}
use Rattle.html_names.proofs.EscapedPrefixLemmas.{front_is_open, open_is_front, clean_is_escaped}
use Rattle.html_names.proofs.UnescapeLemmas.{clean_when_escaped}
use Rattle.html_names.proofs.Utf8Lemmas.{escaped_utf8, unescaped_utf8}
use Rattle.html_names.proofs.escape.laws_of_escaping.Goals as goal

pub returns : goal.returns
returns c = record {
  one = escaped_injective;
  joined = flat_map-append spelling_of;
  utf8 = λ text. (escaped_utf8 text, unescaped_utf8 text);
  clean = λ bytes. (clean_is_escaped bytes, λ h. clean_when_escaped h.0 bytes h.1);
  inside = escaped_clean;
  unmarked = escaped_unmarked;
  prefix = λ bytes. (front_is_open bytes, open_is_front bytes);
}
