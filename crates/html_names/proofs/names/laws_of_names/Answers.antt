use Rattle.std.proofs.Common.{◌++◌, codes}
use Rattle.html_names.proofs.NamesLemmas.{element_is_plain, attribute_is_plain, reserved_after}
use Rattle.html_names.proofs.names.laws_of_names.Goals as goal

pub returns : goal.returns
returns c = record {
  elements = element_is_plain;
  attributes = attribute_is_plain;
  own_ids = λ prefix more.
      (reserved_after prefix (codes "B:" ++ more), reserved_after prefix (codes "S:" ++ more), reserved_after prefix (codes "P:" ++ more));
}
