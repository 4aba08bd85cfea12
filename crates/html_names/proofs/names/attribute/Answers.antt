use Rattle.std.proofs.Common.{◌∙◌, sym}
use Rattle.html_names.proofs.RowsLemmas.{attribute_of-unprefixed}
use Rattle.html_names.proofs.names.attribute.Goals as goal

pub returns : goal.returns
returns c =
    attribute_of-unprefixed c.args.name.now _ (sym c.is_prefixed.ensures ∙ c.if-is_prefixed.false)
    (c.find_attribute.ensures ∙ c.attributes_for.ensures)
