-- The code's tables and values, as the definitions write them. Of the public clauses only that of `attribute` reads
-- them, by `meaning_of`.
use Rattle.std.specs.Prelude.{ℕ, List, Option, None, Some}
use Rattle.std.proofs.Common.{Bor}
use Rattle.html_names.specs.declared.attributes.AttrKind.{AttrKind}
use Rattle.html_names.specs.declared.attributes.AttrName.{AttrName}
use Rattle.html_names.specs.declared.attributes.AttrName.TheVariants.{Fixed, Own}
use Rattle.html_names.specs.declared.attributes.Attribute.{Attribute}
use Rattle.html_names.specs.Attributes.{Meaning}

-- A row: the name, and what stands beside it.
abbrev pub row_of : {V : Type 0} → Bor (List ℕ) × V → List ℕ × V
row_of row = (row.0.now, row.1)

abbrev pub fixed_name : AttrName → Option (List ℕ)
fixed_name (Fixed name) = Some name.now
fixed_name Own = None

abbrev pub meaning_of : Attribute → Meaning
meaning_of a = (fixed_name a.printed, a.kind)

abbrev pub pair_meaning : AttrName × AttrKind → Meaning
pair_meaning pair = (fixed_name pair.0, pair.1)

abbrev pub attribute_row : Bor (List ℕ) × (AttrName × AttrKind) → List ℕ × Meaning
attribute_row row = (row.0.now, pair_meaning row.1)
