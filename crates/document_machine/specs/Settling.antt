-- What the parts of a view are to its settled document and its counts, for private functions.
use Rattle.std.specs.Prelude.{ℕ, ◌+◌, ◌-◌, ◌^◌, ◌≤◌, Bool, if◌then◌else◌, List, [], ◌∷◌, ◌++◌, min}
use Rattle.dom_forest.specs.declared.document.DocPart.{DocPart}
use Rattle.dom_forest.specs.declared.document.DocPart.TheVariants as doc
use Rattle.document_machine.specs.declared.status.BoundaryStatus.{BoundaryStatus}
use Rattle.document_machine.specs.declared.status.BoundaryStatus.TheVariants as kind
use Rattle.document_machine.specs.declared.view.Counts.{Counts}
use Rattle.document_machine.specs.declared.view.ViewPart.{ViewPart}
use Rattle.document_machine.specs.declared.view.ViewPart.TheVariants.{Element, Text, Boundary, EndOfElement, EndOfBoundary}
use Rattle.document_machine.specs.Settled.{any_kind, is_failed, is_pending}

-- a number more, where the greatest number of 64 bits stays
abbrev pub bounded_sum : ℕ → ℕ → ℕ
bounded_sum number count = min (count + number) (2 ^ 64 - 1)

-- no count is greater than the greatest number of 64 bits
abbrev pub IsCounted : Counts → Type 0
IsCounted c = (c.boundaries ≤ 2 ^ 64 - 1) × (c.failed ≤ 2 ^ 64 - 1) × (c.pending ≤ 2 ^ 64 - 1)

-- how many boundaries of some kinds are begun
abbrev pub number_in : (BoundaryStatus → Bool) → List ViewPart → ℕ
number_in of_kind [] = 0
number_in of_kind (Element name attributes ∷ parts) = number_in of_kind parts
number_in of_kind (Text t ∷ parts) = number_in of_kind parts
number_in of_kind (Boundary k digest ∷ parts) = (if of_kind k then 1 else 0) + number_in of_kind parts
number_in of_kind (EndOfElement ∷ parts) = number_in of_kind parts
number_in of_kind (EndOfBoundary ∷ parts) = number_in of_kind parts

-- the counts with the boundaries of parts
abbrev pub counts_with : List ViewPart → Counts → Counts
counts_with parts c = record {
  boundaries = bounded_sum (number_in any_kind parts) c.boundaries;
  failed = bounded_sum (number_in is_failed parts) c.failed;
  pending = bounded_sum (number_in is_pending parts) c.pending;
}

-- the counts with one boundary
abbrev pub counts_with_one : BoundaryStatus → Counts → Counts
counts_with_one kind.Complete c = record c { boundaries = bounded_sum 1 c.boundaries }
counts_with_one kind.Pending c = record c { boundaries = bounded_sum 1 c.boundaries; pending = bounded_sum 1 c.pending }
counts_with_one kind.Client c = record c { boundaries = bounded_sum 1 c.boundaries; failed = bounded_sum 1 c.failed }

-- a part as it stands in the settled document: boundaries are left out
abbrev pub doc_part : ViewPart → List DocPart
doc_part (Element name attributes) = doc.Element name attributes ∷ []
doc_part (Text t) = doc.Text t ∷ []
doc_part (Boundary k digest) = []
doc_part EndOfElement = doc.End ∷ []
doc_part EndOfBoundary = []

abbrev pub doc_parts : List ViewPart → List DocPart
doc_parts [] = []
doc_parts (p ∷ ps) = doc_part p ++ doc_parts ps
