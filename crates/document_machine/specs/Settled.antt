-- The settled document of a view, and how many boundaries a view has.
use Rattle.std.specs.Prelude.{◌≡◌, ◌≢◌, ℕ, ◌+◌, ◌-◌, ◌^◌, Bool, true, false, ◌==◌, if◌then◌else◌, List, [], ◌∷◌, ◌++◌, Option, Some, None, min}
use Rattle.dom_forest.specs.declared.document.DocNode.{DocNode}
use Rattle.dom_forest.specs.declared.document.DocNode.TheVariants as doc
use Rattle.document_machine.specs.declared.status.BoundaryStatus.{BoundaryStatus}
use Rattle.document_machine.specs.declared.status.BoundaryStatus.TheVariants as kind
use Rattle.document_machine.specs.declared.view.Counts.{Counts}
use Rattle.document_machine.specs.declared.view.SettledRefused.{SettledRefused}
use Rattle.document_machine.specs.declared.view.SettledRefused.TheVariants.{StillPending, OutOfMemory}
use Rattle.document_machine.specs.Views.{View, end, text, element, boundary}

abbrev pub any_kind : BoundaryStatus → Bool
any_kind k = true

abbrev pub is_failed : BoundaryStatus → Bool
is_failed kind.Complete = false
is_failed kind.Pending = false
is_failed kind.Client = true

abbrev pub is_pending : BoundaryStatus → Bool
is_pending kind.Complete = false
is_pending kind.Pending = true
is_pending kind.Client = false

-- How many boundaries of some kinds there are, nested ones included.
abbrev pub number_of : (BoundaryStatus → Bool) → View → ℕ
number_of of_kind end = 0
number_of of_kind (text t later) = number_of of_kind later
number_of of_kind (element name attributes items later) = number_of of_kind items + number_of of_kind later
number_of of_kind (boundary k digest items later) =
    (if of_kind k then 1 else 0) + (number_of of_kind items + number_of of_kind later)

-- A count stays at the greatest number of 64 bits.
abbrev pub bounded_count : (BoundaryStatus → Bool) → View → ℕ
bounded_count of_kind view = min (number_of of_kind view) (2 ^ 64 - 1)

-- The elements and texts, those of each boundary in its place.
abbrev pub nodes_of : View → List DocNode
nodes_of end = []
nodes_of (text t later) = doc.Text t ∷ nodes_of later
nodes_of (element name attributes items later) = doc.Element name attributes (nodes_of items) ∷ nodes_of later
nodes_of (boundary k digest items later) = nodes_of items ++ nodes_of later

-- The settled document, which is there where nothing is pending.
abbrev pub settled_of : View → Option (List DocNode)
settled_of view = if number_of is_pending view == 0 then Some (nodes_of view) else None

abbrev pub counts_of : View → Counts
counts_of view = record { boundaries = bounded_count any_kind view; failed = bounded_count is_failed view; pending = bounded_count is_pending view }

-- Why there is no settled document. Want of memory may always come.
abbrev pub IsSettledCause : View → SettledRefused → Type 0
IsSettledCause view (StillPending count) = (number_of is_pending view ≢ 0) × (count ≡ bounded_count is_pending view)
IsSettledCause view OutOfMemory = Unit {0}
