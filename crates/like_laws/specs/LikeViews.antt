-- Views but for the digests of their boundaries.
use Rattle.std.specs.Prelude.{[]}
use Rattle.document_machine.specs.Views.{View, boundary, element, end, text}

-- The view without the digests of its boundaries.
abbrev pub without_digests : View → View
without_digests end = end
without_digests (text t later) = text t (without_digests later)
without_digests (element name attributes items later) = element name attributes (without_digests items) (without_digests later)
without_digests (boundary kind digest items later) = boundary kind [] (without_digests items) (without_digests later)
