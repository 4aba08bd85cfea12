-- Bytes are one document.
use Rattle.std.proofs.Common.{◌≡◌, ℕ, List, sym, ◌∙◌, ap}
use Rattle.std.specs.Str.{IsUtf8}
use Rattle.std.proofs.lemmas.Option.{same_Some}
use Rattle.dom_forest.specs.declared.document.DocNode.{DocNode}
use Rattle.document_machine.specs.Documents.{Runs}
use Rattle.document_machine.specs.Running.{PageState}
use Rattle.document_machine.specs.Settled.{settled_of}
use Rattle.document_machine.specs.Views.{view_of}
use Rattle.page_laws.specs.PrintedDocuments.{IsDocument}

pub same_document : ((prefix : List ℕ) (start a b : PageState) (bytes : List ℕ) → IsUtf8 prefix → Runs prefix start bytes a → Runs prefix start bytes b → a ≡ b) →
    (prefix bytes : List ℕ) (a b : List DocNode) → IsUtf8 prefix → IsDocument prefix bytes a → IsDocument prefix bytes b → a ≡ b
same_document one prefix bytes a b utf8 p q =
    let built : p.built ≡ q.built = one prefix _ p.built q.built bytes utf8 p.run.run q.run.run in
    same_Some a b (sym p.settled ∙ ap (λ (d : PageState). settled_of (view_of prefix d.dom.forest)) built ∙ q.settled)
