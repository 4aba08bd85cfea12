-- A small page, for worked examples: a boundary that is pending, in it a fallback with a placeholder, and after it an
-- element with a placeholder.
use Rattle.std.specs.Prelude.{[], ◌∷◌, codes}
use Rattle.page_laws.specs.Pages.{Page, nothing, text, element, placeholder, pending}
use Rattle.page_laws.specs.Documents.{StreamedDocument}

-- `<!--$?--><template id="B:1"></template>wait<!--/$--><p><template id="P:2"></template></p>`
abbrev pub pending_and_placeholder : Page
pending_and_placeholder = pending 1 (text (codes "wait") nothing) (element (codes "p") [] (placeholder 2 nothing) nothing)

-- the same after `$RX` with a digest
abbrev pub new_text : Page
new_text = text (codes "new") nothing

-- the page with a container that holds the placeholder once more
abbrev pub with_container : StreamedDocument
with_container = record { shown = pending_and_placeholder; containers = record { id = 7; content = placeholder 2 nothing } ∷ [] }
