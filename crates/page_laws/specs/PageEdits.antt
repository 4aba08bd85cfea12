-- What the three instructions make of a page: the one place of an id becomes something else.
use Rattle.std.specs.Prelude.{ℕ, ◌==◌, if◌then◌else◌, List, Some}
use Rattle.page_laws.specs.Pages.{Page, nothing, text, element, separator, placeholder, complete, pending, client, joined_pages}

-- The page with other nodes for each placeholder and for each pending boundary, at any depth, made of its id and of what
-- stands in it and after it.
abbrev pub with_replacements : (ℕ → Page → Page) → (ℕ → Page → Page → Page) → Page → Page
with_replacements p b nothing = nothing
with_replacements p b (text t later) = text t (with_replacements p b later)
with_replacements p b (element name attributes content later) =
    element name attributes (with_replacements p b content) (with_replacements p b later)
with_replacements p b (separator later) = separator (with_replacements p b later)
with_replacements p b (placeholder id later) = p id (with_replacements p b later)
with_replacements p b (complete content later) = complete (with_replacements p b content) (with_replacements p b later)
with_replacements p b (pending id fallback later) = b id (with_replacements p b fallback) (with_replacements p b later)
with_replacements p b (client id digest fallback later) =
    client id digest (with_replacements p b fallback) (with_replacements p b later)

abbrev pub filled_at : ℕ → Page → ℕ → Page → Page
filled_at h new id later = if id == h then joined_pages new later else placeholder id later

abbrev pub completed_at : ℕ → Page → ℕ → Page → Page → Page
completed_at h new id fallback later = if id == h then complete new later else pending id fallback later

abbrev pub failed_at : ℕ → List ℕ → ℕ → Page → Page → Page
failed_at h error id fallback later = if id == h then client (Some id) error fallback later else pending id fallback later

-- `$RS`: the content of a segment stands in the place of its placeholder.
abbrev pub with_placeholder_filled : ℕ → Page → Page → Page
with_placeholder_filled h new = with_replacements (filled_at h new) pending

-- `$RC`: the boundary shows its content, and its fallback is gone.
abbrev pub with_boundary_completed : ℕ → Page → Page → Page
with_boundary_completed h new = with_replacements placeholder (completed_at h new)

-- `$RX`: the boundary is left to the client, with the digest of its error.
abbrev pub with_boundary_failed : ℕ → List ℕ → Page → Page
with_boundary_failed h error = with_replacements placeholder (failed_at h error)
