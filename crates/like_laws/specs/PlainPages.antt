-- Pages without separators and digests.
use Rattle.std.specs.Prelude.{[]}
use Rattle.page_laws.specs.Pages.{Page, client, complete, element, nothing, pending, placeholder, separator, text}

-- The page without its separators, and without the digests of its boundaries that are left to the client.
abbrev pub plain_page : Page → Page
plain_page nothing = nothing
plain_page (text t later) = text t (plain_page later)
plain_page (element name attributes content later) = element name attributes (plain_page content) (plain_page later)
plain_page (separator later) = plain_page later
plain_page (placeholder id later) = placeholder id (plain_page later)
plain_page (complete content later) = complete (plain_page content) (plain_page later)
plain_page (pending id fallback later) = pending id (plain_page fallback) (plain_page later)
plain_page (client id digest fallback later) = client id [] (plain_page fallback) (plain_page later)
