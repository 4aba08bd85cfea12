-- Bytes of a page without scripts.
use Rattle.std.specs.Prelude.{List, [], ◌∷◌}
use Rattle.html_read.specs.declared.token.Token.{Token}
use Rattle.html_read.specs.declared.token.Token.TheVariants as tok

-- The token is no script.
abbrev pub IsMarkup : Token → Type 0
IsMarkup (tok.Start name attributes from) = Unit {0}
IsMarkup (tok.End name from) = Unit {0}
IsMarkup (tok.Void name attributes from) = Unit {0}
IsMarkup (tok.Text text from) = Unit {0}
IsMarkup (tok.Comment which from) = Unit {0}
IsMarkup (tok.Script body from) = ⊥

abbrev pub AreMarkup : List Token → Type 0
AreMarkup [] = Unit {0}
AreMarkup (t ∷ ts) = IsMarkup t × AreMarkup ts
