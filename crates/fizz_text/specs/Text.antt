-- What a text holds.
use Rattle.std.specs.Prelude.{ℕ, List}
use Rattle.fizz_text.specs.declared.text.Store.{Store}
use Rattle.fizz_text.specs.declared.text.Store.TheVariants.{Owned, Fixed}

-- the bytes of a text, wherever they stand
abbrev pub content : Store → List ℕ
content (Owned bytes) = bytes.items
content (Fixed text) = text.now
