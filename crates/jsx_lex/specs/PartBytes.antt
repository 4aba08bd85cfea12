-- The bytes that a part stands for, as the lexer keeps it.
use Rattle.std.specs.Prelude.{ℕ, List, [], ◌∷◌, encode_utf8}
use Rattle.jsx_lex.specs.declared.string.Meaning.{Meaning}
use Rattle.jsx_lex.specs.declared.string.Meaning.TheVariants.{Byte, Character}

abbrev pub bytes_of : Meaning → List ℕ
bytes_of (Byte b) = b ∷ []
bytes_of (Character c) = encode_utf8 c
