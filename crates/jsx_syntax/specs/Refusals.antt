-- Where words stop being those of a file.
use Rattle.std.specs.Prelude.{◌≡◌, List, [], ◌∷◌, ◌++◌}
use Rattle.jsx_lex.specs.declared.word.Word.{Word}
use Rattle.jsx_syntax.specs.declared.file.File.{File}
use Rattle.jsx_syntax.specs.Grammar.{SpellsFile}

-- Some file goes on from these words.
pub record IsAlive (words : List Word) : Type 0 where
  pub more : List Word
  pub file : File
  pub spells : SpellsFile (words ++ more) file

-- No file has the next word after those, or, at the end, they alone are no file.
abbrev pub IsDead : List Word → List Word → Type 0
IsDead before [] = (file : File) → SpellsFile before file → ⊥
IsDead before (word ∷ after) = (more : List Word) (file : File) → SpellsFile (before ++ word ∷ more) file → ⊥

-- After `before` comes the first word that no file has there, or the words end too early.
pub record IsFirstRefused (words before after : List Word) : Type 0 where
  pub split : words ≡ before ++ after
  pub alive : IsAlive before
  pub dead : IsDead before after
