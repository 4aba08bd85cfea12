-- Which files the printer's promise is about, and what it promises of bytes.
use Rattle.std.specs.Prelude.{◌≡◌, ℕ, List, []}
use Rattle.jsx_lex.specs.TokenLists.{AreTokens}
use Rattle.jsx_lex.specs.TokenMeanings.{words_of}
use Rattle.jsx_lex.specs.declared.token.Token.{Token}
use Rattle.jsx_lex.specs.declared.word.Word.{Word}
use Rattle.jsx_syntax.specs.declared.file.File.{File}
use Rattle.jsx_syntax.specs.Grammar.{Syntax, spell, tree, Fits, components, SpellsFile}
use Rattle.jsx_print.specs.Aside.{bare_file}
use Rattle.jsx_print.specs.Printing.{file_words}
use Rattle.jsx_print.specs.Rows.{placed}
use Rattle.jsx_print.specs.Spelling as spelling

-- The file is that of a text which nests one less deep than it may: it would fit if one more were open around it.
pub record IsShallow (file : File) : Type 0 where
  pub text : List ℕ
  pub tokens : List Token
  pub are_tokens : AreTokens text tokens
  pub syntax : Syntax components
  pub fits : Fits components syntax 1
  pub spelled : spell components syntax [] ≡ words_of text tokens
  pub tree_is : tree components syntax ≡ file.components

-- The bytes of the words have tokens that say these words, each name at its place.
pub record IsLexed (words : List Word) : Type 0 where
  pub tokens : List Token
  pub are_tokens : AreTokens (spelling.spelled words) tokens
  pub words_are : words_of (spelling.spelled words) tokens ≡ placed 0 words

-- The bytes that are printed for the file have tokens that spell a file, which is this one but for the places of names.
pub record IsReread (file : File) : Type 0 where
  pub tokens : List Token
  pub are_tokens : AreTokens (spelling.spelled (file_words file)) tokens
  pub again : File
  pub spells : SpellsFile (words_of (spelling.spelled (file_words file)) tokens) again
  pub same : bare_file again ≡ bare_file file
