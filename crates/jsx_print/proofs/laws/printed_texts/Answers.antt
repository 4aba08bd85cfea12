use Rattle.std.proofs.Common.{List, sym, subst}
use Rattle.jsx_lex.specs.declared.word.Word.{Word}
use Rattle.jsx_syntax.specs.declared.file.File.{File}
use Rattle.jsx_syntax.specs.Grammar.{SpellsFile}
use Rattle.jsx_print.specs.Printed.{IsShallow, IsReread}
use Rattle.jsx_print.specs.Printing.{file_words}
use Rattle.jsx_print.proofs.AsideLemmas.{reread}
use Rattle.jsx_print.proofs.RowLemmas.{row_lexed}
use Rattle.jsx_print.proofs.PrintedLemmas.{printed_file, printed_row}
use Rattle.jsx_print.proofs.laws.printed_texts.Goals as goal

read_again : (file : File) → IsShallow file → IsReread file
read_again file shallow =
    let lexed = row_lexed (file_words file) (printed_row file shallow) in
    let parsed = reread (file_words file) file (printed_file file shallow) in
    record {
      tokens = lexed.tokens;
      are_tokens = lexed.are_tokens;
      again = parsed.other_file;
      spells = subst (λ (words : List Word). SpellsFile words parsed.other_file) (sym lexed.words_are) parsed.spells;
      same = parsed.same;
    }

pub returns : goal.returns
returns c = λ file shallow. read_again file shallow
