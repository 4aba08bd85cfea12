use Rattle.jsx_print.specs.Printing.{file_words}
use Rattle.jsx_print.proofs.RowLemmas.{row_lexed}
use Rattle.jsx_print.proofs.PrintedLemmas.{printed_row}
use Rattle.jsx_print.proofs.laws.printed_bytes.Goals as goal

pub returns : goal.returns
returns c = λ file shallow. row_lexed (file_words file) (printed_row file shallow)
