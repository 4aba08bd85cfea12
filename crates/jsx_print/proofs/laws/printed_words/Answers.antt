use Rattle.jsx_print.proofs.PrintedLemmas.{printed_file}
use Rattle.jsx_print.proofs.laws.printed_words.Goals as goal

pub returns : goal.returns
returns c = λ file shallow. printed_file file shallow
