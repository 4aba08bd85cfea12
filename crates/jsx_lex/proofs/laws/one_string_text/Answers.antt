use Rattle.jsx_lex.proofs.StringDecoding.{one_text}
use Rattle.jsx_lex.proofs.laws.one_string_text.Goals as goal

pub returns : goal.returns
returns c = one_text
