use Rattle.jsx_lex.proofs.Readings.{one_list}
use Rattle.jsx_lex.proofs.laws.one_token_list.Goals as goal

pub returns : goal.returns
returns c = one_list
