use Rattle.jsx_syntax.proofs.Reading.{one_file}
use Rattle.jsx_syntax.proofs.laws.one_file.Goals as goal

pub returns : goal.returns
returns c = one_file
