use Rattle.jsx_syntax.proofs.Reading.{file_or_refused}
use Rattle.jsx_syntax.proofs.laws.file_or_first_refused.Goals as goal

pub returns : goal.returns
returns c = file_or_refused
