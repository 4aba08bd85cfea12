use Rattle.jsx_lex.proofs.Readings as readings
use Rattle.jsx_lex.proofs.laws.one_fault.Goals as goal

pub returns : goal.returns
returns c = readings.one_fault
