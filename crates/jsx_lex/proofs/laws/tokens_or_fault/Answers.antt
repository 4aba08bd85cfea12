use Rattle.jsx_lex.proofs.Readings as readings
use Rattle.jsx_lex.proofs.laws.tokens_or_fault.Goals as goal

pub returns-clause-one : goal.returns-clause-one
returns-clause-one c = readings.tokens_or_place

pub returns-clause-not_both : goal.returns-clause-not_both
returns-clause-not_both c = readings.tokens_or_fault
