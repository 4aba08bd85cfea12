use Rattle.jsx_syntax.proofs.OneRefusal.{one_refusal}
use Rattle.jsx_syntax.proofs.laws.one_syntax_fault.Goals as goal

pub returns : goal.returns
returns c = one_refusal
