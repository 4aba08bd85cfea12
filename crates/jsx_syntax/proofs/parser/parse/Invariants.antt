use Rattle.std.proofs.Common.{take}
use Rattle.jsx_syntax.specs.Advances.{LeadsTo}
use Rattle.jsx_syntax.proofs.parser.parse.Given as goal

abbrev pub invariant-loop-token : goal.invariant-loop-token
invariant-loop-token l = LeadsTo l.text (take l.token-index l.tokens) l.state
