use Rattle.std.proofs.Common.{rules}
use Rattle.jsx_lex.proofs.Scanning.{string_len-step}
use Rattle.jsx_lex.proofs.string.string_len.Goals as goal

pub parts-preserved : goal.parts-preserved
parts-preserved c = record {
  within = search rules;
  left = string_len-step c.args.quote c.parts.at c.args.rest.now c.in_ok-part.part c.parts.invariant.within c.parts.invariant.left c.in_ok-part.ensures.part c.in_ok-part.ensures.within.0 c.in_ok-part.ensures.within.1;
}
