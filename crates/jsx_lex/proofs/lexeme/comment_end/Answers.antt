use Rattle.std.proofs.Common.{rules, sym}
use Rattle.jsx_lex.proofs.Scanning.{comment_end-step}
use Rattle.jsx_lex.proofs.lexeme.comment_end.Goals as goal

pub loop-at-preserved : goal.loop-at-preserved
loop-at-preserved c = comment_end-step c.loop-at.at c.args.rest.now (search rules) c.loop-at.invariant (sym c.if-starts_with.ensures.value)
