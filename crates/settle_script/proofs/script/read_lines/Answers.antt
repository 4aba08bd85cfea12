use Rattle.settle_script.proofs.ScriptsLemmas.{many_lines, few_lines}
use Rattle.settle_script.proofs.script.read_lines.Goals as goal

pub returns-then-count-gt-MOST_LINES : goal.returns-then-count-gt-MOST_LINES
returns-then-count-gt-MOST_LINES c = many_lines c.args.lines.now c.min.result c.if-count-gt-MOST_LINES.true c.min.ensures

pub returns : goal.returns
returns c = few_lines c.args.lines.now c.read_events.result c.if-count-gt-MOST_LINES.false c.read_events.ensures
