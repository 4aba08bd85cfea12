use Rattle.fizz_instructions.proofs.ArgumentsLemmas.{two_numbers}
use Rattle.fizz_instructions.proofs.reading.read_segment.Goals as goal

pub returns-else-segment-placeholder : goal.returns-else-segment-placeholder
returns-else-segment-placeholder c =
    two_numbers c.args.prefix.now c.args.arguments.now c.in-Some.segment c.in-Some.placeholder c.utf8.prefix (rw c.in-Some.is at c.in_ok-segment.ensures) c.if-segment-placeholder.false
