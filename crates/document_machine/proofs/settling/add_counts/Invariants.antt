use Rattle.std.proofs.Common.{◌≡◌, drop}
use Rattle.document_machine.specs.Settling.{IsCounted, counts_with}
use Rattle.document_machine.proofs.settling.add_counts.Given as goal

-- what is left gives the counts of all
abbrev pub invariant-loop-part : goal.invariant-loop-part
invariant-loop-part l = (counts_with (drop l.part-index l.parts) l.counts ≡ counts_with l.parts l.fn.counts) × IsCounted l.counts
