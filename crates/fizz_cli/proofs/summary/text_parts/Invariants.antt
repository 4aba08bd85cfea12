use Rattle.std.proofs.Common.{◌≡◌, ◌≤◌, ◌+◌, drop}
use Rattle.fizz_cli.specs.Summaries.{text_parts}
use Rattle.fizz_cli.proofs.summary.text_parts.Given as goal

-- what was counted, with what is left, is all
abbrev pub invariant-loop-part : goal.invariant-loop-part
invariant-loop-part l =
    (l.texts + text_parts (drop l.part-index l.parts) ≡ text_parts l.parts) × (l.texts ≤ l.part-index)
