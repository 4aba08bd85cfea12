use Rattle.std.proofs.Common.{◌∙◌}
use Rattle.document_machine.specs.Shown.{view_of_parts}
use Rattle.document_machine.proofs.SeenLemmas.{counts_with-parts}
use Rattle.document_machine.proofs.settling.counts_of.Goals as goal

pub returns : goal.returns
returns c = c.add_counts.ensures ∙ counts_with-parts (view_of_parts c.args.parts.now) c.args.parts.now c.requires
