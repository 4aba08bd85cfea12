use Rattle.std.proofs.Common.{◌∙◌, ap}
use Rattle.html_read.specs.Machine.{mode_of}
use Rattle.html_read.proofs.StandsLemmas.{mode_starts}
use Rattle.html_read.proofs.reader.Reader.new.Goals as goal

pub invariant_of-result : goal.invariant_of-result
invariant_of-result c = ap mode_of c.new.ensures.items ∙ mode_starts
