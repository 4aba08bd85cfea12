use Rattle.std.proofs.Common.{ap, sym, nat_lt}
use Rattle.std.proofs.lemmas.List.{length-reverse}
use Rattle.document_machine.proofs.building.has_room.Goals as goal

pub returns : goal.returns
unfolding Rattle.document_machine.specs.Documents.most_open
returns c = ap (λ n. nat_lt n 512) (sym (length-reverse c.args.opened.now))
