use Rattle.std.proofs.Common.{◌∙◌, ap, nat_lt}
use Rattle.jsx_check.proofs.CountsLemmas.{has_name-count}
use Rattle.jsx_check.proofs.names.Names.has.Goals as goal

pub returns : goal.returns
returns c = ap (nat_lt 0) (c.count.ensures ∙ ap (λ b. Rattle.jsx_check.specs.SeenNames.name_count b c.args.self.now) c.as_str.ensures.value) ∙ has_name-count c.args.name.now c.args.self.now
