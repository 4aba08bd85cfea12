use Rattle.std.proofs.Common.{◌≡◌, OnOk, subst}
use Rattle.std.specs.Prelude.{codes}
use Rattle.html_names.specs.Escape.{escape_of}
use Rattle.fizz_instructions.specs.Bodies.{placeholder_id}
use Rattle.flush_queues.proofs.OutputLemmas.{three_parts}
use Rattle.flush_queues.proofs.output.Output.write_placeholder.Goals as goal

pub returns : goal.returns
returns c =
    subst (λ x. OnOk c.write-2.result (c.write-2.new.self ≡ x))
    (three_parts c.args.self.now (codes "<template id=\"") (escape_of (placeholder_id c.args.prefix.now c.args.id)) (codes "\"></template>")
    c.write.new.self c.write_id.new.self c.in_ok-write.ensures c.in_ok-write_id.ensures)
    c.write-2.ensures
