use Rattle.std.proofs.Common.{◌≡◌, OnOk, subst}
use Rattle.std.specs.Prelude.{codes}
use Rattle.html_names.specs.Escape.{escape_of}
use Rattle.fizz_instructions.specs.Bodies.{boundary_id}
use Rattle.html_names.specs.Comments.{comment_spelling}
use Rattle.html_names.specs.declared.comments.CommentKind.TheVariants.{Pending}
use Rattle.flush_queues.proofs.OutputLemmas.{four_parts}
use Rattle.flush_queues.proofs.output.Output.write_pending.Goals as goal

pub returns : goal.returns
returns c =
    subst (λ x. OnOk c.write-2.result (c.write-2.new.self ≡ x))
    (four_parts c.args.self.now (comment_spelling Pending) (codes "<template id=\"")
    (escape_of (boundary_id c.args.prefix.now c.args.id)) (codes "\"></template>")
    c.write_comment.new.self c.write.new.self c.write_id.new.self
    c.in_ok-write_comment.ensures c.in_ok-write.ensures c.in_ok-write_id.ensures)
    c.write-2.ensures
