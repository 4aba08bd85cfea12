use Rattle.std.proofs.Common.{◌≡◌, ◌++◌, ◌∙◌, OnOk, ap, subst}
use Rattle.std.specs.Prelude.{codes}
use Rattle.html_names.specs.Escape.{escape_of}
use Rattle.flush_queues.proofs.OutputLemmas.{digest_template-cons, three_parts}
use Rattle.flush_queues.proofs.output.Output.write_digest.Goals as goal

pub returns : goal.returns
returns c =
    subst (λ x. OnOk c.write-3.result (c.write-3.new.self ≡ x))
    (three_parts c.args.self.now (codes "<template data-dgst=\"") (escape_of c.args.digest.now) (codes "\"></template>")
    c.write-2.new.self c.write_escaped.new.self c.in_ok-write.ensures c.in_ok-write_escaped.ensures
    ∙ ap (λ x. c.args.self.now ++ x) (digest_template-cons c.args.digest.now _ _ c.in-Some.ensures.cases.0))
    c.write-3.ensures
