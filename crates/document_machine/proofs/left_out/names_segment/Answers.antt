use Rattle.std.proofs.Common.{◌&&◌, ◌∙◌, ap, sym, codes, drop, take, length, nat_eq}
use Rattle.std.specs.List.{starts_with}
use Rattle.html_names.specs.Names.{begins_with}
use Rattle.document_machine.proofs.Fronts.{begins_with-append, bytes_eq-turned}
use Rattle.document_machine.proofs.left_out.names_segment.Goals as goal

pub returns-in-Some : goal.returns-in-Some
returns-in-Some c =
    let rest = drop (length c.args.prefix.now) c.args.value.now in
    c.starts_with.ensures.value
    ∙ ap (λ bytes. starts_with nat_eq bytes (codes "S:")) c.in-Some.ensures.cases.1
    ∙ bytes_eq-turned (codes "S:") (take 2 rest)
    ∙ sym (begins_with-append c.args.prefix.now (codes "S:") c.args.value.now ∙ ap (λ b. b && begins_with (codes "S:") rest) c.in-Some.ensures.cases.0)

pub returns-in-None : goal.returns-in-None
returns-in-None c =
    sym (begins_with-append c.args.prefix.now (codes "S:") c.args.value.now ∙ ap (λ b. b && begins_with (codes "S:") (drop (length c.args.prefix.now) c.args.value.now)) c.in-None.ensures.cases)
