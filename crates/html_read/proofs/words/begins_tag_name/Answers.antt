use Rattle.std.proofs.Common.{nat_eq, ◌||◌, codes, sym, ap, ◌∙◌}
use Rattle.std.specs.List.{starts_with}
use Rattle.html_read.proofs.WordLemmas.{tag_front_is}
use Rattle.html_read.proofs.words.begins_tag_name.Goals as goal

pub returns-then-begins_element : goal.returns-then-begins_element
returns-then-begins_element c =
    let bytes = c.args.bytes.now in
    c.if-begins_element.true
    ∙ sym (tag_front_is bytes ∙ ap (λ b. b || starts_with nat_eq (codes "template") bytes) (sym c.begins_element.ensures ∙ c.if-begins_element.true))

pub returns-else-begins_element : goal.returns-else-begins_element
returns-else-begins_element c =
    let bytes = c.args.bytes.now in
    c.begins_template.ensures
    ∙ sym (tag_front_is bytes ∙ ap (λ b. b || starts_with nat_eq (codes "template") bytes) (sym c.begins_element.ensures ∙ c.if-begins_element.false))
