use Rattle.std.proofs.Common.{sym, ◌∙◌}
use Rattle.html_read.proofs.BuildingLemmas.{if_ok, end_branch, comment_branch, script_branch, tag_branch}
use Rattle.html_read.proofs.building.token_of.Goals as goal

pub returns-then-starts_with : goal.returns-then-starts_with
returns-then-starts_with c =
    end_branch c.args.bytes.now c.args.from c.end_of.result (sym c.starts_with-else-not-starts_with.ensures.value ∙ c.if-starts_with.true) c.end_of.ensures

pub returns-then-starts_with-2 : goal.returns-then-starts_with-2
returns-then-starts_with-2 c =
    comment_branch c.args.bytes.now c.args.from c.comment_of.result (sym c.starts_with-else-starts_with.ensures.value ∙ c.if-starts_with-2.true) c.comment_of.ensures

pub returns-then-starts_with-3 : goal.returns-then-starts_with-3
returns-then-starts_with-3 c =
    if_ok c.script_of.result _ _ (λ found is. script_branch c.args.bytes.now c.args.from found (sym c.starts_with-else-starts_with-2.ensures.value ∙ c.if-starts_with-3.true) is) c.script_of.ensures

pub returns-else-starts_with-3 : goal.returns-else-starts_with-3
returns-else-starts_with-3 c =
    if_ok c.tag_of.result _ _ (λ found is. tag_branch c.args.bytes.now c.args.from found (sym c.starts_with.ensures.value ∙ c.if-not-starts_with.false) (sym c.starts_with-else-not-starts_with.ensures.value ∙ c.if-starts_with.false)
    (sym c.starts_with-else-starts_with.ensures.value ∙ c.if-starts_with-2.false) (sym c.starts_with-else-starts_with-2.ensures.value ∙ c.if-starts_with-3.false) is) c.tag_of.ensures
