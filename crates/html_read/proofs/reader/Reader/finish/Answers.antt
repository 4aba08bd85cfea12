use Rattle.std.proofs.Common.{◌∙◌, sym, subst}
use Rattle.html_read.specs.Building.{IsTokenOf}
use Rattle.html_read.specs.Reading.{ReaderState, IsUnfinished, IsLast}
use Rattle.html_read.proofs.FinishCauseLemmas.{unfinished, open_text_is, last_whole, whole_mode, not_whole, not_empty}
use Rattle.html_read.proofs.reader.Reader.finish.Goals as goal

pub returns-then-not-is_whole_text-clause-refused : goal.returns-then-not-is_whole_text-clause-refused
returns-then-not-is_whole_text-clause-refused c =
    let some = not_empty c.self.inside.pending.items _ (sym c.self.inside.pending.ok.0) (sym c.is_empty.ensures ∙ c.if-is_empty.false) in
    subst (λ (r : ReaderState). IsUnfinished r c.self.inside.place) c.self.view_is
    (unfinished _ c.self.inside.mode c.in_default.is c.self.invariant some (not_whole c.self.inside.mode (sym c.is_whole_text.ensures ∙ c.if-not-is_whole_text.true)))

pub returns-clause-last : goal.returns-clause-last
returns-clause-last c =
    let some = not_empty c.self.inside.pending.items _ (sym c.self.inside.pending.ok.0) (sym c.is_empty.ensures ∙ c.if-is_empty.false) in
    let is = subst (λ x. IsTokenOf x c.self.inside.place c.in_ok-token_of.field-0) c.deref.ensures.value c.in_ok-token_of.ensures in
    subst (λ (r : ReaderState). IsLast r c.in_ok-token_of.field-0) c.self.view_is
    (open_text_is _ c.self.inside.mode c.in_ok-token_of.field-0 c.in_default.is c.self.invariant some (whole_mode c.self.inside.mode (sym c.is_whole_text.ensures ∙ c.if-not-is_whole_text.false)) is)

pub returns-clause-whole : goal.returns-clause-whole
returns-clause-whole c = last_whole c.args.self c.in_ok-token_of.field-0 (returns-clause-last c)
