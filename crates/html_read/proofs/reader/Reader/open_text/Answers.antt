use Rattle.std.proofs.Common.{◌∙◌, None, sym, subst}
use Rattle.html_read.specs.Building.{IsTokenOf}
use Rattle.html_read.specs.Reading.{ReaderState, IsTextSoFar}
use Rattle.html_read.proofs.BuildingLemmas.{if_ok}
use Rattle.html_read.proofs.FinishCauseLemmas.{open_text_is, last_so_far, no_text_faulty, no_text_when_empty, no_text_else, whole_mode, not_whole, not_empty, is_nothing, none_of}
use Rattle.html_read.proofs.reader.Reader.open_text.Goals as goal
use Rattle.html_read.proofs.reader.Reader.open_text.Goals.{then-is_some-via-then-is_some, then-is_some-via-else-is_some+then-is_empty, then-is_some-via-else-is_some+else-is_empty+then-not-is_whole_text}

pub returns-then-is_some : goal.returns-then-is_some
returns-then-is_some c =
    subst (λ (r : ReaderState). IsTextSoFar r None) c.self.view_is
    (elim c.then-is_some.branch [
      | then-is_some-via-then-is_some w ↦ no_text_faulty _ (sym c.is_some.ensures ∙ w.if-is_some.true)
      | then-is_some-via-else-is_some+then-is_empty w ↦ no_text_when_empty _ (is_nothing c.self.inside.pending.items _ (sym c.self.inside.pending.ok.0) (sym w.is_empty.ensures ∙ w.if-is_empty.true))
      | then-is_some-via-else-is_some+else-is_empty+then-not-is_whole_text w ↦ no_text_else _ c.self.inside.mode c.self.invariant (not_whole c.self.inside.mode (sym w.is_whole_text.ensures ∙ w.if-not-is_whole_text.true))
    ])

pub returns : goal.returns
returns c =
    let some = not_empty c.self.inside.pending.items _ (sym c.self.inside.pending.ok.0) (sym c.is_empty.ensures ∙ c.if-is_empty.false) in
    let sound = none_of c.self.inside.fault (sym c.is_some.ensures ∙ c.if-is_some.false) in
    if_ok c.token_of.result _ _ (λ found h.
    subst (λ (r : ReaderState). IsTextSoFar r found) c.self.view_is
    (last_so_far _ found some (open_text_is _ c.self.inside.mode found sound c.self.invariant some (whole_mode c.self.inside.mode (sym c.is_whole_text.ensures ∙ c.if-not-is_whole_text.false))
    (subst (λ x. IsTokenOf x c.self.inside.place found) c.deref.ensures.value h)))) c.token_of.ensures
