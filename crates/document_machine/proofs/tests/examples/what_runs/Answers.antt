use Rattle.std.proofs.Common.{◌≡◌, [], ◌∷◌, ◌++◌, ◌∙◌, ap, codes, inl, inr, refl, sym}
use Rattle.html_names.specs.Elements.{element_rows}
use Rattle.html_read.specs.Names.{IsTagName}
use Rattle.html_read.specs.Faults.{IsBegun, begins_tag}
use Rattle.html_read.specs.declared.token.Token.TheVariants as tok
use Rattle.document_machine.specs.Documents.{Runs}
use Rattle.document_machine.specs.Faults.{HasSomeFault, closes_nothing}
use Rattle.document_machine.specs.Knowing.{RunsSomewhere}
use Rattle.document_machine.specs.Running.{at_first}
use Rattle.document_machine.specs.declared.fault.MachineFault.TheVariants.{Html}
use Rattle.document_machine.proofs.JoinedRuns.{text_no_tag}
use Rattle.document_machine.proofs.TokenRuns.{nothing_true}
use Rattle.document_machine.proofs.RunsLemmas.{runs_begun}
use Rattle.document_machine.proofs.tests.examples.what_runs.Goals as goal

abbrev nothing_runs : Runs [] at_first [] at_first
nothing_runs = record {
  toks = [];
  rest = [];
  last = [];
  split = record { whole = refl; tokens = tt; begun = inl refl; ended = λ e. e };
  text = λ t is text e. nothing_true (sym (text_no_tag t (60 ∷ []) is text) ∙ ap (λ xs. begins_tag (xs ++ 60 ∷ [])) (sym e));
  steps = refl;
}

paragraph : IsTagName (codes "p")
unfolding element_rows
paragraph = refl

tag_begun : IsBegun (codes "<p")
tag_begun = (codes ">", tok.Start (codes "p") [] 0, (paragraph, tt), refl, inr (λ e. cc))

pub returns : goal.returns
returns c = record {
  begun = record { end = at_first; run = runs_begun [] at_first at_first [] (codes "<p") nothing_runs (λ e. refl) tag_begun refl };
  fault = record {
    fault = Html 0;
    has = inl (record {
      before = [];
      stop = tok.End (codes "p") 0;
      more = [];
      built = at_first;
      tokens = (paragraph, refl, tt, tt);
      are = refl;
      steps = refl;
      refuses = closes_nothing at_first (codes "p") 0 refl;
    });
  };
}
