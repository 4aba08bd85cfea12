use Rattle.fizz_cli.specs.Trees.{RefusesTreePage, settled_page}
use Rattle.fizz_cli.specs.declared.steps.sources.Sources.{Sources}
use Rattle.fizz_cli.proofs.ProgramsLemmas.{ProgramLaws}
use Rattle.fizz_cli.proofs.SourcesLemmas.{next_excludes, one_next}
use Rattle.fizz_cli.proofs.TreesLemmas.{one_page_refusal, shown_sound}
use Rattle.fizz_cli.proofs.laws.laws_of_programs.Goals as goal

pub returns : goal.returns
returns c =
    let laws : ProgramLaws = record {
      one_tokens = c.one_token_list.ensures;
      one_lex = c.one_fault.ensures;
      not_both = c.tokens_or_fault.ensures.not_both;
      one_file = c.one_file.ensures;
      one_syntax = c.one_syntax_fault.ensures;
      one_check = c.one_check_fault.ensures.one;
      no_check = c.one_check_fault.ensures.none;
    } in
    record {
      shown = λ at app script prefix out refusal s.
          next_excludes laws at app script (λ (o : Sources). RefusesTreePage app (settled_page o prefix)) s.sources refusal s.accepted
          (shown_sound app (settled_page s.sources prefix) refusal s.prints.shown);
      one_tree = λ at app script prefix a b.
          one_next laws at app script (λ (o : Sources). RefusesTreePage app (settled_page o prefix)) a b
          (λ sources. one_page_refusal app (settled_page sources prefix) a b);
      accepted = λ at app script prefix sources refusal s.
          next_excludes laws at app script (λ (o : Sources). RefusesTreePage app (settled_page o prefix)) sources refusal s.accepted
          (shown_sound app (settled_page sources prefix) refusal s.shown);
    }
