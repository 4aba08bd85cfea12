use Rattle.fizz_cli.proofs.Pages.{MachineLaws}
use Rattle.fizz_cli.proofs.ProgramsLemmas.{ProgramLaws, program_excludes}
use Rattle.fizz_cli.proofs.RefusalsLemmas.{page_excludes, script_excludes}
use Rattle.fizz_cli.proofs.laws.laws_of_steps.Goals as goal

pub returns-clause-program : goal.returns-clause-program
returns-clause-program c =
    let laws : ProgramLaws = record {
      one_tokens = c.one_token_list.ensures;
      one_lex = c.one_fault.ensures;
      not_both = c.tokens_or_fault.ensures.not_both;
      one_file = c.one_file.ensures;
      one_syntax = c.one_syntax_fault.ensures;
      one_check = c.one_check_fault.ensures.one;
      no_check = c.one_check_fault.ensures.none;
    } in
    program_excludes laws

pub returns-clause-script : goal.returns-clause-script
returns-clause-script c = script_excludes

pub returns-clause-page : goal.returns-clause-page
returns-clause-page c = λ prefix name file out refusal utf8.
    let laws : MachineLaws prefix = record {
      one = λ a b bytes r s. c.laws_of_documents.ensures.one prefix _ a b bytes utf8 r s;
      sound = λ end bytes r met f. c.laws_of_documents.ensures.sound prefix _ end bytes utf8 r met f;
      whole = λ end bytes at r e. c.laws_of_documents.ensures.whole prefix _ end bytes at utf8 r e;
    } in
    page_excludes prefix laws name file out refusal
