use Rattle.fizz_cli.proofs.Pages.{MachineLaws}
use Rattle.fizz_cli.proofs.RefusalsLemmas.{FaultLaws, one_page_refusal, page_excludes}
use Rattle.fizz_cli.proofs.laws.laws_of_pages.Goals as goal

pub returns-clause-accepted : goal.returns-clause-accepted
returns-clause-accepted c =
    let laws : MachineLaws c.args.prefix.now = record {
      one = λ a b bytes r s. c.laws_of_documents.ensures.one _ _ a b bytes c.utf8.prefix r s;
      sound = λ end bytes r met f. c.laws_of_documents.ensures.sound _ _ end bytes c.utf8.prefix r met f;
      whole = λ end bytes at r e. c.laws_of_documents.ensures.whole _ _ end bytes at c.utf8.prefix r e;
    } in
    page_excludes c.args.prefix.now laws

pub returns-clause-one : goal.returns-clause-one
returns-clause-one c =
    let laws : MachineLaws c.args.prefix.now = record {
      one = λ a b bytes r s. c.laws_of_documents.ensures.one _ _ a b bytes c.utf8.prefix r s;
      sound = λ end bytes r met f. c.laws_of_documents.ensures.sound _ _ end bytes c.utf8.prefix r met f;
      whole = λ end bytes at r e. c.laws_of_documents.ensures.whole _ _ end bytes at c.utf8.prefix r e;
    } in
    let ones : FaultLaws c.args.prefix.now = record {
      one_fault = λ bytes f g p q. c.laws_of_documents.ensures.one_fault _ _ bytes f g c.utf8.prefix p q;
      one_end = λ bytes m n p q. c.laws_of_documents.ensures.one_end _ _ bytes m n p q;
    } in
    one_page_refusal c.args.prefix.now laws ones
