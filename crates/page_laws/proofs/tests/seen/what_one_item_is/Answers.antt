use Rattle.std.proofs.Common.{◌≡◌, [], ◌∷◌, codes, refl, sym, arith}
use Rattle.html_names.proofs.Utf8Lemmas.{utf8_ascii}
use Rattle.html_read.specs.declared.token.Token.TheVariants as tok
use Rattle.page_laws.proofs.PlacesLemmas.{nothing_true}
use Rattle.page_laws.proofs.tests.seen.what_one_item_is.Goals as goal

pub returns : goal.returns
returns c = record {
  element = (refl, (omega arith, (omega arith, (omega arith, refl))));
  script = (refl, refl);
  two = λ h. omega (arith, h.1.0);
  open_still = λ h. omega (arith, h.1);
  text = λ h. nothing_true (sym h.0);
  within_text = record {
    within = omega arith;
    toks = tok.Text (codes "a") 0 ∷ [];
    are = record { spelled = refl; tokens = ((λ e. cc, utf8_ascii (codes "a") (omega arith, tt)), refl, tt, tt) };
    closed = refl;
  };
}
