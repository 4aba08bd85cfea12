use Rattle.std.proofs.Common.{sym, ap, ◌∙◌}
use Rattle.jsx_value.specs.Expansions.{is_ordered}
use Rattle.jsx_value.specs.Positions.{root_place}
use Rattle.jsx_value.specs.Settling.{settled_since}
use Rattle.fizz_piece.proofs.PlacesLemmas.{place_stays}
use Rattle.position_laws.proofs.PagesLemmas.{place_formed, place_later, place_stands}
use Rattle.position_laws.proofs.pages.laws_of_pages.Goals as goal

pub returns : goal.returns
returns c = record {
  stand = λ page place path ordered. place_stands page (c.laws_of_expansions.ensures.unfolded page ordered) path root_place place;
  stay = λ first second place path settles.
      place_stays first second (settled_since first second) (λ p. c.laws_of_settlements.ensures.places first second p settles) path root_place place;
  later = λ first second place settles ordered.
      place_later first second (settled_since first second) (λ p. c.laws_of_settlements.ensures.places first second p settles)
      (c.laws_of_expansions.ensures.unfolded first ordered)
      (c.laws_of_expansions.ensures.unfolded second (ap is_ordered (sym settles.components) ∙ ordered))
      (c.laws_of_expansions.ensures.weight first ordered) place;
  formed = λ page place ordered.
      place_formed page (c.laws_of_expansions.ensures.unfolded page ordered) (c.laws_of_expansions.ensures.weight page ordered) place;
}
