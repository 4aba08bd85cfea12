use Rattle.jsx_value.specs.Positions.{root_place}
use Rattle.jsx_value.specs.SeenPlaces.{place_at}
use Rattle.jsx_value.specs.Settling.{settled_since}
use Rattle.fizz_piece.specs.Pieces.{page_under}
use Rattle.fizz_piece.proofs.PlacesLemmas.{place_stays}
use Rattle.fizz_piece.proofs.laws.laws_of_works.Goals as goal

pub returns : goal.returns
returns c = λ plan work settled good more within. record {
  within = within;
  stands = place_stays (page_under plan work.settled) (page_under plan settled)
      (settled_since (page_under plan work.settled) (page_under plan settled))
      (λ place. c.laws_of_settlements.ensures.places (page_under plan work.settled) (page_under plan settled) place
      (c.laws_of_settlements.ensures.numbers plan.app.now plan.outcomes.now work.settled settled plan.options.now.prefix more))
      work.path root_place (place_at work.spot work.scope) good.stands;
}
