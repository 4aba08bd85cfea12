use Rattle.page_laws.proofs.PlacesLemmas.{TokenLaws, closed_after, closed_further, closed_joined, closed_within, rest_place_stays}
use Rattle.page_laws.proofs.places.laws_of_rest_places.Goals as goal

pub returns : goal.returns
returns c =
    let tokens = c.laws_of_tokens.ensures in
    let laws : TokenLaws = record { one = tokens.one; first_tokens = tokens.first_tokens; split = tokens.split; prefix = tokens.prefix } in
    record { within = closed_within; first = closed_further; after = closed_after laws; further = closed_joined laws; stays = rest_place_stays laws }
