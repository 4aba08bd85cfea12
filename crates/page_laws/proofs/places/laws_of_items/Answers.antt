use Rattle.page_laws.proofs.ItemsLemmas.{closed_item, item_place, items_places, printed_item, script_item}
use Rattle.page_laws.proofs.PlacesLemmas.{TokenLaws}
use Rattle.page_laws.proofs.places.laws_of_items.Goals as goal

pub returns : goal.returns
returns c =
    let tokens = c.laws_of_tokens.ensures in
    let laws : TokenLaws = record { one = tokens.one; first_tokens = tokens.first_tokens; split = tokens.split; prefix = tokens.prefix } in
    record {
      places = item_place laws;
      two = items_places laws;
      closed = closed_item;
      element = printed_item;
      script = script_item c.laws_of_instructions.ensures.no_end;
    }
