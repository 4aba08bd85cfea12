use Rattle.page_laws.proofs.PlacesLemmas.{TokenLaws, one_shell_end, shell_end_before, shell_end_stays}
use Rattle.page_laws.proofs.places.laws_of_shells.Goals as goal

pub returns : goal.returns
returns c =
    let tokens = c.laws_of_tokens.ensures in
    let laws : TokenLaws = record { one = tokens.one; first_tokens = tokens.first_tokens; split = tokens.split; prefix = tokens.prefix } in
    record { one = one_shell_end laws; stays = shell_end_stays laws; begins = shell_end_before laws }
