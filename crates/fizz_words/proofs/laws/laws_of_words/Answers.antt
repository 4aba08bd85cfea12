use Rattle.fizz_words.proofs.PureLemmas.{asks_or_errs}
use Rattle.fizz_words.proofs.TakenLemmas.{taken}
use Rattle.fizz_words.proofs.laws.laws_of_words.Goals as goal

pub returns : goal.returns
returns c = record { taken = taken; apart = asks_or_errs }
