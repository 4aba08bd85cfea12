use Rattle.html_read.proofs.StandsLemmas.{splits_alive}
use Rattle.html_read.proofs.SplitsLemmas.{alive_prefix, alive_splits, prefix_splits}
use Rattle.html_read.proofs.TokenizesLemmas.{front_list, one_list, one_split}
use Rattle.html_read.proofs.laws.laws_of_tokens.Goals as goal

pub returns : goal.returns
returns c = record {
  one = one_list;
  alive = splits_alive;
  first_tokens = front_list;
  split = one_split;
  splits = alive_splits;
  alive_prefix = alive_prefix;
  prefix = prefix_splits;
}
