use Rattle.position_laws.proofs.CutsLemmas.{same_piece}
use Rattle.position_laws.proofs.WordsLemmas.{embedded_prints, filled_whole, joined_prints, piece_prints}
use Rattle.position_laws.proofs.words.laws_of_words.Goals as goal

pub returns : goal.returns
returns c = record {
  printed = piece_prints;
  same = same_piece;
  joined = λ sheets filling flags path one prints. joined_prints sheets filling prints flags path one;
  embedded = λ sheets filling path one lead prints. embedded_prints sheets filling prints path one lead;
  whole = λ known root before after filling path right. filled_whole known root filling right before after path;
}
