use Rattle.jsx_lex.proofs.Readings.{order-all}
use Rattle.jsx_lex.proofs.Texts.{all_texts}
use Rattle.jsx_lex.proofs.WordForms.{all_words}
use Rattle.jsx_lex.proofs.laws.token_words.Goals as goal

pub returns-clause-in_order : goal.returns-clause-in_order
returns-clause-in_order c = order-all

pub returns-clause-words : goal.returns-clause-words
returns-clause-words c = all_words

pub returns-clause-utf8 : goal.returns-clause-utf8
returns-clause-utf8 c = all_texts
