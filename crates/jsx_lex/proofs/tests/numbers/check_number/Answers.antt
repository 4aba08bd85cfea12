use Rattle.jsx_lex.specs.declared.token.TokenKind.TheVariants.{Name}
use Rattle.jsx_lex.proofs.WordForms.{word_there}
use Rattle.jsx_lex.proofs.tests.numbers.check_number.Goals as goal

pub value_of-requires : goal.value_of-requires
value_of-requires g c = word_there c.args.source.now c.in_ok-tokens.tokens.items c.deref-token-items.result.now c.loop-token.token-index (record { kind = Name; from = 0; to = 0 }) c.in-Some.word.now c.in_ok-tokens.ensures.found c.deref-token-items.ensures.value c.loop-token-test.true c.in-Some.ensures
