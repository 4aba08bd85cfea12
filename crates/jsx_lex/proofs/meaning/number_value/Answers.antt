use Rattle.jsx_lex.proofs.Numbers.{digits_after, digits_whole}
use Rattle.jsx_lex.proofs.meaning.number_value.Goals as goal

pub value_of-requires-clause-digits : goal.value_of-requires-clause-digits
value_of-requires-clause-digits c = rw c.split_at.ensures.back (digits_after c.args.word.now c.requires c.if-word-eq45.true)

pub value_of-requires-else-word-eq45-clause-digits : goal.value_of-requires-else-word-eq45-clause-digits
value_of-requires-else-word-eq45-clause-digits c = digits_whole c.args.word.now c.requires c.if-word-eq45.false
