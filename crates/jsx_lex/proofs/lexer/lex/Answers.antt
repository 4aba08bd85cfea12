use Rattle.std.proofs.Common.{◌≡◌, true, false, sym, ◌∙◌}
use Rattle.jsx_lex.specs.ModesView.{modes_of}
use Rattle.jsx_lex.proofs.Readings.{lex_step, lex_stuck, lex_end, reached_end, one_list, tokens_or_fault}
use Rattle.jsx_lex.proofs.lexer.lex.Goals as goal

pub lexemes-preserved : goal.lexemes-preserved
lexemes-preserved c =
    let next = lex_step c.args.text.now c.lexemes.at (modes_of c.lexemes.modes) (modes_of c.change.new.self) c.lexemes.tokens.items c.push_token.new.tokens.items c.is_first.result c.in-Some.found c.is_first.ensures.1 c.lexemes.invariant.reached c.in-Some.ensures.found c.in_ok-change.ensures c.in_ok-push_token.ensures in
    record { within = next.within; reached = next.reached }

pub returns-in_default-clause-refused : goal.returns-in_default-clause-refused
returns-in_default-clause-refused c = lex_stuck c.args.text.now c.lexemes.at (modes_of c.lexemes.modes) c.lexemes.tokens.items c.is_first.result c.kind_at.result c.is_first.ensures.0 c.lexemes-test.true c.lexemes.invariant.reached c.in_default.ensures.found c.kind_at.ensures

pub returns-in_default-clause-only : goal.returns-in_default-clause-only
returns-in_default-clause-only c = λ tokens h. absurd (tokens_or_fault c.args.text.now tokens c.lexemes.at c.kind_at.result h (returns-in_default-clause-refused c))

pub returns-then-is_first-clause-only : goal.returns-then-is_first-clause-only
returns-then-is_first-clause-only c = λ tokens h. one_list c.args.text.now c.lexemes.tokens.items tokens (reached_end c.args.text.now c.lexemes.at (modes_of c.lexemes.modes) c.lexemes.tokens.items c.lexemes-test.false (c.is_first-2.ensures.0 c.if-is_first.true) c.lexemes.invariant.reached) h

pub returns-else-is_first-clause-refused : goal.returns-else-is_first-clause-refused
returns-else-is_first-clause-refused c = lex_end c.args.text.now c.lexemes.at (modes_of c.lexemes.modes) c.lexemes.tokens.items c.lexemes-test.false c.lexemes.invariant.reached (λ e. let yes = c.is_first-2.ensures.1 e in let f : true ≡ false = sym yes ∙ c.if-is_first.false in absurd cc)

pub returns-else-is_first-clause-only : goal.returns-else-is_first-clause-only
returns-else-is_first-clause-only c = λ tokens h. absurd (tokens_or_fault c.args.text.now tokens c.lexemes.at _ h (returns-else-is_first-clause-refused c))
