use Rattle.std.proofs.Common.{length, sym, arith}
use Rattle.std.proofs.lemmas.Result.{err_from_is_err_and}
use Rattle.jsx_lex.specs.declared.token.TokenKind.TheVariants as kind
use Rattle.jsx_lex.specs.declared.token.Token.{Token}
use Rattle.jsx_syntax.specs.Parsing.{HasCause}
use Rattle.jsx_syntax.proofs.Reading.{one_file}
use Rattle.jsx_syntax.proofs.ParseLemmas.{ordered_at, moved_on, stop_cause, stop_only, end_cause, end_found}
use Rattle.jsx_lex.specs.TokenMeanings.{words_of}
use Rattle.jsx_syntax.proofs.parser.parse.Goals as goal

no_token : Token
no_token = record { kind = kind.Name; from = 0; to = 0 }

pub advance-requires-clause-ordered : goal.advance-requires-clause-ordered
unfolding no_token
advance-requires-clause-ordered c =
    (ordered_at 0 (length c.args.text.now) c.args.tokens.now c.loop-token.token-index no_token (c.token_words.ensures.in_order c.args.text.now c.args.tokens.now c.requires.lexed) (omega arith)).0

pub advance-requires-clause-within : goal.advance-requires-clause-within
unfolding no_token
advance-requires-clause-within c =
    (ordered_at 0 (length c.args.text.now) c.args.tokens.now c.loop-token.token-index no_token (c.token_words.ensures.in_order c.args.text.now c.args.tokens.now c.requires.lexed) (omega arith)).1

pub returns-in_err-state-clause-refused : goal.returns-in_err-state-clause-refused
unfolding no_token
returns-in_err-state-clause-refused c =
    let p = err_from_is_err_and c.from_residual.result c.from_residual.ensures.1 in
    rw (p.1, p.2) (stop_cause c.args.text.now c.args.tokens.now c.loop-token.token-index no_token c.loop-token.state c.in_err-state.field-0.0 c.loop-token.invariant (omega arith) c.in_err-state.ensures.stopped)

pub returns-in_err-state-clause-only : goal.returns-in_err-state-clause-only
unfolding no_token
returns-in_err-state-clause-only c =
    let p = err_from_is_err_and c.from_residual.result c.from_residual.ensures.1 in
    let cause : HasCause c.args.text.now c.args.tokens.now c.in_err-state.field-0.0 =
    stop_cause c.args.text.now c.args.tokens.now c.loop-token.token-index no_token c.loop-token.state c.in_err-state.field-0.0 c.loop-token.invariant (omega arith) c.in_err-state.ensures.stopped in
    rw (p.1, p.2) (stop_only c.args.text.now c.args.tokens.now c.in_err-state.field-0.0 cause)

pub loop-token-preserved : goal.loop-token-preserved
unfolding no_token
loop-token-preserved c =
    moved_on c.args.text.now c.args.tokens.now c.loop-token.token-index no_token c.loop-token.state c.in_ok-state.state c.loop-token.invariant (omega arith) c.in_ok-state.ensures.moved

pub returns-in-Some-clause-found : goal.returns-in-Some-clause-found
returns-in-Some-clause-found c =
    end_found c.args.text.now c.args.tokens.now c.loop-token.token-index c.loop-token.state c.in-Some.components c.loop-token.invariant (omega arith) (sym c.in-Some.ensures)

pub returns-in-Some-clause-only : goal.returns-in-Some-clause-only
returns-in-Some-clause-only c = λ file s.
    one_file (words_of c.args.text.now c.args.tokens.now) (record { components = c.in-Some.components }) file (returns-in-Some-clause-found c) s

pub returns-clause-refused : goal.returns-clause-refused
returns-clause-refused c =
    end_cause c.args.text.now c.args.tokens.now c.loop-token.token-index c.loop-token.state c.loop-token.invariant (omega arith) (sym c.in-None.ensures)

pub returns-clause-only : goal.returns-clause-only
returns-clause-only c = stop_only c.args.text.now c.args.tokens.now _ (returns-clause-refused c)
