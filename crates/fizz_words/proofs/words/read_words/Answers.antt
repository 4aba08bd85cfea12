use mathlib.Core.List.{map-id}
use Rattle.fizz_words.proofs.MeantLemmas.{kept_inline, kept_is, meant_by, refused_by}
use Rattle.fizz_words.proofs.words.read_words.Goals as goal

pub returns-in_ok-command_in-in-Ok-clause-meant : goal.returns-in_ok-command_in-in-Ok-clause-meant
returns-in_ok-command_in-in-Ok-clause-meant c =
    let is = meant_by _ _ c.args.words.now c.in-Ok.matches _ c.in_ok-grammar.ensures (map-id c.args.words.now)
    c.in-Ok.ensures.matches c.in-Ok.ensures.kinds c.in_ok-command_in-in-Ok.ensures in
    kept_is c.args.words.now _ c.with_short_prefix.result is c.with_short_prefix.ensures

pub returns-in_ok-command_in-in-Ok-clause-inline : goal.returns-in_ok-command_in-in-Ok-clause-inline
returns-in_ok-command_in-in-Ok-clause-inline c =
    let is = meant_by _ _ c.args.words.now c.in-Ok.matches _ c.in_ok-grammar.ensures (map-id c.args.words.now)
    c.in-Ok.ensures.matches c.in-Ok.ensures.kinds c.in_ok-command_in-in-Ok.ensures in
    kept_inline c.args.words.now _ c.with_short_prefix.result is c.with_short_prefix.ensures

pub returns-in-Err-clause-meant : goal.returns-in-Err-clause-meant
returns-in-Err-clause-meant c =
    refused_by _ _ c.args.words.now c.in-Err.error c.answer_to.result c.in_ok-grammar.ensures (map-id c.args.words.now)
    c.in-Err.ensures.kinds c.answer_to.ensures
