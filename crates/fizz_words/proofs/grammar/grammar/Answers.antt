use Rattle.std.proofs.Common.{ap, ap₂, ◌∙◌}
use Rattle.std.proofs.lemmas.Result.{IfOk-weaker}
use Rattle.clap.specs.Words.{App, with_subcommand}
use Rattle.fizz_words.proofs.grammar.grammar.Goals as goal

pub returns : goal.returns
returns c =
    let one = c.in_ok-subcommand.ensures.shape c.in_ok-render.ensures.1
    ∙ ap₂ with_subcommand c.in_ok-alone.ensures (ap (λ (a : App). a.top) c.in_ok-render.ensures.0) in
    let two = c.in_ok-subcommand-2.ensures.shape c.in_ok-show.ensures.1
    ∙ ap₂ with_subcommand one (ap (λ (a : App). a.top) c.in_ok-show.ensures.0) in
    let three = c.in_ok-subcommand-3.ensures.shape c.in_ok-tree.ensures.1
    ∙ ap₂ with_subcommand two (ap (λ (a : App). a.top) c.in_ok-tree.ensures.0) in
    IfOk-weaker c.subcommand-4.result _ _
    (λ r adds. adds.shape c.in_ok-generate.ensures.1
    ∙ ap₂ with_subcommand three (ap (λ (a : App). a.top) c.in_ok-generate.ensures.0)) c.subcommand-4.ensures
