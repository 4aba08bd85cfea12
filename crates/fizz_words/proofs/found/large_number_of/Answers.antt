use Rattle.std.proofs.Common.{ap, sym, ◌∙◌}
use Rattle.clap.specs.Words.{found_of}
use Rattle.clap.proofs.WalkLemmas.{one_text-rows}
use Rattle.std.specs.Prelude.{option_map}
use Rattle.std.specs.Str.Parse.{ParsesUnsigned, ExplainsUnsignedError, HasUnsignedDigitsIfOk, digits_value, without_leading_plus}
use Rattle.fizz_words.proofs.NumberLemmas.{number_read}
use Rattle.fizz_words.proofs.found.large_number_of.Goals as goal

pub returns-in-Some : goal.returns-in-Some
returns-in-Some c =
    ap (option_map (λ t. digits_value 10 (without_leading_plus t))) (sym (one_text-rows (found_of c.args.found.now) c.args.id.now))
    ∙ number_read (λ bs r. ParsesUnsigned 64 10 bs r × ExplainsUnsignedError 10 bs r × HasUnsignedDigitsIfOk bs r) 64 _ c.in-Some.number
    c.in-Some.ensures.none c.in-Some.ensures.value (λ t x g. g.0)
