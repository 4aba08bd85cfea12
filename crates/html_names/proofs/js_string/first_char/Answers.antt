use Rattle.html_names.proofs.JsStringsLemmas.{first_is}
use Rattle.html_names.proofs.js_string.first_char.Goals as goal

pub returns : goal.returns
returns c =
    first_is c.args.rest.now c.chars.result.rest.now c.valid_prefix.result.now c.next.new.self.rest.now _ c.next.result
    c.next.ensures.steps.0 c.chars.ensures.rest c.valid_prefix.ensures.prefix c.valid_prefix.ensures.longest
