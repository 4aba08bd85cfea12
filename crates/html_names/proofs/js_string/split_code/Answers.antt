use Rattle.std.proofs.Common.{◌∙◌}
use Rattle.html_names.proofs.JsStringsLemmas.{no_digits, no_code}
use Rattle.html_names.proofs.js_string.split_code.Goals as goal

pub returns-in_default : goal.returns-in_default
returns-in_default c = no_digits c.args.digits.now c.in_default.ensures.cases

pub returns-in-None : goal.returns-in-None
returns-in-None c = no_code c.args.digits.now (λ d coded e. c.in-None.ensures d coded (c.in-Some.ensures.cases.0 ∙ e))
