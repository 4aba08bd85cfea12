use Rattle.std.proofs.Common.{take, sym, subst, arith}
use Rattle.std.specs.Str.{IsValidUpTo}
use Rattle.html_names.proofs.JsStringsLemmas.{longest_front}
use Rattle.html_names.proofs.js_string.valid_prefix.Goals as goal

pub returns-in-Err-clause-longest : goal.returns-in-Err-clause-longest
returns-in-Err-clause-longest c = λ m more four len u.
    let text = rw c.unwrap.ensures at c.from_utf8-in-Err.ensures.cases in
    let valid = subst (IsValidUpTo (take c.min.result c.args.rest.now)) (sym c.valid_up_to.ensures) c.in-Err.ensures.cases.1 in
    longest_front c.args.rest.now c.unwrap.result.now c.valid_up_to.result m c.min.result valid text.0 more (omega arith) u
