use Rattle.html_names.proofs.JsStringsLemmas.{other_front}
use Rattle.html_names.proofs.js_string.split_itself.Goals as goal

pub returns-in_default-spelling_of : goal.returns-in_default-spelling_of
returns-in_default-spelling_of c = other_front c.args.rest.now _ c.in-Some.c c.spelling_of.result c.requires c.in-Some.ensures c.spelling_of.ensures.kind c.in_default-spelling_of.not-Itself
