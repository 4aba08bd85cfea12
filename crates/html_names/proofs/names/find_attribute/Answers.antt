use Rattle.std.proofs.Common.{◌∙◌, sym, ap, option_map}
use Rattle.std.specs.Str.{bytes_eq}
use Rattle.html_names.specs.Rows.{pair_meaning}
use Rattle.html_names.proofs.RowsLemmas.{meaning_found}
use Rattle.html_names.proofs.names.find_attribute.Goals as goal

pub returns-in-Some : goal.returns-in-Some
returns-in-Some c = ap (option_map pair_meaning) (sym c.in-Some.ensures.1) ∙ meaning_found (bytes_eq c.args.name.now) c.args.rows.now

pub returns-in-None : goal.returns-in-None
returns-in-None c = ap (option_map pair_meaning) (sym c.in-None.ensures) ∙ meaning_found (bytes_eq c.args.name.now) c.args.rows.now
