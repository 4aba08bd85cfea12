use Rattle.std.proofs.Common.{false}
use Rattle.jsx_lex.specs.declared.mode.Mode.TheVariants.{Code, Tag, Children, Close}
use Rattle.jsx_lex.proofs.Finding.{found_within-some}
use Rattle.jsx_lex.proofs.lexeme.lexeme_at.Goals as goal

pub returns-in-Code-2-clause-within : goal.returns-in-Code-2-clause-within
returns-in-Code-2-clause-within c = found_within-some Code false c.args.rest.now c.in_code.result c.in_code.ensures

pub returns-in-Tag-clause-within : goal.returns-in-Tag-clause-within
returns-in-Tag-clause-within c = found_within-some Tag false c.args.rest.now c.in_tag.result c.in_tag.ensures

pub returns-in-Children-clause-within : goal.returns-in-Children-clause-within
returns-in-Children-clause-within c = found_within-some Children false c.args.rest.now c.in_children.result c.in_children.ensures

pub returns-in-Close-clause-within : goal.returns-in-Close-clause-within
returns-in-Close-clause-within c = found_within-some Close false c.args.rest.now c.in_close.result c.in_close.ensures
