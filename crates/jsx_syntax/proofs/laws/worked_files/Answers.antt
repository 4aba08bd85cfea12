use Rattle.std.proofs.Common.{[], refl}
use Rattle.html_names.specs.Elements.{element_rows}
use Rattle.jsx_syntax.specs.Words.{reserved_words, nesting_limit}
use Rattle.jsx_syntax.specs.Examples as example
use Rattle.jsx_syntax.proofs.Reading.{found-file}
use Rattle.jsx_syntax.proofs.laws.worked_files.Goals as goal

pub returns-clause-empty_file : goal.returns-clause-empty_file
returns-clause-empty_file c = found-file [] [] [] refl

pub returns-clause-element : goal.returns-clause-element
unfolding element_rows reserved_words nesting_limit
returns-clause-element c = found-file example.element_words example.element_file.components [] refl

pub returns-clause-operators : goal.returns-clause-operators
unfolding element_rows reserved_words nesting_limit
returns-clause-operators c = found-file example.operator_words example.operator_file.components [] refl

pub returns-clause-map : goal.returns-clause-map
unfolding element_rows reserved_words nesting_limit
returns-clause-map c = found-file example.map_words example.map_file.components [] refl

pub returns-clause-statements : goal.returns-clause-statements
unfolding element_rows reserved_words nesting_limit
returns-clause-statements c = found-file example.statement_words example.statement_file.components [] refl
