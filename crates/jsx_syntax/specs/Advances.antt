-- The parser's state after tokens. Private functions cite these.
use Rattle.std.specs.Prelude.{◌≡◌, ℕ, List, Option, Some, None, Ok, Err}
use Rattle.jsx_lex.specs.declared.token.Token.{Token}
use Rattle.jsx_lex.specs.TokenMeanings.{word_at, words_of}
use Rattle.jsx_syntax.specs.declared.file.Component.{Component}
use Rattle.jsx_syntax.specs.declared.fault.SyntaxFault.{SyntaxFault}
use Rattle.jsx_syntax.specs.declared.fault.SyntaxFault.TheVariants.{Bad, OutOfMemory}
use Rattle.jsx_syntax.specs.declared.state.Position.{Position}
use Rattle.jsx_syntax.specs.declared.state.Position.TheVariants as position
use Rattle.jsx_syntax.specs.declared.state.Outside.{Outside}
use Rattle.jsx_syntax.specs.declared.state.Outside.TheVariants as o
use Rattle.jsx_syntax.specs.declared.state.State.{State}
use Rattle.jsx_syntax.specs.Steps.{step, run, first_state}

-- the words of these tokens lead to the state
abbrev pub LeadsTo : List ℕ → List Token → State → Type 0
LeadsTo text tokens state = run (Ok first_state) (words_of text tokens) ≡ Ok state

-- the cause of a stop at one token
abbrev pub StopsHere : List ℕ → Token → State → SyntaxFault → Type 0
StopsHere text token state (Bad place wanted) = (step state (word_at text token) ≡ Err wanted) × (place ≡ token.from)
StopsHere text token state OutOfMemory = Unit {0}

-- the components of a state in which a file may end
abbrev pub outside_components : Outside → Option (List Component)
outside_components (o.File components) = Some components
outside_components (o.Name components) = None
outside_components (o.Open x) = None
outside_components (o.Properties x) = None
outside_components (o.FirstProperty x) = None
outside_components (o.NextProperty x) = None
outside_components (o.PropertyEnd x) = None
outside_components (o.Close x) = None
outside_components (o.Body x) = None
outside_components (o.BodyEnd components) = None

abbrev pub components_of : Position → Option (List Component)
components_of (position.Outside x) = outside_components x
components_of (position.Within x) = None
components_of (position.Inside x) = None
components_of (position.InMap x) = None
components_of (position.InElement x) = None
