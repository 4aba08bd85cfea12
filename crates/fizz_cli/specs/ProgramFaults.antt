-- What the readers of a component file answer. Private functions cite it.
use Rattle.jsx_lex.specs.declared.fault.LexFault.{LexFault as LexFound}
use Rattle.jsx_lex.specs.declared.fault.LexFault.TheVariants as lex
use Rattle.jsx_syntax.specs.declared.fault.SyntaxFault.{SyntaxFault as SyntaxFound}
use Rattle.jsx_syntax.specs.declared.fault.SyntaxFault.TheVariants as syntax
use Rattle.jsx_check.specs.declared.fault.CheckFault.{CheckFault}
use Rattle.jsx_check.specs.declared.fault.CheckFault.TheVariants as check
use Rattle.fizz_cli.specs.declared.refusal.ProgramFault.{ProgramFault}
use Rattle.fizz_cli.specs.declared.refusal.ProgramFault.TheVariants.{LexFault, SyntaxFault, TooManyComponents, UnknownName, UnknownElement, UnknownAttribute, TwiceDefined, UsedBeforeDefined, FallbackNotPlain, NoApp, TooDeep}
use Rattle.fizz_cli.specs.declared.stop.OrMemory.{OrMemory}
use Rattle.fizz_cli.specs.declared.stop.OrMemory.TheVariants.{Fault, NoMemory}

abbrev pub lex_fault : LexFound → OrMemory ProgramFault
lex_fault (lex.Bad at_ kind) = Fault (LexFault at_ kind)
lex_fault lex.OutOfMemory = NoMemory

abbrev pub syntax_fault : SyntaxFound → OrMemory ProgramFault
syntax_fault (syntax.Bad at_ wanted) = Fault (SyntaxFault at_ wanted)
syntax_fault syntax.OutOfMemory = NoMemory

abbrev pub check_fault : CheckFault → OrMemory ProgramFault
check_fault (check.TooManyComponents count) = Fault (TooManyComponents count)
check_fault (check.UnknownName at_) = Fault (UnknownName at_)
check_fault (check.UnknownElement at_) = Fault (UnknownElement at_)
check_fault (check.UnknownAttribute at_) = Fault (UnknownAttribute at_)
check_fault (check.TwiceDefined at_) = Fault (TwiceDefined at_)
check_fault (check.UsedBeforeDefined at_) = Fault (UsedBeforeDefined at_)
check_fault (check.FallbackNotPlain at_) = Fault (FallbackNotPlain at_)
check_fault check.NoApp = Fault NoApp
check_fault (check.TooDeep depth) = Fault (TooDeep depth)
check_fault check.OutOfMemory = NoMemory
