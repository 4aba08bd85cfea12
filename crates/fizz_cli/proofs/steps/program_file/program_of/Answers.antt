use Rattle.std.proofs.Common.{rules}
use Rattle.jsx_syntax.specs.declared.file.File.{File}
use Rattle.fizz_cli.specs.ProgramFiles.{IsProgram}
use Rattle.fizz_cli.proofs.ProgramsLemmas.{refuses_syntax}
use Rattle.fizz_cli.proofs.steps.program_file.program_of.Goals as goal

pub returns-in-Err-parse : goal.returns-in-Err-parse
returns-in-Err-parse c =
    refuses_syntax File (IsProgram c.args.bytes.now) c.args.bytes.now c.as_slice.result.now c.in-Err-parse.fault
    c.syntax_fault.result c.syntax_fault.ensures (search rules) (search rules) c.in-Err-parse.ensures.refused
