use Rattle.state_laws.proofs.ShellLemmas.{claimed_shell, closed_shell, committed_shell, first_shell, flushed_shell, reclaimed_shell, returned_shell, settles_shell}
use Rattle.state_laws.proofs.shell.laws_of_shells.Goals as goal

pub returns : goal.returns
returns c = record {
  first = first_shell;
  settled = settles_shell;
  claimed = claimed_shell;
  committed = committed_shell;
  returned = returned_shell;
  reclaimed = reclaimed_shell;
  closed = closed_shell;
  flushed = flushed_shell;
}
