-- The statuses of refusals.
use Rattle.std.specs.Prelude.{ℕ}
use Rattle.fizz_cli.specs.declared.refusal.Refusal.{Refusal}
use Rattle.fizz_cli.specs.declared.refusal.Refusal.TheVariants.{CannotRead, File, ShellFailed, ShellPostponed, CannotWrite, StateTooLong}

abbrev pub status_of : Refusal → ℕ
status_of (CannotRead name) = 3
status_of (File name fault) = 4
status_of (ShellFailed digest) = 5
status_of (ShellPostponed resource) = 6
status_of (CannotWrite name) = 9
status_of (StateTooLong length) = 10
