-- What the reader of scripts answers. Private functions cite it.
use Rattle.settle_script.specs.declared.fault.ScriptFault.{ScriptFault as Found}
use Rattle.settle_script.specs.declared.fault.ScriptFault.TheVariants as settle
use Rattle.fizz_cli.specs.declared.refusal.ScriptFault.{ScriptFault}
use Rattle.fizz_cli.specs.declared.refusal.ScriptFault.TheVariants.{NotJson, TooManyEvents, NotEvent, DigestTooLong, BadValue, SettledTwice}
use Rattle.fizz_cli.specs.declared.stop.OrMemory.{OrMemory}
use Rattle.fizz_cli.specs.declared.stop.OrMemory.TheVariants.{Fault, NoMemory}

abbrev pub fault_of : Found → OrMemory ScriptFault
fault_of settle.NotJson = Fault NotJson
fault_of (settle.TooManyEvents count) = Fault (TooManyEvents count)
fault_of (settle.NotEvent index) = Fault (NotEvent index)
fault_of (settle.DigestTooLong index size) = Fault (DigestTooLong index size)
fault_of (settle.BadValue index) = Fault (BadValue index)
fault_of (settle.SettledTwice index first) = Fault (SettledTwice index first)
fault_of settle.OutOfMemory = NoMemory
