use Rattle.std.proofs.Common.{◌≡◌, ◌<◌, drop}
use Rattle.fizz_task.specs.Indexed.{hash_from}
use Rattle.fizz_task.proofs.places.hash_of.Given as goal

abbrev pub invariant-loop-byte : goal.invariant-loop-byte
invariant-loop-byte l = (hash_from l.hash (drop l.byte-index l.bytes) ≡ hash_from 0 l.bytes) × (l.hash < 4294967291)
