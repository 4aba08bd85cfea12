use Rattle.std.proofs.Common.{◌≡◌}
use Rattle.document_machine.proofs.Following.{HasFollowed}
use Rattle.document_machine.proofs.machine.follow_all.Given as goal

abbrev pub invariant-loop-token : goal.invariant-loop-token
invariant-loop-token l = record {
  followed : HasFollowed l.prefix l.fn.page l.fn.tokens.items l.yielded l.token-iterator.rest.items l.page;
  prefix : l.prefix ≡ l.fn.prefix;
}
