use Rattle.std.proofs.Common.{◌≡◌, map, take}
use Rattle.request_state.specs.Reclaiming.{job_kept}
use Rattle.request_state.proofs.reclaiming.jobs_kept.Given as goal

abbrev pub invariant-claims : goal.invariant-claims
invariant-claims l = l.jobs.items ≡ map job_kept (take l.claim-index l.claims)
