use Rattle.std.proofs.Common.{◌≡◌, drop}
use Rattle.sg_run.specs.Opens.{transactions_at}
use Rattle.sg_run.proofs.runs.count.Given as goal

abbrev pub invariant-loop-found : goal.invariant-loop-found
invariant-loop-found l = transactions_at l.sessions l.number ≡ transactions_at (drop l.found-index l.sessions) l.number
