use Rattle.std.proofs.Common.{length}
use Rattle.sg_run.proofs.Opening.{AreSet}
use Rattle.sg_run.proofs.runs.priorities_of.Given as goal

abbrev pub invariant-loop-s : goal.invariant-loop-s
invariant-loop-s l = AreSet l.script.sessions l.rest l.priorities

abbrev pub decreases-loop-s : goal.decreases-loop-s
decreases-loop-s l = length l.rest
