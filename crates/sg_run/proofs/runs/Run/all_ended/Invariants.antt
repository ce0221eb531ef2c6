use Rattle.std.proofs.Common.{length}
use Rattle.sg_run.specs.Runs.{has_ended}
use Rattle.sg_run.proofs.Opening.{AreDone}
use Rattle.sg_run.proofs.runs.Run.all_ended.Given as goal

abbrev pub invariant-sessions : goal.invariant-sessions
invariant-sessions g l = AreDone (has_ended l.self) l.rest

abbrev pub decreases-sessions : goal.decreases-sessions
decreases-sessions g l = length l.rest
