use Rattle.std.proofs.Common.{◌≡◌, sym}
use Rattle.sg_modes.specs.Priorities.{priority_of}
use Rattle.sg_run.specs.Runs.{priority_in}
use Rattle.sg_run.proofs.Opening.{first_none, done_last}
use Rattle.sg_run.proofs.runs.priorities_of.Goals as goal

pub returns-clause-each : goal.returns-clause-each
returns-clause-each c =
    done_last (λ u. priority_of c.loop-s.priorities u ≡ priority_in c.args.script.now.sessions u) c.loop-s.rest (first_none c.loop-s.rest (sym c.in_default.ensures.first)) c.loop-s.invariant.done
