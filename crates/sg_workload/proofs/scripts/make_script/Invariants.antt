use Rattle.sg_workload.proofs.Draws.{MadeScript}
use Rattle.sg_workload.proofs.scripts.make_script.Given as goal

-- the script has the sessions with lower numbers
abbrev pub invariant-loop-number : goal.invariant-loop-number
invariant-loop-number l = MadeScript l.seed l.rows l.script l.number l.generator.state
