use Rattle.sg_run.proofs.Opening.{AreRoomy}
use Rattle.sg_run.proofs.runs.new_courses.Given as goal

abbrev pub invariant-loop-place : goal.invariant-loop-place
invariant-loop-place l = AreRoomy l.sessions l.place l.courses.items
