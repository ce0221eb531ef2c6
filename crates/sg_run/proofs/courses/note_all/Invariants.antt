use Rattle.sg_run.proofs.Noting.{AreNoted}
use Rattle.sg_run.proofs.courses.note_all.Given as goal

abbrev pub invariant-loop-label : goal.invariant-loop-label
invariant-loop-label l = AreNoted l.labels l.label-index l.initial.courses l.courses
