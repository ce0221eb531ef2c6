use Rattle.sg_plain.proofs.Removal.{Removing}
use Rattle.sg_plain.proofs.rows.keep_others.Given as goal

abbrev pub invariant-loop-place : goal.invariant-loop-place
invariant-loop-place l = Removing l.keys l.initial.rows l.rows l.next l.kept l.place
