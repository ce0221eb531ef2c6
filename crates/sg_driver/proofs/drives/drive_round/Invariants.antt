use Rattle.sg_script.specs.Plans.{numbers_of}
use Rattle.sg_driver.proofs.Loops.{IsAmid}
use Rattle.sg_driver.proofs.drives.drive_round.Given as goal

abbrev pub invariant-loop-place : goal.invariant-loop-place
invariant-loop-place g l = IsAmid (numbers_of l.initial.run.script.sessions) l.initial.run l.count l.place l.run
