use Rattle.sg_driver.proofs.Loops.{IsAmid}
use Rattle.sg_driver.proofs.drives.drive_order.Given as goal

abbrev pub invariant-loop-place : goal.invariant-loop-place
invariant-loop-place g l = IsAmid l.initial.run.script.order l.initial.run l.count l.place l.run
