use Rattle.sg_driver.proofs.Loops.{IsOnTheWay}
use Rattle.sg_driver.proofs.Measured.{measure_of}
use Rattle.sg_driver.proofs.drives.finish.Given as goal

abbrev pub invariant-rounds : goal.invariant-rounds
invariant-rounds g l = IsOnTheWay l.fn.run l.run

abbrev pub decreases-rounds : goal.decreases-rounds
decreases-rounds g l = measure_of l.run
