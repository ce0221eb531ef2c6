use Rattle.sg_writes.proofs.Moving.{left_above}
use Rattle.sg_writes.proofs.Written.{IsPart}
use Rattle.sg_writes.proofs.writes.write_cells.Given as goal

abbrev pub invariant-loop-next : goal.invariant-loop-next
invariant-loop-next l = IsPart l.s l.row l.list l.initial.cells.rows l.last l.cells.rows

abbrev pub decreases-loop-next : goal.decreases-loop-next
decreases-loop-next l = left_above l.last
