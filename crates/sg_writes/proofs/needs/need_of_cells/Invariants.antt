use Rattle.sg_writes.specs.Changes.{IsRowBehind}
use Rattle.sg_writes.proofs.Moving.{left_above}
use Rattle.sg_writes.proofs.needs.need_of_cells.Given as goal

abbrev pub invariant-loop-next : goal.invariant-loop-next
invariant-loop-next l = IsRowBehind l.locks.grants l.s l.cells.rows l.row l.list l.above

abbrev pub decreases-loop-next : goal.decreases-loop-next
decreases-loop-next l = left_above l.above
