use Rattle.sg_stores.specs.Agreement.{mark_at}
use Rattle.sg_writes.specs.Moved.{mark_seen}
use Rattle.sg_writes.proofs.Moving.{IsStill, left_above}
use Rattle.sg_writes.proofs.moved.next_moved.Given as goal

abbrev pub invariant-loop-next : goal.invariant-loop-next
invariant-loop-next l = IsStill (mark_seen l.cells.rows l.s l.row) (mark_at l.list) l.fn.above l.last

abbrev pub decreases-loop-next : goal.decreases-loop-next
decreases-loop-next l = left_above l.last
