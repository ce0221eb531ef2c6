use Rattle.std.proofs.Common.{◌-◌, length}
use Rattle.sg_writes.specs.Changes.{AreRowsBehind}
use Rattle.sg_writes.proofs.needs.need_of_removals.Given as goal

abbrev pub invariant-loop-row : goal.invariant-loop-row
invariant-loop-row l = AreRowsBehind l.locks.grants l.s l.cells.rows l.list l.selected l.place

abbrev pub decreases-loop-row : goal.decreases-loop-row
decreases-loop-row l = length l.selected - l.place.row
