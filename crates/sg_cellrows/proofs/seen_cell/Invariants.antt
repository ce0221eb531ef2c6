use Rattle.std.specs.Prelude.{filter}
use Rattle.std.proofs.Common.{length}
use Rattle.sg_cellrows.specs.Nexts.{is_behind}
use Rattle.sg_cellrows.proofs.SeenCells.{IsSeenTo}
use Rattle.sg_cellrows.proofs.seen_cell.Given as goal

abbrev pub invariant-loop-cell : goal.invariant-loop-cell
invariant-loop-cell l = IsSeenTo l.rows.rows l.s l.row l.fn.above l.last

abbrev pub decreases-loop-cell : goal.decreases-loop-cell
decreases-loop-cell l = length (filter (λ x. is_behind l.row l.last x.0) l.rows.rows)
