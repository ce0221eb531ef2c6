use Rattle.std.proofs.Common.{◌≡◌, None, length}
use Rattle.sg_scan.specs.Hits.{rows_behind}
use Rattle.sg_stores.specs.Held.{first_unheld}
use Rattle.sg_scan.specs.Cursors.{locking_of, needs_upto, IsInside, IsThere}
use Rattle.sg_scan.proofs.needs.need_in.Given as goal

abbrev pub invariant-loop-cell : goal.invariant-loop-cell
invariant-loop-cell l = IsInside (l.first, l.last) l.above × (first_unheld l.locks.grants l.s (needs_upto (locking_of l.modes) l.s l.first l.last l.above l.cells.rows) ≡ None) × IsThere l.above l.cells.rows

abbrev pub decreases-loop-cell : goal.decreases-loop-cell
decreases-loop-cell l = length (rows_behind l.first l.last l.above l.cells.rows)
