use Rattle.std.proofs.Common.{◌≡◌, ◌++◌, length}
use Rattle.sg_rows.specs.Table.{committed_rows, rows_past}
use Rattle.sg_rows.proofs.Rows.committed.Given as goal

abbrev pub invariant-loop-key : goal.invariant-loop-key
invariant-loop-key l = l.rows ++ committed_rows (rows_past l.last l.versions.rows) ≡ committed_rows l.versions.rows

abbrev pub decreases-loop-key : goal.decreases-loop-key
decreases-loop-key l = length (rows_past l.last l.versions.rows)
