use Rattle.std.specs.Prelude.{map}
use Rattle.std.proofs.Common.{◌≡◌, None, length}
use Rattle.sg_rows.specs.Table.{rows_past}
use Rattle.sg_stores.specs.Held.{first_unheld}
use Rattle.sg_scan.specs.Cursors.{table_need, rows_until, IsRowThere}
use Rattle.sg_scan.proofs.needs.need_of_table.Given as goal

abbrev pub invariant-loop-key : goal.invariant-loop-key
invariant-loop-key l = (first_unheld l.locks.grants l.s (map (table_need l.range) (rows_until l.above l.rows.rows)) ≡ None) × IsRowThere l.above l.rows.rows

abbrev pub decreases-loop-key : goal.decreases-loop-key
decreases-loop-key l = length (rows_past l.above l.rows.rows)
