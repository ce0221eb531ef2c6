use Rattle.std.proofs.Common.{◌==◌, take, None}
use Rattle.std.specs.List.{list_any}
use Rattle.sg_writes.specs.Finished.{AreWritten}
use Rattle.sg_writes.proofs.writes.remove.Given as goal

abbrev pub invariant-loop-row : goal.invariant-loop-row
invariant-loop-row l = AreWritten l.s (λ k. list_any (λ j. j == k) (take l.row-index l.selected)) None l.list l.initial.rows.rows l.initial.cells.rows l.rows.rows l.cells.rows
