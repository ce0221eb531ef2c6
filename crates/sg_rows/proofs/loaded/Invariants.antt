use Rattle.std.specs.Prelude.{map}
use Rattle.std.proofs.Common.{◌≡◌, ◌+◌, ◌≤◌, length, take}
use Rattle.sg_rows.specs.Table.{loaded_row}
use Rattle.sg_rows.proofs.loaded.Given as goal

abbrev pub invariant-loop-row : goal.invariant-loop-row
invariant-loop-row l = record {
  rows : l.versions.rows ≡ map loaded_row (take l.row-index l.all);
  spare : length l.all ≤ l.versions.spare + l.row-index;
}
