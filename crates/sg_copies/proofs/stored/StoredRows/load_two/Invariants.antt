use Rattle.std.proofs.Common.{◌≡◌, ◌+◌, ◌≤◌, length, take}
use Rattle.sg_copies.proofs.stored.StoredRows.load_two.Given as goal

abbrev pub invariant-loop-row : goal.invariant-loop-row
invariant-loop-row l = record {
  one : l.one.pairs ≡ take l.row-index l.all;
  other : l.other.pairs ≡ take l.row-index l.all;
  spare : length l.all ≤ l.one.spare + l.row-index;
  other_spare : length l.all ≤ l.other.spare + l.row-index;
}
