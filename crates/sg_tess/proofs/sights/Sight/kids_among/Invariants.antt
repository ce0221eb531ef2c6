use Rattle.std.proofs.Common.{◌≤◌, length}
use Rattle.sg_hilbert.specs.Curve.{four_to}
use Rattle.sg_cells.specs.Cells.{split_of}
use Rattle.sg_cells.specs.Tess.{look_at, kids}
use Rattle.sg_tess.proofs.Steps.{SoFar}
use Rattle.sg_tess.proofs.sights.Sight.kids_among.Given as goal

abbrev pub invariant-loop-place : goal.invariant-loop-place
invariant-loop-place g l = record {
  so_far : SoFar l.self.grid.now (look_at l.self.shape.now) l.parent l.place (four_to (split_of l.self.grid.now.sides l.parent)) l.entries.items (kids l.self.grid.now (look_at l.self.shape.now) l.parent);
  fits : length l.entries.items ≤ l.room;
}
