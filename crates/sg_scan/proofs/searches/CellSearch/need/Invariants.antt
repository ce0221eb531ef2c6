use Rattle.std.specs.Prelude.{IfSome, slice_get}
use Rattle.std.proofs.Common.{◌≡◌, ◌-◌, None, length}
use Rattle.sg_scan.specs.declared.searches.Search.TheVariants as search
use Rattle.sg_stores.specs.Held.{first_unheld}
use Rattle.sg_scan.specs.Cursors.{locking_of, cells_behind, IsPlace, IsThere}
use Rattle.sg_scan.proofs.searches.CellSearch.need.Given as goal

abbrev pub invariant-loop-first : goal.invariant-loop-first
invariant-loop-first l = IsPlace (search.Cells l.self) l.place × (first_unheld l.locks.grants l.s (cells_behind (locking_of l.modes) l.s l.self.ranges l.place.range l.place.cell l.cells.rows) ≡ None) × IfSome (slice_get l.self.ranges l.place.range) (λ _. IsThere l.place.cell l.cells.rows)

abbrev pub decreases-loop-first : goal.decreases-loop-first
decreases-loop-first l = length l.self.ranges - l.place.range
