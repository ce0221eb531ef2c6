use Rattle.std.proofs.Common.{drop}
use Rattle.sg_plain.specs.Sat.{Sat}
use Rattle.sg_plain.proofs.Collects.{SoFar}
use Rattle.sg_plain.proofs.scans.keys_with.Given as goal

abbrev pub invariant-loop-row : goal.invariant-loop-row
invariant-loop-row g l = SoFar (λ row. Sat l.test row l.shape) l.rows (drop l.row-index l.rows) l.keys
