use Rattle.std.proofs.Common.{ℕ, ◌+◌, ◌≤◌}
use Rattle.sg_shape.specs.declared.shapes.Shape.{Shape}
use Rattle.sg_workload.specs.Workload.{row}
use Rattle.sg_workload.proofs.Draws.{Made}
use Rattle.sg_workload.proofs.scripts.rows_of.Given as goal

-- the rows with lower keys were made
abbrev pub invariant-loop-key : goal.invariant-loop-key
invariant-loop-key l = Made (ℕ × Shape) row l.table l.key l.fn.generator.state l.generator.state × (l.key ≤ l.rows + 1)
