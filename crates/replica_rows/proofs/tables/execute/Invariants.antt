use Rattle.replica_rows.specs.Courses.{GoesOn}
use Rattle.replica_rows.proofs.tables.execute.Given as goal

abbrev pub invariant-loop : goal.invariant-loop
invariant-loop g l = GoesOn l.fn.table l.table
