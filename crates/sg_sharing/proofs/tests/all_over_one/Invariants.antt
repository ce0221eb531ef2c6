use Rattle.std.proofs.Common.{◌≡◌}
use Rattle.sg_sharing.proofs.tests.all_over_one.Given as goal

abbrev pub invariant-loop-round : goal.invariant-loop-round
invariant-loop-round g l = (l.seats.table ≡ g.N.Naming.table) × (l.reader.table ≡ g.N.Naming.table)
