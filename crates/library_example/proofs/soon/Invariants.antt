use Rattle.std.proofs.Common.{◌≡◌}
use Rattle.library_example.proofs.soon.Given as goal

abbrev pub invariant-loop : goal.invariant-loop
invariant-loop g l = l.seat.table ≡ l.db
