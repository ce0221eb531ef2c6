use Rattle.std.proofs.Common.{◌≡◌, ◌≤◌, length}
use Rattle.std.specs.List.{AllByRecursion}
use Rattle.sg_engine.specs.Inside.{IsUnused}
use Rattle.sg_engine.proofs.opens.unused_seats.Given as goal

abbrev pub invariant-loop : goal.invariant-loop
invariant-loop l = record {
  length : length l.seats.items ≡ l.counter;
  most : l.counter ≤ 64;
  unused : AllByRecursion IsUnused l.seats.items;
}
