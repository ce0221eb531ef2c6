use Rattle.std.proofs.Common.{◌++◌, drop}
use Rattle.sg_nearby.proofs.Rings.{Replaced}
use Rattle.sg_nearby.proofs.shapes.thin_rings.Given as goal

abbrev pub invariant-loop-ring : goal.invariant-loop-ring
invariant-loop-ring l = record {
  so_far : Replaced l.cell (l.list ++ drop l.ring-index l.rings) l.rings;
}
