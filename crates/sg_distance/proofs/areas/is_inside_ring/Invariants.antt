use Rattle.sg_segment.specs.Sides.{point_at}
use Rattle.sg_segment.proofs.Parity.{Counted}
use Rattle.sg_distance.proofs.areas.is_inside_ring.Given as goal

abbrev pub invariant-loop-at : goal.invariant-loop-at
invariant-loop-at l = Counted (point_at l.spot) l.ring l.at l.inside
