use Rattle.std.proofs.Common.{◌≡◌, drop}
use Rattle.sg_shape.specs.Plane.{edges_of}
use Rattle.sg_segment.specs.Sides.{point_at}
use Rattle.sg_segment.specs.Statuses.{xor, parity}
use Rattle.sg_distance.proofs.areas.is_inside.Given as goal

-- the rings so far are counted
abbrev pub invariant-loop-ring : goal.invariant-loop-ring
invariant-loop-ring l = parity (edges_of l.rings) (point_at l.spot) ≡ xor l.inside (parity (edges_of (drop l.ring-index l.rings)) (point_at l.spot))
