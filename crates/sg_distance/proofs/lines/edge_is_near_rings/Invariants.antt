use Rattle.std.proofs.Common.{◌≡◌, drop}
use Rattle.sg_distance.specs.Shapes.{is_near_any}
use Rattle.sg_shape.specs.Plane.{edges_of}
use Rattle.sg_distance.proofs.lines.edge_is_near_rings.Given as goal

-- the rings so far have no near edge
abbrev pub invariant-loop-ring : goal.invariant-loop-ring
invariant-loop-ring l = is_near_any l.limit (edges_of l.rings) l.e ≡ is_near_any l.limit (edges_of (drop l.ring-index l.rings)) l.e
