use Rattle.std.proofs.Common.{◌≡◌, drop}
use Rattle.std.specs.List.{list_any}
use Rattle.sg_distance.specs.Shapes.{is_near_any, lines_of}
use Rattle.sg_shape.specs.Plane.{edges_of}
use Rattle.sg_distance.proofs.lines.rings_are_near.Given as goal

-- the rings so far have no near edge
abbrev pub invariant-loop-ring : goal.invariant-loop-ring
invariant-loop-ring l =
    list_any (is_near_any l.limit (edges_of (lines_of l.b))) (edges_of l.rings)
    ≡ list_any (is_near_any l.limit (edges_of (lines_of l.b))) (edges_of (drop l.ring-index l.rings))
