use Rattle.sg_segment.proofs.InTurn.{Left}
use Rattle.sg_distance.specs.Shapes.{is_near_any, lines_of}
use Rattle.sg_shape.specs.Plane.{edges_of}
use Rattle.sg_distance.proofs.lines.path_is_near.Given as goal

abbrev pub invariant-loop-at : goal.invariant-loop-at
invariant-loop-at l = Left (is_near_any l.limit (edges_of (lines_of l.b))) l.path l.at
