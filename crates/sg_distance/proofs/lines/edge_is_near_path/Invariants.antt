use Rattle.sg_segment.proofs.InTurn.{Left}
use Rattle.sg_distance.specs.Shapes.{are_near}
use Rattle.sg_distance.proofs.lines.edge_is_near_path.Given as goal

abbrev pub invariant-loop-at : goal.invariant-loop-at
invariant-loop-at l = Left (are_near l.limit l.e) l.path l.at
