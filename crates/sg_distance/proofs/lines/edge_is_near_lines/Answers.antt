use Rattle.std.proofs.Common.{subst, sym}
use Rattle.std.specs.List.{All}
use Rattle.sg_distance.proofs.ByKind.{at_point, at_line}
use Rattle.sg_shape.specs.Limits.{IsIn}
use Rattle.sg_distance.proofs.lines.edge_is_near_lines.Goals as goal

pub edges_are_near-requires-clause-third : goal.edges_are_near-requires-clause-third
edges_are_near-requires-clause-third c = subst IsIn (sym c.dot.ensures.from) (at_point IsIn c.args.b.now c.in-Point.spot c.in-Point.is c.requires.second)

pub edges_are_near-requires-clause-fourth : goal.edges_are_near-requires-clause-fourth
edges_are_near-requires-clause-fourth c = subst IsIn (sym c.dot.ensures.to) (at_point IsIn c.args.b.now c.in-Point.spot c.in-Point.is c.requires.second)

pub edge_is_near_path-requires-clause-second : goal.edge_is_near_path-requires-clause-second
edge_is_near_path-requires-clause-second c = subst (All IsIn) (sym c.as_slice.ensures) (at_line IsIn c.args.b.now c.in-Line.path c.in-Line.is c.requires.second)
