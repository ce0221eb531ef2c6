use Rattle.std.proofs.Common.{subst, sym}
use Rattle.std.specs.List.{All}
use Rattle.sg_distance.proofs.ByKind.{at_point, at_line}
use Rattle.sg_shape.specs.Limits.{IsIn}
use Rattle.sg_distance.proofs.lines.lines_are_near.Goals as goal

pub edge_is_near-requires-clause-from : goal.edge_is_near-requires-clause-from
edge_is_near-requires-clause-from c = subst IsIn (sym c.dot.ensures.from) (at_point IsIn c.args.a.now c.in-Point.spot c.in-Point.is c.requires.first)

pub edge_is_near-requires-clause-to : goal.edge_is_near-requires-clause-to
edge_is_near-requires-clause-to c = subst IsIn (sym c.dot.ensures.to) (at_point IsIn c.args.a.now c.in-Point.spot c.in-Point.is c.requires.first)

pub path_is_near-requires-clause-first : goal.path_is_near-requires-clause-first
path_is_near-requires-clause-first c = subst (All IsIn) (sym c.as_slice.ensures) (at_line IsIn c.args.a.now c.in-Line.path c.in-Line.is c.requires.first)
