use Rattle.std.proofs.Common.{subst, sym}
use Rattle.std.specs.List.{All}
use Rattle.sg_distance.proofs.ByKind.{at_point, at_line}
use Rattle.sg_shape.specs.Limits.{IsIn}
use Rattle.sg_distance.proofs.areas.encloses_first.Goals as goal

pub is_inside-requires-clause-second : goal.is_inside-requires-clause-second
is_inside-requires-clause-second c = at_point IsIn c.args.b.now c.in-Point.spot c.in-Point.is c.requires.second

pub encloses_first_of-requires-clause-second : goal.encloses_first_of-requires-clause-second
encloses_first_of-requires-clause-second c = subst (All IsIn) (sym c.as_slice.ensures) (at_line IsIn c.args.b.now c.in-Line.path c.in-Line.is c.requires.second)
