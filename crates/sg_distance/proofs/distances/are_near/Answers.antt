use Rattle.sg_shape.specs.Bounds.{IsInside}
use Rattle.sg_distance.proofs.Soundness.{on_lines, spots_in}
use Rattle.sg_distance.proofs.distances.are_near.Goals as goal

pub lines_are_near-requires-clause-first : goal.lines_are_near-requires-clause-first
lines_are_near-requires-clause-first c = spots_in c.args.a.now c.requires.a

pub lines_are_near-requires-clause-second : goal.lines_are_near-requires-clause-second
lines_are_near-requires-clause-second c = spots_in c.args.b.now c.requires.b

pub lines_are_near-requires-clause-inside : goal.lines_are_near-requires-clause-inside
lines_are_near-requires-clause-inside c = on_lines (IsInside c.args.second) c.args.b.now c.requires.second.inside

pub encloses-requires-clause-first : goal.encloses-requires-clause-first
encloses-requires-clause-first c = spots_in c.args.a.now c.requires.a

pub encloses-requires-clause-second : goal.encloses-requires-clause-second
encloses-requires-clause-second c = spots_in c.args.b.now c.requires.b

pub encloses-requires-else-encloses-clause-first : goal.encloses-requires-else-encloses-clause-first
encloses-requires-else-encloses-clause-first c = spots_in c.args.b.now c.requires.b

pub encloses-requires-else-encloses-clause-second : goal.encloses-requires-else-encloses-clause-second
encloses-requires-else-encloses-clause-second c = spots_in c.args.a.now c.requires.a
