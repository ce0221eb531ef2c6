use Rattle.std.proofs.Common.{◌≡◌, drop}
use Rattle.sg_distance.specs.Shapes.{first_odd}
use Rattle.sg_distance.proofs.areas.encloses_some_first.Given as goal

-- the rings so far have no first spot inside
abbrev pub invariant-loop-other : goal.invariant-loop-other
invariant-loop-other l = first_odd l.rings l.others ≡ first_odd l.rings (drop l.other-index l.others)
