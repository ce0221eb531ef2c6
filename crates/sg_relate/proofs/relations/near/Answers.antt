use Rattle.std.proofs.Common.{subst}
use Rattle.sg_shape.specs.declared.cells.CellBox.{CellBox}
use Rattle.sg_nearby.specs.Nearby.{SameIn}
use Rattle.sg_relate.proofs.Speaking.{stands_near}
use Rattle.sg_relate.proofs.relations.near.Goals as goal

pub returns : goal.returns
returns c =
    stands_near c.args.bounds c.args.shared c.args.shape.now c.in_ok-part.part c.requires.bounds c.in_ok-part.ensures.sound
    (subst (λ (box : CellBox). SameIn box c.in_ok-part.part c.args.shape.now) c.closed.ensures c.in_ok-part.ensures.same) c.in_ok-part.ensures.spots
