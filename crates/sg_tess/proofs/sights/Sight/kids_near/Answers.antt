use Rattle.std.proofs.Common.{subst}
use Rattle.sg_shape.specs.declared.cells.CellBox.{CellBox}
use Rattle.sg_nearby.specs.Nearby.{SameIn}
use Rattle.sg_tess.proofs.sights.Sight.kids_near.Goals as goal

pub kids_by-requires-clause-same : goal.kids_by-requires-clause-same
kids_by-requires-clause-same g c = subst (λ (b : CellBox). SameIn b c.in_ok-near.near c.args.self.now.shape.now) c.requires.found c.in_ok-near.ensures.same
