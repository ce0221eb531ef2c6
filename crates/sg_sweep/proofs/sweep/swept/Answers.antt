use Rattle.sg_shape.specs.Shapes.{parts_of}
use Rattle.sg_sweep.proofs.Whole.{shapes_covered}
use Rattle.sg_sweep.proofs.sweep.swept.Goals as goal

pub returns : goal.returns
returns c =
    c.sweep.ensures (parts_of c.args.a.now) (parts_of c.args.b.now)
    (shapes_covered c.args.a.now c.args.b.now c.deref.result.now c.in_ok-pieces.pieces.items c.requires.first c.requires.second c.deref.ensures.value c.in_ok-pieces.ensures) c.requires.wanted
