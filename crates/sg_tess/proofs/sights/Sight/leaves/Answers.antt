use Rattle.sg_tess.proofs.Looks.{leaves_is}
use Rattle.sg_tess.proofs.sights.Sight.leaves.Goals as goal

pub returns : goal.returns
returns g c = leaves_is c.args.self.now.shape.now c.args.whole.now c.leaves.result c.leaves.ensures
