use Rattle.sg_tess.proofs.Looks.{covered_is}
use Rattle.sg_tess.proofs.sights.Sight.covers.Goals as goal

pub returns : goal.returns
returns g c = covered_is c.args.self.now.shape.now c.args.found.now c.covers.result c.covers.ensures
