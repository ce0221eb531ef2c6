use Rattle.sg_tess.proofs.Distant.{reached}
use Rattle.sg_tess.proofs.sights.Sight.reach.Goals as goal

pub returns : goal.returns
returns g c =
    reached c.args.self.now.grid.now c.args.parent c.args.self.now.bounds (record { left = c.left_in-left.result; right = c.right_in.result; bottom = c.bottom_in-bottom.result; top = c.top_in.result })
    c.left_in-left.ensures c.right_in.ensures c.bottom_in-bottom.ensures c.top_in.ensures
