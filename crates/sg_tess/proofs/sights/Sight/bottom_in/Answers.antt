use Rattle.sg_tess.proofs.Distant.{bottom_first, bottom_more}
use Rattle.sg_tess.proofs.sights.Sight.bottom_in.Goals as goal

pub loop-bottom-init : goal.loop-bottom-init
loop-bottom-init g c = record { far = bottom_first c.args.self.now.grid.now c.args.parent c.args.self.now.bounds }

pub loop-bottom-preserved : goal.loop-bottom-preserved
loop-bottom-preserved g c = record { far = bottom_more c.args.self.now.grid.now c.args.parent c.args.self.now.bounds c.loop-bottom.bottom c.loop-bottom.invariant.far (c.is_far_up.ensures c.if-is_far_up.true) }
