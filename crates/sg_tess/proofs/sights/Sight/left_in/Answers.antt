use Rattle.sg_tess.proofs.Distant.{left_first, left_more}
use Rattle.sg_tess.proofs.sights.Sight.left_in.Goals as goal

pub loop-left-init : goal.loop-left-init
loop-left-init g c = record { far = left_first c.args.self.now.grid.now c.args.parent c.args.self.now.bounds }

pub loop-left-preserved : goal.loop-left-preserved
loop-left-preserved g c = record { far = left_more c.args.self.now.grid.now c.args.parent c.args.self.now.bounds c.loop-left.left c.loop-left.invariant.far (c.is_far_across.ensures c.if-is_far_across.true) }
