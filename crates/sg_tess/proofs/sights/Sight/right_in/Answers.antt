use Rattle.std.proofs.Common.{arith}
use Rattle.sg_tess.proofs.Distant.{right_first, right_more}
use Rattle.sg_tess.proofs.sights.Sight.right_in.Goals as goal

pub loop-right-init : goal.loop-right-init
loop-right-init g c = record {
  far = right_first c.args.self.now.grid.now c.args.parent c.args.self.now.bounds c.side_under-right.result c.side_under-right.ensures.columns;
  most = let e = c.side_under-right.ensures.columns in omega arith;
}

pub loop-right-preserved : goal.loop-right-preserved
loop-right-preserved g c = record {
  far = right_more c.args.self.now.grid.now c.args.parent c.args.self.now.bounds c.loop-right.right (omega arith) c.loop-right.invariant.far (c.is_far_across.ensures c.if-is_far_across.true);
  most = let m = c.loop-right.invariant.most in omega arith;
}
