use Rattle.std.proofs.Common.{arith}
use Rattle.sg_tess.proofs.Distant.{top_first, top_more}
use Rattle.sg_tess.proofs.sights.Sight.top_in.Goals as goal

pub loop-top-init : goal.loop-top-init
loop-top-init g c = record {
  far = top_first c.args.self.now.grid.now c.args.parent c.args.self.now.bounds c.side_under-top.result c.side_under-top.ensures.columns;
  most = let e = c.side_under-top.ensures.columns in omega arith;
}

pub loop-top-preserved : goal.loop-top-preserved
loop-top-preserved g c = record {
  far = top_more c.args.self.now.grid.now c.args.parent c.args.self.now.bounds c.loop-top.top (omega arith) c.loop-top.invariant.far (c.is_far_up.ensures c.if-is_far_up.true);
  most = let m = c.loop-top.invariant.most in omega arith;
}
