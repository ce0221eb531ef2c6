use Rattle.sg_stores.proofs.Helds.{by_x}
use Rattle.sg_stores.proofs.needs.is_written.Goals as goal

pub returns : goal.returns
returns c = let e = by_x c.args.locks.now.grants c.args.s c.args.key.now in cc
