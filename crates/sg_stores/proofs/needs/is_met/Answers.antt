use Rattle.sg_stores.proofs.Helds.{by_s, by_u, by_ss, by_su, by_in, by_xx}
use Rattle.sg_stores.proofs.needs.is_met.Goals as goal

pub returns-in-S : goal.returns-in-S
returns-in-S c = let e = by_s c.args.locks.now.grants c.args.s c.args.key.now in cc

pub returns-in-U : goal.returns-in-U
returns-in-U c = let e = by_u c.args.locks.now.grants c.args.s c.args.key.now in cc

pub returns-in-RangeSS : goal.returns-in-RangeSS
returns-in-RangeSS c = let e = by_ss c.args.locks.now.grants c.args.s c.args.key.now in cc

pub returns-in-RangeSU : goal.returns-in-RangeSU
returns-in-RangeSU c = let e = by_su c.args.locks.now.grants c.args.s c.args.key.now in cc

pub returns-in-RangeIN : goal.returns-in-RangeIN
returns-in-RangeIN c = let e = by_in c.args.locks.now.grants c.args.s c.args.key.now in cc

pub returns-in-RangeXX : goal.returns-in-RangeXX
returns-in-RangeXX c = let e = by_xx c.args.locks.now.grants c.args.s c.args.key.now in cc
