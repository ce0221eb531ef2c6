use Rattle.std.proofs.Common.{sym, subst}
use Rattle.sg_shape.specs.Sound.{IsSound}
use Rattle.sg_engine.proofs.Gathered.{goes_last}
use Rattle.sg_engine.proofs.queries.offer.Goals as goal

pub push-requires : goal.push-requires
push-requires c = record {
  above = goes_last c.args.job.now.items c.args.key c.in_order.ensures c.requires.above;
  sound = subst IsSound (sym c.in_ok-copy.ensures) c.in-Some.ensures.sound;
}
