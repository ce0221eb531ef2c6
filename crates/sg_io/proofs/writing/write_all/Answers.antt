use Rattle.std.proofs.Common.{arith, refl}
use Rattle.sg_io.proofs.Pieces.{Appends-more, rest-within}
use Rattle.sg_io.proofs.writing.write_all.Goals as goal

pub loop-sent-preserved : goal.loop-sent-preserved
loop-sent-preserved g c = record {
  within = rest-within c.args.text.now c.loop-sent.sent c.in-Ok.count c.loop-sent.invariant.within c.in-Ok.ensures.bound;
  so_far = Appends-more _ (g.K.Sink.taken c.loop-sent.sink) _ c.args.text.now _ c.loop-sent.sent c.in-Ok.count
      refl c.loop-sent.invariant.so_far c.in-Ok.ensures.bytes;
  later = omega (arith, c.in-Ok.ensures.cause.later);
}
