use Rattle.std.proofs.Common.{◌↔◌, sym, subst, IsTrue, Bool}
use lib.IntN.{ℤ}
use Rattle.sg_shape.specs.Matrix.{Relates}
use Rattle.sg_shape.specs.declared.matrices.Matrix.{Matrix}
use Rattle.sg_sweep.specs.Decided.{IsDecided}
use Rattle.sg_relate.proofs.Settled.{settled}
use Rattle.sg_relate.proofs.relations.swept.Goals as goal

pub returns : goal.returns
returns c =
    let d1 = subst (λ (z : ℤ). IsDecided z c.heights.result.high c.deciding.result c.args.a.now c.args.b.now c.in_ok-met.met) c.heights.ensures.low c.in_ok-met.ensures in
    let d2 = subst (λ (z : ℤ). IsDecided c.args.shared.ymin z c.deciding.result c.args.a.now c.args.b.now c.in_ok-met.met) c.heights.ensures.high d1 in
    let d3 = subst (λ (w : Matrix). IsDecided c.args.shared.ymin c.args.shared.ymax w c.args.a.now c.args.b.now c.in_ok-met.met) c.deciding.ensures d2 in
    subst (λ (t : Bool). IsTrue t ↔ Relates c.args.pred c.args.a.now c.args.b.now) (sym c.satisfies.ensures.value)
    (settled c.args.a.now c.args.b.now c.args.shared c.args.pred c.in_ok-met.met c.requires.within d3)
