use Rattle.std.proofs.Common.{◌↔◌, sym, ◌∙◌, subst, IsTrue, Bool}
use Rattle.sg_shape.specs.declared.shapes.Shape.{Shape}
use Rattle.sg_shape.specs.declared.shapes.Shape.TheVariants as shape
use Rattle.sg_shape.specs.Bounds.{IsBounds}
use Rattle.sg_shape.specs.Matrix.{Relates}
use Rattle.sg_relate.proofs.AtPoint.{point_first, point_second}
use Rattle.sg_relate.proofs.Possible.{may}
use Rattle.sg_relate.proofs.relations.bounded_relate.Goals as goal

pub returns-then-not-may_relate : goal.returns-then-not-may_relate
returns-then-not-may_relate c = (
  λ x. absurd (cc),
  λ r. sym c.if-not-may_relate.true
      ∙ c.may_relate.ensures.1 (may c.args.a.now c.args.b.now c.args.first c.args.second c.requires.a c.requires.b c.requires.first c.requires.second c.args.pred r),
)

pub returns-in-Point-default : goal.returns-in-Point-default
returns-in-Point-default c =
    let s = c.in-Point-default.spot in
    let k = c.args.b.now in
    subst (λ (a : Shape). IsTrue c.point_relates.result ↔ Relates c.args.pred a k) (sym c.in-Point-default.is-0)
    (subst (λ (t : Bool). IsTrue t ↔ Relates c.args.pred (shape.Point s) k) (sym c.point_relates.ensures)
    (point_first s k c.args.pred c.args.first c.args.second c.requires.b (subst (IsBounds c.args.first) c.in-Point-default.is-0 c.requires.first) c.requires.second (c.may_relate.ensures.0 c.if-not-may_relate.false)))

pub returns-in_default-Point : goal.returns-in_default-Point
returns-in_default-Point c =
    let s = c.in_default-Point.spot in
    let k = c.args.a.now in
    subst (λ (b : Shape). IsTrue c.point_relates-in_default-Point.result ↔ Relates c.args.pred k b) (sym c.in_default-Point.is-1)
    (subst (λ (t : Bool). IsTrue t ↔ Relates c.args.pred k (shape.Point s)) (sym c.point_relates-in_default-Point.ensures)
    (point_second s k c.args.pred c.args.first c.args.second c.requires.a c.requires.first (subst (IsBounds c.args.second) c.in_default-Point.is-1 c.requires.second) (c.may_relate.ensures.0 c.if-not-may_relate.false)))
