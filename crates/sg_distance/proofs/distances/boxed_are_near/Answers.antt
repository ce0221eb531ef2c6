use Rattle.std.proofs.Common.{◌↔◌, Bool, IsTrue, subst, sym, ◌∙◌}
use Rattle.sg_shape.specs.Near.{Near}
use Rattle.sg_distance.proofs.ShapeTests.{none_below_zero, apart_shapes, decides}
use Rattle.sg_distance.proofs.distances.boxed_are_near.Goals as goal

pub returns-then-is_below_none : goal.returns-then-is_below_none
returns-then-is_below_none c = (
  λ t. absurd (cc),
  λ n. absurd (none_below_zero c.args.limit.distance c.args.limit.strict c.args.a.now c.args.b.now (sym c.is_below_none.ensures ∙ c.if-is_below_none.true) n),
)

pub returns-then-are_apart : goal.returns-then-are_apart
returns-then-are_apart c = (
  λ t. absurd (cc),
  λ n. absurd (apart_shapes c.args.limit.distance c.args.limit.strict c.args.a.now c.args.b.now c.args.first c.args.second c.requires.a c.requires.b c.requires.first c.requires.second (sym c.are_apart.ensures ∙ c.if-are_apart.true) n),
)

pub returns : goal.returns
returns c =
    subst (λ (t : Bool). IsTrue t ↔ Near c.args.a.now c.args.b.now c.args.limit.distance c.args.limit.strict) (sym c.are_near.ensures)
    (decides c.args.limit c.args.a.now c.args.b.now c.requires.a c.requires.b (sym c.is_below_none.ensures ∙ c.if-is_below_none.false))
