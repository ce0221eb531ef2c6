use Rattle.std.proofs.Common.{inr, refl, sym, subst}
use Rattle.std.proofs.lemmas.Bool.{iff_false}
use Rattle.sg_shape.specs.declared.shapes.Shape.{Shape}
use Rattle.sg_plain.specs.Sat.{Sat}
use Rattle.sg_copies.proofs.stored.take_row.Goals as goal

pub returns-then-not-branch : goal.returns-then-not-branch
returns-then-not-branch g c = inr (λ sat. iff_false c.in_ok-is_sat.ensures c.if-not-branch.true (subst (λ (s : Shape). Sat c.args.test s c.args.shape.now) (sym c.get.ensures) sat), refl)
