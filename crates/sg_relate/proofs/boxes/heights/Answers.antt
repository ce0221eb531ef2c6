use Rattle.std.proofs.Common.{◌≤◌, arith, sym, subst, unsigned_abs, neg_ℤ, w32, to_z, of_z}
use Rattle.std.proofs.lemmas.Int.{ints}
use lib.IntN.{ℤ, pos, negsuc}
use lib.Signed.{◌≤ℤ◌}
use Rattle.sg_segment.proofs.Fitting.{coordinate}
use Rattle.sg_algebra.proofs.Ring.{sums}
use Rattle.sg_shape.specs.declared.bounds.Bounds.{Bounds}
use Rattle.sg_relate.specs.Boxes.{HasHeights}
use Rattle.sg_relate.proofs.boxes.heights.Goals as goal

low_is : (b : Bounds) → HasHeights b → unsigned_abs b.ymin ≤ 16000000
low_is b h = let k = h.low in let l = h.rises in let m = h.high in omega (arith, ints, sums, k, l, m)

high_is : (b : Bounds) → HasHeights b → unsigned_abs b.ymax ≤ 16000000
high_is b h = let k = h.low in let l = h.rises in let m = h.high in omega (arith, ints, sums, k, l, m)

from_lowest : (z : ℤ) → neg_ℤ (pos 16000000) ≤ℤ z → negsuc 15999999 ≤ℤ z
from_lowest z h = omega (arith, ints, sums, h)

pub invariant_of-result-clause-lowest : goal.invariant_of-result-clause-lowest
invariant_of-result-clause-lowest c = subst (λ (z : ℤ). negsuc 15999999 ≤ℤ z) (sym (coordinate c.args.bounds.ymin (low_is c.args.bounds c.requires))) (from_lowest c.args.bounds.ymin c.requires.low)

pub invariant_of-result-clause-rises : goal.invariant_of-result-clause-rises
invariant_of-result-clause-rises c =
    subst (λ (z : ℤ). z ≤ℤ to_z w32 (of_z w32 c.args.bounds.ymax)) (sym (coordinate c.args.bounds.ymin (low_is c.args.bounds c.requires)))
    (subst (λ (z : ℤ). c.args.bounds.ymin ≤ℤ z) (sym (coordinate c.args.bounds.ymax (high_is c.args.bounds c.requires))) c.requires.rises)

pub invariant_of-result-clause-highest : goal.invariant_of-result-clause-highest
invariant_of-result-clause-highest c = subst (λ (z : ℤ). z ≤ℤ pos 16000000) (sym (coordinate c.args.bounds.ymax (high_is c.args.bounds c.requires))) c.requires.high
