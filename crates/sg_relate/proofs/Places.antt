-- Points in boxes: of boxes that lie in each other, and of what two boxes have in common.
use Rattle.std.proofs.Common.{ℕ, ◌≡◌, arith, Bool, true, false, cond}
use Rattle.std.specs.Int.{int_min, int_max}
use Rattle.std.specs.Prelude.{int_lt}
use mathlib.Core.Bool.{◌||◌}
use mathlib.Core.Logic.{inl, inr}
use lib.IntN.{ℤ, pos, neg_ℤ, ◌*ℤ◌}
use lib.Signed.{◌<ℤ◌, ◌≤ℤ◌, lt_z, le_z}
use Rattle.sg_algebra.proofs.Ring.{sums, nonneg_diff-mul, lt-mul_right}
use Rattle.sg_algebra.specs.Orders.{Cmp, less, same as equal, more, cmp}
use Rattle.sg_algebra.proofs.Comparisons.{true-from_le, both, or_right}
use Rattle.sg_shape.specs.declared.bounds.Bounds.{Bounds}
use Rattle.sg_shape.specs.declared.matrices.Pred.{Pred}
use Rattle.sg_shape.specs.declared.matrices.Pred.TheVariants.{Intersects, Contains, Within, Equals, Touches}
use Rattle.sg_shape.specs.declared.shapes.Shape.{Shape}
use Rattle.sg_shape.specs.Bounds.{IsBounds}
use Rattle.sg_shape.specs.Boxes.{within, in_box}
use Rattle.sg_shape.specs.Grown.{PointIn}
use Rattle.sg_shape.specs.Plane.{Point}
use Rattle.sg_shape.specs.Sound.{IsSound}
use Rattle.sg_shape.proofs.Limits.{bounds_in, at_least, at_most}
use Rattle.sg_distance.proofs.Grown.{bounds_ordered}
use Rattle.sg_relate.specs.Boxes.{AreApart, LiesIn, MayRelate, HasHeights, common, closed}

-- ---- the lower and the higher of two numbers
lower_is : (P : ℤ → Type 0) (x y : ℤ) → P x → P y → P (int_min x y)
lower_is P x y h k = by (int_lt y x)
  where
    by : (t : Bool) → P (cond t y x)
    by true = k
    by false = h

higher_is : (P : ℤ → Type 0) (x y : ℤ) → P x → P y → P (int_max x y)
higher_is P x y h k = by (int_lt y x)
  where
    by : (t : Bool) → P (cond t x y)
    by true = h
    by false = k

-- ---- points
less_or : (x y z : ℤ) (p : Point) → x ≤ℤ y → (y *ℤ pos p.n) ≤ℤ z → (x *ℤ pos p.n) ≤ℤ z
less_or x y z p h k = let u : (x *ℤ pos p.n) ≤ℤ (y *ℤ pos p.n) = nonneg_diff-mul x y (pos p.n) (omega (arith, sums, p.is_over)) h in omega (arith, sums, u, k)

more_or : (x y z : ℤ) (p : Point) → y ≤ℤ x → z ≤ℤ (y *ℤ pos p.n) → z ≤ℤ (x *ℤ pos p.n)
more_or x y z p h k = let u : (y *ℤ pos p.n) ≤ℤ (x *ℤ pos p.n) = nonneg_diff-mul y x (pos p.n) (omega (arith, sums, p.is_over)) h in omega (arith, sums, u, k)

pub in_larger : (f g : Bounds) (p : Point) → LiesIn f g → PointIn f p → PointIn g p
in_larger f g p l i = record {
  left = less_or g.xmin f.xmin p.x p l.0.0 i.left;
  right = more_or g.xmax f.xmax p.x p l.0.1 i.right;
  below = less_or g.ymin f.ymin p.y p l.1.0 i.below;
  above = more_or g.ymax f.ymax p.y p l.1.1 i.above;
}

pub in_common : (f g : Bounds) (p : Point) → PointIn f p → PointIn g p → PointIn (common f g) p
in_common f g p i j = record {
  left = higher_is (λ z. (z *ℤ pos p.n) ≤ℤ p.x) f.xmin g.xmin i.left j.left;
  right = lower_is (λ z. p.x ≤ℤ (z *ℤ pos p.n)) f.xmax g.xmax i.right j.right;
  below = higher_is (λ z. (z *ℤ pos p.n) ≤ℤ p.y) f.ymin g.ymin i.below j.below;
  above = lower_is (λ z. p.y ≤ℤ (z *ℤ pos p.n)) f.ymax g.ymax i.above j.above;
}

pub in_closed : (b : Bounds) (p : Point) → PointIn b p → in_box (closed b) p ≡ true
in_closed b p i =
    both (within b.xmin b.xmax true p.x p.n) (within b.ymin b.ymax true p.y p.n) (side b.xmin b.xmax p.x p.n i.left i.right) (side b.ymin b.ymax p.y p.n i.below i.above)
  where
    side : (low high v : ℤ) (n : ℕ) → (low *ℤ pos n) ≤ℤ v → v ≤ℤ (high *ℤ pos n) → within low high true v n ≡ true
    side low high v n h k =
        both (le_z (low *ℤ pos n) v) (lt_z v (high *ℤ pos n) || le_z v (high *ℤ pos n)) (true-from_le (low *ℤ pos n) v h)
        (or_right (lt_z v (high *ℤ pos n)) (le_z v (high *ℤ pos n)) (true-from_le v (high *ℤ pos n) k))

-- ---- boxes that lie apart
no_place : (high low v : ℤ) (p : Point) → v ≤ℤ (high *ℤ pos p.n) → (low *ℤ pos p.n) ≤ℤ v → high <ℤ low → ⊥
no_place high low v p h l k =
    let o : pos 0 <ℤ pos p.n = omega (arith, sums, p.is_over) in
    let u : (high *ℤ pos p.n) <ℤ (low *ℤ pos p.n) = lt-mul_right high low (pos p.n) o k in
    omega (arith, sums, h, l, u)

pub apart_points : (f g : Bounds) → AreApart f g → (p : Point) → PointIn f p → PointIn g p → ⊥
apart_points f g (inl (inl k)) p u v = no_place f.xmax g.xmin p.x p u.right v.left k
apart_points f g (inl (inr k)) p u v = no_place g.xmax f.xmin p.x p v.right u.left k
apart_points f g (inr (inl k)) p u v = no_place f.ymax g.ymin p.y p u.above v.below k
apart_points f g (inr (inr k)) p u v = no_place g.ymax f.ymin p.y p v.above u.below k

-- ---- the heights of what two boxes have in common
pub box_heights : (k : Shape) (b : Bounds) → IsSound k → IsBounds b k → HasHeights b
box_heights k b s i = let u = bounds_in k b s i in record { low = at_least b.ymin u.below; rises = (bounds_ordered k b i).up; high = at_most b.ymax u.above }

not_less : (x y : ℤ) → (x <ℤ y → ⊥) → y ≤ℤ x
not_less x y f = by (cmp x y)
  where
    by : Cmp x y → y ≤ℤ x
    by (less k) = absurd (f k)
    by (equal k) = omega (arith, sums, k)
    by (more k) = omega (arith, sums, k)

-- each box begins at a height of the other or below
reach : (pred : Pred) (f g : Bounds) → HasHeights f → HasHeights g → MayRelate pred f g → (g.ymin ≤ℤ f.ymax) × (f.ymin ≤ℤ g.ymax)
reach pred f g h k m = by pred m
  where
    apart : ¬ (AreApart f g) → (g.ymin ≤ℤ f.ymax) × (f.ymin ≤ℤ g.ymax)
    apart n = (not_less f.ymax g.ymin (λ x. n (inr (inl x))), not_less g.ymax f.ymin (λ x. n (inr (inr x))))

    first : LiesIn f g → (g.ymin ≤ℤ f.ymax) × (f.ymin ≤ℤ g.ymax)
    first l = let u = l.1.0 in let v = l.1.1 in let w = h.rises in (omega (arith, sums, u, w), omega (arith, sums, v, w))

    second : LiesIn g f → (g.ymin ≤ℤ f.ymax) × (f.ymin ≤ℤ g.ymax)
    second l = let u = l.1.0 in let v = l.1.1 in let w = k.rises in (omega (arith, sums, v, w), omega (arith, sums, u, w))

    by : (pred : Pred) → MayRelate pred f g → (g.ymin ≤ℤ f.ymax) × (f.ymin ≤ℤ g.ymax)
    by Intersects n = apart n
    by Contains l = second l
    by Within l = first l
    by Equals l = first l.0
    by Touches n = apart n

pub common_heights : (pred : Pred) (f g : Bounds) → HasHeights f → HasHeights g → MayRelate pred f g → HasHeights (common f g)
common_heights pred f g h k m =
    let r = reach pred f g h k m in
    record {
      low = higher_is (λ z. neg_ℤ (pos 16000000) ≤ℤ z) f.ymin g.ymin h.low k.low;
      rises = higher_is (λ z. z ≤ℤ int_min f.ymax g.ymax) f.ymin g.ymin (lower_is (λ z. f.ymin ≤ℤ z) f.ymax g.ymax h.rises r.1) (lower_is (λ z. g.ymin ≤ℤ z) f.ymax g.ymax r.0 k.rises);
      high = lower_is (λ z. z ≤ℤ pos 16000000) f.ymax g.ymax h.high k.high;
    }
