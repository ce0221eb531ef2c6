-- Shapes that are so related have boxes that allow it.
use Rattle.std.proofs.Common.{◌≡◌, arith, refl, ap, subst, true, false, List, get_or}
use Rattle.std.specs.Prelude.{Any}
use Rattle.std.specs.List.{All}
use mathlib.Core.Logic.{◌⊎◌, inl, inr}
use lib.IntN.{ℤ}
use lib.Signed.{◌≤ℤ◌}
use Rattle.sg_algebra.proofs.Ring.{sums}
use Rattle.sg_segment.specs.Sides.{point_at}
use Rattle.sg_shape.specs.declared.bounds.Bounds.{Bounds}
use Rattle.sg_shape.specs.declared.matrices.Pred.{Pred}
use Rattle.sg_shape.specs.declared.matrices.Pred.TheVariants.{Intersects, Contains, Within, Equals, Touches}
use Rattle.sg_shape.specs.declared.shapes.Shape.{Shape}
use Rattle.sg_shape.specs.declared.spots.Spot.{Spot}
use Rattle.sg_shape.specs.Bounds.{IsInside, IsBounds, IsEmpty}
use Rattle.sg_shape.specs.Boxes.{HasPoint, is_held}
use Rattle.sg_shape.specs.Grown.{PointIn}
use Rattle.sg_shape.specs.Matrix.{Meets, Relates}
use Rattle.sg_shape.specs.Plane.{Point, Status, In, Bd, Out}
use Rattle.sg_shape.specs.Shapes.{parts_of, spots, status_in}
use Rattle.sg_shape.specs.Sound.{IsSound}
use Rattle.sg_relate.specs.Boxes.{AreApart, LiesIn, MayRelate}
use Rattle.sg_relate.proofs.Held.{spots_held, points_in}
use Rattle.sg_relate.proofs.Named.{times_one}
use Rattle.sg_relate.proofs.Places.{apart_points}

-- each relation is one of shapes with a common point
common_point : (pred : Pred) (a b : Shape) → Relates pred a b → (p : Point) × HasPoint (parts_of a) p × HasPoint (parts_of b) p
common_point Intersects a b (inl q) = (q.0, ap is_held q.1, ap is_held q.2)
common_point Intersects a b (inr (inl q)) = (q.0, ap is_held q.1, ap is_held q.2)
common_point Intersects a b (inr (inr (inl q))) = (q.0, ap is_held q.1, ap is_held q.2)
common_point Intersects a b (inr (inr (inr q))) = (q.0, ap is_held q.1, ap is_held q.2)
common_point Contains a b r = (r.0.0, ap is_held r.0.1, ap is_held r.0.2)
common_point Within a b r = (r.0.0, ap is_held r.0.1, ap is_held r.0.2)
common_point Equals a b r = (r.0.0, ap is_held r.0.1, ap is_held r.0.2)
common_point Touches a b r = touching r.0
  where
    touching : Meets In Bd a b ⊎ Meets Bd In a b ⊎ Meets Bd Bd a b → (p : Point) × HasPoint (parts_of a) p × HasPoint (parts_of b) p
    touching (inl q) = (q.0, ap is_held q.1, ap is_held q.2)
    touching (inr (inl q)) = (q.0, ap is_held q.1, ap is_held q.2)
    touching (inr (inr q)) = (q.0, ap is_held q.1, ap is_held q.2)

-- ---- shapes without points
no_point : (k : Shape) → IsEmpty k → (p : Point) → HasPoint (parts_of k) p → ⊥
no_point k e p h = none (subst (λ (s : Shape). HasPoint (parts_of s) p) e.1 h)
  where
    none : false ≡ true → ⊥
    none x = absurd (cc)

pub empty_unrelated : (pred : Pred) (a b : Shape) → IsEmpty a ⊎ IsEmpty b → Relates pred a b → ⊥
empty_unrelated pred a b (inl e) r = let q = common_point pred a b r in no_point a e q.0 q.1
empty_unrelated pred a b (inr e) r = let q = common_point pred a b r in no_point b e q.0 q.2

-- ---- a shape each of whose points is one of another
Covered : Shape → Shape → Type 0
Covered a b = (p : Point) → HasPoint (parts_of a) p → HasPoint (parts_of b) p

-- a point with one status is held where it isn't outside
not_out : (s : Status) → (s ≡ Out → ⊥) → is_held s ≡ true
not_out In f = refl
not_out Bd f = refl
not_out Out f = absurd (f refl)

covered : (a b : Shape) → ((p : Point) → status_in a p ≡ In → status_in b p ≡ Out → ⊥) → ((p : Point) → status_in a p ≡ Bd → status_in b p ≡ Out → ⊥) → Covered a b
unfolding Covered
covered a b f g p h = not_out (status_in b p) (λ e. by (status_in a p) refl h e)
  where
    by : (s : Status) → status_in a p ≡ s → is_held s ≡ true → status_in b p ≡ Out → ⊥
    by In d k e = f p d e
    by Bd d k e = g p d e
    by Out d k e = absurd (cc)

spot_inside : (g : Bounds) (t : Spot) → PointIn g (point_at t) → IsInside g t
spot_inside g t i =
    let a = i.left in let b = i.right in let c = i.below in let d = i.above in
    let u = times_one g.xmin in let v = times_one g.xmax in let w = times_one g.ymin in let x = times_one g.ymax in
    record { left = omega (arith, sums, a, u); right = omega (arith, sums, b, v); below = omega (arith, sums, c, w); above = omega (arith, sums, d, x) }

on_side : (g : Bounds) (Q : Spot → Type 0) (ss : List Spot) → All (IsInside g) ss → Any Q ss → (t : Spot) × IsInside g t × Q t
on_side g Q ss h q = (q.1, subst (IsInside g) q.3 (h q.0 q.1 q.2), q.4)

lies_in : (a b : Shape) (f g : Bounds) → IsSound a → IsSound b → IsBounds f a → IsBounds g b → Covered a b → LiesIn f g
unfolding Covered
lies_in a b f g sa sb fa gb h =
    let inside : All (IsInside g) (spots a) = λ n d l. spot_inside g (get_or (spots a) n d) (points_in b g sb gb.inside (point_at (get_or (spots a) n d)) (h (point_at (get_or (spots a) n d)) (spots_held a sa n d l))) in
    let left = on_side g (λ t. t.x ≡ f.xmin) (spots a) inside fa.left in
    let right = on_side g (λ t. t.x ≡ f.xmax) (spots a) inside fa.right in
    let below = on_side g (λ t. t.y ≡ f.ymin) (spots a) inside fa.below in
    let above = on_side g (λ t. t.y ≡ f.ymax) (spots a) inside fa.above in (
      (subst (λ (z : ℤ). g.xmin ≤ℤ z) left.2 left.1.left, subst (λ (z : ℤ). z ≤ℤ g.xmax) right.2 right.1.right),
      (subst (λ (z : ℤ). g.ymin ≤ℤ z) below.2 below.1.below, subst (λ (z : ℤ). z ≤ℤ g.ymax) above.2 above.1.above),
    )

-- ---- the boxes of related shapes
module _ (a b : Shape) (f g : Bounds) (sa : IsSound a) (sb : IsSound b) (fa : IsBounds f a) (gb : IsBounds g b) where
  meeting : (pred : Pred) → Relates pred a b → ¬ AreApart f g
  meeting pred r k = let q = common_point pred a b r in apart_points f g k q.0 (points_in a f sa fa.inside q.0 q.1) (points_in b g sb gb.inside q.0 q.2)

  first_in : ¬ (Meets In Out a b ⊎ Meets Bd Out a b) → LiesIn f g
  first_in n = lies_in a b f g sa sb fa gb (covered a b (λ p d e. n (inl (p, d, e))) (λ p d e. n (inr (p, d, e))))

  second_in : ¬ (Meets Out In a b ⊎ Meets Out Bd a b) → LiesIn g f
  second_in n = lies_in b a g f sb sa gb fa (covered b a (λ p d e. n (inl (p, e, d))) (λ p d e. n (inr (p, e, d))))

  pub may : (pred : Pred) → Relates pred a b → MayRelate pred f g
  may Intersects r = meeting Intersects r
  may Contains r = second_in r.1
  may Within r = first_in r.1
  may Equals r = (first_in (λ m. r.1 (first_part m)), second_in (λ m. r.1 (inr (inr m))))
    where
      first_part : Meets In Out a b ⊎ Meets Bd Out a b → Meets In Out a b ⊎ Meets Bd Out a b ⊎ Meets Out In a b ⊎ Meets Out Bd a b
      first_part (inl x) = inl x
      first_part (inr x) = inr (inl x)
  may Touches r = meeting Touches r
