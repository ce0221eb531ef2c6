-- Whether an edge crosses the ray of a spot, as the code tells it.
use Rattle.std.proofs.Common.{◌≡◌, ◌-◌, ◌<◌, arith, refl, Bool, true}
use mathlib.Core.Bool.{◌&&◌, ◌||◌, not}
use lib.IntN.{ℤ, pos, ◌-ℤ◌, ◌*ℤ◌, *ℤ_comm}
use lib.Signed.{◌<ℤ◌, lt_z}
use Rattle.sg_algebra.proofs.Ring.{sums, times_one}
use Rattle.sg_algebra.proofs.Comparisons.{lt-from_true, true-from_lt, same_test}
use Rattle.sg_segment.specs.Sides.{point_at, cross}
use Rattle.sg_shape.specs.Plane.{Point, crosses_ray, is_above, passes_right}
use Rattle.sg_shape.specs.declared.spots.Spot.{Spot}
use Rattle.sg_shape.specs.declared.spots.Edge.{Edge}

-- ---- an edge at a spot
pub above-spot : (s t : Spot) → lt_z t.y s.y ≡ is_above s (point_at t)
above-spot s t = rw (times_one s.y) refl

pub passes-spot : (u v s : Spot) → lt_z (pos 0) (cross u v s) ≡ passes_right u v (point_at s)
passes-spot u v s = rw (times_one u.x, times_one u.y, *ℤ_comm (v.x -ℤ u.x) (s.y -ℤ u.y), *ℤ_comm (v.y -ℤ u.y) (s.x -ℤ u.x)) (turned ((s.y -ℤ u.y) *ℤ (v.x -ℤ u.x)) ((s.x -ℤ u.x) *ℤ (v.y -ℤ u.y)))
  where
    turned : (a b : ℤ) → lt_z (pos 0) (a -ℤ b) ≡ lt_z b a
    turned a b = same_test
        (λ h. true-from_lt b a (let k : pos 0 <ℤ (a -ℤ b) = lt-from_true (pos 0) (a -ℤ b) h in omega (arith, sums)))
        (λ h. true-from_lt (pos 0) (a -ℤ b) (let k : b <ℤ a = lt-from_true b a h in omega (arith, sums)))

pub crosses_by : (e : Edge) (p : Point) (f t : Bool) → is_above e.from p ≡ f → is_above e.to p ≡ t →
    crosses_ray e p ≡ ((t && not f && passes_right e.from e.to p) || (f && not t && passes_right e.to e.from p))
crosses_by e p f t ef et = rw (ef, et) refl
