-- Distances below a bound and growth, at worked examples of the definitions.
use Rattle.std.proofs.Common.{◌≡◌, ℕ, [], ◌∷◌, ℤ, pos, neg_ℤ, true, false, refl, lit≤}
use Rattle.sg_shape.specs.declared.bounds.Bounds.{Bounds}
use Rattle.sg_shape.specs.declared.spots.Spot.{Spot}
use Rattle.sg_shape.specs.declared.shapes.Shape.TheVariants as shape
use Rattle.sg_shape.specs.Plane.{Point}
use Rattle.sg_shape.specs.Near.{Near, is_within}
use Rattle.sg_shape.specs.Grown.{as_shape, moved_out}

abbrev spot : ℤ → ℤ → Spot
spot x y = record { x = x; y = y }

abbrev at : ℤ → ℤ → Point
at x y = record { x = x; y = y; n = 1; is_over = lit≤ tt }

abbrev minus : ℕ → ℤ
minus n = neg_ℤ (pos n)

-- ---- two points, 5 from each other
at_most_five : is_within (at (pos 0) (pos 0)) (at (pos 3) (pos 4)) 5 false ≡ true
at_most_five = refl

not_below_five : is_within (at (pos 0) (pos 0)) (at (pos 3) (pos 4)) 5 true ≡ false
not_below_five = refl

not_at_most_four : is_within (at (pos 0) (pos 0)) (at (pos 3) (pos 4)) 4 false ≡ false
not_at_most_four = refl

below_six : is_within (at (pos 0) (pos 0)) (at (pos 3) (pos 4)) 6 true ≡ true
below_six = refl

-- the point (1/2, 0) and the point (-2/4, 0), 1 from each other
halves_apart : is_within (record { x = pos 1; y = pos 0; n = 2; is_over = lit≤ tt }) (record { x = minus 2; y = pos 0; n = 4; is_over = lit≤ tt }) 1 false ≡ true
halves_apart = refl

not_below_one : is_within (record { x = pos 1; y = pos 0; n = 2; is_over = lit≤ tt }) (record { x = minus 2; y = pos 0; n = 4; is_over = lit≤ tt }) 1 true ≡ false
not_below_one = refl

-- each point is at most 0 from itself, and none is below 0 from it
from_itself : is_within (at (pos 7) (pos 8)) (at (pos 7) (pos 8)) 0 false ≡ true
from_itself = refl

never_below : is_within (at (pos 7) (pos 8)) (at (pos 7) (pos 8)) 0 true ≡ false
never_below = refl

-- a point of a line, (3/2, 0), and a point above it
near_a_line : Near (shape.Line (spot (pos 0) (pos 0) ∷ spot (pos 3) (pos 0) ∷ [])) (shape.Point (spot (pos 1) (pos 1))) 2 true
near_a_line = record {
  p = record { x = pos 3; y = pos 0; n = 2; is_over = lit≤ tt };
  q = at (pos 1) (pos 1);
  first = refl;
  second = refl;
  close = refl;
}

-- ---- growth
-- the bounds of one spot on the right limit, grown by 5: cut there
abbrev on_the_limit : Bounds
on_the_limit = record { xmin = pos 16000000; ymin = pos 3; xmax = pos 16000000; ymax = pos 3 }

cut_at_the_limit : moved_out on_the_limit 5 ≡ record { xmin = pos 15999995; ymin = minus 2; xmax = pos 16000000; ymax = pos 8 }
cut_at_the_limit = refl

by_nothing : as_shape (moved_out on_the_limit 0) ≡ shape.Point (spot (pos 16000000) (pos 3))
by_nothing = refl

flat : as_shape (record { xmin = pos 2; ymin = pos 3; xmax = pos 9; ymax = pos 3 }) ≡ shape.Line (spot (pos 2) (pos 3) ∷ spot (pos 9) (pos 3) ∷ [])
flat = refl

upright : as_shape (record { xmin = pos 2; ymin = pos 3; xmax = pos 2; ymax = pos 9 }) ≡ shape.Line (spot (pos 2) (pos 3) ∷ spot (pos 2) (pos 9) ∷ [])
upright = refl

ring : as_shape (record { xmin = pos 1; ymin = pos 2; xmax = pos 3; ymax = pos 4 })
    ≡ shape.Polygon ((spot (pos 1) (pos 2) ∷ spot (pos 3) (pos 2) ∷ spot (pos 3) (pos 4) ∷ spot (pos 1) (pos 4) ∷ spot (pos 1) (pos 2) ∷ []) ∷ [])
ring = refl
