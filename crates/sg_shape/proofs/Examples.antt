-- The definitions at worked examples: statuses of points, and faults of shapes.
use Rattle.std.proofs.Common.{◌≡◌, ℕ, List, [], ◌∷◌, ℤ, pos, neg_ℤ, true, refl, lit≤, Some, None}
use Rattle.sg_shape.specs.declared.spots.Spot.{Spot}
use Rattle.sg_shape.specs.declared.shapes.Kind.TheVariants as kind
use Rattle.sg_shape.specs.declared.shapes.Shape.TheVariants as shape
use Rattle.sg_shape.specs.declared.shapes.ShapeFault.TheVariants as fault
use Rattle.sg_shape.specs.Plane.{Point, Parts, In, Bd, Out, status, same_point}
use Rattle.sg_shape.specs.Shapes.{status_in}
use Rattle.sg_shape.specs.Sound.{fault_of}

abbrev spot : ℕ → ℕ → Spot
spot x y = record { x = pos x; y = pos y }

abbrev at : ℤ → ℤ → Point
at x y = record { x = x; y = y; n = 1; is_over = lit≤ tt }

abbrev half : ℤ → ℤ → Point
half x y = record { x = x; y = y; n = 2; is_over = lit≤ tt }

abbrev minus : ℕ → ℤ
minus n = neg_ℤ (pos n)

abbrev area : List (List Spot) → Parts
area rings = record { points = []; lines = []; areas = rings ∷ [] }

abbrev line : List Spot → Parts
line path = record { points = []; lines = path ∷ []; areas = [] ∷ [] }

-- ---- points and shapes without points
on_the_point : status_in (shape.Point (spot 3 4)) (at (pos 3) (pos 4)) ≡ In
on_the_point = refl

on_the_point_by_another_name : status_in (shape.Point (spot 3 4)) (half (pos 6) (pos 8)) ≡ In
on_the_point_by_another_name = refl

two_names : same_point (half (pos 6) (pos 8)) (at (pos 3) (pos 4)) ≡ true
two_names = refl

above_the_point : status_in (shape.Point (spot 3 4)) (at (pos 3) (pos 5)) ≡ Out
above_the_point = refl

half_a_unit_off : status_in (shape.Point (spot 3 4)) (half (pos 7) (pos 8)) ≡ Out
half_a_unit_off = refl

in_nothing : status_in (shape.Empty kind.Polygon) (at (pos 0) (pos 0)) ≡ Out
in_nothing = refl

-- ---- an area that is no box: (0 0, 4 4, 8 0, 9 4, 8 8, 0 8, 0 0)
abbrev crown : Parts
crown = area ((spot 0 0 ∷ spot 4 4 ∷ spot 8 0 ∷ spot 9 4 ∷ spot 8 8 ∷ spot 0 8 ∷ spot 0 0 ∷ []) ∷ [])

left_of_it : status crown (at (minus 2) (pos 4)) ≡ Out
left_of_it = refl

inside_it : status crown (at (pos 2) (pos 4)) ≡ In
inside_it = refl

level_with_a_corner : status crown (at (minus 1) (pos 8)) ≡ Out
level_with_a_corner = refl

on_the_top : status crown (at (pos 4) (pos 8)) ≡ Bd
on_the_top = refl

in_the_notch : status crown (at (pos 4) (pos 3)) ≡ Out
in_the_notch = refl

-- ---- an area with a hole
abbrev frame : Parts
frame = area (
    (spot 0 0 ∷ spot 10 0 ∷ spot 10 10 ∷ spot 0 10 ∷ spot 0 0 ∷ [])
    ∷ (spot 3 3 ∷ spot 7 3 ∷ spot 7 7 ∷ spot 3 7 ∷ spot 3 3 ∷ []) ∷ [])

in_the_hole : status frame (at (pos 5) (pos 5)) ≡ Out
in_the_hole = refl

on_the_hole : status frame (at (pos 3) (pos 5)) ≡ Bd
on_the_hole = refl

in_the_frame : status frame (at (pos 1) (pos 5)) ≡ In
in_the_frame = refl

-- ---- lines
-- the place (0, -1/2) on a line between far corners
halfway : status (line (record { x = minus 16000000; y = minus 16000000 } ∷ spot 16000000 15999999 ∷ [])) (half (pos 0) (minus 1)) ≡ In
halfway = refl

at_the_end : status (line (spot 0 0 ∷ spot 4 0 ∷ [])) (at (pos 4) (pos 0)) ≡ Bd
at_the_end = refl

closed_line : status (line (spot 0 0 ∷ spot 4 0 ∷ spot 4 4 ∷ spot 0 0 ∷ [])) (at (pos 0) (pos 0)) ≡ In
closed_line = refl

-- ---- faults
at_the_limits : fault_of (shape.Point (record { x = pos 16000000; y = minus 16000000 })) ≡ None
at_the_limits = refl

past_the_limit : fault_of (shape.Point (spot 0 16000001)) ≡ Some (fault.CoordOut 0)
past_the_limit = refl

empty_is_sound : fault_of (shape.Empty kind.Line) ≡ None
empty_is_sound = refl
