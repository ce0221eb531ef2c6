-- The decisions and the bounds' shapes at worked examples.
use Rattle.std.proofs.Common.{◌≡◌, ℕ, pos, [], ◌∷◌, true, false, refl}
use Rattle.sg_shape.specs.declared.spots.Spot.{Spot}
use Rattle.sg_shape.specs.declared.bounds.Bounds.{Bounds}
use Rattle.sg_shape.specs.declared.cells.CellBox.{CellBox}
use Rattle.sg_shape.specs.declared.matrices.Pred.TheVariants.{Intersects, Equals}
use Rattle.sg_shape.specs.declared.shapes.Kind.TheVariants as kind
use Rattle.sg_shape.specs.declared.shapes.Shape.{Shape}
use Rattle.sg_shape.specs.declared.shapes.Shape.TheVariants as shape
use Rattle.sg_shape.specs.Plane.{In, Out}
use Rattle.sg_plane.specs.Decisions.{meets, related, has_points, meets_box, covers_box, leaves_box}
use Rattle.sg_shape.specs.Grown.{moved_within, as_shape}

abbrev spot : ℕ → ℕ → Spot
spot x y = record { x = pos x; y = pos y }

abbrev point : ℕ → ℕ → Shape
point x y = shape.Point (spot x y)

abbrev nothing : Shape
nothing = shape.Empty kind.Polygon

-- from (0, 0) to (4, 4), its high edges not in it
abbrev half_open : CellBox
half_open = record { xlow = pos 0; ylow = pos 0; xhigh = pos 4; yhigh = pos 4; closed_x = false; closed_y = false }

abbrev closed : CellBox
closed = record { xlow = pos 0; ylow = pos 0; xhigh = pos 4; yhigh = pos 4; closed_x = true; closed_y = true }

same_points : meets In In (point 3 4) (point 3 4) ≡ true
unfolding meets
same_points = refl

other_points : meets In In (point 3 4) (point 3 5) ≡ false
unfolding meets
other_points = refl

around_points : meets Out Out (point 3 4) (point 3 5) ≡ true
unfolding meets
around_points = refl

equal_points : related Equals (point 3 4) (point 3 4) ≡ true
unfolding meets
equal_points = refl

points_apart : related Intersects (point 3 4) (point 3 5) ≡ false
unfolding meets
points_apart = refl

a_point : has_points (point 3 4) ≡ true
unfolding has_points
a_point = refl

no_point : has_points nothing ≡ false
unfolding has_points
no_point = refl

on_low_edge : meets_box (point 0 2) half_open ≡ true
unfolding meets_box
on_low_edge = refl

on_high_edge : meets_box (point 4 2) half_open ≡ false
unfolding meets_box
on_high_edge = refl

on_closed_edge : meets_box (point 4 2) closed ≡ true
unfolding meets_box
on_closed_edge = refl

too_small : covers_box (point 2 2) closed ≡ false
unfolding covers_box
too_small = refl

inside : leaves_box (point 4 2) closed ≡ false
unfolding leaves_box
inside = refl

outside : leaves_box (point 5 2) closed ≡ true
unfolding leaves_box
outside = refl

abbrev bounds : ℕ → ℕ → ℕ → ℕ → Bounds
bounds a b c d = record { xmin = pos a; ymin = pos b; xmax = pos c; ymax = pos d }

a_line : as_shape (bounds 1 2 1 5) ≡ shape.Line (spot 1 2 ∷ spot 1 5 ∷ [])
a_line = refl

cut_at_the_left : moved_within (bounds 0 0 100 100) (bounds 2 4 5 98) 3 ≡ bounds 0 1 8 100
cut_at_the_left = refl
