-- A shape by its lines and its area, and the test of two shapes as the code makes it.
use Rattle.std.specs.Prelude.{Bool, false, ◌||◌, List, [], ◌∷◌, ℤ, pos, ◌-ℤ◌, ◌*ℤ◌, int_lt}
use Rattle.std.specs.List.{list_any}
use Rattle.sg_shape.specs.declared.spots.Spot.{Spot}
use Rattle.sg_shape.specs.declared.spots.Edge.{Edge}
use Rattle.sg_shape.specs.declared.bounds.Bounds.{Bounds}
use Rattle.sg_shape.specs.declared.shapes.Shape.{Shape}
use Rattle.sg_shape.specs.declared.shapes.Shape.TheVariants as shape
use Rattle.sg_shape.specs.Plane.{edges_of}
use Rattle.sg_distance.specs.declared.edges.Limit.{Limit}
use Rattle.sg_segment.specs.Sides.{point_at}
use Rattle.sg_segment.specs.Statuses.{parity}
use Rattle.sg_distance.specs.Edges.{edges_test}

-- the lines and rings of a shape; a point is the line from itself to itself
abbrev pub lines_of : Shape → List (List Spot)
lines_of (shape.Empty kind) = []
lines_of (shape.Point spot) = (spot ∷ spot ∷ []) ∷ []
lines_of (shape.Line path) = path ∷ []
lines_of (shape.Polygon rings) = rings

-- the rings of its area
abbrev pub area_of : Shape → List (List Spot)
area_of (shape.Empty kind) = []
area_of (shape.Point spot) = []
area_of (shape.Line path) = []
area_of (shape.Polygon rings) = rings

-- two edges have points that meet the limit
abbrev pub are_near : Limit → Edge → Edge → Bool
are_near l e f = edges_test l.strict (pos l.distance *ℤ pos l.distance) e f

-- an edge and some edge of a list have
abbrev pub is_near_any : Limit → List Edge → Edge → Bool
is_near_any l fs e = list_any (are_near l e) fs

-- the first spot of some line has an odd number of the area's edges on its right
abbrev pub first_odd : List (List Spot) → List (List Spot) → Bool
first_odd rings [] = false
first_odd rings ([] ∷ ls) = first_odd rings ls
first_odd rings ((s ∷ ss) ∷ ls) = parity (edges_of rings) (point_at s) || first_odd rings ls

-- some edges are near, or a first spot of one lies in the other's area
abbrev pub shapes_test : Limit → Shape → Shape → Bool
shapes_test l a b =
    list_any (is_near_any l (edges_of (lines_of b))) (edges_of (lines_of a))
    || (first_odd (area_of a) (lines_of b) || first_odd (area_of b) (lines_of a))

-- there is more than d from the one stretch of numbers up to the other, whichever is the lower
abbrev pub is_gap : ℤ → ℤ → ℤ → ℤ → ℤ → Bool
is_gap d low high from to = int_lt d (from -ℤ high) || int_lt d (low -ℤ to)

-- two boxes lie apart, in x or in y, by more than d
abbrev pub are_apart : ℤ → Bounds → Bounds → Bool
are_apart d a b = is_gap d a.xmin a.xmax b.xmin b.xmax || is_gap d a.ymin a.ymax b.ymin b.ymax
