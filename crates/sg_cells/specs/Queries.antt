-- The cells that a query looks at.
use Rattle.std.specs.Prelude.{ℕ, List, [], ◌∷◌, Option, Some, None}
use Rattle.sg_shape.specs.declared.spots.Spot.{Spot}
use Rattle.sg_shape.specs.declared.bounds.Bounds.{Bounds}
use Rattle.sg_shape.specs.declared.shapes.Shape.{Shape}
use Rattle.sg_shape.specs.Shapes.{spots}
use Rattle.sg_shape.specs.Bounds.{joined}
use Rattle.sg_shape.specs.Grown.{as_shape, moved_out}
use Rattle.sg_cells.specs.Cells.{Grid}
use Rattle.sg_cells.specs.Tess.{Entry, look_at, tess}

-- the box of one spot
abbrev pub at_spot : Spot → Bounds
at_spot s = record { xmin = s.x; ymin = s.y; xmax = s.x; ymax = s.y }

-- the least box that holds a box and these spots
abbrev pub bounds_with : Bounds → List Spot → Bounds
bounds_with b [] = b
bounds_with b (s ∷ ss) = bounds_with (joined b (at_spot s)) ss

-- a shape with these spots, grown by d; without spots it stays as it is
abbrev pub grown_by : ℕ → Shape → List Spot → Shape
grown_by d s [] = s
grown_by d s (t ∷ ts) = as_shape (moved_out (bounds_with (at_spot t) ts) d)

-- the bounds of a shape moved out by d and cut at the limits of coordinates, as a shape; EMPTY stays EMPTY
unfoldable pub grown : ℕ → Shape → Shape
grown d s = grown_by d s (spots s)

-- the shape whose cells a query looks at: its own, or for a bound of distances its own grown by it
abbrev pub looked_at : Option ℕ → Shape → Shape
looked_at None s = s
looked_at (Some d) s = grown d s

-- the cells that a query looks at, under the window
abbrev pub query_cells : Grid → ℕ → Option ℕ → Shape → List Entry
query_cells g window bound s = tess g (look_at (looked_at bound s)) window
