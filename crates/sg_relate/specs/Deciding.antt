-- What a relation of two shapes rests on: the points that it speaks of, and the pairs of statuses that settle it.
use Rattle.std.specs.Prelude.{Bool, true, false, ◌&&◌, ◌||◌, All, IsTrue}
use Rattle.sg_shape.specs.declared.bounds.Bounds.{Bounds}
use Rattle.sg_shape.specs.declared.matrices.Matrix.{Matrix}
use Rattle.sg_shape.specs.declared.matrices.Pred.{Pred}
use Rattle.sg_shape.specs.declared.matrices.Pred.TheVariants.{Intersects, Contains, Within, Equals, Touches}
use Rattle.sg_shape.specs.declared.shapes.Shape.{Shape}
use Rattle.sg_shape.specs.Bounds.{IsInside}
use Rattle.sg_shape.specs.Boxes.{is_held}
use Rattle.sg_shape.specs.Grown.{PointIn}
use Rattle.sg_shape.specs.Plane.{Point, Status, is_in, is_bd}
use Rattle.sg_shape.specs.Shapes.{spots, status_in}
use Rattle.sg_shape.specs.Sound.{IsSound}
use Rattle.sg_nearby.specs.Nearby.{SameIn}
use Rattle.sg_relate.specs.Boxes.{closed}

-- The relation speaks of a point with these statuses: of the common points, of those of the shape that is to lie in the
-- other, or of those of either where they are to be the same.
abbrev pub speaks_of : Pred → Status → Status → Bool
speaks_of Intersects i j = is_held i && is_held j
speaks_of Contains i j = is_held j
speaks_of Within i j = is_held i
speaks_of Equals i j = is_held i || is_held j
speaks_of Touches i j = is_held i && is_held j

-- each point that it speaks of lies in the box
abbrev pub SpeaksWithin : Pred → Bounds → Shape → Shape → Type 0
SpeaksWithin pred box a b = (p : Point) → IsTrue (speaks_of pred (status_in a p) (status_in b p)) → PointIn box p

-- What does for a shape in a box: a sound shape within the same bounds in which each point of the box has the same status.
pub record StandsFor (bounds box : Bounds) (whole near : Shape) : Type 0 where
  pub sound : IsSound near
  pub within : All (IsInside bounds) (spots near)
  pub same : SameIn (closed box) near whole

-- whether a point is so related to a shape in which it has this status, or the shape to it, where their boxes allow it
abbrev pub relates_by : Pred → Status → Bool
relates_by Intersects s = is_held s
relates_by Contains s = is_in s
relates_by Within s = is_in s
relates_by Equals s = is_in s
relates_by Touches s = is_bd s

-- no pair
abbrev pub none : Matrix
none = record { ii = false; ib = false; io = false; bi = false; bb = false; bo = false; oi = false; ob = false; oo = false }

-- a common point settles that they intersect; the others are settled by what may not be
abbrev pub deciding : Pred → Matrix
deciding Intersects = record none { ii = true; ib = true; bi = true; bb = true }
deciding Contains = record none { oi = true; ob = true }
deciding Within = record none { io = true; bo = true }
deciding Equals = record none { io = true; bo = true; oi = true; ob = true }
deciding Touches = record none { ii = true }
