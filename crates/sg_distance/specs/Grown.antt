-- What shapes that grow by a distance are, by points.
use Rattle.std.specs.Prelude.{◌↔◌, ℕ, false, IsTrue}
use Rattle.sg_shape.specs.declared.bounds.Bounds.{Bounds}
use Rattle.sg_shape.specs.declared.shapes.Shape.{Shape}
use Rattle.sg_shape.specs.Plane.{Point}
use Rattle.sg_shape.specs.Shapes.{parts_of}
use Rattle.sg_shape.specs.Boxes.{HasPoint}
use Rattle.sg_shape.specs.Sound.{IsSound}
use Rattle.sg_shape.specs.Bounds.{IsBounds}
use Rattle.sg_shape.specs.Near.{is_within}
use Rattle.sg_shape.specs.Grown.{IsGrown, PointIn, limits, moved_out}

-- a sound shape with points grows to exactly the points of its bounds, moved out and cut
abbrev pub HasItsBox : Type 0
HasItsBox = (k g : Shape) (d : ℕ) (b : Bounds) → IsSound k → IsBounds b k → IsGrown k d g → (p : Point) → (HasPoint (parts_of g) p ↔ PointIn (moved_out b d) p)

-- what it grows to has each point within the limits that lies at most d from one of its points
abbrev pub HasAllNear : Type 0
HasAllNear = (k g : Shape) (d : ℕ) → IsSound k → IsGrown k d g → (p q : Point) → HasPoint (parts_of k) q → IsTrue (is_within p q d false) → PointIn limits p → HasPoint (parts_of g) p
