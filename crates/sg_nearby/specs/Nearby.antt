-- A shape and a path as they are near a box.
use Rattle.std.specs.Prelude.{◌≡◌, ◌≤◌, ◌⊎◌, Bool, true, false, ◌&&◌, ◌||◌, List, length, int_lt, All, Contains}
use Rattle.sg_shape.specs.declared.cells.CellBox.{CellBox}
use Rattle.sg_shape.specs.declared.shapes.Shape.{Shape}
use Rattle.sg_shape.specs.declared.spots.Spot.{Spot}
use Rattle.sg_shape.specs.Plane.{Point, edges, ends_at}
use Rattle.sg_shape.specs.Shapes.{spots, status_in}
use Rattle.sg_shape.specs.Boxes.{in_box}
use Rattle.sg_shape.specs.Sound.{is_open, is_out}
use Rattle.sg_distance.specs.Figure.{on_any}
use Rattle.sg_segment.specs.Statuses.{parity}

-- each point of the box has the same status in both shapes
abbrev pub SameIn : CellBox → Shape → Shape → Type 0
SameIn c a b = (p : Point) → in_box c p ≡ true → status_in a p ≡ status_in b p

-- each spot of the one shape is one of the other
abbrev pub HasSpotsOf : Shape → Shape → Type 0
HasSpotsOf a b = All (Contains (spots b)) (spots a)

-- the spot lies strictly on that side of the box
abbrev pub lies_left : CellBox → Spot → Bool
lies_left c s = int_lt s.x c.xlow

abbrev pub lies_right : CellBox → Spot → Bool
lies_right c s = int_lt c.xhigh s.x

abbrev pub lies_below : CellBox → Spot → Bool
lies_below c s = int_lt s.y c.ylow

abbrev pub lies_above : CellBox → Spot → Bool
lies_above c s = int_lt c.yhigh s.y

-- all three lie on one side
abbrev pub are_beside : CellBox → Spot → Spot → Spot → Bool
are_beside c s t u =
    (((lies_left c s && lies_left c t && lies_left c u) || (lies_right c s && lies_right c t && lies_right c u))
    || (lies_below c s && lies_below c t && lies_below c u))
    || (lies_above c s && lies_above c t && lies_above c u)

-- A path that does for another in the box: each point of the box is on both or on neither, and has an odd number of
-- the edges of both on its right or of neither.
pub record IsThin (c : CellBox) (path thin : List Spot) : Type 0 where
  pub on : (p : Point) → in_box c p ≡ true → on_any (edges thin) p ≡ on_any (edges path) p
  pub odd : (p : Point) → in_box c p ≡ true → parity (edges thin) p ≡ parity (edges path) p
  -- it is closed where that is, and has the same ends
  pub ends : is_open thin ≡ is_open path
  pub tips : (p : Point) → ends_at p thin ≡ ends_at p path
  -- it has no more spots, and no fewer but where a ring's are left
  pub most : length thin ≤ length path
  pub least : (length thin ≡ length path) ⊎ (4 ≤ length thin)
  pub within : All (λ s. is_out s ≡ false) thin
  -- all of its spots are the path's
  pub among : All (Contains path) thin
