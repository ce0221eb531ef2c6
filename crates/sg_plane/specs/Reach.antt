-- Shapes and the bounds of their spots: all points within them, as a shape, and the shape grown by a distance.
use Rattle.std.specs.Prelude.{◌↔◌, ℕ, Bool, true, ◌&&◌, List, [], ◌∷◌, ◌++◌, ◌≤ℤ◌, IsTrue}
use lib.Signed.{le_z}
use Rattle.std.specs.List.{flat_map, list_all}
use Rattle.sg_shape.specs.declared.spots.Spot.{Spot}
use Rattle.sg_shape.specs.declared.bounds.Bounds.{Bounds}
use Rattle.sg_shape.specs.declared.cells.CellBox.{CellBox}
use Rattle.sg_shape.specs.Plane.{Point, Parts, same_spot, last_of}
use Rattle.sg_shape.specs.Shapes.{parts_of}
use Rattle.sg_shape.specs.Boxes.{InBox, HasPoint}
use Rattle.sg_shape.specs.Grown.{moved_within, as_shape}
use Rattle.sg_shape.specs.Near.{is_within}

-- ---- shapes whose points lie within the bounds of their spots
abbrev pub is_closed : List Spot → Bool
is_closed [] = true
is_closed (s ∷ ss) = same_spot s (last_of s ss)

-- each ring ends where it begins
abbrev pub are_closed : Parts → Bool
are_closed k = list_all (λ a. list_all is_closed a) k.areas

abbrev pub spots_of : Parts → List Spot
spots_of k = k.points ++ (flat_map (λ l. l) k.lines ++ flat_map (λ a. flat_map (λ r. r) a) k.areas)

abbrev pub lies_in : Bounds → Spot → Bool
lies_in b s = le_z b.xmin s.x && (le_z s.x b.xmax && (le_z b.ymin s.y && le_z s.y b.ymax))

-- each spot lies in the bounds
abbrev pub all_in : Bounds → Parts → Bool
all_in b k = list_all (lies_in b) (spots_of k)

-- the box of the bounds, with all four sides
abbrev pub box_of : Bounds → CellBox
box_of b = record { xlow = b.xmin; ylow = b.ymin; xhigh = b.xmax; yhigh = b.ymax; closed_x = true; closed_y = true }

-- ---- laws
-- each point of a shape with closed rings lies in all bounds of its spots
abbrev pub LiesInBounds : Type 0
LiesInBounds = (k : Parts) (b : Bounds) → IsTrue (are_closed k) → IsTrue (all_in b k) → (p : Point) → HasPoint k p → InBox (box_of b) p

-- the points of bounds are those of their shape
abbrev pub IsFilled : Type 0
IsFilled = (b : Bounds) → b.xmin ≤ℤ b.xmax → b.ymin ≤ℤ b.ymax → (p : Point) → HasPoint (parts_of (as_shape b)) p ↔ InBox (box_of b) p

-- a point that is near a point of the shape, and lies in the outer bounds, is a point of the grown shape
abbrev pub ReachesNear : Type 0
ReachesNear =
    (k : Parts) (b outer : Bounds) (d : ℕ) (strict : Bool) → IsTrue (are_closed k) → IsTrue (all_in b k) →
    (p q : Point) → HasPoint k q → InBox (box_of outer) p → IsTrue (is_within p q d strict) → HasPoint (parts_of (as_shape (moved_within outer b d))) p
