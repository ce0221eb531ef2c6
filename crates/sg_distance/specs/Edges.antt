-- The test of two edges, on spots.
use Rattle.std.specs.Prelude.{Bool, true, false, ◌&&◌, ◌||◌, not, ℤ, pos}
use lib.IntN.{◌+ℤ◌, ◌-ℤ◌, ◌*ℤ◌}
use lib.Signed.{lt_z, le_z}
use Rattle.sg_shape.specs.declared.spots.Spot.{Spot}
use Rattle.sg_shape.specs.declared.spots.Edge.{Edge}
use Rattle.sg_segment.specs.Sides.{cross}

-- below, or at most
abbrev pub below : Bool → ℤ → ℤ → Bool
below true a b = lt_z a b
below false a b = le_z a b

abbrev pub dot_at : Spot → Spot → Spot → ℤ
dot_at a b c = (c.x -ℤ a.x) *ℤ (b.x -ℤ a.x) +ℤ (c.y -ℤ a.y) *ℤ (b.y -ℤ a.y)

-- the squared distance of two spots
abbrev pub gap_at : Spot → Spot → ℤ
gap_at a b = (b.x -ℤ a.x) *ℤ (b.x -ℤ a.x) +ℤ (b.y -ℤ a.y) *ℤ (b.y -ℤ a.y)

-- the spot's foot lies strictly within the edge, and its distance from the line is below the bound
abbrev pub foot_test : Bool → ℤ → Spot → Edge → Bool
foot_test strict D c e =
    lt_z (pos 0) (dot_at e.from e.to c) && (lt_z (dot_at e.from e.to c) (gap_at e.from e.to) && below strict (cross e.from e.to c *ℤ cross e.from e.to c) (D *ℤ gap_at e.from e.to))

abbrev pub spot_test : Bool → ℤ → Spot → Edge → Bool
spot_test strict D c e = below strict (gap_at e.from c) D || (below strict (gap_at e.to c) D || foot_test strict D c e)

-- both strictly above 0, or both strictly below
abbrev pub one_side : ℤ → ℤ → Bool
one_side a b = (lt_z (pos 0) a && lt_z (pos 0) b) || (lt_z a (pos 0) && lt_z b (pos 0))

abbrev pub two_sides : ℤ → ℤ → Bool
two_sides a b = (lt_z a (pos 0) && lt_z (pos 0) b) || (lt_z b (pos 0) && lt_z (pos 0) a)

-- the edges cross: one's ends lie strictly on two sides of the other's line, and the other's aren't strictly on one side of its line
abbrev pub cross_test : Edge → Edge → Bool
cross_test e f =
    two_sides (cross e.from e.to f.from) (cross e.from e.to f.to) && not (one_side (cross f.from f.to e.from) (cross f.from f.to e.to))

abbrev pub edges_test : Bool → ℤ → Edge → Edge → Bool
edges_test strict D e f =
    cross_test e f || (spot_test strict D f.from e || (spot_test strict D f.to e || (spot_test strict D e.from f || spot_test strict D e.to f)))
