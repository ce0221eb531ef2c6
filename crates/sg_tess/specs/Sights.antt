-- How a shape is seen in a grid, box by box.
use Rattle.std.specs.Prelude.{◌≡◌, ℕ, ◌<◌, Bool, false, ◌&&◌, ◌||◌, leb, ltb, Option, Some, None, cond, List, [], ◌∷◌, ◌++◌, ℤ, int_lt, int_le}
use Rattle.sg_shape.specs.declared.bounds.Bounds.{Bounds}
use Rattle.sg_shape.specs.declared.cells.CellBox.{CellBox}
use Rattle.sg_shape.specs.declared.shapes.Shape.{Shape}
use Rattle.sg_shape.specs.Bounds.{IsBounds}
use Rattle.sg_shape.specs.Sound.{IsSound}
use Rattle.sg_cells.specs.declared.marks.Mark.{Mark}
use Rattle.sg_cells.specs.declared.marks.Mark.TheVariants.{Part, Cover}
use Rattle.sg_cells.specs.Cells.{Grid, Cell, IsGrid, box_of, split_of}
use Rattle.sg_cells.specs.Tess.{Look, Entry}
use Rattle.sg_hilbert.specs.Curve.{four_to, spot_at}
use Rattle.sg_tess.specs.declared.reaches.Reach.{Reach}

-- the shape is sound, the bounds are its own, and the grid is one
pub record IsSight (g : Grid) (s : Shape) (b : Bounds) : Type 0 where
  pub grid : IsGrid g
  pub sound : IsSound s
  pub bounds : IsBounds b s

-- the mark of a box that the shape meets, and none for another
abbrev pub mark_by : Look → CellBox → Option Mark
mark_by j b = cond (j.meets b) (Some (cond (j.covers b) Cover Part)) None

-- the lengths from low to high, which has its end only where closed, and from least to most have a common place
abbrev pub overlaps : ℤ → ℤ → Bool → ℤ → ℤ → Bool
overlaps low high closed least most = int_le low most && (int_lt least high || (closed && int_le least high))

-- the box has a common place with the bounds
abbrev pub is_near : CellBox → Bounds → Bool
is_near c b = overlaps c.xlow c.xhigh c.closed_x b.xmin b.xmax && overlaps c.ylow c.yhigh c.closed_y b.ymin b.ymax

-- cell 0 alone, or nothing
abbrev pub first_of : Bool → List Entry
first_of leaves = cond leaves (([], Part) ∷ []) []

-- each child of the cell whose column and row pass the test has no common place with the bounds
abbrev pub Far : Grid → Cell → Bounds → (ℕ × ℕ → Type 0) → Type 0
Far g c b T = (d : ℕ) → d < four_to (split_of g.sides c) → T (spot_at (split_of g.sides c) d) → is_near (box_of g (c ++ d ∷ [])) b ≡ false

-- the spot is in one of the columns and in one of the rows
abbrev pub is_within : Reach → ℕ × ℕ → Bool
is_within r s = leb r.left s.0 && (ltb s.0 r.right && (leb r.bottom s.1 && ltb s.1 r.top))

-- each child in other columns or rows has no common place with the bounds
abbrev pub IsReach : Grid → Cell → Bounds → Reach → Type 0
IsReach g c b r = Far g c b (λ s. is_within r s ≡ false)
