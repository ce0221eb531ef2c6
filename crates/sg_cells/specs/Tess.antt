-- The cells of a shape under a limit.
use Rattle.std.specs.Prelude.{◌≡◌, ℕ, zero, suc, ◌+◌, ◌-◌, Bool, true, false, not, cond, ◌&&◌, eqb, leb, List, [], ◌∷◌, ◌++◌, length, ◌↔◌, IsTrue}
use Rattle.sg_shape.specs.declared.cells.CellBox.{CellBox}
use Rattle.sg_shape.specs.declared.shapes.Shape.{Shape}
use Rattle.sg_shape.specs.Plane.{Point, Parts}
use Rattle.sg_shape.specs.Boxes.{HasPoint, InBox, in_box}
use Rattle.sg_hilbert.specs.Curve.{four_to}
use Rattle.sg_plane.specs.Decisions.{meets_box, covers_box, leaves_box}
use Rattle.sg_cells.specs.declared.marks.Mark.{Mark}
use Rattle.sg_cells.specs.declared.marks.Mark.TheVariants.{Part, Cover}
use Rattle.sg_cells.specs.Cells.{Cell, Grid, box_of, whole, split_of}

abbrev pub is_cover : Mark → Bool
is_cover Part = false
is_cover Cover = true

abbrev pub Entry : Type 0
Entry = Cell × Mark

-- ---- looks
-- what is asked about a shape: whether it meets a box, covers it, and leaves it
pub record Look : Type 0 where
  pub meets : CellBox → Bool
  pub covers : CellBox → Bool
  pub leaves : CellBox → Bool

-- the look is right over all points
pub record Sees (k : Parts) (j : Look) : Type 0 where
  pub meets : (b : CellBox) → IsTrue (j.meets b) ↔ ((p : Point) × HasPoint k p × InBox b p)
  pub covers : (b : CellBox) → IsTrue (j.covers b) ↔ ((p : Point) → InBox b p → HasPoint k p)
  pub leaves : (b : CellBox) → IsTrue (j.leaves b) ↔ ((p : Point) × HasPoint k p × (in_box b p ≡ false))

-- the look at a shape over all points
abbrev pub look_at : Shape → Look
look_at s = record { meets = meets_box s; covers = covers_box s; leaves = leaves_box s }

-- ---- tessellation
abbrev pub marked : Grid → Look → Cell → Entry
marked g j c = (c, cond (j.covers (box_of g c)) Cover Part)

-- the cells of a list that the shape meets, marked
abbrev pub met : Grid → Look → List Cell → List Entry
met g j [] = []
met g j (c ∷ cs) = cond (j.meets (box_of g c)) (marked g j c ∷ met g j cs) (met g j cs)

-- n children of a cell from place d on
abbrev pub children : Cell → ℕ → ℕ → List Cell
children c d zero = []
children c d (suc n) = (c ++ d ∷ []) ∷ children c (suc d) n

-- the children of a cell that the shape meets; of no places, the cells of level 1
abbrev pub kids : Grid → Look → Cell → List Entry
kids g j c = met g j (children c 0 (four_to (split_of g.sides c)))

-- a cell of this level that isn't covered is to be replaced, where the count of cells is then within the limit
abbrev pub splits : ℕ → ℕ → ℕ → Entry → List Entry → Bool
splits limit level count e cs = eqb (length e.0) level && (not (is_cover e.1) && leb (count - 1 + length cs) limit)

-- one round through a list, which has `count` cells so far
abbrev pub round : Grid → Look → ℕ → ℕ → ℕ → List Entry → List Entry
round g j limit level count [] = []
round g j limit level count (e ∷ es) =
    cond (splits limit level count e (kids g j e.0))
    (kids g j e.0 ++ round g j limit level (count - 1 + length (kids g j e.0)) es)
    (e ∷ round g j limit level count es)

-- n rounds from this level on
abbrev pub rounds : Grid → Look → ℕ → ℕ → ℕ → List Entry → List Entry
rounds g j limit level zero es = es
rounds g j limit level (suc n) es = rounds g j limit (suc level) n (round g j limit level (length es) es)

-- cell 0, where the shape leaves the box; it isn't counted
abbrev pub outside : Grid → Look → List Entry
outside g j = cond (j.leaves (whole g)) (([], Part) ∷ []) []

abbrev pub tess : Grid → Look → ℕ → List Entry
tess g j limit = outside g j ++ rounds g j limit 1 (length g.sides - 1) (kids g j [])

-- the cells of a row's shape: at most the grid's cells per object, but for level 1
abbrev pub row_cells : Grid → Shape → List Entry
row_cells g s = tess g (look_at s) g.cells
