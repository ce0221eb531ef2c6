-- How a grid is given, which grids are refused, and which cells are empty.
use Rattle.std.specs.Prelude.{◌≡◌, ◌⊎◌, ℕ, ◌≤◌, ◌<◌, not, cond, ◌&&◌, eqb, ltb, List, [], map, length, ℤ, pos, nat_abs, ◌-ℤ◌, int_lt, int_le, Option, Some, None}
use Rattle.sg_shape.specs.Sound.{coord_ok}
use Rattle.sg_cells.specs.declared.blocks.Block.{Block}
use Rattle.sg_cells.specs.declared.density.Density.{Density}
use Rattle.sg_cells.specs.declared.density.Density.TheVariants.{Low, Medium, High}
use Rattle.sg_cells.specs.declared.faults.GridFault.{GridFault}
use Rattle.sg_cells.specs.declared.faults.GridFault.TheVariants.{CoordOut, BoxEmpty, CellsOut}
use Rattle.sg_cells.specs.declared.levels.Levels.{Levels}
use Rattle.sg_cells.specs.declared.levels.Levels.TheVariants.{Four, Eight}
use Rattle.sg_cells.specs.Densities.{power}
use Rattle.sg_cells.specs.Cells.{Grid, Cell, IsPath, block_from, root, box_of, auto_sides}

-- a grid by its lower left corner, its width and height, the sides of its levels, and its cells per object
abbrev pub grid_of : ℤ → ℤ → ℕ → ℕ → List ℕ → ℕ → Grid
grid_of west south width height sides cells = record { west = west; south = south; width = width; height = height; sides = sides; cells = cells }

-- a grid by its corners
abbrev pub grid_within : ℤ → ℤ → ℤ → ℤ → List ℕ → ℤ → Grid
grid_within xmin ymin xmax ymax sides cells = grid_of xmin ymin (nat_abs (xmax -ℤ xmin)) (nat_abs (ymax -ℤ ymin)) sides (nat_abs cells)

-- the first fault: a coordinate outside the limits, then a box without width or height, then a number of cells that isn't 1 to 8192
abbrev pub grid_fault : ℤ → ℤ → ℤ → ℤ → ℤ → Option GridFault
grid_fault xmin ymin xmax ymax cells =
    cond (not (coord_ok xmin && (coord_ok ymin && (coord_ok xmax && coord_ok ymax)))) (Some CoordOut)
    (cond (not (int_lt xmin xmax && int_lt ymin ymax)) (Some BoxEmpty)
    (cond (not (int_le (pos 1) cells && int_le cells (pos 8192))) (Some CellsOut) None))

-- the density of a side
abbrev pub density_of : ℕ → Density
density_of k = cond (ltb k 3) Low (cond (ltb k 4) Medium High)

-- the sides that levels stand for, and the levels that sides stand for
abbrev pub sides_of : Levels → List ℕ
sides_of (Four densities) = map power densities
sides_of Eight = auto_sides

abbrev pub levels_of : List ℕ → Levels
levels_of sides = cond (eqb (length sides) 8) Eight (Four (map density_of sides))

-- a cell with a side of length 0, or cell 0
abbrev pub HasNoBox : Grid → Cell → Type 0
HasNoBox g c = (c ≡ []) ⊎ (((box_of g c).xlow ≡ (box_of g c).xhigh) ⊎ ((box_of g c).ylow ≡ (box_of g c).yhigh))

-- the block is where the cell lies; of no places, the whole box
pub record IsBlock (g : Grid) (c : Cell) (b : Block) : Type 0 where
  pub across : b.across ≡ (block_from g.sides c root).across
  pub column : b.column ≡ (block_from g.sides c root).column
  pub row : b.row ≡ (block_from g.sides c root).row

-- the whole box, which None stands for, or the cell
abbrev pub under : Option Cell → Cell
under None = []
under (Some c) = c

-- what can be split: the whole box, and the grid's cells but those of its last level
abbrev pub CanSplit : Grid → Option Cell → Type 0
CanSplit g None = Unit {0}
CanSplit g (Some c) = IsPath g.sides c × ((1 ≤ length c) × (length c < length g.sides))
