-- Grids of levels of cells, where the cells lie, and their ids. Definitions hold for any number of levels; grids in use
-- have four or eight, and ids have room for eight.
use Rattle.std.specs.Prelude.{◌≡◌, ◌⊎◌, ℕ, zero, suc, ◌+◌, ◌*◌, ◌/◌, ◌%◌, ◌≤◌, ◌<◌, Bool, true, false, not, ◌&&◌, ◌||◌, eqb, ltb, List, [], ◌∷◌, length, ℤ, pos, ◌+ℤ◌, IsTrue, refl}
use Rattle.std.specs.Coded.{Coded, code_by, coded×, coded_ℕ, coded_ℤ, coded_list}
use Rattle.sg_shape.specs.declared.cells.CellBox.{CellBox}
use Rattle.sg_shape.specs.Plane.{Point}
use Rattle.sg_shape.specs.Sound.{coord_ok}
use Rattle.sg_shape.specs.Boxes.{in_box}
use Rattle.sg_hilbert.specs.Curve.{two_to, four_to, spot_at}

-- ---- grids
-- a box from (west, south), its width and height, the k of the side 2 ^ k of each level, and the cells per object
pub record Grid : Type 0 where
  pub west : ℤ
  pub south : ℤ
  pub width : ℕ
  pub height : ℕ
  pub sides : List ℕ
  pub cells : ℕ

-- a grid is stored as the tuple of its fields
abbrev pub grid_code : Coded Grid
grid_code =
    code_by (ℤ × (ℤ × (ℕ × (ℕ × ((List ℕ) × ℕ))))) (coded× coded_ℤ (coded× coded_ℤ (coded× coded_ℕ (coded× coded_ℕ (coded× (coded_list coded_ℕ) coded_ℕ)))))
    (λ g. (g.west, (g.south, (g.width, (g.height, (g.sides, g.cells))))))
    (λ t. record { west = t.0; south = t.1.0; width = t.1.1.0; height = t.1.1.1.0; sides = t.1.1.1.1.0; cells = t.1.1.1.1.1 })
    (λ _. refl)

-- a place in the lattice of a level: the level's number of columns and of rows, and its own column and row
pub record Block : Type 0 where
  pub across : ℕ
  pub column : ℕ
  pub row : ℕ

-- the low edge of column j of n, or of row j of n; it is the high edge of the one before
abbrev pub edge : ℤ → ℕ → ℕ → ℕ → ℤ
edge low size n j = low +ℤ pos (j * size / n)

-- the box of a block; the last column and the last row are closed
abbrev pub box_at : Grid → Block → CellBox
box_at g b = record {
  xlow = edge g.west g.width b.across b.column;
  ylow = edge g.south g.height b.across b.row;
  xhigh = edge g.west g.width b.across (suc b.column);
  yhigh = edge g.south g.height b.across (suc b.row);
  closed_x = eqb (suc b.column) b.across;
  closed_y = eqb (suc b.row) b.across;
}

-- the whole box as the one block of a lattice of one
abbrev pub root : Block
root = record { across = 1; column = 0; row = 0 }

-- the block at place d of the curve, where each block is split into a side of 2 ^ k
abbrev pub into : ℕ → ℕ → Block → Block
into k d b = record {
  across = b.across * two_to k;
  column = b.column * two_to k + (spot_at k d).0;
  row = b.row * two_to k + (spot_at k d).1;
}

-- ---- cells
-- A cell is its places from level 1 down. Cell 0, outside the box, has none.
abbrev pub Cell : Type 0
Cell = List ℕ

abbrev pub block_from : List ℕ → Cell → Block → Block
block_from ks [] b = b
block_from [] (d ∷ ds) b = block_from [] ds (into 0 d b)
block_from (k ∷ ks) (d ∷ ds) b = block_from ks ds (into k d b)

-- the k of the side into which a cell is split; of no places, the whole box
abbrev pub split_of : List ℕ → Cell → ℕ
split_of [] ds = 0
split_of (k ∷ ks) [] = k
split_of (k ∷ ks) (d ∷ ds) = split_of ks ds

abbrev pub whole : Grid → CellBox
whole g = box_at g root

-- the box of a cell other than cell 0
abbrev pub box_of : Grid → Cell → CellBox
box_of g c = box_at g (block_from g.sides c root)

-- the point lies in the cell; in cell 0 lies each point outside the closed box
abbrev pub cell_holds : Grid → Cell → Point → Bool
cell_holds g [] p = not (in_box (whole g) p)
cell_holds g (d ∷ ds) p = in_box (box_of g (d ∷ ds)) p

-- a cell of the grid
abbrev pub IsPath : List ℕ → Cell → Type 0
IsPath ks [] = Unit {0}
IsPath [] (d ∷ ds) = ⊥
IsPath (k ∷ ks) (d ∷ ds) = (d < four_to k) × IsPath ks ds

abbrev pub begins : Cell → Cell → Bool
begins [] es = true
begins (d ∷ ds) [] = false
begins (d ∷ ds) (e ∷ es) = eqb d e && begins ds es

-- the first is the second or its ancestor; cell 0 is nothing's ancestor
abbrev pub contains : Cell → Cell → Bool
contains [] [] = true
contains [] (e ∷ es) = false
contains (d ∷ ds) es = begins (d ∷ ds) es

-- the first m places of a cell
abbrev pub front : ℕ → Cell → Cell
front zero c = []
front (suc m) [] = []
front (suc m) (d ∷ ds) = d ∷ front m ds

-- ---- ids
-- The first place counts the most; each counts 256 times the next. Below the last place stands the level.
abbrev pub weight : ℕ → ℕ
weight zero = 1
weight (suc l) = 256 * weight l

-- every place of l levels at 255
abbrev pub filled : ℕ → ℕ
filled zero = 0
filled (suc l) = 255 * weight (suc l) + filled l

-- with l levels still to come, at level k
abbrev pub id_from : ℕ → ℕ → Cell → ℕ
id_from l k [] = k
id_from zero k (d ∷ ds) = k
id_from (suc l) k (d ∷ ds) = d * weight (suc l) + id_from l (suc k) ds

abbrev pub last_from : ℕ → ℕ → Cell → ℕ
last_from l k [] = filled l + (k + l)
last_from zero k (d ∷ ds) = k
last_from (suc l) k (d ∷ ds) = d * weight (suc l) + last_from l (suc k) ds

-- the id of a cell in a grid of n levels, and the last id below it
abbrev pub id_of : ℕ → Cell → ℕ
id_of n c = id_from n 0 c

abbrev pub last_of : ℕ → Cell → ℕ
last_of n [] = 0
last_of n (d ∷ ds) = last_from n 0 (d ∷ ds)

-- the order of cells, whatever the number of levels
abbrev pub less : Cell → Cell → Bool
less [] [] = false
less [] (e ∷ es) = true
less (d ∷ ds) [] = false
less (d ∷ ds) (e ∷ es) = ltb d e || (eqb d e && less ds es)

-- a cell whose id has a byte for each place
abbrev pub IsCode : ℕ → Cell → Type 0
IsCode l [] = Unit {0}
IsCode zero (d ∷ ds) = ⊥
IsCode (suc l) (d ∷ ds) = (d < 256) × IsCode l ds

-- the first m places of an id that has room for l levels
abbrev pub path_from : ℕ → ℕ → ℕ → Cell
path_from l zero id = []
path_from zero (suc m) id = []
path_from (suc l) (suc m) id = (id / weight (suc l)) ∷ path_from l m (id % weight (suc l))

-- the cell of an id: its last byte is the level
abbrev pub path_of : ℕ → ℕ → Cell
path_of n id = path_from n (id % 256) id

-- the id of a cell that is stored as the places of levels 1 to 4, those of levels 5 to 8, and the level
abbrev pub stored_id : ℕ → ℕ → ℕ → ℕ
stored_id upper lower level = (upper * 4294967296 + lower) * 256 + level

-- the places and the level that stand for a cell: its id has a byte for each place
pub record IsStored (upper lower level : ℕ) : Type 0 where
  pub code : IsCode 8 (path_of 8 (stored_id upper lower level))
  pub back : id_of 8 (path_of 8 (stored_id upper lower level)) ≡ stored_id upper lower level
  pub high : id_of 8 (path_of 8 (stored_id upper lower level)) / 1099511627776 ≡ upper
  pub middle : id_of 8 (path_of 8 (stored_id upper lower level)) / 256 % 4294967296 ≡ lower
  pub low : id_of 8 (path_of 8 (stored_id upper lower level)) % 256 ≡ level

-- the last path below a cell
abbrev pub filled_path : ℕ → Cell → Cell
filled_path zero ds = ds
filled_path (suc l) [] = 255 ∷ filled_path l []
filled_path (suc l) (d ∷ ds) = d ∷ filled_path l ds

abbrev pub last_path : ℕ → Cell → Cell
last_path n [] = []
last_path n (d ∷ ds) = filled_path n (d ∷ ds)

-- ---- grids in use
-- each side is at most 16
abbrev pub AreSides : List ℕ → Type 0
AreSides [] = Unit {0}
AreSides (k ∷ ks) = (k ≤ 4) × AreSides ks

-- the eight levels of an automatic grid: the first is split into 16 columns and rows, each further one into 4
abbrev pub auto_sides : List ℕ
auto_sides = 4 ∷ 2 ∷ 2 ∷ 2 ∷ 2 ∷ 2 ∷ 2 ∷ 2 ∷ []

-- four levels of any sides, or the eight of an automatic grid
abbrev pub AreLevels : List ℕ → Type 0
AreLevels ks = (length ks ≡ 4) ⊎ (ks ≡ auto_sides)

-- four levels or the automatic eight, within the limits of coordinates, and 1 to 8192 cells per object
pub record IsGrid (g : Grid) : Type 0 where
  pub wide : 1 ≤ g.width
  pub high : 1 ≤ g.height
  pub left : IsTrue (coord_ok g.west)
  pub right : IsTrue (coord_ok (g.west +ℤ pos g.width))
  pub bottom : IsTrue (coord_ok g.south)
  pub top : IsTrue (coord_ok (g.south +ℤ pos g.height))
  pub levels : AreLevels g.sides
  pub sides : AreSides g.sides
  pub some : 1 ≤ g.cells
  pub most : g.cells ≤ 8192
