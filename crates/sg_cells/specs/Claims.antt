-- The laws of cells, of shapes' cells and of ranges, for ids of n levels where n is at hand and of eight else.
use Rattle.std.specs.Prelude.{◌≡◌, ◌↔◌, ℕ, suc, ◌<◌, ◌≤◌, max, true, false, ◌&&◌, ltb, leb, List, [], length}
use Rattle.sg_shape.specs.declared.shapes.Shape.{Shape}
use Rattle.sg_shape.specs.Plane.{Point, Parts}
use Rattle.sg_shape.specs.Shapes.{parts_of}
use Rattle.sg_shape.specs.Boxes.{in_box}
use Rattle.sg_shape.specs.Sound.{IsSound}
use Rattle.sg_shape.specs.Grown.{IsGrown}
use Rattle.sg_cells.specs.Cells.{Grid, Cell, IsGrid, IsCode, whole, cell_holds, contains, less, id_of, last_of}
use Rattle.sg_cells.specs.Grids.{HasNoBox}
use Rattle.sg_cells.specs.declared.marks.Mark.TheVariants.{Part}
use Rattle.sg_cells.specs.Tess.{Entry, Look, Sees, look_at, kids, tess}
use Rattle.sg_cells.specs.Queries.{grown}
use Rattle.sg_cells.specs.Ranges.{ranges, in_pairs, related_any, is_candidate, is_sure}
use Rattle.sg_cells.specs.Laws.{ind, hits, children_of, level, Has, IsDeep, AllCodes, Spread, inner, StaysForRoom, Steps, Stands, Common}

-- ---- cells
-- of the cells of a level one holds each point of the whole box, and none holds another point
abbrev pub LevelsSplitTheBox : Type 0
LevelsSplitTheBox = (g : Grid) (k : ℕ) (p : Point) → hits g p (level g (suc k)) ≡ ind (in_box (whole g) p)

-- of a cell's children one holds each of its points, and none holds another point
abbrev pub ChildrenSplitTheirCell : Type 0
ChildrenSplitTheirCell = (g : Grid) (c : Cell) (p : Point) → IsDeep c → hits g p (children_of g c) ≡ ind (cell_holds g c p)

abbrev pub EmptyCellsHoldNothing : Type 0
EmptyCellsHoldNothing = (g : Grid) (c : Cell) (p : Point) → IsGrid g → IsDeep c → HasNoBox g c → cell_holds g c p ≡ false

abbrev pub DescendantsAreAnInterval : Type 0
DescendantsAreAnInterval =
    (n : ℕ) (c q : Cell) → n < 256 → IsCode n c → IsCode n q → contains c q ≡ (leb (id_of n c) (id_of n q) && leb (id_of n q) (last_of n c))

abbrev pub IdsAreInOrder : Type 0
IdsAreInOrder = (n : ℕ) (c q : Cell) → n < 256 → IsCode n c → IsCode n q → less c q ≡ ltb (id_of n c) (id_of n q)

-- ---- the cells of a shape
abbrev pub LooksAreRight : Type 0
LooksAreRight = (s : Shape) → Sees (parts_of s) (look_at s)

abbrev pub CellsStandForShapes : Type 0
CellsStandForShapes = (g : Grid) (k : Parts) (j : Look) (limit : ℕ) → IsGrid g → Sees k j → Stands 8 g k (tess g j limit)

abbrev pub LooksAgree : Type 0
LooksAgree = (g : Grid) (k : Parts) (i j : Look) (limit : ℕ) → Sees k i → Sees k j → tess g i limit ≡ tess g j limit

-- but for cell 0 they are no more than the limit, or than the cells of level 1 that the shape meets
abbrev pub CountsAreWithinTheLimit : Type 0
CountsAreWithinTheLimit = (g : Grid) (j : Look) (limit : ℕ) → length (inner (tess g j limit)) ≤ max limit (length (kids g j []))

-- a cell above the last level that isn't covered stays only for want of room
abbrev pub CellsStayForWantOfRoom : Type 0
CellsStayForWantOfRoom = (g : Grid) (j : Look) (limit : ℕ) (e : Entry) → Has (tess g j limit) e → IsDeep e.0 → e.1 ≡ Part → length e.0 < length g.sides → StaysForRoom g j limit e

-- ---- ranges
abbrev pub RangesAreRelated : Type 0
RangesAreRelated = (n : ℕ) (c : Cell) (qs : List Cell) → n < 256 → IsCode n c → AllCodes n qs → in_pairs (ranges n qs) (id_of n c) ≡ related_any c qs

-- the ranges of cells that rise and lie apart do so too
abbrev pub RangesRise : Type 0
RangesRise = (n hi : ℕ) (qs : List Cell) → n < 256 → AllCodes n qs → Spread n 0 hi qs → Steps 0 (ranges n qs)

abbrev pub CommonPointsMakeCandidates : Type 0
CommonPointsMakeCandidates =
    (g : Grid) (a b : Parts) (rs qs : List Entry) → IsGrid g → Stands 8 g a rs → Stands 8 g b qs → Common a b → is_candidate 8 rs qs ≡ true

abbrev pub SureOnesShareAPoint : Type 0
SureOnesShareAPoint = (g : Grid) (a b : Parts) (rs qs : List Entry) → Stands 8 g a rs → Stands 8 g b qs → is_sure rs qs ≡ true → Common a b

-- ---- queries
-- of the shapes that a sound shape grows to there is one, which `grown` gives
abbrev pub GrownIs : Type 0
GrownIs = (s g : Shape) (d : ℕ) → IsSound s → IsGrown s d g ↔ (g ≡ grown d s)
