-- What the decisions decide.
use Rattle.std.specs.Prelude.{◌≡◌, ◌↔◌, IsTrue}
use Rattle.sg_shape.specs.declared.cells.CellBox.{CellBox}
use Rattle.sg_shape.specs.declared.matrices.Matrix.{Matrix}
use Rattle.sg_shape.specs.declared.matrices.Pred.{Pred}
use Rattle.sg_shape.specs.declared.shapes.Shape.{Shape}
use Rattle.sg_shape.specs.Plane.{Point, Status}
use Rattle.sg_shape.specs.Shapes.{parts_of}
use Rattle.sg_shape.specs.Matrix.{Meets, IsMatrix, Relates}
use Rattle.sg_shape.specs.Boxes.{HasPoint, MeetsBox, CoversBox, LeavesBox}
use Rattle.sg_plane.specs.Decisions.{meets, matrix_of, related, has_points, meets_box, covers_box, leaves_box}

abbrev pub MeetsDecided : Type 0
MeetsDecided = (i j : Status) (a b : Shape) → IsTrue (meets i j a b) ↔ Meets i j a b

-- a judge's matrix is the one that is decided
abbrev pub MatrixDecided : Type 0
MatrixDecided = (m : Matrix) (a b : Shape) → IsMatrix m a b ↔ (m ≡ matrix_of a b)

abbrev pub RelatedDecided : Type 0
RelatedDecided = (pred : Pred) (a b : Shape) → IsTrue (related pred a b) ↔ Relates pred a b

abbrev pub PointsDecided : Type 0
PointsDecided = (s : Shape) → IsTrue (has_points s) ↔ (p : Point) × HasPoint (parts_of s) p

abbrev pub MeetsBoxDecided : Type 0
MeetsBoxDecided = (s : Shape) (c : CellBox) → IsTrue (meets_box s c) ↔ MeetsBox s c

abbrev pub CoversBoxDecided : Type 0
CoversBoxDecided = (s : Shape) (c : CellBox) → IsTrue (covers_box s c) ↔ CoversBox s c

abbrev pub LeavesBoxDecided : Type 0
LeavesBoxDecided = (s : Shape) (c : CellBox) → IsTrue (leaves_box s c) ↔ LeavesBox s c
