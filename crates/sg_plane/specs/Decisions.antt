-- What some point, or each point, of the plane passes, decided at finitely many of them.
use Rattle.std.specs.Prelude.{Bool, true, false, not, ◌&&◌, ◌++◌}
use Rattle.sg_shape.specs.declared.cells.CellBox.{CellBox}
use Rattle.sg_shape.specs.declared.matrices.Matrix.{Matrix}
use Rattle.sg_shape.specs.declared.matrices.Pred.{Pred}
use Rattle.sg_shape.specs.declared.shapes.Shape.{Shape}
use Rattle.sg_shape.specs.Plane.{Status, In, Bd, Out}
use Rattle.sg_shape.specs.Shapes.{parts_of, status_in}
use Rattle.sg_shape.specs.Matrix.{fits}
use Rattle.sg_shape.specs.Boxes.{in_box, has_point}
use Rattle.sg_plane.specs.Samples.{some_point}
use Rattle.sg_plane.specs.Forms.{forms, box_forms}

abbrev pub same_status : Status → Status → Bool
same_status In In = true
same_status Bd Bd = true
same_status Out Out = true
same_status _ _ = false

-- some point has the first status in a and the second in b
unfoldable pub meets : Status → Status → Shape → Shape → Bool
meets i j a b = some_point (λ p. same_status (status_in a p) i && same_status (status_in b p) j) (forms (parts_of a) ++ forms (parts_of b))

-- the matrix of two shapes, and whether they are related
abbrev pub matrix_of : Shape → Shape → Matrix
matrix_of a b = record {
  ii = meets In In a b;
  ib = meets In Bd a b;
  io = meets In Out a b;
  bi = meets Bd In a b;
  bb = meets Bd Bd a b;
  bo = meets Bd Out a b;
  oi = meets Out In a b;
  ob = meets Out Bd a b;
  oo = meets Out Out a b;
}

abbrev pub related : Pred → Shape → Shape → Bool
related pred a b = fits pred (matrix_of a b)

-- the shape has a point
unfoldable pub has_points : Shape → Bool
has_points s = some_point (has_point (parts_of s)) (forms (parts_of s))

-- some point of the shape lies in the box
unfoldable pub meets_box : Shape → CellBox → Bool
meets_box s c = some_point (λ p. has_point (parts_of s) p && in_box c p) (forms (parts_of s) ++ box_forms c)

-- each point of the box is a point of the shape
unfoldable pub covers_box : Shape → CellBox → Bool
covers_box s c = not (some_point (λ p. in_box c p && not (has_point (parts_of s) p)) (forms (parts_of s) ++ box_forms c))

-- some point of the shape lies outside the box
unfoldable pub leaves_box : Shape → CellBox → Bool
leaves_box s c = some_point (λ p. has_point (parts_of s) p && not (in_box c p)) (forms (parts_of s) ++ box_forms c)
