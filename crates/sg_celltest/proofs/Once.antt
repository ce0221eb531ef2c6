-- What the one matrix of a cell's polygon tells of the points within its sides.
use Rattle.std.proofs.Common.{◌≡◌, refl, true}
use Rattle.sg_shape.specs.declared.cells.CellBox.{CellBox}
use Rattle.sg_shape.specs.declared.matrices.Matrix.{Matrix}
use Rattle.sg_shape.specs.declared.shapes.Shape.{Shape}
use Rattle.sg_shape.specs.Matrix.{IsMatrix}
use Rattle.sg_shape.specs.Boxes.{in_box, IsCellBox}
use Rattle.sg_shape.specs.Grown.{as_shape}
use Rattle.sg_celltest.specs.Pieces.{Misses}
use Rattle.sg_celltest.proofs.Closed.{ends, ends_piece}
use Rattle.sg_celltest.proofs.Found.{found_is}
use Rattle.sg_celltest.proofs.Thirds.{columns, rows}

pub missed_inside : (s solid : Shape) (c : CellBox) (m : Matrix) → IsCellBox c → solid ≡ as_shape (ends c) → IsMatrix m solid s → m.io ≡ true → Misses s (in_box c)
missed_inside s solid c m i e k t = (columns s c i).first ((rows s c c.xlow c.xhigh i).first ((found_is s solid (ends c) m m.io (ends_piece c i) e k refl).0 t))
