use Rattle.std.proofs.Common.{◌≡◌, ap, ◌∙◌}
use Rattle.sg_shape.specs.Grown.{as_shape}
use Rattle.sg_celltest.proofs.Closed.{closed_piece, closed_is, ends, made}
use Rattle.sg_celltest.proofs.Once.{missed_inside}
use Rattle.sg_celltest.proofs.pieces.missed_closed.Goals as goal

pub as_shape-requires : goal.as_shape-requires
as_shape-requires g c = closed_piece c.args.cell.now c.piece.result c.across.result c.up.result c.requires.sides c.piece.ensures c.across.ensures c.up.ensures

pub returns-clause-inside : goal.returns-clause-inside
returns-clause-inside g c =
    missed_inside c.args.shape.now c.in_ok-solid.solid c.args.cell.now c.in_ok-matrix.matrix c.requires.sides
    (c.in_ok-solid.ensures.same ∙ ap as_shape (made c.args.cell.now c.piece.result c.across.result c.up.result c.piece.ensures c.across.ensures c.up.ensures)) c.in_ok-matrix.ensures

pub returns-clause-anywhere : goal.returns-clause-anywhere
returns-clause-anywhere g c =
    closed_is c.args.shape.now c.in_ok-solid.solid c.args.cell.now c.in_ok-matrix.matrix c.leaves_second.result c.requires.sides
    (c.in_ok-solid.ensures.same ∙ ap as_shape (made c.args.cell.now c.piece.result c.across.result c.up.result c.piece.ensures c.across.ensures c.up.ensures)) c.in_ok-matrix.ensures c.leaves_second.ensures
