use Rattle.sg_cells.proofs.Covered.{lies}
use Rattle.sg_cells.proofs.grid.Grid.block_of.Goals as goal

pub returns : goal.returns
returns c =
    let l = lies c.args.self.now c.args.cell c.level.result c.block_at.result.across c.block_at.result.column c.block_at.result.row c.level.ensures.level c.block_at.ensures.across c.block_at.ensures.column c.block_at.ensures.row in
    record { across = l.across; column = l.column; row = l.row }
