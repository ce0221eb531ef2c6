use Rattle.sg_writes.proofs.Written.{part_next}
use Rattle.sg_writes.proofs.writes.write_cells.Goals as goal

pub loop-next-preserved : goal.loop-next-preserved
loop-next-preserved c =
    part_next c.args.s c.args.row c.args.list.now c.args.cells.now.rows c.loop-next.last c.loop-next.cells.rows c.loop-next.invariant c.in-Some.next c.in-Some.ensures.next c.in_bytes.ensures.code c.requires c.write_cell.new.cells.rows c.write_cell.ensures.rows
