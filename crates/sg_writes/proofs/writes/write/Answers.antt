use Rattle.sg_writes.proofs.Writing.{row_written}
use Rattle.sg_writes.proofs.writes.write.Goals as goal

pub returns : goal.returns
returns c = row_written c.args.s c.args.shape c.args.list.now c.args.rows.now.rows c.args.cells.now.rows c.args.row c.requires.ready c.write.new.self.rows c.write_cells.new.cells.rows c.write.ensures.rows c.write_cells.ensures
