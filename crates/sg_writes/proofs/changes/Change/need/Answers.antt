use Rattle.sg_writes.proofs.Firsts.{update_act}
use Rattle.sg_writes.proofs.changes.Change.need.Goals as goal

pub returns-in-Update-clause-act : goal.returns-in-Update-clause-act
returns-in-Update-clause-act c =
    update_act c.args.locks.now.grants c.args.s c.args.rows.now.rows c.args.cells.now.rows c.args.self.now c.need_of_edit.result c.in-Update.row c.in-Update.field-1 c.in-Update.is c.need_of_edit.ensures.act
