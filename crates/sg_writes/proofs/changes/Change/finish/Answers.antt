use Rattle.std.proofs.Common.{refl}
use Rattle.sg_writes.proofs.Finishing.{is_removal, removal_ready, inserts, updates, deletes, removes}
use Rattle.sg_writes.proofs.changes.Change.finish.Goals as goal

pub returns-in-Insert : goal.returns-in-Insert
returns-in-Insert c =
    inserts c.args.s c.args.rows.now.rows c.args.cells.now.rows c.in_order.ensures.rising c.in_order.ensures.sound c.insert.new.rows.rows c.insert.new.cells.rows c.args.self c.requires.sound
    c.in-Insert.key c.in-Insert.shape c.insert.result c.in-Insert.is c.insert.ensures.answer c.insert.ensures.written

pub returns-in-Update : goal.returns-in-Update
returns-in-Update c =
    updates c.args.s c.args.rows.now.rows c.args.cells.now.rows c.in_order.ensures.rising c.in_order.ensures.sound c.edit.new.rows.rows c.edit.new.cells.rows c.args.self c.requires.sound
    c.in-Update.key c.in-Update.shape c.edit.result c.in-Update.is c.edit.ensures.answer c.edit.ensures.written

pub returns-in-Delete : goal.returns-in-Delete
returns-in-Delete c =
    deletes c.args.s c.args.rows.now.rows c.args.cells.now.rows c.in_order.ensures.rising c.in_order.ensures.sound c.edit-in-Delete.new.rows.rows c.edit-in-Delete.new.cells.rows c.args.self c.requires.sound
    c.in-Delete.key c.edit-in-Delete.result c.in-Delete.is c.edit-in-Delete.ensures.answer c.edit-in-Delete.ensures.written

pub remove-requires : goal.remove-requires
remove-requires c =
    removal_ready c.args.s c.args.rows.now.rows c.args.cells.now.rows c.args.self (is_removal c.args.self.statement c.requires.writes c.in_default.not-Insert c.in_default.not-Update c.in_default.not-Delete) c.requires.alone

pub returns : goal.returns
returns c =
    removes c.args.s c.args.rows.now.rows c.args.cells.now.rows c.in_order.ensures.rising c.in_order.ensures.sound c.remove.new.rows.rows c.remove.new.cells.rows c.args.self c.requires.sound
    _ (is_removal c.args.self.statement c.requires.writes c.in_default.not-Insert c.in_default.not-Update c.in_default.not-Delete) refl c.remove.ensures
