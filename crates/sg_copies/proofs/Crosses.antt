-- A copy may go to another thread, and several may read it at once.
use denote.Param.Send.{IsSend, IsSync, sendable}
use Rattle.std.proofs.Crossing.{crosses}
use Rattle.sg_fronts.proofs.fronts.Front.TheSendSync as front
use Rattle.sg_copies.specs.contracts.changes.Changes as changes
use Rattle.sg_copies.specs.contracts.copies.TableCopy as copies
use Rattle.sg_copies.proofs.stored.StoredRows.TheSendSync as rows
use Rattle.sg_copies.proofs.writes.Write.TheSendSync as write

pub changes_send : IsSend changes.the_row
changes_send = search (sendable, crosses, front.the_send, write.the_send) depth 40

pub changes_sync : IsSync changes.the_row
changes_sync = search (sendable, crosses, front.the_sync, write.the_sync) depth 40

pub copy_send : IsSend copies.the_row
copy_send = search (sendable, crosses, front.the_send, rows.the_send) depth 40

pub copy_sync : IsSync copies.the_row
copy_sync = search (sendable, crosses, front.the_sync, rows.the_sync) depth 40
