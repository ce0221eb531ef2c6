-- A reader, a publisher and what it tells may go to other threads.
use denote.Param.Send.{IsSend, IsSync, sendable}
use Rattle.std.proofs.Crossing.{crosses, frees}
use Rattle.left_right.proofs.reader.Reader.TheSendSync as reader
use Rattle.left_right.proofs.writer.Writer.TheSendSync as writer
use Rattle.sg_fronts.proofs.fronts.Front.TheSendSync as front
use Rattle.sg_fronts.proofs.fronts.Recorder.TheSendSync as recorder
use Rattle.sg_copies.proofs.Crosses.{changes_send, changes_sync, copy_send, copy_sync}
use Rattle.sg_replica.specs.contracts.publishers.Publisher as publisher
use Rattle.sg_replica.specs.contracts.snapshots.Snapshot as snapshot
use Rattle.sg_replica.specs.contracts.told.Told as told

pub told_send : IsSend told.the_row
told_send = search (sendable, crosses, front.the_send) depth 40

pub told_sync : IsSync told.the_row
told_sync = search (sendable, crosses, front.the_sync) depth 40

pub snapshot_send : IsSend snapshot.the_row
snapshot_send = search (sendable, crosses, frees, front.the_send, reader.the_send, copy_sync) depth 40

pub publisher_send : IsSend publisher.the_row
publisher_send = search (sendable, crosses, frees, recorder.the_send, writer.the_send, changes_send, copy_send, copy_sync) depth 40
