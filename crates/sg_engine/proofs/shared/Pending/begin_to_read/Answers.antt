use Rattle.std.proofs.Common.{refl}
use Rattle.sg_engine.proofs.shared.Pending.begin_to_read.Goals as goal

pub returns-clause-pending : goal.returns-clause-pending
returns-clause-pending g c = record {
  statement = refl;
  work = refl;
  delivered = refl;
  scan = record { scan_for = c.in_ok-scan.ensures.scan; passed = c.in_ok-scan.ensures.fresh c.requires.settings c.args.locks.now.grants c.args.s c.args.rows.now.rows c.args.cells.now.rows };
}
