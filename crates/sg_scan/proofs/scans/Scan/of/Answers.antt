use Rattle.std.proofs.Common.{refl}
use Rattle.sg_scan.specs.Cursors.{Cursor, start_place}
use Rattle.sg_scan.proofs.Fresh.{fresh_passed}
use Rattle.sg_scan.proofs.scans.Scan.of.Goals as goal

pub returns-clause-fresh : goal.returns-clause-fresh
returns-clause-fresh g c = λ ok grants s table index.
    let r : Cursor = record { search = c.in_ok-search.search; modes = c.modes_of.result; place = start_place } in
    fresh_passed grants s table index c.args.settings.now ok c.args.statement.now r (record { search = c.in_ok-search.ensures.search; modes = c.modes_of.ensures }) refl
