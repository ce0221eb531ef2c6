use Rattle.std.proofs.Common.{drop_of_length-le}
use Rattle.sg_plain.specs.Sat.{Sat}
use Rattle.sg_plain.proofs.Collects.{SoFar-above, SoFar-step, SoFar-end}
use Rattle.sg_plain.proofs.PlaceLemmas.{row_is}
use Rattle.sg_plain.proofs.scans.keys_with.Goals as goal

pub take_row-requires-clause-above : goal.take_row-requires-clause-above
take_row-requires-clause-above g c =
    let at = c.loop-row.row-index in
    SoFar-above (λ row. Sat c.args.test row c.args.shape.now) c.args.rows.now at c.row-item.result c.loop-row.keys
    c.loop-row-test.true (row_is c.args.rows.now at c.row-item.result _ c.loop-row-test.true c.row-item.is) c.loop-row.invariant

pub loop-row-preserved : goal.loop-row-preserved
loop-row-preserved g c =
    let at = c.loop-row.row-index in
    SoFar-step (λ row. Sat c.args.test row c.args.shape.now) c.args.rows.now at c.row-item.result c.loop-row.keys c.take_row.new.keys
    c.loop-row-test.true (row_is c.args.rows.now at c.row-item.result _ c.loop-row-test.true c.row-item.is) c.in_ok-take_row.ensures c.loop-row.invariant

pub returns : goal.returns
returns g c =
    SoFar-end (λ row. Sat c.args.test row c.args.shape.now) c.args.rows.now _ c.loop-row.keys
    (drop_of_length-le c.args.rows.now c.loop-row-test.false) c.requires.rows.rising c.loop-row.invariant
