use Rattle.std.proofs.Common.{sym, subst, arith, ◌∙◌}
use Rattle.sg_plain.specs.Rows.{AreRows}
use Rattle.sg_plain.proofs.PlaceLemmas.{row_is}
use Rattle.sg_copies.proofs.StoreSteps.{put_next}
use Rattle.sg_copies.proofs.stored.StoredRows.load_two.Goals as goal

pub loop-row-preserved : goal.loop-row-preserved
loop-row-preserved c =
    let all = c.as_slice-all.result.now in
    let row = c.row-item.result in
    let rows = subst AreRows (sym c.as_slice-all.ensures.all) c.as_slice-all.ensures.rows in
    let here = row_is all c.loop-row.row-index row _ c.loop-row-test.true c.row-item.is in
    record {
      one = put_next all c.loop-row.row-index row _ c.loop-row.one.pairs c.put.new.self.pairs rows.rising c.loop-row-test.true here c.in_ok-shape.ensures c.loop-row.invariant.one c.put.ensures.rows;
      other = put_next all c.loop-row.row-index row _ c.loop-row.other.pairs c.put-in-loop-row.new.self.pairs rows.rising c.loop-row-test.true here
          (c.in_ok-again.ensures ∙ c.in_ok-shape.ensures) c.loop-row.invariant.other c.put-in-loop-row.ensures.rows;
      spare = omega (arith, c.put.ensures.spare, c.loop-row.invariant.spare);
      other_spare = omega (arith, c.put-in-loop-row.ensures.spare, c.loop-row.invariant.other_spare);
    }
