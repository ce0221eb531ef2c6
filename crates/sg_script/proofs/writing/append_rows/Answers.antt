use Rattle.std.proofs.Common.{arith}
use Rattle.sg_script.specs.declared.words.Line.TheVariants as line
use Rattle.sg_script.specs.Told.{IsToldRow}
use Rattle.sg_script.proofs.LineTexts.{grown, mapped_more, told_more}
use Rattle.sg_script.proofs.writing.append_rows.Goals as goal

pub loop-row-preserved : goal.loop-row-preserved
loop-row-preserved c = record {
  text =
      grown c.args.out.now.items c.loop-row.out.items c.append_row.new.out.items _ _ _ c.loop-row.invariant.text c.in_ok-append_row.ensures.text
      (mapped_more (λ row. line.Row row.0 row.1) c.args.rows.now c.loop-row.row-index c.row-item.result (omega arith) c.row-item.is);
  told = told_more IsToldRow c.args.rows.now c.loop-row.row-index c.row-item.result (omega arith) c.row-item.is c.loop-row.invariant.told c.in_ok-append_row.ensures.told;
}
