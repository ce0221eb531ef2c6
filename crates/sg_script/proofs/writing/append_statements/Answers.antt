use Rattle.std.proofs.Common.{arith}
use Rattle.sg_script.specs.declared.words.Line.TheVariants as line
use Rattle.sg_script.specs.Told.{IsToldStatement}
use Rattle.sg_script.proofs.LineTexts.{grown, mapped_more, told_more}
use Rattle.sg_script.proofs.writing.append_statements.Goals as goal

pub loop-statement-preserved : goal.loop-statement-preserved
loop-statement-preserved c = record {
  text =
      grown c.args.out.now.items c.loop-statement.out.items c.append_statement.new.out.items _ _ _ c.loop-statement.invariant.text c.in_ok-append_statement.ensures.text
      (mapped_more (λ s. line.Statement s) c.args.statements.now c.loop-statement.statement-index c.statement-item.result (omega arith) c.statement-item.is);
  told = told_more IsToldStatement c.args.statements.now c.loop-statement.statement-index c.statement-item.result (omega arith) c.statement-item.is c.loop-statement.invariant.told c.in_ok-append_statement.ensures.told;
}
