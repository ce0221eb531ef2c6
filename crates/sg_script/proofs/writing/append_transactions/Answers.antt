use Rattle.std.proofs.Common.{arith}
use Rattle.sg_script.specs.Canonical.{transaction_lines}
use Rattle.sg_script.specs.Told.{IsToldTransaction}
use Rattle.sg_script.proofs.LineTexts.{grown, joined_more, told_more}
use Rattle.sg_script.proofs.writing.append_transactions.Goals as goal

pub loop-transaction-preserved : goal.loop-transaction-preserved
loop-transaction-preserved c = record {
  text =
      grown c.args.out.now.items c.loop-transaction.out.items c.append_transaction.new.out.items _ _ _ c.loop-transaction.invariant.text c.in_ok-append_transaction.ensures.text
      (joined_more transaction_lines c.args.transactions.now c.loop-transaction.transaction-index c.transaction-item.result (omega arith) c.transaction-item.is);
  told = told_more IsToldTransaction c.args.transactions.now c.loop-transaction.transaction-index c.transaction-item.result (omega arith) c.transaction-item.is c.loop-transaction.invariant.told c.in_ok-append_transaction.ensures.told;
}
