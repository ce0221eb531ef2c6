use Rattle.std.proofs.Common.{◌≡◌, ◌++◌, All, flat_map, take}
use Rattle.sg_script.specs.Canonical.{lines_text, transaction_lines}
use Rattle.sg_script.specs.Told.{IsToldTransaction}
use Rattle.sg_script.proofs.writing.append_transactions.Given as goal

abbrev pub invariant-loop-transaction : goal.invariant-loop-transaction
invariant-loop-transaction l = record {
  text : l.out.items ≡ l.fn.out.items ++ lines_text (flat_map transaction_lines (take l.transaction-index l.transactions));
  told : All IsToldTransaction (take l.transaction-index l.transactions);
}
