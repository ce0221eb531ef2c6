-- Transactions and scripts as plain data.
use Rattle.std.specs.Prelude.{ℕ, List}
use Rattle.sg_plain.specs.declared.statements.Statement.{Statement}
use Rattle.sg_plain.specs.declared.transactions.End.{End}

-- the statements of a transaction, in order, and how it ends
pub record TransactionPlan : Type 0 where
  pub statements : List Statement
  pub end : End

-- a session's number, and its transactions in order
pub record SessionPlan : Type 0 where
  pub number : ℕ
  pub transactions : List TransactionPlan
