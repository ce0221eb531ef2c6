use Rattle.std.proofs.Common.{◌≡◌, ◌∷◌, ◌++◌, [], List, pos}
use Rattle.sg_plain.specs.Transactions.{TransactionPlan}
use Rattle.sg_workload.specs.Workload.{transaction_of}
use Rattle.sg_workload.proofs.Draws.{Made}
use Rattle.sg_workload.proofs.scripts.add_session.Given as goal

-- the session has the transactions with lower numbers
abbrev pub invariant-loop-place : goal.invariant-loop-place
invariant-loop-place l =
    (own : List TransactionPlan)
    × Made TransactionPlan (transaction_of l.rows l.number) own l.place l.fn.generator.state l.generator.state
    × (l.script ≡ record l.fn.script { sessions = l.fn.script.sessions ++ record { session = l.number; priority = pos 0; transactions = own } ∷ [] })
