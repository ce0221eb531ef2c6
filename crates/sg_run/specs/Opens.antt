-- What a run is opened with.
use Rattle.std.specs.Prelude.{◌≡◌, ◌≤◌, ℕ, [], List, length, map}
use Rattle.sg_plain.specs.Transactions.{TransactionPlan}
use Rattle.sg_script.specs.declared.sessions.SessionScript.{SessionScript}
use Rattle.sg_trace.specs.Scripts.{transactions_of}
use Rattle.sg_run.specs.declared.courses.Course.{Course}

-- a session's transactions
abbrev pub transactions_at : List SessionScript → ℕ → List TransactionPlan
transactions_at sessions s = transactions_of (map (λ (x : SessionScript). record { number = x.session; transactions = x.transactions }) sessions) s

-- nothing is over yet, and there is room for as many transactions
pub record HasRoom (ts : List TransactionPlan) (c : Course) : Type 0 where
  pub over : c.over.items ≡ []
  pub numbers : c.numbers.items ≡ []
  pub over_room : length ts ≤ c.over.spare
  pub number_room : length ts ≤ c.numbers.spare
