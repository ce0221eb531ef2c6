-- A script as plain data: how its table is searched, opening rows, sessions by rising number, and whose turns come
-- in which order.
use Rattle.std.specs.Prelude.{ℕ, ◌+◌, ◌≤◌, ◌==◌, if◌then◌else◌, List, [], ◌∷◌, ◌++◌, map, slice_get, All, Contains, Option, Some, None}
use Rattle.sg_cells.specs.declared.settings.Settings.{Settings}
use Rattle.sg_modes.specs.Priorities.{IsPriority}
use Rattle.sg_plain.specs.Keys.{IsRising}
use Rattle.sg_plain.specs.Rows.{Rows}
use Rattle.sg_plain.specs.Sat.{AreSound}
use Rattle.sg_plain.specs.Transactions.{TransactionPlan, SessionPlan}
use Rattle.sg_script.specs.declared.sessions.SessionScript.{SessionScript}

pub record Plan : Type 0 where
  pub settings : Settings
  pub rows : Rows
  pub sessions : List SessionScript
  pub order : List ℕ

abbrev pub numbers_of : List SessionScript → List ℕ
numbers_of sessions = map (λ s. s.session) sessions

-- the sessions without their priorities
abbrev pub sessions_of : Plan → List SessionPlan
sessions_of plan = map (λ s. record { number = s.session; transactions = s.transactions }) plan.sessions

-- with a further transaction of the last session
abbrev pub with_transaction : TransactionPlan → List SessionScript → List SessionScript
with_transaction t [] = []
with_transaction t (s ∷ []) = record s { transactions = s.transactions ++ t ∷ [] } ∷ []
with_transaction t (s ∷ u ∷ rest) = s ∷ with_transaction t (u ∷ rest)

-- the least number above all of these, which rise
abbrev pub above_all : List ℕ → ℕ
above_all [] = 0
above_all (k ∷ []) = k + 1
above_all (k ∷ l ∷ ks) = above_all (l ∷ ks)

-- ---- look-ups
-- the session of this number
abbrev pub session_at : List SessionScript → ℕ → Option SessionScript
session_at [] n = None
session_at (s ∷ rest) n = if s.session == n then Some s else session_at rest n

abbrev pub transaction_in : Option SessionScript → ℕ → Option TransactionPlan
transaction_in None place = None
transaction_in (Some s) place = slice_get s.transactions place

-- the session's transaction at this place, counted from 0
abbrev pub transaction_at : List SessionScript → ℕ → ℕ → Option TransactionPlan
transaction_at sessions n place = transaction_in (session_at sessions n) place

-- each turn is a session's of the script
abbrev pub IsOrderOf : List ℕ → List ℕ → Type 0
IsOrderOf numbers order = All (λ n. Contains numbers n) order

-- how many cells a query may have
pub record IsWindow (window : ℕ) : Type 0 where
  pub some : 1 ≤ window
  pub most : window ≤ 8192

-- its priority is one, and each statement of its transactions is sound
pub record IsSoundSession (s : SessionScript) : Type 0 where
  pub priority : IsPriority s.priority
  pub statements : All (λ t. AreSound t.statements) s.transactions

-- the window is one, the numbers of the sessions rise, the sessions are sound, and the turns are theirs
pub record IsPlan (settings : Settings) (sessions : List SessionScript) (order : List ℕ) : Type 0 where
  pub window : IsWindow settings.window
  pub rising : IsRising (numbers_of sessions)
  pub sound : All IsSoundSession sessions
  pub turns : IsOrderOf (numbers_of sessions) order
