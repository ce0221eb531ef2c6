-- What a script can tell: its numbers are within the limits of their fields, and its shapes are sound.
use Rattle.std.specs.Prelude.{ℕ, ◌≤◌, All, IfSome}
use Rattle.sg_modes.specs.Priorities.{IsPriority}
use Rattle.sg_modes.specs.Sessions.{IsSession}
use Rattle.sg_shape.specs.declared.shapes.Shape.{Shape}
use Rattle.sg_shape.specs.Sound.{IsSound}
use Rattle.sg_cells.specs.Cells.{Grid, IsGrid}
use Rattle.sg_cells.specs.declared.settings.Settings.{Settings}
use Rattle.sg_plain.specs.Keys.{IsRising}
use Rattle.sg_plain.specs.Rows.{AreRows}
use Rattle.sg_plain.specs.Sat.{IsSoundStatement}
use Rattle.sg_plain.specs.Transactions.{TransactionPlan}
use Rattle.sg_plain.specs.declared.statements.Statement.{Statement}
use Rattle.sg_plain.specs.declared.statements.Statement.TheVariants as statement
use Rattle.sg_script.specs.declared.sessions.SessionScript.{SessionScript}
use Rattle.sg_script.specs.Plans.{Plan, IsOrderOf, IsWindow, numbers_of}

abbrev pub IsKey : ℕ → Type 0
IsKey k = k ≤ 4294967295

-- a cell has 4 by 4, 8 by 8 or 16 by 16 children
abbrev pub IsSplit : ℕ → Type 0
IsSplit k = (2 ≤ k) × (k ≤ 4)

pub record IsToldGrid (g : Grid) : Type 0 where
  pub grid : IsGrid g
  pub splits : All IsSplit g.sides

pub record IsToldRow (row : ℕ × Shape) : Type 0 where
  pub key : IsKey row.0
  pub shape : IsSound row.1

-- the key that a statement names, if it names one
abbrev pub HasKey : Statement → Type 0
HasKey (statement.Insert k s) = IsKey k
HasKey (statement.Update k s) = IsKey k
HasKey (statement.Delete k) = IsKey k
HasKey (statement.Get k) = IsKey k
HasKey (statement.Select q) = Unit {0}
HasKey (statement.Filter s) = Unit {0}
HasKey (statement.DeleteWhere q) = Unit {0}
HasKey (statement.Plan q) = Unit {0}

pub record IsToldStatement (s : Statement) : Type 0 where
  pub key : HasKey s
  pub sound : IsSoundStatement s

abbrev pub IsToldTransaction : TransactionPlan → Type 0
IsToldTransaction t = All IsToldStatement t.statements

pub record IsToldSession (s : SessionScript) : Type 0 where
  pub number : IsSession s.session
  pub priority : IsPriority s.priority
  pub transactions : All IsToldTransaction s.transactions

pub record IsToldSettings (settings : Settings) : Type 0 where
  pub grid : IfSome settings.grid IsToldGrid
  pub window : IsWindow settings.window

pub record IsTold (plan : Plan) : Type 0 where
  pub settings : IsToldSettings plan.settings
  pub rows : All IsToldRow plan.rows
  pub keys : AreRows plan.rows
  pub sessions : All IsToldSession plan.sessions
  pub numbers : IsRising (numbers_of plan.sessions)
  pub turns : IsOrderOf (numbers_of plan.sessions) plan.order
