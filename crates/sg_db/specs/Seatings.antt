-- How a table that callers share is opened, and its seats.
use Rattle.std.specs.Prelude.{◌≡◌, ◌≤◌, ℕ, zero, suc, List, [], ◌∷◌}
use Rattle.atomic_table.specs.Seated.{TableId}
use Rattle.sg_trace.specs.Traces.{Stage}
use Rattle.sg_engine.specs.Shown.{Shown}
use Rattle.sg_history.specs.Openings.{Held}
use Rattle.sg_db.specs.Locks.{IsLocked}
use Rattle.sg_db.specs.Callers.{SeatShown}

-- the seats that are left: so many were given, and the next is of the session behind them
pub record SeatsShown : Type 0 where
  pub table : TableId
  pub stage : Stage
  pub given : ℕ
  pub left : ℕ

-- a table that was opened for so many callers
pub record OpenedShown : Type 0 where
  pub table : TableId
  pub stage : Stage
  pub callers : ℕ

-- the seat of a session whose caller has seen and done nothing
abbrev pub fresh_seat : TableId → Stage → ℕ → SeatShown
fresh_seat t w s = record { table = t; stage = w; session = s; seen = []; mine = [] }

-- of so many sessions behind this one
abbrev pub fresh_seats : TableId → Stage → ℕ → ℕ → List SeatShown
fresh_seats t w n zero = []
fresh_seats t w n (suc m) = fresh_seat t w (suc n) ∷ fresh_seats t w (suc n) m

-- this seat was the next one
pub record IsNext (old new : SeatsShown) (seat : SeatShown) : Type 0 where
  pub fresh : seat ≡ fresh_seat old.table old.stage (suc old.given)
  pub later : new ≡ record { table = old.table; stage = old.stage; given = suc old.given; left = new.left }
  pub fewer : old.left ≡ suc new.left

-- all seats of a table that was just opened
abbrev pub seats_of : OpenedShown → SeatsShown
seats_of o = record { table = o.table; stage = o.stage; given = 0; left = o.callers }

-- ---- inside
-- the parts belong together, and there are 1 to 64 workers
pub record IsOpened (t : TableId) (engine : Shown) (pen : Held) (seats : SeatsShown) (workers : ℕ) : Type 0 where
  pub locked : IsLocked t engine pen
  pub all : seats ≡ record { table = t; stage = engine.stage; given = 0; left = seats.left }
  pub least : 1 ≤ workers
  pub most : workers ≤ 64
