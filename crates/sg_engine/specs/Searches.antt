-- How far a seat's open statement has read.
use Rattle.std.specs.Prelude.{◌≡◌, ℕ, List, Option, Some, None, IfSome}
use Rattle.std.specs.Option.{option_map}
use Rattle.sg_cells.specs.declared.keys.Key.{Key}
use Rattle.sg_cells.specs.declared.settings.Settings.{Settings}
use Rattle.sg_modes.specs.declared.modes.Mode.{Mode}
use Rattle.sg_locks.specs.Grants.{Grant}
use Rattle.sg_plain.specs.declared.statements.Statement.{Statement}
use Rattle.sg_rows.specs.Table.{TableRow}
use Rattle.sg_cellrows.specs.CellTable.{CellRow}
use Rattle.sg_trace.specs.Needs.{read_needs}
use Rattle.sg_stores.specs.Agreement.{SeenAgree, seen_rows}
use Rattle.sg_stores.specs.Held.{first_unheld, lock_need}
use Rattle.sg_stores.specs.Keys.{store_keys, AreCodes}
use Rattle.sg_scan.specs.declared.scans.Scan.{Scan}
use Rattle.sg_scan.specs.Cursors.{IsScanFor, IsPassed}
use Rattle.sg_engine.specs.declared.shared.Pending.{Pending}
use Rattle.sg_engine.specs.declared.shared.Running.{Running}
use Rattle.sg_engine.specs.declared.shared.Seat.{Seat}

-- the open statement of a seat
abbrev pub pending_in : Option Running → Option Pending
pending_in None = None
pending_in (Some r) = r.pending

abbrev pub pending_of : Seat → Option Pending
pending_of x = pending_in x.running

-- both have an open statement, and these are so related; or neither has one
abbrev pub OnPending : (Pending → Pending → Type 0) → Option Pending → Option Pending → Type 0
OnPending R None None = Unit {0}
OnPending R (Some old) (Some new) = R old new
OnPending R None (Some new) = ⊥
OnPending R (Some old) None = ⊥

-- only the open statement of the transaction has changed
pub record OnlyPending (R : Pending → Pending → Type 0) (old new : Running) : Type 0 where
  pub statements : new.statements ≡ old.statements
  pub answers : new.answers ≡ old.answers
  pub cost : new.cost ≡ old.cost
  pub pending : OnPending R old.pending new.pending

module _ (c : Settings) (grants : List (Grant Key)) (s : ℕ) (table : List TableRow) (index : List CellRow) where
  -- a scan of the statement, which has passed only what is held
  pub record IsScanAt (st : Statement) (r : Scan) : Type 0 where
    pub scan_for : IsScanFor c st r
    pub passed : IsPassed grants s table index r

  -- only the scan has moved
  pub record IsSearched (old new : Pending) : Type 0 where
    pub statement : new.statement ≡ old.statement
    pub work : new.work ≡ old.work
    pub delivered : new.delivered ≡ old.delivered
    pub scan : IfSome new.scan (IsScanAt new.statement)

  -- the first of the statement's needs of reading that isn't met
  abbrev pub IsReadNeed : Statement → Option (Key × Mode) → Type 0
  IsReadNeed st need = SeenAgree c s table index → AreCodes index → option_map lock_need need ≡ first_unheld grants s (read_needs c (store_keys table index) (seen_rows s table) st)
