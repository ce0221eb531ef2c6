-- What a session asks for next to write.
use Rattle.std.specs.Prelude.{◌≡◌, ℕ, List, Option, Some, None}
use Rattle.sg_cells.specs.declared.keys.Key.{Key}
use Rattle.sg_locks.specs.Grants.{Grant}
use Rattle.sg_rows.specs.Table.{TableRow}
use Rattle.sg_cellrows.specs.CellTable.{CellRow}
use Rattle.sg_trace.specs.Legal.{Act, Takes, Puts}
use Rattle.sg_writes.specs.declared.needs.Act as needs
use Rattle.sg_writes.specs.declared.needs.Act.TheVariants as act
use Rattle.sg_writes.specs.declared.changes.Change.{Change}
use Rattle.sg_writes.specs.Changes.{IsBehindHeld}
use Rattle.sg_engine.specs.declared.shared.Work.{Work}
use Rattle.sg_engine.specs.declared.shared.Work.TheVariants as work
use Rattle.sg_engine.specs.declared.shared.Pending.{Pending}
use Rattle.sg_engine.specs.declared.shared.Running.{Running}
use Rattle.sg_engine.specs.declared.shared.Seat.{Seat}

-- the act of the trace
abbrev pub act_of : needs.Act → Act
act_of (act.Lock k m) = Takes k m
act_of (act.New k next m) = Puts k next m

-- ---- a seat inside
-- what it writes, where it has come to that
abbrev pub change_in : Work → Option Change
change_in (work.Writes change) = Some change
change_in it = None

abbrev pub change_at : Option Pending → Option Change
change_at None = None
change_at (Some p) = change_in p.work

abbrev pub change_by : Option Running → Option Change
change_by None = None
change_by (Some r) = change_at r.pending

abbrev pub change_of : Seat → Option Change
change_of x = change_by x.running

module _ (grants : List (Grant Key)) (s : ℕ) (table : List TableRow) (index : List CellRow) where
  -- only the place of the change has moved, past what is held
  pub record IsPlaced (old new : Change) : Type 0 where
    pub statement : new.statement ≡ old.statement
    pub cells : new.cells ≡ old.cells
    pub selected : new.selected ≡ old.selected
    pub behind : IsBehindHeld grants s table index new

  -- both are changes, so related
  abbrev pub OnChange : Work → Work → Type 0
  OnChange (work.Writes old) (work.Writes new) = IsPlaced old new
  OnChange old new = ⊥

  -- only the change has
  pub record IsNearer (old new : Pending) : Type 0 where
    pub statement : new.statement ≡ old.statement
    pub scan : new.scan ≡ old.scan
    pub delivered : new.delivered ≡ old.delivered
    pub change : OnChange old.work new.work
