-- What a session does next, whatever run led to what is shown.
use Rattle.std.specs.Prelude.{◌≡◌, ℕ, ◌+◌, ◌≤◌, cond, List, [], Some, None}
use Rattle.std.specs.Ordering.{nat_cmp}
use Rattle.std.specs.BTreeMap.{insert_entry}
use Rattle.std.specs.Option.{option_map}
use Rattle.sg_shape.specs.declared.shapes.Shape.{Shape}
use Rattle.sg_cells.specs.declared.keys.Key.{Key}
use Rattle.sg_cells.specs.declared.keys.Key.TheVariants.{Row, RowEnd, Cell, CellEnd}
use Rattle.sg_cells.specs.declared.marks.Mark.{Mark}
use Rattle.sg_versions.specs.Versions.{Versioned, fresh}
use Rattle.sg_rows.specs.Table as rows
use Rattle.sg_cellrows.specs.CellTable.{CellKey, CellRow, cell_key_cmp, version_at}
use Rattle.sg_modes.specs.declared.modes.Mode.{Mode}
use Rattle.sg_plain.specs.declared.statements.Statement.{Statement}
use Rattle.sg_trace.specs.Keys.{is_write}
use Rattle.sg_trace.specs.Traces.{Event, state}
use Rattle.sg_trace.specs.Legal.{Act, IsAct, IsOpen, conflict, waits}
use Rattle.sg_laws.specs.Reading.{HasRead}
use Rattle.sg_engine.specs.declared.shared.Pending.{Pending}
use Rattle.sg_engine.specs.declared.shared.Running.{Running}
use Rattle.sg_engine.specs.declared.shared.Seat.{Seat}
use Rattle.sg_engine.specs.Shown.{Shown, IsRunOf}

-- the session's open statement asks for this act next
abbrev pub IsNextAct : Shown → ℕ → Act → Type 0
IsNextAct v s act = (es : List Event) → IsRunOf es v → (st : Statement) × IsOpen v.stage es s st × IsAct v.stage (state v.stage es) s st act

-- nobody keeps the session from having the key in the mode
abbrev pub IsFree : Shown → ℕ → Key → Mode → Type 0
IsFree v s k m = (es : List Event) → IsRunOf es v → conflict (state v.stage es).of s k m ≡ []

-- it waits for nobody
abbrev pub WaitsForNone : Shown → ℕ → Type 0
WaitsForNone v s = (es : List Event) → IsRunOf es v → waits es s ≡ []

-- the needs of reading of its open statement are met
abbrev pub HasReadAll : Shown → ℕ → Type 0
HasReadAll v s = (es : List Event) → IsRunOf es v → (st : Statement) → ((state v.stage es).of s).open_one ≡ Some st → HasRead v.stage es s st

-- ---- a seat inside
-- with one key more, which counts where it is held to be written
abbrev pub cost_with : Mode → ℕ → ℕ
cost_with m n = n + cond (is_write m) 1 0

abbrev pub with_key : Mode → Running → Running
with_key m r = record { statements = r.statements; answers = r.answers; pending = r.pending; cost = cost_with m r.cost }

abbrev pub counted : Mode → Seat → Seat
counted m x = record { begun = x.begun; wish = x.wish; running = option_map (with_key m) x.running }

-- the same of a new key, after which it reads no more
abbrev pub done_reading : Pending → Pending
done_reading p = record { statement = p.statement; scan = None; work = p.work; delivered = p.delivered }

abbrev pub with_new : Mode → Running → Running
with_new m r = record { statements = r.statements; answers = r.answers; pending = option_map done_reading r.pending; cost = cost_with m r.cost }

abbrev pub writing : Mode → Seat → Seat
writing m x = record { begun = x.begun; wish = x.wish; running = option_map (with_new m) x.running }

-- ---- the stores inside
-- the key of a row or of a cell isn't stored, and there is room for it
abbrev pub IsNew : Versioned ℕ Shape → Versioned CellKey Mark → Key → Type 0
IsNew table index (Row k) = (rows.version_at table.rows k ≡ None) × (1 ≤ table.spare)
IsNew table index (Cell c k) = (version_at index.rows (c, k) ≡ None) × (1 ≤ index.spare)
IsNew table index RowEnd = ⊥
IsNew table index CellEnd = ⊥

-- the session has put it, and nothing else has changed
abbrev pub HasNew : ℕ → Key → List rows.TableRow → List CellRow → List rows.TableRow → List CellRow → Type 0
HasNew s (Row k) table index table' index' = (table' ≡ insert_entry nat_cmp table k (fresh s)) × (index' ≡ index)
HasNew s (Cell c k) table index table' index' = (table' ≡ table) × (index' ≡ insert_entry cell_key_cmp index (c, k) (fresh s))
HasNew s RowEnd table index table' index' = ⊥
HasNew s CellEnd table index table' index' = ⊥
