-- What a caller's seat knows, and what contracts see of seats, notes and fronts.
use Rattle.std.specs.Prelude.{◌≡◌, ℕ, Bool, List, [], ◌++◌}
use Rattle.atomic_table.specs.Seated.{TableId}
use Rattle.sg_trace.specs.Traces.{Stage, Event}
use Rattle.sg_trace.specs.Legal.{IsSettled}
use Rattle.sg_engine.specs.Shown.{IsRunOf}
use Rattle.sg_history.specs.Histories.{own, IsHistory}
use Rattle.sg_history.specs.Views.{Known}
use Rattle.sg_history.specs.Openings.{Held}
use Rattle.sg_history.specs.Staying.{local, IsClosed}
use Rattle.sg_db.specs.Locks.{LockedShown, IsSeatOf}

-- A seat: of which table, and how it was opened; its session; the history that it has seen, and the labels in it that
-- its own calls made.
pub record SeatShown : Type 0 where
  pub table : TableId
  pub stage : Stage
  pub session : ℕ
  pub seen : List Event
  pub mine : List Event

pub record NoteShown : Type 0 where
  pub table : TableId
  pub stage : Stage
  pub seen : List Event

pub record FrontShown : Type 0 where
  pub stage : Stage
  pub history : List Event

-- the session has a transaction, as far as this history goes
abbrev pub is_live_in : Stage → ℕ → List Event → Bool
is_live_in w s es = (local w es s).live

-- the seat's session has a transaction, as far as it has seen
abbrev pub is_live : SeatShown → Bool
is_live seat = is_live_in seat.stage seat.session seat.seen

-- What a call leaves of its seat: it is of the same table and session, has seen more, all of it legal, and has of its
-- session just the labels of its own calls, in order.
pub record HasSeen (more : List Event) (old new : SeatShown) : Type 0 where
  pub table : new.table ≡ old.table
  pub stage : new.stage ≡ old.stage
  pub session : new.session ≡ old.session
  pub seen : new.seen ≡ more ++ old.seen
  pub mine : new.mine ≡ own new.session more ++ old.mine
  pub all : own new.session new.seen ≡ new.mine
  pub legal : IsHistory new.stage new.seen

-- ---- inside
-- the view is that of a caller between steps of the table
pub record IsCaller (s : ℕ) (v : Known) : Type 0 where
  pub seat : IsSeatOf s v
  pub kept : v.kept ≡ []
  pub history : IsHistory v.stage v.seen
  pub mine : v.mine ≡ own s v.seen

-- what it is between calls: no statement is open
pub record IsSeat (s : ℕ) (flag : Bool) (v : Known) : Type 0 where
  pub caller : IsCaller s v
  pub live : flag ≡ is_live_in v.stage s v.seen
  pub closed : IsClosed (local v.stage v.seen s)

abbrev pub seat_shown : ℕ → Held → SeatShown
seat_shown s h = record { table = h.table; stage = h.known.stage; session = s; seen = h.known.seen; mine = h.known.mine }

-- more was seen on top of what had been, under the lock
pub record Goes (s : ℕ) (more : List Event) (v w : Known) : Type 0 where
  pub caller : IsCaller s w
  pub settled : IsSettled w.seen
  pub stage : w.stage ≡ v.stage
  pub seen : w.seen ≡ more ++ v.seen
  pub mine : w.mine ≡ own s more ++ v.mine

-- the caller has seen all of the history under the lock
pub record KnowsAll (s : ℕ) (lock : LockedShown) (v : Known) : Type 0 where
  pub caller : IsCaller s v
  pub seen : v.seen ≡ lock.history
  pub stage : v.stage ≡ lock.engine.stage
  pub run : IsRunOf lock.history lock.engine
