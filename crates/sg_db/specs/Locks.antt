-- The value under the lock: an engine, and the pen, whose history is the engine's trace.
use Rattle.std.specs.Prelude.{◌≡◌, ◌≢◌, ℕ, List, ◌++◌, drop, None}
use Rattle.atomic_table.specs.Seated.{TableId}
use Rattle.sg_modes.specs.Sessions.{IsSession}
use Rattle.sg_plain.specs.declared.statements.Statement.{Statement}
use Rattle.sg_trace.specs.Traces.{Event}
use Rattle.sg_trace.specs.Legal.{IsStage}
use Rattle.sg_engine.specs.Shown.{Shown, IsRunOf}
use Rattle.sg_history.specs.Views.{Known}
use Rattle.sg_history.specs.Openings.{Held}
use Rattle.sg_history.specs.Writes.{events_of, history_of, IsResting, AreOf, HasWritten}

-- what contracts see of it: the engine, and the history
pub record LockedShown : Type 0 where
  pub engine : Shown
  pub history : List Event

-- The pen is of this table and was opened as the engine was; its history is legal and settled, and leaves what the
-- engine shows: its labels are the engine's trace.
pub record IsLocked (t : TableId) (engine : Shown) (pen : Held) : Type 0 where
  pub table : pen.table ≡ t
  pub stage : pen.known.stage ≡ engine.stage
  pub rests : IsResting pen.known (history_of pen.known)
  pub run : IsRunOf (history_of pen.known) engine
  pub staged : IsStage engine.stage

-- the view is that of the session's seat, while the pen is elsewhere
pub record IsSeatOf (s : ℕ) (v : Known) : Type 0 where
  pub session : v.session ≡ s
  pub caller : IsSession s
  pub penless : v.pen ≡ None

-- Before a call under the lock ends the events that the engine's labels from this place on tell, where this was asked
-- for, may be added to the pen's history.
pub record MayTell (st : Statement) (from : ℕ) (engine : Shown) (pen v : Known) : Type 0 where
  pub stage : pen.stage ≡ engine.stage
  pub rests : IsResting pen (history_of pen)
  pub run : IsRunOf (events_of st (drop from engine.labels) ++ history_of pen) engine
  pub staged : IsStage engine.stage
  pub caller : v.session ≢ 0
  pub penless : v.pen ≡ None
  pub whose : AreOf v.session (events_of st (drop from engine.labels))

-- What one call under the lock does: these events were added to the history, and its caller has seen all of it.
pub record HasDone (es : List Event) (old new : LockedShown) (v w : Known) : Type 0 where
  pub was : IsRunOf old.history old.engine
  pub now : IsRunOf new.history new.engine
  pub opened : new.engine.stage ≡ old.engine.stage
  pub history : new.history ≡ es ++ old.history
  pub stage : v.stage ≡ old.engine.stage
  pub written : HasWritten es old.history v w
