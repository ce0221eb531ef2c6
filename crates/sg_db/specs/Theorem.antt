-- What each call of a shared table promises of its seat.
use Rattle.std.specs.Prelude.{◌≡◌, ℕ, List, [], ◌∷◌}
use Rattle.sg_plain.specs.declared.statements.Statement.{Statement}
use Rattle.sg_plain.specs.declared.statements.Answer.{Answer}
use Rattle.sg_trace.specs.declared.labels.Cause.TheVariants.{Asked}
use Rattle.sg_trace.specs.Traces.{Event, Commit, Rollback, state}
use Rattle.sg_trace.specs.Legal.{IsSettled, journal, entry_of}
use Rattle.sg_trace.specs.Replies.{SerialIn}
use Rattle.sg_history.specs.Histories.{Begins, own}
use Rattle.sg_history.specs.Staying.{local, made}
use Rattle.sg_db.specs.Callers.{SeatShown, NoteShown, FrontShown, HasSeen}
use Rattle.sg_db.specs.Executions.{IsOver, IsExecuted, IsYielded, IsRanOut}

-- the front of a seat is what it has seen
abbrev pub front_of : SeatShown → FrontShown
front_of seat = record { stage = seat.stage; history = seat.seen }

abbrev pub note_of : SeatShown → NoteShown
note_of seat = record { table = seat.table; stage = seat.stage; seen = seat.seen }

-- ---- execute
-- the statement was executed with this answer, and nothing else was done for the seat
pub record HasExecuted (st : Statement) (a : Answer) (old new : SeatShown) : Type 0 where
  pub more : List Event
  pub seen : HasSeen more old new
  pub execution : IsExecuted old.session st a old.stage old.seen more
  pub settled : IsSettled new.seen

-- it was made a victim with this cycle, which the front shows
pub record HasYielded (c : List ℕ) (shown : FrontShown) (old new : SeatShown) : Type 0 where
  pub more : List Event
  pub seen : HasSeen more old new
  pub yielded : IsYielded old.session c old.stage old.seen more
  pub front : shown ≡ front_of new
  pub settled : IsSettled shown.history

-- there was no memory
pub record HasRunOut (old new : SeatShown) : Type 0 where
  pub more : List Event
  pub seen : HasSeen more old new
  pub out : IsRanOut old.session old.stage old.seen more
  pub settled : IsSettled new.seen

-- ---- look, learn
-- only what others did was added, and it left the session as it was
pub record HasLooked (old new : SeatShown) (shown : FrontShown) : Type 0 where
  pub more : List Event
  pub seen : HasSeen more old new
  pub none : own old.session more ≡ []
  pub mine : new.mine ≡ old.mine
  pub front : shown ≡ front_of new

pub record HasLearnt (told : NoteShown) (old new : SeatShown) (shown : FrontShown) : Type 0 where
  pub looked : HasLooked old new shown
  pub note : Begins told.seen new.seen

-- ---- commit, rollback
-- The front ends with the commit of the seat's transaction, whose statements and answers are those of the seat's calls
-- since its Begin; and the journal of the front is serial.
pub record HasCommitted (old new : SeatShown) (shown : FrontShown) : Type 0 where
  pub more : List Event
  pub seen : HasSeen more old new
  pub place : ℕ
  pub before : List Event
  pub last : shown.history ≡ Commit old.session place ∷ before
  pub front : shown ≡ front_of new
  pub own : own old.session more ≡ Commit old.session place ∷ []
  pub entry : entry_of old.session (local shown.stage before old.session) ≡ entry_of old.session (made old.mine)
  pub serial : SerialIn shown.stage.settings shown.stage.opening (journal shown.stage shown.history) (state shown.stage shown.history).rows
  pub settled : IsSettled shown.history
  pub over : IsOver (local new.stage new.seen new.session)

pub record HasRolledBack (old new : SeatShown) (shown : FrontShown) : Type 0 where
  pub more : List Event
  pub seen : HasSeen more old new
  pub before : List Event
  pub last : shown.history ≡ Rollback old.session Asked ∷ before
  pub front : shown ≡ front_of new
  pub own : own old.session more ≡ Rollback old.session Asked ∷ []
  pub settled : IsSettled shown.history
  pub over : IsOver (local new.stage new.seen new.session)
