-- What a call under the lock that works on a statement does, by its answer.
use Rattle.std.specs.Prelude.{◌≡◌, ℕ, false, List, [], ◌∷◌, ◌++◌}
use Rattle.sg_plain.specs.declared.statements.Statement.{Statement}
use Rattle.sg_trace.specs.Traces.{Stage, Event}
use Rattle.sg_history.specs.Histories.{own}
use Rattle.sg_history.specs.Views.{Known}
use Rattle.sg_history.specs.Staying.{local}
use Rattle.sg_db.specs.declared.going.End.{End}
use Rattle.sg_db.specs.declared.going.End.TheVariants.{Answered, Victim, NoMemory}
use Rattle.sg_db.specs.declared.going.Going.{Going}
use Rattle.sg_db.specs.declared.going.Going.TheVariants.{On, Waits, Job, Over}
use Rattle.sg_db.specs.Locks.{LockedShown}
use Rattle.sg_db.specs.Callers.{Goes, KnowsAll}
use Rattle.sg_db.specs.Executions.{IsGoing, IsExecuted, IsYielded, IsRanOut, IsStillGoing, GotAnswer, HasBegun}

-- the open statement has ended so
abbrev pub HasEnded : ℕ → Stage → List Event → List Event → End → Type 0
HasEnded s w seen more (Answered a) = GotAnswer s a w seen more
HasEnded s w seen more (Victim c) = IsYielded s c w seen more
HasEnded s w seen more NoMemory = IsRanOut s w seen more

abbrev pub HasAdvanced : ℕ → Stage → List Event → List Event → Going → Type 0
HasAdvanced s w seen more On = IsStillGoing s w seen more
HasAdvanced s w seen more Waits = IsStillGoing s w seen more
HasAdvanced s w seen more (Job job) = IsStillGoing s w seen more × (own s more ≡ [])
HasAdvanced s w seen more (Over end) = HasEnded s w seen more end

-- the whole statement has ended so
abbrev pub HasRun : ℕ → Statement → Stage → List Event → List Event → End → Type 0
HasRun s st w seen more (Answered a) = IsExecuted s st a w seen more
HasRun s st w seen more (Victim c) = IsYielded s c w seen more
HasRun s st w seen more NoMemory = IsRanOut s w seen more

-- ---- one call, or several
pub record Advanced (s : ℕ) (v w : Known) (going : Going) : Type 0 where
  pub more : List Event
  pub goes : Goes s more v w
  pub now : HasAdvanced s v.stage v.seen more going

pub record Ended (s : ℕ) (v w : Known) (end : End) : Type 0 where
  pub more : List Event
  pub goes : Goes s more v w
  pub now : HasEnded s v.stage v.seen more end

pub record HasGone (s : ℕ) (v w : Known) : Type 0 where
  pub more : List Event
  pub goes : Goes s more v w
  pub now : IsStillGoing s v.stage v.seen more

pub record Ran (s : ℕ) (st : Statement) (v w : Known) (end : End) : Type 0 where
  pub more : List Event
  pub goes : Goes s more v w
  pub now : HasRun s st v.stage v.seen more end

pub record Started (s : ℕ) (st : Statement) (v w : Known) : Type 0 where
  pub more : List Event
  pub goes : Goes s more v w
  pub now : IsGoing s st v.stage v.seen more

pub record RanOut (s : ℕ) (v w : Known) : Type 0 where
  pub more : List Event
  pub goes : Goes s more v w
  pub now : IsRanOut s v.stage v.seen more

pub record Begun (s : ℕ) (new : LockedShown) (v w : Known) : Type 0 where
  pub knows : KnowsAll s new w
  pub more : List Event
  pub goes : Goes s more v w
  pub now : HasBegun s v.stage v.seen more

pub record NotBegun (s : ℕ) (v w : Known) : Type 0 where
  pub same : w ≡ v
  pub idle : (local v.stage v.seen s).live ≡ false

-- only others did something, which left the session as it was, and then came this event
pub record Closed (s : ℕ) (e : Event) (v w : Known) : Type 0 where
  pub others : List Event
  pub none : own s others ≡ []
  pub same : local v.stage (others ++ v.seen) s ≡ local v.stage v.seen s
  pub goes : Goes s (e ∷ others) v w
