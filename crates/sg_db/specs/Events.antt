-- Which events one step of a session appends.
use Rattle.std.specs.Prelude.{◌≡◌, ◌⊎◌, ℕ, List, [], ◌∷◌, ◌++◌, Some, None}
use Rattle.sg_plain.specs.declared.statements.Statement.{Statement}
use Rattle.sg_plain.specs.declared.statements.Answer.{Answer}
use Rattle.sg_cells.specs.declared.keys.Key.{Key}
use Rattle.sg_modes.specs.declared.modes.Mode.{Mode}
use Rattle.sg_trace.specs.Traces.{Event, Begin, Ask, Take, Put, Wait, Victim, Answered, Commit, Rollback}
use Rattle.sg_engine.specs.declared.steps.Step.{Step}
use Rattle.sg_engine.specs.declared.steps.Step.TheVariants as step
use Rattle.sg_engine.specs.Waiting.{Victims, victims_of, cycle_of}
use Rattle.sg_history.specs.Views.{Known}
use Rattle.sg_db.specs.Locks.{LockedShown, HasDone}

-- each Ask among the events is for this statement
abbrev pub AskOnly : Statement → List Event → Type 0
AskOnly st [] = Unit {0}
AskOnly st (Ask s n asked ∷ es) = (asked ≡ st) × AskOnly st es
AskOnly st (Begin s t ∷ es) = AskOnly st es
AskOnly st (Take s k m ∷ es) = AskOnly st es
AskOnly st (Put s k m ∷ es) = AskOnly st es
AskOnly st (Wait s k m b ∷ es) = AskOnly st es
AskOnly st (Victim s c ∷ es) = AskOnly st es
AskOnly st (Answered s a ∷ es) = AskOnly st es
AskOnly st (Commit s p ∷ es) = AskOnly st es
AskOnly st (Rollback s c ∷ es) = AskOnly st es

-- the session waited, and these were made victims to break the cycles
pub record AreWait (s : ℕ) (k : Key) (m : Mode) (b : List ℕ) (victims : Victims) (es : List Event) : Type 0 where
  pub events : es ≡ victims_of victims ++ Wait s k m b ∷ []

-- what a step that was answered so has appended
abbrev pub AreStep : ℕ → Step → List Event → Type 0
AreStep s (step.Took k m) es = es ≡ Take s k m ∷ []
AreStep s (step.Put k m) es = es ≡ Put s k m ∷ []
AreStep s (step.Waiting k m b) es = (es ≡ []) ⊎ ((victims : Victims) × AreWait s k m b victims es × (cycle_of s victims ≡ None))
AreStep s (step.Job job) es = es ≡ []
AreStep s step.Answered es = (a : Answer) × (es ≡ Answered s a ∷ [])
AreStep s (step.Victim cycle) es = (k : Key) × (m : Mode) × (b : List ℕ) × (victims : Victims) × AreWait s k m b victims es × (cycle_of s victims ≡ Some cycle)
AreStep s step.Idle es = es ≡ []

-- one step was made under the lock, and this is what it appended
pub record HasMadeStep (s : ℕ) (old new : LockedShown) (v w : Known) (it : Step) : Type 0 where
  pub events : List Event
  pub step : AreStep s it events
  pub done : HasDone events old new v w
